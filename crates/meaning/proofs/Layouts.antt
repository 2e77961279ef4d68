-- What a layout tells of a message, by cases on the form: all that is known of the form above this file.
use mathlib.Core.Path.{◌≡◌, refl, sym, ap, ◌∙◌}
use mathlib.Core.Bool.{true}
use mathlib.Core.List.{List, [], ◌∷◌, ◌++◌, append_assoc}
use Prim.Native.Nat.{ℕ, ◌+◌, ◌*◌, ◌%◌, ◌≤◌, ◌<◌}
use native.Mathlib.Nat.{zero-add}
use native.Mathlib.Omega.{arith}
use lib.ListN.{length, get_or, take, drop, length-append, length-drop, drop_of_length-le, get_or-append}
use lib.Seq.{get_or-take, get_or-append-add, take_at, drop_at, ext_get_or, length-take-le, get_or-drop}
use lib.Dec.{leb, eqb}
use borrow.Author.Tests.{leb-true, le-leb, eqb-true, eq-eqb}
use Rattle.meaning.specs.Bytes.{Part, part_of, number, num, words}
use Rattle.meaning.specs.Names.{most_bytes}
use Rattle.meaning.specs.Answer.{accepted}
use Rattle.meaning.specs.Layout.{Form, plain, embedded, Layout, report_layout, identifier, is_identified, start_of, end_of, embedded_ok, part_in, length_ok, located, user_data, Embedding, no_embedding, embedding_of, embedded_header, laid_out, laid_out_length, lengthened}
use Rattle.meaning.proofs.Tests.{and_true, unless_accepted}
use Rattle.meaning.proofs.Numbers.{length-words, number-words, number_skip, number_in, Run}
use Rattle.meaning.proofs.Stores.{length_store, store_same, num_store, store_as, store_both, take-store, drop-store}
use Rattle.meaning.proofs.Structures.{num_same}

-- A MESSAGE THAT IS LOCATED, as a record of facts: its part has room for a header and lies in it
pub record Sized (l : Layout) (buf : List ℕ) (len : ℕ) : Type 0 where
  pub there : len ≤ length buf
  pub most : len ≤ most_bytes
  pub least : start_of l.form + 36 ≤ (part_in l buf len).end
  pub within : (part_in l buf len).end ≤ len
  pub sound : embedded_ok l.form (part_of buf len) ≡ true

-- the facts of a sound embedded header
record Header (m : Part) : Type 0 where
  pub identified : is_identified m.bytes ≡ true
  pub version : eqb (num m 4) 1 ≡ true
  pub least : 68 ≤ num m 8
  pub most : num m 8 ≤ m.end
  pub four : num m 8 % 4 ≡ 0

header : (m : Part) → embedded_ok embedded m ≡ true → Header m
unfolding embedded_ok
header m e =
    let a = and_true (is_identified m.bytes) _ e in
    let b = and_true (eqb (num m 4) 1) _ a.1 in
    let c = and_true (leb 68 (num m 8)) _ b.1 in
    let d = and_true (leb (num m 8) m.end) _ c.1 in
    record { identified = a.0; version = b.0; least = leb-true _ _ c.0; most = leb-true _ _ d.0; four = eqb-true _ 0 d.1 }

header_ok : (m : Part) → Header m → embedded_ok embedded m ≡ true
unfolding embedded_ok
header_ok m h =
    rw (h.identified, h.version, le-leb 68 (num m 8) h.least, le-leb (num m 8) m.end h.most, eq-eqb (num m 8 % 4) 0 h.four) refl

-- only its four bytes are looked at
identified_same : (b b' : List ℕ) → ((i : ℕ) → i < 4 → get_or b i 0 ≡ get_or b' i 0) → is_identified b ≡ is_identified b'
unfolding is_identified
identified_same b b' h = rw (h 0 (omega arith), h 1 (omega arith), h 2 (omega arith), h 3 (omega arith)) refl

pub plain_ok : (m : Part) → embedded_ok plain m ≡ true
unfolding embedded_ok
plain_ok m = refl

part_inside : (f : Form) (m : Part) → embedded_ok f m ≡ true → start_of f + 36 ≤ m.end → (start_of f + 36 ≤ end_of f m) × (end_of f m ≤ m.end)
part_inside plain m e h = (h, omega arith)
part_inside embedded m e h = let k = header m e in (k.least, k.most)

pub sized : (l : Layout) (buf : List ℕ) (len : ℕ) (m : Part) → located l buf len ≡ accepted m → (part_in l buf len ≡ m) × Sized l buf len
unfolding located length_ok
sized l buf len m e =
    let a = unless_accepted (length_ok l buf len) 1 0 _ m e in
    let b = unless_accepted (embedded_ok l.form (part_of buf len)) 18 0 _ m a.1 in
    let c = and_true (leb len (length buf)) _ a.0 in
    let d = and_true (leb len most_bytes) _ c.1 in
    let i = part_inside l.form (part_of buf len) b.0 (leb-true _ _ d.1) in (
      cc b.1,
      record { there = leb-true _ _ c.0; most = leb-true _ _ d.0; least = i.0; within = i.1; sound = b.0 },
    )

-- what stands from a part's end on, with bytes g before the user data
pub behind_part : (l : Layout) (buf g : List ℕ) (len : ℕ) → Sized l buf len
    → (part_in l buf len).end + length (g ++ user_data (part_in l buf len) buf len) ≡ len + length g
behind_part l buf g len s =
    let m : Part = part_in l buf len in
    omega (arith, length-append g (drop m.end (take len buf)), length-drop m.end (take len buf), length-take-le len buf s.there, s.within)

-- a part that was located lies in the message, and has room for a header
pub record Inside (m : Part) (buf : List ℕ) (len : ℕ) : Type 0 where
  pub there : len ≤ length buf
  pub most : len ≤ most_bytes
  pub room : m.start + 36 ≤ m.end
  pub within : m.end ≤ len

pub inside : (l : Layout) (buf : List ℕ) (len : ℕ) (m : Part) → located l buf len ≡ accepted m → Inside m buf len
inside l buf len m e =
    let s = sized l buf len m e in
    let z : Sized l buf len = s.1 in
    rw (← s.0) (record { there = z.there; most = z.most; room = z.least; within = z.within })

pub plain_sized : (l : Layout) (buf : List ℕ) (len : ℕ) → len ≤ length buf → len ≤ most_bytes → 36 ≤ len → Sized (report_layout l) buf len
plain_sized l buf len h k n = record { there = h; most = k; least = omega arith; within = omega arith; sound = plain_ok (part_of buf len) }

pub located_of_lem : (l : Layout) (buf : List ℕ) (len : ℕ) → Sized l buf len → located l buf len ≡ accepted (part_in l buf len)
unfolding located length_ok
located_of_lem l buf len s =
    let k : start_of l.form + 36 ≤ len = omega (arith, s.least, s.within) in
    rw (le-leb len (length buf) s.there, le-leb len most_bytes s.most, le-leb (start_of l.form + 36) len k, s.sound) refl

-- ANOTHER BUFFER with the same identifier, Version and StrucLength has the same part: no other byte in front of it plays a role
abbrev pub Front : Form → List ℕ → List ℕ → Type 0
Front f b b' = (i : ℕ) → i < start_of f → i < 12 → get_or b i 0 ≡ get_or b' i 0

module _ (f : Form) (buf buf' : List ℕ) (len len' : ℕ) (room : start_of f ≤ len) (room' : start_of f ≤ len') (front : Front f buf buf') where
  front_bytes : (i : ℕ) → i < start_of f → i < 12 → get_or (take len buf) i 0 ≡ get_or (take len' buf') i 0
  front_bytes i h k = get_or-take len buf i 0 (omega arith) ∙ front i h k ∙ sym (get_or-take len' buf' i 0 (omega arith))

pub same_end : (f : Form) (buf buf' : List ℕ) (len : ℕ) → start_of f ≤ len → Front f buf buf' → end_of f (part_of buf' len) ≡ end_of f (part_of buf len)
same_end plain buf buf' len h front = refl
same_end embedded buf buf' len h front =
    sym (num_same (part_of buf len) (part_of buf' len) 8 (λ i a b. front_bytes embedded buf buf' len len h h front i (omega arith) (omega arith)))

pub same_ok : (f : Form) (buf buf' : List ℕ) (len : ℕ) → start_of f ≤ len → Front f buf buf' → embedded_ok f (part_of buf' len) ≡ embedded_ok f (part_of buf len)
unfolding embedded_ok
same_ok plain buf buf' len h front = refl
same_ok embedded buf buf' len h front =
    let same = front_bytes embedded buf buf' len len h h front in
    rw (
      identified_same (take len buf) (take len buf') (λ i k. same i (omega arith) (omega arith)),
      num_same (part_of buf len) (part_of buf' len) 4 (λ i a b. same i (omega arith) (omega arith)),
      num_same (part_of buf len) (part_of buf' len) 8 (λ i a b. same i (omega arith) (omega arith)),
    ) refl

pub same_part : (l : Layout) (buf buf' : List ℕ) (len : ℕ) → Sized l buf len → len ≤ length buf' → Front l.form buf buf'
    → Sized l buf' len × ((part_in l buf' len).end ≡ (part_in l buf len).end)
same_part l buf buf' len s h front =
    let k : start_of l.form ≤ len = omega (arith, s.least, s.within) in
    let e : (part_in l buf' len).end ≡ (part_in l buf len).end = same_end l.form buf buf' len k front in (
      record {
        there = h;
        most = s.most;
        least = omega (arith, s.least);
        within = omega (arith, s.within);
        sound = same_ok l.form buf buf' len k front ∙ s.sound;
      },
      e,
    )

pub same_embedding : (f : Form) (buf buf' : List ℕ) (len len' : ℕ) → start_of f ≤ len → start_of f ≤ len' → len ≤ length buf → len' ≤ length buf'
    → ((i : ℕ) → 12 ≤ i → i < start_of f → get_or buf i 0 ≡ get_or buf' i 0) → embedding_of f (part_of buf len) ≡ embedding_of f (part_of buf' len')
unfolding embedding_of
same_embedding plain buf buf' len len' h h' n n' front = refl
same_embedding embedded buf buf' len len' h h' n n' front =
    let same : (i : ℕ) → 12 ≤ i → i < 32 → get_or (take len buf) i 0 ≡ get_or (take len' buf') i 0 = λ i a b.
    get_or-take len buf i 0 (omega arith) ∙ front i a b ∙ sym (get_or-take len' buf' i 0 (omega arith)) in
    let eight : (xs : List ℕ) → 32 ≤ length xs → length (take 8 (drop 20 xs)) ≡ 8 = λ xs k. length-take-le 8 (drop 20 xs) (omega (arith, length-drop 20 xs)) in
    rw (
      num_same (part_of buf len) (part_of buf' len') 12 (λ i a b. same i (omega arith) (omega arith)),
      num_same (part_of buf len) (part_of buf' len') 16 (λ i a b. same i (omega arith) (omega arith)),
      num_same (part_of buf len) (part_of buf' len') 28 (λ i a b. same i (omega arith) (omega arith)),
      ext_get_or 0 (take 8 (drop 20 (take len buf))) (take 8 (drop 20 (take len' buf')))
          (eight (take len buf) (omega (arith, length-take-le len buf n)) ∙ sym (eight (take len' buf') (omega (arith, length-take-le len' buf' n'))))
          (λ i k.
          let k8 : i < 8 = omega (arith, eight (take len buf) (omega (arith, length-take-le len buf n))) in
          get_or-take 8 (drop 20 (take len buf)) i 0 k8 ∙ get_or-drop 20 (take len buf) i 0 ∙ same (20 + i) (omega arith) (omega arith)
          ∙ sym (get_or-drop 20 (take len' buf') i 0) ∙ sym (get_or-take 8 (drop 20 (take len' buf')) i 0 k8)),
    ) refl

-- A LENGTHENED PART: nothing changes from its start on
module _ (m : Part) (n : ℕ) (b : List ℕ) where
  pub length_lengthened : (f : Form) → start_of f ≤ length b → length (lengthened f m n b) ≡ length b
  unfolding lengthened
  length_lengthened plain h = refl
  length_lengthened embedded h = length_store m b 8 (m.end + n) (omega arith)

  pub lengthened_same : (f : Form) → start_of f ≤ length b → (i : ℕ) → start_of f ≤ i → get_or (lengthened f m n b) i 0 ≡ get_or b i 0
  unfolding lengthened
  lengthened_same plain h i k = refl
  lengthened_same embedded h i k = store_same m b 8 (m.end + n) (omega arith) i (λ x. omega (arith, x.1))

  -- nor before the start, but for StrucLength
  pub lengthened_embedding : (f : Form) → start_of f ≤ length b → (i : ℕ) → 12 ≤ i → get_or (lengthened f m n b) i 0 ≡ get_or b i 0
  unfolding lengthened
  lengthened_embedding plain h i k = refl
  lengthened_embedding embedded h i k = store_same m b 8 (m.end + n) (omega arith) i (λ x. omega (arith, x.1))

  pub take_lengthened : (f : Form) (k : ℕ) → start_of f ≤ k → k ≤ length b → take k (lengthened f m n b) ≡ lengthened f m n (take k b)
  unfolding lengthened
  take_lengthened plain k h h' = refl
  take_lengthened embedded k h h' = take-store k m b 8 (m.end + n) (omega arith) h'

  pub drop_lengthened : (f : Form) (k : ℕ) → start_of f ≤ k → k ≤ length b → drop k (lengthened f m n b) ≡ drop k b
  unfolding lengthened
  drop_lengthened plain k h h' = refl
  drop_lengthened embedded k h h' = drop-store k m b 8 (m.end + n) (omega arith) h'

pub lengthened_both : (f : Form) (m : Part) (n : ℕ) (b b' : List ℕ) → start_of f ≤ length b → start_of f ≤ length b' → (i : ℕ) → get_or b i 0 ≡ get_or b' i 0
    → get_or (lengthened f m n b) i 0 ≡ get_or (lengthened f m n b') i 0
unfolding lengthened
lengthened_both plain m n b b' h h' i e = e
lengthened_both embedded m n b b' h h' i e = store_both m b b' 8 (m.end + n) (omega arith) (omega arith) i e

pub lengthened_as : (f : Form) (m m' : Part) (n : ℕ) (b : List ℕ) → m.end ≡ m'.end → lengthened f m n b ≡ lengthened f m' n b
unfolding lengthened
lengthened_as plain m m' n b e = refl
lengthened_as embedded m m' n b e = store_as m m' b 8 (m.end + n) (m'.end + n) (ap (λ (x : ℕ). x + n) e)

-- a message whose part has grown by so many bytes, a multiple of 4, which its embedded header says
module _ (m : Part) (buf b b' : List ℕ) (len size : ℕ) (four : size % 4 ≡ 0) (most : len + size ≤ most_bytes) where
  grown_end : (f : Form) → m.end ≡ end_of f (part_of buf len) → embedded_ok f (part_of buf len) ≡ true → start_of f ≤ len → start_of f ≤ length b
      → Front f buf b → Front f b' (lengthened f m size b)
      → (end_of f (part_of b' (len + size)) ≡ end_of f (part_of buf len) + size) × (embedded_ok f (part_of b' (len + size)) ≡ true)
  unfolding lengthened
  grown_end plain e ok h r front front' = (refl, plain_ok (part_of b' (len + size)))
  grown_end embedded e ok h r front front' =
      let M : Part = part_of buf len in
      let M' : Part = part_of b' (len + size) in
      let k = header M ok in
      let same : (i : ℕ) → i < 8 → get_or M.bytes i 0 ≡ get_or M'.bytes i 0 = λ i x.
      get_or-take len buf i 0 (omega arith) ∙ front i (omega arith) (omega arith) ∙ sym (store_same m b 8 (m.end + size) (omega arith) i (λ y. omega (arith, y.0)))
      ∙ sym (front' i (omega arith) (omega arith)) ∙ sym (get_or-take (len + size) b' i 0 (omega arith)) in
      let e8 : num M' 8 ≡ num M 8 + size =
      num_store m b 8 (m.end + size) (omega arith) M' (omega (arith, k.most)) (λ i x y. get_or-take (len + size) b' i 0 (omega arith) ∙ front' i (omega arith) (omega arith))
      ∙ ap (λ (x : ℕ). x + size) e in
      let e4 : num M 4 ≡ num M' 4 = num_same M M' 4 (λ i x y. same i (omega arith)) in (
        e8,
        header_ok M' (record {
          identified = sym (identified_same M.bytes M'.bytes (λ i x. same i (omega arith))) ∙ k.identified;
          version = ap (λ (x : ℕ). eqb x 1) (sym e4) ∙ k.version;
          least = omega (arith, k.least);
          most = omega (arith, k.most);
          four = rw e8 (omega (arith, k.four));
        }),
      )

pub grown_part : (l : Layout) (buf b b' : List ℕ) (len size : ℕ) → Sized l buf len → size % 4 ≡ 0 → len + size ≤ most_bytes → len + size ≤ length b'
    → start_of l.form ≤ length b → Front l.form buf b → Front l.form b' (lengthened l.form (part_in l buf len) size b)
    → Sized l b' (len + size) × ((part_in l b' (len + size)).end ≡ (part_in l buf len).end + size)
grown_part l buf b b' len size s four most there r front front' =
    let e = grown_end (part_in l buf len) buf b b' len size four most l.form refl s.sound (omega (arith, s.least, s.within)) r front front' in
    let n : (part_in l b' (len + size)).end ≡ (part_in l buf len).end + size = e.0 in (
      record { there = there; most = most; least = omega (arith, s.least); within = omega (arith, s.within); sound = e.1 },
      n,
    )

-- A PART LAID OUT: its embedded header
module _ (e : Embedding) (end : ℕ) (eight : length e.format ≡ 8) where
  abbrev fields : List ℕ
  fields = 1 ∷ end ∷ e.encoding ∷ e.coded_char_set_id ∷ []

  abbrev flags : List ℕ
  flags = words (e.flags ∷ [])

  pub length_header : length (embedded_header e end) ≡ 32
  unfolding embedded_header
  length_header = simp length-append (omega (arith, eight, length-words fields, length-words (e.flags ∷ [])))

  header_field : (k : ℕ) → k < 4 → get_or fields k 0 < 4294967296 → number (embedded_header e end) (4 + 4 * k) ≡ get_or fields k 0
  unfolding embedded_header
  header_field k h l =
      number_skip identifier (words fields ++ (e.format ++ flags)) (4 + 4 * k) (4 * k) refl
      ∙ number_in (words fields) (e.format ++ flags) (4 * k) (omega (arith, length-words fields)) ∙ number-words fields k h l

  header_flags : e.flags < 4294967296 → number (embedded_header e end) 28 ≡ e.flags
  unfolding embedded_header
  header_flags l =
      number_skip identifier (words fields ++ (e.format ++ flags)) 28 24 refl
      ∙ number_skip (words fields) (e.format ++ flags) 24 8 (omega (arith, length-words fields))
      ∙ number_skip e.format flags 8 0 (omega (arith, eight)) ∙ number-words (e.flags ∷ []) 0 (omega arith) l

  header_format : (rest : List ℕ) → take 8 (drop 20 (embedded_header e end ++ rest)) ≡ e.format
  unfolding embedded_header
  header_format rest =
      let front : List ℕ = identifier ++ words fields in
      let n : length front ≡ 20 = length-append identifier (words fields) ∙ omega (arith, length-words fields) in
      let split : embedded_header e end ++ rest ≡ front ++ (e.format ++ (flags ++ rest)) = simp append_assoc in
      ap (λ (x : List ℕ). take 8 (drop 20 x)) split ∙ ap (take 8) (drop_at front (e.format ++ (flags ++ rest)) 20 n)
      ∙ take_at e.format (flags ++ rest) 8 eight

  header_identified : (rest : List ℕ) → is_identified (embedded_header e end ++ rest) ≡ true
  unfolding embedded_header is_identified
  header_identified rest = refl

pub length_laid : (f : Form) (e : Embedding) (user p : List ℕ) → length e.format ≡ 8 → length (laid_out f e user p) ≡ laid_out_length f (length user) (length p)
unfolding laid_out
length_laid plain e user p eight = refl
length_laid embedded e user p eight =
    length-append (embedded_header e (32 + length p)) (p ++ user) ∙ omega (arith, length_header e (32 + length p) eight, length-append p user)

-- a part fits behind what stands in front of it
pub start_laid : (f : Form) (user size : ℕ) → start_of f + size ≤ laid_out_length f user size
start_laid plain user size = omega arith
start_laid embedded user size = omega arith

-- what Read gives of the embedding and the user data
abbrev pub embedding_read : Form → Embedding → Embedding
embedding_read plain e = no_embedding
embedding_read embedded e = e

abbrev pub user_read : Form → List ℕ → List ℕ
user_read plain user = []
user_read embedded user = user

-- the facts of a message m that is the part p laid out
pub record Laid (f : Form) (e : Embedding) (user p : List ℕ) (m : Part) : Type 0 where
  pub sound : embedded_ok f m ≡ true
  pub ends : end_of f m ≡ start_of f + length p
  pub run : Run p 0 m.bytes (start_of f) (length p)
  pub user_data_holds : drop (start_of f + length p) m.bytes ≡ user_read f user

pub record Fields (e : Embedding) : Type 0 where
  pub format : length e.format ≡ 8
  pub encoding : e.encoding < 4294967296
  pub coded_char_set_id : e.coded_char_set_id < 4294967296
  pub flags : e.flags < 4294967296

module _ (e : Embedding) (user p : List ℕ) (m : Part) (fs : Fields e) where
  pub laid : (f : Form) → m.bytes ≡ laid_out f e user p → m.end ≡ laid_out_length f (length user) (length p) → 36 ≤ length p → length p % 4 ≡ 0
      → 32 + length p < 4294967296 → Laid f e user p m
  unfolding laid_out
  laid plain b z h d l = record {
    sound = plain_ok m;
    ends = z ∙ sym (zero-add (length p));
    run = λ i k. rw b refl;
    user_data_holds = let k : length p ≤ length p = omega arith in rw (b, zero-add (length p)) (drop_of_length-le p k);
  }
  laid embedded b z h d l =
      let H : List ℕ = embedded_header e (32 + length p) in
      let n : length H ≡ 32 = length_header e (32 + length p) fs.format in
      let at : (k : ℕ) → k + 4 ≤ 32 → num m k ≡ number H k = λ k j. rw b (number_in H (p ++ user) k (omega arith)) in
      let e8 : num m 8 ≡ 32 + length p = at 8 (omega arith) ∙ header_field e (32 + length p) fs.format 1 (omega arith) l in
      let e4 : num m 4 ≡ 1 = at 4 (omega arith) ∙ header_field e (32 + length p) fs.format 0 (omega arith) (omega arith) in
      record {
        sound = header_ok m (record {
          identified = rw b (header_identified e (32 + length p) fs.format (p ++ user));
          version = ap (λ (x : ℕ). eqb x 1) e4;
          least = omega arith;
          most = omega arith;
          four = rw e8 (omega arith);
        });
        ends = e8;
        run = λ i x.
            rw b (ap (λ (y : ℕ). get_or p y 0) (zero-add i) ∙ sym (get_or-append p user 0 i x) ∙ sym (get_or-append-add H (p ++ user) i 0)
            ∙ ap (λ (y : ℕ). get_or (H ++ (p ++ user)) (y + i) 0) n);
        user_data_holds = rw b (ap (drop (32 + length p)) (sym (append_assoc H p user)) ∙ drop_at (H ++ p) user (32 + length p) (length-append H p ∙ omega arith));
      }

  pub laid_embedding : (f : Form) → m.bytes ≡ laid_out f e user p → 32 + length p < 4294967296 → embedding_of f m ≡ embedding_read f e
  unfolding laid_out embedding_of
  laid_embedding plain b l = refl
  laid_embedding embedded b l =
      let H : List ℕ = embedded_header e (32 + length p) in
      let n : length H ≡ 32 = length_header e (32 + length p) fs.format in
      let at : (k : ℕ) → k + 4 ≤ 32 → num m k ≡ number H k = λ k j. rw b (number_in H (p ++ user) k (omega arith)) in
      rw (
        at 12 (omega arith) ∙ header_field e (32 + length p) fs.format 2 (omega arith) fs.encoding,
        at 16 (omega arith) ∙ header_field e (32 + length p) fs.format 3 (omega arith) fs.coded_char_set_id,
        at 28 (omega arith) ∙ header_flags e (32 + length p) fs.format fs.flags,
        ap (λ (x : List ℕ). take 8 (drop 20 x)) b ∙ header_format e (32 + length p) fs.format (p ++ user),
      ) refl
