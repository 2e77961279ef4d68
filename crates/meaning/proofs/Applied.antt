-- What an accepted event leaves is a sound trace: the same places, one counter one higher, every other value as it was;
-- with the group appended its rows stand behind the others, and the user data behind the group.
use mathlib.Core.Path.{◌≡◌, refl, sym, ap, ◌∙◌, subst}
use mathlib.Core.Bool.{Bool, true, false}
use mathlib.Core.List.{List, ◌++◌, map}
use Prim.Native.Nat.{ℕ, ◌+◌, ◌≤◌, ◌<◌}
use native.Mathlib.Nat.{add-zero, zero-add}
use native.Mathlib.Omega.{arith}
use lib.ListN.{length, get_or, set, length-set, length-map, length-append, get_or-append}
use lib.Seq.{get_or-take, ext_get_or, get_or-set_same, get_or-set_other}
use lib.Dec.{leb, eqb}
use borrow.Author.Tests.{lt-ltb, leb-true, eqb-true, eqb-false}
use Rattle.meaning.proofs.Stores.{length_store, store_same, num_store}
use Rattle.meaning.specs.Bytes.{Part, part_of, num, bump, whole}
use Rattle.meaning.specs.Names.{MQCFT_GROUP, MQGACF_ACTIVITY, most_bytes, most_count, two_to31}
use Rattle.meaning.specs.Answer.{Result, accepted, refused}
use Rattle.meaning.specs.Structure.{Row, small}
use Rattle.meaning.specs.Walk.{Walked, walk}
use Rattle.meaning.specs.Layout.{start_of, part_in, user_data, embedding_of, lengthened}
use Rattle.meaning.specs.Message.{parameter_count, count_place}
use Rattle.meaning.specs.Trace.{Terms, Trace, value, value_place, value_at, values_at}
use Rattle.meaning.specs.Event.{ends_at, group_ok, grown}
use Rattle.meaning.specs.View.{risen}
use Rattle.meaning.proofs.Tests.{clash, and_true}
use Rattle.meaning.proofs.Structures.{Match, num_match, num_same}
use Rattle.meaning.proofs.Walks.{Walks, walks, walks_as, walks_four, walks_shift, shift}
use Rattle.meaning.proofs.Layouts.{Sized, behind_part, same_part, same_embedding, grown_part, length_lengthened, lengthened_same, lengthened_embedding}
use Rattle.meaning.proofs.Splices.{length_splice, splice_before, splice_in}
use Rattle.meaning.proofs.Sound.{SoundMessage, Sound}
use Rattle.meaning.proofs.Changed.{Changed, Lies, lies, length_places, length_values, value_of, values_kept, count_le, sound_raised, sound_appended, OneActivity}

-- a sound group, as its walk
pub record Group (g : List ℕ) : Type 0 where
  pub rows : List Row
  pub tree : Walks (whole g) 0 1 1 rows (length g)
  pub kind : num (whole g) 0 ≡ MQCFT_GROUP
  pub parameter : num (whole g) 8 ≡ MQGACF_ACTIVITY
  pub least : 16 ≤ length g
  pub most : length g ≤ 65500

group_walk : (g : List ℕ) (w : Result Walked) → walk (whole g) 0 1 1 ≡ w → ends_at (length g) w ≡ true → (rows : List Row) × Walks (whole g) 0 1 1 rows (length g)
group_walk g (accepted w) e h =
    (w.rows, rw (eqb-true w.next (length g) h) at (walks (whole g) 0 1 1 w.rows w.next e))
group_walk g (refused n p) e h = absurd (clash (cc))

pub group : (g : List ℕ) → group_ok g ≡ true → Group g
unfolding group_ok
group g e =
    let a = and_true (leb 16 (length g)) _ e in
    let b = and_true (leb (length g) 65500) _ a.1 in
    let c = and_true (eqb (num (whole g) 0) 20) _ b.1 in
    let d = and_true (eqb (num (whole g) 8) 8005) _ c.1 in
    let w = group_walk g (walk (whole g) 0 1 1) refl d.1 in
    record {
      rows = w.0;
      tree = w.1;
      kind = eqb-true _ _ c.0;
      parameter = eqb-true _ _ d.0;
      least = leb-true _ _ a.0;
      most = leb-true _ _ b.0;
    }

-- wherever its bytes are a part's last ones it is one Activity group
pub activity_at : (m : Part) (l : ℕ) (g : List ℕ) (sg : Group g) → Match (whole g) 0 m l (length g) → m.end ≡ l + length g
    → OneActivity m l (map (shift l) sg.rows)
activity_at m l g sg match ends =
    let least = sg.least in
    let at : (k : ℕ) → k + 4 ≤ length g → num m (l + k) ≡ num (whole g) k =
    λ k h. sym (num_match (whole g) m 0 l (length g) match k (l + k) k (omega arith) refl h) in
    record {
      walk = walks_as (add-zero l) refl (sym ends) (walks_shift m l sg.tree match (omega arith));
      kind = rw (add-zero l) at (at 0 (omega arith)) ∙ sg.kind;
      parameter = at 8 (omega arith) ∙ sg.parameter;
    }

-- values are determined by the one that rose
risen_is : (v v' : List ℕ) (c : ℕ) → length v ≡ 8 → length v' ≡ 8 → c < 8 → get_or v' c 0 ≡ get_or v c 0 + 1
    → ((j : ℕ) → j < 8 → (j ≡ c → ⊥) → get_or v j 0 ≡ get_or v' j 0) → v' ≡ risen v c
unfolding risen
risen_is v v' c a b h r o =
    ext_get_or 0 v' (set v c (get_or v c 0 + 1)) (b ∙ sym a ∙ sym (length-set v c (get_or v c 0 + 1))) (λ i k. go i (omega arith) (eqb i c) refl)
  where
    go : (i : ℕ) → i < 8 → (t : Bool) → eqb i c ≡ t → get_or v' i 0 ≡ get_or (set v c (get_or v c 0 + 1)) i 0
    go i k true e =
        let q : i ≡ c = eqb-true i c e in
        rw q (r ∙ sym (get_or-set_same v c (get_or v c 0 + 1) 0 (omega arith)))
    go i k false e =
        let q : ¬ (i ≡ c) = eqb-false i c e in
        sym (o i k q) ∙ sym (get_or-set_other v c i (get_or v c 0 + 1) 0 q)

-- a sound trace, one of whose counters is to rise
module _ (tm : Terms) (buf : List ℕ) (len : ℕ) (t : Trace) (s : Sound tm buf len t) (c : ℕ) (lo : 1 ≤ c) (hi : c ≤ 3)
    (below : value t.values c < most_count) where
  abbrev P : Part
  P = part_in tm.layout buf len

  -- the counter's structure, and the buffer with its Value one higher
  abbrev q : ℕ
  q = value t.places c

  abbrev b₁ : List ℕ
  b₁ = bump P buf (value_place q)

  at_q : Lies tm.sheet P t s.sheet_ok_holds s.message c
  at_q = lies tm.sheet P t s.sheet_ok_holds s.message c (omega arith)

  fits : value_place q + 4 ≤ length buf
  fits = omega (arith, at_q.inside, s.lies.within, s.lies.there)

  pub length_raised : length b₁ ≡ length buf
  length_raised = length_store P buf (value_place q) (num P (value_place q) + 1) fits

  raised_same : (i : ℕ) → ((q + 12 ≤ i) × (i < q + 16) → ⊥) → get_or b₁ i 0 ≡ get_or buf i 0
  raised_same i h = store_same P buf (value_place q) (num P (value_place q) + 1) fits i (λ x. h (x.0, omega (arith, x.1)))

  pub value_at_holds : num P (value_place q) ≡ value t.values c
  unfolding value_at
  value_at_holds =
      sym (value_of tm.sheet P t s.sheet_ok_holds s.message P c (omega arith)) ∙ ap (λ (l : List ℕ). value l c) s.message.values

  -- in whatever part has these four bytes
  raised-value : (m : Part) → ((i : ℕ) → q + 12 ≤ i → i < q + 12 + 4 → get_or m.bytes i 0 ≡ get_or b₁ i 0) → num m (value_place q) ≡ value t.values c + 1
  raised-value m h =
      let e = value_at_holds in
      num_store P buf (value_place q) (num P (value_place q) + 1) fits m (omega arith) h ∙ ap (λ (y : ℕ). y + 1) e

  -- of any part with the counter's new Value, changed in no other attribute, the values are those risen
  module _ (m : Part) (ch : Changed P m q) (e : num m (value_place q) ≡ value t.values c + 1) (most : m.end ≤ most_bytes) where
    pub still_small : small (value_at m q) ≡ true
    unfolding value_at
    still_small = lt-ltb (num m (value_place q)) two_to31 (omega arith)

    pub values_risen : values_at m t.places ≡ risen t.values c
    unfolding value_at values_at
    values_risen =
        risen_is t.values (values_at m t.places) c (length_values tm.sheet P t s.sheet_ok_holds s.message) eight (omega arith)
        (value_of tm.sheet P t s.sheet_ok_holds s.message m c (omega arith) ∙ e)
        (values_kept tm.sheet P t s.sheet_ok_holds s.message m c lo hi ch still_small most)
      where
        eight : length (values_at m t.places) ≡ 8
        eight = length-map t.places (value_at m) ∙ length_places tm.sheet P t s.sheet_ok_holds s.message

  -- in front of the part nothing is raised
  raised_front : (i : ℕ) → i < start_of tm.layout.form → get_or buf i 0 ≡ get_or b₁ i 0
  raised_front i h = sym (raised_same i (λ w. omega (arith, at_q.behind, w.0)))

  -- the part lies as it did
  pub raised_part : Sized tm.layout b₁ len × ((part_in tm.layout b₁ len).end ≡ P.end)
  raised_part = same_part tm.layout buf b₁ len s.lies (omega (arith, length_raised, s.lies.there)) (λ i h k. raised_front i h)

  pub raised_embedding : embedding_of tm.layout.form (part_of b₁ len) ≡ embedding_of tm.layout.form (part_of buf len)
  raised_embedding =
      let n = s.lies.there in
      let k : start_of tm.layout.form ≤ len = omega (arith, s.lies.least, s.lies.within) in
      sym (same_embedding tm.layout.form buf b₁ len len k k n (omega (arith, length_raised)) (λ i a b. raised_front i b))

  -- the counter's Value alone
  pub raised_sound : Sound tm b₁ len (record { rows = t.rows; places = t.places; values = risen t.values c })
  unfolding value_at
  raised_sound =
      let a = at_q.inside in
      let z = at_q.behind in
      let n₀ = s.lies.within in
      let n₁ = s.lies.least in
      let m : Part = part_in tm.layout b₁ len in
      let ends : m.end ≡ P.end = raised_part.1 in
      let n₂ : m.end ≤ most_bytes = omega (arith, s.lies.most) in
      let ch : Changed P m q =
      record {
        same_start = refl;
        grows = omega arith;
        bytes = λ i z₀ h x y. get_or-take P.end buf i 0 h ∙ sym (raised_same i x) ∙ sym (get_or-take m.end b₁ i 0 (omega arith));
      } in
      let e : num m (value_place q) ≡ value t.values c + 1 = raised-value m (λ i x y. get_or-take m.end b₁ i 0 (omega arith)) in
      let k : parameter_count m ≡ parameter_count P =
      sym (num_same P m (count_place P) (λ i x y. get_or-take P.end buf i 0 (omega arith)
      ∙ sym (raised_same i (λ w. omega (arith, w.0))) ∙ sym (get_or-take m.end b₁ i 0 (omega arith)))) in
      let sm = sound_raised tm.sheet P t s.sheet_ok_holds s.message m c lo hi ch (still_small m ch e n₂) n₂ ends k in
      record {
        sheet_ok_holds = s.sheet_ok_holds;
        lies = raised_part.0;
        message = subst (λ (v : List ℕ). SoundMessage tm.sheet m (record { rows = t.rows; places = t.places; values = v })) (values_risen m ch e n₂) sm;
      }

  -- with the group behind the part's old end, and the user data behind the group
  module _ (g : List ℕ) (sg : Group g) (room : len + length g ≤ length buf) (most : len + length g ≤ most_bytes) where
    abbrev user : List ℕ
    user = user_data P buf len

    abbrev b₂ : List ℕ
    b₂ = lengthened tm.layout.form P (length g) b₁

    abbrev b₃ : List ℕ
    b₃ = bump P b₂ (count_place P)

    abbrev b₄ : List ℕ
    b₄ = grown tm.layout.form P user b₁ g

    abbrev P' : Part
    P' = part_in tm.layout b₄ (len + length g)

    start_in : start_of tm.layout.form ≤ length b₁
    start_in = omega (arith, length_raised, s.lies.least, s.lies.within, s.lies.there)

    length_b₂ : length b₂ ≡ length buf
    length_b₂ = length_lengthened P (length g) b₁ tm.layout.form start_in ∙ length_raised

    fits₃ : count_place P + 4 ≤ length b₂
    fits₃ = omega (arith, length_b₂, s.lies.least, s.lies.within, s.lies.there)

    length_b₃ : length b₃ ≡ length buf
    length_b₃ = length_store P b₂ (count_place P) (parameter_count P + 1) fits₃ ∙ length_b₂

    fits₄ : P.end + length (g ++ user) ≤ length b₃
    fits₄ = omega (arith, length_b₃, behind_part tm.layout buf g len s.lies)

    pub length_grown : length b₄ ≡ length buf
    unfolding grown
    length_grown = length_splice b₃ P.end (g ++ user) fits₄ ∙ length_b₃

    -- below the old end only StrucLength, ParameterCount and the counter's Value differ
    low₄ : (i : ℕ) → i < P.end → get_or b₄ i 0 ≡ get_or b₃ i 0
    unfolding grown
    low₄ i h = splice_before b₃ P.end (g ++ user) fits₄ i h

    same₃ : (i : ℕ) → ((count_place P ≤ i) × (i < P.start + 36) → ⊥) → get_or b₃ i 0 ≡ get_or b₂ i 0
    same₃ i h = store_same P b₂ (count_place P) (parameter_count P + 1) fits₃ i (λ x. h (x.0, omega (arith, x.1)))

    same₂ : (i : ℕ) → P.start ≤ i → get_or b₂ i 0 ≡ get_or b₁ i 0
    same₂ i h = lengthened_same P (length g) b₁ tm.layout.form start_in i h

    -- from it on stands the group
    pub grown_group : (i : ℕ) → i < length g → get_or b₄ (P.end + i) 0 ≡ get_or g i 0
    unfolding grown
    grown_group i h = splice_in b₃ P.end (g ++ user) fits₄ i (omega (arith, length-append g user)) ∙ get_or-append g user 0 i h

    -- the part is as much longer as the group
    front₄ : (i : ℕ) → i < start_of tm.layout.form → get_or b₄ i 0 ≡ get_or b₂ i 0
    front₄ i h = low₄ i (omega (arith, s.lies.least)) ∙ same₃ i (λ w. omega (arith, w.0))

    pub grown_lies : Sized tm.layout b₄ (len + length g) × (P'.end ≡ P.end + length g)
    grown_lies =
        grown_part tm.layout buf b₁ b₄ len (length g) s.lies (walks_four sg.tree refl) most (omega (arith, length_grown)) start_in (λ i h k. raised_front i h) (λ i h k. front₄ i h)

    pub grown_embedding : embedding_of tm.layout.form (part_of b₄ (len + length g)) ≡ embedding_of tm.layout.form (part_of buf len)
    grown_embedding =
        let n = s.lies.there in
        let k : start_of tm.layout.form ≤ len = omega (arith, s.lies.least, s.lies.within) in
        sym (same_embedding tm.layout.form buf b₄ len (len + length g) k (omega arith) n (omega (arith, length_grown)) (λ i a b.
        raised_front i b ∙ sym (lengthened_embedding P (length g) b₁ tm.layout.form start_in i a) ∙ sym (front₄ i b)))

    in_new : (i : ℕ) → i < P.end + length g → get_or P'.bytes i 0 ≡ get_or b₄ i 0
    in_new i h = get_or-take P'.end b₄ i 0 (omega (arith, grown_lies.1))

    grown_match : Match (whole g) 0 P' P.end (length g)
    grown_match = record {
      run = λ i h. ap (λ (x : ℕ). get_or g x 0) (zero-add i) ∙ sym (grown_group i h) ∙ sym (in_new (P.end + i) (omega arith));
    }

    -- which is one Activity group there
    pub appended_activity : OneActivity P' P.end (map (shift P.end) sg.rows)
    appended_activity = activity_at P' P.end g sg grown_match grown_lies.1

    pub grown_sound : Sound tm b₄ (len + length g) (record { rows = t.rows ++ map (shift P.end) sg.rows; places = t.places; values = risen t.values c })
    unfolding value_at
    grown_sound =
        let a = at_q.inside in
        let z = at_q.behind in
        let n₁ = s.lies.least in
        let ends = grown_lies.1 in
        let n₂ : P'.end ≤ most_bytes = omega (arith, s.lies.within) in
        let ch : Changed P P' q =
        record {
          same_start = refl;
          grows = omega arith;
          bytes = λ i z₀ h x y.
              get_or-take P.end buf i 0 h ∙ sym (low₄ i h ∙ same₃ i y ∙ same₂ i z₀ ∙ raised_same i x) ∙ sym (in_new i (omega arith));
        } in
        let e : num P' (value_place q) ≡ value t.values c + 1 =
        raised-value P' (λ i x y. in_new i (omega arith) ∙ low₄ i (omega arith) ∙ same₃ i (λ w. omega (arith, w.1)) ∙ same₂ i (omega arith)) in
        let n32 : parameter_count P + 1 < 4294967296 = omega (arith, count_le tm.sheet P t s.sheet_ok_holds s.message, s.lies.within, s.lies.most) in
        let k : parameter_count P' ≡ parameter_count P + 1 =
        num_store P b₂ (count_place P) (parameter_count P + 1) fits₃ P' n32 (λ i x y. in_new i (omega arith) ∙ low₄ i (omega arith)) in
        let sm = sound_appended tm.sheet P t s.sheet_ok_holds s.message P' c lo hi ch (still_small P' ch e n₂) n₂ _ appended_activity k in
        record {
          sheet_ok_holds = s.sheet_ok_holds;
          lies = grown_lies.0;
          message = subst (λ (v : List ℕ). SoundMessage tm.sheet P' (record { rows = t.rows ++ map (shift P.end) sg.rows; places = t.places; values = v }))
              (values_risen P' ch e n₂) sm;
        }
