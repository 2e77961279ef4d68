-- A composed message reads back as the values it was made from, and is seen as nine structures.
use mathlib.Core.Path.{◌≡◌, refl, sym, ap, ◌∙◌, subst}
use mathlib.Core.Bool.{true, false, not}
use mathlib.Core.List.{List, [], ◌∷◌, ◌++◌, map, append-nil, append_assoc}
use Prim.Native.Nat.{ℕ, zero, suc, ◌+◌, ◌*◌, ◌≤◌, ◌<◌}
use native.Mathlib.Nat.{not-suc-le-zero, le_of_suc-le-suc, add-zero}
use native.Mathlib.Omega.{arith}
use lib.ListN.{length, get_or, get_or-append, length-map}
use lib.Seq.{get_or-append-add, ext_get_or}
use lib.Dec.{eqb}
use borrow.Author.Tests.{le-leb, eqb-true, eqb-false, eq-eqb, ne_eqb, not-true}
use Rattle.meaning.specs.Bytes.{Part, num, word}
use Rattle.meaning.specs.Answer.{accepted}
use Rattle.meaning.specs.Structure.{Row, length_rule, judge, structure_at}
use Rattle.meaning.specs.Message.{field, header_ok, count_of, counts_from}
use Rattle.meaning.specs.Trace.{absent, identifiers_ok, sheet_ok, trace_fields, trace_header, until_top, tops, groups_in, groups, trace_routes, direct_in, direct_members, named, one_integer, each_once, place_of_first, places_of, value_at, values_at, in_range}
use Rattle.meaning.specs.Compose.{header_fields, trace_header_fields, group_fields, integers, composed_fields, composed}
use Rattle.meaning.proofs.Tests.{and_true, true_and}
use Rattle.meaning.proofs.Numbers.{length-words}
use Rattle.meaning.proofs.Walks.{Walks, none, more, walks_as}
use Rattle.meaning.proofs.Attributes.{get_d_map, absent_at, identifiers_parts, small_at}
use Rattle.meaning.proofs.Sound.{SoundRows, SoundMessage}

-- THE WORDS of integers
length-integers : (is vs : List ℕ) → length is ≡ length vs → length (integers is vs) ≡ 4 * length is
unfolding integers
length-integers [] vs e = refl
length-integers (i ∷ is) [] e = absurd (omega arith)
length-integers (i ∷ is) (v ∷ vs) e = omega (arith, length-integers is vs (omega arith))

record IntegerAt (is vs : List ℕ) (j : ℕ) : Type 0 where
  pub w0 : get_or (integers is vs) (4 * j) 0 ≡ 3
  pub w1 : get_or (integers is vs) (4 * j + 1) 0 ≡ 16
  pub w2 : get_or (integers is vs) (4 * j + 2) 0 ≡ get_or is j 0
  pub w3 : get_or (integers is vs) (4 * j + 3) 0 ≡ get_or vs j 0

integer_at : (is vs : List ℕ) → length is ≡ length vs → (j : ℕ) → j < length is → IntegerAt is vs j
unfolding integers
integer_at [] vs e j h = absurd (not-suc-le-zero h)
integer_at (i ∷ is) [] e j h = absurd (omega arith)
integer_at (i ∷ is) (v ∷ vs) e zero h = record { w0 = refl; w1 = refl; w2 = refl; w3 = refl }
integer_at (i ∷ is) (v ∷ vs) e (suc j) h =
    let k = integer_at is vs (omega arith) j (le_of_suc-le-suc h) in
    let s : (r n : ℕ) → 4 * suc j + r ≡ suc (suc (suc (suc n))) → get_or (3 ∷ 16 ∷ i ∷ v ∷ integers is vs) (4 * suc j + r) 0 ≡ get_or (integers is vs) n 0 =
    λ r n q. ap (λ (x : ℕ). get_or (3 ∷ 16 ∷ i ∷ v ∷ integers is vs) x 0) q in
    let z : 4 * suc j ≡ suc (suc (suc (suc (4 * j)))) = omega arith in
    record {
      w0 = rw z k.w0;
      w1 = s 1 (4 * j + 1) (omega arith) ∙ k.w1;
      w2 = s 2 (4 * j + 2) (omega arith) ∙ k.w2;
      w3 = s 3 (4 * j + 3) (omega arith) ∙ k.w3;
    }

-- THE ROWS of integers one behind the other
abbrev integer_row : ℕ → ℕ → Row
integer_row p i = record { depth = 2; place = p; kind = 3; parameter = i; size = 16; members = 0 }

unfoldable pub integer_rows : ℕ → List ℕ → List Row
integer_rows p [] = []
integer_rows p (i ∷ is) = integer_row p i ∷ integer_rows (p + 16) is

-- an integer structure is sound where its three words are there
integer_structure : (m : Part) (p i : ℕ) → num m p ≡ 3 → num m (p + 4) ≡ 16 → num m (p + 8) ≡ i → p + 16 ≤ m.end
    → structure_at m p 2 ≡ accepted (integer_row p i)
unfolding structure_at judge length_rule
integer_structure m p i a b c h = rw (a, b, c, le-leb (p + 16) m.end h) refl

-- the words from p on are those of integers with these identifiers
Integers : Part → ℕ → List ℕ → Type 0
Integers m p is = (j : ℕ) → j < length is → (num m (p + 16 * j) ≡ 3) × (num m (p + 16 * j + 4) ≡ 16) × (num m (p + 16 * j + 8) ≡ get_or is j 0)

walk-integers : (m : Part) (p : ℕ) (is : List ℕ) → Integers m p is → p + 16 * length is ≤ m.end → Walks m p 2 (length is) (integer_rows p is) (p + 16 * length is)
unfolding integer_rows Integers
walk-integers m p [] w h = rw (end p) none
  where
    end : (p : ℕ) → p + 16 * 0 ≡ p
    end p = omega arith
walk-integers m p (i ∷ is) w h =
    let a = w 0 (omega arith) in
    let z : p + 16 * 0 ≡ p = omega arith in
    let t = integer_structure m p i (rw z at a.0) (rw z at a.1) (rw z at a.2) (omega arith) in
    let n : p + 16 + 16 * length is ≡ p + 16 * suc (length is) = omega arith in
    let v = walk-integers m (p + 16) is (λ j k.
    let e : p + 16 + 16 * j ≡ p + 16 * suc j = omega arith in rw e (w (suc j) (omega arith))) (omega arith) in
    more t none (rw n at v)

until_integers : (p : ℕ) (is : List ℕ) → until_top (integer_rows p is) ≡ integer_rows p is
unfolding until_top integer_rows
until_integers p [] = refl
until_integers p (i ∷ is) = rw (until_integers (p + 16) is) refl

tops-integers : (p : ℕ) (is : List ℕ) → tops (integer_rows p is) ≡ []
unfolding tops integer_rows
tops-integers p [] = refl
tops-integers p (i ∷ is) = tops-integers (p + 16) is

direct_integers : (p : ℕ) (is : List ℕ) → direct_in (integer_rows p is) ≡ integer_rows p is
unfolding direct_in integer_rows
direct_integers p [] = refl
direct_integers p (i ∷ is) = rw (direct_integers (p + 16) is) refl

named_none : (x p : ℕ) (is : List ℕ) → absent x is ≡ true → named x (integer_rows p is) ≡ []
unfolding named absent integer_rows
named_none x p [] e = refl
named_none x p (i ∷ is) e =
    let f = and_true (not (eqb x i)) (absent x is) e in
    let n : eqb i x ≡ false = ne_eqb i x (λ q. eqb-false x i (not-true (eqb x i) f.0) (sym q)) in
    rw n (named_none x (p + 16) is f.1)

named_one : (p : ℕ) (is : List ℕ) → identifiers_ok is ≡ true → (j : ℕ) → j < length is
    → named (get_or is j 0) (integer_rows p is) ≡ integer_row (p + 16 * j) (get_or is j 0) ∷ []
unfolding named integer_rows
named_one p [] e j h = absurd (not-suc-le-zero h)
named_one p (i ∷ is) e zero h =
    let z : p + 16 * 0 ≡ p = omega arith in
    rw (eq-eqb i i refl, named_none i (p + 16) is (identifiers_parts i is e).not_in, z) refl
named_one p (i ∷ is) e (suc j) h =
    let z : p + 16 * suc j ≡ p + 16 + 16 * j = omega arith in
    let n : eqb i (get_or is j 0) ≡ false = ne_eqb i (get_or is j 0) (absent_at i is (identifiers_parts i is e).not_in j (le_of_suc-le-suc h)) in
    rw (n, z) (named_one (p + 16) is (identifiers_parts i is e).rest j (le_of_suc-le-suc h))

-- each of a list of identifiers found once, if each by its position is
each_once_lem : (ids : List ℕ) (members : List Row) → ((j : ℕ) → j < length ids → one_integer (named (get_or ids j 0) members) ≡ true) → each_once ids members ≡ true
unfolding each_once
each_once_lem [] members h = refl
each_once_lem (i ∷ ids) members h = true_and (h 0 (omega arith)) (each_once_lem ids members (λ j k. h (suc j) (omega arith)))

-- n places, 16 apart
unfoldable pub places_from : ℕ → ℕ → List ℕ
places_from p zero = []
places_from p (suc n) = p ∷ places_from (p + 16) n

places_length : (p n : ℕ) → length (places_from p n) ≡ n
unfolding places_from
places_length p zero = refl
places_length p (suc n) = ap suc (places_length (p + 16) n)

places_at : (p n j : ℕ) → j < n → get_or (places_from p n) j 0 ≡ p + 16 * j
unfolding places_from
places_at p zero j h = absurd (not-suc-le-zero h)
places_at p (suc n) zero h = omega arith
places_at p (suc n) (suc j) h = places_at (p + 16) n j (le_of_suc-le-suc h) ∙ omega arith

-- the rows of a composed message whose PCF part starts at p
abbrev group_row : ℕ → Row
group_row p = record { depth = 1; place = p + 36; kind = 20; parameter = 8003; size = 16; members = 8 }

unfoldable pub composed_rows : ℕ → List ℕ → List Row
composed_rows p sheet = group_row p ∷ integer_rows (p + 52) sheet

pub sheet_length : (sheet : List ℕ) → sheet_ok sheet ≡ true → length sheet ≡ 8
unfolding sheet_ok
sheet_length sheet ok = eqb-true (length sheet) 8 (and_true (eqb (length sheet) 8) (identifiers_ok sheet) ok).0

pub length_fields : (sheet v : List ℕ) → sheet_ok sheet ≡ true → length v ≡ 8 → length (composed_fields sheet v) ≡ 45
unfolding composed_fields trace_header_fields header_fields group_fields
length_fields sheet v ok n8 = omega (arith, length-integers sheet v (sheet_length sheet ok ∙ sym n8), sheet_length sheet ok)

pub length-composed : (sheet v : List ℕ) → sheet_ok sheet ≡ true → length v ≡ 8 → length (composed sheet v) ≡ 180
unfolding composed
length-composed sheet v ok n8 = length-words (composed_fields sheet v) ∙ omega (arith, length_fields sheet v ok n8)

-- THE MESSAGE: a part that holds the words of a sheet and eight values of 32 bits
module _ (sheet v : List ℕ) (ok : sheet_ok sheet ≡ true) (n8 : length v ≡ 8) (fit : (j : ℕ) → j < 8 → get_or v j 0 < 4294967296) where
  abbrev ws : List ℕ
  ws = composed_fields sheet v

  abbrev front : List ℕ
  front = trace_header_fields ++ group_fields

  front_first : ws ≡ front ++ integers sheet v
  unfolding composed_fields
  front_first = sym (append_assoc trace_header_fields group_fields (integers sheet v))

  sheet8 : length sheet ≡ 8
  sheet8 = sheet_length sheet ok

  distinct : identifiers_ok sheet ≡ true
  unfolding sheet_ok
  distinct = (and_true (eqb (length sheet) 8) (identifiers_ok sheet) ok).1

  module _ (m : Part) (holds : (k : ℕ) → k < 45 → get_or ws k 0 < 4294967296 → num m (m.start + 4 * k) ≡ get_or ws k 0) (ends : m.end ≡ m.start + 180) where
    word_there : (k x q : ℕ) → k < 45 → q ≡ m.start + 4 * k → get_or ws k 0 ≡ x → x < 4294967296 → num m q ≡ x
    word_there k x q h e f l = ap (num m) e ∙ holds k h (rw f l) ∙ f

    front_there : (k q : ℕ) → k < 13 → q ≡ m.start + 4 * k → get_or front k 0 < 4294967296 → num m q ≡ get_or front k 0
    unfolding trace_header_fields header_fields group_fields
    front_there k q h e l =
        word_there k (get_or front k 0) q (omega arith) e (ap (λ (w : List ℕ). get_or w k 0) front_first ∙ get_or-append front (integers sheet v) 0 k (omega arith)) l

    integer_there : (j r x q : ℕ) → j < 8 → r < 4 → q ≡ m.start + 52 + 16 * j + 4 * r → get_or (integers sheet v) (4 * j + r) 0 ≡ x → x < 4294967296 → num m q ≡ x
    unfolding trace_header_fields header_fields group_fields
    integer_there j r x q h k e f l =
        word_there (13 + (4 * j + r)) x q (omega arith) (omega arith)
        (ap (λ (w : List ℕ). get_or w (13 + (4 * j + r)) 0) front_first ∙ get_or-append-add front (integers sheet v) (4 * j + r) 0 ∙ f) l

    integer_words : (j : ℕ) → j < 8 → IntegerAt sheet v j
    integer_words j h = integer_at sheet v (sheet8 ∙ sym n8) j (omega (arith, sheet8))

    word0 : (j : ℕ) → j < 8 → num m (m.start + 52 + 16 * j) ≡ 3
    word0 j h = integer_there j 0 3 _ h (omega arith) (omega arith) (ap (λ (x : ℕ). get_or (integers sheet v) x 0) (add-zero (4 * j)) ∙ (integer_words j h).w0) (omega arith)

    word1 : (j : ℕ) → j < 8 → num m (m.start + 52 + 16 * j + 4) ≡ 16
    word1 j h = integer_there j 1 16 _ h (omega arith) (omega arith) (integer_words j h).w1 (omega arith)

    word2 : (j : ℕ) → j < 8 → num m (m.start + 52 + 16 * j + 8) ≡ get_or sheet j 0
    word2 j h =
        integer_there j 2 (get_or sheet j 0) _ h (omega arith) (omega arith) (integer_words j h).w2 (omega (arith, small_at sheet distinct j (omega (arith, sheet8))))

    word3 : (j : ℕ) → j < 8 → num m (m.start + 52 + 16 * j + 12) ≡ get_or v j 0
    word3 j h = integer_there j 3 (get_or v j 0) _ h (omega arith) (omega arith) (integer_words j h).w3 (fit j h)

    group_structure : structure_at m (m.start + 36) 1 ≡ accepted (group_row m.start)
    unfolding structure_at judge length_rule word trace_header_fields header_fields group_fields
    group_structure =
        let l = ends in
        rw (
          front_there 9 (m.start + 36) (omega arith) (omega arith) (omega arith),
          front_there 10 (m.start + 36 + 4) (omega arith) (omega arith) (omega arith),
          front_there 11 (m.start + 36 + 8) (omega arith) (omega arith) (omega arith),
          front_there 12 (m.start + 36 + 12) (omega arith) (omega arith) (omega arith),
          le-leb (m.start + 36 + 16) m.end (omega arith),
          le-leb (m.start + 36 + 12 + 4) (m.start + 36 + 16) (omega arith),
        ) refl

    tree : Walks m (m.start + 36) 1 1 (composed_rows m.start sheet) m.end
    unfolding composed_rows Integers
    tree =
        let l = ends in
        let w = walk-integers m (m.start + 52) sheet (λ j h.
        let k : j < 8 = omega (arith, sheet8) in (word0 j k, word1 j k, word2 j k)) (omega (arith, sheet8)) in
        let w' : Walks m (m.start + 36 + 16) 2 8 (integer_rows (m.start + 52) sheet) m.end = walks_as (omega arith) sheet8 (omega (arith, sheet8)) w in
        let all = more group_structure w' none in
        subst (λ (l : List Row). Walks m (m.start + 36) 1 1 (group_row m.start ∷ l) m.end) (append-nil (integer_rows (m.start + 52) sheet)) all

    group_there : trace_routes (composed_rows m.start sheet)
        ≡ record { row = group_row m.start; inside = integer_rows (m.start + 52) sheet } ∷ []
    unfolding groups groups_in tops composed_rows
    group_there = rw (until_integers (m.start + 52) sheet, tops-integers (m.start + 52) sheet) refl

    direct : direct_members (trace_routes (composed_rows m.start sheet)) ≡ integer_rows (m.start + 52) sheet
    unfolding direct_members
    direct = ap direct_members group_there ∙ append-nil (direct_in (integer_rows (m.start + 52) sheet)) ∙ direct_integers (m.start + 52) sheet

    one_there : (j : ℕ) → j < 8 → named (get_or sheet j 0) (integer_rows (m.start + 52) sheet) ≡ integer_row (m.start + 52 + 16 * j) (get_or sheet j 0) ∷ []
    one_there j h = named_one (m.start + 52) sheet distinct j (omega (arith, sheet8))

    once : each_once sheet (integer_rows (m.start + 52) sheet) ≡ true
    unfolding one_integer
    once = each_once_lem sheet (integer_rows (m.start + 52) sheet) (λ j h. rw (one_there j (omega (arith, sheet8))) refl)

    places : places_of sheet (integer_rows (m.start + 52) sheet) ≡ places_from (m.start + 52) 8
    unfolding places_of place_of_first
    places =
        let f : ℕ → ℕ = λ id. place_of_first (named id (integer_rows (m.start + 52) sheet)) in
        let n : length (map f sheet) ≡ 8 = length-map sheet f ∙ sheet8 in
        ext_get_or 0 (map f sheet) (places_from (m.start + 52) 8) (n ∙ sym (places_length (m.start + 52) 8)) (λ j h.
        get_d_map f sheet j (omega (arith, sheet8)) ∙ ap place_of_first (one_there j (omega arith)) ∙ sym (places_at (m.start + 52) 8 j (omega arith)))

    values : values_at m (places_from (m.start + 52) 8) ≡ v
    unfolding values_at value_at
    values =
        let k = places_length (m.start + 52) 8 in
        let n : length (map (value_at m) (places_from (m.start + 52) 8)) ≡ 8 = length-map (places_from (m.start + 52) 8) (value_at m) ∙ k in
        ext_get_or 0 (map (value_at m) (places_from (m.start + 52) 8)) v (n ∙ sym n8) (λ j h.
        get_d_map (value_at m) (places_from (m.start + 52) 8) j (omega arith)
        ∙ ap (λ (p : ℕ). num m (p + 12)) (places_at (m.start + 52) 8 j (omega arith))
        ∙ word3 j (omega arith))

    pub header_word : (k : ℕ) → k < 9 → get_or front k 0 < 4294967296 → field m (4 * k) ≡ get_or front k 0
    header_word k h l = front_there k (m.start + 4 * k) (omega arith) refl l

    header : header_ok m ≡ true
    unfolding header_ok trace_header_fields header_fields group_fields
    header = rw (header_word 1 (omega arith) (omega arith), header_word 2 (omega arith) (omega arith), header_word 8 (omega arith) (omega arith)) refl

    trace_header_holds : trace_header m ≡ true
    unfolding trace_header trace_fields trace_header_fields header_fields group_fields
    trace_header_holds =
        rw (
          header_word 0 (omega arith) (omega arith),
          header_word 2 (omega arith) (omega arith),
          header_word 3 (omega arith) (omega arith),
          header_word 4 (omega arith) (omega arith),
          header_word 5 (omega arith) (omega arith),
          header_word 6 (omega arith) (omega arith),
          header_word 7 (omega arith) (omega arith),
          header_word 8 (omega arith) (omega arith),
        ) refl

    pub structures_sound : SoundRows m (composed_rows m.start sheet)
    unfolding trace_header_fields header_fields group_fields
    structures_sound = record { header = header; tree = walks_as refl (sym (header_word 8 (omega arith) (omega arith))) refl tree }

    pub composed_sound : in_range v ≡ true
        → SoundMessage sheet m (record { rows = composed_rows m.start sheet; places = places_from (m.start + 52) 8; values = v })
    composed_sound r = record {
      structures = structures_sound;
      trace_header_holds = trace_header_holds;
      one = ap length group_there;
      once = rw direct once;
      places = rw direct places;
      range = r;
      values = values;
    }

-- eight numbers
eight : (l : List ℕ) → length l ≡ 8 → (a b c d e f g h : ℕ) × (l ≡ a ∷ b ∷ c ∷ d ∷ e ∷ f ∷ g ∷ h ∷ [])
eight [] q = absurd (omega arith)
eight (a ∷ []) q = absurd (omega arith)
eight (a ∷ b ∷ []) q = absurd (omega arith)
eight (a ∷ b ∷ c ∷ []) q = absurd (omega arith)
eight (a ∷ b ∷ c ∷ d ∷ []) q = absurd (omega arith)
eight (a ∷ b ∷ c ∷ d ∷ e ∷ []) q = absurd (omega arith)
eight (a ∷ b ∷ c ∷ d ∷ e ∷ f ∷ []) q = absurd (omega arith)
eight (a ∷ b ∷ c ∷ d ∷ e ∷ f ∷ g ∷ []) q = absurd (omega arith)
eight (a ∷ b ∷ c ∷ d ∷ e ∷ f ∷ g ∷ h ∷ []) q = (a, b, c, d, e, f, g, h, refl)
eight (a ∷ b ∷ c ∷ d ∷ e ∷ f ∷ g ∷ h ∷ i ∷ l) q = absurd (omega arith)

-- the tally of a composed message: eight integers and a group
unfoldable pub composed_tally : List ℕ
composed_tally =
    0 ∷ 0 ∷ 0 ∷ 8 ∷ 0 ∷ 0 ∷ 0 ∷ 0 ∷ 0 ∷ 0 ∷ 0 ∷ 0 ∷ 0 ∷ 0 ∷ 0 ∷ 0 ∷ 0 ∷ 0 ∷ 0 ∷ 0 ∷ 1 ∷ 0 ∷ 0 ∷ 0 ∷ 0 ∷ 0 ∷ 0 ∷ []

pub nine_rows : (p : ℕ) (sheet : List ℕ) → length sheet ≡ 8 → length (composed_rows p sheet) ≡ 9
unfolding composed_rows integer_rows
nine_rows p sheet e = let x = eight sheet e in rw x.8 refl

pub counted_rows : (p : ℕ) (sheet : List ℕ) → length sheet ≡ 8 → counts_from 27 0 (composed_rows p sheet) ≡ composed_tally
unfolding composed_rows integer_rows counts_from count_of composed_tally
counted_rows p sheet e = let x = eight sheet e in rw x.8 refl
