-- The numbers of a composed part, one structure after the other.
use mathlib.Core.Path.{◌≡◌, refl, ap}
use mathlib.Core.List.{List, [], ◌∷◌, ◌++◌}
use Prim.Native.Nat.{ℕ, zero, suc, ◌+◌, ◌*◌, ◌≤◌, ◌<◌}
use native.Mathlib.Nat.{not-suc-le-zero, le_of_suc-le-suc}
use native.Mathlib.Numerals.{add-one}
use native.Mathlib.Omega.{arith}
use lib.ListN.{length, get_or, take}
use lib.Seq.{take_all}
use Rattle.meaning.specs.Bytes.{bytes4, words, splice}
use Rattle.meaning.specs.Compose.{header_fields, trace_header_fields, group_fields, integers, composed_fields, composed}
use Rattle.meaning.proofs.Splices.{splice-words, splice-number, words_one}

-- four numbers in a row
pub four_words : (s : List ℕ) (at a b c d : ℕ) → at + 16 ≤ length s
    → splice (splice (splice (splice s at (bytes4 a)) (at + 4) (bytes4 b)) (at + 8) (bytes4 c)) (at + 12) (bytes4 d) ≡ splice s at (words (a ∷ b ∷ c ∷ d ∷ []))
four_words s at a b c d h =
    rw (
      ← words_one a,
      splice-number s at (a ∷ []) (at + 4) b (omega arith) (omega arith),
      splice-number s at (a ∷ b ∷ []) (at + 8) c (omega arith) (omega arith),
    ) (splice-number s at (a ∷ b ∷ c ∷ []) (at + 12) d (omega arith) (omega arith))

-- the first k integers
abbrev pub first_of : List ℕ → List ℕ → ℕ → List ℕ
first_of sheet v k = integers (take k sheet) (take k v)

length_first : (is vs : List ℕ) (k : ℕ) → k ≤ length is → k ≤ length vs → length (first_of is vs k) ≡ 4 * k
unfolding integers
length_first is vs zero h l = refl
length_first [] vs (suc k) h l = absurd (not-suc-le-zero h)
length_first (i ∷ is) [] (suc k) h l = absurd (not-suc-le-zero l)
length_first (i ∷ is) (v ∷ vs) (suc k) h l = omega (arith, length_first is vs k (le_of_suc-le-suc h) (le_of_suc-le-suc l))

first_next : (is vs : List ℕ) (k : ℕ) → k < length is → k < length vs
    → first_of is vs (suc k) ≡ first_of is vs k ++ (3 ∷ 16 ∷ get_or is k 0 ∷ get_or vs k 0 ∷ [])
unfolding integers
first_next [] vs k h l = absurd (not-suc-le-zero h)
first_next (i ∷ is) [] k h l = absurd (not-suc-le-zero l)
first_next (i ∷ is) (v ∷ vs) zero h l = refl
first_next (i ∷ is) (v ∷ vs) (suc k) h l = ap (λ (x : List ℕ). 3 ∷ 16 ∷ i ∷ v ∷ x) (first_next is vs k (le_of_suc-le-suc h) (le_of_suc-le-suc l))

module _ (s sheet v : List ℕ) (eight : length sheet ≡ 8) (values : length v ≡ 8) (room : 180 ≤ length s) where
  -- one integer more
  pub integer_next : (k : ℕ) → k < 8
      → splice (splice s 52 (words (first_of sheet v k))) (52 + k * 16) (words (3 ∷ 16 ∷ get_or sheet k 0 ∷ get_or v k 0 ∷ [])) ≡ splice s 52 (words (first_of sheet v (k + 1)))
  integer_next k h =
      rw (add-one k, first_next sheet v k (omega arith) (omega arith))
      (splice-words s 52 (first_of sheet v k) (52 + k * 16) (3 ∷ 16 ∷ get_or sheet k 0 ∷ get_or v k 0 ∷ []) (omega (arith, length_first sheet v k (omega arith) (omega arith))) (omega arith))

  -- header, group, integers
  pub whole : splice (splice (splice s 0 (words trace_header_fields)) 36 (words (20 ∷ 16 ∷ 8003 ∷ 8 ∷ []))) 52 (words (first_of sheet v 8)) ≡ splice s 0 (composed sheet v)
  unfolding composed composed_fields trace_header_fields header_fields group_fields
  whole =
      rw (
        splice-words s 0 trace_header_fields 36 (20 ∷ 16 ∷ 8003 ∷ 8 ∷ []) refl (omega arith),
        splice-words s 0 (trace_header_fields ++ (20 ∷ 16 ∷ 8003 ∷ 8 ∷ [])) 52 (first_of sheet v 8) refl (omega (arith, length_first sheet v 8 (omega arith) (omega arith))),
        take_all 8 sheet (omega arith),
        take_all 8 v (omega arith),
      ) refl
