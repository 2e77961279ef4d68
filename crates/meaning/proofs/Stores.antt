-- A number written as a part has its numbers, and read again.
use mathlib.Core.Path.{◌≡◌, refl, ◌∙◌}
use mathlib.Core.Bool.{Bool, true, false}
use mathlib.Core.List.{List}
use Prim.Native.Nat.{ℕ, ◌+◌, ◌≤◌, ◌<◌}
use native.Mathlib.Omega.{arith}
use lib.ListN.{length, get_or, take, drop}
use lib.Dec.{leb}
use borrow.Author.Tests.{leb-true, leb-false}
use Rattle.meaning.specs.Bytes.{Part, num, bytes4, splice, store}
use Rattle.meaning.proofs.Numbers.{length-bytes4, number_same}
use Rattle.meaning.proofs.Splices.{length_splice, splice_before, splice_after, number-splice, splice_both, take-splice_in, drop-splice_behind}

module _ (s : Part) (b : List ℕ) (at v : ℕ) (fits : at + 4 ≤ length b) where
  four_fit : at + length (bytes4 v) ≤ length b
  four_fit = omega (arith, length-bytes4 v)

  pub length_store : length (store s b at v) ≡ length b
  unfolding store
  length_store = length_splice b at (bytes4 v) four_fit

  pub store_same : (i : ℕ) → ((at ≤ i) × (i < at + 4) → ⊥) → get_or (store s b at v) i 0 ≡ get_or b i 0
  unfolding store
  store_same i h = go (leb at i) refl
    where
      go : (x : Bool) → leb at i ≡ x → get_or (splice b at (bytes4 v)) i 0 ≡ get_or b i 0
      go false e = splice_before b at (bytes4 v) four_fit i (leb-false _ _ e)
      go true e =
          let l = leb-true at i e in
          let k : ¬ (i < at + 4) = λ x. h (l, x) in
          splice_after b at (bytes4 v) four_fit i (omega (arith, length-bytes4 v))

  pub num_store : (m : Part) → v < 4294967296 → ((i : ℕ) → at ≤ i → i < at + 4 → get_or m.bytes i 0 ≡ get_or (store s b at v) i 0) → num m at ≡ v
  unfolding store
  num_store m h e =
      number_same m.bytes (splice b at (bytes4 v)) at e ∙ number-splice b at v fits h

pub store_as : (s s' : Part) (b : List ℕ) (at v v' : ℕ) → v ≡ v' → store s b at v ≡ store s' b at v'
unfolding store
store_as s s' b at v v' e = cc

pub store_both : (s : Part) (b b' : List ℕ) (at v : ℕ) → at + 4 ≤ length b → at + 4 ≤ length b' → (i : ℕ) → get_or b i 0 ≡ get_or b' i 0
    → get_or (store s b at v) i 0 ≡ get_or (store s b' at v) i 0
unfolding store
store_both s b b' at v f f' i h = splice_both b b' at (bytes4 v) (four_fit s b at v f) (four_fit s b' at v f') i (λ x. h)

pub take-store : (n : ℕ) (s : Part) (b : List ℕ) (at v : ℕ) → at + 4 ≤ n → n ≤ length b → take n (store s b at v) ≡ store s (take n b) at v
unfolding store
take-store n s b at v h k = take-splice_in n b at (bytes4 v) (omega (arith, length-bytes4 v)) k

pub drop-store : (n : ℕ) (s : Part) (b : List ℕ) (at v : ℕ) → at + 4 ≤ n → n ≤ length b → drop n (store s b at v) ≡ drop n b
unfolding store
drop-store n s b at v h k = drop-splice_behind n b at (bytes4 v) (omega (arith, length-bytes4 v)) k
