-- The rest and the beginning of a list, one element after the other, and an array that is filled one element after the other.
use mathlib.Core.Path.{◌≡◌, refl, sym, ap, ◌∙◌}
use mathlib.Core.Bool.{Bool, true, false}
use mathlib.Core.List.{List, [], ◌∷◌, ◌++◌}
use Prim.Native.Nat.{ℕ, suc, ◌+◌, ◌-◌, ◌≤◌, ◌<◌}
use native.Mathlib.Numerals.{add-one}
use native.Mathlib.Omega.{arith}
use lib.ListN.{length, get_or, set, take, drop, drop_of_length-le}
use lib.Seq.{take-suc, drop-cons, get_or-set_same, get_or-set_other}
use lib.Dec.{eqb}
use borrow.Author.Tests.{eqb-true, eqb-false}

pub rest_none : (l : List ℕ) (k : ℕ) → length l ≤ k → drop k l ≡ []
rest_none l k h = drop_of_length-le l h

pub rest_next : (l : List ℕ) (k : ℕ) → k < length l → drop k l ≡ get_or l k 0 ∷ drop (k + 1) l
rest_next l k h = rw (add-one k) (drop-cons l k 0 h)

-- the last of the first n bytes
pub take_last : (l : List ℕ) (n : ℕ) → 0 < n → n ≤ length l → take n l ≡ take (n - 1) l ++ (get_or l (n - 1) 0 ∷ [])
take_last l n p h =
    let e : suc (n - 1) ≡ n = omega arith in
    rw e at (take-suc l (n - 1) 0 (omega arith))

-- the first k elements are what f says
abbrev pub Filled : (ℕ → ℕ) → List ℕ → ℕ → Type 0
Filled f l k = (j : ℕ) → j < k → get_or l j 0 ≡ f j

pub filled_next : (f : ℕ → ℕ) (l : List ℕ) (k v : ℕ) → k < length l → Filled f l k → v ≡ f k → Filled f (set l k v) (k + 1)
filled_next f l k v h was e j i = go (eqb j k) refl
  where
    go : (b : Bool) → eqb j k ≡ b → get_or (set l k v) j 0 ≡ f j
    go true q = let z = eqb-true j k q in ap (λ (x : ℕ). get_or (set l k v) x 0) z ∙ get_or-set_same l k v 0 h ∙ e ∙ ap f (sym z)
    go false q = let z = eqb-false j k q in get_or-set_other l k j v 0 z ∙ was j (omega arith)
