-- The laws of counts: what one row adds, and what all add from nothing.
use mathlib.Core.Path.{◌≡◌, refl, sym}
use mathlib.Core.List.{List, [], ◌∷◌}
use Prim.Native.Nat.{ℕ, zero, suc, ◌+◌, ◌<◌}
use native.Mathlib.Nat.{zero-add}
use native.Mathlib.Omega.{arith}
use lib.ListN.{get_or, set, replicate}
use borrow.Author.Tests.{eq-eqb, ne_eqb}
use Rattle.meaning.specs.Structure.{Row}
use Rattle.meaning.specs.Message.{count_of, counts_from}
use Rattle.walk.specs.Tallies.{added, raised, Low}

-- two lists with equal heads and equal rests
both : {x y : ℕ} {xs ys : List ℕ} → x ≡ y → xs ≡ ys → x ∷ xs ≡ y ∷ ys
both e f = cc

-- a row of a type below those counted
added_none : (k : ℕ) (t : List ℕ) (r : Row) → r.kind < k → added k t (r ∷ []) ≡ t
unfolding added count_of
added_none k [] r h = refl
added_none k (x ∷ t) r h =
    let e : r.kind ≡ k → ⊥ = λ q. omega arith in
    both (rw (ne_eqb r.kind k e) (omega arith)) (added_none (suc k) t r (omega arith))

raised_from : (k j : ℕ) (t : List ℕ) (r : Row) → r.kind ≡ k + j → set t j (get_or t j 0 + 1) ≡ added k t (r ∷ [])
unfolding added count_of
raised_from k j [] r e = refl
raised_from k zero (x ∷ t) r e =
    let f : r.kind ≡ k = omega arith in
    both (rw (eq-eqb r.kind k f) (omega arith)) (sym (added_none (suc k) t r (omega arith)))
raised_from k (suc j) (x ∷ t) r e =
    let f : r.kind ≡ k → ⊥ = λ q. omega arith in
    both (rw (ne_eqb r.kind k f) (omega arith)) (raised_from (suc k) j t r (omega arith))

-- one more of its type is what a row adds
pub raised-added : (t : List ℕ) (r : Row) → raised t r.kind ≡ added 0 t (r ∷ [])
unfolding raised
raised-added t r = raised_from 0 r.kind t r (omega arith)

-- from nothing, the counts are the meaning's
pub counted : (n k : ℕ) (rows : List Row) → added k (replicate n 0) rows ≡ counts_from n k rows
unfolding added counts_from
counted zero k rows = refl
counted (suc n) k rows = both (zero-add (count_of k rows)) (counted n (suc k) rows)

-- no count is above any place
pub zeros_low : (n p : ℕ) → Low (replicate n 0) p
zeros_low zero p k = omega arith
zeros_low (suc n) p zero = omega arith
zeros_low (suc n) p (suc k) = zeros_low n p k
