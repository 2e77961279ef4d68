-- Laws of Boolean tests and of answers, used everywhere above.
use mathlib.Core.Path.{◌≡◌, refl}
use mathlib.Core.Bool.{Bool, true, false, cond, not, ◌&&◌}
use Prim.Native.Nat.{ℕ, ◌≤◌}
use native.Mathlib.Omega.{arith}
use lib.Dec.{leb}
use borrow.Author.Tests.{leb-true, leb-false}
use Rattle.meaning.specs.Answer.{Result, accepted, refused, and_then, unless}

-- two constructors are never equal
pub clash : ◌≡◌ {A = ℕ} 0 1 → ⊥
clash e = omega arith

pub and_true : (x y : Bool) → x && y ≡ true → (x ≡ true) × (y ≡ true)
and_true true y e = (refl, e)
and_true false y e = absurd (clash (cc))

pub true_and : {x y : Bool} → x ≡ true → y ≡ true → x && y ≡ true
true_and {x} {y} e f = rw e f

pub and_false : (b : Bool) → b && false ≡ false
and_false true = refl
and_false false = refl

pub and_not : (a b : Bool) → a && not b ≡ false → a ≡ true → b ≡ true
and_not true true e h = refl
and_not true false e h = absurd (clash (cc))
and_not false b e h = absurd (clash (cc))

pub is_false : (b : Bool) → (b ≡ true → ⊥) → b ≡ false
is_false true h = absurd (h refl)
is_false false h = refl

pub either : {G : Type 0} (b x y : Bool) → (x ≡ true → G) → (y ≡ true → G) → cond b x y ≡ true → G
either true x y f g e = f e
either false x y f g e = g e

pub second : {G : Type 0} (x y : Bool) → (y ≡ true → G) → x && y ≡ true → G
second x y f e = f (and_true x y e).1

pub leb_iff : (a b a' b' : ℕ) → (a ≤ b → a' ≤ b') → (a' ≤ b' → a ≤ b) → leb a b ≡ leb a' b'
leb_iff a b a' b' f g = go (leb a b) (leb a' b') refl refl
  where
    go : (t t' : Bool) → leb a b ≡ t → leb a' b' ≡ t' → leb a b ≡ leb a' b'
    go true true e e' = cc
    go false false e e' = cc
    go true false e e' = absurd (omega (arith, f (leb-true a b e), leb-false a' b' e'))
    go false true e e' = absurd (omega (arith, g (leb-true a' b' e'), leb-false a b e))

pub cond_match : (b b' : Bool) (x x' : ℕ) → b ≡ b' → (b ≡ true → x ≡ x') → cond b x 0 ≡ cond b' x' 0
cond_match true b' x x' e f = rw (← e) (f refl)
cond_match false b' x x' e f = rw (← e) refl

-- what is accepted in the end was not refused on the way
pub unless_accepted : {A : Type 0} (b : Bool) (n p : ℕ) (r : Result A) (x : A) → unless b (refused n p) r ≡ accepted x → (b ≡ true) × (r ≡ accepted x)
unless_accepted true n p r x e = (refl, e)
unless_accepted false n p r x e = absurd (clash (cc))

pub then_accepted : {A B : Type 0} (r : Result A) (go : A → Result B) (y : B) → and_then r go ≡ accepted y → (x : A) × (r ≡ accepted x) × (go x ≡ accepted y)
then_accepted (accepted x) go y e = (x, refl, e)
then_accepted (refused n p) go y e = absurd (clash (cc))

-- what is refused in the end, but by no later step, was refused at once
pub then_refused : {A B : Type 0} (r : Result A) (f : A → B) (k q : ℕ) → and_then r (λ x. accepted (f x)) ≡ refused k q → r ≡ refused k q
then_refused (accepted x) f k q e = absurd (clash (cc))
then_refused (refused k' q') f k q e = cc

-- a flag is a bit
pub bit : (b : Bool) → cond b 1 0 ≤ 1
bit true = omega arith
bit false = omega arith
