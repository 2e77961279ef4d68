-- What every entry answers: what it gives, or a refusal.
use Rattle.std.specs.Prelude.{ℕ, Bool, true, false, List, ◌∷◌}

-- what an entry gives, or a refusal's number and place
pub data Result (A : Type 0) : Type 0 where
  accepted : A → Result A
  refused : ℕ → ℕ → Result A

-- what goes on from what is given; a refusal stays
abbrev pub and_then : {A B : Type 0} → Result A → (A → Result B) → Result B
and_then (accepted x) go = go x
and_then (refused n p) go = refused n p

-- the answer in front, unless the test holds
abbrev pub unless {ℓ} : {A : Type ℓ} → Bool → A → A → A
unless false x y = x
unless true x y = y

-- the answer in front, if the test holds
abbrev pub when {ℓ} : {A : Type ℓ} → Bool → A → A → A
when true x y = x
when false x y = y

-- x in front of the list, if the test holds
abbrev pub cons_if {ℓ} : {A : Type ℓ} → Bool → A → List A → List A
cons_if true x xs = x ∷ xs
cons_if false x xs = xs
