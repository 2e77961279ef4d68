-- The walk: all structures of a part in reading order, each group's members behind it.
use Rattle.std.specs.Prelude.{ℕ, zero, suc, ◌+◌, List, [], ◌∷◌, ◌++◌}
use Rattle.meaning.specs.Bytes.{Part}
use Rattle.meaning.specs.Names.{bad_structure}
use Rattle.meaning.specs.Answer.{Result, accepted, refused, and_then}
use Rattle.meaning.specs.Structure.{Row, structure_at}

-- the rows met, and the place behind the last structure
pub record Walked : Type 0 where
  pub rows : List Row
  pub next : ℕ

abbrev pub walked : List Row → ℕ → Result Walked
walked rows next = accepted (record { rows = rows; next = next })

-- the rows of a walk, none if it is refused
abbrev pub rows_in : Result Walked → List Row
rows_in (accepted w) = w.rows
rows_in (refused n p) = []

-- one walk behind another: the second starts where the first ended
abbrev pub followed_by : Result Walked → (ℕ → Result Walked) → Result Walked
followed_by w go = and_then w (λ x. and_then (go x.next) (λ y. walked (x.rows ++ y.rows) y.next))

-- a row in front
abbrev pub ahead : Row → Result Walked → Result Walked
ahead r w = and_then w (λ x. walked (r ∷ x.rows) x.next)

-- a structure, then its members, then the rest
abbrev pub enter : Result Row → (Row → Result Walked) → (ℕ → Result Walked) → Result Walked
enter s inside rest = and_then s (λ r. ahead r (followed_by (inside r) rest))

-- The next n structures from p on, of depth d, with all that is inside them; a group's ParameterCount says how many
-- follow inside it, and a group within a group counts as one there. The first fault in reading order is the answer.
-- `fuel` makes the recursion end and never shows where it is at least the number of bytes left (proofs/Fuel): each
-- structure takes 16 bytes or more, and where none are left a structure due is 3.
unfoldable pub walk_fuel : ℕ → Part → ℕ → ℕ → ℕ → Result Walked
walk_fuel zero s p d zero = walked [] p
walk_fuel zero s p d (suc n) = refused bad_structure p
walk_fuel (suc fuel) s p d zero = walked [] p
walk_fuel (suc fuel) s p d (suc n) =
    enter (structure_at s p d) (λ r. walk_fuel fuel s (p + r.size) (suc d) r.members) (λ q. walk_fuel fuel s q d n)

-- the same for a part: no more bytes can be left than its end
unfoldable pub walk : Part → ℕ → ℕ → ℕ → Result Walked
walk s p d n = walk_fuel s.end s p d n
