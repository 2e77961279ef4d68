-- A structure with all that is inside it.
use Rattle.std.specs.Prelude.{ℕ, ◌+◌, Bool, true, false}
use Rattle.meaning.specs.Bytes.{Part}
use Rattle.meaning.specs.Answer.{Result, accepted, refused, and_then}
use Rattle.meaning.specs.Structure.{Row, structure_at}
use Rattle.meaning.specs.Walk.{walk}
use Rattle.structure.specs.Rows.{row_of}
use Rattle.trace.specs.declared.passing.Crossing.{Crossing}

-- a structure, and the place behind all that is inside it
pub record Crossed : Type 0 where
  pub row : Row
  pub next : ℕ

-- the structure at p of the depth d
unfoldable pub crossed : Part → ℕ → ℕ → Result Crossed
crossed m p d =
    and_then (structure_at m p d) (λ r. and_then (walk m (p + r.size) (d + 1) r.members) (λ w. accepted (record { row = r; next = w.next })))

abbrev pub crossing_of : Crossing → Crossed
crossing_of x = record { row = row_of x.row; next = x.behind }

-- the place behind what was passed over
abbrev pub behind_of : Result Crossed → Result ℕ
behind_of x = and_then x (λ s. accepted s.next)

-- what is given, and not refused
abbrev pub is_sound : {A : Type 0} → Result A → Bool
is_sound (accepted x) = true
is_sound (refused k p) = false
