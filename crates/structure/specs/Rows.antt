-- A structure as the code hands it out, in the meaning's terms.
use Rattle.std.specs.Prelude.{ℕ, ◌+◌, ◌%◌, Bool, ◌&&◌, leb, eqb}
use Rattle.meaning.specs.Bytes.{Part, word}
use Rattle.meaning.specs.Answer.{Result, accepted, and_then}
use Rattle.meaning.specs.Structure.{Row as Structure, length_rule}
use Rattle.structure.specs.declared.structure.Row.{Row}
use Rattle.structure.specs.declared.structure.Extent.{Extent}

abbrev pub row_of : Row → Structure
row_of r = record { depth = r.depth; place = r.place; kind = r.kind; parameter = r.parameter; size = r.size; members = r.members }

-- a structure's length, and how many structures follow inside it
pub record Reach : Type 0 where
  pub size : ℕ
  pub members : ℕ

-- the same of a structure that was looked for
abbrev pub reach_of : Result Structure → Result Reach
reach_of x = and_then x (λ r. accepted (record { size = r.size; members = r.members }))

abbrev pub extent_of : Extent → Reach
extent_of x = record { size = x.size; members = x.members }

-- a structure of the type t and of n bytes at p is sound, however deep it is
unfoldable pub sound_in : Part → ℕ → ℕ → ℕ → Bool
sound_in m p t n =
    leb (p + n) m.end
    && (eqb (n % 4) 0 && length_rule t n (word m (p + n) (p + 12)) (word m (p + n) (p + 16)) (word m (p + n) (p + 20)))
