-- The marks of attributes: an attribute's place, or that it is absent or at fault.
use Rattle.std.specs.Prelude.{ℕ, ◌+◌, ◌≤◌, ◌<◌, ◌≡◌, Bool, true, false, cond, List, [], ◌∷◌, map, length, get_or, eqb, Option, Some, None}
use Rattle.std.specs.List.{list_all}
use Rattle.meaning.specs.Names.{MQCFT_INTEGER}
use Rattle.meaning.specs.Answer.{Result, accepted, refused}
use Rattle.meaning.specs.Structure.{Row}
use Rattle.meaning.specs.Walk.{Walked}
use Rattle.meaning.specs.Trace.{direct_in}
use Rattle.trace.specs.declared.members.Mark.{Mark}
use Rattle.trace.specs.declared.members.Mark.TheVariants.{Absent, Fault, At}

-- after one more member with the identifier, of a type and at a place: only the first one, and only an integer, has a place
unfoldable pub onto : Mark → ℕ → ℕ → Mark
onto Absent kind place = cond (eqb kind MQCFT_INTEGER) (At place) Fault
onto Fault kind place = Fault
onto (At p) kind place = Fault

-- after one more member, of a type, with a parameter and at a place
unfoldable pub noted : ℕ → Mark → ℕ → ℕ → ℕ → Mark
noted id mark kind parameter place = cond (eqb parameter id) (onto mark kind place) mark

-- after members
unfoldable pub noted_in : ℕ → Mark → List Row → Mark
noted_in id mark [] = mark
noted_in id mark (r ∷ rs) = noted_in id (noted id mark r.kind r.parameter r.place) rs

-- after the direct members that a walk has gone over
abbrev pub mark_from : ℕ → Mark → Result Walked → Mark
mark_from id mark (accepted w) = noted_in id mark (direct_in w.rows)
mark_from id mark (refused k p) = Absent

-- the marks `after` are those before, each after one more member
pub record Noted (sheet : List ℕ) (marks : List Mark) (kind parameter place : ℕ) (after : List Mark) : Type 0 where
  pub eight : length after ≡ 8
  pub each : (j : ℕ) → j < 8 → get_or after j Absent ≡ noted (get_or sheet j 0) (get_or marks j Absent) kind parameter place

-- these are the marks of the identifiers after a walk
pub record Marked (sheet : List ℕ) (w : Result Walked) (marks : List Mark) : Type 0 where
  pub eight : length marks ≡ 8
  pub each : (j : ℕ) → j < 8 → get_or marks j Absent ≡ mark_from (get_or sheet j 0) Absent w

-- an attribute has a place, and which
abbrev pub is_at : Mark → Bool
is_at Absent = false
is_at Fault = false
is_at (At p) = true

abbrev pub place_in : Mark → ℕ
place_in Absent = 0
place_in Fault = 0
place_in (At p) = p

-- the places, if none is absent or at fault
abbrev pub all_places : List Mark → Option (List ℕ)
all_places marks = cond (list_all is_at marks) (Some (map place_in marks)) None

-- the integers at these places end in the message
abbrev pub InReach : ℕ → List ℕ → Type 0
InReach len places = (j : ℕ) → j < 8 → get_or places j 0 + 16 ≤ len
