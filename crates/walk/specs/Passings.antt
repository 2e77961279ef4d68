-- What it comes to when structures are passed over.
use Rattle.std.specs.Prelude.{ℕ, length}
use Rattle.meaning.specs.Answer.{Result, accepted, and_then}
use Rattle.meaning.specs.Walk.{Walked as Rows}
use Rattle.walk.specs.declared.walking.Reached.{Reached}

-- the place behind the last structure, and how many there are, nested ones included
pub record Passage : Type 0 where
  pub behind : ℕ
  pub number : ℕ

-- the passage of a walk, or its refusal
abbrev pub passage : Result Rows → Result Passage
passage w = and_then w (λ x. accepted (record { behind = x.next; number = length x.rows }))

abbrev pub passed_of : Reached ℕ → Passage
passed_of r = record { behind = r.behind; number = r.seen }
