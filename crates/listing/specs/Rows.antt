-- The rows of a checked message, as text.
use Rattle.std.specs.Prelude.{ℕ, ◌+◌, ◌≤◌, ◌≡◌, List, length}
use Rattle.meaning.specs.Bytes.{whole, number}
use Rattle.meaning.specs.Answer.{Result, accepted, refused}
use Rattle.meaning.specs.Structure.{Row}
use Rattle.meaning.specs.Walk.{Walked, walked, rows_in, walk}
use Rattle.meaning.specs.Listing.{row_lines}
use Rattle.text.specs.Wrote.{Room, Wrote}
use Rattle.text.specs.declared.Line.{Line}
use Rattle.listing.specs.declared.rows.Behind.{Behind}

-- the line of the structure at a place
abbrev pub line_at : List ℕ → ℕ → ℕ → Line
line_at s p d = record { depth = d; place = p; kind = number s p; parameter = number s (p + 8); size = number s (p + 4) }

-- the place behind a walk
abbrev pub next_in : Result Walked → ℕ
next_in (accepted w) = w.next
next_in (refused n p) = 0

-- What is due: the n structures of depth d from p on are sound, and their lines have room in the buffer from `at` on.
pub record RowsDue (s : List ℕ) (p d n : ℕ) (out : List ℕ) (at : ℕ) : Type 0 where
  pub rows : List Row
  pub next : ℕ
  pub sound : walk (whole s) p d n ≡ walked rows next
  pub start : p ≤ length s
  pub small : length s ≤ 65536
  pub shallow : d ≤ 9
  pub room : Room out at (row_lines rows)

-- What was done: the walk's lines are written, and the answer is the places behind them and behind the walk.
pub record RowsDone (w : Result Walked) (before : List ℕ) (at : ℕ) (after : List ℕ) (r : Behind) : Type 0 where
  pub wrote : Wrote before at (row_lines (rows_in w)) after r.text
  pub next : r.place ≡ next_in w
