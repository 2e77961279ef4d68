-- The whole listing.
use Rattle.std.specs.Prelude.{ℕ, ◌+◌, ◌≤◌, ◌≡◌, List, [], length}
use Rattle.meaning.specs.Bytes.{Part}
use Rattle.meaning.specs.Answer.{Result, accepted, refused}
use Rattle.meaning.specs.Structure.{Row}
use Rattle.meaning.specs.Message.{rows_of}
use Rattle.meaning.specs.Listing.{listing_text}

-- the part that starts at a place of the bytes s and ends with them
abbrev pub part_from : List ℕ → ℕ → Part
part_from s start = record { bytes = s; start = start; end = length s }

-- the text of a message of len bytes whose part was checked
abbrev pub text_of : Part → ℕ → Result (List Row) → List ℕ
text_of m len (accepted rows) = listing_text m len rows
text_of m len (refused n p) = []

-- what the check has shown: the part of s from `start` on is sound and has `count` structures
pub record Checked (s : List ℕ) (start count : ℕ) : Type 0 where
  pub rows : List Row
  pub sound : rows_of (part_from s start) ≡ accepted rows
  pub header : start + 36 ≤ length s
  pub small : length s ≤ 65536
  pub counted : count ≡ length rows
