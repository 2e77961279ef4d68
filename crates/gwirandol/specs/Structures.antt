-- What the functions for structures answer, and what they leave.
use Rattle.std.specs.Prelude.{ℕ, ◌≡◌, List, [], ◌∷◌, length}
use Rattle.meaning.specs.Answer.{Result, accepted, refused, and_then}
use Rattle.meaning.specs.Layout.{Layout, part_in}
use Rattle.meaning.specs.Message.{scan, check, tally, Stepped, step}
use Rattle.meaning.specs.Listing.{listing_text}
use Rattle.listing.specs.Entries.{filled}
use Rattle.codes.specs.Codes.{code}

-- TALLY: the check's answer, and the counts
pub record Tallies (l : Layout) (buf : List ℕ) (len r : ℕ) (counts : List ℕ) : Type 0 where
  pub answer : r ≡ code (check l buf len)
  pub counted : counts ≡ tally l buf len

-- LIST: the text's length, and the text from the first byte on
pub record Lists (l : Layout) (buf : List ℕ) (len : ℕ) (before : List ℕ) (r : ℕ) (after : List ℕ) : Type 0 where
  pub answer : r ≡ code (and_then (scan l buf len) (λ rows. accepted (length (listing_text (part_in l buf len) len rows))))
  pub bytes : after ≡ filled l before buf len (scan l buf len)

-- ONE STRUCTURE: 0, or the refusal's number
abbrev pub step_number : Result Stepped → ℕ
step_number (accepted s) = 0
step_number (refused n p) = n

-- the seven numbers of a row; a refusal leaves them
abbrev pub row_in : List ℕ → Result Stepped → List ℕ
row_in before (accepted s) =
    s.row.depth ∷ s.row.place ∷ s.row.kind ∷ s.row.parameter ∷ s.row.size ∷ s.row.members ∷ s.next ∷ []
row_in before (refused n p) = before

pub record Steps (l : Layout) (buf : List ℕ) (len place depth : ℕ) (before : List ℕ) (r : ℕ) (after : List ℕ) : Type 0 where
  pub answer : r ≡ step_number (step l buf len place depth)
  pub row : after ≡ row_in before (step l buf len place depth)
