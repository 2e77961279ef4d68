-- What every writer of text does: the text stands in the buffer from a place on, every other byte of it stays, and the
-- answer is the place behind the text.
use Rattle.std.specs.Prelude.{ℕ, ◌+◌, ◌≤◌, ◌≡◌, List, length}
use Rattle.meaning.specs.Bytes.{splice}

-- the text fits into the buffer from the place on
pub record Room (buffer : List ℕ) (at : ℕ) (text : List ℕ) : Type 0 where
  pub fits : at + length text ≤ length buffer

-- the buffer before and after, and the answer
pub record Wrote (before : List ℕ) (at : ℕ) (text after : List ℕ) (behind : ℕ) : Type 0 where
  pub bytes : after ≡ splice before at text
  pub place : behind ≡ at + length text
