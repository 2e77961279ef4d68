-- What a function that prints into a lent buffer leaves there, and what it answers.
use Rattle.std.specs.Prelude.{ℕ, ◌≤◌, ◌≡◌, List, length, take}
use Rattle.text.specs.Wrote.{Wrote}

-- The text stands in the buffer from its first byte on, every other byte stays, and the answer is the text's length. The last
-- three fields follow from the first, and are stated so that a caller may lend the text on.
pub record Prints (text before after : List ℕ) (r : ℕ) : Type 0 where
  pub wrote : Wrote before 0 text after r
  pub bytes : take r after ≡ text
  pub within : r ≤ length after
  pub counted : r ≡ length (take r after)
