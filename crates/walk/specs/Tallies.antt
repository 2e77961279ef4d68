-- The walk with a count for each type.
use Rattle.std.specs.Prelude.{ℕ, suc, ◌+◌, ◌≤◌, List, [], ◌∷◌, length, get_or, set}
use Rattle.meaning.specs.Answer.{Result, accepted, and_then}
use Rattle.meaning.specs.Structure.{Row}
use Rattle.meaning.specs.Walk.{Walked as Rows}
use Rattle.meaning.specs.Message.{count_of}
use Rattle.walk.specs.declared.walking.Reached.{Reached}

-- the counts, which are of the types from k on, with what the rows add to each
unfoldable pub added : ℕ → List ℕ → List Row → List ℕ
added k [] rows = []
added k (x ∷ xs) rows = (x + count_of k rows) ∷ added (suc k) xs rows

-- one more of the type k
unfoldable pub raised : List ℕ → ℕ → List ℕ
raised t k = set t k (get_or t k 0 + 1)

-- the place behind the last structure, and the counts
pub record Tally : Type 0 where
  pub behind : ℕ
  pub counts : List ℕ

-- what a walk that starts with the counts t comes to, or its refusal
abbrev pub tallied : List ℕ → Result Rows → Result Tally
tallied t w = and_then w (λ x. accepted (record { behind = x.next; counts = added 0 t x.rows }))

abbrev pub walked_of : Reached (List ℕ) → Tally
walked_of r = record { behind = r.behind; counts = r.seen }

-- no count is above p: each structure counted lies before p
abbrev pub Low : List ℕ → ℕ → Type 0
Low t p = (k : ℕ) → get_or t k 0 ≤ p

-- no count can run over
pub record Walkable (s : List ℕ) (place : ℕ) (t : List ℕ) : Type 0 where
  pub most : length s ≤ 65536
  pub low : Low t place
