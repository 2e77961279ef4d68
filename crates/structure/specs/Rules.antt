-- What a length rule asks of a structure.
use Rattle.std.specs.Prelude.{ℕ, ◌+◌, ◌*◌, ◌≤◌, ◌<◌, ◌≡◌, Bool, false, cond, ◌&&◌, List, leb, eqb, length}
use Rattle.meaning.specs.Bytes.{number}
use Rattle.meaning.specs.Structure.{small, length_rule}
use Rattle.structure.specs.declared.table.Rule.{Rule}
use Rattle.structure.specs.declared.table.Rule.TheVariants.{Exact, Values, Data, Strings, Group, Unknown}

-- A structure of n bytes keeps the rule; `f k` is its field k bytes from its start.
abbrev pub kept : Rule → ℕ → (ℕ → ℕ) → Bool
kept (Exact m) n f = eqb n m
kept (Values each) n f = small (f 12) && eqb n (16 + each * f 12)
kept (Data at) n f = small (f at) && leb (at + 4 + f at) n
kept Strings n f = small (f 16) && (small (f 20) && leb (24 + f 16 * f 20) n)
kept Group n f = small (f 12) && eqb n 16
kept Unknown n f = false

-- The rule judges every structure as the table does for the type t.
abbrev pub JudgesAs : ℕ → Rule → Type 0
JudgesAs t r = (n : ℕ) (f : ℕ → ℕ) → kept r n f ≡ length_rule t n (f 12) (f 16) (f 20)

-- the field k bytes from the start of a structure of n bytes at p: 0 where the structure is too short to have it
unfoldable pub field_of : List ℕ → ℕ → ℕ → ℕ → ℕ
field_of s p n k = cond (leb (p + k + 4) (p + n)) (number s (p + k)) 0

-- From p to `behind` there are 16 bytes or more of s, and the number at 12 is `first`.
pub record Fields (s : List ℕ) (p behind first : ℕ) : Type 0 where
  pub least : p + 16 ≤ behind
  pub there : behind ≤ length s
  pub read : first ≡ number s (p + 12)

-- r is the product, which leaves room in 64 bits for the fixed part
pub record Product (n m r : ℕ) : Type 0 where
  pub whole : r ≡ n * m
  pub room : r < 9223372036854775808
