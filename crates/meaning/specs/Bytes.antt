-- Numbers in bytes, the PCF part of a message, and the splice that all writing is.
-- A number has four bytes, the highest first, and no sign. No rule looks into a 64-bit value: the table of structure types
-- asks only for its eight bytes.
use Rattle.std.specs.Prelude.{ℕ, ◌+◌, ◌*◌, ◌/◌, ◌%◌, cond, List, [], ◌∷◌, ◌++◌, length, get_or, take, drop, leb}

-- the number in the four bytes at `at`
unfoldable pub number : List ℕ → ℕ → ℕ
number s at = ((get_or s at 0 * 256 + get_or s (at + 1) 0) * 256 + get_or s (at + 2) 0) * 256 + get_or s (at + 3) 0

-- the four bytes of a number
unfoldable pub bytes4 : ℕ → List ℕ
bytes4 v = v / 16777216 % 256 ∷ v / 65536 % 256 ∷ v / 256 % 256 ∷ v % 256 ∷ []

-- numbers one behind the other, four bytes each
unfoldable pub words : List ℕ → List ℕ
words [] = []
words (x ∷ xs) = bytes4 x ++ words xs

-- d with the bytes s written over it from `at` on: before `at` and behind s every byte of d stays
unfoldable pub splice : List ℕ → ℕ → List ℕ → List ℕ
splice d at s = take at d ++ s ++ drop (at + length s) d

-- What is walked: the message's bytes up to the PCF part's end, the place of the part's first byte and the place behind its last
-- one. Places are counted from the message's first byte.
pub record Part : Type 0 where
  pub bytes : List ℕ
  pub start : ℕ
  pub end : ℕ

-- the part that all bytes of a list are
abbrev pub whole : List ℕ → Part
whole s = record { bytes = s; start = 0; end = length s }

-- the part that the first bytes of a buffer are: a plain message, or all of an embedded one, whose header is read in it
abbrev pub part_of : List ℕ → ℕ → Part
part_of buf end = record { bytes = take end buf; start = 0; end = end }

-- the number at a place of a part
abbrev pub num : Part → ℕ → ℕ
num s at = number s.bytes at

-- a field of a structure that ends at `behind`: 0 where the structure is too short to have the field
unfoldable pub word : Part → ℕ → ℕ → ℕ
word s behind at = cond (leb (at + 4) behind) (num s at) 0

-- the bytes b with the number v at `at`, written as the part s has its numbers. All parts have them alike, highest byte
-- first, so that nothing of s is used.
unfoldable pub store : Part → List ℕ → ℕ → ℕ → List ℕ
store s b at v = splice b at (bytes4 v)

-- the bytes b with the number that s has at `at`, one higher
abbrev pub bump : Part → List ℕ → ℕ → List ℕ
bump s b at = store s b at (num s at + 1)
