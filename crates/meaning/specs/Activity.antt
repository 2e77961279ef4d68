-- The n-th Activity group and the named strings in it, as parts of the message.
use Rattle.std.specs.Prelude.{ℕ, ◌+◌, Bool, true, false, ◌||◌, List, [], ◌∷◌, length, get_or, take, drop, eqb}
use Rattle.meaning.specs.Bytes.{Part, num}
use Rattle.meaning.specs.Names.{MQCFT_STRING}
use Rattle.meaning.specs.Answer.{Result, accepted, refused, cons_if}
use Rattle.meaning.specs.Structure.{Row}
use Rattle.meaning.specs.Layout.{part_in}
use Rattle.meaning.specs.Trace.{Top, activities, direct_in, named, Terms, Trace, read_trace}

-- a part of the message: its place and length, and its bytes
pub record Span : Type 0 where
  pub place : ℕ
  pub length : ℕ

abbrev pub bytes_in : List ℕ → Span → List ℕ
bytes_in buf s = take s.length (drop s.place buf)

-- A group is as long as its own structure and all that are inside it.
unfoldable pub size_of : List Row → ℕ
size_of [] = 0
size_of (r ∷ rs) = r.size + size_of rs

abbrev pub span_of : Top → Span
span_of t = record { place = t.row.place; length = t.row.size + size_of t.inside }

-- what stands for a group that is not there: nothing, at the message's first byte
abbrev pub no_group : Top
no_group = record { row = record { depth = 0; place = 0; kind = 0; parameter = 0; size = 0; members = 0 }; inside = [] }

-- the n-th Activity group, from 0
abbrev pub nth_activity : Result Trace → ℕ → Top
nth_activity (accepted t) n = get_or (activities t.rows) n no_group
nth_activity (refused k p) n = no_group

-- THE N-TH ACTIVITY GROUP: empty if there is none or if message or sheet is refused as in Read
unfoldable pub activity_group : Terms → List ℕ → ℕ → ℕ → Span
activity_group tm buf len n = span_of (nth_activity (read_trace tm buf len) n)

-- TRAILING BLANKS AND ZERO BYTES removed, in any mixture: a byte that a name does not end with
unfoldable pub is_pad : ℕ → Bool
is_pad x = eqb x 0x20 || eqb x 0x00

-- a byte in front of a name that is trimmed already
abbrev pub trimmed_if : Bool → ℕ → List ℕ → List ℕ
trimmed_if true x [] = []
trimmed_if true x (y ∷ ys) = x ∷ y ∷ ys
trimmed_if false x ys = x ∷ ys

unfoldable pub trimmed : List ℕ → List ℕ
trimmed [] = []
trimmed (x ∷ xs) = trimmed_if (is_pad x) x (trimmed xs)

-- the strings among rows
unfoldable pub strings : List Row → List Row
strings [] = []
strings (r ∷ rs) = cons_if (eqb r.kind MQCFT_STRING) r (strings rs)

-- a part of the message, or the lent substitute whole
pub data Name : Type 0 where
  in_message : Span → Name
  substitute : Name

-- the data of the string at p: StringLength bytes from p + 20 on
abbrev pub string_at : Part → ℕ → Span
string_at m p = record { place = p + 20; length = num m (p + 16) }

abbrev pub trimmed_at : List ℕ → Span → Span
trimmed_at buf s = record { place = s.place; length = length (trimmed (bytes_in buf s)) }

-- the first of the strings with the identifier
abbrev pub first_name : Part → List ℕ → List Row → Name
first_name m buf [] = substitute
first_name m buf (r ∷ rs) = in_message (trimmed_at buf (string_at m r.place))

-- A NAMED STRING: the first direct string with the identifier in the n-th Activity group, without its trailing blanks and
-- zero bytes; or the substitute, if message or sheet is refused or there is no such string
unfoldable pub name_of : Terms → List ℕ → ℕ → ℕ → ℕ → Name
name_of tm buf len n id =
    first_name (part_in tm.layout buf len) buf (named id (strings (direct_in (nth_activity (read_trace tm buf len) n).inside)))

-- the bytes of a name: a part of the message's, or all of the lent substitute's
abbrev pub name_bytes : List ℕ → List ℕ → Name → List ℕ
name_bytes buf other (in_message s) = bytes_in buf s
name_bytes buf other substitute = other
