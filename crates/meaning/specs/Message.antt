-- A whole message: the header, the refusals 1 to 5 and 18, check, tally and the walk one structure at a time.
use Rattle.std.specs.Prelude.{ℕ, zero, suc, ◌+◌, Bool, cond, ◌&&◌, List, [], ◌∷◌, length, replicate, leb, eqb}
use Rattle.meaning.specs.Bytes.{Part, num}
use Rattle.meaning.specs.Names.{bad_header, left_over, MQCFH_STRUC_LENGTH, MQCFH_VERSION_3}
use Rattle.meaning.specs.Answer.{Result, accepted, refused, and_then, unless}
use Rattle.meaning.specs.Structure.{Row, small, structure_at}
use Rattle.meaning.specs.Walk.{Walked, walk}
use Rattle.meaning.specs.Layout.{Layout, located}

-- the header's nine fields, each by its offset from the part's first byte
abbrev pub field : Part → ℕ → ℕ
field m at = num m (m.start + at)

abbrev pub header_type : Part → ℕ
header_type m = field m 0

abbrev pub struc_length : Part → ℕ
struc_length m = field m 4

abbrev pub version : Part → ℕ
version m = field m 8

abbrev pub command : Part → ℕ
command m = field m 12

abbrev pub msg_seq_number : Part → ℕ
msg_seq_number m = field m 16

abbrev pub control : Part → ℕ
control m = field m 20

abbrev pub comp_code : Part → ℕ
comp_code m = field m 24

abbrev pub reason : Part → ℕ
reason m = field m 28

abbrev pub parameter_count : Part → ℕ
parameter_count m = field m 32

-- the place of ParameterCount, and of the first structure
abbrev pub count_place : Part → ℕ
count_place m = m.start + 32

abbrev pub first_place : Part → ℕ
first_place m = m.start + 36

-- sound: StrucLength 36, Version 1 to 3, ParameterCount below 2^31
unfoldable pub header_ok : Part → Bool
header_ok m =
    eqb (struc_length m) MQCFH_STRUC_LENGTH && (leb 1 (version m) && (leb (version m) MQCFH_VERSION_3 && small (parameter_count m)))

-- nothing may follow: bytes left over are 5 at the first one
unfoldable pub closed : ℕ → Walked → Result (List Row)
closed end w = unless (eqb w.next end) (refused left_over w.next) (accepted w.rows)

-- the rows of a part: 2, then 3 and 4 at the lowest place, then 5
unfoldable pub rows_of : Part → Result (List Row)
rows_of m = unless (header_ok m) (refused bad_header 0) (and_then (walk m (first_place m) 1 (parameter_count m)) (closed m.end))

-- the rows of a message: 1 and 18, then the part's
unfoldable pub scan : Layout → List ℕ → ℕ → Result (List Row)
scan l buf len = and_then (located l buf len) rows_of

-- CHECK: the number of structures, nested ones included
unfoldable pub check : Layout → List ℕ → ℕ → Result ℕ
check l buf len = and_then (scan l buf len) (λ rows. accepted (length rows))

-- how many rows have the type k
unfoldable pub count_of : ℕ → List Row → ℕ
count_of k [] = 0
count_of k (r ∷ rs) = cond (eqb r.kind k) 1 0 + count_of k rs

-- the counts of n types, from k on
unfoldable pub counts_from : ℕ → ℕ → List Row → List ℕ
counts_from zero k rows = []
counts_from (suc n) k rows = count_of k rows ∷ counts_from n (suc k) rows

-- a count for each type from 0 to 26; nested structures count too
abbrev pub types : ℕ
types = 27

abbrev pub tally_of : Result (List Row) → List ℕ
tally_of (accepted rows) = counts_from types 0 rows
tally_of (refused n p) = replicate types 0

-- TALLY: all zero if the message is refused; the refusal itself is the check's
unfoldable pub tally : Layout → List ℕ → ℕ → List ℕ
tally l buf len = tally_of (scan l buf len)

-- a row and the place behind that one structure
pub record Stepped : Type 0 where
  pub row : Row
  pub next : ℕ

abbrev pub step_in : Part → ℕ → ℕ → Result Stepped
step_in m p d = and_then (structure_at m p d) (λ r. accepted (record { row = r; next = p + r.size }))

-- ONE STRUCTURE AT A TIME: for any place and depth the row there and the place behind, or 1 or 18, then 3 or 4
unfoldable pub step : Layout → List ℕ → ℕ → ℕ → ℕ → Result Stepped
step l buf len p d = and_then (located l buf len) (λ m. step_in m p d)
