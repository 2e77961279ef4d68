-- One structure: the table of eleven types, and the structure at a place.
use Rattle.std.specs.Prelude.{ℕ, ◌+◌, ◌*◌, ◌%◌, Bool, true, false, cond, ◌&&◌, leb, ltb, eqb}
use Rattle.meaning.specs.Bytes.{Part, num, word}
use Rattle.meaning.specs.Names.{two_to31, most_depth, bad_structure, too_deep, MQCFT_INTEGER, MQCFT_STRING, MQCFT_INTEGER_LIST, MQCFT_STRING_LIST, MQCFT_BYTE_STRING, MQCFT_INTEGER_FILTER, MQCFT_STRING_FILTER, MQCFT_BYTE_STRING_FILTER, MQCFT_GROUP, MQCFT_INTEGER64, MQCFT_INTEGER64_LIST}
use Rattle.meaning.specs.Answer.{Result, accepted, refused}

-- A structure as the listing shows it: depth (1 at the top), place, Type, Parameter, StrucLength; and how many structures
-- follow inside it: a group's ParameterCount, 0 for every other type.
pub record Row : Type 0 where
  pub depth : ℕ
  pub place : ℕ
  pub kind : ℕ
  pub parameter : ℕ
  pub size : ℕ
  pub members : ℕ

-- a count or a length is below 2^31
abbrev pub small : ℕ → Bool
small n = ltb n two_to31

-- The table of eleven structure types: may a structure of the type t have the StrucLength n? Its fields behind Parameter
-- are a, b and c. Every other type is refused. The smallest length of all is 16.
unfoldable pub length_rule : ℕ → ℕ → ℕ → ℕ → ℕ → Bool
length_rule t n a b c =
    cond (eqb t MQCFT_INTEGER) (eqb n 16)
    (cond (eqb t MQCFT_STRING) (small b && leb (20 + b) n)
    (cond (eqb t MQCFT_INTEGER_LIST) (small a && eqb n (16 + 4 * a))
    (cond (eqb t MQCFT_STRING_LIST) (small b && (small c && leb (24 + b * c) n))
    (cond (eqb t MQCFT_BYTE_STRING) (small a && leb (16 + a) n)
    (cond (eqb t MQCFT_INTEGER_FILTER) (eqb n 20)
    (cond (eqb t MQCFT_STRING_FILTER) (small c && leb (24 + c) n)
    (cond (eqb t MQCFT_BYTE_STRING_FILTER) (small b && leb (20 + b) n)
    (cond (eqb t MQCFT_GROUP) (small a && eqb n 16)
    (cond (eqb t MQCFT_INTEGER64) (eqb n 24)
    (cond (eqb t MQCFT_INTEGER64_LIST) (small a && eqb n (16 + 8 * a))
    false))))))))))

-- the row of a structure at p of depth d, of type t, StrucLength n, Parameter k, whose next field is a
abbrev pub row_at : ℕ → ℕ → ℕ → ℕ → ℕ → ℕ → Row
row_at p d t n k a = record { depth = d; place = p; kind = t; parameter = k; size = n; members = cond (eqb t MQCFT_GROUP) a 0 }

-- 3 comes before 4: a structure that is not sound is 3, however deep
abbrev pub judged : Bool → Bool → ℕ → Row → Result Row
judged false deep p r = refused bad_structure p
judged true true p r = refused too_deep p
judged true false p r = accepted r

-- every StrucLength is a multiple of 4, whatever the type
abbrev pub aligned : ℕ → Bool
aligned n = eqb (n % 4) 0

-- A structure from its fields: sound if it ends at or before the part's end, its StrucLength is a multiple of 4 and
-- keeps its type's rule; a group is not deeper than 8.
unfoldable pub judge : ℕ → ℕ → ℕ → ℕ → ℕ → ℕ → ℕ → ℕ → ℕ → Result Row
judge end p d t n k a b c =
    judged (leb (p + n) end && (aligned n && length_rule t n a b c)) (eqb t MQCFT_GROUP && ltb most_depth d) p (row_at p d t n k a)

-- The structure at the place p and depth d: its row, or 3 or 4 at p. The fields stand at 0 Type, 4 StrucLength,
-- 8 Parameter, then 12, 16 and 20. Where fewer than 16 bytes are left no length rule can be kept: that is 3.
unfoldable pub structure_at : Part → ℕ → ℕ → Result Row
structure_at s p d =
    judge s.end p d (num s p) (num s (p + 4)) (num s (p + 8))
    (word s (p + num s (p + 4)) (p + 12)) (word s (p + num s (p + 4)) (p + 16)) (word s (p + num s (p + 4)) (p + 20))
