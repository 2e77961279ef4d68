-- How a message is laid out: the PCF part alone, or with an embedded header (IBM's MQEPH) in front of it and user data behind
-- it. The caller says which; it is never guessed. The part is what all other rules are about, so that no other rule asks for
-- the form: only what is said of the whole message (its room, its length, its user data) does.
use Rattle.std.specs.Prelude.{ℕ, ◌+◌, Bool, true, ◌&&◌, List, [], ◌∷◌, ◌++◌, length, get_or, take, drop, replicate, leb, eqb}
use Rattle.meaning.specs.Bytes.{Part, part_of, num, words, store}
use Rattle.meaning.specs.Names.{most_bytes, MQCFH_STRUC_LENGTH, embedded_header_length, MQEPH_STRUC_LENGTH_FIXED, MQEPH_VERSION_1, bad_length, bad_embedded_header}
use Rattle.meaning.specs.Answer.{Result, accepted, refused, unless}
use Rattle.meaning.specs.Structure.{aligned}

pub data Form : Type 0 where
  plain embedded : Form

-- what the caller says of a message
pub record Layout : Type 0 where
  pub form : Form

-- the layout of a report about such a message: a header around it, when it is sent, is the caller's
abbrev pub report_layout : Layout → Layout
report_layout l = record { form = plain }

-- THE EMBEDDED HEADER has 32 bytes: identifier (0), Version (4), StrucLength (8), Encoding (12), CodedCharSetId (16),
-- Format (20, eight bytes), Flags (28). Its identifier is "EPH ", in bytes.
abbrev pub identifier : List ℕ
identifier = 0x45 ∷ 0x50 ∷ 0x48 ∷ 0x20 ∷ []

unfoldable pub is_identified : List ℕ → Bool
is_identified m = eqb (get_or m 0 0) 0x45 && (eqb (get_or m 1 0) 0x50 && (eqb (get_or m 2 0) 0x48 && eqb (get_or m 3 0) 0x20))

-- where the PCF part of a message m starts, and where it ends: at the embedded header's StrucLength, which is counted from the
-- message's first byte
abbrev pub start_of : Form → ℕ
start_of plain = 0
start_of embedded = embedded_header_length

abbrev pub end_of : Form → Part → ℕ
end_of plain m = m.end
end_of embedded m = num m 8

-- sound: identifier, Version 1, a StrucLength of at least 68, not above the message and a multiple of 4
unfoldable pub embedded_ok : Form → Part → Bool
embedded_ok plain m = true
embedded_ok embedded m =
    is_identified m.bytes && (eqb (num m 4) MQEPH_VERSION_1 && (leb MQEPH_STRUC_LENGTH_FIXED (num m 8) && (leb (num m 8) m.end && aligned (num m 8))))

-- THE PART of the message in the first len bytes of the lent buffer
abbrev pub part_in : Layout → List ℕ → ℕ → Part
part_in l buf len = record {
  bytes = take (end_of l.form (part_of buf len)) buf;
  start = start_of l.form;
  end = end_of l.form (part_of buf len);
}

-- a length is not above the buffer or 65,536, and there is room for what comes before the structures: 36 bytes, embedded 68
unfoldable pub length_ok : Layout → List ℕ → ℕ → Bool
length_ok l buf len = leb len (length buf) && (leb len most_bytes && leb (start_of l.form + MQCFH_STRUC_LENGTH) len)

-- a whole message that is to have n bytes is not above 65,536 or so much room; where it is, 12
abbrev pub room_for : ℕ → ℕ → Bool
room_for n room = leb n room && leb n most_bytes

-- 1, then 18, then the part
unfoldable pub located : Layout → List ℕ → ℕ → Result Part
located l buf len =
    unless (length_ok l buf len) (refused bad_length 0)
    (unless (embedded_ok l.form (part_of buf len)) (refused bad_embedded_header 0) (accepted (part_in l buf len)))

-- THE USER DATA: what stands behind the part of a message
abbrev pub user_data : Part → List ℕ → ℕ → List ℕ
user_data m buf len = drop m.end (take len buf)

-- The four fields of an embedded header that no check looks at.
pub record Embedding : Type 0 where
  pub encoding : ℕ
  pub coded_char_set_id : ℕ
  pub format : List ℕ
  pub flags : ℕ

-- what stands for that of a plain message
abbrev pub no_embedding : Embedding
no_embedding = record { encoding = 0; coded_char_set_id = 0; format = replicate 8 0; flags = 0 }

-- the embedding of a message m
unfoldable pub embedding_of : Form → Part → Embedding
embedding_of plain m = no_embedding
embedding_of embedded m = record { encoding = num m 12; coded_char_set_id = num m 16; format = take 8 (drop 20 m.bytes); flags = num m 28 }

-- the embedded header of a part that ends at `end`
unfoldable pub embedded_header : Embedding → ℕ → List ℕ
embedded_header e end =
    identifier ++ (words (MQEPH_VERSION_1 ∷ end ∷ e.encoding ∷ e.coded_char_set_id ∷ []) ++ (e.format ++ words (e.flags ∷ [])))

-- a part p laid out as a message, and how long that is; a plain message has neither embedding nor user data
unfoldable pub laid_out : Form → Embedding → List ℕ → List ℕ → List ℕ
laid_out plain e user p = p
laid_out embedded e user p = embedded_header e (embedded_header_length + length p) ++ (p ++ user)

abbrev pub laid_out_length : Form → ℕ → ℕ → ℕ
laid_out_length plain user size = size
laid_out_length embedded user size = embedded_header_length + size + user

-- a part m that grows by n bytes: the bytes b with the StrucLength of the embedded header raised by as much
unfoldable pub lengthened : Form → Part → ℕ → List ℕ → List ℕ
lengthened plain m n b = b
lengthened embedded m n b = store m b 8 (m.end + n)
