-- Compose: a trace-route message from a sheet and eight values; embedded, with an embedding and user data as well.
use Rattle.std.specs.Prelude.{ℕ, Bool, ◌&&◌, List, [], ◌∷◌, ◌++◌, length, eqb}
use Rattle.meaning.specs.Bytes.{words, splice}
use Rattle.meaning.specs.Names.{MQCFT_INTEGER, MQCFT_GROUP, MQCFT_TRACE_ROUTE, MQCFT_REPORT, MQCFH_STRUC_LENGTH, MQCFH_VERSION_3, MQCMD_TRACE_ROUTE, MQCMD_ACTIVITY_MSG, MQCFC_LAST, MQCC_OK, MQRC_NONE, MQGACF_TRACE_ROUTE, attributes, bad_sheet, bad_attribute, no_room}
use Rattle.meaning.specs.Answer.{Result, accepted, refused, unless}
use Rattle.meaning.specs.Layout.{room_for, Embedding, laid_out, laid_out_length}
use Rattle.meaning.specs.Trace.{Terms, sheet_ok, in_range}

-- the nine fields of a header with one structure, of a type and a command
unfoldable pub header_fields : ℕ → ℕ → List ℕ
header_fields type command =
    type ∷ MQCFH_STRUC_LENGTH ∷ MQCFH_VERSION_3 ∷ command ∷ 1 ∷ MQCFC_LAST ∷ MQCC_OK ∷ MQRC_NONE ∷ 1 ∷ []

-- the header of a trace-route message; the header of an activity report
unfoldable pub trace_header_fields : List ℕ
trace_header_fields = header_fields MQCFT_TRACE_ROUTE MQCMD_TRACE_ROUTE

unfoldable pub report_header_fields : List ℕ
report_header_fields = header_fields MQCFT_REPORT MQCMD_ACTIVITY_MSG

-- the TraceRoute group of eight members
unfoldable pub group_fields : List ℕ
group_fields = MQCFT_GROUP ∷ 16 ∷ MQGACF_TRACE_ROUTE ∷ attributes ∷ []

-- integer structures with these identifiers and values
unfoldable pub integers : List ℕ → List ℕ → List ℕ
integers [] v = []
integers (i ∷ is) [] = []
integers (i ∷ is) (v ∷ vs) = MQCFT_INTEGER ∷ 16 ∷ i ∷ v ∷ integers is vs

-- the 45 numbers of the part: header, group, then the eight in the rules' order
unfoldable pub composed_fields : List ℕ → List ℕ → List ℕ
composed_fields sheet v = trace_header_fields ++ (group_fields ++ integers sheet v)

unfoldable pub composed : List ℕ → List ℕ → List ℕ
composed sheet v = words (composed_fields sheet v)

abbrev pub composed_length : ℕ
composed_length = 180

-- the message: the part in its layout; and the message's length
abbrev pub composed_message : Terms → List ℕ → Embedding → List ℕ → List ℕ
composed_message tm v e user = laid_out tm.layout.form e user (composed tm.sheet v)

abbrev pub message_length : Terms → List ℕ → ℕ
message_length tm user = laid_out_length tm.layout.form (length user) composed_length

-- there are eight values, each a 32-bit number by the entry's type, and each in its range
unfoldable pub values_ok : List ℕ → Bool
values_ok v = eqb (length v) attributes && in_range v

-- what Compose answers: the length written, or 17, 8, 12
unfoldable pub compose_answer : Terms → List ℕ → List ℕ → List ℕ → Result ℕ
compose_answer tm v user buf =
    unless (sheet_ok tm.sheet) (refused bad_sheet 0)
    (unless (values_ok v) (refused bad_attribute 0)
    (unless (room_for (message_length tm user) (length buf)) (refused no_room 0) (accepted (message_length tm user))))

-- the buffer after it: the bytes behind the message stay, and a refusal changes nothing
abbrev pub composed_buffer : Terms → List ℕ → Embedding → List ℕ → List ℕ → Result ℕ → List ℕ
composed_buffer tm v e user buf (accepted n) = splice buf 0 (composed_message tm v e user)
composed_buffer tm v e user buf (refused n p) = buf

-- COMPOSE
pub record Composed : Type 0 where
  pub answer : Result ℕ
  pub buffer : List ℕ

unfoldable pub compose : Terms → List ℕ → Embedding → List ℕ → List ℕ → Composed
compose tm v e user buf = record {
  answer = compose_answer tm v user buf;
  buffer = composed_buffer tm v e user buf (compose_answer tm v user buf);
}
