-- A refusal in words, for people.
use Rattle.std.specs.Prelude.{ℕ, ◌<◌, ◌≡◌, cond, List, [], ◌∷◌, ◌++◌, length, eqb}
use Prim.Native.String.{String}
use Rattle.meaning.specs.Bytes.{splice}
use Rattle.meaning.specs.Names.{bad_length, bad_header, bad_structure, too_deep, left_over, no_trace_header, no_trace_route, bad_attribute, bad_group, MQFB_MAX_ACTIVITIES, counter_full, no_room, report_too_short, MQFB_UNSUPPORTED_DELIVERY, MQFB_UNSUPPORTED_FORWARDING, MQFB_NOT_FORWARDED, bad_sheet, bad_embedded_header}
use Rattle.meaning.specs.Listing.{ascii}

-- a number and its words
pub record Saying : Type 0 where
  pub number : ℕ
  pub words : List ℕ

abbrev pub says : ℕ → String → Saying
says n text = record { number = n; words = ascii text }

-- THE WORDS of each refusal, and of 0, which is none
abbrev pub sayings : List Saying
sayings =
    says 0 "accepted"
    ∷ says bad_length "fewer than 36 bytes (embedded: 68), or more than 65,536 or than the buffer has"
    ∷ says bad_header "the header is not sound"
    ∷ says bad_structure "a structure is not sound: its type, length or count, or it goes past the end"
    ∷ says too_deep "a group is deeper than 8"
    ∷ says left_over "bytes are left over behind the last structure"
    ∷ says no_trace_header "the header is not that of a trace-route message"
    ∷ says no_trace_route "there is no TraceRoute group, or more than one"
    ∷ says bad_attribute "an attribute is missing, there twice, no integer or out of range"
    ∷ says bad_group "the Activity group is not sound"
    ∷ says MQFB_MAX_ACTIVITIES "the limit of activities is reached (MQFB_MAX_ACTIVITIES)"
    ∷ says counter_full "the counter can't be raised any more"
    ∷ says no_room "there is no room: the message would be longer than the buffer or than 65,536 bytes"
    ∷ says report_too_short "there is no room for the report"
    ∷ says MQFB_UNSUPPORTED_DELIVERY "a delivery option is not supported (MQFB_UNSUPPORTED_DELIVERY)"
    ∷ says MQFB_UNSUPPORTED_FORWARDING "a forwarding option is not supported (MQFB_UNSUPPORTED_FORWARDING)"
    ∷ says MQFB_NOT_FORWARDED "it may not go to this queue manager (MQFB_NOT_FORWARDED)"
    ∷ says bad_sheet "the sheet of identifiers is not sound"
    ∷ says bad_embedded_header "the embedded header is not sound: its identifier, version or length"
    ∷ []

abbrev pub unknown : List ℕ
unknown = ascii "no refusal has this number"

-- the words that a list of sayings has for a number
unfoldable pub said_in : List Saying → ℕ → List ℕ
said_in [] n = unknown
said_in (s ∷ ss) n = cond (eqb n s.number) s.words (said_in ss n)

unfoldable pub words_of : ℕ → List ℕ
words_of n = said_in sayings n

-- the bytes of the lent text
abbrev pub words_room : ℕ
words_room = 128

-- The words stand at the start of the text with a zero byte behind them, and fit with it; the bytes behind that stay. The
-- answer is how many bytes the words have.
pub record Says (words before : List ℕ) (r : ℕ) (after : List ℕ) : Type 0 where
  pub answer : r ≡ length words
  pub fits : length words < words_room
  pub bytes : after ≡ splice before 0 (words ++ 0 ∷ [])
