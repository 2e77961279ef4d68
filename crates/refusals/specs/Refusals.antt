-- The number and place of each refusal, and whether a reply is owed.
use Rattle.std.specs.Prelude.{ℕ, Bool, false, Result, Ok, Err}
use Rattle.meaning.specs.Names.{bad_length, bad_header, bad_structure, too_deep, left_over, no_trace_header, no_trace_route, bad_attribute, bad_group, MQFB_MAX_ACTIVITIES, counter_full, no_room, report_too_short, MQFB_UNSUPPORTED_DELIVERY, MQFB_UNSUPPORTED_FORWARDING, MQFB_NOT_FORWARDED, bad_sheet, bad_embedded_header}
use Rattle.meaning.specs.Answer.{Result as Meant, accepted, refused}
use Rattle.refusals.specs.declared.Refusal.{Refusal}
use Rattle.refusals.specs.declared.Refusal.TheVariants.{BadLength, BadHeader, BadStructure, TooDeep, LeftOver, NoTraceHeader, NoTraceRoute, BadAttribute, BadGroup, MaxActivities, CounterFull, NoRoom, ReportTooShort, UnsupportedDelivery, UnsupportedForwarding, NotForwarded, BadSheet, BadEmbeddedHeader}

abbrev pub number_of : Refusal → ℕ
number_of BadLength = bad_length
number_of BadHeader = bad_header
number_of (BadStructure p) = bad_structure
number_of (TooDeep p) = too_deep
number_of (LeftOver p) = left_over
number_of NoTraceHeader = no_trace_header
number_of NoTraceRoute = no_trace_route
number_of BadAttribute = bad_attribute
number_of BadGroup = bad_group
number_of (MaxActivities owed) = MQFB_MAX_ACTIVITIES
number_of CounterFull = counter_full
number_of NoRoom = no_room
number_of ReportTooShort = report_too_short
number_of UnsupportedDelivery = MQFB_UNSUPPORTED_DELIVERY
number_of UnsupportedForwarding = MQFB_UNSUPPORTED_FORWARDING
number_of NotForwarded = MQFB_NOT_FORWARDED
number_of BadSheet = bad_sheet
number_of BadEmbeddedHeader = bad_embedded_header

-- 3, 4 and 5 have a place of their own
abbrev pub place_of : Refusal → ℕ
place_of (BadStructure p) = p
place_of (TooDeep p) = p
place_of (LeftOver p) = p
place_of BadLength = 0
place_of BadHeader = 0
place_of NoTraceHeader = 0
place_of NoTraceRoute = 0
place_of BadAttribute = 0
place_of BadGroup = 0
place_of (MaxActivities owed) = 0
place_of CounterFull = 0
place_of NoRoom = 0
place_of ReportTooShort = 0
place_of UnsupportedDelivery = 0
place_of UnsupportedForwarding = 0
place_of NotForwarded = 0
place_of BadSheet = 0
place_of BadEmbeddedHeader = 0

-- a reply is owed: only 10 can say so
abbrev pub owed : Refusal → Bool
owed (MaxActivities reply) = reply
owed BadLength = false
owed BadHeader = false
owed (BadStructure p) = false
owed (TooDeep p) = false
owed (LeftOver p) = false
owed NoTraceHeader = false
owed NoTraceRoute = false
owed BadAttribute = false
owed BadGroup = false
owed CounterFull = false
owed NoRoom = false
owed ReportTooShort = false
owed UnsupportedDelivery = false
owed UnsupportedForwarding = false
owed NotForwarded = false
owed BadSheet = false
owed BadEmbeddedHeader = false

-- the refusal as an answer of the meaning
abbrev pub refusal : {A : Type 0} → Refusal → Meant A
refusal r = refused (number_of r) (place_of r)

-- an answer of the code in the meaning's terms: what it gives, as f has it, or the refusal
abbrev pub answered : {A B : Type 0} → (A → B) → Result A Refusal → Meant B
answered f (Ok x) = accepted (f x)
answered f (Err r) = refusal r

-- the same of what is given as it is
abbrev pub answer : {A : Type 0} → Result A Refusal → Meant A
answer r = answered (λ x. x) r
