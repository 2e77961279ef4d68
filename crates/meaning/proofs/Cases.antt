-- THE P CASES of the rules: one table, and one theorem that the definitions answer as it says.
use mathlib.Core.Path.{◌≡◌, refl}
use mathlib.Core.Bool.{Bool, true, false}
use mathlib.Core.List.{List, [], ◌∷◌, ◌++◌, map}
use Prim.Native.Nat.{ℕ, zero, suc}
use lib.ListN.{length, replicate}
use Rattle.meaning.specs.Bytes.{number, word, bytes4, words, splice, store}
use Rattle.meaning.specs.Names.{RecordedActivities, UnrecordedActivities, DiscontinuityCount, MQROUTE_DETAIL_LOW, MQROUTE_ACCUMULATE_IN_MSG}
use Rattle.meaning.specs.Answer.{Result, accepted, refused, and_then}
use Rattle.meaning.specs.Structure.{length_rule, judge, structure_at}
use Rattle.meaning.specs.Walk.{walk_fuel, walk}
use Rattle.meaning.specs.Layout.{Layout, is_identified, embedded_ok, length_ok, located, no_embedding, embedding_of, embedded_header, laid_out, lengthened}
use Rattle.meaning.specs.Message.{header_ok, closed, rows_of, scan, check, step}
use Rattle.meaning.specs.Listing.{ascii, digits, decimal, column, header_line, row_line, row_lines, end_line, listing_text, refusal_line, listing}
use Rattle.meaning.specs.Trace.{absent, identifiers_ok, sheet_ok, trace_fields, trace_header, until_top, tops, groups_in, groups, direct_in, direct_members, named, one_integer, each_once, place_of_first, places_of, value_at, values_at, detail_ok, accumulate_ok, any_bit, one_bit, forward_ok, deliver_ok, in_range, read_members, read_rows, read_trace, Reading, read}
use Rattle.meaning.specs.Compose.{header_fields, trace_header_fields, report_header_fields, group_fields, integers, composed_fields, composed, values_ok, compose_answer, compose}
use Rattle.meaning.specs.Event.{low, Event, discontinuity, activity, group_ok, group_of, sound_event, unrecorded_for_level, reported, accumulated, plan_of, Answer, done, denied, counter_sum, over_limit, reply_owed, decide, State, Settings, Outcome, grown, report_of, applied, on_trace, event_on, event}
use Rattle.meaning.specs.Activity.{size_of, activity_group, is_pad, trimmed, strings, Name, name_of}
use Rattle.meaning.specs.Decision.{Decision, forward, unrecognised, deliver_yes, if_supported, forward_by, arrive_by, forwarding, arrival}
use Rattle.meaning.proofs.ReadsBack.{made_up}

-- what an entry says
pub data Told : Type 0 where
  checks : Result ℕ → Told
  prints : List ℕ → Told
  reads : Result (List ℕ) → Told
  tells : Result Reading → Told
  answers : Answer → Told
  leaves : Outcome → Told
  names : Name → Told
  gives : List ℕ → Told
  decides : Result Decision → Told

-- what the definitions say, and what the rules say
pub record Case : Type 0 where
  pub said : Told
  pub expected : Told

abbrev pub case : Told → Told → Case
case x y = record { said = x; expected = y }

-- the layout of these cases
abbrev pub plainly : Layout
plainly = made_up.layout

-- a whole message, checked
abbrev pub checked : List ℕ → Told
checked m = checks (check plainly m (length m))

-- the eight values that Read gives
abbrev pub values_of : Result Reading → Result (List ℕ)
values_of r = and_then r (λ x. accepted x.values)

-- a trace composed in a buffer of so many bytes
abbrev pub composing : List ℕ → ℕ → List ℕ
composing v room = (compose made_up v no_embedding [] (replicate room 0)).buffer

-- a header of Type 7 with so many structures
abbrev pub header : ℕ → List ℕ
header n = words (7 ∷ 36 ∷ 3 ∷ 99 ∷ 1 ∷ 1 ∷ 0 ∷ 0 ∷ n ∷ [])

-- a message of one string with the StrucLength n and one byte of data, which is the first of `rest` bytes
abbrev one_byte_string : ℕ → ℕ → List ℕ
one_byte_string n rest = header 1 ++ (words (4 ∷ n ∷ 77 ∷ 0 ∷ 1 ∷ []) ++ replicate rest 65)

-- a message of one string list of eight bytes
abbrev string_list : List ℕ
string_list = header 1 ++ (words (6 ∷ 36 ∷ 77 ∷ 0 ∷ 1 ∷ 8 ∷ []) ++ replicate 12 65)

-- groups, so many one inside the other
abbrev pub nested : ℕ → List ℕ
nested zero = []
nested (suc zero) = words (20 ∷ 16 ∷ 77 ∷ 0 ∷ [])
nested (suc (suc n)) = words (20 ∷ 16 ∷ 77 ∷ 1 ∷ []) ++ nested (suc n)

-- a composed trace in a buffer of 260 bytes: its counters, its limit, Forward and Deliver
abbrev pub trace_with : ℕ → ℕ → ℕ → ℕ → ℕ → ℕ → List ℕ
trace_with recorded unrecorded discontinuities limit forward_option deliver_option =
    composing (MQROUTE_DETAIL_LOW ∷ recorded ∷ unrecorded ∷ discontinuities ∷ limit ∷ MQROUTE_ACCUMULATE_IN_MSG ∷ forward_option ∷ deliver_option ∷ []) 260

abbrev pub counting : ℕ → ℕ → ℕ → ℕ → State
counting recorded unrecorded discontinuities limit =
    record { buf = trace_with recorded unrecorded discontinuities limit 0x100 0x1000; len = 180; report = replicate 60 0 }

abbrev pub on : State → Event → Told
on st e = answers (event made_up.sheet st e).answer

-- settings: activity recording on, trace-route messaging on or off
abbrev pub settings : Bool → Settings
settings messaging = record { activity_recording = true; trace_route_messaging = messaging; layout = plainly }

abbrev pub broken : Event
broken = discontinuity (settings true)

-- an activity of level low with a group of one integer: recorded with trace-route messaging on, unrecorded with it off
abbrev pub lent_group : List ℕ
lent_group = words (20 ∷ 16 ∷ 8005 ∷ 1 ∷ 3 ∷ 16 ∷ 1202 ∷ 7 ∷ [])

abbrev pub activity_with : Bool → Event
activity_with messaging =
    activity (record { level = low; group = lent_group; reports_asked = false }) (settings messaging)

abbrev pub counted : ℕ → Bool → ℕ → Told
counted counter appended n = answers (done (record { counter = counter; appended = appended; report_length = 0; message_length = n }))

abbrev pub rejected : ℕ → Told
rejected n = answers (denied n 0 false)

-- a forwarding decision by Forward and Deliver
abbrev pub forwarded : ℕ → ℕ → Bool → Told
forwarded forward_option deliver_option supporting = decides (forwarding made_up (trace_with 0 0 0 0 forward_option deliver_option) 180 supporting)

pub cases : List Case
cases =
    case (checked []) (checks (refused 1 0))
    ∷ case (checked (replicate 35 0)) (checks (refused 1 0))
    ∷ case (checked (header 0)) (checks (accepted 0))
    ∷ case (prints (listing plainly (header 0) 36)) (prints (ascii "pcf 7 99 0 36\nend 0\n"))
    ∷ case (reads (values_of (read made_up (header 0) 36))) (reads (refused 6 0))
    ∷ case (checked (one_byte_string 24 4)) (checks (accepted 1))
    ∷ case (checked (one_byte_string 28 8)) (checks (accepted 1))
    ∷ case (checked (one_byte_string 20 0)) (checks (refused 3 36))
    ∷ case (checked (one_byte_string 25 5)) (checks (refused 3 36))
    ∷ case (checked string_list) (checks (accepted 1))
    ∷ case (checked (header 1 ++ nested 8)) (checks (accepted 8))
    ∷ case (checked (header 1 ++ nested 9)) (checks (refused 4 164))
    ∷ case (on (counting 2 1 1 5) broken) (counted DiscontinuityCount false 180)
    ∷ case (on (counting 2 1 1 5) (activity_with true)) (counted RecordedActivities true 212)
    ∷ case (on (counting 2 2 1 5) broken) (rejected 10)
    ∷ case (on (counting 2 2 1 5) (activity_with true)) (rejected 10)
    ∷ case (on (counting 2 2 1 0) broken) (counted DiscontinuityCount false 180)
    ∷ case (on (counting 2147483647 0 0 0) (activity_with true)) (rejected 11)
    ∷ case (on (counting 2147483647 0 0 0) (activity_with false)) (counted UnrecordedActivities false 180)
    ∷ case (forwarded 0x200 0x2000 false) (decides (refused 16 0))
    ∷ case (forwarded 0x100 0x2000 false) (decides (accepted forward))
    ∷ case (forwarded 0x100 0x11000 false) (decides (refused 14 0))
    ∷ case (forwarded 0x100 0x11000 true) (decides (accepted forward))
    ∷ case (forwarded 0x10200 0x1000 false) (decides (accepted forward))
    ∷ case (forwarded 0x10200 0x1000 true) (decides (refused 15 0))
    ∷ []

-- every definition that a case computes through
unfoldable pub definitions : ℕ
unfolding number word bytes4 words splice store length_rule judge structure_at walk_fuel walk is_identified embedded_ok length_ok located embedding_of embedded_header laid_out lengthened header_ok closed rows_of scan check step digits decimal column header_line row_line row_lines end_line listing_text refusal_line listing absent identifiers_ok sheet_ok trace_fields trace_header until_top tops groups_in groups direct_in direct_members named one_integer each_once place_of_first places_of value_at values_at detail_ok accumulate_ok any_bit one_bit forward_ok deliver_ok in_range read_members read_rows read_trace read header_fields trace_header_fields report_header_fields group_fields integers composed_fields composed values_ok compose_answer compose group_ok group_of sound_event unrecorded_for_level reported accumulated plan_of counter_sum over_limit reply_owed decide grown report_of applied on_trace event_on event unrecognised deliver_yes if_supported forward_by arrive_by forwarding arrival size_of activity_group is_pad trimmed strings name_of
definitions = 0

-- THE P CASES
pub p_cases : map (λ (c : Case). c.said) cases ≡ map (λ (c : Case). c.expected) cases
unfolding definitions cases
p_cases = refl

-- THE EVENT OF DOCUMENT 004: a command event of 300 bytes
pub command_event : List ℕ
command_event =
    words (7 ∷ 36 ∷ 3 ∷ 99 ∷ 1 ∷ 1 ∷ 0 ∷ 2412 ∷ 2
    ∷ 20 ∷ 16 ∷ 8001 ∷ 4
    ∷ 4 ∷ 32 ∷ 3045 ∷ 819 ∷ 12 ∷ 0x6D657461 ∷ 0x796C6F72 ∷ 0x20202020
    ∷ 3 ∷ 16 ∷ 1011 ∷ 1
    ∷ 4 ∷ 68 ∷ 3047 ∷ 819 ∷ 48 ∷ 0x56383030 ∷ 0x335F4120 ∷ 0x20202020 ∷ 0x20202020 ∷ 0x20202020 ∷ 0x20202020 ∷ 0x20202020 ∷ 0x20202020
    ∷ 0x20202020 ∷ 0x20202020 ∷ 0x20202020 ∷ 0x20202020
    ∷ 3 ∷ 16 ∷ 1021 ∷ 90
    ∷ 20 ∷ 16 ∷ 8002 ∷ 4
    ∷ 4 ∷ 24 ∷ 3067 ∷ 0 ∷ 1 ∷ 0x58000000
    ∷ 3 ∷ 16 ∷ 1016 ∷ 1
    ∷ 6 ∷ 36 ∷ 3065 ∷ 0 ∷ 1 ∷ 8 ∷ 0x6D657461 ∷ 0x796C6F72 ∷ 0
    ∷ 5 ∷ 24 ∷ 1116 ∷ 2 ∷ 11 ∷ 9 ∷ [])

pub command_listing : List ℕ
command_listing =
    ascii "pcf 7 99 2 300\n" ++ (ascii "1 36 20 8001 16\n" ++ (ascii "2 52 4 3045 32\n" ++ (ascii "2 84 3 1011 16\n" ++ (ascii "2 100 4 3047 68\n"
    ++ (ascii "2 168 3 1021 16\n" ++ (ascii "1 184 20 8002 16\n" ++ (ascii "2 200 4 3067 24\n" ++ (ascii "2 224 3 1016 16\n" ++ (ascii "2 240 6 3065 36\n"
    ++ (ascii "2 276 5 1116 24\n" ++ ascii "end 10\n"))))))))))

pub command-event : (length command_event ≡ 300) × (check plainly command_event 300 ≡ accepted 10) × (listing plainly command_event 300 ≡ command_listing)
unfolding definitions command_event command_listing
command-event = (refl, refl, refl)
