-- CORNERS of the rules, computed: the errors that old forwarders made, and the points that are easily misread.
-- One table, and one theorem that the definitions answer as it says.
use mathlib.Core.Path.{◌≡◌, refl}
use mathlib.Core.Bool.{true, false}
use mathlib.Core.List.{List, [], ◌∷◌, ◌++◌, map}
use Prim.Native.Nat.{ℕ, zero, suc, ◌+◌}
use lib.ListN.{length, replicate}
use Rattle.meaning.specs.Bytes.{words}
use Rattle.meaning.specs.Answer.{accepted, refused}
use Rattle.meaning.specs.Trace.{read}
use Rattle.meaning.specs.Names.{RecordedActivities, UnrecordedActivities, MQROUTE_DETAIL_LOW, MQROUTE_DETAIL_MEDIUM, MQROUTE_DETAIL_HIGH, MQROUTE_ACCUMULATE_IN_MSG}
use Rattle.meaning.specs.Event.{Level, low, medium, high, Event, State, Done, activity, done, denied, event}
use Rattle.meaning.specs.Activity.{activity_group, in_message, substitute, name_of, name_bytes}
use Rattle.meaning.proofs.ReadsBack.{made_up}
use Rattle.meaning.proofs.Cases.{Told, checks, reads, answers, leaves, names, gives, decides, Case, case, checked, values_of, composing, header, trace_with, counting, on, settings, broken, lent_group, activity_with, rejected, forwarded, definitions}
use Rattle.meaning.specs.Decision.{forward, put_locally, withhold, arrival}

-- structures one behind the other
abbrev join : List (List ℕ) → List ℕ
join [] = []
join (x ∷ xs) = x ++ join xs

-- a trace's header, with so many structures behind it
abbrev heading : ℕ → List ℕ
heading n = words (10 ∷ 36 ∷ 3 ∷ 75 ∷ 1 ∷ 1 ∷ 0 ∷ 0 ∷ n ∷ [])

-- an integer, a group with so many members, a string of a length in a structure of a length
abbrev integer : ℕ → ℕ → List ℕ
integer id v = words (3 ∷ 16 ∷ id ∷ v ∷ [])

abbrev group : ℕ → ℕ → List ℕ
group id n = words (20 ∷ 16 ∷ id ∷ n ∷ [])

abbrev string : ℕ → ℕ → List ℕ → List ℕ
string id n text = words (4 ∷ (20 + length text) ∷ id ∷ 0 ∷ n ∷ []) ++ text

abbrev eight_integers : List ℕ
eight_integers =
    join (integer 1201 2 ∷ integer 1202 7 ∷ integer 1203 0 ∷ integer 1204 0 ∷ integer 1205 0 ∷ integer 1206 0x10004 ∷ integer 1207 0x100 ∷ integer 1208 0x1000 ∷ [])

-- A trace with decoys: an Activity group in front, with the identifier of RecordedActivities as an integer and two
-- strings 77; and in the TraceRoute group, behind the eight, a nested group with that identifier.
abbrev decoys : List ℕ
decoys =
    join (heading 2
    ∷ group 8005 4 ∷ integer 1202 900 ∷ integer 77 5 ∷ string 77 5 (65 ∷ 32 ∷ 66 ∷ 32 ∷ 32 ∷ 88 ∷ 88 ∷ 88 ∷ []) ∷ string 77 1 (67 ∷ 0 ∷ 0 ∷ 0 ∷ [])
    ∷ group 8003 9 ∷ eight_integers ∷ group 99 1 ∷ integer 1202 800 ∷ [])

abbrev decoy_values : ℕ → List ℕ
decoy_values recorded = 2 ∷ recorded ∷ 0 ∷ 0 ∷ 0 ∷ 0x10004 ∷ 0x100 ∷ 0x1000 ∷ []

abbrev decoy_state : State
decoy_state = record { buf = decoys ++ replicate 40 0; len = length decoys; report = [] }

-- a trace whose TraceRoute group has one member more
abbrev with_member : List ℕ → List ℕ
with_member extra = join (heading 1 ∷ group 8003 9 ∷ eight_integers ∷ extra ∷ [])

-- groups, so many one inside the other, and in the last of them one structure
abbrev nested_and : ℕ → List ℕ → List ℕ
nested_and zero x = x
nested_and (suc n) x = group 77 1 ++ nested_and n x

abbrev read_whole : List ℕ → Told
read_whole m = reads (values_of (read made_up m (length m)))

-- a trace at its limit that asks for a reply
abbrev reply_state : State
reply_state = record {
  buf = composing (2 ∷ 1 ∷ 1 ∷ 1 ∷ 3 ∷ 0x10005 ∷ 0x100 ∷ 0x1000 ∷ []) 180;
  len = 180;
  report = [];
}

-- a trace that fills its buffer: there is no room for a group
abbrev full_buffer : State
full_buffer = record { buf = composing (decoy_values 7) 180; len = 180; report = [] }

-- a trace of this Detail that accumulates, and an activity of this level whose report is asked for, both settings on
abbrev detailed : ℕ → State
detailed detail = record {
  buf = composing (detail ∷ 0 ∷ 0 ∷ 0 ∷ 0 ∷ MQROUTE_ACCUMULATE_IN_MSG ∷ 0x100 ∷ 0x1000 ∷ []) 260;
  len = 180;
  report = replicate 80 0;
}

abbrev at_level : Level → Event
at_level level =
    activity (record { level = level; group = lent_group; reports_asked = true }) (settings true)

-- recorded, it is appended and reported; unrecorded, neither
abbrev recorded : Done
recorded = record { counter = RecordedActivities; appended = true; report_length = 68; message_length = 212 }

abbrev unrecorded : Done
unrecorded = record { counter = UnrecordedActivities; appended = false; report_length = 0; message_length = 180 }

abbrev pair : Level → ℕ → Done → Case
pair level detail outcome = case (on (detailed detail) (at_level level)) (answers (done outcome))

-- a trace with one Activity group, whose one string is 77 with this text, of a multiple of 4 bytes, from place 72 on
abbrev naming : List ℕ → List ℕ
naming text =
    join (heading 2 ∷ group 8005 1 ∷ string 77 (length text) text ∷ group 8003 8 ∷ eight_integers ∷ [])

-- of the text so many bytes are the name
abbrev kept : List ℕ → ℕ → Case
kept text n = case (names (name_of made_up (naming text) (length (naming text)) 0 77)) (names (in_message (record { place = 72; length = n })))

-- what is given for the name 78 of a message that has none, or is refused
abbrev instead : List ℕ → List ℕ → Case
instead message other = case (gives (name_bytes message other (name_of made_up message (length message) 0 78))) (gives other)

pub corners : List Case
corners =
    -- a counter is a direct member of the TraceRoute group, not one of another group
    case (read_whole decoys) (reads (accepted (decoy_values 7)))
    ∷ case (read_whole (event made_up.sheet decoy_state (activity_with true)).next.buf) (reads (refused 5 344))
    ∷ case (reads (values_of (read made_up (event made_up.sheet decoy_state (activity_with true)).next.buf 344))) (reads (accepted (decoy_values 8)))
    -- the sheet's identifier on another type, or twice, is a fault
    ∷ case (read_whole (with_member (integer 1301 5))) (reads (accepted (decoy_values 7)))
    ∷ case (read_whole (with_member (integer 1201 2))) (reads (refused 8 0))
    ∷ case (read_whole (with_member (group 1208 0))) (reads (refused 8 0))
    -- the sum is a whole number, of all three counters
    ∷ case (on (counting 2147483647 2147483647 2 5) broken) (rejected 10)
    ∷ case (on (counting 0 0 5 5) broken) (rejected 10)
    -- at the limit a reply is owed exactly if Accumulate is 0x10005
    ∷ case (answers (event made_up.sheet reply_state broken).answer) (answers (denied 10 0 true))
    -- where there is no room nothing changes
    ∷ case (leaves (event made_up.sheet full_buffer (activity_with true))) (leaves (record { answer = denied 12 0 false; next = full_buffer }))
    -- 3 before 4: a group of depth 9 with a wrong StrucLength
    ∷ case (checked (header 1 ++ nested_and 8 (words (20 ∷ 20 ∷ 1 ∷ 0 ∷ 0 ∷ [])))) (checks (refused 3 164))
    -- an integer may stand at depth 9
    ∷ case (checked (header 1 ++ nested_and 8 (integer 1 1))) (checks (accepted 9))
    -- counts and lengths of 2^31 are faults, each by itself; products are whole numbers
    ∷ case (checked (header 2147483648)) (checks (refused 2 0))
    ∷ case (checked (header 1 ++ group 1 2147483648)) (checks (refused 3 36))
    ∷ case (checked (header 1 ++ group 1 2147483647)) (checks (refused 3 52))
    ∷ case (checked (header 1 ++ words (6 ∷ 24 ∷ 1 ∷ 0 ∷ 65536 ∷ 65536 ∷ []))) (checks (refused 3 36))
    ∷ case (checked (header 1 ++ words (6 ∷ 24 ∷ 1 ∷ 0 ∷ 0 ∷ 2147483648 ∷ []))) (checks (refused 3 36))
    ∷ case (checked (header 1 ++ words (6 ∷ 24 ∷ 1 ∷ 0 ∷ 0 ∷ 2147483647 ∷ []))) (checks (accepted 1))
    -- a structure due at the very end is 3 there; bytes left over are 5
    ∷ case (checked (header 1)) (checks (refused 3 36))
    ∷ case (checked (header 0 ++ words (0 ∷ []))) (checks (refused 5 36))
    -- the header's count does not count a group's members
    ∷ case (checked (header 1 ++ (group 1 1 ++ integer 1 1))) (checks (accepted 2))
    ∷ case (checked (header 2 ++ (group 1 1 ++ integer 1 1))) (checks (refused 3 68))
    -- "if supported" forwards to a supporting manager; arrival looks at Deliver only
    ∷ case (forwarded 0x200 0x2000 true) (decides (accepted forward))
    ∷ case (decides (arrival made_up (trace_with 0 0 0 0 0x10100 0x1000) 180)) (decides (accepted put_locally))
    ∷ case (decides (arrival made_up (trace_with 0 0 0 0 0x100 0x2000) 180)) (decides (accepted withhold))
    ∷ case (decides (arrival made_up (trace_with 0 0 0 0 0x100 0x12000) 180)) (decides (refused 14 0))
    -- exactly one of the two bits: Compose refuses both, and then writes nothing
    ∷ case (reads (values_of (read made_up (trace_with 0 0 0 0 0x300 0x1000) 180))) (reads (refused 2 0))
    -- a name is the first direct string with the identifier; the structure's padding is no part of it
    ∷ case (names (name_of made_up decoys (length decoys) 0 77)) (names (in_message (record { place = 104; length = 3 })))
    ∷ case (names (name_of made_up decoys (length decoys) 0 78)) (names substitute)
    ∷ case (names (name_of made_up decoys (length decoys) 1 77)) (names substitute)
    ∷ case (names (in_message (activity_group made_up decoys (length decoys) 0))) (names (in_message (record { place = 36; length = 100 })))
    ∷ case (names (in_message (activity_group made_up decoys (length decoys) 1))) (names (in_message (record { place = 0; length = 0 })))
    -- it ends before its trailing blanks and zero bytes: all blanks, all zeros, a mixture; an empty one
    ∷ kept (32 ∷ 32 ∷ 32 ∷ 32 ∷ []) 0
    ∷ kept (0 ∷ 0 ∷ 0 ∷ 0 ∷ []) 0
    ∷ kept (32 ∷ 0 ∷ 0 ∷ 32 ∷ []) 0
    ∷ kept [] 0
    ∷ kept (65 ∷ 32 ∷ 0 ∷ 32 ∷ []) 1
    ∷ kept (65 ∷ 0 ∷ 32 ∷ 0 ∷ []) 1
    -- a zero or blank before another byte stays, inside or in front
    ∷ kept (65 ∷ 0 ∷ 66 ∷ 32 ∷ []) 3
    ∷ kept (65 ∷ 32 ∷ 66 ∷ 0 ∷ []) 3
    ∷ kept (0 ∷ 32 ∷ 0 ∷ 65 ∷ []) 4
    -- the numbers beside these two, and the blank of another character set, are other bytes
    ∷ kept (65 ∷ 32 ∷ 0 ∷ 1 ∷ []) 4
    ∷ kept (65 ∷ 31 ∷ 0 ∷ 32 ∷ []) 2
    ∷ kept (65 ∷ 33 ∷ 32 ∷ 0 ∷ []) 2
    ∷ kept (65 ∷ 0 ∷ 32 ∷ 64 ∷ []) 4
    -- the substitute is given whole
    ∷ instead (naming []) (65 ∷ 32 ∷ 0 ∷ [])
    ∷ instead [] (0 ∷ 32 ∷ [])
    -- the nine pairs of level and Detail: unrecorded where the level is the higher one
    ∷ pair low MQROUTE_DETAIL_LOW recorded
    ∷ pair low MQROUTE_DETAIL_MEDIUM recorded
    ∷ pair low MQROUTE_DETAIL_HIGH recorded
    ∷ pair medium MQROUTE_DETAIL_LOW unrecorded
    ∷ pair medium MQROUTE_DETAIL_MEDIUM recorded
    ∷ pair medium MQROUTE_DETAIL_HIGH recorded
    ∷ pair high MQROUTE_DETAIL_LOW unrecorded
    ∷ pair high MQROUTE_DETAIL_MEDIUM unrecorded
    ∷ pair high MQROUTE_DETAIL_HIGH recorded
    ∷ []

-- THE CORNERS
pub corner_cases : map (λ (c : Case). c.said) corners ≡ map (λ (c : Case). c.expected) corners
unfolding definitions corners
corner_cases = refl
