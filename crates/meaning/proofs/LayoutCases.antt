-- THE EMBEDDED FORM, computed: where its header is sound and where not, what the places are, and what an event leaves.
-- One table, and one theorem that the definitions answer as it says.
use mathlib.Core.Path.{◌≡◌, refl}
use mathlib.Core.Bool.{true, false}
use mathlib.Core.List.{List, [], ◌∷◌, ◌++◌, map}
use Prim.Native.Nat.{ℕ, ◌+◌}
use lib.ListN.{length, take, replicate}
use Rattle.meaning.specs.Bytes.{words}
use Rattle.meaning.specs.Names.{RecordedActivities, DiscontinuityCount}
use Rattle.meaning.specs.Answer.{accepted, refused, and_then}
use Rattle.meaning.specs.Layout.{embedded, identifier, Embedding}
use Rattle.meaning.specs.Message.{check, step}
use Rattle.meaning.specs.Listing.{ascii, listing}
use Rattle.meaning.specs.Trace.{Terms, Reading, read}
use Rattle.meaning.specs.Compose.{composed, compose_answer, compose}
use Rattle.meaning.specs.Event.{low, Event, State, Settings, discontinuity, activity, done, denied, decided, event}
use Rattle.meaning.specs.Activity.{activity_group, in_message, name_of}
use Rattle.meaning.specs.Decision.{forward, put_locally, forwarding, arrival}
use Rattle.meaning.proofs.ReadsBack.{made_up}
use Rattle.meaning.proofs.Cases.{checks, prints, reads, tells, answers, leaves, names, gives, decides, Told, Case, case, values_of, header, trace_with, lent_group, definitions}

abbrev pub inside : Terms
inside = record { sheet = made_up.sheet; layout = record { form = embedded } }

-- an embedded header with these bytes, Version and StrucLength; its other four fields; and what stands behind it
abbrev pub fields : Embedding
fields = record { encoding = 273; coded_char_set_id = 819; format = 77 ∷ 81 ∷ 83 ∷ 84 ∷ 82 ∷ 32 ∷ 32 ∷ 32 ∷ []; flags = 5 }

abbrev behind : List ℕ → ℕ → ℕ → List ℕ → List ℕ
behind id version n rest =
    id ++ (words (version ∷ n ∷ 273 ∷ 819 ∷ []) ++ ((77 ∷ 81 ∷ 83 ∷ 84 ∷ 82 ∷ 32 ∷ 32 ∷ 32 ∷ []) ++ (words (5 ∷ []) ++ rest)))

-- 76 bytes: a header without structures, and eight bytes that are user data or not
abbrev eight_more : ℕ → List ℕ
eight_more n = behind identifier 1 n (header 0 ++ words (1 ∷ 2 ∷ []))

abbrev checked : List ℕ → Told
checked m = checks (check inside.layout m (length m))

-- the place of the next structure, for the structure at a place of depth 1
abbrev next : List ℕ → ℕ → Told
next m p = checks (and_then (step inside.layout m (length m) p 1) (λ s. accepted s.next))

-- A TRACE with these user data in a buffer of so many bytes
abbrev values : ℕ → List ℕ
values recorded = 2 ∷ recorded ∷ 0 ∷ 0 ∷ 0 ∷ 0x10004 ∷ 0x100 ∷ 0x1000 ∷ []

abbrev buffer : List ℕ → ℕ → List ℕ
buffer user room = (compose inside (values 7) fields user (replicate room 0)).buffer

abbrev trace : List ℕ → ℕ → State
trace user room = record { buf = buffer user room; len = 212 + length user; report = [] }

abbrev settings : Settings
settings = record { activity_recording = false; trace_route_messaging = true; layout = inside.layout }

abbrev hop : Event
hop = activity (record { level = low; group = lent_group; reports_asked = false }) settings

-- written out: so many structures, StrucLength, RecordedActivities, what is behind the TraceRoute group
abbrev written : ℕ → ℕ → ℕ → List ℕ → List ℕ
written count n recorded rest =
    behind identifier 1 n (words (10 ∷ 36 ∷ 3 ∷ 75 ∷ 1 ∷ 1 ∷ 0 ∷ 0 ∷ count ∷ 20 ∷ 16 ∷ 8003 ∷ 8
    ∷ 3 ∷ 16 ∷ 1201 ∷ 2 ∷ 3 ∷ 16 ∷ 1202 ∷ recorded ∷ 3 ∷ 16 ∷ 1203 ∷ 0 ∷ 3 ∷ 16 ∷ 1204 ∷ 0
    ∷ 3 ∷ 16 ∷ 1205 ∷ 0 ∷ 3 ∷ 16 ∷ 1206 ∷ 0x10004 ∷ 3 ∷ 16 ∷ 1207 ∷ 0x100 ∷ 3 ∷ 16 ∷ 1208 ∷ 0x1000 ∷ []) ++ rest)

-- the group is 32 bytes: an event that is done in a buffer with four bytes behind its message
abbrev appended : List ℕ → Case
appended user =
    case (leaves (event inside.sheet (trace user (248 + length user)) hop))
    (leaves (record {
      answer = done (record { counter = RecordedActivities; appended = true; report_length = 0; message_length = 244 + length user });
      next = record { buf = written 2 244 8 (lent_group ++ user) ++ replicate 4 0; len = 244 + length user; report = [] };
    }))

abbrev pub five : List ℕ
five = 20 ∷ 0 ∷ 255 ∷ 7 ∷ 65 ∷ []

-- user data that would be an Activity group
abbrev like_group : List ℕ
like_group = words (20 ∷ 16 ∷ 8005 ∷ 0 ∷ [])

-- an Activity group with a string "A" in it, before user data
abbrev with_name : List ℕ
with_name = written 2 252 7 (words (20 ∷ 16 ∷ 8005 ∷ 1 ∷ 4 ∷ 24 ∷ 77 ∷ 0 ∷ 2 ∷ 0x41204142 ∷ []) ++ five)

abbrev reading : ℕ → Reading
reading place = record { values = values 7; embedding = fields; user_place = place }

-- a plain message composed with fields and user data, and the fields that are read of it
abbrev plain_message : ℕ → List ℕ
plain_message room = (compose made_up (values 7) fields five (replicate room 0)).buffer

abbrev zeros : Embedding
zeros = record { encoding = 0; coded_char_set_id = 0; format = 0 ∷ 0 ∷ 0 ∷ 0 ∷ 0 ∷ 0 ∷ 0 ∷ 0 ∷ []; flags = 0 }

-- an event that appends 32 bytes to a trace of so many bytes in a larger buffer; and a message
-- composed with so many bytes of user data
abbrev longest : ℕ → Told
longest n = answers (decided (record { buf = replicate 70000 0; len = n; report = [] }) hop (values 7))

abbrev composed_with : ℕ → Told
composed_with n = checks (compose_answer inside (values 7) (replicate n 0) (replicate 70000 0))

pub embedded_cases : List Case
embedded_cases =
    -- 1 below 68 bytes, then 18
    case (checked (take 67 (eight_more 68))) (checks (refused 1 0))
    ∷ case (checked (take 68 (eight_more 68))) (checks (accepted 0))
    ∷ case (checked (replicate 68 0)) (checks (refused 18 0))
    -- StrucLength: at least 68, at most the message, a multiple of 4
    ∷ case (checked (eight_more 64)) (checks (refused 18 0))
    ∷ case (checked (eight_more 68)) (checks (accepted 0))
    ∷ case (checked (eight_more 70)) (checks (refused 18 0))
    ∷ case (checked (eight_more 74)) (checks (refused 18 0))
    ∷ case (checked (eight_more 80)) (checks (refused 18 0))
    ∷ case (checked (eight_more 2147483648)) (checks (refused 18 0))
    ∷ case (checks (check inside.layout (eight_more 76 ++ words (0 ∷ [])) 72)) (checks (refused 18 0))
    -- bytes left over inside it are 5 at their place, bytes behind it are user data
    ∷ case (checked (eight_more 72)) (checks (refused 5 68))
    ∷ case (checked (eight_more 76)) (checks (refused 5 68))
    -- Version 1 and no other; all four bytes of the identifier
    ∷ case (checked (behind identifier 0 68 (header 0))) (checks (refused 18 0))
    ∷ case (checked (behind identifier 1 68 (header 0))) (checks (accepted 0))
    ∷ case (checked (behind identifier 2 68 (header 0))) (checks (refused 18 0))
    ∷ case (checked (behind (69 ∷ 80 ∷ 72 ∷ 0 ∷ []) 1 68 (header 0))) (checks (refused 18 0))
    ∷ case (checked (behind (69 ∷ 80 ∷ 72 ∷ 33 ∷ []) 1 68 (header 0))) (checks (refused 18 0))
    ∷ case (checked (behind (68 ∷ 80 ∷ 72 ∷ 32 ∷ []) 1 68 (header 0))) (checks (refused 18 0))
    ∷ case (checked (behind (69 ∷ 81 ∷ 72 ∷ 32 ∷ []) 1 68 (header 0))) (checks (refused 18 0))
    ∷ case (checked (behind (69 ∷ 80 ∷ 104 ∷ 32 ∷ []) 1 68 (header 0))) (checks (refused 18 0))
    -- 17 before 18, 18 before 2, 2 before 3
    ∷ case (reads (values_of (read (record { sheet = []; layout = inside.layout }) (eight_more 64) 76))) (reads (refused 17 0))
    ∷ case (checked (behind identifier 2 68 (replicate 36 0))) (checks (refused 18 0))
    ∷ case (checked (behind identifier 1 68 (replicate 36 0))) (checks (refused 2 0))
    ∷ case (checked (behind identifier 1 68 (header 1))) (checks (refused 3 68))
    ∷ case (reads (values_of (read inside (eight_more 68) 76))) (reads (refused 6 0))
    -- a structure that reaches into the user data is past the end, at its place in the message
    ∷ case (checked (behind identifier 1 72 (header 1 ++ words (3 ∷ 16 ∷ 77 ∷ 5 ∷ [])))) (checks (refused 3 68))
    ∷ case (checked (behind identifier 1 84 (header 1 ++ words (3 ∷ 16 ∷ 77 ∷ 5 ∷ 9 ∷ [])))) (checks (accepted 1))
    -- one structure at a time ends at the part's end, though a structure may follow
    ∷ case (next (buffer like_group 228) 68) (checks (accepted 84))
    ∷ case (next (buffer like_group 228) 196) (checks (accepted 212))
    ∷ case (next (buffer like_group 228) 212) (checks (refused 3 212))
    ∷ case (next (eight_more 64) 68) (checks (refused 18 0))
    ∷ case (checks (and_then (step inside.layout (eight_more 76 ++ words (0 ∷ [])) 72 68 1) (λ s. accepted s.next))) (checks (refused 18 0))
    -- it is as long as the structure says, and may not be deeper than 8
    ∷ case (next with_name 228) (checks (accepted 252))
    ∷ case (checks (and_then (step inside.layout with_name 257 68 8) (λ s. accepted s.row.depth))) (checks (accepted 8))
    ∷ case (checks (and_then (step inside.layout with_name 257 68 9) (λ s. accepted s.row.depth))) (checks (refused 4 68))
    -- neither form is taken for the other
    ∷ case (reads (values_of (read inside (trace_with 0 0 0 0 0x100 0x1000) 180))) (reads (refused 18 0))
    ∷ case (reads (values_of (read made_up (buffer five 217) 217))) (reads (refused 2 0))
    -- what Read gives: the user data start where the part ends, none of them at the message's end
    ∷ case (tells (read inside (buffer five 220) 217)) (tells (accepted (reading 212)))
    ∷ case (tells (read inside (buffer [] 220) 212)) (tells (accepted (reading 212)))
    ∷ case (gives (buffer five 220)) (gives (written 1 212 7 five ++ replicate 3 0))
    -- of a plain message: its end, and zeros; neither fields nor user data are written
    ∷ case (tells (read made_up (plain_message 183) 180)) (tells (accepted (record { values = values 7; embedding = zeros; user_place = 180 })))
    ∷ case (gives (plain_message 183)) (gives (composed made_up.sheet (values 7) ++ replicate 3 0))
    -- the listing: places from the message's first byte, the length of the whole message
    ∷ case (prints (listing inside.layout (buffer five 217) 217))
    (prints (ascii "pcf 10 75 1 217\n" ++ (ascii "1 68 20 8003 16\n" ++ (ascii "2 84 3 1201 16\n" ++ (ascii "2 100 3 1202 16\n" ++ (ascii "2 116 3 1203 16\n"
    ++ (ascii "2 132 3 1204 16\n" ++ (ascii "2 148 3 1205 16\n" ++ (ascii "2 164 3 1206 16\n" ++ (ascii "2 180 3 1207 16\n" ++ (ascii "2 196 3 1208 16\n"
    ++ ascii "end 9\n")))))))))))
    ∷ case (decides (forwarding inside (buffer five 217) 217 false)) (decides (accepted forward))
    ∷ case (decides (arrival inside (buffer five 217) 217)) (decides (accepted put_locally))
    -- no user data but an Activity group of the part is one
    ∷ case (names (in_message (activity_group inside (buffer like_group 228) 228 0))) (names (in_message (record { place = 0; length = 0 })))
    ∷ case (names (in_message (activity_group inside (written 2 244 7 (lent_group ++ like_group)) 260 0))) (names (in_message (record { place = 212; length = 32 })))
    ∷ case (names (name_of inside with_name 257 0 77)) (names (in_message (record { place = 248; length = 1 })))
    -- the group goes between part and user data, which moves back unharmed
    ∷ appended []
    ∷ appended (9 ∷ [])
    ∷ appended (1 ∷ 2 ∷ 3 ∷ [])
    ∷ appended five
    ∷ appended like_group
    -- a discontinuity moves nothing
    ∷ case (leaves (event inside.sheet (trace five 217) (discontinuity settings)))
    (leaves (record {
      answer = done (record { counter = DiscontinuityCount; appended = false; report_length = 0; message_length = 217 });
      next = record { buf = (compose inside (2 ∷ 7 ∷ 0 ∷ 1 ∷ 0 ∷ 0x10004 ∷ 0x100 ∷ 0x1000 ∷ []) fields five (replicate 217 0)).buffer; len = 217; report = [] };
    }))
    -- 12 by the whole message: exactly met, and one short
    ∷ case (answers (event inside.sheet (trace five 249) hop).answer)
    (answers (done (record { counter = RecordedActivities; appended = true; report_length = 0; message_length = 249 })))
    ∷ case (leaves (event inside.sheet (trace five 248) hop)) (leaves (record { answer = denied 12 0 false; next = trace five 248 }))
    ∷ case (longest 65504) (answers (done (record { counter = RecordedActivities; appended = true; report_length = 0; message_length = 65536 })))
    ∷ case (longest 65505) (answers (denied 12 0 false))
    ∷ case (checks (compose_answer inside (values 7) five (replicate 217 0))) (checks (accepted 217))
    ∷ case (checks (compose_answer inside (values 7) five (replicate 216 0))) (checks (refused 12 0))
    ∷ case (composed_with 65324) (checks (accepted 65536))
    ∷ case (composed_with 65325) (checks (refused 12 0))
    ∷ []

-- THE EMBEDDED FORM
pub embedded_cases_lem : map (λ (c : Case). c.said) embedded_cases ≡ map (λ (c : Case). c.expected) embedded_cases
unfolding definitions embedded_cases
embedded_cases_lem = refl
