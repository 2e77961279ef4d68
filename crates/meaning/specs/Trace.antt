-- The trace-route part: sheet, header, the TraceRoute group, the eight attributes, Read.
use Rattle.std.specs.Prelude.{ℕ, ◌+◌, Bool, true, false, cond, not, ◌&&◌, ◌||◌, List, [], ◌∷◌, ◌++◌, map, length, get_or, leb, eqb}
use Rattle.std.specs.Int.Bits.{bit_and}
use Rattle.meaning.specs.Bytes.{Part, part_of, num}
use Rattle.meaning.specs.Names.{MQCFT_INTEGER, MQCFT_GROUP, MQCFT_TRACE_ROUTE, MQCFH_VERSION_3, MQCMD_TRACE_ROUTE, MQCFC_LAST, MQCC_OK, MQRC_NONE, MQGACF_TRACE_ROUTE, MQGACF_ACTIVITY, MQROUTE_DETAIL_LOW, MQROUTE_DETAIL_MEDIUM, MQROUTE_DETAIL_HIGH, MQROUTE_ACCUMULATE_NONE, MQROUTE_ACCUMULATE_IN_MSG, MQROUTE_ACCUMULATE_AND_REPLY, MQROUTE_FORWARD_ALL, MQROUTE_FORWARD_IF_SUPPORTED, MQROUTE_DELIVER_YES, MQROUTE_DELIVER_NO, Detail, RecordedActivities, UnrecordedActivities, DiscontinuityCount, MaxActivities, Accumulate, Forward, Deliver, attributes, no_trace_header, no_trace_route, bad_attribute, bad_sheet}
use Rattle.meaning.specs.Answer.{Result, accepted, refused, and_then, unless, cons_if}
use Rattle.meaning.specs.Structure.{Row, small}
use Rattle.meaning.specs.Layout.{Layout, part_in, Embedding, embedding_of}
use Rattle.meaning.specs.Message.{header_type, version, command, msg_seq_number, control, comp_code, reason, parameter_count, scan}

-- THE SHEET: eight identifiers
unfoldable pub absent : ℕ → List ℕ → Bool
absent x [] = true
absent x (y ∷ ys) = not (eqb x y) && absent x ys

-- each is from 1 up and below 2^31, and no two are alike
unfoldable pub identifiers_ok : List ℕ → Bool
identifiers_ok [] = true
identifiers_ok (x ∷ xs) = leb 1 x && (small x && (absent x xs && identifiers_ok xs))

unfoldable pub sheet_ok : List ℕ → Bool
sheet_ok sheet = eqb (length sheet) attributes && identifiers_ok sheet

-- THE HEADER: Type 10, Version 3, Command 75, MsgSeqNumber 1, Control 1, CompCode 0, Reason 0, ParameterCount at least 1
unfoldable pub trace_fields : Part → Bool
trace_fields m =
    eqb (header_type m) MQCFT_TRACE_ROUTE && (eqb (version m) MQCFH_VERSION_3 && (eqb (command m) MQCMD_TRACE_ROUTE
    && (eqb (msg_seq_number m) 1 && (eqb (control m) MQCFC_LAST && (eqb (comp_code m) MQCC_OK && eqb (reason m) MQRC_NONE)))))

unfoldable pub trace_header : Part → Bool
trace_header m = trace_fields m && leb 1 (parameter_count m)

-- TOP-LEVEL STRUCTURES: a row of depth 1 and the rows inside it, which are those up to the next row of depth 1
pub record Top : Type 0 where
  pub row : Row
  pub inside : List Row

abbrev pub is_top : Row → Bool
is_top r = eqb r.depth 1

unfoldable pub until_top : List Row → List Row
until_top [] = []
until_top (r ∷ rs) = cond (is_top r) [] (r ∷ until_top rs)

unfoldable pub tops : List Row → List Top
tops [] = []
tops (r ∷ rs) = cons_if (is_top r) (record { row = r; inside = until_top rs }) (tops rs)

-- the top-level groups with an identifier
abbrev pub is_group : ℕ → Top → Bool
is_group id t = eqb t.row.kind MQCFT_GROUP && eqb t.row.parameter id

unfoldable pub groups_in : ℕ → List Top → List Top
groups_in id [] = []
groups_in id (t ∷ ts) = cons_if (is_group id t) t (groups_in id ts)

unfoldable pub groups : ℕ → List Row → List Top
groups id rows = groups_in id (tops rows)

abbrev pub trace_routes : List Row → List Top
trace_routes rows = groups MQGACF_TRACE_ROUTE rows

abbrev pub activities : List Row → List Top
activities rows = groups MQGACF_ACTIVITY rows

-- DIRECT MEMBERS: of the rows inside a top-level group those of depth 2, and not what is nested deeper
abbrev pub is_direct : Row → Bool
is_direct r = eqb r.depth 2

unfoldable pub direct_in : List Row → List Row
direct_in [] = []
direct_in (r ∷ rs) = cons_if (is_direct r) r (direct_in rs)

unfoldable pub direct_members : List Top → List Row
direct_members [] = []
direct_members (t ∷ ts) = direct_in t.inside ++ direct_members ts

-- the members that have an identifier
unfoldable pub named : ℕ → List Row → List Row
named id [] = []
named id (r ∷ rs) = cons_if (eqb r.parameter id) r (named id rs)

-- exactly one, and it is an integer: another type with the same identifier is a fault
unfoldable pub one_integer : List Row → Bool
one_integer [] = false
one_integer (r ∷ []) = eqb r.kind MQCFT_INTEGER
one_integer (r ∷ q ∷ rs) = false

-- each identifier of the sheet has one
unfoldable pub each_once : List ℕ → List Row → Bool
each_once [] members = true
each_once (id ∷ ids) members = one_integer (named id members) && each_once ids members

-- the place of the first row there is
unfoldable pub place_of_first : List Row → ℕ
place_of_first [] = 0
place_of_first (r ∷ rs) = r.place

unfoldable pub places_of : List ℕ → List Row → List ℕ
places_of sheet members = map (λ id. place_of_first (named id members)) sheet

-- the Value of the integer at p stands at p + 12
abbrev pub value_place : ℕ → ℕ
value_place p = p + 12

unfoldable pub value_at : Part → ℕ → ℕ
value_at m p = num m (value_place p)

unfoldable pub values_at : Part → List ℕ → List ℕ
values_at m ps = map (value_at m) ps

-- THE RANGES. An attribute of a list of values (or places, or identifiers)
abbrev pub value : List ℕ → ℕ → ℕ
value v attribute = get_or v attribute 0

unfoldable pub detail_ok : ℕ → Bool
detail_ok x = eqb x MQROUTE_DETAIL_LOW || (eqb x MQROUTE_DETAIL_MEDIUM || eqb x MQROUTE_DETAIL_HIGH)

unfoldable pub accumulate_ok : ℕ → Bool
accumulate_ok x = eqb x MQROUTE_ACCUMULATE_NONE || (eqb x MQROUTE_ACCUMULATE_IN_MSG || eqb x MQROUTE_ACCUMULATE_AND_REPLY)

-- some bit of the mask is set
unfoldable pub any_bit : ℕ → ℕ → Bool
any_bit mask x = not (eqb (bit_and x mask) 0)

-- exactly one of two bits; other bits are ignored
abbrev pub differ : Bool → Bool → Bool
differ true b = not b
differ false b = b

unfoldable pub one_bit : ℕ → ℕ → ℕ → Bool
one_bit first second x = differ (any_bit first x) (any_bit second x)

unfoldable pub forward_ok : ℕ → Bool
forward_ok x = one_bit MQROUTE_FORWARD_ALL MQROUTE_FORWARD_IF_SUPPORTED x

unfoldable pub deliver_ok : ℕ → Bool
deliver_ok x = one_bit MQROUTE_DELIVER_YES MQROUTE_DELIVER_NO x

unfoldable pub in_range : List ℕ → Bool
in_range v =
    detail_ok (value v Detail) && (small (value v RecordedActivities) && (small (value v UnrecordedActivities)
    && (small (value v DiscontinuityCount) && (small (value v MaxActivities) && (accumulate_ok (value v Accumulate)
    && (forward_ok (value v Forward) && deliver_ok (value v Deliver)))))))

-- READ. A sound trace as it is read: its rows, and the places and values of the eight attributes
pub record Trace : Type 0 where
  pub rows : List Row
  pub places : List ℕ
  pub values : List ℕ

-- what the caller states about a message
pub record Terms : Type 0 where
  pub sheet : List ℕ
  pub layout : Layout

-- 8: some attribute is not there exactly once as an integer in its range
unfoldable pub read_members : List ℕ → Part → List Row → List Row → Result Trace
read_members sheet m rows members =
    unless (each_once sheet members && in_range (values_at m (places_of sheet members))) (refused bad_attribute 0)
    (accepted (record { rows = rows; places = places_of sheet members; values = values_at m (places_of sheet members) }))

-- 6: not a trace-route header; 7: the TraceRoute group absent or repeated; then 8
unfoldable pub read_rows : List ℕ → Part → List Row → Result Trace
read_rows sheet m rows =
    unless (trace_header m) (refused no_trace_header 0)
    (unless (eqb (length (trace_routes rows)) 1) (refused no_trace_route 0)
    (read_members sheet m rows (direct_members (trace_routes rows))))

-- READ: 17, then 1, 18 and 2 to 5, then 6 to 8
unfoldable pub read_trace : Terms → List ℕ → ℕ → Result Trace
read_trace tm buf len =
    unless (sheet_ok tm.sheet) (refused bad_sheet 0) (and_then (scan tm.layout buf len) (read_rows tm.sheet (part_in tm.layout buf len)))

-- what Read gives: the eight values, the embedding, and the place of the user data, which is the part's end
pub record Reading : Type 0 where
  pub values : List ℕ
  pub embedding : Embedding
  pub user_place : ℕ

unfoldable pub read : Terms → List ℕ → ℕ → Result Reading
read tm buf len = and_then (read_trace tm buf len) (λ t. accepted (record {
  values = t.values;
  embedding = embedding_of tm.layout.form (part_of buf len);
  user_place = (part_in tm.layout buf len).end;
}))
