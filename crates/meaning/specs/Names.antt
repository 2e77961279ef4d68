-- The numbers that the rules use, under IBM's names, and the names of the refusals.
use Rattle.std.specs.Prelude.{ℕ}

-- the most bytes of a message
abbrev pub most_bytes : ℕ
most_bytes = 65536

-- counts and lengths from here on are faults
abbrev pub two_to31 : ℕ
two_to31 = 2147483648

-- the highest value of a counter
abbrev pub most_count : ℕ
most_count = 2147483647

-- no group is deeper
abbrev pub most_depth : ℕ
most_depth = 8

-- the eleven structure types
abbrev pub MQCFT_INTEGER : ℕ
MQCFT_INTEGER = 3

abbrev pub MQCFT_STRING : ℕ
MQCFT_STRING = 4

abbrev pub MQCFT_INTEGER_LIST : ℕ
MQCFT_INTEGER_LIST = 5

abbrev pub MQCFT_STRING_LIST : ℕ
MQCFT_STRING_LIST = 6

abbrev pub MQCFT_BYTE_STRING : ℕ
MQCFT_BYTE_STRING = 9

abbrev pub MQCFT_INTEGER_FILTER : ℕ
MQCFT_INTEGER_FILTER = 13

abbrev pub MQCFT_STRING_FILTER : ℕ
MQCFT_STRING_FILTER = 14

abbrev pub MQCFT_BYTE_STRING_FILTER : ℕ
MQCFT_BYTE_STRING_FILTER = 15

abbrev pub MQCFT_GROUP : ℕ
MQCFT_GROUP = 20

abbrev pub MQCFT_INTEGER64 : ℕ
MQCFT_INTEGER64 = 23

abbrev pub MQCFT_INTEGER64_LIST : ℕ
MQCFT_INTEGER64_LIST = 25

-- header values of a trace-route message and of an activity report
abbrev pub MQCFT_TRACE_ROUTE : ℕ
MQCFT_TRACE_ROUTE = 10

abbrev pub MQCFT_REPORT : ℕ
MQCFT_REPORT = 12

abbrev pub MQCFH_VERSION_3 : ℕ
MQCFH_VERSION_3 = 3

abbrev pub MQCFH_STRUC_LENGTH : ℕ
MQCFH_STRUC_LENGTH = 36

abbrev pub MQCMD_TRACE_ROUTE : ℕ
MQCMD_TRACE_ROUTE = 75

abbrev pub MQCMD_ACTIVITY_MSG : ℕ
MQCMD_ACTIVITY_MSG = 69

abbrev pub MQCFC_LAST : ℕ
MQCFC_LAST = 1

abbrev pub MQCC_OK : ℕ
MQCC_OK = 0

abbrev pub MQRC_NONE : ℕ
MQRC_NONE = 0

-- the embedded header: its version; its length, and that together with a PCF header's, which its StrucLength has at least
abbrev pub MQEPH_VERSION_1 : ℕ
MQEPH_VERSION_1 = 1

abbrev pub embedded_header_length : ℕ
embedded_header_length = 32

abbrev pub MQEPH_STRUC_LENGTH_FIXED : ℕ
MQEPH_STRUC_LENGTH_FIXED = 68

-- group identifiers
abbrev pub MQGACF_TRACE_ROUTE : ℕ
MQGACF_TRACE_ROUTE = 8003

abbrev pub MQGACF_ACTIVITY : ℕ
MQGACF_ACTIVITY = 8005

-- Detail
abbrev pub MQROUTE_DETAIL_LOW : ℕ
MQROUTE_DETAIL_LOW = 2

abbrev pub MQROUTE_DETAIL_MEDIUM : ℕ
MQROUTE_DETAIL_MEDIUM = 8

abbrev pub MQROUTE_DETAIL_HIGH : ℕ
MQROUTE_DETAIL_HIGH = 32

-- MaxActivities
abbrev pub MQROUTE_UNLIMITED_ACTIVITIES : ℕ
MQROUTE_UNLIMITED_ACTIVITIES = 0

-- Accumulate
abbrev pub MQROUTE_ACCUMULATE_NONE : ℕ
MQROUTE_ACCUMULATE_NONE = 0x10003

abbrev pub MQROUTE_ACCUMULATE_IN_MSG : ℕ
MQROUTE_ACCUMULATE_IN_MSG = 0x10004

abbrev pub MQROUTE_ACCUMULATE_AND_REPLY : ℕ
MQROUTE_ACCUMULATE_AND_REPLY = 0x10005

-- bits of Forward and Deliver, and the mask of the options that must be recognised
abbrev pub MQROUTE_FORWARD_ALL : ℕ
MQROUTE_FORWARD_ALL = 0x100

abbrev pub MQROUTE_FORWARD_IF_SUPPORTED : ℕ
MQROUTE_FORWARD_IF_SUPPORTED = 0x200

abbrev pub MQROUTE_DELIVER_YES : ℕ
MQROUTE_DELIVER_YES = 0x1000

abbrev pub MQROUTE_DELIVER_NO : ℕ
MQROUTE_DELIVER_NO = 0x2000

-- (IBM has it twice, for Forward and for Deliver: MQROUTE_FORWARD_REJ_UNSUP_MASK, MQROUTE_DELIVER_REJ_UNSUP_MASK)
abbrev pub reject_unsupported : ℕ
reject_unsupported = 0xFFFF0000

-- The eight attributes, in the rules' order: their positions in a sheet, in a list of values and in a list of places.
abbrev pub Detail : ℕ
Detail = 0

abbrev pub RecordedActivities : ℕ
RecordedActivities = 1

abbrev pub UnrecordedActivities : ℕ
UnrecordedActivities = 2

abbrev pub DiscontinuityCount : ℕ
DiscontinuityCount = 3

abbrev pub MaxActivities : ℕ
MaxActivities = 4

abbrev pub Accumulate : ℕ
Accumulate = 5

abbrev pub Forward : ℕ
Forward = 6

abbrev pub Deliver : ℕ
Deliver = 7

-- how many attributes there are
abbrev pub attributes : ℕ
attributes = 8

-- The refusals, by their numbers. Four of them mean that IBM's feedback of that name is given; the number is still
-- ours, not the value of IBM's feedback code.
abbrev pub bad_length : ℕ
bad_length = 1

abbrev pub bad_header : ℕ
bad_header = 2

abbrev pub bad_structure : ℕ
bad_structure = 3

abbrev pub too_deep : ℕ
too_deep = 4

abbrev pub left_over : ℕ
left_over = 5

abbrev pub no_trace_header : ℕ
no_trace_header = 6

abbrev pub no_trace_route : ℕ
no_trace_route = 7

abbrev pub bad_attribute : ℕ
bad_attribute = 8

abbrev pub bad_group : ℕ
bad_group = 9

abbrev pub MQFB_MAX_ACTIVITIES : ℕ
MQFB_MAX_ACTIVITIES = 10

abbrev pub counter_full : ℕ
counter_full = 11

abbrev pub no_room : ℕ
no_room = 12

abbrev pub report_too_short : ℕ
report_too_short = 13

abbrev pub MQFB_UNSUPPORTED_DELIVERY : ℕ
MQFB_UNSUPPORTED_DELIVERY = 14

abbrev pub MQFB_UNSUPPORTED_FORWARDING : ℕ
MQFB_UNSUPPORTED_FORWARDING = 15

abbrev pub MQFB_NOT_FORWARDED : ℕ
MQFB_NOT_FORWARDED = 16

abbrev pub bad_sheet : ℕ
bad_sheet = 17

abbrev pub bad_embedded_header : ℕ
bad_embedded_header = 18
