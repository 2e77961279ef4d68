-- IBM's feedback code of a refusal.
use Rattle.std.specs.Prelude.{ℕ, cond, eqb}
use Rattle.meaning.specs.Names.{MQFB_MAX_ACTIVITIES, MQFB_UNSUPPORTED_DELIVERY, MQFB_UNSUPPORTED_FORWARDING, MQFB_NOT_FORWARDED}

-- The refusals 10, 16, 15 and 14 have IBM's names; IBM's codes under these names are 282, 283, 285 and 286. Any other number
-- has none, which is 0 (IBM's MQFB_NONE).
unfoldable pub feedback_of : ℕ → ℕ
feedback_of n =
    cond (eqb n MQFB_MAX_ACTIVITIES) 282
    (cond (eqb n MQFB_NOT_FORWARDED) 283
    (cond (eqb n MQFB_UNSUPPORTED_FORWARDING) 285
    (cond (eqb n MQFB_UNSUPPORTED_DELIVERY) 286 0)))
