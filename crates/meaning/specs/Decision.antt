-- Forwarding and arrival.
use Rattle.std.specs.Prelude.{ℕ, Bool, not, ◌&&◌, List}
use Rattle.meaning.specs.Names.{MQROUTE_FORWARD_IF_SUPPORTED, MQROUTE_DELIVER_YES, reject_unsupported, Forward, Deliver, MQFB_UNSUPPORTED_DELIVERY, MQFB_UNSUPPORTED_FORWARDING, MQFB_NOT_FORWARDED}
use Rattle.meaning.specs.Answer.{Result, accepted, refused, and_then, when}
use Rattle.meaning.specs.Trace.{Terms, value, any_bit, read}

pub data Decision : Type 0 where
  forward put_locally withhold : Decision

-- an option of Forward or Deliver that nobody may pass over: some bit of the upper half is set
unfoldable pub unrecognised : ℕ → Bool
unrecognised x = any_bit reject_unsupported x

-- of a value in range exactly one of the two bits is set, so one bit tells
unfoldable pub deliver_yes : ℕ → Bool
deliver_yes x = any_bit MQROUTE_DELIVER_YES x

unfoldable pub if_supported : ℕ → Bool
if_supported x = any_bit MQROUTE_FORWARD_IF_SUPPORTED x

-- Three steps. A manager without trace-route messaging is asked about Deliver first: 14 for an unrecognised option, and the
-- message goes on if it may be delivered. What is not decided then is 15 for an unrecognised option of Forward. Last, a
-- message that only supporting managers may get is 16 for the others; all the rest goes on.
unfoldable pub forward_by : List ℕ → Bool → Result Decision
forward_by v supporting =
    when (not supporting && unrecognised (value v Deliver)) (refused MQFB_UNSUPPORTED_DELIVERY 0)
    (when (not supporting && deliver_yes (value v Deliver)) (accepted forward)
    (when (unrecognised (value v Forward)) (refused MQFB_UNSUPPORTED_FORWARDING 0)
    (when (not supporting && if_supported (value v Forward)) (refused MQFB_NOT_FORWARDED 0) (accepted forward))))

-- 14 for an unrecognised option of Deliver; otherwise the message is put if Deliver says yes, and withheld if not.
unfoldable pub arrive_by : List ℕ → Result Decision
arrive_by v =
    when (unrecognised (value v Deliver)) (refused MQFB_UNSUPPORTED_DELIVERY 0)
    (when (deliver_yes (value v Deliver)) (accepted put_locally) (accepted withhold))

-- FORWARDING, to a manager with or without trace-route messaging, and ARRIVAL: Read's refusals first
unfoldable pub forwarding : Terms → List ℕ → ℕ → Bool → Result Decision
forwarding tm buf len supporting = and_then (read tm buf len) (λ r. forward_by r.values supporting)

unfoldable pub arrival : Terms → List ℕ → ℕ → Result Decision
arrival tm buf len = and_then (read tm buf len) (λ r. arrive_by r.values)
