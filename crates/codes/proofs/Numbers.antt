-- Numbers of answers: small enough, and by the answer's cases.
use mathlib.Core.Path.{◌≡◌, refl}
use Prim.Native.Nat.{◌<◌}
use native.Mathlib.Omega.{arith}
use Rattle.meaning.specs.Event.{Level, low, medium, high, rank}
use Rattle.refusals.specs.Refusals.{number_of, owed}
use Rattle.refusals.specs.declared.Refusal.{Refusal}
use Rattle.refusals.specs.declared.Refusal.TheVariants.{BadLength, BadHeader, BadStructure, TooDeep, LeftOver, NoTraceHeader, NoTraceRoute, BadAttribute, BadGroup, MaxActivities, CounterFull, NoRoom, ReportTooShort, UnsupportedDelivery, UnsupportedForwarding, NotForwarded, BadSheet, BadEmbeddedHeader}
use Rattle.codes.specs.Events.{level_in}

-- a refusal's number is below 32: number and place can be told from the answer
pub number_below : (r : Refusal) → number_of r < 32
number_below BadLength = omega arith
number_below BadHeader = omega arith
number_below (BadStructure p) = omega arith
number_below (TooDeep p) = omega arith
number_below (LeftOver p) = omega arith
number_below NoTraceHeader = omega arith
number_below NoTraceRoute = omega arith
number_below BadAttribute = omega arith
number_below BadGroup = omega arith
number_below (MaxActivities owed) = omega arith
number_below CounterFull = omega arith
number_below NoRoom = omega arith
number_below ReportTooShort = omega arith
number_below UnsupportedDelivery = omega arith
number_below UnsupportedForwarding = omega arith
number_below NotForwarded = omega arith
number_below BadSheet = omega arith
number_below BadEmbeddedHeader = omega arith

-- a level's number is Detail's value for it: each of the three comes back
pub level_of_rank : (l : Level) → level_in (rank l) ≡ l
level_of_rank low = refl
level_of_rank medium = refl
level_of_rank high = refl
