-- What an event did in numbers for C, and a level by its number.
use Rattle.std.specs.Prelude.{ℕ, ◌+◌, ◌≤◌, ◌≡◌, cond, List, [], ◌∷◌, eqb}
use Rattle.meaning.specs.Names.{MQROUTE_DETAIL_MEDIUM, MQROUTE_DETAIL_HIGH}
use Rattle.meaning.specs.Answer.{accepted, refused}
use Rattle.meaning.specs.Event.{Level, low, medium, high, Answer, done, denied}
use Rattle.codes.specs.Codes.{code}

-- a level by its number, which is Detail's value for it; what is neither medium nor high is low
abbrev pub level_in : ℕ → Level
level_in n = cond (eqb n MQROUTE_DETAIL_MEDIUM) medium (cond (eqb n MQROUTE_DETAIL_HIGH) high low)

-- the message's length; or the refusal: 10, which has no place, has 1 there if a reply is owed
abbrev pub event_code : Answer → ℕ
event_code (done d) = code (accepted d.message_length)
event_code (denied n p owed) = code (refused n (p + cond owed 1 0))

-- the four numbers of what was done; a refusal leaves them
abbrev pub done_in : List ℕ → Answer → List ℕ
done_in before (done d) = d.counter ∷ cond d.appended 1 0 ∷ d.report_length ∷ d.message_length ∷ []
done_in before (denied n p owed) = before

-- length and place are small enough
abbrev pub Brief : Answer → Type 0
Brief (done d) = d.message_length ≤ 65536
Brief (denied n p owed) = p ≤ 65536

-- an answer, told as a number and in four
pub record Tells (a : Answer) (before : List ℕ) (r : ℕ) (after : List ℕ) : Type 0 where
  pub answer : r ≡ event_code a
  pub done : after ≡ done_in before a
