-- What the exit of a `?` answers.
use mathlib.Core.Path.{◌≡◌, ap}
use Rattle.std.specs.Prelude.{Result, Ok, Err}
use Rattle.std.specs.Result.{IsErrAnd}

-- the refusal that it was given
pub given_on : {A E : Type 0} (r : Result A E) (e : E) → IsErrAnd r (λ y. y ≡ e) → r ≡ Err e
given_on (Ok x) e h = absurd h
given_on (Err y) e h = ap Err h
