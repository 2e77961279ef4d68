-- A decision as a number for C.
use Rattle.std.specs.Prelude.{ℕ}
use Rattle.meaning.specs.Answer.{Result, accepted, refused}
use Rattle.meaning.specs.Decision.{Decision, forward, put_locally, withhold}

abbrev pub decision_number : Decision → ℕ
decision_number forward = 1
decision_number put_locally = 2
decision_number withhold = 3

abbrev pub decided_number : Result Decision → Result ℕ
decided_number (accepted d) = accepted (decision_number d)
decided_number (refused n p) = refused n p
