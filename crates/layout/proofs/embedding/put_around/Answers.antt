use Rattle.layout.proofs.Laying.{around_plain}
use Rattle.layout.proofs.embedding.put_around.Goals as goal

pub returns-in-Plain : goal.returns-in-Plain
returns-in-Plain c = rw c.in-Plain.is (around_plain _ _ _ _)
