-- What the event answers is brief, whatever the report buffer.
use Rattle.std.proofs.Common.{[], sym, ap, subst}
use Rattle.meaning.specs.Event.{Outcome}
use Rattle.codes.specs.Events.{Brief}
use Rattle.gwirandol.proofs.Applied.{event_brief}
use Rattle.gwirandol.proofs.events.gw_discontinuity.Goals as goal

pub told-requires : goal.told-requires
told-requires c = subst Brief (sym (ap (λ (o : Outcome). o.answer) (c.discontinuity-found.ensures []))) (event_brief _ _ _)
