-- What a reader finds behind the structures that were passed over.
use Rattle.std.proofs.Common.{◌∙◌}
use Rattle.reader.proofs.Tops.{behind_them}
use Rattle.reader.proofs.nth_top.Goals as goal

pub returns : goal.returns
returns c = c.look.ensures ∙ behind_them _ c.args.msg.now _ _ c.in_ok-part.ensures _ c.in_ok-place.ensures
