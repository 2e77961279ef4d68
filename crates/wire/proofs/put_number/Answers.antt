use Rattle.std.proofs.Common.{◌∙◌}
use Rattle.meaning.specs.Bytes.{bytes4}
use Rattle.meaning.proofs.Numbers.{length-bytes4}
use Rattle.wire.proofs.Parts.{over_part}
use Rattle.wire.proofs.put_number.Goals as goal

pub returns : goal.returns
unfolding bytes4
returns c = over_part _ _ 4 (bytes4 c.args.v) _ (c.copy_from_slice.ensures.after ∙ c.to_be_bytes.ensures) (length-bytes4 c.args.v)
