-- The words are copied, and one byte is put behind them.
use Rattle.words.proofs.Sayings.{with_zero}
use Rattle.words.proofs.say.Goals as goal

pub returns : goal.returns
returns c = with_zero _ _ _ c.requires c.told-text c.copy.ensures
