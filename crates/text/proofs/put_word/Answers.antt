-- `put_word` meets its contract: the part of the buffer that was lent for the word is the word.
use Rattle.std.proofs.Common.{refl, ◌∙◌, arith}
use Rattle.std.proofs.lemmas.Slice.{put_mid-paste}
use Rattle.meaning.proofs.Splices.{splice_copy}
use Rattle.text.proofs.put_word.Goals as goal

pub returns : goal.returns
returns c =
    record {
      bytes = put_mid-paste _ _ _ _ _ _ c.copy_from_slice.ensures.after (omega arith) refl ∙ splice_copy _ _ _;
      place = refl;
    }
