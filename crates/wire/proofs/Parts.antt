-- Parts of a list: what is written over one, and the bytes up to an end.
use Rattle.std.proofs.Common.{◌≡◌, ◌∙◌, refl, ℕ, ◌+◌, ◌-◌, ◌≤◌, List, length, take, arith}
use lib.Seq.{length-take-le}
use borrow.Rule.Slice.PartMut.{put_mid}
use Rattle.std.proofs.lemmas.Slice.{put_mid-paste}
use Rattle.meaning.specs.Bytes.{splice, whole, part_of}
use Rattle.meaning.proofs.Splices.{splice_copy}

-- the part from `at` on, as long as s, was written over
pub over_part : (d : List ℕ) (at k : ℕ) (s w : List ℕ) → w ≡ s → length s ≡ k → put_mid at (at + k - at) d w ≡ splice d at s
over_part d at k s w e l = put_mid-paste at (at + k - at) d w s (length s) e (omega arith) refl ∙ splice_copy d at s

-- the first bytes of a buffer, as a list of their own, are the part that they are of the buffer
pub whole-take : (s : List ℕ) (end : ℕ) → end ≤ length s → whole (take end s) ≡ part_of s end
whole-take s end h = rw (length-take-le end s h) refl
