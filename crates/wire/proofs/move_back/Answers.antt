-- the block has the bytes as they were, and is written whole
use Rattle.std.proofs.Common.{◌≡◌, ◌∙◌, ◌+◌, ◌-◌, ℕ, ap, arith, length, take, drop, length-drop}
use lib.Seq.{length-take-le}
use Rattle.meaning.specs.Bytes.{splice}
use Rattle.meaning.proofs.Splices.{take_written}
use Rattle.wire.proofs.move_back.Goals as goal

pub returns : goal.returns
returns c =
    let a = c.args in
    let e : a.from + a.n - a.from ≡ a.n = omega arith in
    let l : length (take (a.from + a.n - a.from) (drop a.from a.s.now)) ≡ a.n =
    length-take-le (a.from + a.n - a.from) (drop a.from a.s.now) (omega (arith, c.requires.0, length-drop a.from a.s.now)) ∙ e in
    let taken : take a.n c.copy.new.to ≡ take a.n (drop a.from a.s.now) =
    ap (take a.n) c.copy.ensures ∙ take_written _ _ a.n l (omega (arith, c.requires.1)) ∙ ap (λ (k : ℕ). take k (drop a.from a.s.now)) e in
    c.copy_to.ensures ∙ ap (splice _ _) taken
