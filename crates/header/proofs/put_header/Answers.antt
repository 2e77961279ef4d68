use Rattle.std.proofs.Common.{List, ℕ, refl, sym, ap, ◌∙◌, arith}
use lib.Seq.{take_all}
use Rattle.meaning.specs.Bytes.{words, splice}
use Rattle.meaning.proofs.Splices.{splice-none}
use Rattle.header.specs.Headers.{fields_of}
use Rattle.header.proofs.Headers.{nine, write_next}
use Rattle.header.proofs.put_header.Goals as goal

pub loop-i-init : goal.loop-i-init
unfolding words
loop-i-init c = (refl, sym (splice-none _ 0))

pub loop-i-preserved : goal.loop-i-preserved
loop-i-preserved c =
    let a = c.args in (
      c.put_number.auto.s ∙ c.loop-i.invariant.0,
      c.put_number.ensures ∙ rw (c.loop-i.invariant.1, c.field.ensures) (write_next a.buf.now (fields_of a.kind) c.loop-i.i (omega (arith, nine a.kind)) (omega (arith, nine a.kind))),
    )

pub returns : goal.returns
returns c =
    let a = c.args in
    c.loop-i.invariant.1 ∙ ap (λ (l : List ℕ). splice a.buf.now 0 (words l)) (take_all c.loop-i.i (fields_of a.kind) (omega (arith, nine a.kind)))
