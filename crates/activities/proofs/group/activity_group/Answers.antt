-- The part is the span's, it ends in the message, and it lies in the message's memory.
use Rattle.std.proofs.Common.{◌+◌, refl, ap, arith}
use Rattle.meaning.specs.Activity.{Span}
use Rattle.attributes.specs.Terms.{terms_of}
use Rattle.activities.proofs.Parts.{activity_end, span_bytes}
use Rattle.activities.proofs.group.activity_group.Goals as goal

pub overflow_add-result : goal.overflow_add-result
overflow_add-result c = omega (arith, activity_end (terms_of c.args.terms) c.args.msg.now c.args.len c.args.n _ _ c.activity_span-place.ensures)

pub slice_bounds-result-end : goal.slice_bounds-result-end
slice_bounds-result-end c = activity_end (terms_of c.args.terms) c.args.msg.now c.args.len c.args.n _ _ c.activity_span-place.ensures

pub returns : goal.returns
returns c =
    let e = c.activity_span-place.ensures in
    record { memory = refl; start = ap (λ (x : Span). x.place + c.args.msg.ref_ptr.1) e; bytes = span_bytes c.args.msg.now _ _ e }
