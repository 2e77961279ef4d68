use Rattle.std.proofs.Common.{◌≡◌, ℕ, ◌+◌, ◌-◌, List, refl, ap, ◌∙◌, length, take, drop}
use Rattle.meaning.specs.Bytes.{part_of, bytes4, splice, store}
use Rattle.meaning.specs.Layout.{lengthened}
use Rattle.meaning.proofs.Layouts.{lengthened_as}
use Rattle.layout.specs.Layouts.{form_of, part_at}
use Rattle.event.proofs.Writes.{raised_only, grown_in}
use Rattle.event.proofs.written.write_message.Goals as goal

-- first the numbers are written, then the user data and the group
pub returns-then-appends : goal.returns-then-appends
unfolding store
returns-then-appends c =
    let a = c.args in
    let P = part_at a.buf.now a.part in
    let f = form_of a.layout.form in
    let raised = splice a.buf.now a.at (bytes4 (a.value + 1)) in
    let numbers : c.put_number-then-appends.new.s ≡ splice (lengthened f P (length a.group.now) raised) (a.part.start + 32) (bytes4 (c.number_at-count.result + 1)) =
    c.put_number-then-appends.ensures ∙ rw (c.lengthen.ensures, c.put_number.ensures, lengthened_as f (part_of raised a.part.end) P (length a.group.now) raised refl) refl in
    let e = numbers ∙ ap (λ (n : ℕ). store P (lengthened f P (length a.group.now) (store P a.buf.now a.at (a.value + 1))) (a.part.start + 32) (n + 1)) c.number_at-count.ensures in
    c.copy_to.ensures
    ∙ ap (λ (x : List ℕ). splice x a.part.end a.group.now)
    (c.move_back.ensures ∙ ap (λ (x : List ℕ). splice x (a.part.end + length a.group.now) (take (a.len - a.part.end) (drop a.part.end x))) e)
    ∙ grown_in a.buf.now a.len a.layout a.part a.at a.value a.appends a.group.now c.requires c.if-appends.true

pub returns-else-appends : goal.returns-else-appends
returns-else-appends c = c.put_number.ensures ∙ raised_only _ c.args.len c.args.layout c.args.part _ _ _ c.args.group.now c.if-appends.false
