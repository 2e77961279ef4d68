-- The first string of the Activity group, trimmed.
use Rattle.std.proofs.Common.{ℕ, List, length, refl, sym, ap, ◌∙◌, arith}
use lib.Seq.{length-take-le}
use Rattle.meaning.specs.Activity.{in_message, trimmed}
use Rattle.attributes.specs.Terms.{terms_of}
use Rattle.activities.specs.Spans.{span_in}
use Rattle.activities.proofs.Parts.{span_bytes}
use Rattle.activities.proofs.Namings.{name_lost, reached, group_known, string_fits, name_missing, name_found}
use Rattle.activities.proofs.names.name_span.Goals as goal

pub returns-in_default : goal.returns-in_default
returns-in_default c =
    let a = c.args in
    name_lost (terms_of a.terms) a.msg.now a.len a.n a.id _ _ c.in_default.ensures

pub slice_bounds-first_string-end : goal.slice_bounds-first_string-end
slice_bounds-first_string-end c =
    let a = c.args in
    sym (length-take-le c.in-Ok.t.part.end a.msg.now (reached (terms_of a.terms) a.msg.now a.len a.n a.id c.in-Ok.t c.in-Ok.ensures))

pub first_string-requires : goal.first_string-requires
first_string-requires c =
    let a = c.args in
    group_known (terms_of a.terms) a.msg.now a.len a.n a.id c.in-Ok.t c.in-Ok.ensures

pub returns-in_err-data : goal.returns-in_err-data
returns-in_err-data c =
    let a = c.args in
    rw c.from_residual.ensures (name_missing (terms_of a.terms) a.msg.now a.len a.n a.id c.in-Ok.t c.in-Ok.ensures c.in_err-data.ensures)

pub overflow_add-data : goal.overflow_add-data
overflow_add-data c =
    let a = c.args in
    omega (arith, string_fits (terms_of a.terms) a.msg.now a.len a.n a.id c.in-Ok.t c.in-Ok.ensures (span_in c.in_ok-data.data) c.in_ok-data.ensures)

pub slice_bounds-kept-end : goal.slice_bounds-kept-end
slice_bounds-kept-end c =
    let a = c.args in
    string_fits (terms_of a.terms) a.msg.now a.len a.n a.id c.in-Ok.t c.in-Ok.ensures (span_in c.in_ok-data.data) c.in_ok-data.ensures

pub returns : goal.returns
returns c =
    let a = c.args in
    let s = c.in_ok-data.data in
    ap (λ (x : ℕ). in_message (record { place = s.place; length = x })) (c.kept.ensures ∙ ap (λ (l : List ℕ). length (trimmed l)) (span_bytes a.msg.now s (span_in s) refl))
    ∙ name_found (terms_of a.terms) a.msg.now a.len a.n a.id c.in-Ok.t c.in-Ok.ensures (span_in s) c.in_ok-data.ensures
