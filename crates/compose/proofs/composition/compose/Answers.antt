-- `composition::compose` meets its contract: the three tests are the meaning's, and only behind them is anything written.
use Rattle.std.proofs.Common.{◌≡◌, Err, rules, sym, ◌∙◌, arith}
use Rattle.meaning.specs.Compose.{composed, compose}
use Rattle.meaning.proofs.Splices.{splice_lent}
use Rattle.meaning.proofs.Composed.{length-composed}
use Rattle.layout.specs.Layouts.{embedding_in}
use Rattle.attributes.specs.Terms.{terms_of}
use Rattle.compose.proofs.Outcomes.{bad_sheet_holds, bad_values, by_room, written}
use Rattle.compose.specs.Composes.{composed_into}
use Rattle.compose.proofs.composition.compose.Goals as goal

pub returns-then-not-sheet_ok : goal.returns-then-not-sheet_ok
returns-then-not-sheet_ok c =
    let a = c.args in
    bad_sheet_holds (terms_of a.terms) a.values (embedding_in a.embedding) a.user.now a.buf.now
    (sym c.sheet_ok.ensures ∙ c.if-not-sheet_ok.true)

pub returns-then-not-in_range : goal.returns-then-not-in_range
returns-then-not-in_range c =
    let a = c.args in
    bad_values (terms_of a.terms) a.values (embedding_in a.embedding) a.user.now a.buf.now
    (sym c.sheet_ok.ensures ∙ c.if-not-sheet_ok.false) (omega arith)
    (sym c.in_range.ensures ∙ c.if-not-in_range.true)

pub returns-in_err-length : goal.returns-in_err-length
returns-in_err-length c =
    let a = c.args in
    let e : composed_into (Err c.in_err-length.field-0.0) a.buf.now ≡ compose (terms_of a.terms) a.values (embedding_in a.embedding) a.user.now a.buf.now =
    by_room (terms_of a.terms) a.values (embedding_in a.embedding) a.user.now a.buf.now
    (sym c.sheet_ok.ensures ∙ c.if-not-sheet_ok.false) (omega arith)
    (sym c.in_range.ensures ∙ c.if-not-in_range.false) _ c.in_err-length.ensures in
    search (rules, e)

pub returns : goal.returns
returns c =
    let a = c.args in
    let sound = sym c.sheet_ok.ensures ∙ c.if-not-sheet_ok.false in
    written (terms_of a.terms) a.values (embedding_in a.embedding) a.user.now a.buf.now
    sound (omega arith) (sym c.in_range.ensures ∙ c.if-not-in_range.false) _ c.in_ok-length.ensures _
    (rw c.put_trace.ensures (splice_lent _ _ _)
    ∙ c.put_around-start.ensures.around (composed a.terms.sheet a.values) (length-composed a.terms.sheet a.values sound (omega arith)))
