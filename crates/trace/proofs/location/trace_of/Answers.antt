-- Read's tests, in its order: the sheet, what is before the structures, the structures, and what follows them.
use Rattle.std.proofs.Common.{◌≡◌, Bool, true, ℕ, List, sym, ◌∙◌, arith}
use lib.Seq.{length-take-le}
use Rattle.meaning.specs.Answer.{accepted}
use Rattle.meaning.specs.Trace.{sheet_ok}
use Rattle.attributes.specs.Terms.{terms_of}
use Rattle.attributes.specs.declared.terms.Terms.{Terms}
use Rattle.layout.specs.Layouts.{layout_of}
use Rattle.pcf.specs.Messages.{opened, opening_of}
use Rattle.pcf.specs.declared.message.Opening.{Opening}
use Rattle.walk.proofs.Answers.{given_on}
use Rattle.trace.proofs.Locating.{Begun, lies, trace_unsheeted, trace_unopened, trace_halt, trace_left, trace_whole, headed}
use Rattle.trace.proofs.location.trace_of.Goals as goal

-- the sheet is sound, and the part was opened
begins : (t : Terms) {msg : List ℕ} {len : ℕ} {o : Opening} {b : Bool} → b ≡ sheet_ok t.sheet → b ≡ true → accepted (opening_of msg o) ≡ opened (layout_of t.layout) msg len
    → Begun (terms_of t) msg len o
begins t e f g = record { sheeted = sym e ∙ f; opens = g }

pub returns-then-not-sheet_ok : goal.returns-then-not-sheet_ok
returns-then-not-sheet_ok c =
    let a = c.args in
    trace_unsheeted (terms_of a.terms) a.msg.now a.len a.n (sym c.sheet_ok.ensures ∙ c.if-not-sheet_ok.true)

pub returns-in_err-opening : goal.returns-in_err-opening
returns-in_err-opening c =
    let a = c.args in
    rw (given_on _ _ c.from_residual.ensures.1)
    (trace_unopened (terms_of a.terms) a.msg.now a.len a.n (sym c.sheet_ok.ensures ∙ c.if-not-sheet_ok.false) _ _ c.in_err-opening.ensures)

pub slice_bounds-survey-end : goal.slice_bounds-survey-end
slice_bounds-survey-end c =
    let b = begins c.args.terms c.sheet_ok.ensures c.if-not-sheet_ok.false c.in_ok-opening.ensures in
    sym (length-take-le c.in_ok-opening.opening.part.end c.args.msg.now (lies b).there)

pub overflow_add-part : goal.overflow_add-part
overflow_add-part c =
    let b = begins c.args.terms c.sheet_ok.ensures c.if-not-sheet_ok.false c.in_ok-opening.ensures in
    omega (arith, (lies b).room, (lies b).most)

pub returns-in_err-tops : goal.returns-in_err-tops
returns-in_err-tops c =
    let b = begins c.args.terms c.sheet_ok.ensures c.if-not-sheet_ok.false c.in_ok-opening.ensures in
    rw (given_on _ _ c.from_residual-in_err-tops.ensures.1) (trace_halt b c.args.n _ _ c.in_err-tops.ensures)

pub returns-then-tops-part : goal.returns-then-tops-part
returns-then-tops-part c =
    let b = begins c.args.terms c.sheet_ok.ensures c.if-not-sheet_ok.false c.in_ok-opening.ensures in
    trace_left b c.args.n _ c.in_ok-tops.ensures c.if-tops-part.true

pub judge-requires : goal.judge-requires
judge-requires c =
    let b = begins c.args.terms c.sheet_ok.ensures c.if-not-sheet_ok.false c.in_ok-opening.ensures in
    record { headed = headed b c.args.n _ c.in_ok-tops.ensures c.if-tops-part.false; sheeted = sym c.sheet_ok.ensures ∙ c.if-not-sheet_ok.false }

pub returns : goal.returns
returns c =
    let b = begins c.args.terms c.sheet_ok.ensures c.if-not-sheet_ok.false c.in_ok-opening.ensures in
    c.judge.ensures ∙ trace_whole b c.args.n _ c.in_ok-tops.ensures c.if-tops-part.false
