-- `read` meets its contract: the values are those of the trace.
use Rattle.std.proofs.Common.{arith}
use Rattle.attributes.specs.Terms.{terms_of}
use Rattle.std.proofs.lemmas.Result.{err_from_is_err_and}
use Rattle.routing.proofs.Given.{read_none, read_all, lies}
use Rattle.routing.proofs.read.Goals as goal

pub returns-in_err-t : goal.returns-in_err-t
returns-in_err-t c =
    let a = c.args in
    let p = err_from_is_err_and c.from_residual.result c.from_residual.ensures.1 in
    rw (p.1, p.2) (read_none (terms_of a.terms) a.msg.now a.len _ _ c.in_err-t.ensures)

pub embedding_of-requires : goal.embedding_of-requires
embedding_of-requires c =
    let a = c.args in
    let z = lies (terms_of a.terms) a.msg.now a.len _ c.in_ok-t.ensures in
    omega (arith, z.least, z.within, z.there)

pub returns : goal.returns
returns c =
    let a = c.args in
    read_all (terms_of a.terms) a.msg.now a.len _ c.in_ok-t.ensures _ c.embedding_of.ensures
