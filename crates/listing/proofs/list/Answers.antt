-- What it writes and answers is what was found of the part that was opened, and a refusal is the check's.
use Rattle.std.proofs.lemmas.Result.{err_from_is_err_and}
use Rattle.listing.proofs.Entries.{list_shut, list_fault, list_sound}
use Rattle.listing.proofs.list.Goals as goal

pub returns-in_err-opening : goal.returns-in_err-opening
returns-in_err-opening c =
    let p = err_from_is_err_and c.from_residual.result c.from_residual.ensures.1 in
    rw (p.1, p.2) (list_shut _ c.args.msg.now _ _ _ c.in_err-opening.ensures)

pub returns-in_err-count : goal.returns-in_err-count
returns-in_err-count c =
    let p = err_from_is_err_and c.from_residual-in_err-count.result c.from_residual-in_err-count.ensures.1 in
    rw (p.1, p.2) (list_fault _ c.args.msg.now _ _ _ c.in_ok-opening.ensures _ _ c.in_err-count.ensures)

pub returns : goal.returns
returns c = list_sound _ c.args.msg.now _ _ _ c.in_ok-opening.ensures _ c.in_ok-count.ensures _ _ _ c.put_listing.ensures
