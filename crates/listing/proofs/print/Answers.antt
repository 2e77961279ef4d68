-- For every input.
use Rattle.listing.proofs.Entries.{print_listed, refused_place, print_refused}
use Rattle.listing.proofs.print.Goals as goal

pub refused_line-requires : goal.refused_line-requires
refused_line-requires c = refused_place _ _ _ _ _ c.in-Err.ensures

pub returns-in-Ok : goal.returns-in-Ok
returns-in-Ok c = print_listed _ _ _ _ _ c.in-Ok.ensures

pub returns-in-Err : goal.returns-in-Err
returns-in-Err c = print_refused _ _ _ _ _ c.in-Err.ensures _ _ c.refused_line.ensures
