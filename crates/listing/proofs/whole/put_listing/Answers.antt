-- The header line, the rows, the last line.
use Rattle.listing.proofs.Listings.{header_room, rows_due, end_room, all_written}
use Rattle.listing.proofs.whole.put_listing.Goals as goal

pub put_header-head-requires : goal.put_header-head-requires
put_header-head-requires c =
    header_room _ _ _ _ _ c.requires.0 c.requires.1 _ _ _ c.number_at.ensures c.number_at-2.ensures c.number_at-members.ensures

pub put_all-body-requires : goal.put_all-body-requires
put_all-body-requires c =
    rows_due _ _ _ _ _ c.requires.0 c.requires.1 _ _ _ c.number_at.ensures c.number_at-2.ensures c.number_at-members.ensures _ _ c.put_header-head.ensures

pub put_end-requires : goal.put_end-requires
put_end-requires c =
    end_room _ _ _ _ _ c.requires.0 c.requires.1 _ _ _ c.number_at.ensures c.number_at-2.ensures c.number_at-members.ensures _ _ c.put_header-head.ensures _ _ c.put_all-body.ensures

pub returns : goal.returns
returns c =
    all_written _ _ _ _ _ c.requires.0 c.requires.1 _ _ _ c.number_at.ensures c.number_at-2.ensures c.number_at-members.ensures _ _ c.put_header-head.ensures _ _ c.put_all-body.ensures _ _ c.put_end.ensures
