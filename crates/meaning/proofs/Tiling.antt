-- ROWS TILE THE PART: they stand one behind the other from its header's end to its own, and their number is the tally's sum and the
-- listing's `end` number.
use mathlib.Core.Path.{◌≡◌, refl, sym}
use mathlib.Core.List.{List, ◌++◌, append_assoc}
use Prim.Native.Nat.{ℕ}
use lib.ListN.{length}
use Rattle.meaning.specs.Answer.{accepted}
use Rattle.meaning.specs.Structure.{Row}
use Rattle.meaning.specs.Layout.{Layout, part_in}
use Rattle.meaning.specs.Message.{first_place, scan, check, tally}
use Rattle.meaning.specs.Listing.{header_line, row_lines, end_line, listing_text, listing}
use Rattle.meaning.proofs.Walks.{Tiles, tiles}
use Rattle.meaning.proofs.Tallies.{total, total_counts, walks_kinds}
use Rattle.meaning.proofs.Sound.{sound_scan}

pub record Tiled (l : Layout) (buf : List ℕ) (len : ℕ) (rows : List Row) : Type 0 where
  pub tiled : Tiles (part_in l buf len) (first_place (part_in l buf len)) rows (part_in l buf len).end
  pub checks : check l buf len ≡ accepted (length rows)
  pub tallies : total (tally l buf len) ≡ length rows
  pub ends : listing l buf len ≡ (header_line (part_in l buf len) len ++ row_lines rows) ++ end_line (length rows)

-- ROWS TILE THE PART
pub rows_tile : (l : Layout) (buf : List ℕ) (len : ℕ) (rows : List Row) → scan l buf len ≡ accepted rows → Tiled l buf len rows
unfolding check tally listing listing_text
rows_tile l buf len rows e =
    let s = (sound_scan l buf len rows e).1 in
    record {
      tiled = tiles s.tree;
      checks = rw e refl;
      tallies = rw e (total_counts 27 rows (walks_kinds s.tree));
      ends = rw e (sym (append_assoc (header_line (part_in l buf len) len) (row_lines rows) (end_line (length rows))));
    }
