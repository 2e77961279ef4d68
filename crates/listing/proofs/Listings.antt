-- The header line, the rows and the last line of a message that was checked, over plain lists and numbers.
use mathlib.Core.Path.{◌≡◌, refl, sym, ap, ◌∙◌}
use mathlib.Core.List.{List, ◌++◌}
use Prim.Native.Nat.{ℕ, ◌+◌, ◌≤◌}
use native.Mathlib.Nat.{add-zero}
use native.Mathlib.Omega.{arith}
use lib.ListN.{length}
use Rattle.text.proofs.Printed.{wrote_as, room_as}
use Rattle.meaning.specs.Bytes.{number, whole}
use Rattle.meaning.specs.Walk.{walked, walk}
use Rattle.meaning.specs.Message.{rows_of}
use Rattle.meaning.specs.Listing.{header_line, row_lines, end_line, listing_text}
use Rattle.meaning.proofs.Fuel.{walk_from}
use Rattle.meaning.proofs.Walks.{Walks, walk_of}
use Rattle.meaning.proofs.Lines.{listing_most}
use Rattle.meaning.proofs.Sound.{sound_rows}
use Rattle.text.specs.Wrote.{Room, Wrote}
use Rattle.text.specs.Lines.{header_text}
use Rattle.text.proofs.Laws.{front, behind, then}
use Rattle.listing.specs.Rows.{RowsDue, RowsDone}
use Rattle.listing.specs.Text.{part_from, text_of, Checked}
use Rattle.listing.specs.declared.rows.Behind.{Behind}
use Rattle.listing.proofs.Turns.{done_as}

-- the header's numbers as the code has read them: type a, command b, count k
module _ (s : List ℕ) (start len count : ℕ) (out : List ℕ) (u : Checked s start count) (big : 131072 ≤ length out) (a b k : ℕ) (ea : a ≡ number s start)
    (eb : b ≡ number s (start + 12)) (ek : k ≡ number s (start + 32)) where
  tree : Walks (part_from s start) (start + 36) 1 (number s (start + 32)) u.rows (length s)
  tree = (sound_rows (part_from s start) u.rows u.sound).tree

  -- no walk looks at where a part starts
  sound : walk (whole s) (start + 36) 1 k ≡ walked u.rows (length s)
  sound =
      ap (walk (whole s) (start + 36) 1) ek ∙ sym (walk_from start (whole s) (start + 36) 1 (number s (start + 32)))
      ∙ walk_of tree (omega arith)

  parts : text_of (part_from s start) len (rows_of (part_from s start)) ≡ header_text a b k len ++ (row_lines u.rows ++ end_line count)
  unfolding listing_text header_line header_text
  parts = ap (text_of (part_from s start) len) u.sound ∙ rw (ea, eb, ek, u.counted, add-zero start) refl

  room : Room out 0 (header_text a b k len ++ (row_lines u.rows ++ end_line count))
  room =
      room_as (sym (ap (text_of (part_from s start) len) u.sound) ∙ parts)
      record { fits = omega (arith, listing_most (part_from s start) len (start + 36) _ u.rows (length s) (omega arith) tree u.small) }

  pub header_room : Room out 0 (header_text a b k len)
  header_room = front _ room

  module _ (t : List ℕ) (n : ℕ) (w : Wrote out 0 (header_text a b k len) t n) where
    pub rows_due : RowsDue s (start + 36) 1 k t n
    rows_due =
        record {
          rows = u.rows;
          next = length s;
          sound = sound;
          start = u.header;
          small = u.small;
          shallow = omega arith;
          room = front _ (behind _ w room);
        }

    module _ (t' : List ℕ) (r : Behind) (x : RowsDone (walk (whole s) (start + 36) 1 k) t n t' r) where
      rows_done : Wrote t n (row_lines u.rows) t' r.text
      rows_done = (done_as sound x).wrote

      pub end_room : Room t' r.text (end_line count)
      end_room = behind _ rows_done (behind _ w room)

      pub all_written : (t'' : List ℕ) (n'' : ℕ) → Wrote t' r.text (end_line count) t'' n'' → Wrote out 0 (text_of (part_from s start) len (rows_of (part_from s start))) t'' n''
      all_written t'' n'' v = wrote_as (sym parts) (then w (then rows_done (λ h. v)) room)
