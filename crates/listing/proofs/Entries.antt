-- The entries, over plain lists and numbers.
use mathlib.Core.Path.{◌≡◌, refl, sym, ap, ◌∙◌, subst}
use mathlib.Core.List.{List}
use Prim.Native.Nat.{ℕ, ◌≤◌, ◌<◌}
use native.Mathlib.Nat.{zero-add}
use native.Mathlib.Omega.{arith}
use lib.ListN.{length, take}
use lib.Seq.{length-take-le}
use Rattle.std.specs.Prelude.{Ok, Err}
use Rattle.meaning.specs.Bytes.{Part, splice}
use Rattle.meaning.specs.Answer.{Result, accepted, refused, and_then}
use Rattle.meaning.specs.Structure.{Row}
use Rattle.meaning.specs.Layout.{Layout, part_in, located}
use Rattle.meaning.specs.Message.{rows_of, scan, check}
use Rattle.meaning.specs.Listing.{listing_text, refusal_line, printed, listing}
use Rattle.meaning.proofs.Tests.{clash}
use Rattle.meaning.proofs.Layouts.{Inside, inside, sized}
use Rattle.meaning.proofs.Outcomes.{scan_refused, check_accepted, check_refused}
use Rattle.text.specs.Wrote.{Wrote}
use Rattle.text.specs.Prints.{Prints}
use Rattle.text.proofs.Printed.{prints}
use Rattle.refusals.specs.Refusals.{number_of, place_of, refusal}
use Rattle.refusals.specs.declared.Refusal.{Refusal}
use Rattle.layout.specs.Layouts.{part_at}
use Rattle.layout.specs.declared.part.Part.{Part as PartIn}
use Rattle.pcf.specs.Messages.{opened, structure_count}
use Rattle.pcf.proofs.Openings.{begun}
use Rattle.pcf.proofs.Closes.{check_shut, check-opened}
use Rattle.listing.specs.Text.{part_from, text_of, Checked}
use Rattle.listing.specs.Entries.{filled, ListedAs}

-- the part as the slice that ends with it
part_slice : (buf : List ℕ) (p : PartIn) → p.end ≤ length buf → part_at buf p ≡ part_from (take p.end buf) p.start
part_slice buf p h = ap (λ (x : ℕ). record { bytes = take p.end buf; start = p.start; end = x }) (sym (length-take-le p.end buf h))

-- a message that is refused
list_refused : (l : Layout) (buf : List ℕ) (len : ℕ) (r : Refusal) (out : List ℕ) → check l buf len ≡ refusal r → ListedAs l buf len out out (Err r)
list_refused l buf len r out e =
    let s : scan l buf len ≡ refusal r = check_refused l buf len (number_of r) (place_of r) e in
    record { answer = rw s refl; bytes = rw s refl }

pub list_shut : (l : Layout) (buf : List ℕ) (len : ℕ) (r : Refusal) (out : List ℕ) → refusal r ≡ opened l buf len → ListedAs l buf len out out (Err r)
list_shut l buf len r out e = list_refused l buf len r out (sym (check_shut l buf len _ _ e))

-- LIST. A message that was opened: its part is p, and its header counts k structures.
module _ (l : Layout) (buf : List ℕ) (len : ℕ) (p : PartIn) (k : ℕ) (opens : accepted (record { part = part_at buf p; count = k }) ≡ opened l buf len) where
  lies : located l buf len ≡ accepted (part_at buf p)
  lies = (begun l buf len _ (sym opens)).lies

  pub around : Inside (part_at buf p) buf len
  around = inside l buf len (part_at buf p) lies

  end_there : p.end ≤ length buf
  end_there = omega (arith, around.within, around.there)

  pub bytes_there : p.end ≡ length (take p.end buf)
  bytes_there = sym (length-take-le p.end buf end_there)

  its_scan : scan l buf len ≡ rows_of (part_from (take p.end buf) p.start)
  unfolding scan
  its_scan = ap (λ (x : Result Part). and_then x rows_of) lies ∙ ap rows_of (part_slice buf p end_there)

  -- the check is of its structures
  counted : structure_count (part_at buf p) k ≡ check l buf len
  counted = check-opened l buf len _ _ opens

  -- it has n structures
  module _ (n : ℕ) (f : accepted n ≡ structure_count (part_at buf p) k) where
    e : check l buf len ≡ accepted n
    e = sym (f ∙ counted)

    its_rows : List Row
    its_rows = (check_accepted l buf len n e).0

    scanned : scan l buf len ≡ accepted its_rows
    unfolding its_rows
    scanned = (check_accepted l buf len n e).1

    pub list_checked : Checked (take p.end buf) p.start n
    unfolding its_rows
    list_checked =
        let k : length (take p.end buf) ≡ p.end = length-take-le p.end buf end_there in
        record {
          rows = its_rows;
          sound = sym its_scan ∙ scanned;
          header = omega (arith, around.room);
          small = omega (arith, around.within, around.most);
          counted = sym (check_accepted l buf len n e).2;
        }

    abbrev part : Part
    part = part_from (take p.end buf) p.start

    same_text : text_of part len (rows_of part) ≡ listing_text (part_in l buf len) len its_rows
    same_text =
        ap (text_of part len) (sym its_scan ∙ scanned)
        ∙ ap (λ (x : Part). listing_text x len its_rows) (sym (part_slice buf p end_there) ∙ sym (sized l buf len (part_at buf p) lies).0)

    pub list_sound : (out after : List ℕ) (r : ℕ) → Wrote out 0 (text_of part len (rows_of part)) after r → ListedAs l buf len out after (Ok r)
    list_sound out after r w =
        record {
          answer = rw scanned (ap accepted (w.place ∙ zero-add _ ∙ ap length same_text));
          bytes = rw scanned (w.bytes ∙ ap (splice out 0) same_text);
        }

  -- its structures are refused
  pub list_fault : (r : Refusal) (out : List ℕ) → refusal r ≡ structure_count (part_at buf p) k → ListedAs l buf len out out (Err r)
  list_fault r out f = list_refused l buf len r out (sym (f ∙ counted))

-- what `list` leaves is what is printed, where it gives a text
pub print_listed : (l : Layout) (input before after : List ℕ) (n : ℕ) → ListedAs l input (length input) before after (Ok n)
    → Prints (listing l input (length input)) before after n
unfolding listing
print_listed l input before after n x = prints (go (scan l input (length input)) x.answer x.bytes)
  where
    go : (y : Result (List Row)) → ◌≡◌ {A = Result ℕ} (accepted n) (and_then y (λ rows. accepted (length (listing_text (part_in l input (length input)) (length input) rows))))
        → after ≡ filled l before input (length input) y → Wrote before 0 (printed l input (length input) y) after n
    go (accepted rows) e f =
        let g : n ≡ length (listing_text (part_in l input (length input)) (length input) rows) = cc in
        record { bytes = f; place = g ∙ sym (zero-add _) }
    go (refused k p) e f = absurd (clash (cc))

-- where it refuses, it leaves the buffer, and the refusal is the scan's
module _ (l : Layout) (input before middle : List ℕ) (r : Refusal) (x : ListedAs l input (length input) before middle (Err r)) where
  its_refusal : (scan l input (length input) ≡ refused (number_of r) (place_of r)) × (middle ≡ before)
  its_refusal = go (scan l input (length input)) refl x.answer x.bytes
    where
      go : (y : Result (List Row)) → scan l input (length input) ≡ y
          → ◌≡◌ {A = Result ℕ} (refused (number_of r) (place_of r)) (and_then y (λ rows. accepted (length (listing_text (part_in l input (length input)) (length input) rows))))
          → middle ≡ filled l before input (length input) y → (scan l input (length input) ≡ refused (number_of r) (place_of r)) × (middle ≡ before)
      go (accepted rows) s e f = absurd (clash (cc))
      go (refused k p) s e f = (cc, f)

  pub refused_place : place_of r < 4294967296
  refused_place = omega (arith, (scan_refused l input (length input) (number_of r) (place_of r) its_refusal.0).place)

  pub print_refused : (after : List ℕ) (n : ℕ) → Wrote middle 0 (refusal_line (number_of r) (place_of r)) after n → Prints (listing l input (length input)) before after n
  unfolding listing
  print_refused after n w =
      prints
      (rw its_refusal.0 (subst (λ (x : List ℕ). Wrote x 0 (refusal_line (number_of r) (place_of r)) after n) its_refusal.1 w))
