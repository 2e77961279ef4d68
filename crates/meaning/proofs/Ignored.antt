-- WHAT A CHECK IGNORES: of an embedded header Encoding, CodedCharSetId, Format and Flags, and behind the part the user data.
use mathlib.Core.Path.{◌≡◌, refl, sym, ap, ◌∙◌}
use mathlib.Core.Bool.{Bool, true, false, ◌&&◌}
use mathlib.Core.List.{List}
use Prim.Native.Nat.{ℕ, ◌+◌, ◌≤◌, ◌<◌}
use native.Mathlib.Omega.{arith}
use lib.ListN.{length, get_or, take, get_or-eq_default}
use lib.Seq.{get_or-take, length-take-le}
use lib.Dec.{leb, ltb}
use borrow.Author.Tests.{leb-true, ltb-true, ltb-false}
use Rattle.meaning.specs.Bytes.{Part, part_of, num}
use Rattle.meaning.specs.Names.{most_bytes, bad_length, bad_embedded_header}
use Rattle.meaning.specs.Answer.{Result, accepted, refused, and_then, unless}
use Rattle.meaning.specs.Structure.{Row}
use Rattle.meaning.specs.Layout.{Layout, start_of, embedded_ok, part_in, length_ok, located}
use Rattle.meaning.specs.Message.{field, header_ok, rows_of, scan}
use Rattle.meaning.proofs.Tests.{and_true}
use Rattle.meaning.proofs.Structures.{num_same}
use Rattle.meaning.proofs.Fuel.{walk_behind}
use Rattle.meaning.proofs.Layouts.{Front, same_end, same_ok, Sized, sized}

-- parts with the same bytes from their start on have the same structures
module _ (m m' : Part) (starts : m.start ≡ m'.start) (ends : m.end ≡ m'.end)
    (same : (i : ℕ) → m.start ≤ i → get_or m.bytes i 0 ≡ get_or m'.bytes i 0) where
  field_same : (k : ℕ) → field m k ≡ field m' k
  field_same k = num_same m m' (m.start + k) (λ i a b. same i (omega arith)) ∙ ap (λ (x : ℕ). num m' (x + k)) starts

  rows_same : rows_of m ≡ rows_of m'
  unfolding rows_of header_ok
  rows_same =
      rw (field_same 4, field_same 8, field_same 32, walk_behind m m' m.start ends same (m.start + 36) 1 (field m' 32) (omega arith), starts, ends) refl

-- the bytes of a part that is inside its buffer
taken : (n : ℕ) (buf buf' : List ℕ) → n ≤ length buf → n ≤ length buf' → (i : ℕ) → (i < n → get_or buf i 0 ≡ get_or buf' i 0)
    → get_or (take n buf) i 0 ≡ get_or (take n buf') i 0
taken n buf buf' h h' i e = by (ltb i n) refl
  where
    by : (b : Bool) → ltb i n ≡ b → get_or (take n buf) i 0 ≡ get_or (take n buf') i 0
    by true t = let k = ltb-true i n t in get_or-take n buf i 0 k ∙ e k ∙ sym (get_or-take n buf' i 0 k)
    by false t =
        let k = ltb-false i n t in
        get_or-eq_default (take n buf) 0 (omega (arith, length-take-le n buf h)) ∙ sym (get_or-eq_default (take n buf') 0 (omega (arith, length-take-le n buf' h')))

-- TWO MESSAGES of one length in buffers of one length, with the same identifier, Version and StrucLength and the same bytes in
-- the part, have the same rows, or the same one of the refusals 1, 18 and 2 to 5. A check and a tally are made of these alone.
module _ (l : Layout) (buf buf' : List ℕ) (len : ℕ) (lengths : length buf ≡ length buf') (front : Front l.form buf buf')
    (part : (i : ℕ) → start_of l.form ≤ i → i < (part_in l buf len).end → get_or buf i 0 ≡ get_or buf' i 0) where
  same_length : length_ok l buf len ≡ length_ok l buf' len
  unfolding length_ok
  same_length = rw lengths refl

  rows : List ℕ → Bool → Bool → Result (List Row)
  rows b long sound = and_then (unless long (refused bad_length 0) (unless sound (refused bad_embedded_header 0) (accepted (part_in l b len)))) rows_of

  -- a message of this length whose embedded header is sound
  module _ (ok : length_ok l buf len ≡ true) (sound : embedded_ok l.form (part_of buf len) ≡ true) where
    lies : Sized l buf len
    unfolding located
    lies = (sized l buf len (part_in l buf len) (rw (ok, sound) refl)).1

    its_rows : rows_of (part_in l buf len) ≡ rows_of (part_in l buf' len)
    its_rows =
        let e : (part_in l buf' len).end ≡ (part_in l buf len).end = same_end l.form buf buf' len (omega (arith, lies.least, lies.within)) front in
        rows_same (part_in l buf len) (part_in l buf' len) refl (sym e) (λ i h.
        taken (part_in l buf len).end buf buf' (omega (arith, lies.within, lies.there)) (omega (arith, lies.within, lies.there, lengths)) i (part i h)
        ∙ ap (λ (n : ℕ). get_or (take n buf') i 0) (sym e))

  by_header : length_ok l buf len ≡ true → (b : Bool) → embedded_ok l.form (part_of buf len) ≡ b → rows buf true b ≡ rows buf' true b
  unfolding rows
  by_header ok true e = its_rows ok e
  by_header ok false e = refl

  by_length : (b : Bool) → length_ok l buf len ≡ b
      → rows buf b (embedded_ok l.form (part_of buf len)) ≡ rows buf' b (embedded_ok l.form (part_of buf' len))
  unfolding rows length_ok
  by_length true e =
      let k : start_of l.form + 36 ≤ len = leb-true _ _ (and_true (leb len most_bytes) (leb (start_of l.form + 36) len) (and_true (leb len (length buf)) (leb len most_bytes && leb (start_of l.form + 36) len) e).1).1 in
      by_header e (embedded_ok l.form (part_of buf len)) refl
      ∙ ap (rows buf' true) (sym (same_ok l.form buf buf' len (omega arith) front))
  by_length false e = refl

  pub scan_ignores : scan l buf len ≡ scan l buf' len
  unfolding scan located rows
  scan_ignores =
      by_length (length_ok l buf len) refl ∙ ap (λ (b : Bool). rows buf' b (embedded_ok l.form (part_of buf' len))) same_length
