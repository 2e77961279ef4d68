-- How texts are joined, and the turn by which digits are written.
use mathlib.Core.Path.{◌≡◌, sym, ap, ◌∙◌}
use mathlib.Core.List.{List, [], ◌∷◌, ◌++◌}
use Prim.Native.Nat.{ℕ, ◌+◌, ◌-◌, ◌/◌, ◌%◌, ◌≤◌, ◌<◌}
use native.Mathlib.Omega.{arith}
use lib.ListN.{length, set, length-append}
use Rattle.meaning.specs.Bytes.{splice}
use Rattle.meaning.proofs.Splices.{length_splice, splice-none, splice_next, splice_push, splice_last}
use Rattle.meaning.specs.Listing.{decimal, column}
use Rattle.meaning.proofs.Decimals.{length-column, last_digits, last_none, last_step, length_last}
use Rattle.text.specs.Wrote.{Room, Wrote}

-- where two texts have room, the first one has
pub front : {d : List ℕ} {at : ℕ} {xs : List ℕ} (ys : List ℕ) → Room d at (xs ++ ys) → Room d at xs
front {d} {at} {xs} ys h = record { fits = omega (arith, h.fits, length-append xs ys) }

-- and the second one, behind the first
pub behind : {d : List ℕ} {at : ℕ} {xs t : List ℕ} {n : ℕ} (ys : List ℕ) → Wrote d at xs t n → Room d at (xs ++ ys) → Room t n ys
behind {d} {at} {xs} {t} {n} ys w h =
    let l = length-append xs ys in
    let s : length t ≡ length d = ap length w.bytes ∙ length_splice d at xs (omega (arith, h.fits)) in
    record { fits = omega (arith, w.place, h.fits) }

-- one text behind another
pub then : {d : List ℕ} {at : ℕ} {xs t : List ℕ} {n : ℕ} {ys t' : List ℕ} {n' : ℕ} → Wrote d at xs t n
    → (Room t n ys → Wrote t n ys t' n') → Room d at (xs ++ ys) → Wrote d at (xs ++ ys) t' n'
then {d} {at} {xs} {t} {n} {ys} {t'} {n'} w go h =
    let l = length-append xs ys in
    let v = go (behind ys w h) in
    record {
      bytes = v.bytes ∙ ap (λ (x : List ℕ). splice x n ys) w.bytes ∙ splice_next d at xs n ys w.place (omega (arith, w.place, h.fits));
      place = v.place ∙ omega (arith, w.place);
    }

-- one byte behind a text
pub push : {d : List ℕ} {at : ℕ} {xs t : List ℕ} {n : ℕ} (v : ℕ) → Wrote d at xs t n → n < length d → Wrote d at (xs ++ v ∷ []) (set t n v) (n + 1)
push {d} {at} {xs} {t} {n} v w h =
    record {
      bytes = ap (λ (x : List ℕ). set x n v) w.bytes ∙ splice_push d at xs n v w.place h;
      place = omega (arith, w.place, length-append xs (v ∷ []));
    }

-- a number's text and the byte behind it
pub column_length : (v behind : ℕ) → length (column v behind) ≡ length (decimal v) + 1
column_length v behind = length-column v behind

-- a digit written, and the digits before it still to come
pub turn : (d : List ℕ) (at k n : ℕ) → 0 < k → at + k ≤ length d
    → splice (set d (at + (k - 1)) (48 + n % 10)) at (last_digits (k - 1) (n / 10)) ≡ splice d at (last_digits k n)
turn d at k n h f =
    splice_last d at (last_digits (k - 1) (n / 10)) (at + (k - 1)) (48 + n % 10) (omega (arith, length_last (k - 1) (n / 10))) (omega arith)
    ∙ ap (splice d at) (sym (last_step k n h))

-- no digit to come
pub done : (d : List ℕ) (at k n : ℕ) → k ≡ 0 → splice d at (last_digits k n) ≡ d
done d at k n e = rw (e, last_none) (splice-none d at)
