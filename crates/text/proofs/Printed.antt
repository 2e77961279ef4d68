-- Text from a buffer's first byte on.
use mathlib.Core.Path.{◌≡◌, sym, ap, ◌∙◌, subst}
use mathlib.Core.List.{List, ◌++◌}
use Prim.Native.Nat.{ℕ, ◌+◌, ◌≤◌}
use native.Mathlib.Nat.{zero-add}
use native.Mathlib.Omega.{arith}
use lib.ListN.{length, take, drop, length-append}
use lib.Seq.{length-take-le, take_at}
use Rattle.meaning.specs.Bytes.{splice}
use Rattle.meaning.proofs.Splices.{length_splice}
use Rattle.text.specs.Wrote.{Room, Wrote}
use Rattle.text.specs.Prints.{Prints}

-- the same text, written another way
pub wrote_as : {d : List ℕ} {at : ℕ} {xs ys t : List ℕ} {n : ℕ} → xs ≡ ys → Wrote d at xs t n → Wrote d at ys t n
wrote_as {d} {at} {xs} {ys} {t} {n} e x = subst (λ (v : List ℕ). Wrote d at v t n) e x

pub room_as : {d : List ℕ} {at : ℕ} {xs ys : List ℕ} → xs ≡ ys → Room d at xs → Room d at ys
room_as {d} {at} e x = subst (λ (v : List ℕ). Room d at v) e x

-- no byte comes or goes
pub wrote_length : {d : List ℕ} {at : ℕ} {xs t : List ℕ} {n : ℕ} → Wrote d at xs t n → Room d at xs → length t ≡ length d
wrote_length {d} {at} {xs} w h = ap length w.bytes ∙ length_splice d at xs h.fits

-- text that stands at the start of a buffer can be lent on
pub prints : {text before after : List ℕ} {r : ℕ} → Wrote before 0 text after r → Prints text before after r
unfolding splice
prints {text} {before} {after} {r} w =
    let n : r ≡ length text = w.place ∙ zero-add _ in
    let s : after ≡ text ++ drop (0 + length text) before = w.bytes in
    let l : r ≤ length after = omega (arith, ap length s, length-append text (drop (0 + length text) before)) in
    record {
      wrote = w;
      bytes = ap (take r) s ∙ take_at text (drop (0 + length text) before) r (sym n);
      within = l;
      counted = sym (length-take-le r after l);
    }
