-- A name as text: the bytes that are written for it.
use mathlib.Core.Path.{◌≡◌, refl, sym, ap, ◌∙◌}
use mathlib.Core.List.{List, [], ◌∷◌, ◌++◌}
use Prim.Native.Nat.{ℕ, suc, ◌+◌, ◌<◌}
use native.Mathlib.Numerals.{add-one}
use native.Mathlib.Omega.{arith}
use lib.ListN.{length, get_or, set, take, length-append}
use lib.Seq.{take-suc}
use Rattle.meaning.proofs.Splices.{splice-none}
use Rattle.text.specs.Wrote.{Room, Wrote}
use Rattle.text.proofs.Laws.{push}
use Rattle.hops.specs.Hops.{shown_byte, shown}

-- ALL BYTES
pub shown_length : (xs : List ℕ) → length (shown xs) ≡ length xs
unfolding shown
shown_length [] = refl
shown_length (x ∷ xs) = ap suc (shown_length xs)

shown_append : (xs ys : List ℕ) → shown (xs ++ ys) ≡ shown xs ++ shown ys
unfolding shown
shown_append [] ys = refl
shown_append (x ∷ xs) ys = ap (λ (l : List ℕ). shown_byte x ∷ l) (shown_append xs ys)

shown_one : (x : ℕ) → shown (x ∷ []) ≡ shown_byte x ∷ []
unfolding shown
shown_one x = refl

shown-none : shown [] ≡ []
unfolding shown
shown-none = refl

-- THE LOOP that writes them: the first i bytes of the name are written
module _ (d : List ℕ) (at : ℕ) (name : List ℕ) where
  pub none_yet : Wrote d at (shown (take 0 name)) d (at + 0)
  none_yet = rw shown-none (record { bytes = sym (splice-none d at); place = omega arith })

  pub one_more : (t : List ℕ) (i v : ℕ) → Wrote d at (shown (take i name)) t (at + i) → i < length name → at + i < length d → v ≡ shown_byte (get_or name i 0)
      → Wrote d at (shown (take (i + 1) name)) (set t (at + i) v) (at + (i + 1))
  one_more t i v w h f e =
      let x : shown (take (i + 1) name) ≡ shown (take i name) ++ v ∷ [] =
      ap (λ (n : ℕ). shown (take n name)) (add-one i) ∙ ap shown (take-suc name i 0 h) ∙ shown_append (take i name) (get_or name i 0 ∷ [])
      ∙ ap (λ (l : List ℕ). shown (take i name) ++ l) (shown_one (get_or name i 0) ∙ ap (λ (y : ℕ). y ∷ []) (sym e))
      in
      let p = push v w f in
      record { bytes = rw x p.bytes; place = rw x (omega (arith, p.place)) }

-- THE END of the line, behind a name
pub line_end : {d : List ℕ} {at : ℕ} {xs t : List ℕ} {n : ℕ} → Wrote d at xs t n → Room d at (xs ++ 10 ∷ []) → Wrote d at (xs ++ 10 ∷ []) (set t n 10) (n + 1)
line_end {xs = xs} w h = push 10 w (omega (arith, w.place, h.fits, length-append xs (10 ∷ [])))
