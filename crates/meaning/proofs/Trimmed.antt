-- A TRIMMED NAME is the longest beginning that does not end in a blank or zero byte, what is cut off is blanks and zero
-- bytes only, and trimming it again changes nothing.
use mathlib.Core.Path.{◌≡◌, refl, sym, ap, ◌∙◌}
use mathlib.Core.Bool.{Bool, true, false, not, ◌&&◌}
use mathlib.Core.List.{List, [], ◌∷◌, ◌++◌}
use Prim.Native.Nat.{ℕ, ◌≤◌}
use native.Mathlib.Omega.{arith}
use lib.ListN.{length, take, drop, length-append, length-take}
use lib.Seq.{take-take, take-append_seam}
use Rattle.meaning.specs.Activity.{Span, bytes_in, is_pad, trimmed_if, trimmed, trimmed_at}
use Rattle.meaning.proofs.Tests.{clash, true_and}

-- every byte is a blank or a zero byte
unfoldable pub all_pads : List ℕ → Bool
all_pads [] = true
all_pads (x ∷ xs) = is_pad x && all_pads xs

-- the last byte is neither
unfoldable pub ends_clear : List ℕ → Bool
ends_clear [] = true
ends_clear (x ∷ []) = not (is_pad x)
ends_clear (x ∷ y ∷ ys) = ends_clear (y ∷ ys)

-- xs is ys with nothing but blanks and zero bytes behind it
abbrev pub Cut : List ℕ → List ℕ → Type 0
Cut xs ys = (rest : List ℕ) × (ys ++ rest ≡ xs) × (all_pads rest ≡ true)

-- what a name xs is trimmed to
pub record Trim (xs ys : List ℕ) : Type 0 where
  pub cut : Cut xs ys
  pub clear : ends_clear ys ≡ true
  pub longest : (beginning rest : List ℕ) → beginning ++ rest ≡ xs → ends_clear beginning ≡ true → length beginning ≤ length ys
  pub again : trimmed ys ≡ ys

-- WHAT IS CUT OFF
cut_more : (x : ℕ) (xs ys : List ℕ) → Cut xs ys → (b : Bool) → is_pad x ≡ b → Cut (x ∷ xs) (trimmed_if b x ys)
unfolding all_pads
cut_more x xs [] c true e = (x ∷ c.0, ap (λ (l : List ℕ). x ∷ l) c.1, true_and e c.2)
cut_more x xs (y ∷ ys) c true e = (c.0, ap (λ (l : List ℕ). x ∷ l) c.1, c.2)
cut_more x xs ys c false e = (c.0, ap (λ (l : List ℕ). x ∷ l) c.1, c.2)

cut_off : (xs : List ℕ) → Cut xs (trimmed xs)
unfolding trimmed all_pads
cut_off [] = ([], refl, refl)
cut_off (x ∷ xs) = cut_more x xs (trimmed xs) (cut_off xs) (is_pad x) refl

-- THE END of what is left
clear_more : (x : ℕ) (ys : List ℕ) → ends_clear ys ≡ true → (b : Bool) → is_pad x ≡ b → ends_clear (trimmed_if b x ys) ≡ true
unfolding ends_clear
clear_more x [] c true e = refl
clear_more x [] c false e = rw e refl
clear_more x (y ∷ ys) c true e = c
clear_more x (y ∷ ys) c false e = c

trimmed_clear : (xs : List ℕ) → ends_clear (trimmed xs) ≡ true
unfolding trimmed ends_clear
trimmed_clear [] = refl
trimmed_clear (x ∷ xs) = clear_more x (trimmed xs) (trimmed_clear xs) (is_pad x) refl

-- a name that does not end in a blank or zero byte is left as it is
front_stays : (b : Bool) (x y : ℕ) (ys : List ℕ) → trimmed_if b x (y ∷ ys) ≡ x ∷ y ∷ ys
front_stays true x y ys = refl
front_stays false x y ys = refl

one_stays : (b : Bool) (x : ℕ) → not b ≡ true → trimmed_if b x [] ≡ x ∷ []
one_stays true x e = absurd (clash (cc))
one_stays false x e = refl

clear_stays : (xs : List ℕ) → ends_clear xs ≡ true → trimmed xs ≡ xs
unfolding trimmed ends_clear
clear_stays [] e = refl
clear_stays (x ∷ []) e = one_stays (is_pad x) x e
clear_stays (x ∷ y ∷ ys) e = ap (trimmed_if (is_pad x) x) (clear_stays (y ∷ ys) e) ∙ front_stays (is_pad x) x y ys

-- with more behind it, no less of it is left
longer_more : (b : Bool) (x : ℕ) (ys zs : List ℕ) → length ys ≤ length zs → length (trimmed_if b x ys) ≤ length (trimmed_if b x zs)
longer_more true x [] zs h = omega arith
longer_more true x (y ∷ ys) [] h = omega arith
longer_more true x (y ∷ ys) (z ∷ zs) h = omega arith
longer_more false x ys zs h = omega arith

longer : (xs rest : List ℕ) → length (trimmed xs) ≤ length (trimmed (xs ++ rest))
unfolding trimmed
longer [] rest = omega arith
longer (x ∷ xs) rest = longer_more (is_pad x) x (trimmed xs) (trimmed (xs ++ rest)) (longer xs rest)

-- A TRIMMED NAME
pub trimmed_name : (xs : List ℕ) → Trim xs (trimmed xs)
trimmed_name xs = record {
  cut = cut_off xs;
  clear = trimmed_clear xs;
  longest = λ beginning rest e c. rw (← e) (rw (clear_stays beginning c) at (longer beginning rest));
  again = clear_stays (trimmed xs) (trimmed_clear xs);
}

-- it is no longer than the name
pub trim_le : (xs : List ℕ) → length (trimmed xs) ≤ length xs
trim_le xs = omega (arith, ap length (cut_off xs).1, length-append (trimmed xs) (cut_off xs).0)

-- THE BYTES of a name that was found are those of the string, trimmed
pub trimmed_bytes : (buf : List ℕ) (s : Span) → bytes_in buf (trimmed_at buf s) ≡ trimmed (bytes_in buf s)
trimmed_bytes buf s =
    let left : List ℕ = trimmed (bytes_in buf s) in
    let most : length left ≤ s.length = omega (arith, trim_le (bytes_in buf s), length-take s.length (drop s.place buf)) in
    sym (take-take (length left) s.length (drop s.place buf) most) ∙ ap (take (length left)) (sym (cut_off (bytes_in buf s)).1)
    ∙ take-append_seam left (cut_off (bytes_in buf s)).0

-- ONE BYTE MORE at the end: a blank or zero byte makes no difference, and any other byte keeps all before it
pub trim_pad : (xs : List ℕ) (y : ℕ) → is_pad y ≡ true → trimmed (xs ++ (y ∷ [])) ≡ trimmed xs
unfolding trimmed
trim_pad [] y e = rw e refl
trim_pad (x ∷ xs) y e = ap (trimmed_if (is_pad x) x) (trim_pad xs y e)

other_ends : (xs : List ℕ) (y : ℕ) → is_pad y ≡ false → ends_clear (xs ++ (y ∷ [])) ≡ true
unfolding ends_clear
other_ends [] y e = rw e refl
other_ends (x ∷ []) y e = rw e refl
other_ends (x ∷ z ∷ zs) y e = other_ends (z ∷ zs) y e

pub trim_other : (xs : List ℕ) (y : ℕ) → is_pad y ≡ false → trimmed (xs ++ (y ∷ [])) ≡ xs ++ (y ∷ [])
trim_other xs y e = clear_stays (xs ++ (y ∷ [])) (other_ends xs y e)
