-- Splices: bytes written over a list, in one step or in several, and numbers read from it.
use mathlib.Core.Path.{◌≡◌, refl, sym, ap, ◌∙◌}
use mathlib.Core.Bool.{Bool, true, false}
use mathlib.Core.List.{List, [], ◌∷◌, ◌++◌, append_assoc, append-nil}
use Prim.Native.Nat.{ℕ, suc, ◌+◌, ◌*◌, ◌-◌, ◌≤◌, ◌<◌}
use native.Mathlib.Nat.{zero-add, add-zero}
use native.Mathlib.Omega.{arith}
use native.Mathlib.Numerals.{add-one}
use lib.ListN.{length, set, get_or, take, drop, length-append, length-drop, get_or-append, take-append-drop, drop_of_length-le}
use lib.Dec.{leb, ltb}
use borrow.Author.Tests.{ltb-true, ltb-false, leb-true, leb-false}
use lib.Seq.{length-take-le, get_or-append-add, get_or-take, get_or-drop, set_split, take-set-le, paste, take-length, take-take, take_at, drop_at, drop-drop, ext_get_or, take_all}
use Rattle.meaning.specs.Bytes.{number, bytes4, words, splice}
use Rattle.meaning.proofs.Numbers.{number-bytes4, length-bytes4, length-words, Run, number_match}

-- what a copying loop leaves
pub splice_copy : (d : List ℕ) (at : ℕ) (s : List ℕ) → paste d at s (length s) ≡ splice d at s
unfolding splice
splice_copy d at s = rw (take-length s) refl

module _ (d : List ℕ) (at : ℕ) (s : List ℕ) (fits : at + length s ≤ length d) where
  front : length (take at d) ≡ at
  front = length-take-le at d (omega arith)

  splice_right : splice d at s ≡ take at d ++ (s ++ drop (at + length s) d)
  unfolding splice
  splice_right = append_assoc (take at d) s (drop (at + length s) d)

  pub length_splice : length (splice d at s) ≡ length d
  length_splice = rw splice_right (simp (length-append, length-drop, front) (omega arith))

  front_length : length (take at d ++ s) ≡ at + length s
  front_length = length-append (take at d) s ∙ omega (arith, front)

  -- up to the end of what is written, and from there on
  pub take_splice : take (at + length s) (splice d at s) ≡ take at d ++ s
  unfolding splice
  take_splice = take_at (take at d ++ s) (drop (at + length s) d) (at + length s) front_length

  pub drop_splice : drop (at + length s) (splice d at s) ≡ drop (at + length s) d
  unfolding splice
  drop_splice = drop_at (take at d ++ s) (drop (at + length s) d) (at + length s) front_length

  pub splice_before : (i : ℕ) → i < at → get_or (splice d at s) i 0 ≡ get_or d i 0
  splice_before i h = rw splice_right (get_or-append (take at d) (s ++ drop (at + length s) d) 0 i (omega (arith, front)) ∙ get_or-take at d i 0 h)

  pub splice_in : (j : ℕ) → j < length s → get_or (splice d at s) (at + j) 0 ≡ get_or s j 0
  splice_in j h =
      rw splice_right
      (ap (λ (k : ℕ). get_or (take at d ++ (s ++ drop (at + length s) d)) (k + j) 0) (sym front)
      ∙ get_or-append-add (take at d) (s ++ drop (at + length s) d) j 0 ∙ get_or-append s (drop (at + length s) d) 0 j h)

  pub splice_after : (i : ℕ) → at + length s ≤ i → get_or (splice d at s) i 0 ≡ get_or d i 0
  splice_after i h =
      let k : ℕ = i - (at + length s) in
      let e : i ≡ length (take at d) + (length s + k) = omega (arith, front) in
      let f : at + length s + k ≡ i = omega arith in
      rw splice_right
      (ap (λ (x : ℕ). get_or (take at d ++ (s ++ drop (at + length s) d)) x 0) e ∙ get_or-append-add (take at d) (s ++ drop (at + length s) d) (length s + k) 0
      ∙ get_or-append-add s (drop (at + length s) d) k 0 ∙ get_or-drop (at + length s) d k 0 ∙ ap (λ (x : ℕ). get_or d x 0) f)

pub number-splice : (d : List ℕ) (at v : ℕ) → at + 4 ≤ length d → v < 4294967296 → number (splice d at (bytes4 v)) at ≡ v
number-splice d at v h l =
    let f : at + length (bytes4 v) ≤ length d = omega (arith, length-bytes4 v) in
    let m : Run (splice d at (bytes4 v)) at (bytes4 v) 0 4 =
    λ i k. splice_in d at (bytes4 v) f i (omega (arith, length-bytes4 v)) ∙ ap (λ (x : ℕ). get_or (bytes4 v) x 0) (sym (zero-add i)) in
    number_match (splice d at (bytes4 v)) (bytes4 v) at 0 4 m at 0 0 (omega arith) (omega arith) (omega arith) ∙ number-bytes4 v l

-- the same bytes written over two lists
pub splice_both : (d d' : List ℕ) (at : ℕ) (s : List ℕ) → at + length s ≤ length d → at + length s ≤ length d' → (i : ℕ)
    → (((at ≤ i) × (i < at + length s) → ⊥) → get_or d i 0 ≡ get_or d' i 0) → get_or (splice d at s) i 0 ≡ get_or (splice d' at s) i 0
splice_both d d' at s f f' i h = go (leb at i) (ltb i (at + length s)) refl refl
  where
    go : (b c : Bool) → leb at i ≡ b → ltb i (at + length s) ≡ c → get_or (splice d at s) i 0 ≡ get_or (splice d' at s) i 0
    go true true p q =
        let j : ℕ = i - at in
        let l = leb-true at i p in
        let k = ltb-true i (at + length s) q in
        let e : i ≡ at + j = omega arith in
        ap (λ (x : ℕ). get_or (splice d at s) x 0) e ∙ splice_in d at s f j (omega arith) ∙ sym (splice_in d' at s f' j (omega arith))
        ∙ ap (λ (x : ℕ). get_or (splice d' at s) x 0) (sym e)
    go true false p q =
        let k = ltb-false i (at + length s) q in
        splice_after d at s f i k ∙ h (λ x. omega (arith, x.1)) ∙ sym (splice_after d' at s f' i k)
    go false c p q =
        let k = leb-false at i p in
        splice_before d at s f i k ∙ h (λ x. omega (arith, x.0)) ∙ sym (splice_before d' at s f' i k)

-- a list cut behind what is written, and the rest behind it
pub take-splice_in : (n : ℕ) (d : List ℕ) (at : ℕ) (s : List ℕ) → at + length s ≤ n → n ≤ length d → take n (splice d at s) ≡ splice (take n d) at s
take-splice_in n d at s h k =
    let l : length (take n d) ≡ n = length-take-le n d k in
    let f : at + length s ≤ length d = omega arith in
    let f' : at + length s ≤ length (take n d) = omega arith in
    let m : length (take n (splice d at s)) ≡ n = length-take-le n (splice d at s) (omega (arith, length_splice d at s f)) in
    ext_get_or 0 (take n (splice d at s)) (splice (take n d) at s) (m ∙ sym l ∙ sym (length_splice (take n d) at s f')) (λ i j.
    get_or-take n (splice d at s) i 0 (omega arith) ∙ splice_both d (take n d) at s f f' i (λ z. sym (get_or-take n d i 0 (omega arith))))

pub drop-splice_behind : (n : ℕ) (d : List ℕ) (at : ℕ) (s : List ℕ) → at + length s ≤ n → n ≤ length d → drop n (splice d at s) ≡ drop n d
drop-splice_behind n d at s h k =
    let x : ℕ = n - (at + length s) in
    let e : n ≡ at + length s + x = omega arith in
    let f : at + length s ≤ length d = omega arith in
    ap (λ (y : ℕ). drop y (splice d at s)) e ∙ sym (drop-drop x (at + length s) (splice d at s)) ∙ ap (drop x) (drop_splice d at s f)
    ∙ drop-drop x (at + length s) d ∙ ap (λ (y : ℕ). drop y d) (sym e)

-- a part lent from n on, which came back with s at its start
splice-drop : (d : List ℕ) (n : ℕ) (s : List ℕ) → take n d ++ splice (drop n d) 0 s ≡ splice d n s
unfolding splice
splice-drop d n s = rw (zero-add, drop-drop) (simp append_assoc)

pub splice_lent : (d : List ℕ) (n : ℕ) (s : List ℕ)
    → take n d ++ (splice (take (length d - n) (drop n d)) 0 s ++ drop (length d - n) (drop n d)) ≡ splice d n s
splice_lent d n s =
    let e : length (drop n d) ≡ length d - n = length-drop n d in
    let le : length (drop n d) ≤ length d - n = omega arith in
    rw (take_all (length d - n) (drop n d) le, drop_of_length-le (drop n d) le, append-nil) (splice-drop d n s)

-- what is written at the start of a list
pub take_written : (d s : List ℕ) (n : ℕ) → length s ≡ n → n ≤ length d → take n (splice d 0 s) ≡ s
take_written d s n e h =
    ap (λ (k : ℕ). take k (splice d 0 s)) (sym (zero-add (length s) ∙ e)) ∙ take_splice d 0 s (omega arith)

-- IN SEVERAL STEPS
-- nothing written
pub splice-none : (d : List ℕ) (at : ℕ) → splice d at [] ≡ d
unfolding splice
splice-none d at = rw (add-zero, append-nil, take-append-drop)

-- one byte
pub splice_one : (d : List ℕ) (at v : ℕ) → at < length d → set d at v ≡ splice d at (v ∷ [])
unfolding splice
splice_one d at v h = rw (add-one) (set_split d at v h ∙ simp append_assoc)

-- a second run of bytes behind the first
pub splice_next : (d : List ℕ) (at : ℕ) (xs : List ℕ) (n : ℕ) (ys : List ℕ) → n ≡ at + length xs → n + length ys ≤ length d
    → splice (splice d at xs) n ys ≡ splice d at (xs ++ ys)
unfolding splice
splice_next d at xs n ys e h =
    let front : length (take at d) ≡ at = length-take-le at d (omega arith) in
    let p : length (take at d ++ xs) ≡ n = length-append (take at d) xs ∙ omega arith in
    let k : at + (length xs + length ys) ≡ at + length xs + length ys = omega arith in
    rw (
      take_at (take at d ++ xs) (drop (at + length xs) d) n p,
      ← drop-drop (length ys) n (take at d ++ xs ++ drop (at + length xs) d),
      drop_at (take at d ++ xs) (drop (at + length xs) d) n p,
      drop-drop,
      length-append,
      k,
    ) (simp append_assoc)

-- and a second run in front of the first
pub splice_front : (d : List ℕ) (n : ℕ) (xs : List ℕ) (at : ℕ) (ys : List ℕ) → n ≡ at + length ys → n + length xs ≤ length d
    → splice (splice d n xs) at ys ≡ splice d at (ys ++ xs)
unfolding splice
splice_front d n xs at ys e h =
    let front : length (take n d) ≡ n = length-take-le n d (omega arith) in
    let k : at + (length ys + length xs) ≡ n + length xs = omega arith in
    let right : take n d ++ xs ++ drop (n + length xs) d ≡ take n d ++ (xs ++ drop (n + length xs) d) = append_assoc (take n d) xs (drop (n + length xs) d) in
    let low : take at (take n d ++ xs ++ drop (n + length xs) d) ≡ take at d =
    sym (take-take at n (take n d ++ xs ++ drop (n + length xs) d) (omega arith))
    ∙ ap (take at) (ap (take n) right ∙ take_at (take n d) (xs ++ drop (n + length xs) d) n front) ∙ take-take at n d (omega arith) in
    let high : drop (at + length ys) (take n d ++ xs ++ drop (n + length xs) d) ≡ xs ++ drop (n + length xs) d =
    ap (λ (j : ℕ). drop j (take n d ++ xs ++ drop (n + length xs) d)) (sym e) ∙ ap (drop n) right ∙ drop_at (take n d) (xs ++ drop (n + length xs) d) n front in
    rw (low, high, length-append, k) (simp append_assoc)

-- one byte behind what was written
pub splice_push : (d : List ℕ) (at : ℕ) (xs : List ℕ) (n v : ℕ) → n ≡ at + length xs → n < length d
    → set (splice d at xs) n v ≡ splice d at (xs ++ v ∷ [])
splice_push d at xs n v e h =
    splice_one (splice d at xs) n v (omega (arith, length_splice d at xs (omega arith))) ∙ splice_next d at xs n (v ∷ []) e (omega arith)

-- one byte written before the bytes in front of it
pub splice_last : (d : List ℕ) (at : ℕ) (xs : List ℕ) (n v : ℕ) → n ≡ at + length xs → n < length d
    → splice (set d n v) at xs ≡ splice d at (xs ++ v ∷ [])
unfolding splice
splice_last d at xs n v e h =
    let k : at + (length xs + 1) ≡ suc n = omega arith in
    let s : drop n (set d n v) ≡ v ∷ drop (suc n) d = ap (drop n) (set_split d n v h) ∙ drop_at (take n d) (v ∷ drop (suc n) d) n (length-take-le n d (omega arith)) in
    rw (take-set-le at d n v (omega arith), ← e, s, length-append, k) (simp append_assoc)

-- NUMBERS behind numbers
pub words_append : (xs ys : List ℕ) → words (xs ++ ys) ≡ words xs ++ words ys
unfolding words
words_append [] ys = refl
words_append (x ∷ xs) ys = ap (λ (l : List ℕ). bytes4 x ++ l) (words_append xs ys) ∙ sym (append_assoc (bytes4 x) (words xs) (words ys))

pub words_one : (x : ℕ) → words (x ∷ []) ≡ bytes4 x
unfolding words
words_one x = append-nil (bytes4 x)

pub splice-words : (s : List ℕ) (at : ℕ) (xs : List ℕ) (n : ℕ) (ys : List ℕ) → n ≡ at + 4 * length xs → n + 4 * length ys ≤ length s
    → splice (splice s at (words xs)) n (words ys) ≡ splice s at (words (xs ++ ys))
splice-words s at xs n ys e h =
    rw (words_append xs ys) (splice_next s at (words xs) n (words ys) (omega (arith, length-words xs)) (omega (arith, length-words ys)))

-- one number more
pub splice-number : (s : List ℕ) (at : ℕ) (xs : List ℕ) (n y : ℕ) → n ≡ at + 4 * length xs → n + 4 ≤ length s
    → splice (splice s at (words xs)) n (bytes4 y) ≡ splice s at (words (xs ++ (y ∷ [])))
splice-number s at xs n y e h = rw (← words_one y) (splice-words s at xs n (y ∷ []) e (omega arith))
