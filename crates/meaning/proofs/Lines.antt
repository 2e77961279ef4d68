-- The lines of a sound message: they are shorter than its bytes allow for, so that a buffer of 131,072 bytes holds every
-- listing. Each structure has 16 bytes or more and a line of 28 bytes or less: 4 * 28 is 7 * 16.
use mathlib.Core.Path.{◌≡◌, refl, sym, ap, ◌∙◌}
use mathlib.Core.Bool.{true, cond}
use mathlib.Core.List.{List, [], ◌∷◌, ◌++◌, append_assoc}
use Prim.Native.Nat.{ℕ, zero, suc, ◌+◌, ◌*◌, ◌≤◌}
use native.Mathlib.Omega.{arith}
use lib.ListN.{length, length-append}
use lib.Dec.{leb, eqb}
use borrow.Author.Tests.{le-leb}
use Rattle.meaning.specs.Bytes.{Part, num, word}
use Rattle.meaning.specs.Names.{MQCFT_GROUP}
use Rattle.meaning.specs.Answer.{accepted}
use Rattle.meaning.specs.Structure.{Row, structure_at}
use Rattle.meaning.specs.Message.{header_type, command, parameter_count}
use Rattle.meaning.specs.Listing.{blank, newline, header_line, row_line, row_lines, end_line, listing_text, refusal_line}
use Rattle.meaning.proofs.Structures.{judge_accepted, row_at_lem}
use Rattle.meaning.proofs.Members.{members_shallow}
use Rattle.meaning.proofs.Walks.{Walks, none, more, walks_le}
use Rattle.meaning.proofs.Decimals.{column_ten, row_line_most}

-- a group has as many members as its field at 12 says, any other structure none
pub members_at : (s : Part) (p d : ℕ) (r : Row) → structure_at s p d ≡ accepted r → r.members ≡ cond (eqb (num s p) MQCFT_GROUP) (num s (p + 12)) 0
unfolding structure_at word
members_at s p d r e =
    let g = judge_accepted s.end p d (num s p) (num s (p + 4)) _ _ _ _ r e in
    let l : leb (p + 12 + 4) (p + num s (p + 4)) ≡ true = le-leb (p + 12 + 4) (p + num s (p + 4)) (omega (arith, g.least)) in
    sym (ap (λ (x : Row). x.members) g.row) ∙ rw l refl

-- a walk ends at or before the part's end
pub walks_end : {s : Part} {p d n : ℕ} {rows : List Row} {q : ℕ} → Walks s p d n rows q → p ≤ s.end → q ≤ s.end
walks_end none h = h
walks_end {s} (more {p} {d} {n} {p₁} {q} {r} t w₁ w₂) h =
    walks_end w₂ (walks_end w₁ (row_at_lem s p d r t).at_fits)

-- the lines of two lists of rows
pub row_lines_append : (xs ys : List Row) → row_lines (xs ++ ys) ≡ row_lines xs ++ row_lines ys
unfolding row_lines
row_lines_append [] ys = refl
row_lines_append (x ∷ xs) ys = rw (row_lines_append xs ys, append_assoc)

pub row_lines_more : (r : Row) (rs : List Row) → row_lines (r ∷ rs) ≡ row_line r ++ row_lines rs
unfolding row_lines
row_lines_more r rs = refl

pub row_lines-none : row_lines [] ≡ []
unfolding row_lines
row_lines-none = refl

-- where there are no members, nothing follows inside
pub walks_none : {s : Part} {p d n : ℕ} {rows : List Row} {q : ℕ} → Walks s p d n rows q → n ≡ 0 → (rows ≡ []) × (q ≡ p)
walks_none none e = (refl, refl)
walks_none (more t w₁ w₂) e = absurd (omega arith)

-- l bytes of text for the bytes from p to q
abbrev Short : ℕ → ℕ → ℕ → Type 0
Short l p q = 4 * l + 7 * p ≤ 7 * q

row_short : (s : Part) (p d : ℕ) (r : Row) → structure_at s p d ≡ accepted r → d ≤ 9 → p + r.size ≤ 65536 → Short (length (row_line r)) p (p + r.size)
row_short s p d r t h f =
    let g = row_at_lem s p d r t in
    let l : length (row_line r) ≤ 28 =
    row_line_most r (omega (arith, g.at_depth)) (omega (arith, g.at_place)) (omega (arith, g.at_type)) (omega arith) in
    omega (arith, g.at_least)

pub lines_short : {s : Part} {p d n : ℕ} {rows : List Row} {q : ℕ} → Walks s p d n rows q → d ≤ 9 → q ≤ 65536 → Short (length (row_lines rows)) p q
lines_short {s} none h f = rw row_lines-none (omega arith)
lines_short {s} (more {p} {d} {n} {p₁} {q} {r} {rs₁} {rs₂} t w₁ w₂) h f =
    let l₁ = walks_le w₁ in
    let l₂ = walks_le w₂ in
    let one = row_short s p d r t h (omega arith) in
    let two : Short (length (row_lines rs₁)) (p + r.size) p₁ = inside r.members refl (λ k. lines_short w₁ k (omega arith)) in
    let three = lines_short w₂ h f in
    rw (row_lines_more, row_lines_append, length-append, length-append) (omega arith)
  where
    inside : (m : ℕ) → r.members ≡ m → (suc d ≤ 9 → Short (length (row_lines rs₁)) (p + r.size) p₁) → Short (length (row_lines rs₁)) (p + r.size) p₁
    inside (suc m) e go = go (omega (arith, members_shallow s p d r t (omega arith)))
    inside zero e go = let z = walks_none w₁ e in rw (z.0, z.1, row_lines-none) (omega arith)

-- the whole listing of a walk behind a header
length-header_line : (m : Part) (len : ℕ) → length (header_line m len) ≤ 48
unfolding header_line
length-header_line m len =
    simp length-append
    (omega (arith, column_ten (header_type m) blank, column_ten (command m) blank, column_ten (parameter_count m) blank, column_ten len newline))

length-end_line : (n : ℕ) → length (end_line n) ≤ 15
unfolding end_line
length-end_line n = rw length-append (omega (arith, column_ten n newline))

pub refusal_line_most : (n p : ℕ) → length (refusal_line n p) ≤ 30
unfolding refusal_line
refusal_line_most n p = simp length-append (omega (arith, column_ten n blank, column_ten p newline))

pub listing_most : (m : Part) (len p n : ℕ) (rows : List Row) (q : ℕ) → 36 ≤ p → Walks m p 1 n rows q → q ≤ 65536 → length (listing_text m len rows) ≤ 131072
unfolding listing_text
listing_most m len p n rows q k w h =
    simp length-append (omega (arith, length-header_line m len, lines_short w (omega arith) h, length-end_line (length rows)))
