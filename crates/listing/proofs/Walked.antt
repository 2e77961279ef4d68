-- What a sound walk tells the code that follows it: one structure, all that is inside it, and what comes behind.
use mathlib.Core.Path.{◌≡◌, refl, sym, ap, ◌∙◌}
use mathlib.Core.Bool.{Bool, cond}
use mathlib.Core.List.{List, [], ◌∷◌, ◌++◌, append-nil}
use Prim.Native.Nat.{ℕ, suc, ◌+◌, ◌-◌, ◌≤◌, ◌<◌}
use native.Mathlib.Numerals.{add-one}
use native.Mathlib.Omega.{arith}
use lib.ListN.{length}
use borrow.Author.Tests.{eq-eqb, ne_eqb}
use Rattle.meaning.specs.Bytes.{Part, number, whole}
use Rattle.meaning.specs.Structure.{Row}
use Rattle.meaning.specs.Walk.{walked, walk}
use Rattle.meaning.specs.Listing.{row_line, row_lines}
use Rattle.meaning.proofs.Structures.{RowAt, row_at_lem}
use Rattle.meaning.proofs.Walks.{Walks, none, more, walks, walk_of}
use Rattle.meaning.proofs.Members.{group_shallow}
use Rattle.meaning.proofs.Lines.{members_at, walks_end, walks_none, row_lines_append, row_lines_more}
use Rattle.text.specs.Lines.{line_text}
use Rattle.listing.specs.Rows.{line_at}

-- the structures of a walk: the first one with all that is inside it, and the others
pub record Split (m : Part) (p d n : ℕ) (rows : List Row) (q : ℕ) : Type 0 where
  pub rows₁ : List Row
  pub rows₂ : List Row
  pub middle : ℕ
  pub first : walk m p d 1 ≡ walked rows₁ middle
  pub others : walk m middle d (n - 1) ≡ walked rows₂ q
  pub start : middle ≤ m.end
  pub lines : row_lines rows ≡ row_lines rows₁ ++ row_lines rows₂

split_walks : {m : Part} {p d n : ℕ} {rows : List Row} {q : ℕ} → Walks m p d n rows q → p ≤ m.end → 0 < n → Split m p d n rows q
split_walks none h f = absurd (omega arith)
split_walks {m} (more {p} {d} {n} {p₁} {q} {r} {rs₁} {rs₂} t w₁ w₂) h f =
    let l : p₁ ≤ m.end = walks_end w₁ (row_at_lem m p d r t).at_fits in
    let k : suc n - 1 ≡ n = omega arith in
    let w : walk m p₁ d n ≡ walked rs₂ q = walk_of w₂ (walks_end w₂ l) in
    record {
      rows₁ = r ∷ (rs₁ ++ []);
      rows₂ = rs₂;
      middle = p₁;
      first = walk_of (more t w₁ none) l;
      others = ap (λ (x : ℕ). walk m p₁ d x) k ∙ w;
      start = l;
      lines = ap row_lines (ap (λ (x : List Row). r ∷ (x ++ rs₂)) (sym (append-nil rs₁))) ∙ row_lines_append (r ∷ (rs₁ ++ [])) rs₂;
    }

pub split : (m : Part) (p d n : ℕ) (rows : List Row) (q : ℕ) → walk m p d n ≡ walked rows q → p ≤ m.end → 0 < n → Split m p d n rows q
split m p d n rows q e h f = split_walks (walks m p d n rows q e) h f

-- one structure: its line, and what is inside it
pub record Opened (s : List ℕ) (p d : ℕ) (rows : List Row) (q : ℕ) : Type 0 where
  pub inside : List Row
  pub lines : row_lines rows ≡ line_text (line_at s p d) ++ row_lines inside
  pub least : 16 ≤ number s (p + 4)
  pub fits : p + number s (p + 4) ≤ length s
  pub deep : number s p ≡ 20 → d ≤ 8
  pub group : number s p ≡ 20 → walk (whole s) (p + number s (p + 4)) (d + 1) (number s (p + 12)) ≡ walked inside q
  pub plain : (number s p ≡ 20 → ⊥) → (inside ≡ []) × (q ≡ p + number s (p + 4))

row_line_lem : (s : List ℕ) (p d : ℕ) (r : Row) → RowAt (whole s) p d r → row_line r ≡ line_text (line_at s p d)
unfolding row_line line_text
row_line_lem s p d r g = rw (g.at_kind, g.at_size, g.at_parameter, g.at_depth, g.at_place) refl

-- the same walk, its numbers written another way
walk_as : (m : Part) {p : ℕ} (d : ℕ) {n : ℕ} (rows : List Row) {q p' d' n' q' : ℕ} → p ≡ p' → d ≡ d' → n ≡ n' → q ≡ q'
    → walk m p d n ≡ walked rows q → walk m p' d' n' ≡ walked rows q'
walk_as m d rows a b c e w = rw (← a, ← b, ← c, ← e) w

open_walks : {s : List ℕ} {p d n : ℕ} {rows : List Row} {q : ℕ} → Walks (whole s) p d n rows q → p ≤ length s → n ≡ 1 → Opened s p d rows q
open_walks none h f = absurd (omega arith)
open_walks {s} (more {p} {d} {n} {p₁} {q} {r} {rs₁} {rs₂} t w₁ w₂) h f =
    let g = row_at_lem (whole s) p d r t in
    let i = members_at (whole s) p d r t in
    let z = walks_none w₂ (omega arith) in
    let e : row_lines (r ∷ (rs₁ ++ rs₂)) ≡ row_line r ++ row_lines rs₁ =
    ap (λ (x : List Row). row_lines (r ∷ (rs₁ ++ x))) z.0 ∙ ap (λ (x : List Row). row_lines (r ∷ x)) (append-nil rs₁) ∙ row_lines_more r rs₁
    in
    record {
      inside = rs₁;
      lines = e ∙ ap (λ (x : List ℕ). x ++ row_lines rs₁) (row_line_lem s p d r g);
      least = omega (arith, g.at_least, g.at_size);
      fits = omega (arith, g.at_fits, g.at_size);
      deep = λ k. group_shallow (whole s) p d r t (sym g.at_kind ∙ k);
      group = λ k.
          walk_as (whole s) (suc d) rs₁ (omega (arith, g.at_size)) (sym (add-one d)) (i ∙ ap (λ (x : Bool). cond x (number s (p + 12)) 0) (eq-eqb (number s p) 20 k)) (sym z.1)
          (walk_of w₁ (walks_end w₁ g.at_fits));
      plain = λ k.
          let v = walks_none w₁ (i ∙ ap (λ (x : Bool). cond x (number s (p + 12)) 0) (ne_eqb (number s p) 20 k)) in
          (v.0, z.1 ∙ v.1 ∙ omega (arith, g.at_size));
    }

pub opened : (s : List ℕ) (p d : ℕ) (rows : List Row) (q : ℕ) → walk (whole s) p d 1 ≡ walked rows q → p ≤ length s → Opened s p d rows q
opened s p d rows q e h = open_walks (walks (whole s) p d 1 rows q e) h refl
