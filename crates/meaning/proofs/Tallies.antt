-- Counting rows: the counts of the types, their sum, and how many rows there is room for.
use mathlib.Core.Path.{◌≡◌, refl, ◌∙◌}
use mathlib.Core.Bool.{Bool, true, false, cond}
use mathlib.Core.List.{List, [], ◌∷◌, ◌++◌, sum}
use Prim.Native.Nat.{ℕ, zero, suc, ◌+◌, ◌*◌, ◌≤◌, ◌<◌}
use native.Mathlib.Omega.{arith}
use lib.ListN.{length, length-append}
use lib.Dec.{eqb}
use borrow.Author.Tests.{eqb-true, eqb-false, ne_eqb}
use Rattle.meaning.proofs.Tests.{bit}
use Rattle.meaning.specs.Bytes.{Part}
use Rattle.meaning.specs.Structure.{Row}
use Rattle.meaning.specs.Message.{count_of, counts_from}
use Rattle.meaning.proofs.Structures.{row_at_lem}
use Rattle.meaning.proofs.Walks.{Walks, none, more, In, here, there, tiles, tiles_row}

pub count_append : (k : ℕ) (xs ys : List Row) → count_of k (xs ++ ys) ≡ count_of k xs + count_of k ys
unfolding count_of
count_append k [] ys = omega arith
count_append k (x ∷ xs) ys = omega (arith, count_append k xs ys)

pub count_le : (k : ℕ) (rows : List Row) → count_of k rows ≤ length rows
unfolding count_of
count_le k [] = omega arith
count_le k (r ∷ rs) = omega (arith, count_le k rs, bit (eqb r.kind k))

-- each row takes 16 bytes or more
pub rows_room : {s : Part} {p d n : ℕ} {rows : List Row} {q : ℕ} → Walks s p d n rows q → p + length rows * 16 ≤ q
rows_room none = omega arith
rows_room {s} (more {p} {d} {n} {p₁} {q} {r} {rs₁} {rs₂} t w₁ w₂) =
    omega (arith, rows_room w₁, rows_room w₂, length-append rs₁ rs₂, (row_at_lem s p d r t).at_least)

-- THE SUM of the counts is the number of rows, because no row has a type above 26
abbrev pub total : List ℕ → ℕ
total = sum ◌+◌ 0

total_cons : (n k : ℕ) (r : Row) (rs : List Row) → total (counts_from n k (r ∷ rs)) ≡ total (counts_from n k (r ∷ [])) + total (counts_from n k rs)
unfolding sum counts_from count_of
total_cons zero k r rs = refl
total_cons (suc n) k r rs = omega (arith, total_cons n (suc k) r rs)

total_none : (n k : ℕ) (r : Row) → r.kind < k → total (counts_from n k (r ∷ [])) ≡ 0
unfolding sum counts_from count_of
total_none zero k r h = refl
total_none (suc n) k r h =
    let e : r.kind ≡ k → ⊥ = λ q. omega arith in
    rw (ne_eqb r.kind k e) (omega (arith, total_none n (suc k) r (omega arith)))

total_one : (n k : ℕ) (r : Row) → k ≤ r.kind → r.kind < k + n → total (counts_from n k (r ∷ [])) ≡ 1
unfolding sum counts_from count_of
total_one zero k r l h = absurd (omega arith)
total_one (suc n) k r l h = go (eqb r.kind k) refl (λ a b. total_one n (suc k) r a b)
  where
    go : (b : Bool) → eqb r.kind k ≡ b → (suc k ≤ r.kind → r.kind < suc k + n → total (counts_from n (suc k) (r ∷ [])) ≡ 1)
        → cond b 1 0 + 0 + total (counts_from n (suc k) (r ∷ [])) ≡ 1
    go true e rest = omega (arith, total_none n (suc k) r (omega (arith, eqb-true r.kind k e)))
    go false e rest =
        let ne = eqb-false r.kind k e in
        omega (arith, rest (omega arith) (omega arith))

total_nil : (n k : ℕ) → total (counts_from n k []) ≡ 0
unfolding sum counts_from count_of
total_nil zero k = refl
total_nil (suc n) k = omega (arith, total_nil n (suc k))

pub total_counts : (n : ℕ) (rows : List Row) → ((r : Row) → In r rows → r.kind < n) → total (counts_from n 0 rows) ≡ length rows
total_counts n [] h = total_nil n 0
total_counts n (r ∷ rs) h =
    total_cons n 0 r rs
    ∙ omega (arith, total_one n 0 r (omega arith) (omega (arith, h r (here refl))), total_counts n rs (λ x i. h x (there i)))

pub walks_kinds : {s : Part} {p d n : ℕ} {rows : List Row} {q : ℕ} → Walks s p d n rows q → (r : Row) → In r rows → r.kind < 27
walks_kinds {s} {p} {rows = rows} {q} w r i = (tiles_row s p rows q (tiles w) r i).at_type
