-- One structure: what an accepted one tells, and what keeps it accepted.
use mathlib.Core.Path.{◌≡◌, refl, sym, ap}
use mathlib.Core.Bool.{Bool, true, false, cond, ◌&&◌}
use Prim.Native.Nat.{ℕ, ◌+◌, ◌*◌, ◌%◌, ◌≤◌, ◌<◌}
use native.Mathlib.Omega.{arith}
use lib.ListN.{get_or}
use lib.Dec.{leb, ltb, eqb}
use borrow.Author.Tests.{leb-true, eqb-true, le-leb}
use Rattle.meaning.specs.Bytes.{Part, num, word}
use Rattle.meaning.specs.Names.{MQCFT_INTEGER, MQCFT_GROUP, most_depth}
use Rattle.meaning.specs.Answer.{accepted, refused}
use Rattle.meaning.specs.Structure.{Row, small, length_rule, row_at, judged, aligned, judge, structure_at}
use Rattle.meaning.proofs.Numbers.{Run, number_match, number_same}
use Rattle.meaning.proofs.Tests.{clash, and_true, either, second, is_false, leb_iff, cond_match}

judged_accepted : (x y : Bool) (p : ℕ) (r r' : Row) → judged x y p r ≡ accepted r' → (x ≡ true) × (y ≡ false) × (r ≡ r')
judged_accepted true true p r r' e = absurd (clash (cc))
judged_accepted true false p r r' e = (refl, refl, cc)
judged_accepted false y p r r' e = absurd (clash (cc))

exact : (n k : ℕ) → 16 ≤ k → eqb n k ≡ true → 16 ≤ n
exact n k h e = omega (arith, eqb-true n k e)

least : (n k : ℕ) → 16 ≤ k → leb k n ≡ true → 16 ≤ n
least n k h e = omega (arith, leb-true k n e)

-- every structure has at least 16 bytes
pub rule_16 : (t n a b c : ℕ) → length_rule t n a b c ≡ true → 16 ≤ n
unfolding length_rule
rule_16 t n a b c =
    either (eqb t 3) _ _ (exact n 16 (omega arith))
    (either (eqb t 4) _ _ (second (small b) _ (least n (20 + b) (omega arith)))
    (either (eqb t 5) _ _ (second (small a) _ (exact n (16 + 4 * a) (omega arith)))
    (either (eqb t 6) _ _ (second (small b) _ (second (small c) _ (least n (24 + b * c) (omega arith))))
    (either (eqb t 9) _ _ (second (small a) _ (least n (16 + a) (omega arith)))
    (either (eqb t 13) _ _ (exact n 20 (omega arith))
    (either (eqb t 14) _ _ (second (small c) _ (least n (24 + c) (omega arith)))
    (either (eqb t 15) _ _ (second (small b) _ (least n (20 + b) (omega arith)))
    (either (eqb t 20) _ _ (second (small a) _ (exact n 16 (omega arith)))
    (either (eqb t 23) _ _ (exact n 24 (omega arith))
    (either (eqb t 25) _ _ (second (small a) _ (exact n (16 + 8 * a) (omega arith)))
    (λ e. absurd (clash (cc)))))))))))))

-- there are no types above 26
pub rule_type : (t n a b c : ℕ) → length_rule t n a b c ≡ true → t < 27
unfolding length_rule
rule_type t n a b c =
    by 3 _ _ (omega arith) (by 4 _ _ (omega arith) (by 5 _ _ (omega arith) (by 6 _ _ (omega arith) (by 9 _ _ (omega arith) (by 13 _ _ (omega arith)
    (by 14 _ _ (omega arith) (by 15 _ _ (omega arith) (by 20 _ _ (omega arith) (by 23 _ _ (omega arith) (by 25 _ _ (omega arith) (λ e. absurd (clash (cc)))))))))))))
  where
    by : (k : ℕ) (x y : Bool) → k < 27 → (y ≡ true → t < 27) → cond (eqb t k) x y ≡ true → t < 27
    by k x y h f = go (eqb t k) refl
      where
        go : (z : Bool) → eqb t k ≡ z → cond z x y ≡ true → t < 27
        go true q e = omega (arith, eqb-true t k q)
        go false q e = f e

-- the facts behind an accepted structure
pub record Judged (end p d t n k a b c : ℕ) (r : Row) : Type 0 where
  pub fits : p + n ≤ end
  pub least : 16 ≤ n
  pub four : aligned n ≡ true
  pub ruled : length_rule t n a b c ≡ true
  pub shallow : eqb t MQCFT_GROUP && ltb most_depth d ≡ false
  pub row : row_at p d t n k a ≡ r

pub judge_accepted : (end p d t n k a b c : ℕ) (r : Row) → judge end p d t n k a b c ≡ accepted r → Judged end p d t n k a b c r
unfolding judge
judge_accepted end p d t n k a b c r e =
    let h = judged_accepted _ _ _ _ _ e in
    let f = and_true _ _ h.0 in
    let g = and_true _ _ f.1 in
    record {
      fits = leb-true _ _ f.0;
      least = rule_16 t n a b c g.1;
      four = g.0;
      ruled = g.1;
      shallow = h.1;
      row = h.2;
    }

-- the row of the same structure at another place
abbrev pub moved : ℕ → Row → Row
moved p r = record { depth = r.depth; place = p; kind = r.kind; parameter = r.parameter; size = r.size; members = r.members }

-- an accepted structure is accepted at any other place where it fits
pub judge_place : (end end' p p' d t n k a b c : ℕ) (r : Row) → p' + n ≤ end' → judge end p d t n k a b c ≡ accepted r
    → judge end' p' d t n k a b c ≡ accepted (moved p' r)
unfolding judge
judge_place end end' p p' d t n k a b c r h e =
    let g = judge_accepted end p d t n k a b c r e in
    rw (le-leb (p' + n) end' h, g.four, g.ruled, g.shallow, ← g.row) refl

-- of an integer only type, length and parameter are looked at
pub judge_integer : (end p d n k a b c a' b' c' : ℕ) → judge end p d MQCFT_INTEGER n k a b c ≡ judge end p d MQCFT_INTEGER n k a' b' c'
unfolding judge length_rule
judge_integer end p d n k a b c a' b' c' = refl

-- the n bytes of s from p on are those of s' from p' on
pub record Match (s : Part) (p : ℕ) (s' : Part) (p' n : ℕ) : Type 0 where
  pub run : Run s.bytes p s'.bytes p' n

pub num_match : (s s' : Part) (p p' n : ℕ) (m : Match s p s' p' n) (x y k : ℕ) → x ≡ p + k → y ≡ p' + k → k + 4 ≤ n → num s x ≡ num s' y
num_match s s' p p' n m x y k e f h =
    number_match s.bytes s'.bytes p p' n m.run x y k e f h

pub num_same : (s s' : Part) (at : ℕ) → ((i : ℕ) → at ≤ i → i < at + 4 → get_or s.bytes i 0 ≡ get_or s'.bytes i 0) → num s at ≡ num s' at
num_same s s' at h = number_same s.bytes s'.bytes at h

module _ (s s' : Part) (p p' n : ℕ) (m : Match s p s' p' n) where
  pub word_match : (k : ℕ) → word s (p + n) (p + k) ≡ word s' (p' + n) (p' + k)
  unfolding word
  word_match k =
      cond_match (leb (p + k + 4) (p + n)) (leb (p' + k + 4) (p' + n)) (num s (p + k)) (num s' (p' + k))
      (leb_iff (p + k + 4) (p + n) (p' + k + 4) (p' + n) (λ h. omega arith) (λ h. omega arith))
      (λ e. num_match s s' p p' n m (p + k) (p' + k) k refl refl (omega (arith, leb-true (p + k + 4) (p + n) e)))

-- what is known of an accepted structure
pub record RowAt (s : Part) (p d : ℕ) (r : Row) : Type 0 where
  pub at_depth : d ≡ r.depth
  pub at_place : p ≡ r.place
  pub at_kind : num s p ≡ r.kind
  pub at_size : num s (p + 4) ≡ r.size
  pub at_parameter : num s (p + 8) ≡ r.parameter
  pub at_least : 16 ≤ r.size
  pub at_fits : p + r.size ≤ s.end
  pub at_four : r.size % 4 ≡ 0
  pub at_type : r.kind < 27

pub row_at_lem : (s : Part) (p d : ℕ) (r : Row) → structure_at s p d ≡ accepted r → RowAt s p d r
unfolding structure_at
row_at_lem s p d r e =
    let g = judge_accepted s.end p d _ (num s (p + 4)) _ _ _ _ r e in
    let size : num s (p + 4) ≡ r.size = ap (λ (x : Row). x.size) g.row in
    let kind : num s p ≡ r.kind = ap (λ (x : Row). x.kind) g.row in
    record {
      at_depth = ap (λ (x : Row). x.depth) g.row;
      at_place = ap (λ (x : Row). x.place) g.row;
      at_kind = kind;
      at_size = size;
      at_parameter = ap (λ (x : Row). x.parameter) g.row;
      at_least = rw (← size) g.least;
      at_fits = rw (← size) g.fits;
      at_four = rw (← size) (eqb-true (num s (p + 4) % 4) 0 g.four);
      at_type = rw (← kind) (rule_type _ _ _ _ _ g.ruled);
    }

-- a structure is accepted wherever its bytes stand and it fits
pub structure_match : (s s' : Part) (p p' d : ℕ) (r : Row) → structure_at s p d ≡ accepted r → Match s p s' p' r.size
    → p' + r.size ≤ s'.end → structure_at s' p' d ≡ accepted (moved p' r)
unfolding structure_at
structure_match s s' p p' d r e m h =
    let g = row_at_lem s p d r e in
    let n : ℕ = num s (p + 4) in
    let h' : p' + n ≤ s'.end = omega (arith, g.at_size) in
    let m' : Match s p s' p' n = rw g.at_size m in
    let e0 : num s' p' ≡ num s p = sym (num_match s s' p p' n m' p p' 0 (omega arith) (omega arith) (omega (arith, g.at_size))) in
    let e1 : num s' (p' + 4) ≡ n = sym (num_match s s' p p' n m' (p + 4) (p' + 4) 4 refl refl (omega (arith, g.at_size))) in
    let e2 : num s' (p' + 8) ≡ num s (p + 8) = sym (num_match s s' p p' n m' (p + 8) (p' + 8) 8 refl refl (omega (arith, g.at_size))) in
    rw (e0, e1, e2, ← word_match s s' p p' n m' 12, ← word_match s s' p p' n m' 16, ← word_match s s' p p' n m' 20)
    (judge_place s.end s'.end p p' d _ _ _ _ _ _ r h' e)

-- where fewer than 16 bytes are left
pub judge_short : (end p d t n k a b c : ℕ) → end < p + 16 → judge end p d t n k a b c ≡ refused 3 p
unfolding judge
judge_short end p d t n k a b c h =
    rw (is_false (leb (p + n) end && (aligned n && length_rule t n a b c)) (λ e.
    let f = and_true (leb (p + n) end) (aligned n && length_rule t n a b c) e in
    let g = and_true (aligned n) (length_rule t n a b c) f.1 in
    omega (arith, leb-true (p + n) end f.0, rule_16 t n a b c g.1))) refl

pub structure_short : (s : Part) (p d : ℕ) → s.end < p + 16 → structure_at s p d ≡ refused 3 p
unfolding structure_at
structure_short s p d h = judge_short s.end p d _ _ _ _ _ _ h
