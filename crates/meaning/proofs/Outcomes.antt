-- How a scan or a read ends: the rows that a check has counted, and that a refusal's place lies in the message.
use mathlib.Core.Path.{sym, ◌≡◌, refl, ap, ◌∙◌}
use mathlib.Core.Bool.{Bool, true, false, ◌&&◌}
use mathlib.Core.Logic.{◌⊎◌, inl, inr}
use mathlib.Core.List.{List, ◌++◌}
use Prim.Native.Nat.{ℕ, zero, suc, ◌+◌, ◌%◌, ◌≤◌}
use native.Mathlib.Omega.{arith}
use lib.ListN.{length}
use lib.Dec.{leb, eqb, ltb}
use Rattle.meaning.specs.Bytes.{Part, part_of}
use Rattle.meaning.specs.Answer.{Result, accepted, refused, and_then, unless}
use Rattle.meaning.specs.Structure.{Row, length_rule, row_at, judged, judge, structure_at}
use Rattle.meaning.specs.Walk.{Walked, walked, followed_by, ahead, enter, walk_fuel, walk}
use Rattle.meaning.specs.Layout.{Layout, part_in, length_ok, located, embedded_ok}
use Rattle.meaning.specs.Message.{header_ok, parameter_count, first_place, closed, rows_of, scan, check}
use Rattle.meaning.specs.Trace.{Terms, sheet_ok, trace_header, trace_routes, direct_members, each_once, places_of, values_at, in_range, read_members, read_rows, read_trace}
use Rattle.meaning.proofs.Tests.{clash, then_accepted}
use Rattle.meaning.proofs.Structures.{row_at_lem}
use Rattle.meaning.proofs.Walks.{walks_fuel}
use Rattle.meaning.proofs.Layouts.{sized}
use Rattle.meaning.proofs.Lines.{walks_end}

-- the number of structures that the check gives
pub check_accepted : (l : Layout) (buf : List ℕ) (len n : ℕ) → check l buf len ≡ accepted n
    → (rows : List Row) × (scan l buf len ≡ accepted rows) × (length rows ≡ n)
unfolding check
check_accepted l buf len n e = let a = then_accepted (scan l buf len) _ n e in (a.0, a.1, cc a.2)

-- REFUSALS
then_refused : {A B : Type 0} (r : Result A) (go : A → Result B) (n p : ℕ) → and_then r go ≡ refused n p
    → (r ≡ refused n p) ⊎ ((x : A) × (r ≡ accepted x) × (go x ≡ refused n p))
then_refused (accepted x) go n p e = inr (x, refl, e)
then_refused (refused k q) go n p e = inl (cc)

pub check_refused : (l : Layout) (buf : List ℕ) (len n p : ℕ) → check l buf len ≡ refused n p → scan l buf len ≡ refused n p
unfolding check
check_refused l buf len n p e = go (then_refused (scan l buf len) _ n p e)
  where
    go : (scan l buf len ≡ refused n p) ⊎ ((x : List Row) × (scan l buf len ≡ accepted x) × (◌≡◌ {A = Result ℕ} (accepted (length x)) (refused n p)))
        → scan l buf len ≡ refused n p
    go (inl h) = h
    go (inr h) = absurd (clash (cc h.2))

-- a refusal's number is one of a message's, 1 to 5, and its place is not behind the end
pub record Faulty (end n q : ℕ) : Type 0 where
  pub number : n ≤ 5
  pub place : q ≤ end

judged_refused : (x y : Bool) (p : ℕ) (r : Row) (n q : ℕ) → judged x y p r ≡ refused n q → Faulty p n q
judged_refused true true p r n q e = let k : n ≡ 4 = cc in let z : q ≡ p = cc in record { number = omega arith; place = omega arith }
judged_refused true false p r n q e = absurd (clash (cc))
judged_refused false y p r n q e = let k : n ≡ 3 = cc in let z : q ≡ p = cc in record { number = omega arith; place = omega arith }

judge_refused : (end p d t n k a b c m q : ℕ) → judge end p d t n k a b c ≡ refused m q → Faulty p m q
unfolding judge
judge_refused end p d t n k a b c m q e =
    judged_refused (leb (p + n) end && (eqb (n % 4) 0 && length_rule t n a b c)) (eqb t 20 && ltb 8 d) p (row_at p d t n k a) m q e

structure_refused : (s : Part) (p d n q : ℕ) → structure_at s p d ≡ refused n q → Faulty p n q
unfolding structure_at
structure_refused s p d n q e = judge_refused s.end p d _ _ _ _ _ _ n q e

-- of two walks, one behind the other, the first is refused or the second
followed_refused : (w : Result Walked) (go : ℕ → Result Walked) (n p : ℕ) → followed_by w go ≡ refused n p
    → (w ≡ refused n p) ⊎ ((x : Walked) × (w ≡ walked x.rows x.next) × (go x.next ≡ refused n p))
followed_refused (refused k q) go n p e = inl (cc)
followed_refused (accepted x) go n p e = second (then_refused (go x.next) _ n p e)
  where
    second : (go x.next ≡ refused n p) ⊎ ((y : Walked) × (go x.next ≡ accepted y) × (◌≡◌ {A = Result Walked} (walked (x.rows ++ y.rows) y.next) (refused n p)))
        → (◌≡◌ {A = Result Walked} (accepted x) (refused n p)) ⊎ ((x' : Walked) × (◌≡◌ {A = Result Walked} (accepted x) (walked x'.rows x'.next)) × (go x'.next ≡ refused n p))
    second (inl h) = inr (x, refl, h)
    second (inr h) = absurd (clash (cc h.2))

-- a row in front changes no refusal
ahead_refused : (r : Row) (w : Result Walked) (n p : ℕ) → ahead r w ≡ refused n p → w ≡ refused n p
ahead_refused r (refused k q) n p e = cc
ahead_refused r (accepted x) n p e = absurd (clash (cc))

-- a refusal's place is that of a structure, and so at most the part's end
enter_refused : (f : ℕ) (s : Part) (p d n k q : ℕ) → p ≤ s.end → ((p d n k q : ℕ) → p ≤ s.end → walk_fuel f s p d n ≡ refused k q → Faulty s.end k q)
    → (t : Result Row) → structure_at s p d ≡ t
    → enter t (λ r. walk_fuel f s (p + r.size) (suc d) r.members) (λ x. walk_fuel f s x d n) ≡ refused k q → Faulty s.end k q
enter_refused f s p d n k q h ih (refused k' q') t e =
    let y : k' ≡ k = cc in
    let z : q' ≡ q = cc in
    let g = structure_refused s p d k' q' t in
    record { number = omega (arith, g.number); place = omega (arith, g.place) }
enter_refused f s p d n k q h ih (accepted r) t e =
    part (followed_refused (walk_fuel f s (p + r.size) (suc d) r.members) (λ x. walk_fuel f s x d n) k q (ahead_refused r _ k q e))
  where
    inner : p + r.size ≤ s.end
    inner = (row_at_lem s p d r t).at_fits

    part : (walk_fuel f s (p + r.size) (suc d) r.members ≡ refused k q)
        ⊎ ((x : Walked) × (walk_fuel f s (p + r.size) (suc d) r.members ≡ walked x.rows x.next) × (walk_fuel f s x.next d n ≡ refused k q)) → Faulty s.end k q
    part (inl g) = ih (p + r.size) (suc d) r.members k q inner g
    part (inr g) =
        ih g.0.next d n k q (walks_end (walks_fuel f s (p + r.size) (suc d) r.members g.0.rows g.0.next g.1) inner) g.2

walk_refused : (f : ℕ) (s : Part) (p d n k q : ℕ) → p ≤ s.end → walk_fuel f s p d n ≡ refused k q → Faulty s.end k q
unfolding walk_fuel
walk_refused zero s p d zero k q h e = absurd (clash (cc))
walk_refused zero s p d (suc n) k q h e = let y : k ≡ 3 = cc in let z : q ≡ p = cc in record { number = omega arith; place = omega arith }
walk_refused (suc f) s p d zero k q h e = absurd (clash (cc))
walk_refused (suc f) s p d (suc n) k q h e =
    enter_refused f s p d n k q h (λ p d n k q h e. walk_refused f s p d n k q h e) (structure_at s p d) refl e

rows_refused : (m : Part) (n q : ℕ) → first_place m ≤ m.end → rows_of m ≡ refused n q → Faulty m.end n q
unfolding rows_of walk closed
rows_refused m n q h e = header (header_ok m) e
  where
    closing : (w : Walked) (b : Bool) → w.next ≤ m.end → unless b (refused 5 w.next) (accepted w.rows) ≡ refused n q → Faulty m.end n q
    closing w true l e = absurd (clash (cc))
    closing w false l e = let y : n ≡ 5 = cc in let z : q ≡ w.next = cc in record { number = omega arith; place = omega arith }

    part : (walk_fuel m.end m (first_place m) 1 (parameter_count m) ≡ refused n q)
        ⊎ ((w : Walked) × (walk_fuel m.end m (first_place m) 1 (parameter_count m) ≡ accepted w) × (closed m.end w ≡ refused n q)) → Faulty m.end n q
    part (inl g) = walk_refused m.end m (first_place m) 1 (parameter_count m) n q h g
    part (inr g) =
        closing g.0 (eqb g.0.next m.end)
        (walks_end (walks_fuel m.end m (first_place m) 1 (parameter_count m) g.0.rows g.0.next g.1) h) g.2

    header : (b : Bool) → unless b (refused 2 0) (and_then (walk_fuel m.end m (first_place m) 1 (parameter_count m)) (closed m.end)) ≡ refused n q → Faulty m.end n q
    header false e = let y : n ≡ 2 = cc in let z : q ≡ 0 = cc in record { number = omega arith; place = omega arith }
    header true e = part (then_refused (walk_fuel m.end m (first_place m) 1 (parameter_count m)) (closed m.end) n q e)

unless_refused : {A : Type 0} (b : Bool) (k : ℕ) (r : Result A) (n q : ℕ) → unless b (refused k 0) r ≡ refused n q
    → ((n ≡ k) × (q ≡ 0)) ⊎ (r ≡ refused n q)
unless_refused true k r n q e = inr e
unless_refused false k r n q e = inl (cc, cc)

-- a refusal's number is one of a message's, 1 to 5 or 18, and its place is in the longest message
pub record Rejected (n q : ℕ) : Type 0 where
  pub number : (n ≤ 5) ⊎ (n ≡ 18)
  pub place : q ≤ 65536

located_refused : (l : Layout) (buf : List ℕ) (len n q : ℕ) → located l buf len ≡ refused n q → Rejected n q
unfolding located
located_refused l buf len n q e = by (unless_refused (length_ok l buf len) 1 _ n q e)
  where
    last : ((n ≡ 18) × (q ≡ 0)) ⊎ (◌≡◌ {A = Result Part} (accepted (part_in l buf len)) (refused n q)) → Rejected n q
    last (inl f) = record { number = inr f.0; place = omega (arith, f.1) }
    last (inr f) = absurd (clash (cc))

    by : ((n ≡ 1) × (q ≡ 0)) ⊎ (unless (embedded_ok l.form (part_of buf len)) (refused 18 0) (accepted (part_in l buf len)) ≡ refused n q) → Rejected n q
    by (inl f) = record { number = inl (omega (arith, f.0)); place = omega (arith, f.1) }
    by (inr f) = last (unless_refused (embedded_ok l.form (part_of buf len)) 18 _ n q f)

pub scan_refused : (l : Layout) (buf : List ℕ) (len n q : ℕ) → scan l buf len ≡ refused n q → Rejected n q
unfolding scan
scan_refused l buf len n q e = go (then_refused (located l buf len) rows_of n q e)
  where
    go : (located l buf len ≡ refused n q) ⊎ ((m : Part) × (located l buf len ≡ accepted m) × (rows_of m ≡ refused n q)) → Rejected n q
    go (inl f) = located_refused l buf len n q f
    go (inr f) =
        let s = sized l buf len f.0 f.1 in
        let g = rows_refused (part_in l buf len) n q s.1.least (ap rows_of s.0 ∙ f.2) in
        record { number = inl g.number; place = omega (arith, s.1.within, s.1.most, g.place) }

-- Read refuses with 1 to 8, 17 or 18, never with the limit's number
pub record Unread (n q : ℕ) : Type 0 where
  pub number : n ≡ 10 → ⊥
  pub place : q ≤ 65536

by_one : (k n q : ℕ) (G : Type 0) → (k ≡ 10 → ⊥) → (G → Unread n q) → ((n ≡ k) × (q ≡ 0)) ⊎ G → Unread n q
by_one k n q G h f (inl e) = record { number = λ z. h (sym e.0 ∙ z); place = omega (arith, e.1) }
by_one k n q G h f (inr g) = f g

rows_unread : (sheet : List ℕ) (m : Part) (rows : List Row) (n q : ℕ) → read_rows sheet m rows ≡ refused n q → Unread n q
unfolding read_rows read_members
rows_unread sheet m rows n q e =
    let ds : List Row = direct_members (trace_routes rows) in
    by_one 6 n q _ (λ z. omega arith)
    (λ f. by_one 7 n q _ (λ z. omega arith)
    (λ g. by_one 8 n q _ (λ z. omega arith) (λ h. absurd (clash (cc)))
    (unless_refused (each_once sheet ds && in_range (values_at m (places_of sheet ds))) 8 _ n q g)) (unless_refused (eqb (length (trace_routes rows)) 1) 7 _ n q f))
    (unless_refused (trace_header m) 6 _ n q e)

pub read_refused : (tm : Terms) (buf : List ℕ) (len n q : ℕ) → read_trace tm buf len ≡ refused n q → Unread n q
unfolding read_trace
read_refused tm buf len n q e =
    by_one 17 n q _ (λ z. omega arith) (λ f. part (then_refused (scan tm.layout buf len) (read_rows tm.sheet m) n q f)) (unless_refused (sheet_ok tm.sheet) 17 _ n q e)
  where
    m : Part
    m = part_in tm.layout buf len

    never : (n ≤ 5) ⊎ (n ≡ 18) → n ≡ 10 → ⊥
    never (inl h) z = omega arith
    never (inr h) z = omega arith

    part : (scan tm.layout buf len ≡ refused n q) ⊎ ((rows : List Row) × (scan tm.layout buf len ≡ accepted rows) × (read_rows tm.sheet m rows ≡ refused n q)) → Unread n q
    part (inl g) = let f = scan_refused tm.layout buf len n q g in record { number = never f.number; place = f.place }
    part (inr g) = rows_unread tm.sheet m g.0 n q g.2
