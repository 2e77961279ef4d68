-- The top-level groups of a walk, counted one structure after the other.
use mathlib.Core.Path.{◌≡◌, refl, sym, ap, ◌∙◌}
use mathlib.Core.Bool.{Bool, true, false, ◌&&◌}
use mathlib.Core.List.{List, [], ◌∷◌, ◌++◌}
use Prim.Native.Nat.{ℕ, zero, suc, ◌+◌, ◌-◌, ◌≤◌, ◌<◌}
use native.Mathlib.Nat.{zero-add}
use native.Mathlib.Omega.{arith}
use lib.ListN.{length, get_or}
use lib.Dec.{eqb}
use borrow.Author.Tests.{eq-eqb, ne_eqb}
use Rattle.meaning.specs.Bytes.{Part}
use Rattle.meaning.specs.Names.{MQCFT_GROUP, MQGACF_TRACE_ROUTE, MQGACF_ACTIVITY}
use Rattle.meaning.specs.Answer.{Result, accepted, refused, and_then, when, cons_if}
use Rattle.meaning.specs.Structure.{Row}
use Rattle.meaning.specs.Walk.{Walked, walked, walk}
use Rattle.meaning.specs.Trace.{Top, tops, is_group, groups_in, groups}
use Rattle.meaning.specs.Activity.{size_of, no_group}
use Rattle.meaning.proofs.Structures.{row_at_lem}
use Rattle.meaning.proofs.Walks.{walks, walks_depth, tiles}
use Rattle.meaning.proofs.Fuel.{walk_zero}
use Rattle.meaning.proofs.Spans.{tiles_size}
use Rattle.meaning.proofs.Tops.{until_walk, tops_next}
use Rattle.trace.specs.declared.groups.Group.{Group}
use Rattle.trace.specs.declared.groups.Counted.{Counted}
use Rattle.trace.specs.declared.groups.Tops.{Tops}
use Rattle.trace.specs.Groups.{no_group_yet, none_yet, whole_group, counted, count_row, CountableGroup, surveyed}
use Rattle.trace.specs.Passing.{crossed}
use Rattle.trace.proofs.Turns.{Over, over, over_le, walk_halt, walk_over}

-- one more group
abbrev on_to : ℕ → Counted → Top → Counted
on_to n c t = record { count = c.count + 1; group = when (eqb c.count n) (whole_group t) c.group }

-- one more top-level structure, and all of them
abbrev count_top : ℕ → ℕ → Counted → Top → Counted
count_top id n c t = when (is_group id t) (on_to n c t) c

unfoldable pub count_all : ℕ → ℕ → Counted → List Top → Counted
count_all id n c [] = c
count_all id n c (t ∷ ts) = count_all id n (count_top id n c t) ts

-- the groups among them
count_groups : ℕ → Counted → List Top → Counted
count_groups n c [] = c
count_groups n c (t ∷ ts) = count_groups n (on_to n c t) ts

count_groups_lem : (id n : ℕ) (c : Counted) (ts : List Top) → count_all id n c ts ≡ count_groups n c (groups_in id ts)
unfolding count_all count_groups groups_in
count_groups_lem id n c [] = refl
count_groups_lem id n c (t ∷ ts) = go (is_group id t) (λ d. count_groups_lem id n d ts)
  where
    go : (b : Bool) → ((d : Counted) → count_all id n d ts ≡ count_groups n d (groups_in id ts))
        → count_all id n (when b (on_to n c t) c) ts ≡ count_groups n c (cons_if b t (groups_in id ts))
    go true ih = ih (on_to n c t)
    go false ih = ih c

-- the k-th of them, or what stands for it
pick_or : List Top → ℕ → Group → Group
pick_or [] k g = g
pick_or (t ∷ ts) zero g = whole_group t
pick_or (t ∷ ts) (suc k) g = pick_or ts k g

pick_at : (ts : List Top) (k : ℕ) → pick_or ts k no_group_yet ≡ whole_group (get_or ts k no_group)
unfolding pick_or whole_group size_of
pick_at [] k = refl
pick_at (t ∷ ts) zero = refl
pick_at (t ∷ ts) (suc k) = pick_at ts k

groups_past : (n : ℕ) (c : Counted) (ts : List Top) → n < c.count → (count_groups n c ts).group ≡ c.group
unfolding count_groups
groups_past n c [] h = refl
groups_past n c (t ∷ ts) h =
    groups_past n (on_to n c t) ts (omega arith) ∙ rw (ne_eqb c.count n (λ q. omega arith)) refl

groups_pick : (n : ℕ) (c : Counted) (ts : List Top) (k : ℕ) → n ≡ c.count + k → (count_groups n c ts).group ≡ pick_or ts k c.group
unfolding count_groups pick_or
groups_pick n c [] k e = refl
groups_pick n c (t ∷ ts) zero e =
    groups_past n (on_to n c t) ts (omega arith) ∙ rw (eq-eqb c.count n (omega arith)) refl
groups_pick n c (t ∷ ts) (suc k) e =
    groups_pick n (on_to n c t) ts k (omega arith) ∙ rw (ne_eqb c.count n (λ q. omega arith)) refl

groups_count : (n : ℕ) (c : Counted) (ts : List Top) → (count_groups n c ts).count ≡ c.count + length ts
unfolding count_groups
groups_count n c [] = omega arith
groups_count n c (t ∷ ts) = groups_count n (on_to n c t) ts ∙ omega arith

pub count_all_lem : (id n : ℕ) (rows : List Row) → count_all id n none_yet (tops rows) ≡ counted id n rows
unfolding counted groups
count_all_lem id n rows =
    let gs : List Top = groups_in id (tops rows) in
    let c : (count_groups n none_yet gs).count ≡ length gs = groups_count n none_yet gs ∙ zero-add (length gs) in
    let g : (count_groups n none_yet gs).group ≡ whole_group (get_or gs n no_group) = groups_pick n none_yet gs n (sym (zero-add n)) ∙ pick_at gs n in
    count_groups_lem id n none_yet (tops rows)
    ∙ ap (λ (x : ℕ). record { count = x; group = (count_groups n none_yet gs).group }) c
    ∙ ap (λ (x : Group). record { count = length gs; group = x }) g

-- THE SURVEY from here on, with what was counted before
abbrev pub survey_from : ℕ → Counted → Counted → Result Walked → Result Tops
survey_from n a b w =
    and_then w (λ x. accepted (record { behind = x.next; routes = count_all MQGACF_TRACE_ROUTE 0 a (tops x.rows); activities = count_all MQGACF_ACTIVITY n b (tops x.rows) }))

pub survey_start : (n : ℕ) (w : Result Walked) → surveyed n w ≡ survey_from n none_yet none_yet w
survey_start n (accepted w) = rw (count_all_lem MQGACF_TRACE_ROUTE 0 w.rows, count_all_lem MQGACF_ACTIVITY n w.rows) refl
survey_start n (refused k p) = refl

pub survey_end : (m : Part) (p n k : ℕ) (a b : Counted) → k ≡ 0 → survey_from n a b (walk m p 1 k) ≡ accepted (record { behind = p; routes = a; activities = b })
unfolding count_all tops
survey_end m p n k a b z = rw (z, walk_zero m p 1) refl

pub count_le : (id n : ℕ) (c : Counted) (r : Row) (q : ℕ) → (count_row id n c r q).count ≤ c.count + 1
unfolding count_row
count_le id n c r q = go (eqb r.kind MQCFT_GROUP && eqb r.parameter id)
  where
    go : (x : Bool) → (when x (record { count = c.count + 1; group = when (eqb c.count n) (record { place = r.place; inside = r.place + r.size; length = q - r.place; members = r.members }) c.group }) c).count ≤ c.count + 1
    go true = omega arith
    go false = omega arith

-- a group that was passed over can be counted, with no more counted than structures were gone over
pub countable : (m : Part) (p n i : ℕ) (c : Counted) (r : Row) (q : ℕ) → accepted (record { row = r; next = q }) ≡ crossed m p 1 → r.kind ≡ MQCFT_GROUP
    → c.count ≤ i → i < n → n < 4294967296 → CountableGroup c r q
countable m p n i c r q e k a b h =
    let o = over m p 1 r q (sym e) in
    let g = row_at_lem m p 1 r o.there in
    record { a_group = k; few = omega arith; ends = omega (arith, g.at_place, over_le m p 1 r q o) }

-- a structure that is no group counts for nothing
count_other : (id n : ℕ) (c : Counted) (r : Row) (q : ℕ) → ¬ (r.kind ≡ MQCFT_GROUP) → count_row id n c r q ≡ c
unfolding count_row
count_other id n c r q h = rw (ne_eqb _ _ h) refl

module _ (m : Part) (p left left' n : ℕ) (a b : Counted) (due : left ≡ left' + 1) where
  pub survey_halt : (k q : ℕ) → crossed m p 1 ≡ refused k q → survey_from n a b (walk m p 1 left) ≡ refused k q
  survey_halt k q e = rw (walk_halt m p 1 left left' due k q e) refl

  module _ (r : Row) (q : ℕ) (o : Over m p 1 r q) where
    abbrev top : Top
    top = record { row = r; inside = o.inside }

    -- the place behind gives the group's length
    row_top : (id k : ℕ) (c : Counted) → count_top id k c top ≡ count_row id k c r q
    unfolding count_row whole_group
    row_top id k c =
        let g = row_at_lem m p 1 r o.there in
        let w = walks m (p + r.size) 2 r.members o.inside q o.within in
        let e : r.size + size_of o.inside ≡ q - r.place = omega (arith, g.at_place, tiles_size m (p + r.size) o.inside q (tiles w)) in
        rw e refl

    one_more : (id k : ℕ) (c : Counted) (rows : List Row) → count_all id k c (top ∷ tops rows) ≡ count_all id k (count_row id k c r q) (tops rows)
    unfolding count_all
    one_more id k c rows = ap (λ (x : Counted). count_all id k x (tops rows)) (row_top id k c)

    next_tops : (y : Walked) → walk m q 1 left' ≡ accepted y → tops (r ∷ (o.inside ++ y.rows)) ≡ top ∷ tops y.rows
    next_tops y e =
        tops_next r o.inside y.rows (sym (row_at_lem m p 1 r o.there).at_depth)
        (λ x i. walks_depth (walks m (p + r.size) 2 r.members o.inside q o.within) x i)
        (until_walk (walks m q 1 left' y.rows y.next e))

    pub survey_next : survey_from n a b (walk m p 1 left) ≡ survey_from n (count_row MQGACF_TRACE_ROUTE 0 a r q) (count_row MQGACF_ACTIVITY n b r q) (walk m q 1 left')
    survey_next = rw (walk_over m p 1 left left' due r q o) (go (walk m q 1 left') refl)
      where
        go : (w : Result Walked) → walk m q 1 left' ≡ w
            → survey_from n a b (and_then w (λ y. walked (r ∷ (o.inside ++ y.rows)) y.next)) ≡ survey_from n (count_row MQGACF_TRACE_ROUTE 0 a r q) (count_row MQGACF_ACTIVITY n b r q) w
        go (accepted y) e = rw (next_tops y e, one_more MQGACF_TRACE_ROUTE 0 a y.rows, one_more MQGACF_ACTIVITY n b y.rows) refl
        go (refused k x) e = refl

    pub survey_other : ¬ (r.kind ≡ MQCFT_GROUP) → survey_from n a b (walk m p 1 left) ≡ survey_from n a b (walk m q 1 left')
    survey_other h = survey_next ∙ rw (count_other MQGACF_TRACE_ROUTE 0 a r q h, count_other MQGACF_ACTIVITY n b r q h) refl
