-- One turn over the top-level structures of a sound trace: what the reader finds there, and what is known behind it.
use mathlib.Core.Path.{◌≡◌, refl, sym, ap, ◌∙◌, subst}
use mathlib.Core.Bool.{Bool, true, false}
use mathlib.Core.List.{List, [], ◌∷◌, ◌++◌, append_assoc, append-nil}
use Prim.Native.Nat.{ℕ, ◌+◌, ◌-◌, ◌*◌, ◌≤◌, ◌<◌}
use native.Mathlib.Omega.{arith}
use lib.ListN.{length, get_or, length-append}
use lib.Seq.{get_or-append_seam}
use borrow.Author.Tests.{eq-eqb}
use Rattle.meaning.specs.Bytes.{Part}
use Rattle.meaning.specs.Names.{MQGACF_ACTIVITY}
use Rattle.meaning.specs.Answer.{Result, accepted, when, cons_if}
use Rattle.meaning.specs.Structure.{Row, structure_at}
use Rattle.meaning.specs.Layout.{part_in}
use Rattle.meaning.specs.Message.{parameter_count, first_place, step}
use Rattle.meaning.specs.Trace.{Terms, Trace, Top, is_top, is_group, groups_in, groups, tops, activities, named, direct_in, read_trace}
use Rattle.meaning.specs.Activity.{Span, size_of, span_of, no_group, nth_activity, activity_group, strings, first_name, name_of, name_bytes}
use Rattle.meaning.proofs.Tests.{clash}
use Rattle.meaning.proofs.Structures.{row_at_lem}
use Rattle.meaning.proofs.Walks.{Walks, none, more, walks_as, walks_le, walk_of, walks_append, walks_depth, tiles}
use Rattle.meaning.proofs.Lines.{walks_none}
use Rattle.meaning.proofs.Tops.{Below, until_walk, tops_next}
use Rattle.meaning.proofs.Attributes.{groups_more, groups_same}
use Rattle.meaning.proofs.Spans.{tiles_size}
use Rattle.meaning.proofs.Layouts.{located_of_lem}
use Rattle.meaning.proofs.Sound.{Sound, sound}
use Rattle.reader.specs.Reading.{nth_top}
use Rattle.hops.specs.Hops.{no_name, hop_of}
use Rattle.hops.specs.Groups.{spot_in}
use Rattle.std.specs.Prelude.{Some, None}
use Rattle.hops.proofs.Lengths.{name_short, line_most}

-- the first structure of those that are left, and the others
record Head (m : Part) (p due : ℕ) (left : List Row) (q : ℕ) : Type 0 where
  pub row : Row
  pub inside : List Row
  pub rest : List Row
  pub next : ℕ
  pub there : structure_at m p 1 ≡ accepted row
  pub within : Walks m (p + row.size) 2 row.members inside next
  pub others : Walks m next 1 (due - 1) rest q
  pub split : left ≡ row ∷ (inside ++ rest)

head : {m : Part} {p due : ℕ} {left : List Row} {q : ℕ} → Walks m p 1 due left q → 0 < due → Head m p due left q
head none h = absurd (omega arith)
head (more {n} {p₁} {r = r} {rs₁} {rs₂} t w₁ w₂) h =
    record { row = r; inside = rs₁; rest = rs₂; next = p₁; there = t; within = w₁; others = walks_as refl (omega arith) refl w₂; split = refl }

-- the part that the trace in a message is
abbrev pub trace_in : Terms → List ℕ → Part
trace_in tm msg = part_in tm.layout msg (length msg)

-- K STRUCTURES IN: those before `place` have the rows `passed`, and those from there on the rows `left`; n of them were
-- Activity groups, and their lines end before `at`
pub record Upto (tm : Terms) (msg : List ℕ) (k n at : ℕ) : Type 0 where
  pub trace : Trace
  pub reads : read_trace tm msg (length msg) ≡ accepted trace
  pub place : ℕ
  pub passed : List Row
  pub left : List Row
  pub due : ℕ
  pub total : k + due ≡ parameter_count (trace_in tm msg)
  pub before : Walks (trace_in tm msg) (first_place (trace_in tm msg)) 1 k passed place
  pub after : Walks (trace_in tm msg) place 1 due left (trace_in tm msg).end
  pub counted : n ≡ length (activities passed)
  pub whole : activities passed ++ activities left ≡ activities trace.rows
  pub spent : at + 72 ≤ 2 * place
  pub few : n ≤ k

-- the k-th structure is an Activity group at q, the n-th one: where it is, and what is known behind its line
pub record Here (tm : Terms) (msg : List ℕ) (k n at q : ℕ) : Type 0 where
  pub placed : q ≡ (activity_group tm msg (length msg) n).place
  pub near : q ≤ 65536
  pub within : q + (activity_group tm msg (length msg) n).length ≤ length msg
  pub short : (activity_group tm msg (length msg) n).length ≤ 65536
  pub few : n ≤ 65536
  pub room : (id : ℕ) → at + length (hop_of tm msg id n) ≤ 131072
  pub next : (id : ℕ) → Upto tm msg (k + 1) (n + 1) (at + length (hop_of tm msg id n))

module _ (tm : Terms) (msg : List ℕ) where
  abbrev m : Part
  m = trace_in tm msg

  -- none yet
  pub at_start : (t : Trace) → read_trace tm msg (length msg) ≡ accepted t → Upto tm msg 0 0 0
  unfolding groups groups_in tops
  at_start t e =
      let s = sound tm msg (length msg) t e in
      record {
        trace = t;
        reads = e;
        place = first_place m;
        passed = [];
        left = t.rows;
        due = parameter_count m;
        total = omega arith;
        before = none;
        after = s.message.structures.tree;
        counted = refl;
        whole = refl;
        spent = omega arith;
        few = omega arith;
      }

  module _ (k n at : ℕ) (u : Upto tm msg k n at) where
    facts : Sound tm msg (length msg) u.trace
    facts = sound tm msg (length msg) u.trace u.reads

    pub text_most : at ≤ 131072
    text_most = omega (arith, u.spent, walks_le u.after, facts.lies.within, facts.lies.most)

    -- all: the count is that of the trace, and the text is short
    pub at_end : u.due ≡ 0 → (n ≡ length (activities u.trace.rows)) × (at + 72 ≤ 131072)
    unfolding groups groups_in tops
    at_end e =
        let z = walks_none u.after e in
        let x : activities u.trace.rows ≡ activities u.passed =
        sym u.whole ∙ ap (λ (l : List Row). activities u.passed ++ activities l) z.0 ∙ append-nil (activities u.passed) in
        (u.counted ∙ ap length (sym x), omega (arith, u.spent, facts.lies.within, facts.lies.most, z.1))

    module _ (more-due : 0 < u.due) where
      its : Head m u.place u.due u.left m.end
      its = head u.after more-due

      abbrev top : Top
      top = record { row = its.row; inside = its.inside }

      deep : Below 2 its.inside
      deep = λ r i. walks_depth its.within r i

      -- it stands at the place, fills the bytes up to the next one, and ends in the part, and so in the message
      filled : u.place + (its.row.size + size_of its.inside) ≡ its.next
      filled = omega (arith, tiles_size m (u.place + its.row.size) its.inside its.next (tiles its.within))

      ends : its.next ≤ m.end
      ends = omega (arith, walks_le its.others)

      ends_there : its.next ≤ length msg
      ends_there = omega (arith, ends, facts.lies.within)

      is_top_lem : is_top its.row ≡ true
      is_top_lem = eq-eqb its.row.depth 1 (sym (row_at_lem m u.place 1 its.row its.there).at_depth)

      -- THE READER finds it
      found : nth_top tm.layout msg k ≡ accepted (record { row = its.row; next = u.place + its.row.size })
      unfolding nth_top step
      found =
          let w = walk_of u.before (omega (arith, ends, filled)) in
          rw (located_of_lem tm.layout msg (length msg) facts.lies, w, its.there) refl

      -- with it, one structure more is passed
      passed_it : Walks m (first_place m) 1 (k + 1) (u.passed ++ (its.row ∷ its.inside)) its.next
      passed_it =
          let one : Walks m u.place 1 1 (its.row ∷ (its.inside ++ [])) its.next = more its.there its.within none in
          walks_append 1 (its.row ∷ its.inside) its.next u.before (rw (append-nil its.inside) at one)

      left_groups : activities u.left ≡ cons_if (is_group MQGACF_ACTIVITY top) top (activities its.rest)
      unfolding groups groups_in
      left_groups =
          ap activities its.split
          ∙ ap (groups_in MQGACF_ACTIVITY) (tops_next its.row its.inside its.rest (sym (row_at_lem m u.place 1 its.row its.there).at_depth) deep (until_walk its.others))

      spot : spot_in (nth_top tm.layout msg k) ≡ when (is_group MQGACF_ACTIVITY top) (Some its.row.place) None
      spot = ap spot_in found

      -- THE NEXT TURN starts behind it, with so many groups and so much text
      turned : (n' at' : ℕ) → n' ≡ length (activities (u.passed ++ (its.row ∷ its.inside)))
          → activities (u.passed ++ (its.row ∷ its.inside)) ++ activities its.rest ≡ activities u.trace.rows
          → at' + 72 ≤ 2 * its.next → n' ≤ k + 1 → Upto tm msg (k + 1) n' at'
      turned n' at' counted whole spent few =
          record {
            trace = u.trace;
            reads = u.reads;
            place = its.next;
            passed = u.passed ++ (its.row ∷ its.inside);
            left = its.rest;
            due = u.due - 1;
            total = omega (arith, u.total);
            before = passed_it;
            after = its.others;
            counted = counted;
            whole = whole;
            spent = spent;
            few = few;
          }

      -- what is not an Activity group has no line
      other_next : is_group MQGACF_ACTIVITY top ≡ false → Upto tm msg (k + 1) n at
      other_next h =
          let same = groups_same MQGACF_ACTIVITY u.passed its.row its.inside is_top_lem deep h in
          let rest : activities u.left ≡ activities its.rest = left_groups ∙ rw h refl in
          turned n at (u.counted ∙ ap length (sym same))
          (ap (λ (l : List Top). l ++ activities its.rest) same ∙ ap (λ (l : List Top). activities u.passed ++ l) (sym rest) ∙ u.whole)
          (omega (arith, u.spent, filled)) (omega (arith, u.few))

      pub is_other : None ≡ spot_in (nth_top tm.layout msg k) → Upto tm msg (k + 1) n at
      is_other e = go (is_group MQGACF_ACTIVITY top) refl
        where
          go : (b : Bool) → is_group MQGACF_ACTIVITY top ≡ b → Upto tm msg (k + 1) n at
          go false h = other_next h
          go true h = let z : None ≡ Some its.row.place = e ∙ spot ∙ rw h refl in absurd (clash (cc))

      -- AN ACTIVITY GROUP is the n-th one of the trace
      module _ (yes : is_group MQGACF_ACTIVITY top ≡ true) where
        rest_groups : activities u.left ≡ top ∷ activities its.rest
        rest_groups = left_groups ∙ rw yes refl

        nth : get_or (activities u.trace.rows) n no_group ≡ top
        nth =
            ap (λ (l : List Top). get_or l n no_group) (sym u.whole ∙ ap (λ (l : List Top). activities u.passed ++ l) rest_groups)
            ∙ ap (λ (i : ℕ). get_or (activities u.passed ++ (top ∷ activities its.rest)) i no_group) u.counted
            ∙ get_or-append_seam (activities u.passed) top (activities its.rest) no_group

        group_is : activity_group tm msg (length msg) n ≡ span_of top
        unfolding activity_group
        group_is = ap (λ (r : Result Trace). span_of (nth_activity r n)) u.reads ∙ ap span_of nth

        name_is : (id : ℕ) → name_of tm msg (length msg) n id ≡ first_name m msg (named id (strings (direct_in its.inside)))
        unfolding name_of
        name_is id =
            ap (λ (r : Result Trace). first_name m msg (named id (strings (direct_in (nth_activity r n).inside)))) u.reads
            ∙ ap (λ (t : Top). first_name m msg (named id (strings (direct_in t.inside)))) nth

        at_place : its.row.place ≡ u.place
        at_place = sym (row_at_lem m u.place 1 its.row its.there).at_place

        line_short : (id : ℕ) → length (hop_of tm msg id n) ≤ 2 * (its.row.size + size_of its.inside)
        unfolding hop_of
        line_short id =
            let g = row_at_lem m u.place 1 its.row its.there in
            let a = line_most (n + 1) its.row.place (its.row.size + size_of its.inside) (name_bytes msg no_name (name_of tm msg (length msg) n id))
            (omega (arith, at_place, filled, ends_there, facts.lies.most)) (omega (arith, filled, ends_there, facts.lies.most)) in
            let b = name_short m msg id its.inside its.within in
            rw (group_is) (omega (arith, a, rw (← name_is id) at b, g.at_least))

        line_next : (id : ℕ) → Upto tm msg (k + 1) (n + 1) (at + length (hop_of tm msg id n))
        line_next id =
            let one = groups_more MQGACF_ACTIVITY u.passed its.row its.inside is_top_lem deep yes in
            turned (n + 1) (at + length (hop_of tm msg id n)) (omega (arith, u.counted, ap length one, length-append (activities u.passed) (top ∷ [])))
            (ap (λ (l : List Top). l ++ activities its.rest) one ∙ append_assoc (activities u.passed) (top ∷ []) (activities its.rest)
            ∙ ap (λ (l : List Top). activities u.passed ++ l) (sym rest_groups) ∙ u.whole)
            (omega (arith, u.spent, filled, line_short id)) (omega (arith, u.few))

        here_now : Here tm msg k n at its.row.place
        here_now = record {
          placed = sym (ap (λ (s : Span). s.place) group_is);
          near = omega (arith, at_place, filled, ends_there, facts.lies.most);
          within = omega (arith, ap (λ (s : Span). s.length) group_is, at_place, filled, ends_there);
          short = omega (arith, ap (λ (s : Span). s.length) group_is, filled, ends_there, facts.lies.most);
          few = omega (arith, u.few, walks_le u.before, filled, ends_there, facts.lies.most);
          room = λ id. omega (arith, u.spent, filled, ends_there, facts.lies.most, line_short id);
          next = λ id. line_next id;
        }

      pub is_activity : (q : ℕ) → Some q ≡ spot_in (nth_top tm.layout msg k) → Here tm msg k n at q
      is_activity q e = go (is_group MQGACF_ACTIVITY top) refl
        where
          go : (b : Bool) → is_group MQGACF_ACTIVITY top ≡ b → Here tm msg k n at q
          go false h = let z : Some q ≡ None = e ∙ spot ∙ rw h refl in absurd (clash (cc))
          go true h =
              let z : Some q ≡ Some its.row.place = e ∙ spot ∙ rw h refl in
              let y : its.row.place ≡ q = cc in
              subst (Here tm msg k n at) y (here_now h)
