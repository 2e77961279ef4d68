-- Read's refusals, by the tests that the code makes.
use mathlib.Core.Path.{◌≡◌, refl, sym, ap, ◌∙◌, subst}
use mathlib.Core.Bool.{Bool, true, false, ◌&&◌}
use mathlib.Core.List.{List, [], ◌∷◌, append-nil}
use Prim.Native.Nat.{ℕ, ◌+◌, ◌≤◌, ◌<◌}
use native.Mathlib.Nat.{add_assoc, add-zero}
use native.Mathlib.Omega.{arith}
use lib.ListN.{length, get_or, take}
use lib.Dec.{leb, eqb}
use borrow.Author.Tests.{eqb-true, eq-eqb, ne_eqb, le-leb, lt-leb}
use Rattle.meaning.specs.Bytes.{Part, whole, number}
use Rattle.meaning.specs.Names.{MQGACF_TRACE_ROUTE, MQGACF_ACTIVITY, bad_attribute, bad_sheet, no_trace_header, no_trace_route, left_over}
use Rattle.meaning.specs.Answer.{Result, accepted, refused, and_then, unless}
use Rattle.meaning.specs.Structure.{Row}
use Rattle.meaning.specs.Walk.{Walked, walked, walk, rows_in}
use Rattle.meaning.specs.Layout.{part_in}
use Rattle.meaning.specs.Message.{field, header_ok, closed, scan}
use Rattle.meaning.specs.Trace.{Terms, Trace, sheet_ok, trace_fields, trace_header, Top, groups, trace_routes, direct_in, direct_members, each_once, places_of, value_at, values_at, in_range, read_members, read_rows, read_trace}
use Rattle.meaning.specs.Activity.{no_group}
use Rattle.meaning.specs.Compose.{header_fields, trace_header_fields}
use Rattle.meaning.proofs.Tests.{and_true, and_false, then_accepted, then_refused}
use Rattle.meaning.proofs.Walks.{Walks, walks, walks_as, walk_of, in_nil, tiles, tiles_row}
use Rattle.meaning.proofs.Parts.{num_part}
use Rattle.meaning.proofs.Tops.{TopAt, all_at, all_groups, tops_at}
use Rattle.meaning.proofs.Layouts.{sized}
use Rattle.layout.specs.Layouts.{part_at}
use Rattle.layout.specs.declared.part.Part.{Part as PartIn}
use Rattle.pcf.specs.declared.message.Opening.{Opening}
use Rattle.pcf.specs.Messages.{Opened, opened, opening_of, structures_of, Reaches}
use Rattle.pcf.proofs.Openings.{Begun as Opened-as, walk_part, scan_opened, begun, reaches}
use Rattle.header.specs.Headers.{fields_of, starts_with}
use Rattle.trace.specs.Passing.{is_sound}
use Rattle.trace.specs.Groups.{whole_group, counted, tops_of, surveyed}
use Rattle.trace.specs.Locations.{Headed, attributes_by, attributes_in, judged_in, lying, traced, traced_by}
use Rattle.trace.specs.declared.groups.Tops.{Tops}
use Rattle.trace.specs.declared.location.Traced.{Traced}
use Rattle.trace.specs.declared.groups.Group.{Group}
use Rattle.trace.specs.declared.groups.Counted.{Counted}
use Rattle.header.specs.declared.Kind.TheVariants.{Trace as trace}
use Rattle.trace.proofs.Marking.{Every, every_direct}

-- WHERE THE MEMBERS of a group stand: in the message
module _ (m : Part) (p n : ℕ) where
  every_row : (w : Result Walked) → walk m p 2 n ≡ w → Every (λ r. r.place + 16 ≤ m.end) (rows_in w)
  every_row (accepted w) e r i =
      let g = tiles_row m p w.rows w.next (tiles (walks m p 2 n w.rows w.next e)) r i in
      omega (arith, g.at_fits, g.at_least)
  every_row (refused k q) e r i = absurd (in_nil i)

  pub every_member : Every (λ r. r.place + 16 ≤ m.end) (direct_in (rows_in (walk m p 2 n)))
  every_member = every_direct (λ r. r.place + 16 ≤ m.end) (rows_in (walk m p 2 n)) (every_row (walk m p 2 n) refl)

-- 8, by its two tests
module _ (sheet : List ℕ) (m : Part) (members : List Row) (activity : Group) (part : PartIn) where
  pub attributes_unfound : each_once sheet members ≡ false → refused bad_attribute 0 ≡ attributes_by sheet m members activity part
  unfolding attributes_by
  attributes_unfound e = rw e refl

  module _ (once : each_once sheet members ≡ true) (places values : List ℕ) (p : places ≡ places_of sheet members) (v : values ≡ values_at m places) where
    pub attributes_unranged : in_range values ≡ false → refused bad_attribute 0 ≡ attributes_by sheet m members activity part
    unfolding attributes_by
    attributes_unranged e = rw (← p, ← v, once, e) refl

    pub attributes_found : in_range values ≡ true → accepted (record { places = places; values = values; activity = activity; part = part }) ≡ attributes_by sheet m members activity part
    unfolding attributes_by
    attributes_found e = rw (← p, ← v, once, e) refl

and_right : (x : Bool) → x && true ≡ x
and_right true = refl
and_right false = refl

-- 6: with a sound header, the eight fields and the count are the meaning's test
module _ (msg : List ℕ) (part : PartIn) (least : part.start + 36 ≤ part.end) (sound : header_ok (part_at msg part) ≡ true) where
  abbrev m : Part
  m = part_at msg part

  abbrev p : ℕ
  p = part.start

  field_at : (at : ℕ) → at + 4 ≤ 36 → field m at ≡ number msg (p + at)
  field_at at h = num_part msg part.end (p + at) (omega arith)

  size_36 : eqb (number msg (p + 4)) 36 ≡ true
  unfolding header_ok
  size_36 = ap (λ (x : ℕ). eqb x 36) (sym (field_at 4 (omega arith))) ∙ (and_true (eqb (field m 4) 36) _ sound).0

  -- the fields stand four bytes apart
  apart : starts_with msg p (take 8 (fields_of trace))
      ≡ eqb (number msg (p + 0)) 10 && (eqb (number msg (p + 4)) 36 && (eqb (number msg (p + 8)) 3 && (eqb (number msg (p + 12)) 75
      && (eqb (number msg (p + 16)) 1 && (eqb (number msg (p + 20)) 1 && (eqb (number msg (p + 24)) 0 && (eqb (number msg (p + 28)) 0 && true)))))))
  unfolding starts_with header_fields trace_header_fields
  apart = simp (add_assoc, add-zero)

  pub fields_read : starts_with msg p (take 8 (fields_of trace)) ≡ trace_fields m
  unfolding trace_fields
  fields_read =
      apart
      ∙ rw (
        size_36,
        field_at 0 (omega arith),
        field_at 8 (omega arith),
        field_at 12 (omega arith),
        field_at 16 (omega arith),
        field_at 20 (omega arith),
        field_at 24 (omega arith),
        field_at 28 (omega arith),
        and_right (eqb (number msg (p + 28)) 0),
      ) refl

  module _ (count : ℕ) (read : count ≡ number msg (part.start + 32)) where
    pub no_count : count < 1 → trace_header m ≡ false
    unfolding trace_header
    no_count h =
        let e : leb 1 (field m 32) ≡ false = lt-leb 1 (field m 32) (omega (arith, field_at 32 (omega arith))) in
        rw e (and_false (trace_fields m))

    pub some_count : 1 ≤ count → (b : Bool) → starts_with msg p (take 8 (fields_of trace)) ≡ b → trace_header m ≡ b
    unfolding trace_header
    some_count h b e =
        let l : leb 1 (field m 32) ≡ true = le-leb 1 (field m 32) (omega (arith, field_at 32 (omega arith))) in
        rw (l, sym fields_read ∙ e) (and_right b)

-- 6, 7, 8 by their tests
module _ (sheet : List ℕ) (m : Part) (routes : Counted) (activity : Group) where
  pub judge_header : trace_header m ≡ false → refused no_trace_header 0 ≡ judged_in sheet m routes activity
  unfolding judged_in
  judge_header e = rw e refl

  module _ (header : trace_header m ≡ true) where
    pub judge_routes : (routes.count ≡ 1 → ⊥) → refused no_trace_route 0 ≡ judged_in sheet m routes activity
    unfolding judged_in
    judge_routes e = rw (header, ne_eqb routes.count 1 e) refl

    pub judge_members : routes.count ≡ 1 → attributes_in sheet m routes.group.inside routes.group.members activity (lying m) ≡ judged_in sheet m routes activity
    unfolding judged_in
    judge_members e = rw (header, eq-eqb routes.count 1 e) refl

-- THE ONE TraceRoute group: its direct members are the meaning's
one_group : (ts : List Top) → length ts ≡ 1 → direct_members ts ≡ direct_in (get_or ts 0 no_group).inside
unfolding direct_members
one_group [] e = absurd (omega arith)
one_group (t ∷ []) e = append-nil (direct_in t.inside)
one_group (t ∷ u ∷ ts) e = absurd (omega arith)

module _ (m : Part) (p count : ℕ) (rows : List Row) (tree : Walks m p 1 count rows m.end) where
  -- a group that was counted: it stands in the message, and its rows are those of the walk inside it
  pub nth_at : (id n : ℕ) → n < length (groups id rows) → TopAt m p m.end (get_or (groups id rows) n no_group)
  unfolding groups
  nth_at id n h = all_at (all_groups id (tops_at tree)) no_group n h

  pub nth_walk : (id n : ℕ) (h : n < length (groups id rows))
      → walk m (whole_group (get_or (groups id rows) n no_group)).inside 2 (whole_group (get_or (groups id rows) n no_group)).members ≡ walked (get_or (groups id rows) n no_group).inside (nth_at id n h).next
  unfolding whole_group
  nth_walk id n h = let t = nth_at id n h in walk_of t.within t.ends

  route_members : length (trace_routes rows) ≡ 1
      → direct_in (rows_in (walk m (counted MQGACF_TRACE_ROUTE 0 rows).group.inside 2 (counted MQGACF_TRACE_ROUTE 0 rows).group.members)) ≡ direct_members (trace_routes rows)
  unfolding counted
  route_members e = ap (λ (w : Result Walked). direct_in (rows_in w)) (nth_walk MQGACF_TRACE_ROUTE 0 (omega arith)) ∙ sym (one_group (trace_routes rows) e)

  then_unless : {A B : Type 0} (b : Bool) (k q : ℕ) (x : Result A) (f : A → Result B) → and_then (unless b (refused k q) x) f ≡ unless b (refused k q) (and_then x f)
  then_unless true k q x f = refl
  then_unless false k q x f = refl

  -- 8, as the meaning has it
  members_read : (sheet : List ℕ) (n : ℕ) (members : List Row)
      → and_then (read_members sheet m rows members) (λ t. accepted (traced n m t)) ≡ attributes_by sheet m members (counted MQGACF_ACTIVITY n rows).group (lying m)
  unfolding read_members attributes_by
  members_read sheet n members = then_unless (each_once sheet members && in_range (values_at m (places_of sheet members))) bad_attribute 0 _ _

  -- 6, 7, 8, as the meaning has them
  pub rows_read : (sheet : List ℕ) (n : ℕ)
      → and_then (read_rows sheet m rows) (λ t. accepted (traced n m t)) ≡ judged_in sheet m (counted MQGACF_TRACE_ROUTE 0 rows) (counted MQGACF_ACTIVITY n rows).group
  unfolding read_rows judged_in counted
  rows_read sheet n =
      then_unless (trace_header m) no_trace_header 0 _ _
      ∙ ap (unless (trace_header m) (refused no_trace_header 0))
      (then_unless (eqb (length (trace_routes rows)) 1) no_trace_route 0 _ _ ∙ go (eqb (length (trace_routes rows)) 1) refl)
    where
      go : (b : Bool) → eqb (length (trace_routes rows)) 1 ≡ b
          → unless b (refused no_trace_route 0) (and_then (read_members sheet m rows (direct_members (trace_routes rows))) (λ t. accepted (traced n m t)))
          ≡ unless b (refused no_trace_route 0)
          (attributes_in sheet m (counted MQGACF_TRACE_ROUTE 0 rows).group.inside (counted MQGACF_TRACE_ROUTE 0 rows).group.members (counted MQGACF_ACTIVITY n rows).group (lying m))
      go true e = members_read sheet n (direct_members (trace_routes rows)) ∙ rw (route_members (eqb-true (length (trace_routes rows)) 1 e)) refl
      go false e = refl

-- WHAT A SURVEY TELLS of the walk that it is of
record Told (n : ℕ) (v : Result Walked) (s : Tops) : Type 0 where
  pub rows : List Row
  pub over : v ≡ walked rows s.behind
  pub routes : s.routes ≡ counted MQGACF_TRACE_ROUTE 0 rows
  pub activities : s.activities ≡ counted MQGACF_ACTIVITY n rows

told : (n : ℕ) (v : Result Walked) (s : Tops) → accepted s ≡ surveyed n v → Told n v s
told n v s e =
    let f = then_accepted v (λ w. accepted (tops_of n w)) s (sym e) in
    let g : tops_of n f.0 ≡ s = cc f.2 in
    record {
      rows = f.0.rows;
      over = f.1 ∙ ap (λ (x : Tops). walked f.0.rows x.behind) g;
      routes = sym (ap (λ (x : Tops). x.routes) g);
      activities = sym (ap (λ (x : Tops). x.activities) g);
    }

-- READ, by the tests that come first
module _ (tm : Terms) (buf : List ℕ) (len n : ℕ) where
  pub trace_unsheeted : sheet_ok tm.sheet ≡ false → refused bad_sheet 0 ≡ traced_by n tm buf len
  unfolding read_trace
  trace_unsheeted e = rw e refl

  module _ (ok : sheet_ok tm.sheet ≡ true) where
    trace_unscanned : (k q : ℕ) → scan tm.layout buf len ≡ refused k q → refused k q ≡ traced_by n tm buf len
    unfolding read_trace
    trace_unscanned k q e = rw (ok, e) refl

    pub trace_unopened : (k q : ℕ) → refused k q ≡ opened tm.layout buf len → refused k q ≡ traced_by n tm buf len
    trace_unopened k q e = trace_unscanned k q (scan_opened tm.layout buf len ∙ rw (← e) refl)

-- WHAT THE TESTS before the structures have shown: the sheet's, those of the part, and its header's, which has this count
pub record Begun (tm : Terms) (buf : List ℕ) (len : ℕ) (o : Opening) : Type 0 where
  pub sheeted : sheet_ok tm.sheet ≡ true
  pub opens : accepted (opening_of buf o) ≡ opened tm.layout buf len

module _ {tm : Terms} {buf : List ℕ} {len : ℕ} {o : Opening} (g : Begun tm buf len o) where
  abbrev M : Part
  M = part_at buf o.part

  start : Opened-as tm.layout buf len (opening_of buf o)
  start = begun tm.layout buf len _ (sym g.opens)

  -- the part is the message's, and lies in it
  same : part_in tm.layout buf len ≡ M
  same = (sized tm.layout buf len M start.lies).0

  pub lies : Reaches buf o.part
  lies = reaches tm.layout buf len o.part (sym start.lies)

  -- what is gone over: the bytes up to the part's end
  abbrev gone : Result Walked
  gone = walk (whole (take o.part.end buf)) (o.part.start + 36) 1 o.count

  scanned : scan tm.layout buf len ≡ and_then gone (closed o.part.end)
  scanned =
      scan_opened tm.layout buf len ∙ ap (λ (x : Result Opened). and_then x (λ y. structures_of y.part y.count)) (sym g.opens)
      ∙ ap (λ (x : Result Walked). and_then x (closed o.part.end)) (walk_part buf o.part lies.there (o.part.start + 36) 1 o.count)

  pub trace_halt : (n k q : ℕ) → refused k q ≡ surveyed n gone → refused k q ≡ traced_by n tm buf len
  trace_halt n k q e = trace_unscanned tm buf len n g.sheeted k q (scanned ∙ rw (then_refused gone (tops_of n) k q (sym e)) refl)

  module _ (n : ℕ) (s : Tops) (e : accepted s ≡ surveyed n gone) where
    t : Told n gone s
    t = told n gone s e

    pub trace_left : (s.behind ≡ o.part.end → ⊥) → refused left_over s.behind ≡ traced_by n tm buf len
    unfolding closed
    trace_left d = trace_unscanned tm buf len n g.sheeted left_over s.behind (scanned ∙ rw (t.over, ne_eqb s.behind o.part.end d) refl)

    module _ (z : s.behind ≡ o.part.end) where
      tree : Walks M (o.part.start + 36) 1 o.count t.rows o.part.end
      tree = walks_as refl refl z (walks M (o.part.start + 36) 1 o.count t.rows s.behind (walk_part buf o.part lies.there (o.part.start + 36) 1 o.count ∙ t.over))

      whole_rows : scan tm.layout buf len ≡ accepted t.rows
      unfolding closed
      whole_rows = scanned ∙ ap (λ (x : Result Walked). and_then x (closed o.part.end)) t.over ∙ rw (eq-eqb s.behind o.part.end z) refl

      whole-read : read_trace tm buf len ≡ read_rows tm.sheet M t.rows
      unfolding read_trace
      whole-read =
          rw g.sheeted (ap (λ (x : Result (List Row)). and_then x (read_rows tm.sheet (part_in tm.layout buf len))) whole_rows ∙ ap (λ (x : Part). read_rows tm.sheet x t.rows) same)

      pub trace_whole : judged_in tm.sheet M s.routes s.activities.group ≡ traced_by n tm buf len
      trace_whole =
          ap (λ (x : Counted). judged_in tm.sheet M x s.activities.group) t.routes
          ∙ ap (λ (x : Counted). judged_in tm.sheet M (counted MQGACF_TRACE_ROUTE 0 t.rows) x.group) t.activities
          ∙ sym (rows_read M (o.part.start + 36) o.count t.rows tree tm.sheet n) ∙ ap (λ (x : Result Trace). and_then x (λ y. accepted (traced n M y))) (sym whole-read)
          ∙ ap (λ (x : Part). and_then (read_trace tm buf len) (λ y. accepted (traced n x y))) (sym same)

      -- the survey went over the members of the one TraceRoute group
      route_within : s.routes.count ≡ 1 → is_sound (walk (whole (take o.part.end buf)) s.routes.group.inside 2 s.routes.group.members) ≡ true
      unfolding counted
      route_within =
          subst (λ (x : Counted). x.count ≡ 1 → is_sound (walk (whole (take o.part.end buf)) x.group.inside 2 x.group.members) ≡ true) (sym t.routes)
          (λ i.
          let first : 0 < length (trace_routes t.rows) = omega arith in
          ap is_sound (sym (walk_part buf o.part lies.there _ 2 _) ∙ nth_walk M (o.part.start + 36) o.count t.rows tree MQGACF_TRACE_ROUTE 0 first))

      pub headed : Headed buf o s.routes
      headed = record {
        there = lies.there;
        least = lies.room;
        sound = start.sound;
        read = sym start.counts ∙ num_part buf o.part.end (o.part.start + 32) (omega (arith, lies.room));
        within = route_within;
      }

-- no attribute is read with the part's start
pub attributes_from : (sheet msg : List ℕ) (part : PartIn) (inside members : ℕ) (activity : Group) → part.end ≤ length msg
    → attributes_in sheet (whole (take part.end msg)) inside members activity part ≡ attributes_in sheet (part_at msg part) inside members activity part
unfolding attributes_by values_at value_at
attributes_from sheet msg part inside members activity h = rw (walk_part msg part h inside 2 members) refl

-- WHAT THE ANSWER TELLS of what Read gives
same_trace : {x : Result Trace} (t : Trace) (places values : List ℕ) → x ≡ accepted t → t.places ≡ places → t.values ≡ values
    → x ≡ accepted (record { rows = t.rows; places = places; values = values })
same_trace t places values e p v = rw (← p, ← v) e

module _ (n : ℕ) (tm : Terms) (buf : List ℕ) (len : ℕ) where
  pub traced_refused : (k p : ℕ) → refused k p ≡ traced_by n tm buf len → read_trace tm buf len ≡ refused k p
  traced_refused k p e = then_refused (read_trace tm buf len) (traced n (part_in tm.layout buf len)) k p (sym e)

  -- the rows of the trace that was found
  pub record Found (o : Traced) : Type 0 where
    pub rows : List Row
    pub read : read_trace tm buf len ≡ accepted (record { rows = rows; places = o.places; values = o.values })
    pub activity : o.activity ≡ (counted MQGACF_ACTIVITY n rows).group
    pub part : o.part ≡ lying (part_in tm.layout buf len)

  pub found : (o : Traced) → accepted o ≡ traced_by n tm buf len → Found o
  found o e =
      let m : Part = part_in tm.layout buf len in
      let f = then_accepted (read_trace tm buf len) (λ x. accepted (traced n m x)) o (sym e) in
      let g : traced n m f.0 ≡ o = cc f.2 in
      let p : f.0.places ≡ o.places = ap (λ (x : Traced). x.places) g in
      let v : f.0.values ≡ o.values = ap (λ (x : Traced). x.values) g in
      record {
        rows = f.0.rows;
        read = same_trace f.0 o.places o.values f.1 p v;
        activity = sym (ap (λ (x : Traced). x.activity) g);
        part = sym (ap (λ (x : Traced). x.part) g);
      }
