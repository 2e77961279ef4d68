-- A sound message of which one attribute's Value and the header's ParameterCount are rewritten, and behind which a group
-- may be appended, is sound.
use mathlib.Core.Path.{◌≡◌, refl, sym, ap, ◌∙◌, subst}
use mathlib.Core.Bool.{Bool, true, false, ◌&&◌}
use mathlib.Core.List.{List, [], ◌∷◌, ◌++◌}
use Prim.Native.Nat.{ℕ, ◌+◌, ◌*◌, ◌≤◌, ◌<◌}
use native.Mathlib.Omega.{arith}
use lib.ListN.{length, get_or, length-map}
use lib.Dec.{leb, eqb}
use borrow.Author.Tests.{lt-ltb, leb-true, le-leb, eqb-true, eqb-false, eq-eqb}
use Rattle.meaning.specs.Bytes.{Part, num}
use Rattle.meaning.specs.Names.{MQCFH_STRUC_LENGTH, MQCFH_VERSION_3, MQCFT_GROUP, MQGACF_TRACE_ROUTE, MQGACF_ACTIVITY, most_bytes, two_to31}
use Rattle.meaning.specs.Structure.{Row, small}
use Rattle.meaning.specs.Message.{field, parameter_count, count_place, first_place, header_ok}
use Rattle.meaning.specs.Trace.{Trace, is_top, is_group, trace_routes, activities, direct_members, named, place_of_first, places_of, trace_fields, trace_header, value, value_place, value_at, values_at, detail_ok, accumulate_ok, forward_ok, deliver_ok, in_range, identifiers_ok, sheet_ok}
use Rattle.meaning.proofs.Tests.{and_true, true_and, and_false}
use Rattle.meaning.proofs.Structures.{num_same}
use Rattle.meaning.proofs.Walks.{Walks, walks_as, walks_le, walks_append, Tiles, tiles, tiles_row, Single, single, tiles_from}
use Rattle.meaning.proofs.Kept.{Clear, own, below, above, tiles_clear, kept}
use Rattle.meaning.proofs.Attributes.{Attribute, attribute, once_at, get_d_map, identifiers_at, groups_more, groups_same}
use Rattle.meaning.proofs.Sound.{SoundMessage}

-- the bytes of m that m' may have otherwise: those of ParameterCount, and of the Value of the structure at q
pub record Changed (m m' : Part) (q : ℕ) : Type 0 where
  pub same_start : m'.start ≡ m.start
  pub grows : m.end ≤ m'.end
  pub bytes : (i : ℕ) → m.start ≤ i → i < m.end → ((q + 12 ≤ i) × (i < q + 16) → ⊥) → ((count_place m ≤ i) × (i < m.start + 36) → ⊥)
      → get_or m.bytes i 0 ≡ get_or m'.bytes i 0

module _ (sheet : List ℕ) (m : Part) (t : Trace) (ok : sheet_ok sheet ≡ true) (s : SoundMessage sheet m t) where
  abbrev rows : List Row
  rows = t.rows

  abbrev members : List Row
  members = direct_members (trace_routes t.rows)

  tiled : Tiles m (first_place m) t.rows m.end
  tiled = tiles s.structures.tree

  pub length_sheet : length sheet ≡ 8
  unfolding sheet_ok
  length_sheet = eqb-true (length sheet) 8 (and_true (eqb (length sheet) 8) (identifiers_ok sheet) ok).0

  pub length_places : length t.places ≡ 8
  unfolding places_of
  length_places = ap length (sym s.places) ∙ length-map sheet (λ id. place_of_first (named id members)) ∙ length_sheet

  pub length_values : length t.values ≡ 8
  unfolding values_at
  length_values = ap length (sym s.values) ∙ length-map t.places (value_at m) ∙ length_places

  place_of : (j : ℕ) → j < 8 → place_of_first (named (value sheet j) members) ≡ value t.places j
  unfolding places_of
  place_of j h =
      sym (get_d_map (λ id. place_of_first (named id members)) sheet j (omega (arith, length_sheet))) ∙ ap (λ (l : List ℕ). value l j) s.places

  pub attr : (j : ℕ) → j < 8 → Attribute t.rows (value sheet j) (value t.places j)
  attr j h =
      subst (Attribute t.rows (value sheet j)) (place_of j h)
      (attribute MQGACF_TRACE_ROUTE t.rows (value sheet j) (once_at sheet members s.once j (omega (arith, length_sheet))))

  -- where an attribute lies
  pub record Lies (j : ℕ) : Type 0 where
    pub behind : m.start + 36 ≤ value t.places j
    pub inside : value t.places j + 16 ≤ m.end

  pub lies : (j : ℕ) → j < 8 → Lies j
  lies j h =
      let a = attr j h in
      let l = tiles_from m (first_place m) t.rows m.end tiled a.row a.among in
      let r = tiles_row m (first_place m) t.rows m.end tiled a.row a.among in
      record { behind = omega (arith, a.there_at); inside = omega (arith, a.there_at, r.at_least, r.at_fits) }

  -- two attributes lie apart
  pub apart : {G : Type 0} (j c : ℕ) → j < 8 → c < 8 → (j ≡ c → ⊥) → (value t.places j + 16 ≤ value t.places c → G)
      → (value t.places c + 16 ≤ value t.places j → G) → G
  unfolding sheet_ok
  apart {G} j c h k d f g =
      let a = attr j h in
      let b = attr c k in
      let ra = tiles_row m (first_place m) t.rows m.end tiled a.row a.among in
      let rb = tiles_row m (first_place m) t.rows m.end tiled b.row b.among in
      let go : Clear b.row.place a.row → G = elim [
        | own e i ↦
            let same : value sheet j ≡ value sheet c = sym a.known ∙ sym ra.at_parameter ∙ ap (λ (x : ℕ). num m (x + 8)) e ∙ rb.at_parameter ∙ b.known in
            absurd (d (identifiers_at sheet (and_true (eqb (length sheet) 8) (identifiers_ok sheet) ok).1 j c (omega (arith, length_sheet)) (omega (arith, length_sheet)) same))
        | below e ↦ f (omega (arith, a.there_at, b.there_at, ra.at_least))
        | above e ↦ g (omega (arith, a.there_at, b.there_at))
      ] in
      go (tiles_clear m (first_place m) t.rows m.end tiled b.row b.among b.int a.row a.among)

  module _ (m' : Part) (c : ℕ) (hc : c < 8) (ch : Changed m m' (value t.places c)) where
    -- the other attributes' values stay
    pub value_kept : (j : ℕ) → j < 8 → (j ≡ c → ⊥) → value_at m (value t.places j) ≡ value_at m' (value t.places j)
    unfolding value_at
    value_kept j h d =
        let l = lies j h in
        apart j c h hc d
        (λ e. num_same m m' (value_place (value t.places j)) (λ i a b. ch.bytes i (omega arith) (omega arith) (λ x. omega (arith, x.0)) (λ x. omega (arith, x.1))))
        (λ e. num_same m m' (value_place (value t.places j)) (λ i a b. ch.bytes i (omega arith) (omega arith) (λ x. omega (arith, x.1)) (λ x. omega (arith, x.1))))

    -- so do the header's words in front of ParameterCount
    pub field_kept : (k : ℕ) → k + 4 ≤ 32 → field m k ≡ field m' k
    field_kept k h =
        let l = lies c hc in
        num_same m m' (m.start + k) (λ i a b. ch.bytes i (omega arith) (omega arith) (λ x. omega (arith, x.0)) (λ x. omega (arith, x.0)))
        ∙ ap (λ (x : ℕ). num m' (x + k)) (sym ch.same_start)

    -- and the walk over the structures
    pub tree_kept : Walks m' (first_place m') 1 (parameter_count m) t.rows m.end
    tree_kept =
        let a = attr c hc in
        walks_as (ap (λ (x : ℕ). x + 36) (sym ch.same_start)) refl refl
        (kept m m' (first_place m) (value t.places c) (record { grows = ch.grows; bytes = λ i h k x. ch.bytes i (omega arith) k x (λ y. omega (arith, y.1)) })
        (omega arith) s.structures.tree a.row a.among a.int a.there_at)

    pub header_kept : small (parameter_count m') ≡ true → header_ok m' ≡ true
    unfolding header_ok
    header_kept h =
        let f = and_true (eqb (field m 4) MQCFH_STRUC_LENGTH) (leb 1 (field m 8) && (leb (field m 8) MQCFH_VERSION_3 && small (field m 32))) s.structures.header in
        let g = and_true (leb 1 (field m 8)) (leb (field m 8) MQCFH_VERSION_3 && small (field m 32)) f.1 in
        let k = and_true (leb (field m 8) MQCFH_VERSION_3) (small (field m 32)) g.1 in
        rw (← field_kept 4 (omega arith), ← field_kept 8 (omega arith), f.0, g.0, k.0, h) refl

    fields_kept : trace_fields m ≡ trace_fields m'
    unfolding trace_fields
    fields_kept =
        rw (
          field_kept 0 (omega arith),
          field_kept 8 (omega arith),
          field_kept 12 (omega arith),
          field_kept 16 (omega arith),
          field_kept 20 (omega arith),
          field_kept 24 (omega arith),
          field_kept 28 (omega arith),
        ) refl

    pub trace_header_kept : 1 ≤ parameter_count m' → trace_header m' ≡ true
    unfolding trace_header
    trace_header_kept h =
        true_and (sym fields_kept ∙ (and_true (trace_fields m) (leb 1 (parameter_count m)) s.trace_header_holds).0) (le-leb 1 (parameter_count m') h)

-- the values' ranges, one by one
pub record InRange (v : List ℕ) : Type 0 where
  pub in0 : detail_ok (get_or v 0 0) ≡ true
  pub in1 : small (get_or v 1 0) ≡ true
  pub in2 : small (get_or v 2 0) ≡ true
  pub in3 : small (get_or v 3 0) ≡ true
  pub in4 : small (get_or v 4 0) ≡ true
  pub in5 : accumulate_ok (get_or v 5 0) ≡ true
  pub in6 : forward_ok (get_or v 6 0) ≡ true
  pub in7 : deliver_ok (get_or v 7 0) ≡ true

pub in_range_lem : (v : List ℕ) → in_range v ≡ true → InRange v
unfolding in_range
in_range_lem v e =
    let a = and_true (detail_ok (get_or v 0 0)) _ e in
    let b = and_true (small (get_or v 1 0)) _ a.1 in
    let c = and_true (small (get_or v 2 0)) _ b.1 in
    let d = and_true (small (get_or v 3 0)) _ c.1 in
    let f = and_true (small (get_or v 4 0)) _ d.1 in
    let g = and_true (accumulate_ok (get_or v 5 0)) _ f.1 in
    let h = and_true (forward_ok (get_or v 6 0)) _ g.1 in
    record { in0 = a.0; in1 = b.0; in2 = c.0; in3 = d.0; in4 = f.0; in5 = g.0; in6 = h.0; in7 = h.1 }

module _ (v v' : List ℕ) (c : ℕ) (lo : 1 ≤ c) (hi : c ≤ 3) (same : (j : ℕ) → j < 8 → (j ≡ c → ⊥) → get_or v j 0 ≡ get_or v' j 0)
    (risen : small (get_or v' c 0) ≡ true) where
  other : (f : ℕ → Bool) (j : ℕ) → j < 8 → (j ≡ c → ⊥) → f (get_or v j 0) ≡ true → f (get_or v' j 0) ≡ true
  other f j h d e = rw (← same j h d) e

  counter : (j : ℕ) → j < 8 → small (get_or v j 0) ≡ true → small (get_or v' j 0) ≡ true
  counter j h e = go (eqb j c) refl
    where
      go : (b : Bool) → eqb j c ≡ b → small (get_or v' j 0) ≡ true
      go true q = rw (eqb-true j c q) risen
      go false q = other small j h (eqb-false j c q) e

  -- a counter that stays small keeps the ranges
  pub range_kept : in_range v ≡ true → in_range v' ≡ true
  unfolding in_range
  range_kept e =
      let r = in_range_lem v e in
      rw (
        other detail_ok 0 (omega arith) (λ q. omega arith) r.in0,
        counter 1 (omega arith) r.in1,
        counter 2 (omega arith) r.in2,
        counter 3 (omega arith) r.in3,
        counter 4 (omega arith) r.in4,
        other accumulate_ok 5 (omega arith) (λ q. omega arith) r.in5,
        other forward_ok 6 (omega arith) (λ q. omega arith) r.in6,
        other deliver_ok 7 (omega arith) (λ q. omega arith) r.in7,
      ) refl

-- an Activity group is no TraceRoute group
is_activity : (x : Row) (xs : List Row) → x.kind ≡ MQCFT_GROUP → x.parameter ≡ MQGACF_ACTIVITY → is_group MQGACF_ACTIVITY (record { row = x; inside = xs }) ≡ true
is_activity x xs k e = rw (k, e) refl

not_trace : (x : Row) (xs : List Row) → x.parameter ≡ MQGACF_ACTIVITY → is_group MQGACF_TRACE_ROUTE (record { row = x; inside = xs }) ≡ false
not_trace x xs e = rw e (and_false (eqb x.kind MQCFT_GROUP))

-- a walk over one Activity group: its row, and the deeper rows in it
pub record OneActivity (m : Part) (p : ℕ) (rows : List Row) : Type 0 where
  pub walk : Walks m p 1 1 rows m.end
  pub kind : num m p ≡ MQCFT_GROUP
  pub parameter : num m (p + 8) ≡ MQGACF_ACTIVITY

module _ (m : Part) (p : ℕ) (rows : List Row) (a : OneActivity m p rows) where
  pub parts : Single m p 1 rows
  parts = single a.walk refl

  abbrev first : Row
  first = parts.first

  -- it is top-level, an Activity group and no TraceRoute group
  pub last_top : is_top first ≡ true
  last_top = eq-eqb first.depth 1 (sym parts.at.at_depth)

  last_activity : is_group MQGACF_ACTIVITY (record { row = first; inside = parts.others }) ≡ true
  last_activity = is_activity first parts.others (sym parts.at.at_kind ∙ a.kind) (sym parts.at.at_parameter ∙ a.parameter)

  last_not_trace : is_group MQGACF_TRACE_ROUTE (record { row = first; inside = parts.others }) ≡ false
  last_not_trace = not_trace first parts.others (sym parts.at.at_parameter ∙ a.parameter)

  -- behind other rows it leaves the TraceRoute groups, and is the last of the Activity groups
  pub traces_same : (before : List Row) → trace_routes (before ++ rows) ≡ trace_routes before
  traces_same before =
      ap (λ (l : List Row). trace_routes (before ++ l)) parts.split
      ∙ groups_same MQGACF_TRACE_ROUTE before first parts.others last_top parts.deeper last_not_trace

  pub activities_more : (before : List Row) → activities (before ++ rows) ≡ activities before ++ (record { row = first; inside = parts.others } ∷ [])
  activities_more before =
      ap (λ (l : List Row). activities (before ++ l)) parts.split
      ∙ groups_more MQGACF_ACTIVITY before first parts.others last_top parts.deeper last_activity

module _ (sheet : List ℕ) (m : Part) (t : Trace) (ok : sheet_ok sheet ≡ true) (s : SoundMessage sheet m t) where
  pub value_of : (m' : Part) (j : ℕ) → j < 8 → value (values_at m' t.places) j ≡ value_at m' (value t.places j)
  unfolding values_at
  value_of m' j h = get_d_map (value_at m') t.places j (omega (arith, length_places sheet m t ok s))

  -- ParameterCount is at most the number of bytes
  pub count_le : parameter_count m * 16 + 36 ≤ m.end
  count_le = omega (arith, walks_le s.structures.tree)

  count_ge : 1 ≤ parameter_count m
  unfolding trace_header
  count_ge = leb-true 1 (parameter_count m) (and_true (trace_fields m) (leb 1 (parameter_count m)) s.trace_header_holds).1

  module _ (m' : Part) (c : ℕ) (lo : 1 ≤ c) (hi : c ≤ 3) (ch : Changed m m' (value t.places c)) (risen : small (value_at m' (value t.places c)) ≡ true)
      (most : m'.end ≤ most_bytes) where
    hc : c < 8
    hc = omega arith

    pub values_kept : (j : ℕ) → j < 8 → (j ≡ c → ⊥) → value t.values j ≡ value (values_at m' t.places) j
    values_kept j h d =
        ap (λ (l : List ℕ). value l j) (sym s.values) ∙ value_of m j h ∙ value_kept sheet m t ok s m' c hc ch j h d ∙ sym (value_of m' j h)

    range' : in_range (values_at m' t.places) ≡ true
    range' = range_kept t.values (values_at m' t.places) c lo hi values_kept (rw (value_of m' c hc) risen) s.range

    -- only the Value is rewritten
    pub sound_raised : m'.end ≡ m.end → parameter_count m' ≡ parameter_count m
        → SoundMessage sheet m' (record { rows = t.rows; places = t.places; values = values_at m' t.places })
    sound_raised e n =
        let l = count_le in
        record {
          structures = record {
            header = header_kept sheet m t ok s m' c hc ch (lt-ltb (parameter_count m') two_to31 (omega arith));
            tree = walks_as refl (sym n) (sym e) (tree_kept sheet m t ok s m' c hc ch);
          };
          trace_header_holds = trace_header_kept sheet m t ok s m' c hc ch (omega (arith, count_ge));
          one = s.one;
          once = s.once;
          places = s.places;
          range = range';
          values = refl;
        }

    -- and an Activity group stands behind
    pub sound_appended : (extra : List Row) → OneActivity m' m.end extra → parameter_count m' ≡ parameter_count m + 1
        → SoundMessage sheet m' (record { rows = t.rows ++ extra; places = t.places; values = values_at m' t.places })
    sound_appended extra a n =
        let l = count_le in
        let g = walks_le a.walk in
        let w = walks_append 1 extra m'.end (tree_kept sheet m t ok s m' c hc ch) a.walk in
        let same = traces_same m' m.end extra a t.rows in
        record {
          structures = record {
            header = header_kept sheet m t ok s m' c hc ch (lt-ltb (parameter_count m') two_to31 (omega arith));
            tree = rw n w;
          };
          trace_header_holds = trace_header_kept sheet m t ok s m' c hc ch (omega arith);
          one = rw same s.one;
          once = rw same s.once;
          places = rw same s.places;
          range = range';
          values = refl;
        }
