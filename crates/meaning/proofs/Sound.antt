-- What Read accepts, as a record of facts, and back.
use mathlib.Core.Path.{◌≡◌, refl, ap, ◌∙◌, subst}
use mathlib.Core.Bool.{true, ◌&&◌}
use mathlib.Core.List.{List}
use Prim.Native.Nat.{ℕ}
use native.Mathlib.Omega.{arith}
use lib.ListN.{length}
use lib.Dec.{eqb}
use borrow.Author.Tests.{eqb-true, eq-eqb}
use Rattle.meaning.specs.Bytes.{Part}
use Rattle.meaning.specs.Answer.{accepted}
use Rattle.meaning.specs.Structure.{Row}
use Rattle.meaning.specs.Walk.{walk}
use Rattle.meaning.specs.Layout.{Layout, part_in, located}
use Rattle.meaning.specs.Message.{parameter_count, first_place, header_ok, closed, rows_of, scan}
use Rattle.meaning.specs.Trace.{Terms, Trace, sheet_ok, trace_header, trace_routes, direct_members, each_once, places_of, values_at, in_range, read_members, read_rows, read_trace}
use Rattle.meaning.proofs.Tests.{and_true, unless_accepted, then_accepted}
use Rattle.meaning.proofs.Layouts.{Sized, sized, located_of_lem}
use Rattle.meaning.proofs.Walks.{Walks, walks, walks_as, walk_of}

-- A SOUND MESSAGE, as check sees it
pub record SoundRows (m : Part) (rows : List Row) : Type 0 where
  pub header : header_ok m ≡ true
  pub tree : Walks m (first_place m) 1 (parameter_count m) rows m.end

pub sound_rows : (m : Part) (rows : List Row) → rows_of m ≡ accepted rows → SoundRows m rows
unfolding rows_of closed
sound_rows m rows e =
    let f = unless_accepted (header_ok m) 2 0 _ rows e in
    let g = then_accepted (walk m (first_place m) 1 (parameter_count m)) (closed m.end) rows f.1 in
    let h = unless_accepted (eqb g.0.next m.end) 5 _ _ rows g.2 in
    let r : g.0.rows ≡ rows = cc h.1 in
    let w = walks m (first_place m) 1 (parameter_count m) g.0.rows g.0.next g.1 in
    record {
      header = f.0;
      tree = subst (λ (x : List Row). Walks m (first_place m) 1 (parameter_count m) x m.end) r (walks_as refl refl (eqb-true g.0.next m.end h.0) w);
    }

pub rows_of_lem : (m : Part) (rows : List Row) → SoundRows m rows → rows_of m ≡ accepted rows
unfolding rows_of closed
rows_of_lem m rows s = rw (s.header, walk_of s.tree (omega arith), eq-eqb m.end m.end refl) refl

pub sound_scan : (l : Layout) (buf : List ℕ) (len : ℕ) (rows : List Row) → scan l buf len ≡ accepted rows
    → Sized l buf len × SoundRows (part_in l buf len) rows
unfolding scan
sound_scan l buf len rows e =
    let f = then_accepted (located l buf len) rows_of rows e in
    let g = sized l buf len f.0 f.1 in
    (g.1, sound_rows (part_in l buf len) rows (ap rows_of g.0 ∙ f.2))

pub scan_of : (l : Layout) (buf : List ℕ) (len : ℕ) (rows : List Row) → Sized l buf len → SoundRows (part_in l buf len) rows
    → scan l buf len ≡ accepted rows
unfolding scan
scan_of l buf len rows b s = rw (located_of_lem l buf len b) (rows_of_lem (part_in l buf len) rows s)

-- A SOUND TRACE
pub record SoundMessage (sheet : List ℕ) (m : Part) (t : Trace) : Type 0 where
  pub structures : SoundRows m t.rows
  pub trace_header_holds : trace_header m ≡ true
  pub one : length (trace_routes t.rows) ≡ 1
  pub once : each_once sheet (direct_members (trace_routes t.rows)) ≡ true
  pub places : places_of sheet (direct_members (trace_routes t.rows)) ≡ t.places
  pub range : in_range t.values ≡ true
  pub values : values_at m t.places ≡ t.values

pub record Sound (tm : Terms) (buf : List ℕ) (len : ℕ) (t : Trace) : Type 0 where
  pub sheet_ok_holds : sheet_ok tm.sheet ≡ true
  pub lies : Sized tm.layout buf len
  pub message : SoundMessage tm.sheet (part_in tm.layout buf len) t

sound_rows_read : (sheet : List ℕ) (m : Part) (rows : List Row) (t : Trace) → SoundRows m rows → read_rows sheet m rows ≡ accepted t → SoundMessage sheet m t
unfolding read_rows read_members
sound_rows_read sheet m rows t s e =
    let f = unless_accepted (trace_header m) 6 0 _ t e in
    let g = unless_accepted (eqb (length (trace_routes rows)) 1) 7 0 _ t f.1 in
    let ds : List Row = direct_members (trace_routes rows) in
    let h = unless_accepted (each_once sheet ds && in_range (values_at m (places_of sheet ds))) 8 0 _ t g.1 in
    let k = and_true (each_once sheet ds) (in_range (values_at m (places_of sheet ds))) h.0 in
    let eq : ◌≡◌ {A = Trace} (record { rows = rows; places = places_of sheet ds; values = values_at m (places_of sheet ds) }) t = cc h.1 in
    subst (SoundMessage sheet m) eq (record {
      structures = s;
      trace_header_holds = f.0;
      one = eqb-true _ 1 g.0;
      once = k.0;
      places = refl;
      range = k.1;
      values = refl;
    })

read_rows_lem : (sheet : List ℕ) (m : Part) (t : Trace) → SoundMessage sheet m t → read_rows sheet m t.rows ≡ accepted t
unfolding read_rows read_members
read_rows_lem sheet m t s =
    rw (s.trace_header_holds, eq-eqb (length (trace_routes t.rows)) 1 s.one, s.once, s.places, s.values, s.range) refl

pub sound : (tm : Terms) (buf : List ℕ) (len : ℕ) (t : Trace) → read_trace tm buf len ≡ accepted t → Sound tm buf len t
unfolding read_trace
sound tm buf len t e =
    let f = unless_accepted (sheet_ok tm.sheet) 17 0 _ t e in
    let g = then_accepted (scan tm.layout buf len) (read_rows tm.sheet (part_in tm.layout buf len)) t f.1 in
    let h = sound_scan tm.layout buf len g.0 g.1 in
    record { sheet_ok_holds = f.0; lies = h.0; message = sound_rows_read tm.sheet (part_in tm.layout buf len) g.0 t h.1 g.2 }

pub read_of : (tm : Terms) (buf : List ℕ) (len : ℕ) (t : Trace) → Sound tm buf len t → read_trace tm buf len ≡ accepted t
unfolding read_trace
read_of tm buf len t s =
    rw (s.sheet_ok_holds, scan_of tm.layout buf len t.rows s.lies s.message.structures)
    (read_rows_lem tm.sheet (part_in tm.layout buf len) t s.message)
