-- An event, by what was found out one after the other; and what may be written once it is decided.
use mathlib.Core.Path.{◌≡◌, refl, sym, ap, ◌∙◌}
use mathlib.Core.Bool.{Bool, true, false, cond}
use mathlib.Core.List.{List, []}
use Prim.Native.Nat.{ℕ, ◌+◌, ◌≤◌}
use native.Mathlib.Omega.{arith}
use lib.ListN.{length}
use Rattle.meaning.specs.Bytes.{Part as Meant, number, bytes4, splice, store}
use Rattle.meaning.specs.Answer.{accepted, refused}
use Rattle.meaning.specs.Structure.{Row}
use Rattle.meaning.specs.Layout.{Layout as MeantLayout, start_of, part_in, user_data}
use Rattle.meaning.specs.Trace.{Terms, Trace, value, value_place, read_trace}
use Rattle.meaning.specs.Event.{State, Event, discontinuity, activity, Answer, Done, done, denied, sound_event, group_of, Plan, plan_of, decide, grown_if, reported_if, part_held, user_held, applied, decided, performed, leaving, on_trace, event_on}
use Rattle.meaning.specs.Demand3.{is_done}
use Rattle.meaning.proofs.Parts.{num_part}
use Rattle.meaning.proofs.Sound.{Sound, sound}
use Rattle.meaning.proofs.Changed.{lies, count_le}
use Rattle.meaning.proofs.Applied.{group, value_at_holds}
use Rattle.meaning.proofs.Plans.{PlanOk, plan_ok, Allowed, allowed}
use Rattle.meaning.proofs.Accepted.{decide_done}
use Rattle.layout.specs.Layouts.{form_of, layout_of, part_at}
use Rattle.layout.specs.declared.part.Layout.{Layout}
use Rattle.layout.specs.declared.part.Part.{Part}
use Rattle.trace.specs.declared.location.Traced.{Traced}
use Rattle.verdict.specs.Plans.{settings_of}
use Rattle.verdict.specs.declared.plan.Settings.{Settings}
use Rattle.event.specs.Written.{written_in, Writable, Ready}

-- a sound group is short enough for a report
sound_most : (e : Event) → sound_event e ≡ true → length (group_of e) ≤ 65500
unfolding sound_event group_of
sound_most (discontinuity s) h = omega arith
sound_most (activity a s) h = (group a.group h).most

-- A REFUSAL leaves the state
pub event_refused : (tm : Terms) (st : State) (e : Event) (n p : ℕ) → read_trace tm st.buf st.len ≡ refused n p
    → event_on tm st e ≡ record { answer = denied n p false; next = st }
unfolding event_on
event_refused tm st e n p r = rw r refl

module _ (tm : Terms) (st : State) (e : Event) (t : Trace) (r : read_trace tm st.buf st.len ≡ accepted t) where
  pub event_unsound : sound_event e ≡ false → event_on tm st e ≡ record { answer = denied 9 0 false; next = st }
  unfolding event_on on_trace
  event_unsound u = rw (r, u) refl

  module _ (ok : sound_event e ≡ true) where
    -- WHAT IS DONE, with the counter's value as it was read
    module _ (x : Done) (d : decided st e t.values ≡ done x) where
      abbrev plan : Plan
      plan = plan_of t.values e

      s : Sound tm st.buf st.len t
      s = sound tm st.buf st.len t r

      a : Allowed t.values plan (length (group_of e)) st.len (length st.buf) (length st.report)
      a = allowed t.values e (length (group_of e)) st.len (length st.buf) (length st.report) s.message.range (ap is_done d)

      k : PlanOk plan e
      k = plan_ok t.values e

      pub written : performed tm.layout st e t ≡ record {
        buf = grown_if plan.appends tm.layout.form (part_held tm.layout st) (user_held tm.layout st)
            (store (part_held tm.layout st) st.buf (value_place (value t.places plan.counter)) (value t.values plan.counter + 1)) (group_of e);
        len = st.len + cond plan.appends (length (group_of e)) 0;
        report = reported_if plan.reports st.report (group_of e);
      }
      unfolding applied
      written = rw (value_at_holds tm st.buf st.len t s plan.counter k.lo k.hi a.below) refl

      pub writable : (l : Layout) (p : Part) → tm.layout ≡ layout_of l → part_held tm.layout st ≡ part_at st.buf p
          → Writable st.buf st.len l p (value_place (value t.places plan.counter)) (value t.values plan.counter) plan.appends (group_of e)
      writable l p same here =
          let P : Meant = part_held tm.layout st in
          let st0 : P.start ≡ p.start = ap (λ (x : Meant). x.start) here in
          let en0 : P.end ≡ p.end = ap (λ (x : Meant). x.end) here in
          let h = s.lies.least in
          let b = a.below in
          record {
            starts = sym st0 ∙ ap (λ (x : MeantLayout). start_of x.form) same;
            header = omega arith;
            within = omega (arith, s.lies.within);
            message = s.lies.there;
            most = s.lies.most;
            inside = omega (arith, (lies tm.sheet P t s.sheet_ok_holds s.message plan.counter (omega (arith, k.hi))).inside);
            value_fits = omega arith;
            count_fits = omega (
              arith,
              count_le tm.sheet P t s.sheet_ok_holds s.message,
              s.lies.within,
              s.lies.most,
              num_part st.buf P.end (P.start + 32) (omega arith),
              ap (λ (x : ℕ). number st.buf (x + 32)) st0,
            );
            group_most = sound_most e ok;
            group_fits = λ q. (a.fits q).0;
          }

      pub reportable : plan.reports ≡ true → 36 + length (group_of e) ≤ length st.report
      reportable = a.reportable

-- what is denied leaves the state
pub left_denied : (st st' : State) (a : Answer) (n p : ℕ) (o : Bool) → a ≡ denied n p o → record { answer = denied n p o; next = st } ≡ leaving st st' a
left_denied st st' a n p o e = rw e refl

-- AN EVENT THAT IS READY, by its plan and group
module _ (buf : List ℕ) (len : ℕ) (l : Layout) (t : Traced) (plan : Plan) (g report : List ℕ)
    (ready : Ready buf len l t plan g report) where
  abbrev st : State
  st = record { buf = buf; len = len; report = report }

  abbrev tm : Terms
  tm = record { sheet = ready.sheet; layout = layout_of l }

  abbrev trace : Trace
  trace = record { rows = ready.rows; places = t.places; values = t.values }

  in_order : Sound tm buf len trace
  in_order = sound tm buf len trace ready.read

  pub group_most : length g ≤ 65500
  group_most = rw ready.lent at (sound_most ready.happened ready.sound_group)

  pub length_most : len ≤ 65536
  length_most = in_order.lies.most

  -- where the counter's Value lies
  pub place_most : (c : ℕ) → c ≤ 3 → value t.places c + 16 ≤ 65536
  place_most c h =
      omega (arith, in_order.lies.most, in_order.lies.within, (lies ready.sheet (part_in (layout_of l) buf len) trace in_order.sheet_ok_holds in_order.message c (omega arith)).inside)

  module _ (x : Done) (d : decide t.values plan (length g) len (length buf) (length report) ≡ done x) where
    as_decided : decided st ready.happened t.values ≡ done x
    as_decided =
        ap (λ (q : Plan). decide t.values q (length (group_of ready.happened)) len (length buf) (length report)) ready.due
        ∙ ap (λ (y : List ℕ). decide t.values plan (length y) len (length buf) (length report)) ready.lent ∙ d

    pub ready_writable : Writable buf len l t.part (value_place (value t.places plan.counter)) (value t.values plan.counter) plan.appends g
    ready_writable = rw (ready.due, ready.lent) at (writable tm st ready.happened trace ready.read ready.sound_group x as_decided l t.part refl ready.lies)

    pub ready_reportable : plan.reports ≡ true → 36 + length g ≤ length report
    ready_reportable = rw (ready.due, ready.lent) at (reportable tm st ready.happened trace ready.read ready.sound_group x as_decided)

    pub ready_written : (buf' report' : List ℕ)
        → buf' ≡ written_in buf len l t.part (value_place (value t.places plan.counter)) (value t.values plan.counter) plan.appends g
        → report' ≡ reported_if plan.reports report g
        → record { answer = done x; next = record { buf = buf'; len = x.message_length; report = report' } }
        ≡ leaving st (applied (layout_of l) st g t.places plan) (decide t.values plan (length g) len (length buf) (length report))
    ready_written buf' report' b h =
        let w = rw (ready.due, ready.lent) at (written tm st ready.happened trace ready.read ready.sound_group x as_decided) in
        let left : Meant → State = λ P. record {
          buf = grown_if plan.appends (form_of l.form) P (user_data P buf len) (store P buf (value_place (value t.places plan.counter)) (value t.values plan.counter + 1)) g;
          len = len + cond plan.appends (length g) 0;
          report = reported_if plan.reports report g;
        } in
        let w' : applied (layout_of l) st g t.places plan ≡ left (part_at buf t.part) = w ∙ ap left ready.lies in
        let m : len + cond plan.appends (length g) 0 ≡ x.message_length = ap (λ (y : Done). y.message_length) (decide_done t.values plan (length g) len (length buf) (length report) x d) in
        rw (d, w', b, h, m) refl

-- A discontinuity is counted in a trace that was read.
pub record Countable (buf : List ℕ) (len : ℕ) (s : Settings) (t : Traced) : Type 0 where
  pub sheet : List ℕ
  pub rows : List Row
  pub read : read_trace (record { sheet = sheet; layout = layout_of s.layout }) buf len ≡ accepted (record { rows = rows; places = t.places; values = t.values })
  pub lies : part_in (layout_of s.layout) buf len ≡ part_at buf t.part

-- A DISCONTINUITY THAT IS COUNTED: it is ready with no group, whatever the report buffer
module _ (buf : List ℕ) (len : ℕ) (s : Settings) (t : Traced) (c : Countable buf len s t) where
  abbrev happened : Event
  happened = discontinuity (settings_of s)

  abbrev counting : Plan
  counting = plan_of t.values happened

  as_ready : (report : List ℕ) → Ready buf len s.layout t counting [] report
  unfolding sound_event group_of
  as_ready report = record { sheet = c.sheet; rows = c.rows; happened = happened; read = c.read; lies = c.lies; sound_group = refl; due = refl; lent = refl }

  -- the report buffer plays no part
  any_report : (m n : ℕ) → decide t.values counting 0 len (length buf) m ≡ decide t.values counting 0 len (length buf) n
  unfolding decide plan_of
  any_report m n = refl

  pub count_length : len ≤ 65536
  count_length = length_most buf len s.layout t counting [] [] (as_ready [])

  pub count_place_holds : value t.places 3 + 16 ≤ 65536
  count_place_holds = place_most buf len s.layout t counting [] [] (as_ready []) 3 (omega arith)

  -- the plan p is that of a discontinuity, and what was decided by it is a
  module _ (p : Plan) (same : p ≡ counting) where
    as_planned : (a : Answer) → a ≡ decide t.values p 0 len (length buf) 0 → (report : List ℕ) → decide t.values counting 0 len (length buf) (length report) ≡ a
    as_planned a d report = any_report (length report) 0 ∙ ap (λ (q : Plan). decide t.values q 0 len (length buf) 0) (sym same) ∙ sym d

    pub count_denied : (n q : ℕ) (o : Bool) → denied n q o ≡ decide t.values p 0 len (length buf) 0 → (report : List ℕ)
        → record { answer = denied n q o; next = record { buf = buf; len = len; report = report } }
        ≡ leaving (record { buf = buf; len = len; report = report }) (applied (layout_of s.layout) (record { buf = buf; len = len; report = report }) [] t.places counting)
        (decide t.values counting 0 len (length buf) (length report))
    count_denied n q o d report = left_denied _ _ _ n q o (as_planned (denied n q o) d report)

    module _ (x : Done) (d : done x ≡ decide t.values p 0 len (length buf) 0) where
      pub count_writable : Writable buf len s.layout t.part (value_place (value t.places 3)) (value t.values 3) false []
      unfolding plan_of
      count_writable = ready_writable buf len s.layout t counting [] [] (as_ready []) x (as_planned (done x) d [])

      pub count_written : (buf' : List ℕ) → buf' ≡ splice buf (value_place (value t.places 3)) (bytes4 (value t.values 3 + 1)) → (report : List ℕ)
          → record { answer = done x; next = record { buf = buf'; len = x.message_length; report = report } }
          ≡ leaving (record { buf = buf; len = len; report = report }) (applied (layout_of s.layout) (record { buf = buf; len = len; report = report }) [] t.places counting)
          (decide t.values counting 0 len (length buf) (length report))
      unfolding plan_of store
      count_written buf' b report = ready_written buf len s.layout t counting [] report (as_ready report) x (as_planned (done x) d report) buf' report b refl
