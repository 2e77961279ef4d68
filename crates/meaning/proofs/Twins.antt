-- Two sound traces alike but for MaxActivities, and one event on both.
use mathlib.Core.Path.{◌≡◌, refl, sym, ap, ◌∙◌}
use mathlib.Core.Bool.{Bool, true, false, cond, ◌||◌}
use mathlib.Core.List.{List, ◌++◌}
use Prim.Native.Nat.{ℕ, ◌+◌, ◌≤◌, ◌<◌}
use native.Mathlib.Omega.{arith}
use lib.ListN.{length, get_or, take, length-drop}
use lib.Seq.{length-take-le, get_or-take, get_or-drop, ext_get_or}
use lib.Dec.{ltb, eqb}
use borrow.Author.Tests.{ltb-true, ltb-false, le-ltb, eqb-true}
use Rattle.meaning.proofs.Stores.{length_store, store_as, store_both}
use Rattle.meaning.specs.Bytes.{Part, part_of, store, bump}
use Rattle.meaning.specs.Layout.{Form, start_of, end_of, lengthened}
use Rattle.meaning.specs.Names.{MaxActivities}
use Rattle.meaning.specs.Answer.{accepted, unless}
use Rattle.meaning.specs.Structure.{Row}
use Rattle.meaning.specs.Message.{parameter_count, count_place}
use Rattle.meaning.specs.Trace.{Terms, Trace, trace_routes, direct_members, places_of, value, value_place, value_at, values_at, read_trace}
use Rattle.meaning.specs.Event.{State, Event, discontinuity, activity, Answer, done, denied, Outcome, sound_event, group_of, Plan, reported, accumulated, plan_of, counter_sum, over_limit, decide, grown, grown_if, reported_if, part_held, user_held, applied, decided, performed, leaving, on_trace, event_on}
use Rattle.meaning.specs.Demand3.{is_done, is_limit, larger, Alike}
use Rattle.meaning.proofs.Tests.{and_true, and_false}
use Rattle.meaning.proofs.Structures.{num_same}
use Rattle.meaning.proofs.Walks.{walks_one, walks_as}
use Rattle.meaning.proofs.Splices.{length_splice, splice_both}
use Rattle.meaning.proofs.Layouts.{behind_part, same_end, length_lengthened, lengthened_both, lengthened_as}
use Rattle.meaning.proofs.Sound.{Sound, sound}
use Rattle.meaning.proofs.Changed.{Changed, Lies, lies, value_kept, value_of, tree_kept}
use Rattle.meaning.proofs.Plans.{plan_ok, allowed, decide_limit, leaving_answer}

-- the first of the limit's four bytes
abbrev pub limit_at : Trace → ℕ
limit_at t = value_place (value t.places MaxActivities)

-- THE PARTS of two states alike, the first a sound trace, lie alike
module _ (tm : Terms) (x y : State) (t : Trace) (s : Sound tm x.buf x.len t) (a : Alike (limit_at t) x y) where
  abbrev P : Part
  P = part_held tm.layout x

  abbrev Q : Part
  Q = part_held tm.layout y

  at_limit : Lies tm.sheet P t s.sheet_ok_holds s.message 4
  at_limit = lies tm.sheet P t s.sheet_ok_holds s.message 4 (omega arith)

  pub ends_alike : P.end ≡ Q.end
  ends_alike =
      let z = at_limit.behind in
      let n : start_of tm.layout.form ≤ x.len = omega (arith, s.lies.least, s.lies.within) in
      sym (same_end tm.layout.form x.buf y.buf x.len n (λ i h k. a.same_bytes i (omega arith) (λ b. omega (arith, b.0))))
      ∙ ap (λ (k : ℕ). end_of tm.layout.form (part_of y.buf k)) a.same_len

  bytes_alike : (i : ℕ) → i < P.end → ((limit_at t ≤ i) × (i < limit_at t + 4) → ⊥) → get_or P.bytes i 0 ≡ get_or Q.bytes i 0
  bytes_alike i h z =
      get_or-take P.end x.buf i 0 h ∙ a.same_bytes i (omega (arith, s.lies.within)) z ∙ sym (get_or-take Q.end y.buf i 0 (omega (arith, ends_alike)))

  -- behind the part, where no attribute is, they are the same
  pub user_alike : user_held tm.layout x ≡ user_held tm.layout y
  user_alike =
      let l = at_limit.inside in
      let e = ends_alike in
      let n = a.same_len in
      let k = s.lies.there in
      let r = a.same_room in
      let nx : length (take x.len x.buf) ≡ x.len = length-take-le x.len x.buf k in
      let ny : length (take y.len y.buf) ≡ y.len = length-take-le y.len y.buf (omega arith) in
      ext_get_or 0 (user_held tm.layout x) (user_held tm.layout y)
      (length-drop P.end (take x.len x.buf) ∙ omega arith ∙ sym (length-drop Q.end (take y.len y.buf))) (λ i h.
      let h' : P.end + i < x.len = omega (arith, length-drop P.end (take x.len x.buf)) in
      get_or-drop P.end (take x.len x.buf) i 0 ∙ get_or-take x.len x.buf (P.end + i) 0 h'
      ∙ a.same_bytes (P.end + i) h' (λ b. omega (arith, b.1)) ∙ ap (λ (j : ℕ). get_or y.buf (j + i) 0) e
      ∙ sym (get_or-take y.len y.buf (Q.end + i) 0 (omega arith)) ∙ sym (get_or-drop Q.end (take y.len y.buf) i 0))

  pub count_alike : parameter_count P ≡ parameter_count Q
  count_alike =
      let z = at_limit.behind in
      let k = s.lies.least in
      num_same P Q (count_place P) (λ i v w. bytes_alike i (omega arith) (λ b. omega (arith, b.0)))

  pub changed : Changed P Q (value t.places MaxActivities)
  changed =
      let e = ends_alike in
      record {
        same_start = refl;
        grows = omega arith;
        bytes = λ i z₀ h v w. bytes_alike i (omega arith) (λ z. v (z.0, omega (arith, z.1)));
      }

-- BOTH ARE SOUND: the attributes stand at the same places
module _ (tm : Terms) (x y : State) (t u : Trace) (s : Sound tm x.buf x.len t) (s' : Sound tm y.buf y.len u) (a : Alike (limit_at t) x y) where
  rows_same : t.rows ≡ u.rows
  rows_same =
      let w = tree_kept tm.sheet (part_held tm.layout x) t s.sheet_ok_holds s.message (part_held tm.layout y) 4 (omega arith) (changed tm x y t s a) in
      let e = ends_alike tm x y t s a in
      walks_one (walks_as refl (count_alike tm x y t s a) refl w) s'.message.structures.tree (omega arith) (omega arith)

  pub places_alike : u.places ≡ t.places
  places_alike =
      sym s'.message.places ∙ ap (λ (l : List Row). places_of tm.sheet (direct_members (trace_routes l))) (sym rows_same) ∙ s.message.places

  -- and have the same values, but for MaxActivities
  pub values_alike : (j : ℕ) → j < 8 → (j ≡ 4 → ⊥) → value t.values j ≡ value u.values j
  values_alike j h d =
      ap (λ (l : List ℕ). value l j) (sym s.message.values)
      ∙ value_of tm.sheet (part_held tm.layout x) t s.sheet_ok_holds s.message (part_held tm.layout x) j h
      ∙ value_kept tm.sheet (part_held tm.layout x) t s.sheet_ok_holds s.message (part_held tm.layout y) 4 (omega arith) (changed tm x y t s a) j h d
      ∙ sym (value_of tm.sheet (part_held tm.layout x) t s.sheet_ok_holds s.message (part_held tm.layout y) j h)
      ∙ ap (λ (l : List ℕ). value (values_at (part_held tm.layout y) l) j) (sym places_alike)
      ∙ ap (λ (l : List ℕ). value l j) s'.message.values

-- VALUES the same but for MaxActivities get the same plan and answer, unless one is over its limit
abbrev pub Same : List ℕ → List ℕ → Type 0
Same v w = (j : ℕ) → j < 8 → (j ≡ 4 → ⊥) → get_or v j 0 ≡ get_or w j 0

pub larger_within : (v w : List ℕ) → Same v w → larger (value v MaxActivities) (value w MaxActivities) ≡ true
    → over_limit v ≡ false → over_limit w ≡ false
unfolding larger over_limit counter_sum
larger_within v w same l o =
    let a = and_true (ltb 0 (get_or v 4 0)) _ l in
    let x1 = same 1 (omega arith) (λ q. omega arith) in
    let x2 = same 2 (omega arith) (λ q. omega arith) in
    let x3 = same 3 (omega arith) (λ q. omega arith) in
    let n : get_or v 1 0 + get_or v 2 0 + get_or v 3 0 + 1 ≤ get_or v 4 0 = ltb-false (get_or v 4 0) _ (rw a.0 at o) in
    let go : (b : Bool) → eqb (get_or w 4 0) 0 ≡ b → b || ltb (get_or v 4 0) (get_or w 4 0) ≡ true → over_limit w ≡ false =
    elim [
      | true ↦ λ e h.
          let z : get_or w 4 0 ≡ 0 = eqb-true (get_or w 4 0) 0 e in
          rw (le-ltb 0 (get_or w 4 0) (omega arith)) refl
      | false ↦ λ e h.
          let z : get_or v 4 0 < get_or w 4 0 = ltb-true (get_or v 4 0) (get_or w 4 0) h in
          rw (le-ltb (get_or w 4 0) (get_or w 1 0 + get_or w 2 0 + get_or w 3 0 + 1) (omega arith)) (and_false (ltb 0 (get_or w 4 0)))
    ] in
    go (eqb (get_or w 4 0) 0) refl a.1

plan_same : (v w : List ℕ) → Same v w → (e : Event) → plan_of v e ≡ plan_of w e
unfolding plan_of reported accumulated
plan_same v w same (discontinuity settings) = refl
plan_same v w same (activity act settings) =
    rw (same 0 (omega arith) (λ q. omega arith), same 5 (omega arith) (λ q. omega arith)) refl

decide_same : (v w : List ℕ) → Same v w → over_limit v ≡ false → over_limit w ≡ false → (p : Plan) → p.counter ≤ 3
    → (size len room report_room : ℕ) → decide v p size len room report_room ≡ decide w p size len room report_room
unfolding decide
decide_same v w same ov ow p h size len room report_room =
    rw (ov, ow, same p.counter (omega arith) (λ q. omega arith)) refl

-- WHAT IS WRITTEN is the same in both, but for the limit's four bytes
module _ (tm : Terms) (x y : State) (t : Trace) (s : Sound tm x.buf x.len t) (a : Alike (limit_at t) x y) (c : ℕ) (hi : c ≤ 3) where
  abbrev q : ℕ
  q = value t.places c

  abbrev x₁ : List ℕ
  x₁ = bump (part_held tm.layout x) x.buf (value_place q)

  abbrev y₁ : List ℕ
  y₁ = bump (part_held tm.layout y) y.buf (value_place q)

  inside : value_place q + 4 ≤ length x.buf
  inside =
      let l = lies tm.sheet (part_held tm.layout x) t s.sheet_ok_holds s.message c (omega arith) in
      omega (arith, l.inside, s.lies.within, s.lies.there)

  lengths : (length x₁ ≡ length x.buf) × (length y₁ ≡ length x.buf)
  lengths =
      let k = inside in
      let r = a.same_room in
      (length_store (part_held tm.layout x) x.buf (value_place q) _ k, length_store (part_held tm.layout y) y.buf (value_place q) _ (omega arith) ∙ sym r)

  raised_both : (i : ℕ) → i < x.len → ((limit_at t ≤ i) × (i < limit_at t + 4) → ⊥) → get_or x₁ i 0 ≡ get_or y₁ i 0
  unfolding value_at
  raised_both i h z =
      let k = inside in
      let r = a.same_room in
      let e = value_kept tm.sheet (part_held tm.layout x) t s.sheet_ok_holds s.message (part_held tm.layout y) 4 (omega arith)
      (changed tm x y t s a) c (omega arith) (λ z. omega arith) in
      store_both (part_held tm.layout x) x.buf y.buf (value_place q) _ (omega arith) (omega arith) i (a.same_bytes i h z)
      ∙ ap (λ (l : List ℕ). get_or l i 0) (store_as (part_held tm.layout x) (part_held tm.layout y) y.buf (value_place q) _ _ (ap (λ (n : ℕ). n + 1) e))

  -- with the group appended
  module _ (g : List ℕ) (room : x.len + length g ≤ length x.buf) where
    abbrev m : Part
    m = part_held tm.layout x

    abbrev user : List ℕ
    user = user_held tm.layout x

    abbrev longer : List ℕ → List ℕ
    longer b = lengthened tm.layout.form m (length g) b

    start_in : (b : List ℕ) → length b ≡ length x.buf → start_of tm.layout.form ≤ length b
    start_in b e = omega (arith, s.lies.least, s.lies.within, s.lies.there)

    longer_length : (b : List ℕ) → length b ≡ length x.buf → length (longer b) ≡ length b
    longer_length b e = length_lengthened m (length g) b tm.layout.form (start_in b e)

    abbrev counted : List ℕ → List ℕ
    counted b = bump m (longer b) (count_place m)

    counted_fits : (b : List ℕ) → length b ≡ length x.buf → count_place m + 4 ≤ length (longer b)
    counted_fits b e = omega (arith, longer_length b e, s.lies.least, s.lies.within, s.lies.there)

    counted-length : (b : List ℕ) → length b ≡ length x.buf → length (counted b) ≡ length b
    counted-length b e = length_store m (longer b) (count_place m) _ (counted_fits b e) ∙ longer_length b e

    behind_length : m.end + length (g ++ user) ≡ x.len + length g
    behind_length = behind_part tm.layout x.buf g x.len s.lies

    grown_fits : (b : List ℕ) → length b ≡ length x.buf → m.end + length (g ++ user) ≤ length (counted b)
    grown_fits b e = omega (arith, counted-length b e, behind_length)

    grown-length : (b : List ℕ) → length b ≡ length x.buf → length (grown tm.layout.form m user b g) ≡ length b
    unfolding grown
    grown-length b e = length_splice (counted b) m.end (g ++ user) (grown_fits b e) ∙ counted-length b e

    grown_both : (i : ℕ) → i < x.len + length g → ((limit_at t ≤ i) × (i < limit_at t + 4) → ⊥)
        → get_or (grown tm.layout.form m user x₁ g) i 0 ≡ get_or (grown tm.layout.form m user y₁ g) i 0
    unfolding grown
    grown_both i h z =
        let k₁ = lengths.0 in
        let k₂ = lengths.1 in
        splice_both (counted x₁) (counted y₁) m.end (g ++ user) (grown_fits x₁ k₁) (grown_fits y₁ k₂) i (λ w.
        let w' : ¬ (m.end ≤ i) = λ v. w (v, omega (arith, behind_length)) in
        store_both m (longer x₁) (longer y₁) (count_place m) _ (counted_fits x₁ k₁) (counted_fits y₁ k₂) i
        (lengthened_both tm.layout.form m (length g) x₁ y₁ (start_in x₁ k₁) (start_in y₁ k₂) i (raised_both i (omega (arith, s.lies.within)) z)))

-- the group goes to the same place in both, with the same behind it
grown_alike : (f : Form) (m m' : Part) (user user' b g : List ℕ) → m.start ≡ m'.start → m.end ≡ m'.end → parameter_count m ≡ parameter_count m'
    → user ≡ user' → grown f m user b g ≡ grown f m' user' b g
unfolding grown
grown_alike f m m' user user' b g i j k u =
    let l = lengthened_as f m m' (length g) b j in
    let c : store m (lengthened f m (length g) b) (count_place m) (parameter_count m + 1)
    ≡ store m' (lengthened f m (length g) b) (count_place m') (parameter_count m' + 1) =
    store_as m m' (lengthened f m (length g) b) (count_place m) (parameter_count m + 1) (parameter_count m' + 1) (ap (λ (n : ℕ). n + 1) k)
    ∙ ap (λ (n : ℕ). store m' (lengthened f m (length g) b) (n + 32) (parameter_count m' + 1)) i in
    cc

-- what an accepted event leaves of both
module _ (tm : Terms) (x y : State) (t : Trace) (s : Sound tm x.buf x.len t) (a : Alike (limit_at t) x y) (p : Plan) (hi : p.counter ≤ 3) (g : List ℕ) where
  -- the state that one of them is left in
  abbrev after : Bool → State → State
  after b st = record {
    buf = grown_if b tm.layout.form (part_held tm.layout st) (user_held tm.layout st)
        (bump (part_held tm.layout st) st.buf (value_place (value t.places p.counter))) g;
    len = st.len + cond b (length g) 0;
    report = reported_if p.reports st.report g;
  }

  after_alike : (b : Bool) → (b ≡ true → x.len + length g ≤ length x.buf) → Alike (limit_at t) (after b x) (after b y)
  after_alike true r =
      let l = lengths tm x y t s a p.counter hi in
      let y₁ : List ℕ = bump (part_held tm.layout y) y.buf (value_place (value t.places p.counter)) in
      let grown-as : grown tm.layout.form (part_held tm.layout x) (user_held tm.layout x) y₁ g ≡ grown tm.layout.form (part_held tm.layout y) (user_held tm.layout y) y₁ g =
      grown_alike _ _ _ _ _ _ _ refl (ends_alike tm x y t s a) (count_alike tm x y t s a) (user_alike tm x y t s a) in
      let k₁ = grown-length tm x y t s a p.counter hi g (r refl) (bump (part_held tm.layout x) x.buf (value_place (value t.places p.counter))) l.0 in
      let k₂ = grown-length tm x y t s a p.counter hi g (r refl) y₁ l.1 in
      record {
        same_len = rw a.same_len refl;
        same_room = rw (← grown-as) (k₁ ∙ l.0 ∙ sym l.1 ∙ sym k₂);
        same_report = rw a.same_report refl;
        same_bytes = λ i h z. rw (← grown-as) (grown_both tm x y t s a p.counter hi g (r refl) i h z);
      }
  after_alike false r =
      let l = lengths tm x y t s a p.counter hi in
      record {
        same_len = rw a.same_len refl;
        same_room = l.0 ∙ sym l.1;
        same_report = rw a.same_report refl;
        same_bytes = λ i h z. raised_both tm x y t s a p.counter hi i (omega arith) z;
      }

  applied_alike : (p.appends ≡ true → x.len + length g ≤ length x.buf) → Alike (limit_at t) (applied tm.layout x g t.places p) (applied tm.layout y g t.places p)
  unfolding applied
  applied_alike room = after_alike p.appends room

-- ONE EVENT on both
pub record Both (q : ℕ) (o o' : Outcome) : Type 0 where
  pub one_answer : o.answer ≡ o'.answer
  pub one_state : Alike q o.next o'.next

leaving_both : (q : ℕ) (x y x' y' : State) (a a' : Answer) → a ≡ a' → Alike q x y → (is_done a ≡ true → Alike q x' y') → Both q (leaving x x' a) (leaving y y' a')
leaving_both q x y x' y' (done d) a' e s f = rw (← e) (record { one_answer = refl; one_state = f refl })
leaving_both q x y x' y' (denied n p o) a' e s f = rw (← e) (record { one_answer = refl; one_state = s })

module _ (tm : Terms) (x y : State) (e : Event) (t u : Trace) (rx : read_trace tm x.buf x.len ≡ accepted t) (ry : read_trace tm y.buf y.len ≡ accepted u)
    (a : Alike (limit_at t) x y) (l : larger (value t.values MaxActivities) (value u.values MaxActivities) ≡ true) where
  s : Sound tm x.buf x.len t
  s = sound tm x.buf x.len t rx

  s' : Sound tm y.buf y.len u
  s' = sound tm y.buf y.len u ry

  same : Same t.values u.values
  same = values_alike tm x y t u s s' a

  -- the first is within its limit
  on_both : sound_event e ≡ true → over_limit t.values ≡ false
      → Both (limit_at t)
      (leaving x (performed tm.layout x e t) (decided x e t.values))
      (leaving y (performed tm.layout y e u) (decided y e u.values))
  on_both h k =
      let ow = larger_within t.values u.values same l k in
      let pe : plan_of u.values e ≡ plan_of t.values e = sym (plan_same t.values u.values same e) in
      let ok = plan_ok t.values e in
      let d : decided x e t.values
      ≡ decide u.values (plan_of t.values e) (length (group_of e)) y.len (length y.buf) (length y.report) =
      decide_same t.values u.values same k ow (plan_of t.values e) ok.hi (length (group_of e)) x.len (length x.buf) (length x.report)
      ∙ rw (a.same_len, a.same_room, a.same_report) refl in
      rw (pe, places_alike tm x y t u s s' a)
      (leaving_both (limit_at t) x y _ _ _ _ d a (λ acc.
      let al = allowed t.values e (length (group_of e)) x.len (length x.buf) (length x.report) s.message.range acc in
      applied_alike tm x y t s a (plan_of t.values e) ok.hi (group_of e) (λ q. (al.fits q).0)))

  -- an event at which the first trace is not rejected for its limit
  pub event_both : is_limit (event_on tm x e).answer ≡ false → Both (limit_at t) (event_on tm x e) (event_on tm y e)
  unfolding event_on on_trace
  event_both h = rw (rx, ry) (go (sound_event e) refl (rw rx at h))
    where
      go : (b : Bool) → sound_event e ≡ b
          → is_limit (unless b (record { answer = denied 9 0 false; next = x })
          (leaving x (performed tm.layout x e t) (decided x e t.values))).answer ≡ false
          → Both (limit_at t)
          (unless b (record { answer = denied 9 0 false; next = x })
          (leaving x (performed tm.layout x e t) (decided x e t.values)))
          (unless b (record { answer = denied 9 0 false; next = y })
          (leaving y (performed tm.layout y e u) (decided y e u.values)))
      go false q k = record { one_answer = refl; one_state = a }
      go true q k = on_both q (sym (decide_limit t.values (plan_of t.values e) (length (group_of e)) x.len (length x.buf) (length x.report))
          ∙ sym (ap is_limit (leaving_answer x _ (decided x e t.values))) ∙ k)
