-- DEMAND 3, over whole lists of events: `demand3` at the end.
use mathlib.Core.Path.{◌≡◌, refl, sym, ap, ◌∙◌, subst}
use mathlib.Core.Bool.{Bool, true, false, cond, ◌&&◌}
use mathlib.Core.List.{List, [], ◌∷◌, ◌++◌}
use Prim.Native.Nat.{ℕ, zero, suc, ◌+◌, ◌≤◌, ◌<◌}
use native.Mathlib.Nat.{add-zero, add_assoc, not-suc-le-zero}
use native.Mathlib.Omega.{arith}
use lib.ListN.{length, get_or, take}
use lib.Seq.{take-suc, get_or-set_same, get_or-set_other}
use lib.Dec.{eqb}
use borrow.Author.Tests.{eqb-true, eqb-false}
use Rattle.meaning.specs.Names.{MaxActivities}
use Rattle.meaning.specs.Answer.{Result, accepted, refused, unless}
use Rattle.meaning.specs.Trace.{Terms, Trace, value, value_place, read_trace}
use Rattle.meaning.specs.Event.{State, Event, Answer, done, denied, Outcome, sound_event, group_of, plan_of, counter_sum, over_limit, decided, performed, leaving, on_trace, event_on, event}
use Rattle.meaning.specs.View.{View, view_of, risen, view_after, Seen, seeing, verdict, seen}
use Rattle.meaning.specs.Demand3.{is_accepted, sound_trace, sum_of, limit_of, limit_place, larger, Alike, state_after, no_event, event_at, AllName, state_at, answer_at, is_done, is_limit, accepted_in, due, Kept, Demand3}
use Rattle.meaning.proofs.Tests.{clash, and_true}
use Rattle.meaning.proofs.Sound.{sound}
use Rattle.meaning.proofs.Changed.{length_values}
use Rattle.meaning.proofs.Plans.{plan_ok, decide_limit, over_denied}
use Rattle.meaning.proofs.Views.{event_on_lem, event_seen}
use Rattle.meaning.proofs.Twins.{limit_at, Both, event_both}

-- ONE EVENT, as seen: the sum rises by one exactly if it is accepted, and the limit stays
sum-risen : (v : List ℕ) (c : ℕ) → length v ≡ 8 → 1 ≤ c → c ≤ 3 → counter_sum (risen v c) ≡ counter_sum v + 1
unfolding counter_sum risen
sum-risen v zero n lo hi = absurd (not-suc-le-zero lo)
sum-risen v (suc zero) n lo hi =
    rw (get_or-set_same v 1 (get_or v 1 0 + 1) 0 (omega arith), get_or-set_other v 1 2 (get_or v 1 0 + 1) 0 (λ x. omega arith), get_or-set_other v 1 3 (get_or v 1 0 + 1) 0 (λ x. omega arith)) (omega arith)
sum-risen v (suc (suc zero)) n lo hi =
    rw (get_or-set_same v 2 (get_or v 2 0 + 1) 0 (omega arith), get_or-set_other v 2 1 (get_or v 2 0 + 1) 0 (λ x. omega arith), get_or-set_other v 2 3 (get_or v 2 0 + 1) 0 (λ x. omega arith)) (omega arith)
sum-risen v (suc (suc (suc zero))) n lo hi =
    rw (get_or-set_same v 3 (get_or v 3 0 + 1) 0 (omega arith), get_or-set_other v 3 1 (get_or v 3 0 + 1) 0 (λ x. omega arith), get_or-set_other v 3 2 (get_or v 3 0 + 1) 0 (λ x. omega arith)) (omega arith)
sum-risen v (suc (suc (suc (suc c)))) n lo hi = absurd (omega arith)

limit_risen : (v : List ℕ) (c : ℕ) → c ≤ 3 → value (risen v c) MaxActivities ≡ value v MaxActivities
unfolding risen
limit_risen v c hi = get_or-set_other v c 4 (get_or v c 0 + 1) 0 (λ x. omega arith)

record Counted (w : View) (s : Seen) : Type 0 where
  pub total : counter_sum s.next.values ≡ counter_sum w.values + cond (is_done s.answer) 1 0
  pub limit : value s.next.values MaxActivities ≡ value w.values MaxActivities

module _ (w : View) (e : Event) (eight : length w.values ≡ 8) where
  counted_by : (a : Answer) → Counted w (seeing w (view_after w (group_of e) (plan_of w.values e)) a)
  unfolding view_after
  counted_by (done d) =
      let k = plan_ok w.values e in
      record { total = sum-risen w.values _ eight k.lo k.hi; limit = limit_risen w.values _ k.hi }
  counted_by (denied n p owed) = record { total = sym (add-zero (counter_sum w.values)); limit = refl }

  counted : Counted w (seen w e)
  unfolding seen
  counted = go (sound_event e)
    where
      go : (b : Bool) → Counted w (unless b (record { answer = denied 9 0 false; next = w })
          (seeing w (view_after w (group_of e) (plan_of w.values e)) (verdict w e)))
      go true = counted_by (verdict w e)
      go false = record { total = sym (add-zero (counter_sum w.values)); limit = refl }

-- it is rejected for the limit exactly if its group is sound and the values are over the limit
seeing_answer : (w w' : View) (a : Answer) → (seeing w w' a).answer ≡ a
seeing_answer w w' (done d) = refl
seeing_answer w w' (denied n p owed) = refl

seen_limit : (w : View) (e : Event) → is_limit (seen w e).answer ≡ sound_event e && over_limit w.values
unfolding seen
seen_limit w e = go (sound_event e)
  where
    go : (b : Bool) → is_limit (unless b (record { answer = denied 9 0 false; next = w })
        (seeing w (view_after w (group_of e) (plan_of w.values e)) (verdict w e))).answer ≡ b && over_limit w.values
    go true = ap is_limit (seeing_answer w (view_after w (group_of e) (plan_of w.values e)) (verdict w e)) ∙ decide_limit w.values (plan_of w.values e) (length (group_of e)) w.len w.room (length w.report)
    go false = refl

-- over its limit a trace is left as it is
leaving_same : (st st' : State) (a : Answer) → is_done a ≡ false → (leaving st st' a).next ≡ st
leaving_same st st' (done d) e = absurd (clash (cc))
leaving_same st st' (denied n p owed) e = refl

over_still : (tm : Terms) (st : State) (e : Event) (t : Trace) → read_trace tm st.buf st.len ≡ accepted t → over_limit t.values ≡ true → (event_on tm st e).next ≡ st
unfolding event_on on_trace
over_still tm st e t r o = rw r (go (sound_event e))
  where
    go : (b : Bool) → (unless b (record { answer = denied 9 0 false; next = st })
        (leaving st (performed tm.layout st e t) (decided st e t.values))).next ≡ st
    go true = leaving_same st (performed tm.layout st e t) (decided st e t.values) (over_denied t.values (plan_of t.values e) (length (group_of e)) st.len (length st.buf) (length st.report) o)
    go false = refl

-- THE STATES along the list
after_snoc : (tm : Terms) (st : State) (es : List Event) (e : Event) → state_after tm st (es ++ (e ∷ [])) ≡ (event tm.sheet (state_after tm st es) e).next
unfolding state_after
after_snoc tm st [] e = refl
after_snoc tm st (x ∷ xs) e = after_snoc tm (event tm.sheet st x).next xs e

pub state_zero : (tm : Terms) (st : State) (evs : List Event) → state_at tm st evs 0 ≡ st
unfolding state_at state_after
state_zero tm st evs = refl

pub state_suc : (tm : Terms) (st : State) (evs : List Event) (n : ℕ) → n < length evs
    → state_at tm st evs (suc n) ≡ (event tm.sheet (state_at tm st evs n) (event_at evs n)).next
unfolding state_at
state_suc tm st evs n h = ap (state_after tm st) (take-suc evs n no_event h) ∙ after_snoc tm st (take n evs) (event_at evs n)

-- ONE TRACE along the list
module _ (tm : Terms) (x : State) (evs : List Event) (name : AllName tm.layout evs) (t : Trace) (r : read_trace tm x.buf x.len ≡ accepted t) where
  pub record Held (n : ℕ) : Type 0 where
    pub trace : Trace
    pub good : read_trace tm (state_at tm x evs n).buf (state_at tm x evs n).len ≡ accepted trace
    pub places : trace.places ≡ t.places
    pub limit : value trace.values MaxActivities ≡ value t.values MaxActivities
    pub total : counter_sum trace.values ≡ counter_sum t.values + accepted_in tm x evs n

  held_zero : Held 0
  unfolding accepted_in
  held_zero = record { trace = t; good = rw (state_zero tm x evs) r; places = refl; limit = refl; total = sym (add-zero (counter_sum t.values)) }

  held_suc : (n : ℕ) → n < length evs → Held n → Held (suc n)
  unfolding accepted_in answer_at
  held_suc n h k =
      let st : State = state_at tm x evs n in
      let f = event_seen tm st (event_at evs n) k.trace k.good (name n h) in
      let s = sound tm st.buf st.len k.trace k.good in
      let c = counted (view_of k.trace.values st) (event_at evs n) (length_values tm.sheet _ k.trace s.sheet_ok_holds s.message) in
      let v : f.trace.values ≡ (seen (view_of k.trace.values st) (event_at evs n)).next.values = ap (λ (w : View). w.values) f.one_view in
      record {
        trace = f.trace;
        good = rw (state_suc tm x evs n h) f.one_read;
        places = f.same_places ∙ k.places;
        limit = ap (λ (l : List ℕ). value l MaxActivities) v ∙ c.limit ∙ k.limit;
        total = ap counter_sum v ∙ c.total
            ∙ ap (λ (a : Answer). counter_sum k.trace.values + cond (is_done a) 1 0) (sym f.one_answer)
            ∙ ap (λ (y : ℕ). y + cond (is_done (answer_at tm x evs n)) 1 0) k.total ∙ add_assoc (counter_sum t.values) _ _;
      }

  pub held : (n : ℕ) → n ≤ length evs → Held n
  held zero h = held_zero
  held (suc n) h = held_suc n h (held n (omega arith))

  limit_when : (n : ℕ) → n < length evs → (k : Held n) → is_limit (answer_at tm x evs n) ≡ sound_event (event_at evs n) && over_limit k.trace.values
  unfolding answer_at
  limit_when n h k =
      let st : State = state_at tm x evs n in
      ap is_limit (event_seen tm st (event_at evs n) k.trace k.good (name n h)).one_answer ∙ seen_limit (view_of k.trace.values st) (event_at evs n)

  exactly : (n : ℕ) → n < length evs → is_limit (answer_at tm x evs n) ≡ due tm (state_at tm x evs n) (event_at evs n)
  unfolding due limit_of sum_of over_limit
  exactly n h =
      let k = held n (omega arith) in
      limit_when n h k ∙ rw k.good refl

  over : (n : ℕ) → n < length evs → (k : Held n) → is_limit (answer_at tm x evs n) ≡ true → over_limit k.trace.values ≡ true
  over n h k e = (and_true (sound_event (event_at evs n)) (over_limit k.trace.values) (sym (limit_when n h k) ∙ e)).1

  still : (n k : ℕ) → n ≤ k → k ≤ length evs → n < length evs → is_limit (answer_at tm x evs n) ≡ true → state_at tm x evs k ≡ state_at tm x evs n
  still n zero a b c e =
      let z : n ≡ 0 = omega arith in
      rw z refl
  still n (suc k) a b c e = go (eqb n (suc k)) refl (λ h. still n k h (omega arith) c e)
    where
      go : (z : Bool) → eqb n (suc k) ≡ z → (n ≤ k → state_at tm x evs k ≡ state_at tm x evs n) → state_at tm x evs (suc k) ≡ state_at tm x evs n
      go true q ih = ap (state_at tm x evs) (sym (eqb-true n (suc k) q))
      go false q ih =
          let d : ¬ (n ≡ suc k) = eqb-false n (suc k) q in
          let i = ih (omega arith) in
          let w = held n (omega arith) in
          let g : read_trace tm (state_at tm x evs k).buf (state_at tm x evs k).len ≡ accepted w.trace = rw i w.good in
          state_suc tm x evs k b ∙ ap (λ (o : Outcome). o.next) (event_on_lem tm (state_at tm x evs k) (event_at evs k) (name k b))
          ∙ over_still tm (state_at tm x evs k) (event_at evs k) w.trace g (over n c w e) ∙ i

  pub kept : Kept tm x evs
  unfolding sum_of limit_of limit_place sound_trace
  kept = record {
    exact = exactly;
    still = still;
    total = λ n h. let k = held n h in rw (k.good, r) k.total;
    sound = λ n h. rw (held n h).good refl;
    limit = λ n h. let k = held n h in rw (k.good, r) k.limit;
    place = λ n h. let k = held n h in rw (k.good, r) (ap (λ (l : List ℕ). value_place (value l MaxActivities)) k.places);
  }

-- BOTH TRACES along the list
module _ (tm : Terms) (x y : State) (evs : List Event) (name : AllName tm.layout evs) (t u : Trace) (rx : read_trace tm x.buf x.len ≡ accepted t)
    (ry : read_trace tm y.buf y.len ≡ accepted u) (a : Alike (limit_at t) x y)
    (l : larger (value t.values MaxActivities) (value u.values MaxActivities) ≡ true) where
  step : (n : ℕ) → n < length evs → Alike (limit_at t) (state_at tm x evs n) (state_at tm y evs n) → is_limit (answer_at tm x evs n) ≡ false
      → Both (limit_at t) (event tm.sheet (state_at tm x evs n) (event_at evs n)) (event tm.sheet (state_at tm y evs n) (event_at evs n))
  unfolding answer_at
  step n h s e =
      let k = held tm x evs name t rx n (omega arith) in
      let m = held tm y evs name u ry n (omega arith) in
      let ox = event_on_lem tm (state_at tm x evs n) (event_at evs n) (name n h) in
      let oy = event_on_lem tm (state_at tm y evs n) (event_at evs n) (name n h) in
      let q : limit_at k.trace ≡ limit_at t = ap (λ (p : List ℕ). value_place (value p MaxActivities)) k.places in
      rw (ox, oy)
      (subst (λ (z : ℕ). Both z (event_on tm (state_at tm x evs n) (event_at evs n)) (event_on tm (state_at tm y evs n) (event_at evs n))) q
      (event_both tm (state_at tm x evs n) (state_at tm y evs n) (event_at evs n) k.trace m.trace k.good m.good
      (subst (λ (z : ℕ). Alike z (state_at tm x evs n) (state_at tm y evs n)) (sym q) s) (rw (k.limit, m.limit) l) (ap (λ (o : Outcome). is_limit o.answer) (sym ox) ∙ e)))

  states : (n : ℕ) → n ≤ length evs → ((k : ℕ) → k < n → is_limit (answer_at tm x evs k) ≡ false)
      → Alike (limit_at t) (state_at tm x evs n) (state_at tm y evs n)
  states zero h f = rw (state_zero tm x evs, state_zero tm y evs) a
  states (suc n) h f =
      rw (state_suc tm x evs n h, state_suc tm y evs n h)
      (step n h (states n (omega arith) (λ k i. f k (omega arith))) (f n (omega arith))).one_state

  answers : (n : ℕ) → n < length evs → ((k : ℕ) → k ≤ n → is_limit (answer_at tm x evs k) ≡ false) → answer_at tm x evs n ≡ answer_at tm y evs n
  unfolding answer_at
  answers n h f = (step n h (states n (omega arith) (λ k i. f k (omega arith))) (f n (omega arith))).one_answer

  all : Demand3 tm x y evs
  unfolding limit_place
  all = record {
    same_answers = answers;
    same_states = λ n h f. rw rx (states n h f);
    first = kept tm x evs name t rx;
    second = kept tm y evs name u ry;
  }

-- a sound trace is read
pub read_sound : (r : Result Trace) → is_accepted r ≡ true → (t : Trace) × (r ≡ accepted t)
read_sound (accepted t) e = (t, refl)
read_sound (refused n p) e = absurd (clash (cc))

-- DEMAND 3: for two sound traces alike but for MaxActivities, the second limit larger, and every list of events that name the
-- traces' layout
pub demand3 : (tm : Terms) (x y : State) → sound_trace tm x ≡ true → sound_trace tm y ≡ true → Alike (limit_place tm x) x y
    → larger (limit_of tm x) (limit_of tm y) ≡ true → (evs : List Event) → AllName tm.layout evs → Demand3 tm x y evs
unfolding sound_trace limit_place limit_of
demand3 tm x y sx sy a l evs name =
    let t = read_sound (read_trace tm x.buf x.len) sx in
    let u = read_sound (read_trace tm y.buf y.len) sy in
    all tm x y evs name t.0 u.0 t.1 u.1 (rw t.1 at a) (rw (t.1, u.1) at l)
