-- AN ACCEPTED EVENT leaves a sound trace: one counter one higher, the other seven values and all eight places kept; the
-- message is the old one with that counter raised and, if the group was appended, StrucLength and ParameterCount raised and the
-- group between the part and the user data; its Activity groups are the old ones and the new one, last; the user data are
-- byte for byte the same, and so are the four fields that no check looks at.
use mathlib.Core.Path.{◌≡◌, refl, sym, ap, ◌∙◌, subst}
use mathlib.Core.Bool.{Bool, true, false, cond, not, ◌&&◌}
use mathlib.Core.List.{List, ◌++◌, append_assoc}
use Prim.Native.Nat.{ℕ, ◌+◌, ◌≤◌}
use native.Mathlib.Nat.{add-zero}
use native.Mathlib.Omega.{arith}
use lib.ListN.{length, take, drop, length-append}
use lib.Seq.{length-take-le, take-take, drop_at}
use lib.Dec.{leb, eqb}
use Rattle.meaning.proofs.Stores.{length_store, take-store, drop-store}
use Rattle.meaning.specs.Bytes.{Part, part_of, splice, bump}
use Rattle.meaning.specs.Names.{most_count}
use Rattle.meaning.specs.Answer.{accepted, when, unless}
use Rattle.meaning.specs.Layout.{Layout, start_of, room_for, embedding_of, lengthened}
use Rattle.meaning.specs.Message.{count_place}
use Rattle.meaning.specs.Trace.{Terms, Trace, value, value_place, read_trace}
use Rattle.meaning.specs.Event.{State, Event, layout_named, Answer, done, denied, Done, Outcome, sound_event, group_of, Plan, plan_of, over_limit, reply_owed, report_length, done_by, decide, grown, grown_if, part_held, user_held, applied, decided, performed, leaving, on_trace, event_on, event}
use Rattle.meaning.specs.View.{risen}
use Rattle.meaning.specs.Demand3.{is_done}
use Rattle.meaning.proofs.Tests.{clash}
use Rattle.meaning.proofs.Splices.{take_splice, drop_splice}
use Rattle.meaning.proofs.Layouts.{behind_part, length_lengthened, take_lengthened, drop_lengthened}
use Rattle.meaning.proofs.Sound.{Sound, sound, read_of}
use Rattle.meaning.proofs.Changed.{lies}
use Rattle.meaning.proofs.Spans.{spans_of}
use Rattle.meaning.proofs.Plans.{plan_ok, allowed}
use Rattle.meaning.proofs.Views.{span_if, applied_leaves, event_on_lem}

-- THE ANSWER of what is done says what was planned
when_is_done : (b : Bool) (n p : ℕ) (o : Bool) (a : Answer) (d : Done) → when b (denied n p o) a ≡ done d → a ≡ done d
when_is_done true n p o a d e = absurd (clash (cc))
when_is_done false n p o a d e = e

pub decide_done : (v : List ℕ) (p : Plan) (size len room report_room : ℕ) (d : Done) → decide v p size len room report_room ≡ done d → done_by p size len ≡ d
unfolding decide
decide_done v p size len room report_room d e =
    let a = when_is_done (over_limit v) 10 0 (reply_owed v) _ d e in
    let b = when_is_done (eqb (value v p.counter) most_count) 11 0 false _ d a in
    let c = when_is_done (p.appends && not (room_for (len + size) room)) 12 0 false _ d b in
    let f = when_is_done (p.reports && not (leb (report_length size) report_room)) 13 0 false _ d c in
    cc f

-- an event that is done has a sound group, and was decided so
pub record WasDone (l : Layout) (st : State) (e : Event) (t : Trace) (o : Outcome) (d : Done) : Type 0 where
  pub sound_group : sound_event e ≡ true
  pub verdict : decided st e t.values ≡ done d
  pub left : o.next ≡ performed l st e t

module _ (tm : Terms) (st : State) (e : Event) (t : Trace) (d : Done) (r : read_trace tm st.buf st.len ≡ accepted t) where
  abbrev judged : Bool → Outcome
  judged b = unless b (record { answer = denied 9 0 false; next = st }) (leaving st (performed tm.layout st e t) (decided st e t.values))

  done_by_lem : sound_event e ≡ true → (a : Answer) → decided st e t.values ≡ a → (leaving st (performed tm.layout st e t) a).answer ≡ done d
      → WasDone tm.layout st e t (leaving st (performed tm.layout st e t) a) d
  done_by_lem q (done d') f k = record { sound_group = q; verdict = f ∙ k; left = refl }
  done_by_lem q (denied n p o) f k = absurd (clash (cc))

  done_if : (b : Bool) → sound_event e ≡ b → (judged b).answer ≡ done d → WasDone tm.layout st e t (judged b) d
  done_if true q k = done_by_lem q (decided st e t.values) refl k
  done_if false q k = absurd (clash (cc))

  done_on : (event_on tm st e).answer ≡ done d → WasDone tm.layout st e t (event_on tm st e) d
  unfolding event_on on_trace
  done_on h = rw r (done_if (sound_event e) refl (rw r at h))

  pub was_done : layout_named e ≡ tm.layout → (event tm.sheet st e).answer ≡ done d → WasDone tm.layout st e t (event tm.sheet st e) d
  was_done n h = rw (event_on_lem tm st e n) (done_on (ap (λ (o : Outcome). o.answer) (sym (event_on_lem tm st e n)) ∙ h))

-- THE MESSAGE that an accepted event leaves, from the old one: the counter raised; and, if the group was appended, the part up
-- to its old end with StrucLength and ParameterCount raised as well, then the group, then the user data
abbrev pub raised_in : Layout → State → Trace → ℕ → List ℕ
raised_in l st t c = bump (part_held l st) (take st.len st.buf) (value_place (value t.places c))

unfoldable pub message_after : Bool → Layout → State → Trace → ℕ → List ℕ → List ℕ
message_after b l st t c g =
    cond b
    (take (part_held l st).end (bump (part_held l st) (lengthened l.form (part_held l st) (length g) (raised_in l st t c)) (count_place (part_held l st))) ++ (g ++ user_held l st))
    (raised_in l st t c)

module _ (tm : Terms) (st : State) (t : Trace) (s : Sound tm st.buf st.len t) (c : ℕ) (hc : c ≤ 3) (g : List ℕ) where
  abbrev P : Part
  P = part_held tm.layout st

  abbrev user : List ℕ
  user = user_held tm.layout st

  abbrev q : ℕ
  q = value_place (value t.places c)

  abbrev b₁ : List ℕ
  b₁ = bump P st.buf q

  inside : q + 4 ≤ P.end
  inside = omega (arith, (lies tm.sheet P t s.sheet_ok_holds s.message c (omega arith)).inside)

  length_b₁ : length b₁ ≡ length st.buf
  length_b₁ = length_store P st.buf q _ (omega (arith, inside, s.lies.within, s.lies.there))

  take_b₁ : take st.len b₁ ≡ raised_in tm.layout st t c
  take_b₁ = take-store st.len P st.buf q _ (omega (arith, inside, s.lies.within)) s.lies.there

  start_in : start_of tm.layout.form ≤ st.len
  start_in = omega (arith, s.lies.least, s.lies.within)

  abbrev b₂ : List ℕ
  b₂ = lengthened tm.layout.form P (length g) b₁

  length_b₂ : length b₂ ≡ length st.buf
  length_b₂ = length_lengthened P (length g) b₁ tm.layout.form (omega (arith, start_in, length_b₁, s.lies.there)) ∙ length_b₁

  abbrev b₃ : List ℕ
  b₃ = bump P b₂ (count_place P)

  fits₃ : count_place P + 4 ≤ P.end
  fits₃ = omega (arith, s.lies.least)

  length_b₃ : length b₃ ≡ length st.buf
  length_b₃ = length_store P b₂ (count_place P) _ (omega (arith, length_b₂, fits₃, s.lies.within, s.lies.there)) ∙ length_b₂

  take_b₃ : take P.end b₃ ≡ take P.end (bump P (lengthened tm.layout.form P (length g) (raised_in tm.layout st t c)) (count_place P))
  take_b₃ =
      let n = s.lies.within in
      let k = s.lies.there in
      let all : take st.len b₃ ≡ bump P (lengthened tm.layout.form P (length g) (raised_in tm.layout st t c)) (count_place P) =
      take-store st.len P b₂ (count_place P) _ (omega (arith, fits₃)) (omega (arith, length_b₂))
      ∙ ap (λ (b : List ℕ). bump P b (count_place P)) (take_lengthened P (length g) b₁ tm.layout.form st.len start_in (omega (arith, length_b₁))
      ∙ ap (lengthened tm.layout.form P (length g)) take_b₁) in
      sym (take-take P.end st.len b₃ n) ∙ ap (take P.end) all

  behind_length : P.end + length (g ++ user) ≡ st.len + length g
  behind_length = behind_part tm.layout st.buf g st.len s.lies

  fits₄ : st.len + length g ≤ length st.buf → P.end + length (g ++ user) ≤ length b₃
  fits₄ f = omega (arith, behind_length, length_b₃)

  written : (b : Bool) → (b ≡ true → st.len + length g ≤ length st.buf)
      → take (st.len + cond b (length g) 0) (grown_if b tm.layout.form P user b₁ g) ≡ message_after b tm.layout st t c g
  unfolding message_after grown
  written true fits =
      ap (λ (n : ℕ). take n (splice b₃ P.end (g ++ user))) (sym behind_length)
      ∙ take_splice b₃ P.end (g ++ user) (fits₄ (fits refl)) ∙ ap (λ (l : List ℕ). l ++ (g ++ user)) take_b₃
  written false fits = ap (λ (n : ℕ). take n b₁) (add-zero st.len) ∙ take_b₁

  behind : (b : Bool) → (b ≡ true → st.len + length g ≤ length st.buf)
      → drop (st.len + cond b (length g) 0) (grown_if b tm.layout.form P user b₁ g) ≡ drop (st.len + cond b (length g) 0) st.buf
  unfolding grown
  behind true fits =
      let f = fits refl in
      let k = length_b₁ in
      let k₂ = length_b₂ in
      let w = s.lies.within in
      let i = inside in
      let n : ℕ = st.len + length g in
      ap (λ (x : ℕ). drop x (splice b₃ P.end (g ++ user))) (sym behind_length)
      ∙ drop_splice b₃ P.end (g ++ user) (fits₄ f)
      ∙ ap (λ (x : ℕ). drop x b₃) behind_length
      ∙ drop-store n P b₂ (count_place P) _ (omega (arith, fits₃)) (omega arith)
      ∙ drop_lengthened P (length g) b₁ tm.layout.form n (omega (arith, start_in)) (omega arith)
      ∙ drop-store n P st.buf q _ (omega arith) (omega arith)
  behind false fits =
      let i = inside in
      rw (add-zero st.len) (drop-store st.len P st.buf q _ (omega (arith, s.lies.within)) s.lies.there)

  -- the user data of what is left, wherever it ends
  user_kept : (b : Bool) → (b ≡ true → st.len + length g ≤ length st.buf) → (end : ℕ) → end ≡ P.end + cond b (length g) 0
      → drop end (message_after b tm.layout st t c g) ≡ user
  unfolding message_after
  user_kept true fits end e =
      let n = s.lies.within in
      let k = s.lies.there in
      let x : List ℕ = take P.end b₃ in
      let l : length (x ++ g) ≡ end = length-append x g ∙ omega (arith, length-take-le P.end b₃ (omega (arith, length_b₃))) in
      ap (λ (y : List ℕ). drop end (y ++ (g ++ user))) (sym take_b₃) ∙ ap (drop end) (sym (append_assoc x g user)) ∙ drop_at (x ++ g) user end l
  user_kept false fits end e =
      let z : end ≡ P.end = omega arith in
      ap (λ (n : ℕ). drop n (raised_in tm.layout st t c)) z
      ∙ drop-store P.end P (take st.len st.buf) q _ inside (omega (arith, length-take-le st.len st.buf s.lies.there, s.lies.within))

-- a sound trace st' that is what the event left of st
pub record AcceptedEvent (tm : Terms) (st st' : State) (e : Event) (t : Trace) (d : Done) : Type 0 where
  pub trace : Trace
  pub reads : read_trace tm st'.buf st'.len ≡ accepted trace
  pub one_counter : (1 ≤ d.counter) × (d.counter ≤ 3)
  pub values : trace.values ≡ risen t.values d.counter
  pub places : trace.places ≡ t.places
  pub new_length : st'.len ≡ d.message_length
  pub message : take d.message_length st'.buf ≡ message_after d.appended tm.layout st t d.counter (group_of e)
  pub behind : drop d.message_length st'.buf ≡ drop d.message_length st.buf
  pub groups : spans_of trace.rows ≡ spans_of t.rows ++ span_if d.appended (part_held tm.layout st).end (length (group_of e))
  pub new_end : (part_held tm.layout st').end ≡ (part_held tm.layout st).end + cond d.appended (length (group_of e)) 0
  pub user_data_holds : user_held tm.layout st' ≡ user_held tm.layout st
  pub embedding : embedding_of tm.layout.form (part_of st'.buf st'.len) ≡ embedding_of tm.layout.form (part_of st.buf st.len)

-- AN ACCEPTED EVENT LEAVES A SOUND TRACE
pub accepted_event : (tm : Terms) (st : State) (e : Event) (t : Trace) (d : Done) → layout_named e ≡ tm.layout
    → read_trace tm st.buf st.len ≡ accepted t → (event tm.sheet st e).answer ≡ done d
    → AcceptedEvent tm st (event tm.sheet st e).next e t d
unfolding applied
accepted_event tm st e t d named r h =
    let w = was_done tm st e t d r named h in
    let s = sound tm st.buf st.len t r in
    let a = allowed t.values e (length (group_of e)) st.len (length st.buf) (length st.report) s.message.range (ap is_done w.verdict) in
    let k = plan_ok t.values e in
    let n = applied_leaves tm st e t s w.sound_group a in
    let c : ℕ = (plan_of t.values e).counter in
    let b : Bool = (plan_of t.values e).appends in
    let p : done_by (plan_of t.values e) (length (group_of e)) st.len ≡ d = decide_done t.values (plan_of t.values e) (length (group_of e)) st.len _ _ d w.verdict in
    let m = written tm st t s c k.hi (group_of e) b (λ q. (a.fits q).0) in
    subst (AcceptedEvent tm st (event tm.sheet st e).next e t) p (rw w.left (record {
      trace = n.trace;
      reads = read_of tm _ _ n.trace n.still_sound;
      one_counter = (k.lo, k.hi);
      values = n.risen_values;
      places = n.same_places;
      new_length = refl;
      message = m;
      behind = behind tm st t s c k.hi (group_of e) b (λ q. (a.fits q).0);
      groups = n.spans;
      new_end = n.new_end;
      user_data_holds = ap (drop (part_held tm.layout (performed tm.layout st e t)).end) m ∙ user_kept tm st t s c k.hi (group_of e) b (λ q. (a.fits q).0) _ n.new_end;
      embedding = n.one_embedding;
    }))
