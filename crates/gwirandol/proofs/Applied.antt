-- An event for C: its answer fits.
use mathlib.Core.Path.{◌≡◌, refl}
use mathlib.Core.Bool.{Bool, true, false, cond, not, ◌&&◌}
use mathlib.Core.List.{List}
use Prim.Native.Nat.{ℕ, ◌+◌, ◌≤◌}
use native.Mathlib.Omega.{arith}
use lib.Dec.{leb, eqb}
use borrow.Author.Tests.{leb-true}
use Rattle.meaning.specs.Names.{most_bytes, most_count}
use Rattle.meaning.specs.Layout.{room_for}
use Rattle.meaning.specs.Answer.{Result, accepted, refused, when, unless}
use Rattle.meaning.specs.Trace.{Terms, Trace, value, read_trace}
use Rattle.meaning.specs.Event.{Event, Answer, done, denied, Plan, State, over_limit, report_length, decide, sound_event, performed, decided, leaving, on_read, on_trace, event, layout_named, event_on}
use Rattle.meaning.proofs.Tests.{clash}
use Rattle.meaning.proofs.Sound.{sound}
use Rattle.meaning.proofs.Outcomes.{read_refused}
use Rattle.codes.specs.Events.{Brief}

-- THE ANSWER is brief: a message that is appended to stays below the most bytes
when_brief : (b : Bool) (x y : Answer) → Brief x → (b ≡ false → Brief y) → Brief (when b x y)
when_brief true x y f g = f
when_brief false x y f g = g refl

done_brief : (appends room : Bool) (size len : ℕ) → len ≤ 65536 → appends && not (room && leb (len + size) most_bytes) ≡ false → len + cond appends size 0 ≤ 65536
done_brief false room size len h e = omega arith
done_brief true false size len h e = absurd (clash (cc))
done_brief true true size len h e = by (leb (len + size) most_bytes) refl e
  where
    by : (b : Bool) → leb (len + size) most_bytes ≡ b → not b ≡ false → len + size ≤ 65536
    by true q f = leb-true (len + size) most_bytes q
    by false q f = absurd (clash (cc))

decide_brief : (v : List ℕ) (p : Plan) (size len room report_room : ℕ) → len ≤ 65536 → Brief (decide v p size len room report_room)
unfolding decide
decide_brief v p size len room report_room h =
    when_brief (over_limit v) _ _ (omega arith) (λ _.
    when_brief (eqb (value v p.counter) most_count) _ _ (omega arith) (λ _.
    when_brief (p.appends && not (room_for (len + size) room)) _ _ (omega arith) (λ e.
    when_brief (p.reports && not (leb (report_length size) report_room)) _ _ (omega arith) (λ _.
    done_brief p.appends (leb (len + size) room) size len h e))))

left_brief : (st st' : State) (a : Answer) → Brief a → Brief (leaving st st' a).answer
left_brief st st' (done d) f = f
left_brief st st' (denied n p o) f = f

pub event_brief : (sheet : List ℕ) (st : State) (e : Event) → Brief (event sheet st e).answer
unfolding event event_on on_trace
event_brief sheet st e = by (read_trace tm st.buf st.len) refl
  where
    tm : Terms
    tm = record { sheet = sheet; layout = layout_named e }

    go : (t : Trace) → st.len ≤ 65536 → (b : Bool)
        → Brief (unless b (record { answer = denied 9 0 false; next = st }) (leaving st (performed (layout_named e) st e t) (decided st e t.values))).answer
    go t h true = left_brief st (performed (layout_named e) st e t) (decided st e t.values) (decide_brief _ _ _ _ _ _ h)
    go t h false = omega arith

    by : (x : Result Trace) → read_trace tm st.buf st.len ≡ x → Brief (on_read (layout_named e) st e x).answer
    by (accepted t) h = go t (sound tm st.buf st.len t h).lies.most (sound_event e)
    by (refused n p) h = (read_refused tm st.buf st.len n p h).place
