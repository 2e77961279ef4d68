-- What is planned for an event, and what an accepted answer tells.
use mathlib.Core.Path.{◌≡◌, refl}
use mathlib.Core.Bool.{Bool, true, false, not, ◌&&◌, ◌||◌}
use mathlib.Core.List.{List}
use Prim.Native.Nat.{ℕ, zero, suc, ◌+◌, ◌≤◌, ◌<◌}
use native.Mathlib.Nat.{not-suc-le-zero}
use native.Mathlib.Omega.{arith}
use lib.Dec.{leb, eqb}
use borrow.Author.Tests.{ltb-true, leb-true, eqb-false}
use Rattle.meaning.specs.Names.{most_bytes, most_count, two_to31}
use Rattle.meaning.specs.Layout.{room_for}
use Rattle.meaning.specs.Answer.{when}
use Rattle.meaning.specs.Trace.{value, in_range}
use Rattle.meaning.specs.Event.{Event, discontinuity, activity, Answer, done, denied, sound_event, group_of, Plan, reported, accumulated, recorded_in, plan_of, over_limit, reply_owed, decide, State, leaving}
use Rattle.meaning.specs.Demand3.{is_done, is_limit}
use Rattle.meaning.proofs.Tests.{clash, and_true, and_not}
use Rattle.meaning.proofs.Changed.{in_range_lem}
use Rattle.meaning.proofs.Applied.{Group, group}

-- A PLAN raises one of the three counters, and appends or reports only a sound group
pub record PlanOk (p : Plan) (e : Event) : Type 0 where
  pub lo : 1 ≤ p.counter
  pub hi : p.counter ≤ 3
  pub lent : p.appends ≡ true → sound_event e ≡ true → Group (group_of e)
  pub told : p.reports ≡ true → sound_event e ≡ true → Group (group_of e)

recorded_lo : (b : Bool) → 1 ≤ recorded_in b
recorded_lo true = omega arith
recorded_lo false = omega arith

recorded_hi : (b : Bool) → recorded_in b ≤ 3
recorded_hi true = omega arith
recorded_hi false = omega arith

pub plan_ok : (v : List ℕ) (e : Event) → PlanOk (plan_of v e) e
unfolding plan_of sound_event group_of
plan_ok v (discontinuity s) = record { lo = omega arith; hi = omega arith; lent = λ x. absurd (clash (cc)); told = λ x. absurd (clash (cc)) }
plan_ok v (activity a s) = record {
  lo = recorded_lo (reported v a s || accumulated v a s);
  hi = recorded_hi (reported v a s || accumulated v a s);
  lent = λ x h. group a.group h;
  told = λ x h. group a.group h;
}

counter_small : (v : List ℕ) (c : ℕ) → in_range v ≡ true → 1 ≤ c → c ≤ 3 → value v c < two_to31
counter_small v zero r lo hi = absurd (not-suc-le-zero lo)
counter_small v (suc zero) r lo hi = ltb-true _ _ (in_range_lem v r).in1
counter_small v (suc (suc zero)) r lo hi = ltb-true _ _ (in_range_lem v r).in2
counter_small v (suc (suc (suc zero))) r lo hi = ltb-true _ _ (in_range_lem v r).in3
counter_small v (suc (suc (suc (suc c)))) r lo hi = absurd (omega arith)

-- WHAT AN ACCEPTED ANSWER TELLS
pub record Allowed (v : List ℕ) (p : Plan) (size len room report_room : ℕ) : Type 0 where
  pub within_limit : over_limit v ≡ false
  pub below : value v p.counter < most_count
  pub fits : p.appends ≡ true → (len + size ≤ room) × (len + size ≤ most_bytes)
  pub reportable : p.reports ≡ true → 36 + size ≤ report_room

when_done : (b : Bool) (n p : ℕ) (o : Bool) (a : Answer) → is_done (when b (denied n p o) a) ≡ true → (b ≡ false) × (is_done a ≡ true)
when_done true n p o a e = absurd (clash (cc))
when_done false n p o a e = (refl, e)

pub allowed : (v : List ℕ) (e : Event) (size len room report_room : ℕ) → in_range v ≡ true
    → is_done (decide v (plan_of v e) size len room report_room) ≡ true → Allowed v (plan_of v e) size len room report_room
unfolding decide
allowed v e size len room report_room r h =
    let p : Plan = plan_of v e in
    let k = plan_ok v e in
    let a = when_done (over_limit v) 10 0 (reply_owed v) _ h in
    let b = when_done (eqb (value v p.counter) most_count) 11 0 false _ a.1 in
    let c = when_done (p.appends && not (room_for (len + size) room)) 12 0 false _ b.1 in
    let d = when_done (p.reports && not (leb (36 + size) report_room)) 13 0 false _ c.1 in
    let n : ¬ (value v p.counter ≡ most_count) = eqb-false _ _ b.0 in
    record {
      within_limit = a.0;
      below = omega (arith, counter_small v p.counter r k.lo k.hi);
      fits = λ q.
          let f = and_true (leb (len + size) room) (leb (len + size) most_bytes) (and_not _ _ c.0 q) in
          (leb-true _ _ f.0, leb-true _ _ f.1);
      reportable = λ q. leb-true _ _ (and_not _ _ d.0 q);
    }

-- REJECTED FOR THE LIMIT exactly if the values are over it
when_not_limit : (b : Bool) (n p : ℕ) (o : Bool) (a : Answer) → eqb n 10 ≡ false → is_limit a ≡ false → is_limit (when b (denied n p o) a) ≡ false
when_not_limit true n p o a e f = e
when_not_limit false n p o a e f = f

when_limit : (b : Bool) (o : Bool) (a : Answer) → is_limit a ≡ false → is_limit (when b (denied 10 0 o) a) ≡ b
when_limit true o a e = refl
when_limit false o a e = e

pub decide_limit : (v : List ℕ) (p : Plan) (size len room report_room : ℕ) → is_limit (decide v p size len room report_room) ≡ over_limit v
unfolding decide
decide_limit v p size len room report_room =
    when_limit (over_limit v) (reply_owed v) _
    (when_not_limit (eqb (value v p.counter) most_count) 11 0 false _ refl
    (when_not_limit (p.appends && not (room_for (len + size) room)) 12 0 false _ refl
    (when_not_limit (p.reports && not (leb (36 + size) report_room)) 13 0 false _ refl refl)))

-- over its limit nothing is accepted
pub over_denied : (v : List ℕ) (p : Plan) (size len room report_room : ℕ) → over_limit v ≡ true → is_done (decide v p size len room report_room) ≡ false
unfolding decide
over_denied v p size len room report_room o = rw o refl

pub leaving_answer : (st st' : State) (a : Answer) → (leaving st st' a).answer ≡ a
leaving_answer st st' (done d) = refl
leaving_answer st st' (denied n p owed) = refl
