-- Each member that is looked at is sound, and has 16 bytes or more; a string's data lie in the bytes.
use Rattle.std.proofs.Common.{◌≡◌, ◌+◌, ◌-◌, ◌≤◌, ℕ, List, length, true, false, ◌∙◌, refl, sym, arith}
use borrow.Author.Tests.{eq-eqb, ne_eqb}
use Rattle.meaning.specs.Bytes.{whole, number}
use Rattle.meaning.specs.Names.{MQCFT_STRING}
use Rattle.meaning.specs.Answer.{accepted}
use Rattle.meaning.specs.Structure.{Row}
use Rattle.meaning.specs.Walk.{walk}
use Rattle.meaning.specs.Activity.{in_message}
use Rattle.trace.specs.Passing.{crossed, behind_of, is_sound}
use Rattle.trace.proofs.Turns.{one_left, Over}
use Rattle.trace.proofs.Skipping.{known_over, behind_over, sound_first, sound_next}
use Rattle.activities.specs.Naming.{string_in}
use Rattle.activities.proofs.Namings.{string_end, Member, is_string, string_in_holds, string_hit, string_miss}
use Rattle.activities.proofs.names.first_string.Goals as goal
use Rattle.activities.proofs.names.first_string.Goals.{else-number_at-eq-MQCFT_STRING-via-then-number_at-eq-MQCFT_STRING+else-number_at-id, else-number_at-eq-MQCFT_STRING-via-else-number_at-eq-MQCFT_STRING}

-- a string that was found: its data lie in the bytes
is_hit : (id kind parameter : ℕ) → kind ≡ MQCFT_STRING → parameter ≡ id → is_string id kind parameter ≡ true
is_hit id kind parameter e f = rw (eq-eqb kind MQCFT_STRING e, eq-eqb parameter id f) refl

-- the member's fields, as they were read
member : {s : List ℕ} {p : ℕ} {r : Row} {q kind parameter : ℕ} → Over (whole s) p 2 r q → kind ≡ number s p → parameter ≡ number s (p + 8) → Member s p r q kind parameter
member o k i = record { over = o; is_kind = k; is_parameter = i }

module _ (s : List ℕ) (at n n' id kind parameter : ℕ) (left : n ≡ n' + 1) (sound : is_sound (walk (whole s) at 2 n) ≡ true) (k : kind ≡ number s at) (i : parameter ≡ number s (at + 8)) (e : kind ≡ MQCFT_STRING) (f : parameter ≡ id) where
  data_in : at + 20 + number s (at + 16) ≤ length s
  data_in = string_in_holds (member (known_over _ _ _ (sound_first _ _ _ _ _ left sound)).1 k i) id (is_hit id kind parameter e f)

  -- the whole of the answer: the first string from here on is this one
  hit : string_in (whole s) id (walk (whole s) at 2 n) ≡ in_message (record { place = at + 20; length = number s (at + 16) })
  hit = string_hit (member (known_over _ _ _ (sound_first _ _ _ _ _ left sound)).1 k i) n n' left id sound (is_hit id kind parameter e f)

pub overflow_add-result : goal.overflow_add-result
overflow_add-result c =
    omega (
      arith,
      data_in c.args.s.now c.loop.at _ _ c.args.id _ _ (one_left _ _ c.loop-test.true) c.loop.invariant.1 c.number_at.ensures c.number_at-then-number_at-eq-MQCFT_STRING.ensures
          c.if-number_at-eq-MQCFT_STRING.true c.if-number_at-id.true,
    )

pub overflow_add-at-then-number_at-id : goal.overflow_add-at-then-number_at-id
overflow_add-at-then-number_at-id c =
    omega (
      arith,
      data_in c.args.s.now c.loop.at _ _ c.args.id _ _ (one_left _ _ c.loop-test.true) c.loop.invariant.1 c.number_at.ensures c.number_at-then-number_at-eq-MQCFT_STRING.ensures
          c.if-number_at-eq-MQCFT_STRING.true c.if-number_at-id.true,
    )

pub number_at-requires-then-number_at-id : goal.number_at-requires-then-number_at-id
number_at-requires-then-number_at-id c =
    omega (
      arith,
      data_in c.args.s.now c.loop.at _ _ c.args.id _ _ (one_left _ _ c.loop-test.true) c.loop.invariant.1 c.number_at.ensures c.number_at-then-number_at-eq-MQCFT_STRING.ensures
          c.if-number_at-eq-MQCFT_STRING.true c.if-number_at-id.true,
    )

pub returns-then-number_at-id : goal.returns-then-number_at-id
returns-then-number_at-id c =
    rw c.number_at-then-number_at-id.ensures
    (sym (c.loop.invariant.0 ∙ hit c.args.s.now c.loop.at _ _ c.args.id _ _ (one_left _ _ c.loop-test.true) c.loop.invariant.1 c.number_at.ensures c.number_at-then-number_at-eq-MQCFT_STRING.ensures
    c.if-number_at-eq-MQCFT_STRING.true c.if-number_at-id.true))

-- a member of another type, or with another identifier
miss : (s : List ℕ) (at n n' q id kind parameter : ℕ) → n ≡ n' + 1 → behind_of (crossed (whole s) at 2) ≡ accepted q → kind ≡ number s at → parameter ≡ number s (at + 8)
    → is_string id kind parameter ≡ false → string_in (whole s) id (walk (whole s) at 2 n) ≡ string_in (whole s) id (walk (whole s) q 2 n')
miss s at n n' q id kind parameter left b k i e = string_miss (member (behind_over _ _ _ _ b).1 k i) n n' left id e

pub loop-preserved : goal.loop-preserved
loop-preserved c =
    let a = c.args in
    let l = c.loop in
    let left = one_left a.count l.counter c.loop-test.true in (
      l.invariant.0 ∙ elim c.else-number_at-eq-MQCFT_STRING.branch [
        | else-number_at-eq-MQCFT_STRING-via-then-number_at-eq-MQCFT_STRING+else-number_at-id w ↦
            miss a.s.now l.at _ _ _ a.id _ _ left c.behind-at.ensures c.number_at.ensures w.number_at-then-number_at-eq-MQCFT_STRING.ensures
            (rw (eq-eqb _ _ w.if-number_at-eq-MQCFT_STRING.true, ne_eqb _ _ w.if-number_at-id.false) refl)
        | else-number_at-eq-MQCFT_STRING-via-else-number_at-eq-MQCFT_STRING w ↦
            miss a.s.now l.at _ _ _ a.id _ _ left c.behind-at.ensures c.number_at.ensures refl (rw (ne_eqb _ _ w.if-number_at-eq-MQCFT_STRING.false) refl)
      ],
      sound_next _ _ _ _ _ left l.invariant.1 _ _ (behind_over _ _ _ _ c.behind-at.ensures).1,
    )

pub returns : goal.returns
returns c =
    let z : c.args.count - c.loop.counter ≡ 0 = omega (arith, c.loop-test.false) in
    sym (c.loop.invariant.0 ∙ string_end (whole c.args.s.now) c.loop.at _ c.args.id z)
