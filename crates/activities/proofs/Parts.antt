-- The part of the message that an Activity group is, from the trace that was read.
use mathlib.Core.Path.{◌≡◌, refl, ap, ◌∙◌}
use mathlib.Core.Bool.{Bool, true, false}
use mathlib.Core.List.{List}
use Prim.Native.Nat.{ℕ, ◌+◌, ◌-◌, ◌≤◌}
use native.Mathlib.Omega.{arith}
use lib.ListN.{length, get_or, take, drop, get_or-eq_default}
use lib.Dec.{ltb}
use borrow.Author.Tests.{ltb-true, ltb-false}
use Rattle.meaning.specs.Answer.{Result, accepted, refused}
use Rattle.meaning.specs.Bytes.{Part}
use Rattle.meaning.specs.Layout.{part_in}
use Rattle.meaning.specs.Message.{parameter_count, first_place}
use Rattle.meaning.specs.Names.{MQGACF_ACTIVITY}
use Rattle.meaning.specs.Trace.{Terms, Trace, activities, read_trace}
use Rattle.meaning.specs.Activity.{Span, bytes_in, size_of, span_of, no_group, nth_activity, activity_group}
use Rattle.meaning.proofs.Sound.{sound}
use Rattle.trace.specs.Groups.{whole_group, counted}
use Rattle.trace.specs.Locations.{traced_by}
use Rattle.trace.specs.declared.groups.Group.{Group}
use Rattle.trace.specs.declared.location.Traced.{Traced}
use Rattle.trace.proofs.Locating.{found, nth_at, traced_refused}
use Rattle.activities.specs.Spans.{span_in}
use Rattle.activities.specs.declared.group.Span.{Span as Handed}

-- THE ACTIVITY GROUP that goes with the trace
module _ (n : ℕ) (tm : Terms) (buf : List ℕ) (len : ℕ) where
  pub activity_traced : (o : Traced) → accepted o ≡ traced_by n tm buf len → record { place = o.activity.place; length = o.activity.length } ≡ activity_group tm buf len n
  unfolding activity_group counted whole_group size_of
  activity_traced o h =
      let f = found n tm buf len o h in
      ap (λ (g : Group). record { place = g.place; length = g.length }) f.activity ∙ rw f.read refl

  pub activity_lost : (k p : ℕ) → refused k p ≡ traced_by n tm buf len → record { place = 0; length = 0 } ≡ activity_group tm buf len n
  unfolding activity_group size_of
  activity_lost k p h = rw (traced_refused n tm buf len k p h) refl

-- it lies in the message
span_in_lem : (tm : Terms) (buf : List ℕ) (len : ℕ) (t : Trace) → read_trace tm buf len ≡ accepted t → (n : ℕ) → (span_of (get_or (activities t.rows) n no_group)).place + (span_of (get_or (activities t.rows) n no_group)).length ≤ length buf
unfolding size_of
span_in_lem tm buf len t e n = go (ltb n (length (activities t.rows))) refl
  where
    go : (b : Bool) → ltb n (length (activities t.rows)) ≡ b → (span_of (get_or (activities t.rows) n no_group)).place + (span_of (get_or (activities t.rows) n no_group)).length ≤ length buf
    go true h =
        let s = sound tm buf len t e in
        let m : Part = part_in tm.layout buf len in
        let g = nth_at m (first_place m) (parameter_count m) t.rows s.message.structures.tree MQGACF_ACTIVITY n (ltb-true n (length (activities t.rows)) h) in
        omega (arith, g.fills, g.ends, s.lies.within, s.lies.there)
    go false h = rw (get_or-eq_default (activities t.rows) no_group (ltb-false n (length (activities t.rows)) h)) (omega arith)

activity_in_lem : (tm : Terms) (buf : List ℕ) (len n : ℕ) → (activity_group tm buf len n).place + (activity_group tm buf len n).length ≤ length buf
unfolding activity_group size_of
activity_in_lem tm buf len n = go (read_trace tm buf len) refl
  where
    go : (r : Result Trace) → read_trace tm buf len ≡ r → (span_of (nth_activity r n)).place + (span_of (nth_activity r n)).length ≤ length buf
    go (accepted t) e = span_in_lem tm buf len t e n
    go (refused k p) e = omega arith

pub activity_end : (tm : Terms) (buf : List ℕ) (len n : ℕ) (p k : ℕ) → record { place = p; length = k } ≡ activity_group tm buf len n → p + k ≤ length buf
activity_end tm buf len n p k e = omega (arith, activity_in_lem tm buf len n, ap (λ (y : Span). y.place) e, ap (λ (y : Span). y.length) e)

-- the part of the message that a span is
pub span_bytes : (buf : List ℕ) (s : Handed) (x : Span) → span_in s ≡ x → take (s.place + s.length - s.place) (drop s.place buf) ≡ bytes_in buf x
span_bytes buf s x e =
    let d : s.place + s.length - s.place ≡ s.length = omega arith in
    rw d (ap (bytes_in buf) e)
