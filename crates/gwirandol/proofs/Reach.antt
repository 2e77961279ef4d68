-- Every answer fits its number: places and lengths are small.
use mathlib.Core.Path.{◌≡◌, refl, ap}
use mathlib.Core.List.{List}
use Prim.Native.Nat.{ℕ, ◌≤◌}
use native.Mathlib.Omega.{arith}
use lib.ListN.{length}
use lib.Dec.{leb}
use borrow.Author.Tests.{leb-true}
use mathlib.Core.Bool.{Bool, true, false, not, ◌&&◌}
use Rattle.std.specs.Prelude.{Result, Ok, Err}
use Rattle.meaning.specs.Answer.{Result as Meant, accepted, refused, and_then, unless, when}
use Rattle.meaning.specs.Layout.{Layout, part_in, room_for, Embedding, embedding_of}
use Rattle.meaning.specs.Trace.{Terms, Trace, value, sheet_ok, read_trace, Reading, read}
use Rattle.meaning.specs.Names.{most_bytes, Forward as Forward·, Deliver}
use Rattle.meaning.specs.Decision.{Decision, unrecognised, deliver_yes, if_supported, forward_by, arrive_by, forwarding, arrival}
use Rattle.meaning.proofs.Tests.{clash, and_true}
use Rattle.meaning.specs.Compose.{message_length, values_ok, compose_answer, compose}
use Rattle.meaning.specs.Structure.{Row}
use Rattle.meaning.specs.Bytes.{Part, part_of}
use Rattle.meaning.specs.Message.{first_place, scan, check}
use Rattle.meaning.specs.Listing.{listing_text}
use Rattle.meaning.proofs.Tallies.{rows_room}
use Rattle.meaning.proofs.Sound.{sound_scan, sound}
use Rattle.meaning.proofs.Outcomes.{scan_refused, read_refused}
use Rattle.meaning.proofs.Lines.{listing_most}
use Rattle.refusals.specs.Refusals.{answered}
use Rattle.refusals.specs.declared.Refusal.{Refusal}
use Rattle.attributes.specs.Decisions.{decision_of}
use Rattle.attributes.specs.declared.decisions.Decision.{Decision as Told}
use Rattle.codes.specs.Codes.{Fits}
use Rattle.codes.specs.Decisions.{decision_number, decided_number}

check_of : (l : Layout) (buf : List ℕ) (len : ℕ) (r : Meant (List Row)) → scan l buf len ≡ r → Fits (and_then r (λ rows. accepted (length rows)))
check_of l buf len (accepted rows) e =
    let a = sound_scan l buf len rows e in omega (arith, rows_room a.1.tree, a.0.within, a.0.most)
check_of l buf len (refused n p) e = omega (arith, (scan_refused l buf len n p e).place)

pub check_fits : (l : Layout) (buf : List ℕ) (len : ℕ) → Fits (check l buf len)
unfolding check
check_fits l buf len = check_of l buf len (scan l buf len) refl

list_of : (l : Layout) (buf : List ℕ) (len : ℕ) (r : Meant (List Row)) → scan l buf len ≡ r
    → Fits (and_then r (λ rows. accepted (length (listing_text (part_in l buf len) len rows))))
list_of l buf len (accepted rows) e =
    let a = sound_scan l buf len rows e in
    let m : Part = part_in l buf len in
    omega (arith, listing_most m len (first_place m) _ rows m.end (omega arith) a.1.tree (omega (arith, a.0.within, a.0.most)))
list_of l buf len (refused n p) e = omega (arith, (scan_refused l buf len n p e).place)

pub list_fits : (l : Layout) (buf : List ℕ) (len : ℕ) → Fits (and_then (scan l buf len) (λ rows. accepted (length (listing_text (part_in l buf len) len rows))))
list_fits l buf len = list_of l buf len (scan l buf len) refl

-- Compose writes no more than a message may have, and its refusals have the place 0
unless_fits : (b : Bool) (n : ℕ) (r : Meant ℕ) → Fits r → Fits (unless b (refused n 0) r)
unless_fits true n r h = h
unless_fits false n r h = omega arith

length_fits : (n room : ℕ) (b : Bool) → room_for n room ≡ b → Fits (unless b (refused 12 0) (accepted n))
length_fits n room true e = omega (arith, leb-true n most_bytes (and_true (leb n room) (leb n most_bytes) e).1)
length_fits n room false e = omega arith

pub compose_fits : (tm : Terms) (v : List ℕ) (e : Embedding) (user buf : List ℕ) → Fits (compose tm v e user buf).answer
unfolding compose compose_answer
compose_fits tm v e user buf =
    unless_fits (sheet_ok tm.sheet) 17 _ (unless_fits (values_ok v) 8 _ (length_fits (message_length tm user) (length buf) (room_for (message_length tm user) (length buf)) refl))

-- Read's refusals have places in the message, and so have its user data
abbrev whole : (tm : Terms) (buf : List ℕ) (len : ℕ) → Trace → Reading
whole tm buf len t = record { values = t.values; embedding = embedding_of tm.layout.form (part_of buf len); user_place = (part_in tm.layout buf len).end }

pub read_small : (tm : Terms) (buf : List ℕ) (len n p : ℕ) → read tm buf len ≡ refused n p → p ≤ 65536
unfolding read
read_small tm buf len n p e = by (read_trace tm buf len) refl e
  where
    by : (x : Meant Trace) → read_trace tm buf len ≡ x → and_then x (λ t. accepted (whole tm buf len t)) ≡ refused n p → p ≤ 65536
    by (accepted t) h f = absurd (clash (cc))
    by (refused k q) h f = let z : q ≡ p = cc in omega (arith, (read_refused tm buf len k q h).place)

pub read_user : (tm : Terms) (buf : List ℕ) (len : ℕ) (r : Reading) → read tm buf len ≡ accepted r → r.user_place ≤ 65536
unfolding read
read_user tm buf len r e = by (read_trace tm buf len) refl e
  where
    by : (x : Meant Trace) → read_trace tm buf len ≡ x → and_then x (λ t. accepted (whole tm buf len t)) ≡ accepted r → r.user_place ≤ 65536
    by (accepted t) h f =
        let q : whole tm buf len t ≡ r = cc in
        let s = sound tm buf len t h in
        omega (arith, ap (λ (y : Reading). y.user_place) q, s.lies.within, s.lies.most)
    by (refused k q) h f = absurd (clash (cc))

-- a decision as the code has it
pub decided_fits : (f : Result Told Refusal) (x : Meant Decision) → answered decision_of f ≡ x → Fits (decided_number x)
    → Fits (answered (λ d. decision_number (decision_of d)) f)
decided_fits (Ok d) x e h = rw (← e) at h
decided_fits (Err r) x e h = rw (← e) at h

-- what refuses a decision has the place 0
when_fits : (b : Bool) (x y : Meant Decision) → Fits (decided_number x) → Fits (decided_number y) → Fits (decided_number (when b x y))
when_fits true x y f g = f
when_fits false x y f g = g

then_fits : (tm : Terms) (buf : List ℕ) (len : ℕ) (go : List ℕ → Meant Decision) → ((v : List ℕ) → Fits (decided_number (go v)))
    → Fits (decided_number (and_then (read tm buf len) (λ r. go r.values)))
then_fits tm buf len go f = by (read tm buf len) refl
  where
    by : (x : Meant Reading) → read tm buf len ≡ x → Fits (decided_number (and_then x (λ r. go r.values)))
    by (accepted r) h = f r.values
    by (refused n p) h = omega (arith, read_small tm buf len n p h)

pub forward_fits : (tm : Terms) (buf : List ℕ) (len : ℕ) (s : Bool) → Fits (decided_number (forwarding tm buf len s))
unfolding forwarding forward_by
forward_fits tm buf len s =
    then_fits tm buf len (λ v. forward_by v s) (λ v.
    when_fits (not s && unrecognised (value v Deliver)) _ _ (omega arith)
    (when_fits (not s && deliver_yes (value v Deliver)) _ _ (omega arith)
    (when_fits (unrecognised (value v Forward·)) _ _ (omega arith)
    (when_fits (not s && if_supported (value v Forward·)) _ _ (omega arith) (omega arith)))))

pub arrive_fits : (tm : Terms) (buf : List ℕ) (len : ℕ) → Fits (decided_number (arrival tm buf len))
unfolding arrival arrive_by
arrive_fits tm buf len =
    then_fits tm buf len arrive_by (λ v.
    when_fits (unrecognised (value v Deliver)) _ _ (omega arith) (when_fits (deliver_yes (value v Deliver)) _ _ (omega arith) (omega arith)))
