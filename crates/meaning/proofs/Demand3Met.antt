-- WHAT DEMAND 3 SUPPOSES is there, in either form: two sound traces that differ in their limits, 5 and none, and in nothing else,
-- and events that name their layout.
use mathlib.Core.Path.{◌≡◌, refl, sym, ap, ◌∙◌}
use mathlib.Core.Bool.{true, false}
use mathlib.Core.List.{List, [], ◌∷◌}
use Prim.Native.Nat.{ℕ, zero, suc, ◌+◌, ◌≤◌}
use native.Mathlib.Omega.{arith}
use lib.ListN.{length, get_or, replicate}
use Rattle.meaning.specs.Bytes.{whole, store}
use Rattle.meaning.specs.Layout.{Layout}
use Rattle.meaning.specs.Trace.{Terms}
use Rattle.meaning.specs.Compose.{compose}
use Rattle.meaning.specs.Event.{low, State, Settings, Event, discontinuity, activity}
use Rattle.meaning.specs.Demand3.{sound_trace, limit_of, limit_place, larger, Alike, AllName}
use Rattle.meaning.proofs.Stores.{length_store, store_same}
use Rattle.meaning.proofs.ReadsBack.{made_up}
use Rattle.meaning.proofs.Cases.{counting, lent_group, definitions}
use Rattle.meaning.proofs.LayoutCases.{inside, fields, five}

-- all that demand3 asks for
abbrev pub Met : Terms → State → State → List Event → Type 0
Met tm t u evs =
    (sound_trace tm t ≡ true) × (sound_trace tm u ≡ true) × Alike (limit_place tm t) t u × (larger (limit_of tm t) (limit_of tm u) ≡ true)
    × AllName tm.layout evs

-- a discontinuity, with which the first trace is at its limit, and an activity, for which it is then rejected
abbrev events : Layout → List Event
events l =
    let s : Settings = record { activity_recording = false; trace_route_messaging = true; layout = l } in
    discontinuity s ∷ activity (record { level = low; group = lent_group; reports_asked = false }) s ∷ []

all_name : (l : Layout) → AllName l (events l)
all_name l zero h = refl
all_name l (suc zero) h = refl
all_name l (suc (suc n)) h = absurd (omega arith)

-- the second is the first with another number where the limit stands
alike : (at v : ℕ) (t u : State) → t.len ≡ u.len → t.report ≡ u.report → at + 4 ≤ length t.buf
    → u.buf ≡ store (whole t.buf) t.buf at v → Alike at t u
alike at v t u same reports fits apart = record {
  same_len = same;
  same_room = sym (ap length apart ∙ length_store (whole t.buf) t.buf at v fits);
  same_report = reports;
  same_bytes = λ i h k. sym (ap (λ (b : List ℕ). get_or b i 0) apart ∙ store_same (whole t.buf) t.buf at v fits i k);
}

abbrev plain_with : ℕ → State
plain_with limit = counting 2 1 1 limit

-- with five bytes of user data, in a buffer with room for a group
abbrev embedded_with : ℕ → State
embedded_with limit = record {
  buf = (compose inside (2 ∷ 2 ∷ 1 ∷ 1 ∷ limit ∷ 0x10004 ∷ 0x100 ∷ 0x1000 ∷ []) fields five (replicate 249 0)).buffer;
  len = 217;
  report = [];
}

plain_apart : (limit_place made_up (plain_with 5) + 4 ≤ length (plain_with 5).buf)
    × ((plain_with 0).buf ≡ store (whole (plain_with 5).buf) (plain_with 5).buf (limit_place made_up (plain_with 5)) 0)
unfolding definitions limit_place
plain_apart = (omega arith, refl)

embedded_apart : (limit_place inside (embedded_with 5) + 4 ≤ length (embedded_with 5).buf)
    × ((embedded_with 0).buf ≡ store (whole (embedded_with 5).buf) (embedded_with 5).buf (limit_place inside (embedded_with 5)) 0)
unfolding definitions limit_place
embedded_apart = (omega arith, refl)

plain_alike : Alike (limit_place made_up (plain_with 5)) (plain_with 5) (plain_with 0)
plain_alike = alike _ 0 (plain_with 5) (plain_with 0) refl refl plain_apart.0 plain_apart.1

embedded_alike : Alike (limit_place inside (embedded_with 5)) (embedded_with 5) (embedded_with 0)
embedded_alike = alike _ 0 (embedded_with 5) (embedded_with 0) refl refl embedded_apart.0 embedded_apart.1

pub demand3_met : Met made_up (plain_with 5) (plain_with 0) (events made_up.layout) × Met inside (embedded_with 5) (embedded_with 0) (events inside.layout)
unfolding definitions sound_trace limit_of larger
demand3_met = ((refl, refl, plain_alike, refl, all_name made_up.layout), (refl, refl, embedded_alike, refl, all_name inside.layout))
