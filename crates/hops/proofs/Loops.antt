-- The loop over the top-level structures: the lines of the Activity groups before the k-th one are written.
use mathlib.Core.Path.{◌≡◌, refl, sym, ap, ◌∙◌}
use mathlib.Core.List.{List, [], ◌++◌}
use Prim.Native.Nat.{ℕ, ◌+◌, ◌≤◌, ◌<◌}
use native.Mathlib.Numerals.{add-one}
use native.Mathlib.Omega.{arith}
use lib.ListN.{length, length-append}
use Rattle.std.specs.Prelude.{Some, None}
use Rattle.meaning.specs.Bytes.{number}
use Rattle.meaning.specs.Message.{parameter_count}
use Rattle.meaning.specs.Trace.{Terms}
use Rattle.meaning.proofs.Splices.{splice-none}
use Rattle.meaning.proofs.Parts.{num_part}
use Rattle.meaning.proofs.Layouts.{Sized}
use Rattle.meaning.proofs.Sound.{sound}
use Rattle.text.specs.Wrote.{Room, Wrote}
use Rattle.text.proofs.Laws.{then}
use Rattle.layout.specs.declared.part.Part.{Part as PartIn}
use Rattle.reader.specs.Reading.{nth_top}
use Rattle.hops.specs.Hops.{hop_of, hop_lines}
use Rattle.hops.specs.Groups.{spot_in, Reached, LinesDue, groups_of, LinesDone}
use Rattle.hops.specs.declared.groups.Groups.{Groups}
use Rattle.text.proofs.Printed.{wrote_as, wrote_length}
use Rattle.hops.proofs.Turns.{trace_in, Upto, Here, at_start, text_most, at_end, is_other, is_activity}

pub record Written (tm : Terms) (msg : List ℕ) (id : ℕ) (before after : List ℕ) (g : Groups) (k : ℕ) : Type 0 where
  pub upto : Upto tm msg k g.count g.text
  pub wrote : Wrote before 0 (hop_lines tm msg id g.count) after g.text
  pub room : 131072 ≤ length before

lines_none : (tm : Terms) (msg : List ℕ) (id : ℕ) → hop_lines tm msg id 0 ≡ []
unfolding hop_lines
lines_none tm msg id = refl

lines_more : (tm : Terms) (msg : List ℕ) (id n : ℕ) → hop_lines tm msg id n ++ hop_of tm msg id n ≡ hop_lines tm msg id (n + 1)
unfolding hop_lines
lines_more tm msg id n = sym (ap (hop_lines tm msg id) (add-one n))

module _ (tm : Terms) (msg : List ℕ) (id : ℕ) (before : List ℕ) where
  module _ (part : PartIn) (d : LinesDue tm msg part before) where
    starts : part.start ≡ (trace_in tm msg).start
    starts = ap (λ (x : PartIn). x.start) d.lies

    lies : Sized tm.layout msg (length msg)
    lies = (sound tm msg (length msg) d.trace d.sound).lies

    -- the header is there, and has this count
    pub header_there : part.start + 36 ≤ length msg
    header_there = omega (arith, starts, lies.least, lies.within)

    pub header_count : number msg (part.start + 32) ≡ parameter_count (trace_in tm msg)
    header_count = rw starts (sym (num_part msg (trace_in tm msg).end ((trace_in tm msg).start + 32) (omega (arith, lies.least))))

    pub begun : Written tm msg id before before (record { count = 0; text = 0 }) 0
    begun =
        record {
          upto = at_start tm msg d.trace d.sound;
          wrote = rw (lines_none tm msg id) (record { bytes = sym (splice-none before 0); place = refl });
          room = d.room;
        }

  module _ (after : List ℕ) (g : Groups) (k : ℕ) (w : Written tm msg id before after g k) where
    most : g.text ≤ 131072
    most = text_most tm msg k g.count g.text w.upto

    pub same_room : length after ≡ length before
    same_room = wrote_length w.wrote (record { fits = omega (arith, most, w.wrote.place, w.room) })

    -- a structure is still due
    module _ (due : k < parameter_count (trace_in tm msg)) where
      still : 0 < w.upto.due
      still = omega (arith, w.upto.total)

      -- it is an Activity group, and its line has room
      module _ (place : ℕ) (e : Some place ≡ spot_in (nth_top tm.layout msg k)) where
        here : Here tm msg k g.count g.text place
        here = is_activity tm msg k g.count g.text w.upto still place e

        pub ready : Reached tm msg id g.count place after g.text
        ready = record {
          placed = here.placed;
          near = here.near;
          within = here.within;
          short = here.short;
          few = here.few;
          room = record { fits = omega (arith, here.room id, same_room, w.room) };
        }

        -- with its line, which ends before `next`
        pub counted : (last : List ℕ) (next : ℕ) → Wrote after g.text (hop_of tm msg id g.count) last next
            → Written tm msg id before last (record { count = g.count + 1; text = next }) (k + 1)
        counted last next a =
            let l = length-append (hop_lines tm msg id g.count) (hop_of tm msg id g.count) in
            let f : Room before 0 (hop_lines tm msg id g.count ++ hop_of tm msg id g.count) = record { fits = omega (arith, here.room id, w.wrote.place, w.room) } in
            record {
              upto = rw a.place (here.next id);
              wrote = wrote_as (lines_more tm msg id g.count) (then w.wrote (λ _. a) f);
              room = w.room;
            }

      -- it is anything else
      pub passed_by : None ≡ spot_in (nth_top tm.layout msg k) → Written tm msg id before after g (k + 1)
      passed_by e = record { upto = is_other tm msg k g.count g.text w.upto still e; wrote = w.wrote; room = w.room }

    -- none is due any more
    pub finished : parameter_count (trace_in tm msg) ≤ k → LinesDone tm msg id before after g
    finished h =
        let e = at_end tm msg k g.count g.text w.upto (omega (arith, w.upto.total)) in
        record {
          count = e.0 ∙ sym (ap groups_of w.upto.reads);
          wrote = w.wrote;
          short = omega (arith, e.1);
        }
