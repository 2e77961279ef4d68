-- PRINT, by what Read answers, over plain lists and numbers.
use mathlib.Core.Path.{◌≡◌, sym, ap, ◌∙◌}
use mathlib.Core.List.{List, ◌++◌}
use Prim.Native.Nat.{ℕ, ◌≤◌, ◌<◌}
use native.Mathlib.Omega.{arith}
use lib.ListN.{length, length-append}
use Rattle.meaning.specs.Answer.{accepted, refused}
use Rattle.meaning.specs.Trace.{Terms, Trace, activities, read_trace}
use Rattle.meaning.specs.Listing.{newline, end_line, refusal_line}
use Rattle.meaning.proofs.Decimals.{column_ten}
use Rattle.meaning.proofs.Outcomes.{read_refused}
use Rattle.text.specs.Wrote.{Room, Wrote}
use Rattle.text.proofs.Laws.{then}
use Rattle.trace.specs.Locations.{traced_by}
use Rattle.trace.specs.declared.location.Traced.{Traced}
use Rattle.trace.proofs.Locating.{traced_refused, Found, found}
use Rattle.hops.specs.Hops.{hop_lines, hops_in, hops_text}
use Rattle.text.specs.Prints.{Prints}
use Rattle.hops.specs.Groups.{groups_of, LinesDue, LinesDone}
use Rattle.hops.specs.declared.groups.Groups.{Groups}
use Rattle.text.proofs.Printed.{wrote_as, wrote_length, prints}

end_most : (n : ℕ) → length (end_line n) ≤ 15
unfolding end_line
end_most n = rw length-append (omega (arith, column_ten n newline))

module _ (tm : Terms) (msg : List ℕ) (id : ℕ) (before : List ℕ) where
  -- a message or a sheet that is refused
  module _ (k p : ℕ) (h : refused k p ≡ traced_by 0 tm msg (length msg)) where
    lost : read_trace tm msg (length msg) ≡ refused k p
    lost = traced_refused 0 tm msg (length msg) k p h

    pub lost_place : p < 4294967296
    lost_place = omega (arith, (read_refused tm msg (length msg) k p lost).place)

    pub lost_text : (after : List ℕ) (r : ℕ) → Wrote before 0 (refusal_line k p) after r → Prints (hops_text tm msg id) before after r
    unfolding hops_text
    lost_text after r w = prints (wrote_as (sym (ap (hops_in tm msg id) lost)) w)

  -- a sound trace
  module _ (t : Traced) (h : accepted t ≡ traced_by 0 tm msg (length msg)) (room : 131072 ≤ length before) where
    abbrev its : Found 0 tm msg (length msg) t
    its = found 0 tm msg (length msg) t h

    abbrev trace : Trace
    trace = record { rows = its.rows; places = t.places; values = t.values }

    pub due : LinesDue tm msg t.part before
    due = record { trace = trace; sound = its.read; lies = its.part; room = room }

    module _ (middle : List ℕ) (g : Groups) (d : LinesDone tm msg id before middle g) where
      both : Room before 0 (hop_lines tm msg id g.count ++ end_line g.count)
      both = record { fits = omega (arith, d.short, d.wrote.place, end_most g.count, length-append (hop_lines tm msg id g.count) (end_line g.count)) }

      pub end_room : Room middle g.text (end_line g.count)
      end_room =
          let l = wrote_length d.wrote (record { fits = omega (arith, d.short, d.wrote.place) }) in
          record { fits = omega (arith, d.short, end_most g.count) }

      whole : hop_lines tm msg id g.count ++ end_line g.count ≡ hops_text tm msg id
      unfolding hops_text
      whole =
          let e : g.count ≡ length (activities its.rows) = d.count ∙ ap groups_of its.read in
          ap (λ (n : ℕ). hop_lines tm msg id n ++ end_line n) e ∙ sym (ap (hops_in tm msg id) its.read)

      pub found_text : (after : List ℕ) (r : ℕ) → Wrote middle g.text (end_line g.count) after r → Prints (hops_text tm msg id) before after r
      found_text after r w = prints (wrote_as whole (then d.wrote (λ _. w) both))
