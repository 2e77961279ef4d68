-- THE REPORT of an accepted activity is itself a sound message of one structure, the Activity group, as check sees it.
use mathlib.Core.Path.{◌≡◌, refl, sym, ap, ◌∙◌}
use mathlib.Core.Bool.{Bool, true, false, cond}
use mathlib.Core.List.{List, [], ◌∷◌, ◌++◌, map}
use Prim.Native.Nat.{ℕ, ◌+◌, ◌*◌, ◌≤◌, ◌<◌}
use native.Mathlib.Nat.{zero-add}
use native.Mathlib.Omega.{arith}
use lib.ListN.{length, get_or, take, length-append}
use lib.Seq.{get_or-append-add}
use Rattle.meaning.specs.Bytes.{Part, words, splice, whole}
use Rattle.meaning.specs.Answer.{accepted}
use Rattle.meaning.specs.Structure.{Row}
use Rattle.meaning.specs.Layout.{Layout, report_layout, part_in}
use Rattle.meaning.specs.Message.{field, header_type, command, parameter_count, header_ok, scan, check}
use Rattle.meaning.specs.Trace.{Terms, Trace, tops, groups_in, groups, read_trace}
use Rattle.meaning.specs.Compose.{header_fields, report_header_fields}
use Rattle.meaning.specs.Event.{State, Event, done, Done, Plan, plan_of, done_by, group_of, layout_named, report_of, applied, event}
use Rattle.meaning.specs.Demand3.{is_done}
use Rattle.meaning.proofs.Numbers.{length-words, number-words, number_in}
use Rattle.meaning.proofs.Splices.{length_splice, take_written}
use Rattle.meaning.proofs.Structures.{Match}
use Rattle.meaning.proofs.Walks.{walks_as, shift}
use Rattle.meaning.proofs.Attributes.{tops_append}
use Rattle.meaning.proofs.Layouts.{plain_sized}
use Rattle.meaning.proofs.Sound.{SoundRows, sound, scan_of}
use Rattle.meaning.proofs.Changed.{OneActivity, parts, last_top}
use Rattle.meaning.proofs.Applied.{Group, activity_at}
use Rattle.meaning.proofs.Spans.{spans_of, spans_more}
use Rattle.meaning.proofs.Plans.{plan_ok, allowed}
use Rattle.meaning.proofs.Accepted.{was_done, decide_done}

-- a buffer whose first bytes are the report of a group, for a trace in a layout: a plain message in any case
pub record SoundReport (l : Layout) (report g : List ℕ) : Type 0 where
  pub rows : List Row
  pub scanned : scan (report_layout l) report (36 + length g) ≡ accepted rows
  pub checks : check (report_layout l) report (36 + length g) ≡ accepted (length rows)
  pub one_structure : length (tops rows) ≡ 1
  pub group : spans_of rows ≡ record { place = 36; length = length g } ∷ []
  pub header : (header_type (part_in (report_layout l) report (36 + length g)) ≡ 12) × (command (part_in (report_layout l) report (36 + length g)) ≡ 69)

module _ (l : Layout) (r g : List ℕ) (sg : Group g) (room : 36 + length g ≤ length r) where
  length_front : length (words report_header_fields) ≡ 36
  unfolding report_header_fields header_fields
  length_front = length-words report_header_fields

  length_report : length (report_of g) ≡ 36 + length g
  unfolding report_of
  length_report = length-append (words report_header_fields) g ∙ ap (λ (n : ℕ). n + length g) length_front

  abbrev report : List ℕ
  report = splice r 0 (report_of g)

  fits : 0 + length (report_of g) ≤ length r
  fits = omega (arith, length_report)

  first : take (36 + length g) report ≡ report_of g
  first = take_written r (report_of g) (36 + length g) length_report room

  abbrev m : Part
  m = part_in (report_layout l) report (36 + length g)

  header_word : (k : ℕ) → k < 9 → get_or report_header_fields k 0 < 4294967296 → field m (4 * k) ≡ get_or report_header_fields k 0
  unfolding report_of report_header_fields header_fields
  header_word k h l =
      rw (first, zero-add (4 * k))
      (number_in (words report_header_fields) g (4 * k) (omega (arith, length_front)) ∙ number-words report_header_fields k (omega arith) l)

  header_sound : header_ok m ≡ true
  unfolding header_ok report_header_fields header_fields
  header_sound = rw (header_word 1 (omega arith) (omega arith), header_word 2 (omega arith) (omega arith), header_word 8 (omega arith) (omega arith)) refl

  one_count : parameter_count m ≡ 1
  unfolding report_header_fields header_fields
  one_count = header_word 8 (omega arith) (omega arith)

  match : Match (whole g) 0 m 36 (length g)
  unfolding report_of
  match = record {
    run = λ i h.
        ap (λ (x : ℕ). get_or g x 0) (zero-add i)
        ∙ sym (get_or-append-add (words report_header_fields) g i 0)
        ∙ ap (λ (x : ℕ). get_or (words report_header_fields ++ g) (x + i) 0) length_front
        ∙ ap (λ (l : List ℕ). get_or l (36 + i) 0) (sym first);
  }

  one : OneActivity m 36 (map (shift 36) sg.rows)
  one = activity_at m 36 g sg match refl

  structures : SoundRows m (map (shift 36) sg.rows)
  structures = record { header = header_sound; tree = walks_as refl (sym one_count) refl one.walk }

  one_top : length (tops (map (shift 36) sg.rows)) ≡ 1
  unfolding tops
  one_top =
      let p = parts m 36 (map (shift 36) sg.rows) one in
      ap (λ (l : List Row). length (tops l)) p.split
      ∙ ap length (tops_append [] p.first p.others (last_top m 36 (map (shift 36) sg.rows) one) p.deeper)

  pub sound_report : SoundReport l report g
  unfolding check report_header_fields header_fields spans_of groups groups_in tops
  sound_report =
      let n = sg.most in
      let s : scan (report_layout l) report (36 + length g) ≡ accepted (map (shift 36) sg.rows) =
      scan_of (report_layout l) report (36 + length g) (map (shift 36) sg.rows)
      (plain_sized l report (36 + length g) (omega (arith, length_splice r 0 (report_of g) fits)) (omega arith) (omega arith)) structures in
      record {
        rows = map (shift 36) sg.rows;
        scanned = s;
        checks = rw s refl;
        one_structure = one_top;
        group = spans_more m 36 (map (shift 36) sg.rows) one (length g) refl [];
        header = (header_word 0 (omega arith) (omega arith), header_word 3 (omega arith) (omega arith));
      }

is_reported : (b : Bool) (n : ℕ) → (cond b n 0 ≡ 0 → ⊥) → b ≡ true
is_reported true n h = refl
is_reported false n h = absurd (h refl)

-- THE REPORT OF AN ACCEPTED ACTIVITY IS A SOUND MESSAGE
pub reported_soundly : (tm : Terms) (st : State) (e : Event) (t : Trace) (d : Done) → layout_named e ≡ tm.layout → read_trace tm st.buf st.len ≡ accepted t
    → (event tm.sheet st e).answer ≡ done d → (d.report_length ≡ 0 → ⊥)
    → (d.report_length ≡ 36 + length (group_of e)) × SoundReport tm.layout (event tm.sheet st e).next.report (group_of e)
unfolding applied
reported_soundly tm st e t d named r h z =
    let w = was_done tm st e t d r named h in
    let s = sound tm st.buf st.len t r in
    let p : Plan = plan_of t.values e in
    let a = allowed t.values e (length (group_of e)) st.len (length st.buf) (length st.report) s.message.range (ap is_done w.verdict) in
    let k : done_by (plan_of t.values e) (length (group_of e)) st.len ≡ d = decide_done t.values (plan_of t.values e) (length (group_of e)) st.len _ _ d w.verdict in
    let q : (plan_of t.values e).reports ≡ true = is_reported _ (36 + length (group_of e)) (λ i. z (ap (λ (x : Done). x.report_length) (sym k) ∙ i)) in (
      ap (λ (x : Done). x.report_length) (sym k) ∙ rw q refl,
      rw (w.left, q) (sound_report tm.layout st.report (group_of e) ((plan_ok t.values e).told q w.sound_group) (a.reportable q)),
    )
