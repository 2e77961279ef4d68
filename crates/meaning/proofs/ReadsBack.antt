-- COMPOSE READS BACK: in either form, for every sound sheet, all values in range, every embedding and user data, and any bytes
-- behind.
use mathlib.Core.Path.{◌≡◌, refl, sym, ap, ◌∙◌}
use mathlib.Core.Bool.{true}
use mathlib.Core.List.{List, [], ◌∷◌, ◌++◌}
use Prim.Native.Nat.{ℕ, ◌+◌, ◌*◌, ◌≤◌, ◌<◌}
use native.Mathlib.Nat.{zero-add}
use native.Mathlib.Omega.{arith}
use lib.ListN.{length, get_or, take, drop}
use lib.Seq.{get_or-take}
use lib.Dec.{eqb}
use borrow.Author.Tests.{eqb-true, le-leb}
use Rattle.meaning.specs.Bytes.{Part, part_of, num, splice}
use Rattle.meaning.specs.Names.{most_bytes}
use Rattle.meaning.specs.Answer.{accepted}
use Rattle.meaning.specs.Layout.{plain, start_of, part_in, user_data, Embedding, embedding_of, laid_out_length}
use Rattle.meaning.specs.Message.{header_type, command, parameter_count, scan, check, tally}
use Rattle.meaning.specs.Listing.{ascii, digits, decimal, column, header_line, row_line, row_lines, end_line, listing_text, listing}
use Rattle.meaning.specs.Trace.{Terms, Trace, sheet_ok, in_range, identifiers_ok, absent, read_trace, read}
use Rattle.meaning.specs.Compose.{header_fields, trace_header_fields, group_fields, composed_fields, composed, composed_message, message_length, values_ok, compose_answer, composed_buffer, compose}
use Rattle.meaning.proofs.Tests.{and_true}
use Rattle.meaning.proofs.Numbers.{number-words, number_same, number_match}
use Rattle.meaning.proofs.Splices.{length_splice, take_written, drop_splice}
use Rattle.meaning.proofs.Sound.{scan_of, read_of}
use Rattle.meaning.proofs.Layouts.{Sized, start_laid, length_laid, embedding_read, user_read, Laid, laid, laid_embedding, Fields}
use Rattle.meaning.proofs.Composed.{integer_rows, composed_rows, places_from, composed_tally, length_fields, length-composed, sheet_length, nine_rows, counted_rows, header_word, structures_sound, composed_sound}

-- what holds of a message that Compose has written into a buffer
pub record ReadsBack (tm : Terms) (v : List ℕ) (e : Embedding) (user buf : List ℕ) (n : ℕ) (after : List ℕ) : Type 0 where
  pub written : (compose tm v e user buf).answer ≡ accepted n
  pub reads : read tm after n ≡ accepted (record { values = v; embedding = embedding_read tm.layout.form e; user_place = start_of tm.layout.form + 180 })
  pub user_data_holds : user_data (part_in tm.layout after n) after n ≡ user_read tm.layout.form user
  pub checks : check tm.layout after n ≡ accepted 9
  pub tallies : tally tm.layout after n ≡ composed_tally
  pub rows : scan tm.layout after n ≡ accepted (composed_rows (start_of tm.layout.form) tm.sheet)
  pub behind : drop n after ≡ drop n buf

module _ (tm : Terms) (v : List ℕ) (e : Embedding) (user buf : List ℕ) (ok : sheet_ok tm.sheet ≡ true) (good : values_ok v ≡ true)
    (fit : (j : ℕ) → j < 8 → get_or v j 0 < 4294967296) (fs : Fields e) (room : message_length tm user ≤ length buf) (most : message_length tm user ≤ most_bytes) where
  abbrev n : ℕ
  n = message_length tm user

  n8 : length v ≡ 8
  unfolding values_ok
  n8 = eqb-true (length v) 8 (and_true (eqb (length v) 8) (in_range v) good).0

  range : in_range v ≡ true
  unfolding values_ok
  range = (and_true (eqb (length v) 8) (in_range v) good).1

  length_part : length (composed tm.sheet v) ≡ 180
  length_part = length-composed tm.sheet v ok n8

  message : List ℕ
  message = composed_message tm v e user

  length_message : length message ≡ n
  unfolding message
  length_message =
      length_laid tm.layout.form e user (composed tm.sheet v) fs.format ∙ ap (laid_out_length tm.layout.form (length user)) length_part

  answered : (compose tm v e user buf).answer ≡ accepted n
  unfolding compose compose_answer
  answered = rw (ok, good, le-leb n (length buf) room, le-leb n most_bytes most) refl

  buffered : (compose tm v e user buf).buffer ≡ splice buf 0 message
  unfolding compose message
  buffered = ap (composed_buffer tm v e user buf) answered

  fits : 0 + length message ≤ length buf
  fits = omega (arith, length_message)

  first : take n (splice buf 0 message) ≡ message
  first = take_written buf message n length_message room

  -- the message that was written, and its part
  abbrev M : Part
  M = part_of (splice buf 0 message) n

  abbrev m : Part
  m = part_in tm.layout (splice buf 0 message) n

  around : Laid tm.layout.form e user (composed tm.sheet v) M
  unfolding message
  around =
      laid e user (composed tm.sheet v) M fs tm.layout.form first (sym (ap (laid_out_length tm.layout.form (length user)) length_part)) (omega (arith, length_part))
      (rw length_part refl) (omega (arith, length_part))

  ends : m.end ≡ m.start + 180
  ends = around.ends ∙ ap (λ (k : ℕ). start_of tm.layout.form + k) length_part

  start_most : start_of tm.layout.form + 180 ≤ n
  start_most = start_laid tm.layout.form (length user) 180

  holds : (k : ℕ) → k < 45 → get_or (composed_fields tm.sheet v) k 0 < 4294967296 → num m (m.start + 4 * k) ≡ get_or (composed_fields tm.sheet v) k 0
  unfolding composed
  holds k h l =
      let p : List ℕ = composed tm.sheet v in
      let z = ends in
      let t = start_most in
      number_same m.bytes M.bytes (m.start + 4 * k) (λ i a b.
      get_or-take m.end (splice buf 0 message) i 0 (omega arith) ∙ sym (get_or-take n (splice buf 0 message) i 0 (omega arith)))
      ∙ sym (number_match p M.bytes 0 m.start 180 (λ i x. around.run i (omega (arith, length_part))) (4 * k) (m.start + 4 * k) (4 * k) (omega arith) refl (omega arith))
      ∙ number-words (composed_fields tm.sheet v) k (omega (arith, length_fields tm.sheet v ok n8)) l

  lies : Sized tm.layout (splice buf 0 message) n
  lies = record {
    there = omega (arith, length_splice buf 0 message fits);
    most = most;
    least = omega (arith, ends);
    within = omega (arith, ends, start_most);
    sound = around.sound;
  }

  scanned : scan tm.layout (splice buf 0 message) n ≡ accepted (composed_rows (start_of tm.layout.form) tm.sheet)
  scanned = scan_of tm.layout (splice buf 0 message) n (composed_rows m.start tm.sheet) lies (structures_sound tm.sheet v ok n8 fit m holds ends)

  abbrev t : Trace
  t = record { rows = composed_rows m.start tm.sheet; places = places_from (m.start + 52) 8; values = v }

  read_back : read_trace tm (splice buf 0 message) n ≡ accepted t
  read_back =
      read_of tm (splice buf 0 message) n t (record { sheet_ok_holds = ok; lies = lies; message = composed_sound tm.sheet v ok n8 fit m holds ends range })

  user_back : user_data m (splice buf 0 message) n ≡ user_read tm.layout.form user
  user_back = ap (λ (k : ℕ). drop k M.bytes) around.ends ∙ around.user_data_holds

  embedding_back : embedding_of tm.layout.form M ≡ embedding_read tm.layout.form e
  unfolding message
  embedding_back = laid_embedding e user (composed tm.sheet v) M fs tm.layout.form first (omega (arith, length_part))

  -- COMPOSE READS BACK
  pub compose_reads_back : ReadsBack tm v e user buf n (compose tm v e user buf).buffer
  unfolding read check tally
  compose_reads_back =
      rw buffered (record {
        written = answered;
        reads = rw (read_back, embedding_back, ends) refl;
        user_data_holds = user_back;
        checks = rw (scanned, nine_rows m.start tm.sheet (sheet_length tm.sheet ok)) refl;
        tallies = rw scanned (counted_rows m.start tm.sheet (sheet_length tm.sheet ok));
        rows = scanned;
        behind = ap (λ (k : ℕ). drop k (splice buf 0 message)) (sym (zero-add (length message) ∙ length_message)) ∙ drop_splice buf 0 message fits
            ∙ ap (λ (k : ℕ). drop k buf) (zero-add (length message) ∙ length_message);
      })

  -- the header line of the listing
  header_numbers : (header_type m ≡ 10) × (command m ≡ 75) × (parameter_count m ≡ 1)
  unfolding trace_header_fields header_fields group_fields
  header_numbers =
      let h = header_word tm.sheet v ok n8 fit m holds ends in
      (h 0 (omega arith) (omega arith), h 3 (omega arith) (omega arith), h 8 (omega arith) (omega arith))

-- THE LISTING of a composed message under the made-up sheet is the rules' text, whatever the values
abbrev pub made_up : Terms
made_up = record { sheet = 1201 ∷ 1202 ∷ 1203 ∷ 1204 ∷ 1205 ∷ 1206 ∷ 1207 ∷ 1208 ∷ []; layout = record { form = plain } }

pub made_up_sound : sheet_ok made_up.sheet ≡ true
unfolding sheet_ok identifiers_ok absent
made_up_sound = refl

pub document_listing : List ℕ
document_listing =
    ascii "pcf 10 75 1 180\n" ++ (ascii "1 36 20 8003 16\n" ++ (ascii "2 52 3 1201 16\n" ++ (ascii "2 68 3 1202 16\n" ++ (ascii "2 84 3 1203 16\n"
    ++ (ascii "2 100 3 1204 16\n" ++ (ascii "2 116 3 1205 16\n" ++ (ascii "2 132 3 1206 16\n" ++ (ascii "2 148 3 1207 16\n" ++ (ascii "2 164 3 1208 16\n"
    ++ ascii "end 9\n")))))))))

header_text_lem : (m : Part) → header_type m ≡ 10 → command m ≡ 75 → parameter_count m ≡ 1
    → listing_text m 180 (composed_rows 0 made_up.sheet) ≡ document_listing
unfolding listing_text header_line row_lines row_line end_line column decimal digits composed_rows integer_rows document_listing
header_text_lem m a b c = rw (a, b, c) refl

pub composed-listing : (v : List ℕ) (e : Embedding) (user buf : List ℕ) → values_ok v ≡ true → ((j : ℕ) → j < 8 → get_or v j 0 < 4294967296) → Fields e
    → 180 ≤ length buf → listing made_up.layout (compose made_up v e user buf).buffer 180 ≡ document_listing
unfolding listing message
composed-listing v e user buf good fit fs room =
    let h = header_numbers made_up v e user buf made_up_sound good fit fs room (omega arith) in
    rw (buffered made_up v e user buf made_up_sound good fit fs room (omega arith), scanned made_up v e user buf made_up_sound good fit fs room (omega arith))
    (header_text_lem _ h.0 h.1 h.2)
