-- What Compose comes to, by the tests that it makes: sheet, values, and the room for the message laid out.
use mathlib.Core.Path.{◌≡◌, refl, sym, ap, ◌∙◌}
use mathlib.Core.Bool.{true, false}
use mathlib.Core.List.{List}
use Prim.Native.Nat.{ℕ}
use lib.ListN.{length}
use borrow.Author.Tests.{eq-eqb}
use Rattle.meaning.specs.Bytes.{splice}
use Rattle.meaning.specs.Names.{bad_sheet, bad_attribute}
use Rattle.meaning.specs.Answer.{Result, accepted, refused}
use Rattle.meaning.specs.Layout.{Embedding}
use Rattle.meaning.specs.Trace.{Terms, sheet_ok, in_range}
use Rattle.meaning.specs.Compose.{composed_message, message_length, values_ok, compose_answer, composed_buffer, Composed, compose}
use Rattle.layout.specs.Layouts.{fitting}

abbrev pub compose_ends : Result ℕ → List ℕ → Composed
compose_ends r buf = record { answer = r; buffer = buf }

module _ (tm : Terms) (v : List ℕ) (e : Embedding) (user buf : List ℕ) where
  pub bad_sheet_holds : sheet_ok tm.sheet ≡ false → compose_ends (refused bad_sheet 0) buf ≡ compose tm v e user buf
  unfolding compose compose_answer
  bad_sheet_holds h = rw h refl

  module _ (ok : sheet_ok tm.sheet ≡ true) (eight : length v ≡ 8) where
    values_ok_lem : values_ok v ≡ in_range v
    unfolding values_ok
    values_ok_lem = rw (eq-eqb (length v) 8 eight) refl

    pub bad_values : in_range v ≡ false → compose_ends (refused bad_attribute 0) buf ≡ compose tm v e user buf
    unfolding compose compose_answer
    bad_values h = rw (ok, values_ok_lem, h) refl

    -- behind these two the answer is that of the room
    pub by_room : in_range v ≡ true → (a : Result ℕ) → a ≡ fitting (message_length tm user) (length buf)
        → compose_ends a (composed_buffer tm v e user buf a) ≡ compose tm v e user buf
    unfolding compose compose_answer
    by_room range a h =
        let said : compose_answer tm v user buf ≡ fitting (message_length tm user) (length buf) = rw (ok, values_ok_lem, range) refl in
        ap (λ (x : Result ℕ). compose_ends x (composed_buffer tm v e user buf x)) (h ∙ sym said)

    -- and the buffer, where there is room, has the message at its start
    pub written : in_range v ≡ true → (n : ℕ) → accepted n ≡ fitting (message_length tm user) (length buf) → (b : List ℕ)
        → b ≡ splice buf 0 (composed_message tm v e user) → compose_ends (accepted n) b ≡ compose tm v e user buf
    written range n h b w = ap (compose_ends (accepted n)) w ∙ by_room range (accepted n) h
