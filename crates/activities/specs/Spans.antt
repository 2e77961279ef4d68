-- A part of the message as the code hands it out, in the meaning's terms.
use Rattle.std.specs.Prelude.{ℕ, ◌+◌, ◌≡◌, List}
use Rattle.std.specs.Borrow.{Bor}
use Rattle.meaning.specs.Activity.{Span as Meant, bytes_in}
use Rattle.activities.specs.declared.group.Span.{Span}

abbrev pub span_in : Span → Meant
span_in s = record { place = s.place; length = s.length }

-- r is the slice of the lent msg that the span s names: it lies in the same memory, as far behind msg's start as s says, and has its bytes
pub record SliceAt (msg : Bor (List ℕ)) (s : Meant) (r : Bor (List ℕ)) : Type 0 where
  pub memory : r.ref_ptr.0 ≡ msg.ref_ptr.0
  pub start : r.ref_ptr.1 ≡ s.place + msg.ref_ptr.1
  pub bytes : r.now ≡ bytes_in msg.now s
