-- What a reader finds. The message is the whole list of bytes.
use Rattle.std.specs.Prelude.{ℕ, ◌+◌, List, length}
use Rattle.meaning.specs.Answer.{Result, and_then}
use Rattle.meaning.specs.Walk.{walk}
use Rattle.meaning.specs.Layout.{Layout, start_of, located}
use Rattle.meaning.specs.Message.{first_place, Stepped, step}
use Rattle.pcf.specs.declared.message.Cursor.{Cursor}

-- the first structure stands behind the PCF header, at the top level
abbrev pub start : Layout → Cursor
start l = record { place = start_of l.form + 36; depth = 1 }

-- the structure at a cursor and the place behind it, or 1 or 18, then 3 or 4
abbrev pub standing : Layout → List ℕ → Cursor → Result Stepped
standing l msg at = step l msg (length msg) at.place at.depth

-- the structure behind the first n of the top level and all that is inside them; the first fault before it is the answer
unfoldable pub nth_top : Layout → List ℕ → ℕ → Result Stepped
nth_top l msg n =
    and_then (located l msg (length msg))
    (λ m. and_then (walk m (first_place m) 1 n) (λ w. standing l msg (record { place = w.next; depth = 1 })))
