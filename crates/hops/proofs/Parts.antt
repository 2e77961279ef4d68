-- The parts of the message that were handed out, and the line that is made of them.
use mathlib.Core.Path.{◌≡◌, sym, ap, ◌∙◌}
use mathlib.Core.List.{List}
use Prim.Native.Nat.{ℕ, ◌+◌, ◌≤◌}
use native.Mathlib.Omega.{arith}
use lib.ListN.{length, drop, length-take, length-drop}
use denote.Ref.{Bor}
use Rattle.meaning.specs.Trace.{Terms}
use Rattle.meaning.specs.Activity.{Span, bytes_in, activity_group, name_of, name_bytes}
use Rattle.text.specs.Wrote.{Room, Wrote}
use Rattle.text.proofs.Printed.{wrote_as, room_as}
use Rattle.activities.specs.Spans.{SliceAt}
use Rattle.activities.specs.Naming.{Gives}
use Rattle.activities.proofs.Namings.{gives_bytes}
use Rattle.hops.specs.Groups.{Reached}
use Rattle.hops.specs.Hops.{no_name, hop_line, hop_of}

-- a part that ends in the message is as long as its span says
part_length : (buf : List ℕ) (s : Span) → s.place + s.length ≤ length buf → length (bytes_in buf s) ≡ s.length
part_length buf s h = rw (length-take s.length (drop s.place buf), length-drop s.place buf) (omega arith)

-- THE LINE of the n-th Activity group, of the parts that were handed out: the group, and a name or what stands for it
module _ {tm : Terms} {msg group : Bor (List ℕ)} (other name : Bor (List ℕ)) {id n place at : ℕ} {out : List ℕ} (r : Reached tm msg.now id n place out at)
    (g : SliceAt msg (activity_group tm msg.now (length msg.now) n) group) (s : Gives msg other (name_of tm msg.now (length msg.now) n id) name) (o : other.now ≡ no_name) where
  size : length group.now ≡ (activity_group tm msg.now (length msg.now) n).length
  size = ap length g.bytes ∙ part_length msg.now (activity_group tm msg.now (length msg.now) n) (omega (arith, r.placed, r.within))

  bytes : name.now ≡ name_bytes msg.now no_name (name_of tm msg.now (length msg.now) n id)
  bytes =
      gives_bytes msg other name (name_of tm msg.now (length msg.now) n id) s
      ∙ ap (λ (x : List ℕ). name_bytes msg.now x (name_of tm msg.now (length msg.now) n id)) o

  line : hop_line (n + 1) place (length group.now) name.now ≡ hop_of tm msg.now id n
  unfolding hop_of
  line = let a = r.placed in let b = size in let c = bytes in cc

  pub line_room : Room out at (hop_line (n + 1) place (length group.now) name.now)
  line_room = room_as (sym line) r.room

  pub line_wrote : {after : List ℕ} {behind : ℕ} → Wrote out at (hop_line (n + 1) place (length group.now) name.now) after behind → Wrote out at (hop_of tm msg.now id n) after behind
  line_wrote w = wrote_as line w
