-- The n-th structure of the top level, by what the code finds.
use mathlib.Core.Path.{◌≡◌, refl, sym, ap, ◌∙◌}
use mathlib.Core.List.{List}
use Prim.Native.Nat.{ℕ, ◌+◌}
use lib.ListN.{length, take}
use lib.Seq.{length-take-le}
use Rattle.meaning.specs.Answer.{Result, accepted, refused, and_then}
use Rattle.meaning.specs.Walk.{Walked, walk}
use Rattle.meaning.specs.Bytes.{whole}
use Rattle.meaning.specs.Layout.{Layout, located}
use Rattle.meaning.specs.Message.{Stepped}
use Rattle.walk.specs.Passings.{Passage, passage}
use Rattle.layout.specs.Layouts.{part_at}
use Rattle.layout.specs.declared.part.Part.{Part as PartIn}
use Rattle.pcf.proofs.Openings.{reaches, walk_part}
use Rattle.reader.specs.Reading.{standing, nth_top}

module _ (l : Layout) (msg : List ℕ) where
  -- what stands at the place where a walk over the top level ended
  abbrev from : Result Passage → Result Stepped
  from e = and_then e (λ x. standing l msg (record { place = x.behind; depth = 1 }))

  abbrev behind : Result Walked → Result Stepped
  behind w = and_then w (λ x. standing l msg (record { place = x.next; depth = 1 }))

  passed_from : (w : Result Walked) → from (passage w) ≡ behind w
  passed_from (accepted x) = refl
  passed_from (refused k p) = refl

  module _ (n : ℕ) where
    -- no part was located
    pub nowhere : {k q : ℕ} → refused k q ≡ located l msg (length msg) → refused k q ≡ nth_top l msg n
    unfolding nth_top
    nowhere e = rw (← e) refl

    -- in a part the walk over the n before it decides; it is over the bytes up to the part's end, wherever that starts
    by_walk : (p : PartIn) → accepted (part_at msg p) ≡ located l msg (length msg) → (e : Result Passage)
        → e ≡ passage (walk (whole (take p.end msg)) (p.start + 36) 1 n) → from e ≡ nth_top l msg n
    unfolding nth_top
    by_walk p lies e h =
        rw (← lies)
        (ap from h ∙ passed_from (walk (whole (take p.end msg)) (p.start + 36) 1 n)
        ∙ ap behind (sym (walk_part msg p (reaches l msg (length msg) p lies).there (p.start + 36) 1 n)))

    module _ (p : PartIn) (lies : accepted (part_at msg p) ≡ located l msg (length msg)) where
      pub bytes_there : p.end ≡ length (take p.end msg)
      bytes_there = sym (length-take-le p.end msg (reaches l msg (length msg) p lies).there)

      -- a structure of the n before it was refused
      pub faulty : {k q : ℕ} → refused k q ≡ passage (walk (whole (take p.end msg)) (p.start + 36) 1 n) → refused k q ≡ nth_top l msg n
      faulty h = by_walk p lies _ h

      -- it stands behind them
      pub behind_them : (x : Passage) → accepted x ≡ passage (walk (whole (take p.end msg)) (p.start + 36) 1 n)
          → standing l msg (record { place = x.behind; depth = 1 }) ≡ nth_top l msg n
      behind_them x h = by_walk p lies (accepted x) h
