-- What comes before the structures, and the rows of a message by it.
use mathlib.Core.Path.{◌≡◌, refl, sym, ap, ◌∙◌}
use mathlib.Core.Bool.{Bool, true, false}
use mathlib.Core.List.{List}
use Prim.Native.Nat.{ℕ, ◌≤◌}
use native.Mathlib.Omega.{arith}
use lib.ListN.{length, take}
use Rattle.meaning.specs.Bytes.{Part, whole, part_of}
use Rattle.meaning.specs.Names.{bad_header}
use Rattle.meaning.specs.Answer.{Result, accepted, refused, and_then}
use Rattle.meaning.specs.Structure.{structure_at}
use Rattle.meaning.specs.Layout.{Layout, located}
use Rattle.meaning.specs.Message.{parameter_count, header_ok, rows_of, scan}
use Rattle.meaning.specs.Walk.{walk}
use Rattle.meaning.proofs.Fuel.{walk_from, structure_from}
use Rattle.meaning.proofs.Tests.{unless_accepted, then_accepted}
use Rattle.meaning.proofs.Layouts.{inside}
use Rattle.wire.proofs.Parts.{whole-take}
use Rattle.layout.specs.Layouts.{part_at}
use Rattle.layout.specs.declared.part.Part.{Part as PartIn}
use Rattle.pcf.specs.Messages.{Opened, opened_in, opened, structures_of, Reaches}

-- the walk is over the bytes up to the part's end, and so is a structure met, wherever the part starts
module _ (buf : List ℕ) (p : PartIn) (h : p.end ≤ length buf) (at d : ℕ) where
  pub walk_part : (n : ℕ) → walk (part_at buf p) at d n ≡ walk (whole (take p.end buf)) at d n
  walk_part n = walk_from p.start (part_of buf p.end) at d n ∙ ap (λ (m : Part). walk m at d n) (sym (whole-take buf p.end h))

  pub structure_part : structure_at (part_at buf p) at d ≡ structure_at (whole (take p.end buf)) at d
  structure_part = structure_from p.start (part_of buf p.end) at d ∙ ap (λ (m : Part). structure_at m at d) (sym (whole-take buf p.end h))

module _ (l : Layout) (buf : List ℕ) (len : ℕ) where
  pub reaches : (p : PartIn) → accepted (part_at buf p) ≡ located l buf len → Reaches buf p
  reaches p e =
      let i = inside l buf len (part_at buf p) (sym e) in
      record { room = i.room; there = omega (arith, i.within, i.there); most = omega (arith, i.within, i.most) }

  -- a part that was opened was located, and has a sound header with this count
  pub record Begun (o : Opened) : Type 0 where
    pub lies : located l buf len ≡ accepted o.part
    pub sound : header_ok o.part ≡ true
    pub counts : parameter_count o.part ≡ o.count

  pub begun : (o : Opened) → opened l buf len ≡ accepted o → Begun o
  unfolding opened opened_in
  begun o e =
      let a = then_accepted (located l buf len) opened_in o e in
      let h = unless_accepted (header_ok a.0) bad_header 0 _ o a.2 in
      let q : ◌≡◌ {A = Opened} (record { part = a.0; count = parameter_count a.0 }) o = (let z = h.1 in cc) in
      let m : a.0 ≡ o.part = ap (λ (x : Opened). x.part) q in
      record {
        lies = a.1 ∙ ap accepted m;
        sound = ap header_ok (sym m) ∙ h.0;
        counts = ap parameter_count (sym m) ∙ ap (λ (x : Opened). x.count) q;
      }

  -- and so it lies in the buffer
  pub opened_reaches : (p : PartIn) (n : ℕ) → accepted (record { part = part_at buf p; count = n }) ≡ opened l buf len → Reaches buf p
  opened_reaches p n e = reaches p (sym (begun _ (sym e)).lies)

  -- its structures come next, and nothing may follow
  pub scan_opened : scan l buf len ≡ and_then (opened l buf len) (λ o. structures_of o.part o.count)
  unfolding scan opened rows_of opened_in
  scan_opened = go (located l buf len)
    where
      rows : (m : Part) (b : Bool) → header_ok m ≡ b → rows_of m ≡ and_then (opened_in m) (λ o. structures_of o.part o.count)
      rows m true e = rw e refl
      rows m false e = rw e refl

      go : (r : Result Part) → and_then r rows_of ≡ and_then (and_then r opened_in) (λ o. structures_of o.part o.count)
      go (accepted m) = rows m (header_ok m) refl
      go (refused k q) = refl
