-- What is written one after the other is the message that an event leaves.
use mathlib.Core.Path.{◌≡◌, refl, sym, ap, ◌∙◌}
use mathlib.Core.Bool.{Bool, true, false}
use mathlib.Core.List.{List, ◌++◌}
use Prim.Native.Nat.{ℕ, ◌+◌, ◌-◌, ◌≤◌}
use native.Mathlib.Omega.{arith}
use lib.ListN.{length, take, drop, length-drop}
use lib.Seq.{length-take-le, get_or-take, get_or-drop, ext_get_or}
use Rattle.meaning.specs.Bytes.{number, bytes4, words, splice, store}
use Rattle.meaning.specs.Layout.{user_data, lengthened}
use Rattle.meaning.specs.Compose.{header_fields, report_header_fields}
use Rattle.meaning.specs.Event.{grown, report_of}
use Rattle.meaning.proofs.Numbers.{length-words}
use Rattle.meaning.proofs.Splices.{splice_next, splice_front}
use Rattle.meaning.proofs.Stores.{length_store, drop-store}
use Rattle.meaning.proofs.Parts.{num_part}
use Rattle.meaning.proofs.Layouts.{length_lengthened, drop_lengthened}
use Rattle.layout.specs.Layouts.{form_of, part_at}
use Rattle.layout.specs.declared.part.Layout.{Layout}
use Rattle.layout.specs.declared.part.Part.{Part}
use Rattle.event.specs.Written.{written_in, Writable}

-- the bytes from one place up to another
between : (b : List ℕ) (from to : ℕ) → from ≤ to → to ≤ length b → take (to - from) (drop from b) ≡ drop from (take to b)
between b from to h k =
    let n : length (take (to - from) (drop from b)) ≡ to - from = length-take-le (to - from) (drop from b) (omega (arith, length-drop from b)) in
    ext_get_or 0 (take (to - from) (drop from b)) (drop from (take to b)) (n ∙ omega (arith, length-drop from (take to b), length-take-le to b k)) (λ i j.
    get_or-take (to - from) (drop from b) i 0 (omega arith) ∙ get_or-drop from b i 0 ∙ sym (get_or-take to b (from + i) 0 (omega arith)) ∙ sym (get_or-drop from (take to b) i 0))

module _ (buf : List ℕ) (len : ℕ) (l : Layout) (p : Part) (at value : ℕ) (appends : Bool) (g : List ℕ) where
  pub raised_only : appends ≡ false → splice buf at (bytes4 (value + 1)) ≡ written_in buf len l p at value appends g
  unfolding store
  raised_only e = rw e refl

  module _ (w : Writable buf len l p at value appends g) (e : appends ≡ true) where
    abbrev b₁ : List ℕ
    b₁ = store (part_at buf p) buf at (value + 1)

    abbrev b₂ : List ℕ
    b₂ = lengthened (form_of l.form) (part_at buf p) (length g) b₁

    abbrev b₃ : List ℕ
    b₃ = store (part_at buf p) b₂ (p.start + 32) (number buf (p.start + 32) + 1)

    length_b₁ : length b₁ ≡ length buf
    length_b₁ = length_store (part_at buf p) buf at (value + 1) (omega (arith, w.inside, w.within, w.message))

    length_b₂ : length b₂ ≡ length buf
    length_b₂ =
        length_lengthened (part_at buf p) (length g) b₁ (form_of l.form) (omega (arith, length_b₁, w.starts, w.header, w.within, w.message)) ∙ length_b₁

    length_b₃ : length b₃ ≡ length buf
    length_b₃ = length_store (part_at buf p) b₂ (p.start + 32) _ (omega (arith, length_b₂, w.header, w.within, w.message)) ∙ length_b₂

    -- nothing was written behind the part
    behind : drop p.end b₃ ≡ drop p.end buf
    behind =
        let k = w.within in
        let m = w.message in
        drop-store p.end (part_at buf p) b₂ (p.start + 32) _ (omega (arith, w.header)) (omega (arith, length_b₂))
        ∙ drop_lengthened (part_at buf p) (length g) b₁ (form_of l.form) p.end (omega (arith, w.starts, w.header)) (omega (arith, length_b₁))
        ∙ drop-store p.end (part_at buf p) buf at (value + 1) w.inside (omega arith)

    user : take (len - p.end) (drop p.end b₃) ≡ user_data (part_at buf p) buf len
    user = ap (take (len - p.end)) behind ∙ between buf p.end len w.within w.message

    pub grown_in : splice (splice b₃ (p.end + length g) (take (len - p.end) (drop p.end b₃))) p.end g ≡ written_in buf len l p at value appends g
    unfolding grown
    grown_in =
        let n : length (take (len - p.end) (drop p.end b₃)) ≡ len - p.end =
        length-take-le (len - p.end) (drop p.end b₃) (omega (arith, length-drop p.end b₃, length_b₃, w.message)) in
        splice_front b₃ (p.end + length g) (take (len - p.end) (drop p.end b₃)) p.end g refl (omega (arith, n, length_b₃, w.group_fits e, w.within))
        ∙ ap (λ (x : List ℕ). splice b₃ p.end (g ++ x)) user
        ∙ rw (e, num_part buf p.end (p.start + 32) (omega (arith, w.header))) refl

-- a report: its header, and behind it the group
pub header_and_group : (r g : List ℕ) → 36 + length g ≤ length r → splice (splice r 0 (words report_header_fields)) 36 g ≡ splice r 0 (report_of g)
unfolding report_of report_header_fields header_fields
header_and_group r g h = splice_next r 0 (words report_header_fields) 36 g (omega (arith, length-words report_header_fields)) h
