-- The part of a message by its form, with what the code has found out on the way.
use mathlib.Core.Path.{◌≡◌, refl, sym, ap, ◌∙◌}
use mathlib.Core.Bool.{true, false, ◌&&◌}
use mathlib.Core.List.{List}
use Prim.Native.Nat.{ℕ, ◌+◌, ◌≤◌}
use native.Mathlib.Omega.{arith}
use lib.ListN.{length, take}
use lib.Dec.{leb}
use borrow.Author.Tests.{leb-true}
use Rattle.meaning.specs.Bytes.{whole, part_of, number, num}
use Rattle.meaning.specs.Names.{most_bytes, bad_length, bad_embedded_header}
use Rattle.meaning.specs.Answer.{accepted, refused}
use Rattle.meaning.specs.Layout.{embedded, start_of, embedded_ok, length_ok, located}
use Rattle.meaning.proofs.Tests.{and_true}
use Rattle.meaning.proofs.Parts.{num_part}
use Rattle.meaning.proofs.Layouts.{plain_ok}
use Rattle.wire.proofs.Parts.{whole-take}
use Rattle.layout.specs.Layouts.{form_of, layout_of, part_at}
use Rattle.layout.specs.declared.part.Form.{Form}
use Rattle.layout.specs.declared.part.Form.TheVariants.{Plain, Embedded}
use Rattle.layout.specs.declared.part.Layout.{Layout}

module _ (l : Layout) (buf : List ℕ) (len start : ℕ) (starts : start ≡ start_of (form_of l.form)) where
  -- the test of the length
  length_test : length_ok (layout_of l) buf len ≡ leb len (length buf) && (leb len most_bytes && leb (start + 36) len)
  unfolding length_ok
  length_test = rw starts refl

  pub short : leb len (length buf) && (leb len most_bytes && leb (start + 36) len) ≡ false → refused bad_length 0 ≡ located (layout_of l) buf len
  unfolding located
  short e = rw (length_test, e) refl

  module _ (ok : leb len (length buf) && (leb len most_bytes && leb (start + 36) len) ≡ true) where
    pub found_plain : l.form ≡ Plain → accepted (part_at buf (record { start = start; end = len })) ≡ located (layout_of l) buf len
    unfolding located
    found_plain e = rw (length_test, ok, starts, e, plain_ok (part_of buf len)) refl

    module _ (e : l.form ≡ Embedded) where
      -- both headers are there
      pub headers : (68 ≤ len) × (len ≤ length buf)
      headers =
          let s : start ≡ 32 = starts ∙ ap (λ (f : Form). start_of (form_of f)) e in
          let a = and_true (leb len (length buf)) _ ok in
          let b = and_true (leb len most_bytes) _ a.1 in
          (omega (arith, leb-true (start + 36) len b.1), leb-true len (length buf) a.0)

      -- the whole message is what is tested
      lent : whole (take len buf) ≡ part_of buf len
      lent = whole-take buf len headers.1

      pub unsound : embedded_ok embedded (whole (take len buf)) ≡ false → refused bad_embedded_header 0 ≡ located (layout_of l) buf len
      unfolding located
      unsound h = rw (length_test, ok, e, rw lent at h) refl

      pub found_embedded : embedded_ok embedded (whole (take len buf)) ≡ true → (end : ℕ) → end ≡ number buf 8
          → accepted (part_at buf (record { start = start; end = end })) ≡ located (layout_of l) buf len
      unfolding located
      found_embedded h end n =
          let m : num (part_of buf len) 8 ≡ end = num_part buf len 8 (omega (arith, headers.0)) ∙ sym n in
          rw (length_test, ok, starts, e, rw lent at h, m) refl
