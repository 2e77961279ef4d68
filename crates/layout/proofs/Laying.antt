-- What stands around a part: the length with it, its bytes, and their meaning.
use mathlib.Core.Path.{◌≡◌, refl, sym, ap, ◌∙◌}
use mathlib.Core.List.{List, ◌++◌, append_assoc, append-nil}
use Prim.Native.Nat.{ℕ, ◌+◌, ◌≤◌}
use native.Mathlib.Nat.{zero-add}
use native.Mathlib.Omega.{arith}
use lib.ListN.{length, take, drop, length-append, length-drop}
use lib.Seq.{length-take-le, get_or-take, get_or-drop, ext_get_or}
use Rattle.meaning.specs.Bytes.{part_of, bytes4, words, splice}
use Rattle.meaning.specs.Layout.{plain, embedded, identifier, Embedding, embedding_of, embedded_header, laid_out}
use Rattle.meaning.proofs.Numbers.{length-bytes4}
use Rattle.meaning.proofs.Splices.{length_splice, splice_next, splice_front}
use Rattle.meaning.proofs.Layouts.{length_header}
use Rattle.layout.specs.Layouts.{Around}

-- THE EMBEDDING, read from the first bytes of a message
pub format_read : (buf : List ℕ) → 32 ≤ length buf → take 8 (drop 20 buf) ≡ (embedding_of embedded (part_of buf 32)).format
unfolding embedding_of
format_read buf h =
    let n : length (take 8 (drop 20 buf)) ≡ 8 = length-take-le 8 (drop 20 buf) (omega (arith, length-drop 20 buf)) in
    let m : length (take 8 (drop 20 (take 32 buf))) ≡ 8 =
    length-take-le 8 (drop 20 (take 32 buf)) (omega (arith, length-drop 20 (take 32 buf), length-take-le 32 buf h)) in
    ext_get_or 0 (take 8 (drop 20 buf)) (take 8 (drop 20 (take 32 buf))) (n ∙ sym m) (λ i j.
    get_or-take 8 (drop 20 buf) i 0 (omega arith) ∙ get_or-drop 20 buf i 0 ∙ sym (get_or-take 32 buf (20 + i) 0 (omega arith))
    ∙ sym (get_or-drop 20 (take 32 buf) i 0) ∙ sym (get_or-take 8 (drop 20 (take 32 buf)) i 0 (omega arith)))

-- THE EMBEDDED HEADER, written field by field
behind : (d s xs : List ℕ) (n : ℕ) (ys : List ℕ) → s ≡ splice d 0 xs → n ≡ length xs → n + length ys ≤ length d → splice s n ys ≡ splice d 0 (xs ++ ys)
behind d s xs n ys e l h = ap (λ (x : List ℕ). splice x n ys) e ∙ splice_next d 0 xs n ys (l ∙ sym (zero-add (length xs))) h

pub header_written : (d : List ℕ) (e : Embedding) (end : ℕ) → 32 ≤ length d → length e.format ≡ 8
    → splice (splice (splice (splice (splice (splice (splice d 0 identifier) 4 (bytes4 1)) 8 (bytes4 end)) 12 (bytes4 e.encoding)) 16 (bytes4 e.coded_char_set_id)) 20 e.format) 28 (bytes4 e.flags)
    ≡ splice d 0 (embedded_header e end)
unfolding embedded_header words
header_written d e end h eight =
    let four : (v : ℕ) → length (bytes4 v) ≡ 4 = length-bytes4 in
    let x₁ : List ℕ = identifier ++ bytes4 1 in
    let n₁ : 8 ≡ length (identifier ++ bytes4 1) = sym (length-append identifier (bytes4 1) ∙ omega (arith, four 1)) in
    let n₂ : 12 ≡ length (identifier ++ bytes4 1 ++ bytes4 end) = sym (length-append (identifier ++ bytes4 1) (bytes4 end) ∙ omega (arith, four end)) in
    let n₃ : 16 ≡ length (identifier ++ bytes4 1 ++ bytes4 end ++ bytes4 e.encoding) = sym (length-append (identifier ++ bytes4 1 ++ bytes4 end) (bytes4 e.encoding) ∙ omega (arith, four e.encoding)) in
    let n₄ : 20 ≡ length (identifier ++ bytes4 1 ++ bytes4 end ++ bytes4 e.encoding ++ bytes4 e.coded_char_set_id) = sym (length-append (identifier ++ bytes4 1 ++ bytes4 end ++ bytes4 e.encoding) (bytes4 e.coded_char_set_id) ∙ omega (arith, four e.coded_char_set_id)) in
    let n₅ : 28 ≡ length (identifier ++ bytes4 1 ++ bytes4 end ++ bytes4 e.encoding ++ bytes4 e.coded_char_set_id ++ e.format) = sym (length-append (identifier ++ bytes4 1 ++ bytes4 end ++ bytes4 e.encoding ++ bytes4 e.coded_char_set_id) e.format ∙ omega (arith, eight)) in
    behind d _ _ 28 (bytes4 e.flags)
    (behind d _ _ 20 e.format
    (behind d _ _ 16 (bytes4 e.coded_char_set_id)
    (behind d _ _ 12 (bytes4 e.encoding)
    (behind d _ _ 8 (bytes4 end)
    (behind d _ identifier 4 (bytes4 1) refl refl (omega (arith, four 1)))
    n₁ (omega (arith, four end)))
    n₂ (omega (arith, four e.encoding)))
    n₃ (omega (arith, four e.coded_char_set_id)))
    n₄ (omega (arith, eight)))
    n₅ (omega (arith, four e.flags))
    ∙ ap (splice d 0) (simp (append_assoc, append-nil))

-- WHAT STANDS AROUND A PART
pub around_plain : (e : Embedding) (size : ℕ) (user buf : List ℕ) → Around plain e size user buf buf 0
unfolding laid_out
around_plain e size user buf = record { starts = refl; as_long = refl; around = λ p h. refl }

module _ (e : Embedding) (size : ℕ) (user buf : List ℕ) (eight : length e.format ≡ 8) (room : 32 + size + length user ≤ length buf) where
  abbrev header : List ℕ
  header = embedded_header e (32 + size)

  abbrev fronted : List ℕ
  fronted = splice buf 0 header

  length_fronted : length fronted ≡ length buf
  length_fronted = length_splice buf 0 header (omega (arith, length_header e (32 + size) eight))

  pub around_embedded : Around embedded e size user buf (splice fronted (32 + size) user) 32
  unfolding laid_out
  around_embedded = record {
    starts = refl;
    as_long = length_splice fronted (32 + size) user (omega (arith, length_fronted)) ∙ length_fronted;
    around = λ p h.
        splice_front fronted (32 + size) user 32 p (omega arith) (omega (arith, length_fronted))
        ∙ splice_next buf 0 header 32 (p ++ user) (omega (arith, length_header e (32 + size) eight)) (omega (arith, length-append p user))
        ∙ ap (λ (n : ℕ). splice buf 0 (embedded_header e (32 + n) ++ (p ++ user))) (sym h);
  }
