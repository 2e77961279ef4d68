-- Words at the start of a text, and a zero byte behind them.
use Rattle.std.proofs.Common.{◌≡◌, refl, ap, ◌∙◌, List, ℕ, ◌<◌, length, set, arith}
use native.Mathlib.Nat.{zero-add}
use Rattle.meaning.specs.Bytes.{splice}
use Rattle.meaning.proofs.Splices.{splice_push}
use Rattle.words.specs.Words.{words_room, Says}

pub with_zero : (words before copied : List ℕ) → length words < words_room → length before ≡ words_room → copied ≡ splice before 0 words
    → Says words before (length words) (set copied (length words) 0)
with_zero words before copied h l e = record {
  answer = refl;
  fits = h;
  bytes = ap (λ (x : List ℕ). set x (length words) 0) e ∙ splice_push before 0 words (length words) 0 (omega (arith, zero-add (length words))) (omega arith);
}
