-- The entries: what they answer, and what they leave in the lent buffer, in the meaning's terms.
use Rattle.std.specs.Prelude.{ℕ, ◌≡◌, List, length, Result}
use Rattle.meaning.specs.Bytes.{splice}
use Rattle.meaning.specs.Answer.{Result as Meant, accepted, refused, and_then}
use Rattle.meaning.specs.Structure.{Row}
use Rattle.meaning.specs.Layout.{Layout, part_in}
use Rattle.meaning.specs.Message.{scan}
use Rattle.meaning.specs.Listing.{listing_text}
use Rattle.refusals.specs.Refusals.{answer}
use Rattle.refusals.specs.declared.Refusal.{Refusal}

-- the buffer behind a listing: the text from its first byte on; a refusal changes no byte
abbrev pub filled : Layout → List ℕ → List ℕ → ℕ → Meant (List Row) → List ℕ
filled l out buf len (accepted rows) = splice out 0 (listing_text (part_in l buf len) len rows)
filled l out buf len (refused n p) = out

-- LIST: the text's length, or the scan's refusal
pub record ListedAs (l : Layout) (buf : List ℕ) (len : ℕ) (before after : List ℕ) (r : Result ℕ Refusal) : Type 0 where
  pub answer : answer r ≡ and_then (scan l buf len) (λ rows. accepted (length (listing_text (part_in l buf len) len rows)))
  pub bytes : after ≡ filled l before buf len (scan l buf len)
