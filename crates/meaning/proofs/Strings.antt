-- A string: its data lie in it.
use mathlib.Core.Path.{◌≡◌, refl, sym, ap, ◌∙◌}
use mathlib.Core.Bool.{true}
use mathlib.Core.List.{List}
use Prim.Native.Nat.{ℕ, ◌+◌, ◌≤◌}
use native.Mathlib.Omega.{arith}
use lib.Dec.{leb}
use borrow.Author.Tests.{leb-true, le-leb}
use Rattle.meaning.specs.Bytes.{Part, num, word}
use Rattle.meaning.specs.Names.{MQCFT_STRING}
use Rattle.meaning.specs.Answer.{accepted}
use Rattle.meaning.specs.Structure.{Row, small, length_rule, structure_at}
use Rattle.meaning.proofs.Tests.{and_true}
use Rattle.meaning.proofs.Structures.{judge_accepted, row_at_lem}
use Rattle.meaning.proofs.Walks.{Walks, none, more, In, here, there, in_nil, in_cases}

-- THE DATA of a string end where the string does, or before
string_rule : (t n a b c : ℕ) → t ≡ MQCFT_STRING → length_rule t n a b c ≡ true → 20 + b ≤ n
unfolding length_rule
string_rule t n a b c k e = leb-true (20 + b) n (and_true (small b) (leb (20 + b) n) (rw k at e)).1

word_there : (m : Part) (behind at : ℕ) → at + 4 ≤ behind → word m behind at ≡ num m at
unfolding word
word_there m behind at h = rw (le-leb (at + 4) behind h) refl

pub string_data : (m : Part) (p d : ℕ) (r : Row) → structure_at m p d ≡ accepted r → r.kind ≡ MQCFT_STRING → p + 20 + num m (p + 16) ≤ m.end
unfolding structure_at
string_data m p d r e k =
    let g = judge_accepted m.end p d (num m p) (num m (p + 4)) (num m (p + 8)) _ _ _ r e in
    let t : num m p ≡ MQCFT_STRING = ap (λ (x : Row). x.kind) g.row ∙ k in
    let l = string_rule (num m p) (num m (p + 4)) _ (word m (p + num m (p + 4)) (p + 16)) _ t g.ruled in
    omega (arith, g.fits, word_there m (p + num m (p + 4)) (p + 16) (omega arith))

-- of every string that a walk has gone over
pub walks_data : {m : Part} {p d n : ℕ} {rows : List Row} {q : ℕ} → Walks m p d n rows q → (r : Row) → In r rows → r.kind ≡ MQCFT_STRING
    → r.place + 20 + num m (r.place + 16) ≤ m.end
walks_data none r i k = absurd (in_nil i)
walks_data {m} (more {p} {d} {r = r₀} t w₁ w₂) r (here e) k =
    let f : p ≡ r.place = (row_at_lem m p d r₀ t).at_place ∙ ap (λ (x : Row). x.place) (sym e) in
    rw (← f) (string_data m p d r₀ t (ap (λ (x : Row). x.kind) (sym e) ∙ k))
walks_data (more {rs₁} {rs₂} t w₁ w₂) r (there i) k = in_cases rs₁ rs₂ (λ h. walks_data w₁ r h k) (λ h. walks_data w₂ r h k) i
