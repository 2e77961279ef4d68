-- the tests of the four bytes, as the library makes them
use Rattle.std.proofs.Common.{◌≡◌, ◌∙◌, ◌≤◌, ℕ, List, [], ◌∷◌, refl, arith, length, nat_eq}
use Rattle.std.proofs.Math.Bool.{and-true}
use Rattle.std.specs.List.{starts_with}
use Rattle.meaning.specs.Layout.{identifier, is_identified}
use Rattle.meaning.proofs.Tests.{clash}
use Rattle.layout.proofs.part.is_identified.Goals as goal

swap : (m n : ℕ) → nat_eq m n ≡ nat_eq n m
swap m n = grind arith

identified : (m : List ℕ) → 4 ≤ length m → starts_with nat_eq m identifier ≡ is_identified m
unfolding is_identified
identified [] h = absurd (clash (omega arith))
identified (a ∷ []) h = absurd (clash (omega arith))
identified (a ∷ b ∷ []) h = absurd (clash (omega arith))
identified (a ∷ b ∷ c ∷ []) h = absurd (clash (omega arith))
identified (a ∷ b ∷ c ∷ d ∷ m) h = rw (swap 0x45 a, swap 0x50 b, swap 0x48 c, swap 0x20 d, and-true) refl

pub returns : goal.returns
returns c = c.starts_with.ensures.value ∙ identified c.args.msg.now c.requires
