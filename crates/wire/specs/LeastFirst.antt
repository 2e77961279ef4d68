-- A number by its four bytes, the least significant one first.
use Rattle.std.specs.Prelude.{◌≡◌, ℕ, ◌+◌, ◌*◌, ◌<◌}

-- x has the bytes a, b, c and d
pub record LeastFirst (x a b c d : ℕ) : Type 0 where
  pub number : x ≡ a + b * 256 + c * 65536 + d * 16777216
  pub first : a < 256
  pub second : b < 256
  pub third : c < 256
  pub fourth : d < 256
