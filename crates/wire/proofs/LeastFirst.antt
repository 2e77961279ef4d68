-- The bytes of a number that is the sum of four: they come out again, and swapped they stand the other way round.
use Rattle.std.proofs.Common.{◌≡◌, ◌∙◌, sym, ℕ, ◌+◌, ◌*◌, ◌/◌, ◌%◌, ◌<◌, [], ◌∷◌, arith}
use native.Mathlib.Nat.{div-div-eq-div-mul}
use Rattle.std.specs.Int.{w32, swap_bytes}
use Rattle.wire.specs.LeastFirst.{LeastFirst}

-- one byte and the rest
low : (x a y : ℕ) → x ≡ a + y * 256 → a < 256 → (x % 256 ≡ a) × (x / 256 ≡ y)
low x a y e h = (omega arith, omega arith)

module _ {x a b c d : ℕ} (h : LeastFirst x a b c d) where
  byte_1 : (x % 256 ≡ a) × (x / 256 ≡ b + (c + d * 256) * 256)
  byte_1 = low x a (b + (c + d * 256) * 256) (omega arith) h.first

  byte_2 : (x / 256 % 256 ≡ b) × (x / 256 / 256 ≡ c + d * 256)
  byte_2 = low (x / 256) b (c + d * 256) byte_1.1 h.second

  byte_3 : (x / 65536 % 256 ≡ c) × (x / 65536 / 256 ≡ d)
  byte_3 = low (x / 65536) c d (sym (div-div-eq-div-mul x 256 256) ∙ byte_2.1) h.third

  top : x / 16777216 ≡ d
  top = sym (div-div-eq-div-mul x 65536 256) ∙ byte_3.1

  byte_4 : x / 16777216 % 256 ≡ d
  byte_4 = (low (x / 16777216) d 0 (omega (arith, top)) h.fourth).0

  pub bytes_of : (x % 256 ∷ x / 256 % 256 ∷ x / 65536 % 256 ∷ x / 16777216 % 256 ∷ []) ≡ (a ∷ b ∷ c ∷ d ∷ [])
  bytes_of = cc (byte_1.0, byte_2.0, byte_3.0, byte_4)

  -- turned round, they are the same four from the other end
  pub turned_round : {r : ℕ} → LeastFirst r (x / 16777216 % 256) (x / 65536 % 256) (x / 256 % 256) (x % 256) → LeastFirst r d c b a
  turned_round {r} t =
      let same = bytes_of in
      let first : x % 256 ≡ a = cc same in
      let second : x / 256 % 256 ≡ b = cc same in
      let third : x / 65536 % 256 ≡ c = cc same in
      let fourth : x / 16777216 % 256 ≡ d = cc same in
      rw (first, second, third, fourth) at t

  -- which is what the library's swap gives, so that the first byte counts most
  pub swapped : {r : ℕ} → r ≡ swap_bytes w32 x → r ≡ ((a * 256 + b) * 256 + c) * 256 + d
  swapped {r} e =
      let s : r ≡ x % 256 * 16777216 + x / 256 % 256 * 65536 + x / 65536 % 256 * 256 + x / 16777216 % 256 = e in
      let t : LeastFirst r d c b a = turned_round (record { number = omega arith; first = omega arith; second = omega arith; third = omega arith; fourth = omega arith }) in
      omega (arith, t.number)
