-- Decimal text: a number's text has the digits of the number, read back it is the number again, and how long it is.
use mathlib.Core.Path.{◌≡◌, refl, ap, ◌∙◌}
use mathlib.Core.Bool.{Bool, true, false}
use mathlib.Core.Logic.{◌⊎◌, inl, inr}
use mathlib.Core.List.{List, [], ◌∷◌, ◌++◌}
use Prim.Native.Nat.{ℕ, zero, suc, ◌+◌, ◌-◌, ◌*◌, ◌/◌, ◌%◌, ◌^◌, ◌≤◌, ◌<◌}
use native.Mathlib.Nat.{pow-suc, mod-eq_of_lt}
use native.Mathlib.Numerals.{add-one}
use native.Mathlib.Omega.{arith}
use lib.ListN.{length, length-append}
use lib.Dec.{ltb}
use borrow.Author.Tests.{lt-ltb, le-ltb, ltb-true, ltb-false}
use Rattle.meaning.specs.Structure.{Row}
use Rattle.meaning.specs.Listing.{digits, decimal, column, row_line, blank, newline}

pub lt_or_ge : (n m : ℕ) → (n < m) ⊎ (m ≤ n)
lt_or_ge n m = go (ltb n m) refl
  where
    go : (t : Bool) → ltb n m ≡ t → (n < m) ⊎ (m ≤ n)
    go true e = inl (ltb-true n m e)
    go false e = inr (ltb-false n m e)

-- the two cases of the definition
digits_one : (k n : ℕ) → n < 10 → digits (suc k) n ≡ (48 + n) ∷ []
unfolding digits
digits_one k n h = rw (lt-ltb n 10 h)

digits_more : (k n : ℕ) → 10 ≤ n → digits (suc k) n ≡ digits k (n / 10) ++ (48 + n % 10) ∷ []
unfolding digits
digits_more k n h = rw (le-ltb n 10 h)

digits-none : (n : ℕ) → digits 0 n ≡ []
unfolding digits
digits-none n = refl

length-digits_more : (k n : ℕ) → 10 ≤ n → length (digits (suc k) n) ≡ length (digits k (n / 10)) + 1
length-digits_more k n h = ap length (digits_more k n h) ∙ length-append (digits k (n / 10)) ((48 + n % 10) ∷ [])

-- READING BACK. Digits are read from the left: ten times what was read so far, and the next digit.
abbrev pub read_on : ℕ → List ℕ → ℕ
read_on so_far [] = so_far
read_on so_far (c ∷ cs) = read_on (so_far * 10 + (c - 48)) cs

abbrev pub value_of : List ℕ → ℕ
value_of text = read_on 0 text

read_last : (a : ℕ) (xs : List ℕ) (c : ℕ) → read_on a (xs ++ c ∷ []) ≡ read_on a xs * 10 + (c - 48)
read_last a [] c = refl
read_last a (x ∷ xs) c = read_last (a * 10 + (x - 48)) xs c

value-digits : (k n : ℕ) → n < 10 ^ k → value_of (digits k n) ≡ n
value-digits zero n h = rw digits-none (omega arith)
value-digits (suc k) n h = go (value-digits k (n / 10) (let p : 10 ^ suc k ≡ 10 ^ k * 10 = pow-suc 10 k in omega arith)) (lt_or_ge n 10)
  where
    go : value_of (digits k (n / 10)) ≡ n / 10 → (n < 10) ⊎ (10 ≤ n) → value_of (digits (suc k) n) ≡ n
    go e (inl a) = rw (digits_one k n a) (omega arith)
    go e (inr a) = rw (digits_more k n a) (read_last 0 (digits k (n / 10)) (48 + n % 10) ∙ omega arith)

-- the decimal text of a number of at most ten digits reads back as the number
pub value-decimal : (n : ℕ) → n < 10 ^ 10 → value_of (decimal n) ≡ n
unfolding decimal
value-decimal n h = value-digits 10 n h

-- LENGTHS
length_digits : (m k n : ℕ) → 10 ^ k ≤ n → n < 10 ^ suc k → k < m → length (digits m n) ≡ suc k
length_digits zero k n l h f = absurd (omega arith)
length_digits (suc m) zero n l h f = ap length (digits_one m n h)
length_digits (suc m) (suc k) n l h f =
    let p : 10 ^ suc k ≡ 10 ^ k * 10 = pow-suc 10 k in
    let q : 10 ^ suc (suc k) ≡ 10 ^ suc k * 10 = pow-suc 10 (suc k) in
    let o : 1 ≤ 10 ^ k = positive k in
    length-digits_more m n (omega arith) ∙ omega (arith, length_digits m k (n / 10) (omega arith) (omega arith) (omega arith))
  where
    positive : (k : ℕ) → 1 ≤ 10 ^ k
    positive zero = omega arith
    positive (suc k) = omega (arith, pow-suc 10 k, positive k)

digits_most : (m k n : ℕ) → n < 10 ^ suc k → length (digits m n) ≤ suc k
digits_most zero k n h = rw digits-none (omega arith)
digits_most (suc m) k n h = go k h (λ j. digits_most m j (n / 10)) (lt_or_ge n 10)
  where
    go : (k : ℕ) → n < 10 ^ suc k → ((j : ℕ) → n / 10 < 10 ^ suc j → length (digits m (n / 10)) ≤ suc j) → (n < 10) ⊎ (10 ≤ n) → length (digits (suc m) n) ≤ suc k
    go k h f (inl a) = rw (digits_one m n a) (omega arith)
    go zero h f (inr a) = absurd (omega arith)
    go (suc k) h f (inr a) = omega (arith, length-digits_more m n a, f k (omega (arith, pow-suc 10 (suc k))))

digits-length : (m n : ℕ) → length (digits m n) ≤ m
digits-length zero n = rw digits-none (omega arith)
digits-length (suc m) n = go (digits-length m (n / 10)) (lt_or_ge n 10)
  where
    go : length (digits m (n / 10)) ≤ m → (n < 10) ⊎ (10 ≤ n) → length (digits (suc m) n) ≤ suc m
    go h (inl a) = rw (digits_one m n a) (omega arith)
    go h (inr a) = rw (length-digits_more m n a) (omega arith)

pub decimal_one : (n : ℕ) → n < 10 → decimal n ≡ (48 + n) ∷ []
unfolding decimal
decimal_one n h = digits_one 9 n h

-- exactly, and at most
pub decimal_exact : (k n : ℕ) → k < 10 → 10 ^ k ≤ n → n < 10 ^ suc k → length (decimal n) ≡ suc k
unfolding decimal
decimal_exact k n f l h = length_digits 10 k n l h f

pub decimal_most : (k n : ℕ) → n < 10 ^ suc k → length (decimal n) ≤ suc k
unfolding decimal
decimal_most k n h = digits_most 10 k n h

pub decimal_ten : (n : ℕ) → length (decimal n) ≤ 10
unfolding decimal
decimal_ten n = digits-length 10 n

-- the first digit of a number that is not 0 is not 0
-- FROM THE BACK. The last k digits of n, with zeros in front where n has fewer.
unfoldable pub last_digits : ℕ → ℕ → List ℕ
last_digits zero n = []
last_digits (suc k) n = last_digits k (n / 10) ++ (48 + n % 10) ∷ []

pub last_none : (n : ℕ) → last_digits 0 n ≡ []
unfolding last_digits
last_none n = refl

pub last_step : (k n : ℕ) → 0 < k → last_digits k n ≡ last_digits (k - 1) (n / 10) ++ (48 + n % 10) ∷ []
unfolding last_digits
last_step zero n h = absurd (omega arith)
last_step (suc k) n h = let e : suc k - 1 ≡ k = omega arith in rw e refl

pub length_last : (k n : ℕ) → length (last_digits k n) ≡ k
unfolding last_digits
length_last zero n = refl
length_last (suc k) n = length-append (last_digits k (n / 10)) ((48 + n % 10) ∷ []) ∙ omega (arith, length_last k (n / 10))

last_digits_lem : (m n : ℕ) → last_digits (length (digits m n)) n ≡ digits m n
unfolding last_digits
last_digits_lem zero n = rw digits-none refl
last_digits_lem (suc m) n = go (last_digits_lem m (n / 10)) (lt_or_ge n 10)
  where
    go : last_digits (length (digits m (n / 10))) (n / 10) ≡ digits m (n / 10) → (n < 10) ⊎ (10 ≤ n) → last_digits (length (digits (suc m) n)) n ≡ digits (suc m) n
    go e (inl a) = rw (digits_one m n a, mod-eq_of_lt a) refl
    go e (inr a) = rw (length-digits_more m n a, digits_more m n a, add-one) (ap (λ (l : List ℕ). l ++ (48 + n % 10) ∷ []) e)

-- as many as n has digits: all of them
pub last_all : (n : ℕ) → last_digits (length (decimal n)) n ≡ decimal n
unfolding decimal
last_all n = last_digits_lem 10 n

-- LINES
pub length-column : (n behind : ℕ) → length (column n behind) ≡ length (decimal n) + 1
unfolding column
length-column n behind = length-append (decimal n) (behind ∷ [])

pub length-row_line : (r : Row) → length (row_line r)
    ≡ length (column r.depth blank) + (length (column r.place blank) + (length (column r.kind blank)
    + (length (column r.parameter blank) + length (column r.size newline))))
unfolding row_line
length-row_line r = simp length-append

-- a column of a number below 10 ^ (k + 1) has at most k + 2 bytes, and of any number at most 11
column_most : (k n behind : ℕ) → n < 10 ^ suc k → length (column n behind) ≤ suc (suc k)
column_most k n behind h = omega (arith, length-column n behind, decimal_most k n h)

pub column_ten : (n behind : ℕ) → length (column n behind) ≤ 11
column_ten n behind = omega (arith, length-column n behind, decimal_ten n)

-- a row of a message has a line of at most 28 bytes
pub row_line_most : (r : Row) → r.depth < 10 → r.place < 100000 → r.kind < 100 → r.size < 100000 → length (row_line r) ≤ 28
row_line_most r d p k n =
    omega (
      arith,
      length-row_line r,
      column_most 0 r.depth blank d,
      column_most 4 r.place blank p,
      column_most 1 r.kind blank k,
      column_ten r.parameter blank,
      column_most 4 r.size newline n,
    )
