-- What a counter is, what a walk with one comes to, and the two counters that there are: the number of structures, and the
-- number of each type. The laws of the two stand here with their proofs, because the code names them where it implements `Counter`.
use Rattle.std.specs.Prelude.{ℕ, zero, suc, ◌+◌, ◌≤◌, ◌<◌, ◌≡◌, refl, List, [], ◌∷◌, ◌++◌, length, get_or}
use Rattle.std.proofs.Common.{arith}
use native.Mathlib.Nat.{add-zero}
use lib.ListN.{length-append}
use Rattle.meaning.specs.Answer.{Result, accepted, and_then}
use Rattle.meaning.specs.Structure.{Row}
use Rattle.meaning.specs.Message.{count_of}
use Rattle.meaning.specs.Walk.{Walked as Rows}
use Rattle.meaning.proofs.Tallies.{count_append, count_le}
use Rattle.walk.specs.Tallies.{added}
use Rattle.walk.specs.declared.walking.Reached.{Reached}

-- what every counter keeps: rows may be counted one behind the other, and each takes room for one
pub record CounterLaws {A : Type 0} (counted : A → List Row → A) (Room : A → ℕ → Type 0) : Type 0 where
  pub none : (x : A) → counted x [] ≡ x
  pub append : (x : A) (xs ys : List Row) → counted (counted x xs) ys ≡ counted x (xs ++ ys)
  pub room : (x : A) (n : ℕ) (xs : List Row) (m : ℕ) → Room x n → m + length xs ≤ n → Room (counted x xs) m

-- the place behind the last structure, and what was counted up to there
pub record Counted (A : Type 0) : Type 0 where
  pub behind : ℕ
  pub seen : A

-- what a walk that starts with the counter at x comes to, or its refusal
abbrev pub counting : {A : Type 0} → (A → List Row → A) → A → Result Rows → Result (Counted A)
counting counted x w = and_then w (λ y. accepted (record { behind = y.next; seen = counted x y.rows }))

abbrev pub reached_of : {A : Type 0} → Reached A → Counted A
reached_of r = record { behind = r.behind; seen = r.seen }

-- as many more as there are rows
abbrev pub numbered : ℕ → List Row → ℕ
numbered n rows = n + length rows

abbrev pub NumberRoom : ℕ → ℕ → Type 0
NumberRoom n more = n + more < 18446744073709551616

pub number_laws : CounterLaws numbered NumberRoom
number_laws = record {
  none = λ n. omega arith;
  append = λ n xs ys. omega (arith, length-append xs ys);
  room = λ n k xs m h e. omega arith;
}

-- any of the counts may be raised by as much
abbrev pub TallyRoom : List ℕ → ℕ → Type 0
TallyRoom t more = (k : ℕ) → 0 < more → get_or t k 0 + more < 4294967296

-- two lists with equal heads and equal rests
both : {x y : ℕ} {xs ys : List ℕ} → x ≡ y → xs ≡ ys → x ∷ xs ≡ y ∷ ys
both e f = cc

added_nil : (k : ℕ) (t : List ℕ) → added k t [] ≡ t
unfolding added count_of
added_nil k [] = refl
added_nil k (x ∷ xs) = both (add-zero x) (added_nil (suc k) xs)

added_append : (k : ℕ) (t : List ℕ) (xs ys : List Row) → added k (added k t xs) ys ≡ added k t (xs ++ ys)
unfolding added
added_append k [] xs ys = refl
added_append k (x ∷ t) xs ys = both (omega (arith, count_append k xs ys)) (added_append (suc k) t xs ys)

-- no count is raised by more than there are rows
added_le : (k : ℕ) (t : List ℕ) (rows : List Row) (i : ℕ) → get_or (added k t rows) i 0 ≤ get_or t i 0 + length rows
unfolding added
added_le k [] rows i = omega arith
added_le k (x ∷ t) rows zero = omega (arith, count_le k rows)
added_le k (x ∷ t) rows (suc i) = added_le (suc k) t rows i

pub tally_laws : CounterLaws (added 0) TallyRoom
tally_laws = record {
  none = added_nil 0;
  append = added_append 0;
  room = λ t n xs m h e k due. omega (arith, added_le 0 t xs k, h k (omega arith));
}
