-- Rewriting the Value of an integer structure, or bytes in front of the structures, or letting the part grow, keeps the walk.
use mathlib.Core.Path.{◌≡◌, refl, sym, ap, ◌∙◌}
use mathlib.Core.List.{List, [], ◌∷◌}
use Prim.Native.Nat.{ℕ, ◌+◌, ◌≤◌, ◌<◌}
use native.Mathlib.Omega.{arith}
use lib.ListN.{get_or}
use Rattle.meaning.specs.Bytes.{Part, num, word}
use Rattle.meaning.specs.Names.{MQCFT_INTEGER}
use Rattle.meaning.specs.Answer.{accepted}
use Rattle.meaning.specs.Structure.{Row, judge, structure_at}
use Rattle.meaning.proofs.Structures.{row_at_lem, moved, Match, num_match, structure_match, judge_place, judge_integer}
use Rattle.meaning.proofs.Walks.{Walks, In, here, there, in_nil, Tiles, tiles, keep, tiles_from}

-- the structure r is the integer at q, or lies in front of it, or behind it
pub data Clear (q : ℕ) (r : Row) : Type 0 where
  own : r.place ≡ q → r.kind ≡ MQCFT_INTEGER → Clear q r
  below : r.place + r.size ≤ q → Clear q r
  above : q + 16 ≤ r.place → Clear q r

pub tiles_clear : (s : Part) (p : ℕ) (rows : List Row) (q : ℕ) → Tiles s p rows q → (r₀ : Row) → In r₀ rows → r₀.kind ≡ MQCFT_INTEGER
    → (r : Row) → In r rows → Clear r₀.place r
unfolding Tiles
tiles_clear s p [] q h r₀ i k r j = absurd (in_nil i)
tiles_clear s p (x ∷ xs) q h r₀ (here e) k r (here f) = own (cc) (cc)
tiles_clear s p (x ∷ xs) q h r₀ (here e) k r (there j) =
    let a : x.place ≡ r₀.place = cc in
    above (omega (arith, h.0.at_place, h.0.at_least, tiles_from s (p + x.size) xs q h.1 r j))
tiles_clear s p (x ∷ xs) q h r₀ (there i) k r (here f) =
    let a : x.place ≡ r.place = cc in
    let b : x.size ≡ r.size = cc in
    below (omega (arith, h.0.at_place, tiles_from s (p + x.size) xs q h.1 r₀ i))
tiles_clear s p (x ∷ xs) q h r₀ (there i) k r (there j) = tiles_clear s (p + x.size) xs q h.1 r₀ i k r j

-- s' has the bytes of s from lo on, but for the four of the Value of the structure at q
pub record Agree (lo q : ℕ) (s s' : Part) : Type 0 where
  pub grows : s.end ≤ s'.end
  pub bytes : (i : ℕ) → lo ≤ i → i < s.end → ((q + 12 ≤ i) × (i < q + 16) → ⊥) → get_or s.bytes i 0 ≡ get_or s'.bytes i 0

module _ (s s' : Part) (lo q : ℕ) (agree : Agree lo q s s') where
  -- a structure apart from the one at q
  far : (r : Row) (p d : ℕ) → structure_at s p d ≡ accepted r → Match s p s' p r.size → structure_at s' p d ≡ accepted r
  far r p d t m =
      let g = row_at_lem s p d r t in
      let h : moved p r ≡ r = rw g.at_place refl in
      structure_match s s' p p d r t m (omega arith) ∙ ap accepted h

  -- the one at q
  near : (r : Row) (p d : ℕ) → structure_at s p d ≡ accepted r → r.kind ≡ MQCFT_INTEGER → Match s p s' p 12 → structure_at s' p d ≡ accepted r
  unfolding structure_at
  near r p d t k m =
      let g = row_at_lem s p d r t in
      let h : moved p r ≡ r = rw g.at_place refl in
      let n : ℕ = num s (p + 4) in
      let e0 : num s' p ≡ 3 = sym (num_match s s' p p 12 m p p 0 (omega arith) (omega arith) (omega arith)) ∙ g.at_kind ∙ k in
      let e1 : num s' (p + 4) ≡ n = sym (num_match s s' p p 12 m (p + 4) (p + 4) 4 refl refl (omega arith)) in
      let e2 : num s' (p + 8) ≡ num s (p + 8) = sym (num_match s s' p p 12 m (p + 8) (p + 8) 8 refl refl (omega arith)) in
      let t' : judge s.end p d 3 n (num s (p + 8)) (word s (p + n) (p + 12)) (word s (p + n) (p + 16)) (word s (p + n) (p + 20)) ≡ accepted r =
      rw (g.at_kind ∙ k) at t in
      rw (e0, e1, e2)
      (judge_integer s'.end p d n (num s (p + 8)) _ _ _ (word s (p + n) (p + 12)) (word s (p + n) (p + 16)) (word s (p + n) (p + 20))
      ∙ judge_place s.end s'.end p p d 3 n _ _ _ _ r (omega (arith, g.at_size)) t'
      ∙ ap accepted h)

  kept_structure : (r : Row) (p d : ℕ) → lo ≤ p → structure_at s p d ≡ accepted r → Clear q r → structure_at s' p d ≡ accepted r
  kept_structure r p d l t (own e k) =
      let g = row_at_lem s p d r t in
      near r p d t k (record { run = λ i h. agree.bytes (p + i) (omega arith) (omega arith) (λ b. omega (arith, b.0)) })
  kept_structure r p d l t (below e) =
      let g = row_at_lem s p d r t in
      far r p d t (record { run = λ i h. agree.bytes (p + i) (omega arith) (omega arith) (λ b. omega (arith, b.0)) })
  kept_structure r p d l t (above e) =
      let g = row_at_lem s p d r t in
      far r p d t (record { run = λ i h. agree.bytes (p + i) (omega arith) (omega arith) (λ b. omega (arith, b.1)) })

  -- the whole walk
  pub kept : {p d n : ℕ} {rows : List Row} {q' : ℕ} → lo ≤ p → Walks s p d n rows q' → (r₀ : Row) → In r₀ rows → r₀.kind ≡ MQCFT_INTEGER → r₀.place ≡ q
      → Walks s' p d n rows q'
  kept {p} {d} {n} {rows} {q'} l w r₀ i k e =
      keep s' w (λ r p₁ d₁ j t.
      let g = row_at_lem s p₁ d₁ r t in
      kept_structure r p₁ d₁ (omega (arith, tiles_from s p rows q' (tiles w) r j)) t (rw e at (tiles_clear s p rows q' (tiles w) r₀ i k r j)))
