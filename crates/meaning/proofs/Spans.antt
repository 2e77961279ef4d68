-- Where Activity groups lie: a group is as long as its rows, and one appended is the last.
use mathlib.Core.Path.{◌≡◌, refl, sym, ap, ◌∙◌}
use mathlib.Core.List.{List, [], ◌∷◌, ◌++◌, map}
use Prim.Native.Nat.{ℕ, ◌+◌}
use native.Mathlib.Omega.{arith}
use Rattle.meaning.specs.Bytes.{Part}
use Rattle.meaning.specs.Structure.{Row}
use Rattle.meaning.specs.Trace.{Top, activities}
use Rattle.meaning.specs.Activity.{Span, size_of, span_of}
use Rattle.meaning.proofs.Walks.{Tiles, tiles}
use Rattle.meaning.proofs.Changed.{OneActivity, parts, activities_more}

-- rows that lie one behind the other fill the bytes between
pub tiles_size : (s : Part) (p : ℕ) (rows : List Row) (q : ℕ) → Tiles s p rows q → p + size_of rows ≡ q
unfolding Tiles size_of
tiles_size s p [] q h = omega arith
tiles_size s p (r ∷ rs) q h = omega (arith, tiles_size s (p + r.size) rs q h.1)

-- the parts of the message that are its Activity groups
unfoldable pub spans_of : List Row → List Span
spans_of rows = map span_of (activities rows)

map_snoc : (ts : List Top) (u : Top) → map span_of (ts ++ (u ∷ [])) ≡ map span_of ts ++ (span_of u ∷ [])
map_snoc [] u = refl
map_snoc (t ∷ ts) u = ap (λ (l : List Span). span_of t ∷ l) (map_snoc ts u)

module _ (m : Part) (p : ℕ) (rows : List Row) (a : OneActivity m p rows) (n : ℕ) (ends : m.end ≡ p + n) where
  abbrev group : Top
  group = record { row = (parts m p rows a).first; inside = (parts m p rows a).others }

  group_length : (span_of group).length ≡ n
  unfolding size_of
  group_length =
      let one = parts m p rows a in
      let z : size_of rows ≡ one.first.size + size_of one.others = ap size_of one.split in
      omega (arith, tiles_size m p rows m.end (tiles a.walk))

  group_span : span_of group ≡ record { place = p; length = n }
  group_span =
      let e : (span_of group).length ≡ n = group_length in
      let f : (parts m p rows a).first.place ≡ p = sym (parts m p rows a).at.at_place in
      ap (λ (x : ℕ). record { place = x; length = (span_of group).length }) f ∙ ap (λ (x : ℕ). record { place = p; length = x }) e

  pub spans_more : (before : List Row) → spans_of (before ++ rows) ≡ spans_of before ++ (record { place = p; length = n } ∷ [])
  unfolding spans_of
  spans_more before =
      ap (map span_of) (activities_more m p rows a before) ∙ map_snoc (activities before) group
      ∙ ap (λ (x : Span). map span_of (activities before) ++ (x ∷ [])) group_span
