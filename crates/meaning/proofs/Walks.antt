-- The walk as a derivation: `Walks s p d n rows q` says that the n structures of depth d from p on are sound, have these
-- rows and end at q. It is the same as an accepted walk, both ways, and structural laws are inductions over it.
use mathlib.Core.Path.{◌≡◌, refl, sym, ap, ◌∙◌, subst}
use mathlib.Core.List.{List, [], ◌∷◌, ◌++◌, append_assoc, append-nil, map}
use Prim.Native.Nat.{ℕ, zero, suc, ◌+◌, ◌*◌, ◌%◌, ◌≤◌}
use native.Mathlib.Nat.{suc-add, zero-add, add_assoc}
use native.Mathlib.Omega.{arith}
use Rattle.meaning.specs.Bytes.{Part}
use Rattle.meaning.specs.Answer.{Result, accepted, refused, and_then}
use Rattle.meaning.specs.Structure.{Row, structure_at}
use Rattle.meaning.specs.Walk.{Walked, walked, followed_by, ahead, enter, walk_fuel, walk}
use Rattle.meaning.proofs.Tests.{clash}
use Rattle.meaning.proofs.Structures.{RowAt, row_at_lem, moved, Match, structure_match}

pub data Walks (s : Part) : ℕ → ℕ → ℕ → List Row → ℕ → Type 0 where
  none : {p d : ℕ} → Walks s p d zero [] p
  more : {p d n p₁ q : ℕ} {r : Row} {rs₁ rs₂ : List Row} → structure_at s p d ≡ accepted r → Walks s (p + r.size) (suc d) r.members rs₁ p₁
      → Walks s p₁ d n rs₂ q → Walks s p d (suc n) (r ∷ (rs₁ ++ rs₂)) q

-- the same walk, its numbers written another way (`rw` would rewrite the fields of s as well)
pub walks_as : {s : Part} {p d n : ℕ} {rows : List Row} {q p' n' q' : ℕ} → p ≡ p' → n ≡ n' → q ≡ q' → Walks s p d n rows q → Walks s p' d n' rows q'
walks_as {s} {p} {d} {n} {rows} {q} {p'} {n'} {q'} a b c w =
    subst (λ (x : ℕ). Walks s x d n' rows q') a (subst (λ (x : ℕ). Walks s p d x rows q') b (subst (λ (x : ℕ). Walks s p d n rows x) c w))

-- the parts of an accepted walk that is one behind another
pub record Joined (w : Result Walked) (go : ℕ → Result Walked) (rows : List Row) (q : ℕ) : Type 0 where
  pub rows₁ : List Row
  pub middle : ℕ
  pub rows₂ : List Row
  pub inner : w ≡ walked rows₁ middle
  pub rest : go middle ≡ walked rows₂ q
  pub all : rows₁ ++ rows₂ ≡ rows

walked_rows : {rows rows' : List Row} {q q' : ℕ} → walked rows q ≡ walked rows' q' → (rows ≡ rows') × (q ≡ q')
walked_rows {rows} {rows'} {q} {q'} e =
    let f : ◌≡◌ {A = Walked} (record { rows = rows; next = q }) (record { rows = rows'; next = q' }) = cc in
    (ap (λ (x : Walked). x.rows) f, ap (λ (x : Walked). x.next) f)

joined : (w : Result Walked) (go : ℕ → Result Walked) (rows : List Row) (q : ℕ) → followed_by w go ≡ walked rows q → Joined w go rows q
joined (accepted x) go rows q e = by (go x.next) refl e
  where
    by : (v : Result Walked) → go x.next ≡ v → and_then v (λ y. walked (x.rows ++ y.rows) y.next) ≡ walked rows q → Joined (accepted x) go rows q
    by (accepted y) f e =
        let c = walked_rows e in
        record {
          rows₁ = x.rows;
          middle = x.next;
          rows₂ = y.rows;
          inner = refl;
          rest = f ∙ ap (λ (n : ℕ). walked y.rows n) c.1;
          all = c.0;
        }
    by (refused n p) f e = absurd (clash (cc))
joined (refused n p) go rows q e = absurd (clash (cc))

ahead_inv : (r : Row) (w : Result Walked) (rows : List Row) (q : ℕ) → ahead r w ≡ walked rows q → (rs : List Row) × (w ≡ walked rs q) × (r ∷ rs ≡ rows)
ahead_inv r (accepted x) rows q e = let c = walked_rows e in (x.rows, ap (λ (n : ℕ). walked x.rows n) c.1, c.0)
ahead_inv r (refused n p) rows q e = absurd (clash (cc))

-- an accepted walk is a derivation
walks_more : (f : ℕ) (s : Part) (p d n : ℕ) (rows : List Row) (q : ℕ)
    → ((p d n : ℕ) (rows : List Row) (q : ℕ) → walk_fuel f s p d n ≡ walked rows q → Walks s p d n rows q)
    → (t : Result Row) → structure_at s p d ≡ t
    → enter t (λ r. walk_fuel f s (p + r.size) (suc d) r.members) (λ q. walk_fuel f s q d n) ≡ walked rows q
    → Walks s p d (suc n) rows q
walks_more f s p d n rows q ih (accepted r) t e =
    let b = ahead_inv r _ rows q e in
    let w = joined (walk_fuel f s (p + r.size) (suc d) r.members) (λ q. walk_fuel f s q d n) b.0 q b.1 in
    let eq : r ∷ (w.rows₁ ++ w.rows₂) ≡ rows = ap (λ (l : List Row). r ∷ l) w.all ∙ b.2 in
    rw (← eq) (more t (ih (p + r.size) (suc d) r.members w.rows₁ w.middle w.inner) (ih w.middle d n w.rows₂ q w.rest))
walks_more f s p d n rows q ih (refused k x) t e = absurd (clash (cc))

pub walks_fuel : (f : ℕ) (s : Part) (p d n : ℕ) (rows : List Row) (q : ℕ) → walk_fuel f s p d n ≡ walked rows q → Walks s p d n rows q
unfolding walk_fuel
walks_fuel zero s p d zero rows q e = let h = walked_rows e in rw (← h.0, ← h.1) none
walks_fuel zero s p d (suc n) rows q e = absurd (clash (cc))
walks_fuel (suc f) s p d zero rows q e = let h = walked_rows e in rw (← h.0, ← h.1) none
walks_fuel (suc f) s p d (suc n) rows q e = walks_more f s p d n rows q (λ p d n rows q e. walks_fuel f s p d n rows q e) (structure_at s p d) refl e

pub walks : (s : Part) (p d n : ℕ) (rows : List Row) (q : ℕ) → walk s p d n ≡ walked rows q → Walks s p d n rows q
unfolding walk
walks s p d n rows q e = walks_fuel s.end s p d n rows q e

-- each structure has at least 16 bytes
pub walks_le : {s : Part} {p d n : ℕ} {rows : List Row} {q : ℕ} → Walks s p d n rows q → p + n * 16 ≤ q
walks_le none = omega arith
walks_le (more {p} {d} {n} {p₁} {q} {r} t w₁ w₂) =
    omega (arith, walks_le w₁, walks_le w₂, (row_at_lem _ p d r t).at_least)

-- and a multiple of 4
pub walks_four : {s : Part} {p d n : ℕ} {rows : List Row} {q : ℕ} → Walks s p d n rows q → p % 4 ≡ 0 → q % 4 ≡ 0
walks_four none e = e
walks_four (more {p} {d} {n} {p₁} {q} {r} t w₁ w₂) e =
    walks_four w₂ (walks_four w₁ (omega (arith, (row_at_lem _ p d r t).at_four)))

-- and with enough fuel a derivation is an accepted walk
pub fuel_walks : {s : Part} {p d n : ℕ} {rows : List Row} {q : ℕ} (f : ℕ) → Walks s p d n rows q → q ≤ p + f → walk_fuel f s p d n ≡ walked rows q
unfolding walk_fuel
fuel_walks zero none h = refl
fuel_walks (suc f) none h = refl
fuel_walks zero (more {p} {d} {n} {p₁} {q} {r} t w₁ w₂) h =
    absurd (omega (arith, walks_le w₁, walks_le w₂, (row_at_lem _ p d r t).at_least))
fuel_walks (suc f) (more {p} {d} {n} {p₁} {q} {r} t w₁ w₂) h =
    let l₁ = walks_le w₁ in
    let l₂ = walks_le w₂ in
    let l = (row_at_lem _ p d r t).at_least in
    rw (t, fuel_walks {p = p + r.size} f w₁ (omega arith), fuel_walks {p = p₁} f w₂ (omega arith)) refl

pub walk_of : {s : Part} {p d n : ℕ} {rows : List Row} {q : ℕ} → Walks s p d n rows q → q ≤ s.end → walk s p d n ≡ walked rows q
unfolding walk
walk_of {s} w h = fuel_walks s.end w (omega arith)

-- two walks of one part from one place
pub walks_one : {s : Part} {p d n : ℕ} {rows rows' : List Row} {q q' : ℕ} → Walks s p d n rows q → Walks s p d n rows' q' → q ≤ s.end → q' ≤ s.end → rows ≡ rows'
walks_one w w' h h' = (walked_rows (sym (walk_of w h) ∙ walk_of w' h')).0

-- one walk behind another
pub walks_append : {s : Part} {p d n : ℕ} {rows : List Row} {q : ℕ} (n' : ℕ) (rows' : List Row) (q' : ℕ)
    → Walks s p d n rows q → Walks s q d n' rows' q' → Walks s p d (n + n') (rows ++ rows') q'
walks_append n' rows' q' none v = rw zero-add v
walks_append n' rows' q' (more {n} {r} {rs₁} {rs₂} t w₁ w₂) v =
    rw (suc-add n n', append_assoc rs₁ rs₂ rows') (more t w₁ (walks_append n' rows' q' w₂ v))

-- membership
pub data In (r : Row) : List Row → Type 0 where
  here : {y : Row} {ys : List Row} → r ≡ y → In r (y ∷ ys)
  there : {y : Row} {ys : List Row} → In r ys → In r (y ∷ ys)

pub in_left : {r : Row} (xs ys : List Row) → In r xs → In r (xs ++ ys)
in_left {r = r} [] ys h = elim h [ ]
in_left (x ∷ xs) ys (here e) = here e
in_left (x ∷ xs) ys (there h) = there (in_left xs ys h)

pub in_right : {r : Row} (xs ys : List Row) → In r ys → In r (xs ++ ys)
in_right [] ys h = h
in_right (x ∷ xs) ys h = there (in_right xs ys h)

pub in_nil : {r : Row} → In r [] → ⊥
in_nil = elim [ ]

pub in_cases : {G : Type 0} {r : Row} (xs ys : List Row) → (In r xs → G) → (In r ys → G) → In r (xs ++ ys) → G
in_cases [] ys f g h = g h
in_cases (x ∷ xs) ys f g (here e) = f (here e)
in_cases (x ∷ xs) ys f g (there h) = in_cases xs ys (λ k. f (there k)) g h

-- all of the rows have the depth or are deeper
pub walks_depth : {s : Part} {p d n : ℕ} {rows : List Row} {q : ℕ} → Walks s p d n rows q → (r : Row) → In r rows → d ≤ r.depth
walks_depth none r h = absurd (in_nil h)
walks_depth (more {p} {d} {r = r₀} t w₁ w₂) r (here e) =
    let f : r₀.depth ≡ r.depth = cc in
    omega (arith, (row_at_lem _ p d r₀ t).at_depth)
walks_depth (more {d} {rs₁} {rs₂} t w₁ w₂) r (there h) =
    in_cases rs₁ rs₂ (λ k. omega (arith, walks_depth w₁ r k)) (λ k. walks_depth w₂ r k) h

-- the rows lie one behind the other, from p to q
unfoldable pub Tiles : Part → ℕ → List Row → ℕ → Type 0
Tiles s p [] q = p ≡ q
Tiles s p (r ∷ rs) q = (RowAt s p r.depth r) × Tiles s (p + r.size) rs q

pub tiles_append : (s : Part) (p : ℕ) (xs : List Row) (m : ℕ) (ys : List Row) (q : ℕ) → Tiles s p xs m → Tiles s m ys q → Tiles s p (xs ++ ys) q
unfolding Tiles
tiles_append s p [] m ys q h k = rw h k
tiles_append s p (x ∷ xs) m ys q h k = (h.0, tiles_append s (p + x.size) xs m ys q h.1 k)

pub tiles : {s : Part} {p d n : ℕ} {rows : List Row} {q : ℕ} → Walks s p d n rows q → Tiles s p rows q
unfolding Tiles
tiles none = refl
tiles {s} (more {p} {d} {n} {p₁} {q} {r} {rs₁} {rs₂} t w₁ w₂) =
    let g = row_at_lem s p d r t in
    (rw g.at_depth at g, tiles_append s (p + r.size) rs₁ p₁ rs₂ q (tiles w₁) (tiles w₂))

-- a row among them stands where it says
pub tiles_row : (s : Part) (p : ℕ) (rows : List Row) (q : ℕ) → Tiles s p rows q → (r : Row) → In r rows → RowAt s r.place r.depth r
unfolding Tiles
tiles_row s p [] q h r i = absurd (in_nil i)
tiles_row s p (x ∷ xs) q h r (here e) =
    subst (λ (y : Row). RowAt s y.place y.depth y) (sym e) (rw h.0.at_place at h.0)
tiles_row s p (x ∷ xs) q h r (there i) = tiles_row s (p + x.size) xs q h.1 r i

-- every row stands at the walk's start or behind it
pub tiles_from : (m : Part) (p : ℕ) (rows : List Row) (q : ℕ) → Tiles m p rows q → (r : Row) → In r rows → p ≤ r.place
unfolding Tiles
tiles_from m p [] q h r i = elim i [ ]
tiles_from m p (x ∷ xs) q h r (here e) =
    let f : x.place ≡ r.place = cc in
    omega (arith, h.0.at_place)
tiles_from m p (x ∷ xs) q h r (there i) = omega (arith, tiles_from m (p + x.size) xs q h.1 r i)

-- the walk over another part whose structures at these rows are the same
pub keep : {s : Part} {p d n : ℕ} {rows : List Row} {q : ℕ} (s' : Part) → Walks s p d n rows q
    → ((r : Row) (p d : ℕ) → In r rows → structure_at s p d ≡ accepted r → structure_at s' p d ≡ accepted r) → Walks s' p d n rows q
keep s' none h = none
keep s' (more {p} {d} {n} {p₁} {q} {r} {rs₁} {rs₂} t w₁ w₂) h =
    more (h r p d (here refl) t)
    (keep s' w₁ (λ r p d k. h r p d (there (in_left rs₁ rs₂ k))))
    (keep s' w₂ (λ r p d k. h r p d (there (in_right rs₁ rs₂ k))))

-- the walk over another part that has the same bytes, at places l further on
abbrev pub shift : ℕ → Row → Row
shift l r = moved (l + r.place) r

map_append : (f : Row → Row) (xs ys : List Row) → map f (xs ++ ys) ≡ map f xs ++ map f ys
map_append f [] ys = refl
map_append f (x ∷ xs) ys = ap (λ (l : List Row). f x ∷ l) (map_append f xs ys)

pub walks_shift : {s : Part} {p d n : ℕ} {rows : List Row} {q : ℕ} (s' : Part) (l : ℕ)
    → Walks s p d n rows q → Match s 0 s' l s.end → l + s.end ≤ s'.end → Walks s' (l + p) d n (map (shift l) rows) (l + q)
walks_shift s' l none m h = none
walks_shift {s} s' l (more {p} {d} {n} {p₁} {q} {r} {rs₁} {rs₂} t w₁ w₂) m h =
    let g = row_at_lem s p d r t in
    let m' : Match s p s' (l + p) r.size = record { run = λ i k. rw (add_assoc l p i) (rw zero-add at (m.run (p + i) (omega arith))) } in
    let t' : structure_at s' (l + p) d ≡ accepted (shift l r) = rw (← g.at_place) (structure_match s s' p (l + p) d r t m' (omega arith)) in
    rw (map_append (shift l) rs₁ rs₂) (more t' (rw (← add_assoc l p r.size) at (walks_shift s' l w₁ m h)) (walks_shift s' l w₂ m h))

-- a walk over one structure: its row, and the deeper rows in it
pub record Single (s : Part) (p d : ℕ) (rows : List Row) : Type 0 where
  pub first : Row
  pub others : List Row
  pub split : rows ≡ first ∷ others
  pub at : RowAt s p d first
  pub deeper : (r : Row) → In r others → suc d ≤ r.depth

walks_zero : {s : Part} {p d n : ℕ} {rows : List Row} {q : ℕ} → Walks s p d n rows q → n ≡ 0 → rows ≡ []
walks_zero none e = refl
walks_zero (more t w₁ w₂) e = absurd (omega arith)

pub single : {s : Part} {p d n : ℕ} {rows : List Row} {q : ℕ} → Walks s p d n rows q → n ≡ 1 → Single s p d rows
single none e = absurd (omega arith)
single {s} (more {p} {d} {n} {p₁} {q} {r} {rs₁} {rs₂} t w₁ w₂) e =
    let z : rs₂ ≡ [] = walks_zero w₂ (omega arith) in
    record {
      first = r;
      others = rs₁;
      split = rw (z, append-nil rs₁) refl;
      at = row_at_lem s p d r t;
      deeper = λ x i. walks_depth w₁ x i;
    }
