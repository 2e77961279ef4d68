-- The eight attributes: the rows that their places stand for, and what leaves them where they are.
use mathlib.Core.Path.{◌≡◌, refl, sym, ap, ◌∙◌}
use mathlib.Core.Bool.{Bool, true, false, cond, not, ◌&&◌}
use mathlib.Core.List.{List, [], ◌∷◌, ◌++◌, map, append-nil}
use Prim.Native.Nat.{ℕ, zero, suc, ◌≤◌, ◌<◌}
use native.Mathlib.Nat.{not-suc-le-zero, le_of_suc-le-suc}
use native.Mathlib.Omega.{arith}
use lib.ListN.{length, get_or}
use lib.Dec.{leb, eqb}
use borrow.Author.Tests.{ltb-true, eqb-true, eqb-false, ne_eqb, not-true}
use Rattle.meaning.specs.Names.{MQCFT_INTEGER, two_to31}
use Rattle.meaning.specs.Answer.{cons_if}
use Rattle.meaning.specs.Structure.{Row, small}
use Rattle.meaning.specs.Trace.{absent, identifiers_ok, Top, is_top, is_direct, until_top, tops, is_group, groups_in, groups, direct_in, direct_members, named, one_integer, each_once, place_of_first}
use Rattle.meaning.proofs.Tests.{clash, and_true}
use Rattle.meaning.proofs.Walks.{In, here, there, in_nil, in_cases}

in_cons_if : {G : Type 0} {r : Row} (b : Bool) (x : Row) (xs : List Row) → (b ≡ true → r ≡ x → G) → (In r xs → G) → In r (cons_if b x xs) → G
in_cons_if true x xs f g (here e) = f refl e
in_cons_if true x xs f g (there h) = g h
in_cons_if false x xs f g h = g h

-- WHICH ROWS a place comes from: direct members of top-level groups are rows of the message
in_until : {r : Row} (rows : List Row) → In r (until_top rows) → In r rows
unfolding until_top
in_until [] h = h
in_until {r} (x ∷ xs) h = go (λ k. in_until xs k) (is_top x) h
  where
    go : (In r (until_top xs) → In r xs) → (b : Bool) → In r (cond b [] (x ∷ until_top xs)) → In r (x ∷ xs)
    go ih true k = absurd (in_nil k)
    go ih false (here e) = here e
    go ih false (there k) = there (ih k)

in_direct_rows : {r : Row} (rows : List Row) → In r (direct_in rows) → In r rows
unfolding direct_in
in_direct_rows [] h = h
in_direct_rows (x ∷ xs) h = in_cons_if (is_direct x) x (direct_in xs) (λ e f. here f) (λ k. there (in_direct_rows xs k)) h

-- the top-level structure that starts a list of rows
abbrev top_of : Row → List Row → Top
top_of x xs = record { row = x; inside = until_top xs }

in_direct : {r : Row} (id : ℕ) (rows : List Row) → In r (direct_members (groups_in id (tops rows))) → In r rows
unfolding direct_members groups_in tops
in_direct id [] h = absurd (in_nil h)
in_direct {r} id (x ∷ xs) h = by_top (λ k. in_direct id xs k) (is_top x) h
  where
    by_group : (In r (direct_members (groups_in id (tops xs))) → In r xs) → (b : Bool)
        → In r (direct_members (cons_if b (top_of x xs) (groups_in id (tops xs)))) → In r (x ∷ xs)
    by_group ih true k =
        in_cases (direct_in (until_top xs)) (direct_members (groups_in id (tops xs)))
        (λ i. there (in_until xs (in_direct_rows (until_top xs) i))) (λ i. there (ih i)) k
    by_group ih false k = there (ih k)

    by_top : (In r (direct_members (groups_in id (tops xs))) → In r xs) → (b : Bool)
        → In r (direct_members (groups_in id (cons_if b (top_of x xs) (tops xs)))) → In r (x ∷ xs)
    by_top ih true k = by_group ih (is_group id (top_of x xs)) k
    by_top ih false k = there (ih k)

in_named : {r : Row} (id : ℕ) (rows : List Row) → In r (named id rows) → (In r rows) × (r.parameter ≡ id)
unfolding named
in_named id [] h = absurd (in_nil h)
in_named {r} id (x ∷ xs) h =
    in_cons_if (eqb x.parameter id) x (named id xs)
    (λ e f. (here f, ap (λ (y : Row). y.parameter) f ∙ eqb-true x.parameter id e))
    (λ k. let g = in_named id xs k in (there g.0, g.1)) h

-- the row that an attribute's place stands for
pub record Attribute (rows : List Row) (id p : ℕ) : Type 0 where
  pub row : Row
  pub among : In row rows
  pub int : row.kind ≡ MQCFT_INTEGER
  pub known : row.parameter ≡ id
  pub there_at : row.place ≡ p

one_row : (rows : List Row) → one_integer rows ≡ true → (r : Row) × (In r rows) × (r.kind ≡ MQCFT_INTEGER) × (r.place ≡ place_of_first rows)
unfolding one_integer place_of_first
one_row [] h = absurd (clash (cc))
one_row (r ∷ []) h = (r, here refl, eqb-true r.kind MQCFT_INTEGER h, refl)
one_row (r ∷ q ∷ rs) h = absurd (clash (cc))

pub attribute : (group : ℕ) (rows : List Row) (id : ℕ) → one_integer (named id (direct_members (groups group rows))) ≡ true
    → Attribute rows id (place_of_first (named id (direct_members (groups group rows))))
unfolding groups
attribute group rows id h =
    let g = one_row (named id (direct_members (groups_in group (tops rows)))) h in
    let k = in_named id (direct_members (groups_in group (tops rows))) g.1 in
    record { row = g.0; among = in_direct group rows k.0; int = g.2; known = k.1; there_at = g.3 }

pub once_at : (sheet : List ℕ) (members : List Row) → each_once sheet members ≡ true → (j : ℕ) → j < length sheet → one_integer (named (get_or sheet j 0) members) ≡ true
unfolding each_once
once_at [] members e j h = absurd (not-suc-le-zero h)
once_at (id ∷ ids) members e zero h = (and_true (one_integer (named id members)) (each_once ids members) e).0
once_at (id ∷ ids) members e (suc j) h = once_at ids members (and_true (one_integer (named id members)) (each_once ids members) e).1 j (le_of_suc-le-suc h)

-- THE SHEET has no number twice
pub get_d_map : (f : ℕ → ℕ) (l : List ℕ) (j : ℕ) → j < length l → get_or (map f l) j 0 ≡ f (get_or l j 0)
get_d_map f [] j h = absurd (not-suc-le-zero h)
get_d_map f (x ∷ xs) zero h = refl
get_d_map f (x ∷ xs) (suc j) h = get_d_map f xs j (le_of_suc-le-suc h)

pub absent_at : (x : ℕ) (ys : List ℕ) → absent x ys ≡ true → (j : ℕ) → j < length ys → x ≡ get_or ys j 0 → ⊥
unfolding absent
absent_at x [] e j h = absurd (not-suc-le-zero h)
absent_at x (y ∷ ys) e zero h = eqb-false x y (not-true (eqb x y) (and_true (not (eqb x y)) (absent x ys) e).0)
absent_at x (y ∷ ys) e (suc j) h = absent_at x ys (and_true (not (eqb x y)) (absent x ys) e).1 j (le_of_suc-le-suc h)

pub record Identifier (x : ℕ) (xs : List ℕ) : Type 0 where
  pub low : small x ≡ true
  pub not_in : absent x xs ≡ true
  pub rest : identifiers_ok xs ≡ true

pub identifiers_parts : (x : ℕ) (xs : List ℕ) → identifiers_ok (x ∷ xs) ≡ true → Identifier x xs
unfolding identifiers_ok
identifiers_parts x xs e =
    let f = and_true (leb 1 x) (small x && (absent x xs && identifiers_ok xs)) e in
    let g = and_true (small x) (absent x xs && identifiers_ok xs) f.1 in
    let h = and_true (absent x xs) (identifiers_ok xs) g.1 in
    record { low = g.0; not_in = h.0; rest = h.1 }

pub identifiers_at : (l : List ℕ) → identifiers_ok l ≡ true → (j k : ℕ) → j < length l → k < length l → get_or l j 0 ≡ get_or l k 0 → j ≡ k
identifiers_at [] e j k h h' q = absurd (not-suc-le-zero h)
identifiers_at (x ∷ xs) e zero zero h h' q = refl
identifiers_at (x ∷ xs) e zero (suc k) h h' q = absurd (absent_at x xs (identifiers_parts x xs e).not_in k (le_of_suc-le-suc h') q)
identifiers_at (x ∷ xs) e (suc j) zero h h' q = absurd (absent_at x xs (identifiers_parts x xs e).not_in j (le_of_suc-le-suc h) (sym q))
identifiers_at (x ∷ xs) e (suc j) (suc k) h h' q =
    ap suc (identifiers_at xs (identifiers_parts x xs e).rest j k (le_of_suc-le-suc h) (le_of_suc-le-suc h') q)

pub small_at : (is : List ℕ) → identifiers_ok is ≡ true → (j : ℕ) → j < length is → get_or is j 0 < two_to31
small_at [] e j h = absurd (not-suc-le-zero h)
small_at (i ∷ is) e zero h = ltb-true i two_to31 (identifiers_parts i is e).low
small_at (i ∷ is) e (suc j) h = small_at is (identifiers_parts i is e).rest j (le_of_suc-le-suc h)

-- ONE MORE TOP-LEVEL STRUCTURE behind the others: its row, and deeper rows inside it
abbrev pub Deep : List Row → Type 0
Deep rows = (r : Row) → In r rows → 2 ≤ r.depth

not_top : (x : Row) (xs : List Row) → Deep (x ∷ xs) → is_top x ≡ false
not_top x xs h = ne_eqb x.depth 1 (λ q. omega (arith, h x (here refl)))

deep_tops : (rows : List Row) → Deep rows → tops rows ≡ []
unfolding tops
deep_tops [] h = refl
deep_tops (x ∷ xs) h = rw (not_top x xs h) (deep_tops xs (λ r i. h r (there i)))

deep_until : (rows : List Row) → Deep rows → until_top rows ≡ rows
unfolding until_top
deep_until [] h = refl
deep_until (x ∷ xs) h = rw (not_top x xs h) (ap (λ (l : List Row). x ∷ l) (deep_until xs (λ r i. h r (there i))))

until_append : (rows : List Row) (x : Row) (xs : List Row) → is_top x ≡ true → until_top (rows ++ x ∷ xs) ≡ until_top rows
unfolding until_top
until_append [] x xs d = rw d refl
until_append (y ∷ ys) x xs d = rw (until_append ys x xs d) refl

pub tops_append : (rows : List Row) (x : Row) (xs : List Row) → is_top x ≡ true → Deep xs
    → tops (rows ++ x ∷ xs) ≡ tops rows ++ (record { row = x; inside = xs } ∷ [])
unfolding tops
tops_append [] x xs d h = rw (d, deep_until xs h, deep_tops xs h) refl
tops_append (y ∷ ys) x xs d h = rw (until_append ys x xs d, tops_append ys x xs d h) (go (is_top y))
  where
    go : (b : Bool) → cons_if b (top_of y ys) (tops ys ++ (record { row = x; inside = xs } ∷ [])) ≡ cons_if b (top_of y ys) (tops ys) ++ (record { row = x; inside = xs } ∷ [])
    go true = refl
    go false = refl

pub groups_in_append : (id : ℕ) (ts us : List Top) → groups_in id (ts ++ us) ≡ groups_in id ts ++ groups_in id us
unfolding groups_in
groups_in_append id [] us = refl
groups_in_append id (t ∷ ts) us = rw (groups_in_append id ts us) (go (is_group id t))
  where
    go : (b : Bool) → cons_if b t (groups_in id ts ++ groups_in id us) ≡ cons_if b t (groups_in id ts) ++ groups_in id us
    go true = refl
    go false = refl

module _ (id : ℕ) (rows : List Row) (x : Row) (xs : List Row) (top : is_top x ≡ true) (deep : Deep xs) where
  abbrev last : Top
  last = record { row = x; inside = xs }

  both : groups id (rows ++ x ∷ xs) ≡ groups id rows ++ groups_in id (last ∷ [])
  unfolding groups
  both = rw (tops_append rows x xs top deep) (groups_in_append id (tops rows) (last ∷ []))

  -- a group with the identifier comes last among those with it
  pub groups_more : is_group id last ≡ true → groups id (rows ++ x ∷ xs) ≡ groups id rows ++ (last ∷ [])
  unfolding groups_in
  groups_more e = both ∙ rw e refl

  -- any other structure leaves them as they were
  pub groups_same : is_group id last ≡ false → groups id (rows ++ x ∷ xs) ≡ groups id rows
  unfolding groups_in
  groups_same e = both ∙ rw e (append-nil (groups id rows))
