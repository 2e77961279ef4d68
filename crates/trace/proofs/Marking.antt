-- The marks of the attributes, one direct member after the other; what they come to is what the meaning asks.
use mathlib.Core.Path.{◌≡◌, refl, sym, ap, ◌∙◌, subst}
use mathlib.Core.Bool.{Bool, true, false, cond}
use mathlib.Core.List.{List, [], ◌∷◌, ◌++◌, map}
use Prim.Native.Nat.{ℕ, ◌+◌, ◌<◌}
use native.Mathlib.Omega.{arith}
use lib.ListN.{length, get_or, length-map}
use Rattle.std.proofs.Common.{take, set, replicate, length-set, get_or-set_same, get_or-set_other, ◌≤◌}
use borrow.Author.Tests.{eqb-true, eqb-false, eq-eqb, ne_eqb}
use lib.Seq.{ext_get_or}
use Rattle.std.proofs.lemmas.List.{get_or-map, get_or-replicate, take_all}
use Rattle.std.specs.Prelude.{Some, None}
use Rattle.std.specs.List.{list_all}
use lib.Dec.{eqb}
use Rattle.meaning.specs.Bytes.{Part, whole, number}
use Rattle.meaning.specs.Names.{MQCFT_INTEGER}
use Rattle.meaning.specs.Answer.{Result, accepted, refused, and_then, cons_if}
use Rattle.meaning.specs.Structure.{Row}
use Rattle.meaning.specs.Walk.{Walked, walked, walk, rows_in}
use Rattle.meaning.specs.Trace.{is_direct, direct_in, named, one_integer, each_once, place_of_first, places_of, value_at, values_at, identifiers_ok, sheet_ok}
use Rattle.meaning.proofs.Tests.{clash, and_true}
use Rattle.meaning.proofs.Structures.{row_at_lem}
use Rattle.meaning.proofs.Walks.{walks, walks_depth, In, here, there}
use Rattle.meaning.proofs.Fuel.{walk_zero}
use Rattle.meaning.proofs.Attributes.{get_d_map, once_at, identifiers_at}
use Rattle.meaning.proofs.Composed.{sheet_length}
use Rattle.meaning.proofs.Tops.{direct_next}
use Rattle.trace.specs.Passing.{crossed, behind_of}
use Rattle.trace.specs.Marks.{onto, noted, noted_in, mark_from, Noted, Marked, is_at, place_in, all_places}
use Rattle.trace.specs.declared.members.Mark.{Mark}
use Rattle.trace.specs.declared.members.Mark.TheVariants.{Absent, Fault, At}
use Rattle.trace.proofs.Turns.{Over, walk_over}
use Rattle.trace.proofs.Skipping.{behind_over}

-- THE VALUES that were read
pub values_read : (s places v : List ℕ) → length places ≡ 8 → length v ≡ 8 → ((j : ℕ) → j < 8 → get_or v j 0 ≡ number s (get_or places j 0 + 12)) → v ≡ values_at (whole s) places
unfolding values_at value_at
values_read s places v eight n h =
    ext_get_or 0 v (map (value_at (whole s)) places) (n ∙ sym (length-map places (value_at (whole s)) ∙ eight))
    (λ j i. h j (omega arith) ∙ sym (get_d_map (value_at (whole s)) places j (omega arith)))

pub none_marked : (j : ℕ) → j < 8 → get_or (replicate 8 Absent) j Absent ≡ Absent
none_marked j h = get_or-replicate 8 j Absent Absent h

-- THE ONE MARK that a member changes, the k-th: no other identifier of a sound sheet is the member's
pub marked_alone : (sheet : List ℕ) (was : List Mark) (kind parameter place k : ℕ) → sheet_ok sheet ≡ true → length was ≡ 8 → k < 8
    → parameter ≡ get_or sheet k 0 → Noted sheet was kind parameter place (set was k (onto (get_or was k Absent) kind place))
unfolding noted sheet_ok
marked_alone sheet was kind parameter place k ok eight h e =
    record { eight = simp length-set eight; each = λ j i. go j i (eqb j k) refl }
  where
    now : List Mark
    now = set was k (onto (get_or was k Absent) kind place)

    go : (j : ℕ) → j < 8 → (b : Bool) → eqb j k ≡ b → get_or now j Absent ≡ noted (get_or sheet j 0) (get_or was j Absent) kind parameter place
    go j i true q =
        let z : j ≡ k = eqb-true j k q in
        subst (λ (y : ℕ). get_or now y Absent ≡ noted (get_or sheet y 0) (get_or was y Absent) kind parameter place) (sym z)
        (get_or-set_same was k _ Absent (omega (arith, eight)) ∙ rw (eq-eqb parameter (get_or sheet k 0) e) refl)
    go j i false q =
        let z = eqb-false j k q in
        let n = sheet_length sheet ok in
        get_or-set_other was k j _ Absent z
        ∙ rw (ne_eqb parameter (get_or sheet j 0) (λ p. z (identifiers_at sheet (and_true (eqb (length sheet) 8) (identifiers_ok sheet) ok).1 j k (omega (arith, n)) (omega (arith, n)) (sym p ∙ e)))) refl

-- the places, when all eight marks are places
pub all_places_at : (marks : List Mark) (places : List ℕ) (k : ℕ) → length marks ≡ 8 → length marks ≤ k → length places ≡ 8 → list_all is_at (take k marks) ≡ true
    → ((j : ℕ) → j < 8 → get_or places j 0 ≡ place_in (get_or marks j Absent)) → Some places ≡ all_places marks
all_places_at marks places k eight m n t h =
    let f : list_all is_at marks ≡ true = ap (list_all is_at) (sym (take_all k marks m)) ∙ t in
    let g : places ≡ map place_in marks =
    ext_get_or 0 places (map place_in marks) (n ∙ sym (length-map marks place_in ∙ eight)) (λ j i. h j (omega arith) ∙ sym (get_or-map place_in marks j Absent 0 (omega arith))) in
    rw (f, g) refl

-- THE MARK of an identifier after members is its mark after those of them that have the identifier
onto_all : Mark → List Row → Mark
onto_all mark [] = mark
onto_all mark (r ∷ rs) = onto_all (onto mark r.kind r.place) rs

noted-named : (id : ℕ) (mark : Mark) (rows : List Row) → noted_in id mark rows ≡ onto_all mark (named id rows)
unfolding noted_in noted named onto_all
noted-named id mark [] = refl
noted-named id mark (r ∷ rs) = go (eqb r.parameter id) (λ k. noted-named id k rs)
  where
    go : (b : Bool) → ((k : Mark) → noted_in id k rs ≡ onto_all k (named id rs)) → noted_in id (cond b (onto mark r.kind r.place) mark) rs ≡ onto_all mark (cons_if b r (named id rs))
    go true ih = ih (onto mark r.kind r.place)
    go false ih = ih mark

fault_stays : (rows : List Row) → onto_all Fault rows ≡ Fault
unfolding onto_all onto
fault_stays [] = refl
fault_stays (r ∷ rs) = fault_stays rs

-- exactly one and an integer: the mark is its place; otherwise it is no place
mark_once : (rows : List Row) → (is_at (onto_all Absent rows) ≡ one_integer rows) × (one_integer rows ≡ true → onto_all Absent rows ≡ At (place_of_first rows))
unfolding onto_all onto one_integer place_of_first
mark_once [] = (refl, λ e. absurd (clash (cc)))
mark_once (r ∷ []) = go (eqb r.kind MQCFT_INTEGER)
  where
    go : (b : Bool) → (is_at (cond b (At r.place) Fault) ≡ b) × (b ≡ true → cond b (At r.place) Fault ≡ At r.place)
    go true = (refl, λ e. refl)
    go false = (refl, λ e. absurd (clash (cc)))
mark_once (r ∷ q ∷ rs) = (ap is_at (go (eqb r.kind MQCFT_INTEGER)), λ z. absurd (clash (cc)))
  where
    go : (b : Bool) → onto_all (onto (cond b (At r.place) Fault) q.kind q.place) rs ≡ Fault
    go true = fault_stays rs
    go false = fault_stays rs

-- what holds of every row
abbrev pub Every : (Row → Type 0) → List Row → Type 0
Every P rows = (r : Row) → In r rows → P r

pub every_if : (P : Row → Type 0) (b : Bool) (x : Row) (xs rest : List Row) → Every P (x ∷ xs) → Every P rest → Every P (cons_if b x rest)
every_if P true x xs rest h ih r (here e) = h r (here e)
every_if P true x xs rest h ih r (there i) = ih r i
every_if P false x xs rest h ih r i = ih r i

pub every_named : (P : Row → Type 0) (id : ℕ) (rows : List Row) → Every P rows → Every P (named id rows)
unfolding named
every_named P id [] h = h
every_named P id (x ∷ xs) h = every_if P (eqb x.parameter id) x xs (named id xs) h (every_named P id xs (λ r i. h r (there i)))

pub every_direct : (P : Row → Type 0) (rows : List Row) → Every P rows → Every P (direct_in rows)
unfolding direct_in
every_direct P [] h = h
every_direct P (x ∷ xs) h = every_if P (is_direct x) x xs (direct_in xs) h (every_direct P xs (λ r i. h r (there i)))

pub once_place : (P : ℕ → Type 0) (rows : List Row) → one_integer rows ≡ true → Every (λ r. P r.place) rows → P (place_of_first rows)
unfolding one_integer place_of_first
once_place P [] e h = absurd (clash (cc))
once_place P (r ∷ []) e h = h r (here refl)
once_place P (r ∷ q ∷ rs) e h = absurd (clash (cc))

module _ (rows : List Row) where
  mark_test : (id : ℕ) → is_at (noted_in id Absent rows) ≡ one_integer (named id rows)
  mark_test id = ap is_at (noted-named id Absent rows) ∙ (mark_once (named id rows)).0

  mark_place : (id : ℕ) → one_integer (named id rows) ≡ true → noted_in id Absent rows ≡ At (place_of_first (named id rows))
  mark_place id e = noted-named id Absent rows ∙ (mark_once (named id rows)).1 e

  -- EACH ONCE: all marks are places, and then they are the meaning's
  marks_once : (sheet : List ℕ) → list_all is_at (map (λ id. noted_in id Absent rows) sheet) ≡ each_once sheet rows
  unfolding each_once
  marks_once [] = refl
  marks_once (id ∷ ids) = rw (mark_test id, marks_once ids) refl

  marks_places : (sheet : List ℕ) → each_once sheet rows ≡ true → map place_in (map (λ id. noted_in id Absent rows) sheet) ≡ places_of sheet rows
  unfolding each_once places_of
  marks_places [] e = refl
  marks_places (id ∷ ids) e =
      let f = and_true (one_integer (named id rows)) (each_once ids rows) e in
      rw (mark_place id f.0, marks_places ids f.1) refl

  -- what holds of every member's place holds of the meaning's places
  pub every_place : (P : ℕ → Type 0) → Every (λ r. P r.place) rows → (sheet : List ℕ) → each_once sheet rows ≡ true → (j : ℕ) → j < length sheet → P (get_or (places_of sheet rows) j 0)
  unfolding places_of
  every_place P every sheet once j h =
      let id : ℕ = get_or sheet j 0 in
      subst P (sym (get_d_map (λ id. place_of_first (named id rows)) sheet j h)) (once_place P (named id rows) (once_at sheet rows once j h) (every_named (λ r. P r.place) id rows every))

-- MARKS AFTER A WALK, as a list
mark_rows : (id : ℕ) (w : Result Walked) → mark_from id Absent w ≡ noted_in id Absent (direct_in (rows_in w))
unfolding noted_in direct_in
mark_rows id (accepted w) = refl
mark_rows id (refused k p) = refl

module _ (sheet : List ℕ) (eight : length sheet ≡ 8) (w : Result Walked) (marks : List Mark) (h : Marked sheet w marks) where
  abbrev members : List Row
  members = direct_in (rows_in w)

  marks_list : marks ≡ map (λ id. noted_in id Absent members) sheet
  marks_list =
      let f : ℕ → Mark = λ id. noted_in id Absent members in
      let n = h.eight in
      ext_get_or Absent marks (map f sheet) (n ∙ sym (length-map sheet f ∙ eight))
      (λ j i. h.each j (omega arith) ∙ mark_rows (get_or sheet j 0) w ∙ sym (get_or-map f sheet j 0 Absent (omega arith)))

  places_is : all_places marks ≡ cond (each_once sheet members) (Some (map place_in marks)) None
  places_is = ap (λ (b : Bool). cond b (Some (map place_in marks)) None) (ap (list_all is_at) marks_list ∙ marks_once members sheet)

  pub found_none : None ≡ all_places marks → each_once sheet members ≡ false
  found_none e = go (each_once sheet members) (e ∙ places_is)
    where
      go : (b : Bool) → None ≡ cond b (Some (map place_in marks)) None → b ≡ false
      go true q = absurd (clash (cc))
      go false q = refl

  pub found_some : (places : List ℕ) → Some places ≡ all_places marks → (each_once sheet members ≡ true) × (places ≡ places_of sheet members)
  found_some places e = go (each_once sheet members) refl (e ∙ places_is)
    where
      go : (b : Bool) → each_once sheet members ≡ b → Some places ≡ cond b (Some (map place_in marks)) None → (each_once sheet members ≡ true) × (places ≡ places_of sheet members)
      go true o q = let f : places ≡ map place_in marks = cc in (o, f ∙ ap (map place_in) marks_list ∙ marks_places members sheet o)
      go false o q = absurd (clash (cc))

-- ONE TURN over direct members
pub mark_end : (m : Part) (p n id : ℕ) (mark : Mark) → n ≡ 0 → mark_from id mark (walk m p 2 n) ≡ mark
unfolding direct_in noted_in
mark_end m p n id mark z = rw (z, walk_zero m p 2) refl

module _ (m : Part) (p left left' : ℕ) (due : left ≡ left' + 1) where
  module _ (r : Row) (q : ℕ) (o : Over m p 2 r q) where
    pub next_direct : (y : Walked) → direct_in (r ∷ (o.inside ++ y.rows)) ≡ r ∷ direct_in y.rows
    next_direct y =
        direct_next r o.inside y.rows (sym (row_at_lem m p 2 r o.there).at_depth)
        (λ x i. walks_depth (walks m (p + r.size) 3 r.members o.inside q o.within) x i)

    mark_next : (id : ℕ) (mark : Mark) → mark_from id mark (walk m p 2 left) ≡ mark_from id (noted id mark r.kind r.parameter r.place) (walk m q 2 left')
    unfolding noted_in
    mark_next id mark = rw (walk_over m p 2 left left' due r q o) (go (walk m q 2 left'))
      where
        go : (w : Result Walked) → mark_from id mark (and_then w (λ y. walked (r ∷ (o.inside ++ y.rows)) y.next)) ≡ mark_from id (noted id mark r.kind r.parameter r.place) w
        go (accepted y) = rw (next_direct y) refl
        go (refused k x) = refl

-- the same with the fields that were read, and the place behind
pub mark_read : (s : List ℕ) (p left left' q kind parameter : ℕ) → left ≡ left' + 1 → behind_of (crossed (whole s) p 2) ≡ accepted q → kind ≡ number s p
    → parameter ≡ number s (p + 8) → (id : ℕ) (mark : Mark)
    → mark_from id mark (walk (whole s) p 2 left) ≡ mark_from id (noted id mark kind parameter p) (walk (whole s) q 2 left')
mark_read s p left left' q kind parameter due b k j id mark =
    let o = behind_over (whole s) p 2 q b in
    let r : Row = o.0 in
    let at = row_at_lem (whole s) p 2 r o.1.there in
    let a : kind ≡ r.kind = k ∙ at.at_kind in
    let e : parameter ≡ r.parameter = j ∙ at.at_parameter in
    let f : p ≡ r.place = at.at_place in
    let g : noted id mark r.kind r.parameter r.place ≡ noted id mark kind parameter p = cc in
    mark_next (whole s) p left left' due r q o.1 id mark ∙ ap (λ (x : Mark). mark_from id x (walk (whole s) q 2 left')) g
