-- The first string with an identifier, one direct member after the other, and the name that it is.
use mathlib.Core.Path.{◌≡◌, refl, sym, ap, ◌∙◌, subst}
use mathlib.Core.Bool.{Bool, true, false, ◌&&◌}
use mathlib.Core.List.{List, [], ◌∷◌, ◌++◌}
use Prim.Native.Nat.{ℕ, ◌+◌, ◌-◌, ◌≤◌, ◌<◌}
use native.Mathlib.Omega.{arith}
use lib.ListN.{length, get_or, take, drop, length-take, get_or-eq_default}
use lib.Seq.{take-length}
use lib.Dec.{ltb, eqb}
use borrow.Author.Tests.{ltb-true, ltb-false, eqb-true}
use denote.Ref.{Bor}
use Rattle.meaning.specs.Bytes.{Part, part_of, whole, number, num}
use Rattle.meaning.specs.Names.{MQCFT_STRING, MQGACF_ACTIVITY}
use Rattle.meaning.specs.Answer.{Result, accepted, refused, and_then, cons_if}
use Rattle.meaning.specs.Structure.{Row}
use Rattle.meaning.specs.Walk.{Walked, walked, walk}
use Rattle.meaning.specs.Layout.{part_in}
use Rattle.meaning.specs.Message.{parameter_count, first_place}
use Rattle.meaning.specs.Trace.{Terms, Trace, Top, activities, direct_in, named, read_trace}
use Rattle.meaning.specs.Activity.{Span, bytes_in, no_group, nth_activity, strings, Name, in_message, substitute, string_at, trimmed_at, first_name, is_pad, trimmed, name_of, name_bytes}
use Rattle.meaning.proofs.Tests.{clash, and_true}
use Rattle.meaning.proofs.Structures.{RowAt, row_at_lem}
use Rattle.meaning.proofs.Walks.{walks, here, there, in_nil}
use Rattle.meaning.proofs.Fuel.{walk_zero, from, walk_from}
use Rattle.meaning.proofs.Sound.{Sound, sound}
use Rattle.meaning.proofs.Lists.{take_last}
use Rattle.meaning.proofs.Strings.{string_data, walks_data}
use Rattle.meaning.proofs.Trimmed.{trim_pad, trim_other, trim_le}
use Rattle.layout.specs.declared.part.Part.{Part as PartIn}
use Rattle.wire.proofs.Parts.{whole-take}
use Rattle.trace.specs.Passing.{is_sound}
use Rattle.trace.specs.Groups.{whole_group, counted}
use Rattle.trace.specs.Locations.{traced, traced_by}
use Rattle.trace.specs.declared.location.Traced.{Traced}
use Rattle.activities.specs.Naming.{first_data, string_in, Gives}
use Rattle.trace.specs.declared.groups.Group.{Group}
use Rattle.trace.proofs.Turns.{Over, walk_over}
use Rattle.trace.proofs.Skipping.{sound_next}
use Rattle.trace.proofs.Marking.{Every, every_named, every_direct, next_direct}
use Rattle.trace.proofs.Locating.{Found, found, nth_walk, traced_refused}

-- ONE TURN over direct members
abbrev pub is_string : ℕ → ℕ → ℕ → Bool
is_string id kind parameter = eqb kind MQCFT_STRING && eqb parameter id

string_more : (m : Part) (id : ℕ) (r : Row) (rs : List Row) (b c : Bool) → eqb r.kind MQCFT_STRING ≡ b → eqb r.parameter id ≡ c → b && c ≡ true
    → first_data m (named id (strings (r ∷ rs))) ≡ in_message (string_at m r.place)
unfolding named strings
string_more m id r rs true true e f g = rw (e, f) refl
string_more m id r rs true false e f g = absurd (clash (cc))
string_more m id r rs false c e f g = absurd (clash (cc))

string_other : (m : Part) (id : ℕ) (r : Row) (rs : List Row) (b c : Bool) → eqb r.kind MQCFT_STRING ≡ b → eqb r.parameter id ≡ c → b && c ≡ false
    → first_data m (named id (strings (r ∷ rs))) ≡ first_data m (named id (strings rs))
unfolding named strings
string_other m id r rs true true e f g = absurd (clash (cc))
string_other m id r rs true false e f g = rw (e, f) refl
string_other m id r rs false c e f g = rw e refl

pub string_end : (m : Part) (p n id : ℕ) → n ≡ 0 → string_in m id (walk m p 2 n) ≡ substitute
unfolding direct_in strings named
string_end m p n id z = rw (z, walk_zero m p 2) refl

-- the member that is passed over, and its fields as they were read
pub record Member (s : List ℕ) (p : ℕ) (r : Row) (q kind parameter : ℕ) : Type 0 where
  pub over : Over (whole s) p 2 r q
  pub is_kind : kind ≡ number s p
  pub is_parameter : parameter ≡ number s (p + 8)

module _ {s : List ℕ} {p : ℕ} {r : Row} {q kind parameter : ℕ} (o : Member s p r q kind parameter) where
  abbrev part : Part
  part = whole s

  at : RowAt part p 2 r
  at = row_at_lem part p 2 r o.over.there

  test_read : (id : ℕ) (b : Bool) → is_string id kind parameter ≡ b → is_string id r.kind r.parameter ≡ b
  test_read id b e =
      let f : is_string id r.kind r.parameter ≡ is_string id kind parameter = cc (o.is_kind ∙ at.at_kind, o.is_parameter ∙ at.at_parameter) in
      f ∙ e

  -- a string's data lie in the bytes
  pub string_in_holds : (id : ℕ) → is_string id kind parameter ≡ true → p + 20 + number s (p + 16) ≤ length s
  string_in_holds id h = string_data part p 2 r o.over.there (sym (o.is_kind ∙ at.at_kind) ∙ eqb-true kind MQCFT_STRING (and_true (eqb kind MQCFT_STRING) (eqb parameter id) h).0)

  module _ (left left' : ℕ) (due : left ≡ left' + 1) (id : ℕ) where
    pub string_hit : is_sound (walk part p 2 left) ≡ true → is_string id kind parameter ≡ true → string_in part id (walk part p 2 left) ≡ in_message (string_at part p)
    string_hit sound h = rw (walk_over part p 2 left left' due r q o.over) (go (walk part q 2 left') (sound_next part p 2 left left' due sound r q o.over))
      where
        go : (w : Result Walked) → is_sound w ≡ true → string_in part id (and_then w (λ y. walked (r ∷ (o.over.inside ++ y.rows)) y.next)) ≡ in_message (string_at part p)
        go (accepted y) s =
            rw (next_direct part p left left' due r q o.over y)
            (string_more part id r (direct_in y.rows) (eqb r.kind MQCFT_STRING) (eqb r.parameter id) refl refl (test_read id true h)
            ∙ ap (λ (x : ℕ). in_message (string_at part x)) (sym at.at_place))
        go (refused k x) s = absurd (clash (cc))

    pub string_miss : is_string id kind parameter ≡ false → string_in part id (walk part p 2 left) ≡ string_in part id (walk part q 2 left')
    string_miss h = rw (walk_over part p 2 left left' due r q o.over) (go (walk part q 2 left'))
      where
        go : (w : Result Walked) → string_in part id (and_then w (λ y. walked (r ∷ (o.over.inside ++ y.rows)) y.next)) ≡ string_in part id w
        go (accepted y) = rw (next_direct part p left left' due r q o.over y) (string_other part id r (direct_in y.rows) (eqb r.kind MQCFT_STRING) (eqb r.parameter id) refl refl (test_read id false h))
        go (refused k x) = refl

-- A STRING that was found: its data lie in the message
pub every_string : (P : Row → Type 0) (rows : List Row) → Every P rows → Every (λ r. P r × (r.kind ≡ MQCFT_STRING)) (strings rows)
unfolding strings
every_string P [] h = λ r i. absurd (in_nil i)
every_string P (x ∷ xs) h = go (eqb x.kind MQCFT_STRING) refl (every_string P xs (λ r i. h r (there i)))
  where
    go : (b : Bool) → eqb x.kind MQCFT_STRING ≡ b → Every (λ r. P r × (r.kind ≡ MQCFT_STRING)) (strings xs) → Every (λ r. P r × (r.kind ≡ MQCFT_STRING)) (cons_if b x (strings xs))
    go true e ih r (here f) = (h r (here f), ap (λ (y : Row). y.kind) f ∙ eqb-true x.kind MQCFT_STRING e)
    go true e ih r (there i) = ih r i
    go false e ih r i = ih r i

first_of : (P : Row → Type 0) (m : Part) (rows : List Row) (s : Span) → Every P rows → first_data m rows ≡ in_message s → (r : Row) × (P r) × (string_at m r.place ≡ s)
first_of P m [] s h e = absurd (clash (cc))
first_of P m (r ∷ rs) s h e = (r, h r (here refl), cc)

-- THE LAST of the bytes: a name ends there, or before it
module _ (l : List ℕ) (some : 1 ≤ length l) where
  last_byte : l ≡ take (length l - 1) l ++ (get_or l (length l - 1) 0 ∷ [])
  last_byte = sym (take-length l) ∙ take_last l (length l) some (omega arith)

  pub kept_stop : is_pad (get_or l (length l - 1) 0) ≡ false → trimmed l ≡ l
  kept_stop e = ap trimmed last_byte ∙ trim_other (take (length l - 1) l) _ e ∙ sym last_byte

  pub kept_next : is_pad (get_or l (length l - 1) 0) ≡ true → trimmed l ≡ trimmed (take (length l - 1) l)
  kept_next e = ap trimmed last_byte ∙ trim_pad (take (length l - 1) l) _ e

pub kept_none : (l : List ℕ) → length l < 1 → length (trimmed l) ≡ 0
unfolding trimmed
kept_none [] h = refl
kept_none (x ∷ xs) h = absurd (omega arith)

length-take_most : (n : ℕ) (l : List ℕ) → length (take n l) ≤ n
length-take_most n l = rw (length-take n l) (omega arith)

-- THE NAME from the data that were found
module _ (m : Part) (buf : List ℕ) where
  name_none : (rows : List Row) → first_data m rows ≡ substitute → first_name m buf rows ≡ substitute
  name_none [] e = refl
  name_none (r ∷ rs) e = absurd (clash (cc))

  name_some : (rows : List Row) (s : Span) → first_data m rows ≡ in_message s → first_name m buf rows ≡ in_message (trimmed_at buf s)
  name_some [] s e = absurd (clash (cc))
  name_some (r ∷ rs) s e = let f : string_at m r.place ≡ s = cc in ap (λ (x : Span). in_message (trimmed_at buf x)) f

  name_data : (rows : List Row) (s : Span) → first_name m buf rows ≡ in_message s → (d : Span) × (first_data m rows ≡ in_message d) × (trimmed_at buf d ≡ s)
  name_data [] s e = absurd (clash (cc))
  name_data (r ∷ rs) s e = (string_at m r.place, refl, cc)

-- neither the walk nor a string's data looks at where the part starts
string_from : (buf : List ℕ) (end start : ℕ) (id : ℕ) (w : Result Walked) → string_in (whole (take end buf)) id w ≡ string_in (from start (part_of buf end)) id w
string_from buf end start id (accepted w) = go (named id (strings (direct_in w.rows)))
  where
    go : (rows : List Row) → first_data (whole (take end buf)) rows ≡ first_data (from start (part_of buf end)) rows
    go [] = refl
    go (r ∷ rs) = refl
string_from buf end start id (refused k p) = refl

module _ (tm : Terms) (buf : List ℕ) (len n id : ℕ) where
  abbrev m : Part
  m = part_in tm.layout buf len

  pub name_lost : (k p : ℕ) → refused k p ≡ traced_by n tm buf len → substitute ≡ name_of tm buf len n id
  unfolding name_of direct_in strings named
  name_lost k p h = rw (traced_refused n tm buf len k p h) refl

  module _ (o : Traced) (h : accepted o ≡ traced_by n tm buf len) where
    trace : Found n tm buf len o
    trace = found n tm buf len o h

    facts : Sound tm buf len (record { rows = trace.rows; places = o.places; values = o.values })
    facts = sound tm buf len _ trace.read

    ends : o.part.end ≡ m.end
    ends = ap (λ (x : PartIn). x.end) trace.part

    pub reached : o.part.end ≤ length buf
    reached = omega (arith, ends, facts.lies.within, facts.lies.there)

    abbrev top : Top
    top = get_or (activities trace.rows) n no_group

    abbrev strings_in : List Row
    strings_in = named id (strings (direct_in top.inside))

    -- the walk inside the group goes over the rows that the meaning has inside it
    inside : (q : ℕ) × (walk m o.activity.inside 2 o.activity.members ≡ walked top.inside q)
    unfolding counted whole_group
    inside =
        subst (λ (g : Group). (q : ℕ) × (walk m g.inside 2 g.members ≡ walked top.inside q)) (sym trace.activity)
        (go (ltb n (length (activities trace.rows))) refl)
      where
        go : (b : Bool) → ltb n (length (activities trace.rows)) ≡ b
            → (q : ℕ) × (walk m (top.row.place + top.row.size) 2 top.row.members ≡ walked top.inside q)
        go true e = (_, nth_walk m (first_place m) (parameter_count m) trace.rows facts.message.structures.tree MQGACF_ACTIVITY n (ltb-true n (length (activities trace.rows)) e))
        go false e = rw (get_or-eq_default (activities trace.rows) no_group (ltb-false n (length (activities trace.rows)) e)) (0, walk_zero m 0 2)

    -- the bytes that the code walks over: those up to the part's end
    abbrev bytes : Part
    bytes = whole (take o.part.end buf)

    abbrev gone : Result Walked
    gone = walk bytes o.activity.inside 2 o.activity.members

    same_walk : gone ≡ walk m o.activity.inside 2 o.activity.members
    same_walk =
        ap (λ (x : Part). walk x o.activity.inside 2 o.activity.members) (whole-take buf o.part.end reached)
        ∙ ap (λ (end : ℕ). walk (part_of buf end) o.activity.inside 2 o.activity.members) ends
        ∙ sym (walk_from m.start (part_of buf m.end) o.activity.inside 2 o.activity.members)

    pub group_known : is_sound gone ≡ true
    group_known = ap is_sound (same_walk ∙ inside.1)

    is_name : name_of tm buf len n id ≡ first_name m buf strings_in
    unfolding name_of
    is_name = ap (λ (r : Result Trace). first_name m buf (named id (strings (direct_in (nth_activity r n).inside)))) trace.read

    found_data : (x : Name) → x ≡ string_in bytes id gone → first_data m strings_in ≡ x
    found_data x e =
        sym (e ∙ ap (λ (end : ℕ). string_in (whole (take end buf)) id gone) ends ∙ string_from buf m.end m.start id gone ∙ ap (string_in m id) (same_walk ∙ inside.1))

    data_end : (s : Span) → first_data m strings_in ≡ in_message s → s.place + s.length ≤ length buf
    data_end s e =
        let w = walks m o.activity.inside 2 o.activity.members top.inside inside.0 inside.1 in
        let P : Row → Type 0 = λ r. (r.kind ≡ MQCFT_STRING → r.place + 20 + num m (r.place + 16) ≤ m.end) in
        let all = every_named (λ r. P r × (r.kind ≡ MQCFT_STRING)) id (strings (direct_in top.inside)) (every_string P (direct_in top.inside) (every_direct P top.inside (λ r i. walks_data w r i))) in
        let g = first_of (λ r. P r × (r.kind ≡ MQCFT_STRING)) m strings_in s all e in
        omega (arith, g.1.0 g.1.1, ap (λ (x : Span). x.place) g.2, ap (λ (x : Span). x.length) g.2, facts.lies.within, facts.lies.there)

    pub name_missing : substitute ≡ string_in bytes id gone → substitute ≡ name_of tm buf len n id
    name_missing e = sym (is_name ∙ name_none m buf strings_in (found_data substitute e))

    module _ (s : Span) (e : in_message s ≡ string_in bytes id gone) where
      pub string_fits : s.place + s.length ≤ length buf
      string_fits = data_end s (found_data (in_message s) e)

      pub name_found : in_message (trimmed_at buf s) ≡ name_of tm buf len n id
      name_found = sym (is_name ∙ name_some m buf strings_in s (found_data (in_message s) e))

    -- a name lies in the message
    name_ends : (s : Span) → in_message s ≡ name_of tm buf len n id → s.place + s.length ≤ length buf
    name_ends s e =
        let g = name_data m buf strings_in s (sym (e ∙ is_name)) in
        omega (arith, data_end g.0 g.1, ap (λ (x : Span). x.place) g.2, ap (λ (x : Span). x.length) g.2, trim_le (bytes_in buf g.0), bytes_le g.0)
      where
        bytes_le : (d : Span) → length (bytes_in buf d) ≤ d.length
        bytes_le d = length-take_most d.length (drop d.place buf)

pub name_in : (tm : Terms) (buf : List ℕ) (len n id : ℕ) (s : Span) → in_message s ≡ name_of tm buf len n id → s.place + s.length ≤ length buf
name_in tm buf len n id s e = go (read_trace tm buf len) refl
  where
    go : (x : Result Trace) → read_trace tm buf len ≡ x → s.place + s.length ≤ length buf
    go (accepted t) f =
        let h = sym (ap (λ (y : Result Trace). and_then y (λ z. accepted (traced n (part_in tm.layout buf len) z))) f) in
        name_ends tm buf len n id (traced n (part_in tm.layout buf len) t) h s e
    go (refused k p) f =
        let h = sym (ap (λ (y : Result Trace). and_then y (λ z. accepted (traced n (part_in tm.layout buf len) z))) f) in
        let z : substitute ≡ in_message s = name_lost tm buf len n id k p h ∙ sym e in
        absurd (clash (cc))

-- WHAT IS GIVEN has the bytes of the name
pub gives_bytes : (msg other r : Bor (List ℕ)) (x : Name) → Gives msg other x r → r.now ≡ name_bytes msg.now other.now x
gives_bytes msg other r (in_message s) g = g.bytes
gives_bytes msg other r substitute g = ap (λ (y : Bor (List ℕ)). y.now) g
