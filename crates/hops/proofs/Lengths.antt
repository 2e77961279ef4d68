-- How long a line is: a name is no longer than what is inside its group, so that a line has no more than twice as many bytes
-- as the group, and the text of a message fits into 131,072 bytes.
use mathlib.Core.Path.{◌≡◌, refl, ap}
use mathlib.Core.List.{List, [], ◌∷◌}
use Prim.Native.Nat.{ℕ, ◌+◌, ◌≤◌, ◌<◌}
use native.Mathlib.Omega.{arith}
use lib.ListN.{length, drop, length-append, length-take}
use Rattle.meaning.specs.Bytes.{Part, num}
use Rattle.meaning.specs.Names.{MQCFT_STRING}
use Rattle.meaning.specs.Answer.{accepted}
use Rattle.meaning.specs.Structure.{Row, structure_at}
use Rattle.meaning.specs.Trace.{direct_in, named}
use Rattle.meaning.specs.Activity.{Span, bytes_in, size_of, strings, string_at, first_name, trimmed, name_bytes}
use Rattle.meaning.specs.Listing.{blank}
use Rattle.meaning.proofs.Structures.{Match, row_at_lem, structure_match}
use Rattle.meaning.proofs.Walks.{Walks, none, more, here, there, in_nil, in_cases}
use Rattle.meaning.proofs.Strings.{string_data}
use Rattle.meaning.proofs.Trimmed.{trim_le}
use Rattle.meaning.proofs.Decimals.{decimal_most, column_ten, length-column}
use Rattle.trace.proofs.Marking.{Every, every_named, every_direct}
use Rattle.activities.proofs.Namings.{every_string}
use Rattle.hops.specs.Hops.{no_name, hop_line}
use Rattle.hops.proofs.Names.{shown_length}

-- THE DATA of a string are shorter than the string
abbrev Fits : Part → Row → Type 0
Fits m r = r.kind ≡ MQCFT_STRING → num m (r.place + 16) ≤ r.size

string_fits : (m : Part) (p d : ℕ) (r : Row) → structure_at m p d ≡ accepted r → Fits m r
string_fits m p d r t k =
    let g = row_at_lem m p d r t in
    let cut : Part = record { bytes = m.bytes; start = m.start; end = p + r.size } in
    let same : Match m p cut p r.size = record { run = λ i h. refl } in
    let s = string_data cut p d _ (structure_match m cut p p d r t same (omega arith)) k in
    rw (← g.at_place) (omega arith)

walks_fit : {m : Part} {p d n : ℕ} {rows : List Row} {q : ℕ} → Walks m p d n rows q → Every (Fits m) rows
walks_fit none r i = absurd (in_nil i)
walks_fit {m} (more {p} {d} {r = r₀} t w₁ w₂) r (here e) = rw e (string_fits m p d r₀ t)
walks_fit (more {rs₁} {rs₂} t w₁ w₂) r (there i) = in_cases rs₁ rs₂ (λ h. walks_fit w₁ r h) (λ h. walks_fit w₂ r h) i

-- a row is no longer than all of them
row_size : (rows : List Row) → Every (λ r. r.size ≤ size_of rows) rows
unfolding size_of
row_size [] r i = absurd (in_nil i)
row_size (x ∷ xs) r (here e) = let f : r.size ≡ x.size = ap (λ (y : Row). y.size) e in omega arith
row_size (x ∷ xs) r (there i) = omega (arith, row_size xs r i)

part_most : (buf : List ℕ) (s : Span) → length (bytes_in buf s) ≤ s.length
part_most buf s = rw (length-take s.length (drop s.place buf)) (omega arith)

-- A NAME, of the rows inside a group, is no longer than they are; what stands for it has one byte
name_most : (m : Part) (buf : List ℕ) (most : ℕ) (rows : List Row) → Every (λ r. num m (r.place + 16) ≤ most) rows
    → length (name_bytes buf no_name (first_name m buf rows)) ≤ 1 + most
name_most m buf most [] h = omega arith
name_most m buf most (r ∷ rs) h =
    let s : Span = string_at m r.place in
    omega (arith, h r (here refl), part_most buf s, trim_le (bytes_in buf s), part_most buf (record { place = s.place; length = length (trimmed (bytes_in buf s)) }))

pub name_short : (m : Part) (buf : List ℕ) (id : ℕ) {p d n : ℕ} (rows : List Row) {q : ℕ} → Walks m p d n rows q
    → length (name_bytes buf no_name (first_name m buf (named id (strings (direct_in rows))))) ≤ 1 + size_of rows
name_short m buf id rows w =
    let P : Row → Type 0 = λ r. Fits m r × (r.size ≤ size_of rows) in
    let all = every_named (λ r. P r × (r.kind ≡ MQCFT_STRING)) id (strings (direct_in rows)) (every_string P (direct_in rows) (every_direct P rows (λ r i. (walks_fit w r i, row_size rows r i)))) in
    name_most m buf (size_of rows) (named id (strings (direct_in rows))) (λ r i. let g = all r i in omega (arith, g.0.0 g.1, g.0.1))

-- A LINE
pub line_most : (number place size : ℕ) (name : List ℕ) → place < 100000 → size < 100000 → length (hop_line number place size name) ≤ 24 + length name
unfolding hop_line
line_most number place size name p s =
    simp length-append
    (omega (arith, column_ten number blank, length-column place blank, length-column size blank, decimal_most 4 place p, decimal_most 4 size s, shown_length name))
