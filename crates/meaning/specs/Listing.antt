-- The listing as text, byte for byte.
use Rattle.std.specs.Prelude.{ℕ, zero, suc, ◌+◌, ◌/◌, ◌%◌, cond, List, [], ◌∷◌, ◌++◌, length, ltb}
use Prim.Native.Char.{code}
use Prim.Native.String.{String, [] as []ˢ, ◌∷◌ as ◌∷ˢ◌}
use Rattle.meaning.specs.Bytes.{Part}
use Rattle.meaning.specs.Answer.{Result, accepted, refused}
use Rattle.meaning.specs.Structure.{Row}
use Rattle.meaning.specs.Layout.{Layout, part_in}
use Rattle.meaning.specs.Message.{header_type, command, parameter_count, scan}

-- the bytes of a text
abbrev pub ascii : String → List ℕ
ascii []ˢ = []
ascii (c ∷ˢ s) = code c ∷ ascii s

abbrev pub blank : ℕ
blank = 32

abbrev pub newline : ℕ
newline = 10

abbrev pub zero_digit : ℕ
zero_digit = 48

-- the decimal digits of n, at most so many
unfoldable pub digits : ℕ → ℕ → List ℕ
digits zero n = []
digits (suc most) n = cond (ltb n 10) ((zero_digit + n) ∷ []) (digits most (n / 10) ++ (zero_digit + n % 10) ∷ [])

-- a number as text; no number of a listing has more than ten digits, for all are below 2^32
unfoldable pub decimal : ℕ → List ℕ
decimal n = digits 10 n

-- a number and the byte behind it
unfoldable pub column : ℕ → ℕ → List ℕ
column n behind = decimal n ++ behind ∷ []

-- type, command, count, and the length of the whole message
unfoldable pub header_line : Part → ℕ → List ℕ
header_line m len =
    ascii "pcf " ++ (column (header_type m) blank ++ (column (command m) blank ++ (column (parameter_count m) blank ++ column len newline)))

-- depth, place, type, parameter, StrucLength
unfoldable pub row_line : Row → List ℕ
row_line r =
    column r.depth blank ++ (column r.place blank ++ (column r.kind blank ++ (column r.parameter blank ++ column r.size newline)))

unfoldable pub row_lines : List Row → List ℕ
row_lines [] = []
row_lines (r ∷ rs) = row_line r ++ row_lines rs

-- the number of structures
unfoldable pub end_line : ℕ → List ℕ
end_line n = ascii "end " ++ column n newline

unfoldable pub listing_text : Part → ℕ → List Row → List ℕ
listing_text m len rows = header_line m len ++ (row_lines rows ++ end_line (length rows))

-- a refusal's only line: the word, its number, its place
unfoldable pub refusal_line : ℕ → ℕ → List ℕ
refusal_line n p = ascii "refused " ++ (column n blank ++ column p newline)

abbrev pub printed : Layout → List ℕ → ℕ → Result (List Row) → List ℕ
printed l buf len (accepted rows) = listing_text (part_in l buf len) len rows
printed l buf len (refused n p) = refusal_line n p

-- LISTING: what the program prints of the message in the first len bytes
unfoldable pub listing : Layout → List ℕ → ℕ → List ℕ
listing l buf len = printed l buf len (scan l buf len)
