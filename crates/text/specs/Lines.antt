-- The lines of a listing, from the numbers that they show.
use Rattle.std.specs.Prelude.{ℕ, List, ◌++◌}
use Rattle.meaning.specs.Structure.{Row}
use Rattle.meaning.specs.Listing.{ascii, blank, newline, column, row_line}
use Rattle.text.specs.declared.Line.{Line}

-- the row that a line shows; how many structures follow inside it does not show
abbrev pub row_of_line : Line → Row
row_of_line l =
    record { depth = l.depth; place = l.place; kind = l.kind; parameter = l.parameter; size = l.size; members = 0 }

-- the line of a structure
unfoldable pub line_text : Line → List ℕ
line_text l = row_line (row_of_line l)

-- the header line, from its four numbers
unfoldable pub header_text : ℕ → ℕ → ℕ → ℕ → List ℕ
header_text kind command count len =
    ascii "pcf " ++ (column kind blank ++ (column command blank ++ (column count blank ++ column len newline)))
