-- The Activity groups of a trace as text, byte for byte. The message is the whole list of bytes.
use Rattle.std.specs.Prelude.{ℕ, zero, suc, ◌+◌, cond, ◌&&◌, List, [], ◌∷◌, ◌++◌, length, leb}
use Rattle.meaning.specs.Answer.{Result, accepted, refused}
use Rattle.meaning.specs.Trace.{Terms, Trace, activities, read_trace}
use Rattle.meaning.specs.Activity.{activity_group, name_of, name_bytes}
use Rattle.meaning.specs.Listing.{ascii, blank, newline, column, end_line, refusal_line}

-- what is written for a byte of a name: a printable one is itself, every other one is a dot
unfoldable pub shown_byte : ℕ → ℕ
shown_byte x = cond (leb 0x20 x && leb x 0x7E) x 0x2E

unfoldable pub shown : List ℕ → List ℕ
shown [] = []
shown (x ∷ xs) = shown_byte x ∷ shown xs

-- what stands for a name that is not there
abbrev pub no_name : List ℕ
no_name = ascii "-"

-- number, place, length, name
unfoldable pub hop_line : ℕ → ℕ → ℕ → List ℕ → List ℕ
hop_line number place size name =
    column number blank ++ (column place blank ++ (column size blank ++ (shown name ++ newline ∷ [])))

-- the line of the n-th Activity group, from 0; lines are numbered from 1
unfoldable pub hop_of : Terms → List ℕ → ℕ → ℕ → List ℕ
hop_of tm msg id n =
    hop_line (n + 1) (activity_group tm msg (length msg) n).place (activity_group tm msg (length msg) n).length
    (name_bytes msg no_name (name_of tm msg (length msg) n id))

-- the lines of the first n Activity groups
unfoldable pub hop_lines : Terms → List ℕ → ℕ → ℕ → List ℕ
hop_lines tm msg id zero = []
hop_lines tm msg id (suc n) = hop_lines tm msg id n ++ hop_of tm msg id n

-- a line for each Activity group and one with their number; or the line of the refusal
abbrev pub hops_in : Terms → List ℕ → ℕ → Result Trace → List ℕ
hops_in tm msg id (accepted t) =
    hop_lines tm msg id (length (activities t.rows)) ++ end_line (length (activities t.rows))
hops_in tm msg id (refused k p) = refusal_line k p

-- HOPS: all that is printed of a message, for names with the identifier
unfoldable pub hops_text : Terms → List ℕ → ℕ → List ℕ
hops_text tm msg id = hops_in tm msg id (read_trace tm msg (length msg))
