-- The table of header fields, in the meaning's terms.
use Rattle.std.specs.Prelude.{ℕ, ◌+◌, Bool, true, ◌&&◌, List, [], ◌∷◌, eqb}
use Rattle.meaning.specs.Bytes.{number}
use Rattle.meaning.specs.Compose.{trace_header_fields, report_header_fields}
use Rattle.header.specs.declared.Kind.{Kind}
use Rattle.header.specs.declared.Kind.TheVariants.{Trace, Report}

abbrev pub fields_of : Kind → List ℕ
fields_of Trace = trace_header_fields
fields_of Report = report_header_fields

-- the bytes from p on are these numbers
unfoldable pub starts_with : List ℕ → ℕ → List ℕ → Bool
starts_with s p [] = true
starts_with s p (f ∷ fs) = eqb (number s p) f && starts_with s (p + 4) fs
