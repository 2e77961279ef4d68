-- What the functions for traces answer, and what they leave.
use Rattle.std.specs.Prelude.{ℕ, ◌≡◌, Bool, true, false, List, [], ◌∷◌, get_or}
use Rattle.meaning.specs.Answer.{Result, accepted, refused}
use Rattle.meaning.specs.Layout.{Embedding as Meant, no_embedding}
use Rattle.meaning.specs.Trace.{Terms, Reading, read}
use Rattle.meaning.specs.Activity.{activity_group, Name, in_message, substitute}
use Rattle.meaning.specs.Compose.{compose}
use Rattle.layout.specs.Layouts.{embedding_in}
use Rattle.layout.specs.declared.embedding.Embedding.{Embedding}
use Rattle.codes.specs.Codes.{code}
use Rattle.codes.specs.Options.{layout_in}
use Rattle.compose.specs.Composes.{plain_terms}

-- what options and sheet state about a trace
abbrev pub terms_in : ℕ → List ℕ → Terms
terms_in options sheet = record { sheet = sheet; layout = layout_in options }

-- an embedding by its fields Encoding, CodedCharSetId and Flags, and by its Format
abbrev pub embedding_with : List ℕ → List ℕ → Embedding
embedding_with fields format =
    record { encoding = get_or fields 0 0; ccsid = get_or fields 1 0; format = format; flags = get_or fields 2 0 }

-- and these fields of one
abbrev pub embedding_fields : Meant → List ℕ
embedding_fields e = e.encoding ∷ e.coded_char_set_id ∷ e.flags ∷ []

-- COMPOSE: the length written, and the buffer
pub record Composes (tm : Terms) (values fields format user before : List ℕ) (r : ℕ) (after : List ℕ) : Type 0 where
  pub answer : r ≡ code (compose tm values (embedding_in (embedding_with fields format)) user before).answer
  pub buffer : after ≡ (compose tm values (embedding_in (embedding_with fields format)) user before).buffer

-- COMPOSE A PLAIN MESSAGE: the same, with nothing around the part
pub record ComposesPlain (sheet values before : List ℕ) (r : ℕ) (after : List ℕ) : Type 0 where
  pub answer : r ≡ code (compose (plain_terms sheet) values no_embedding [] before).answer
  pub buffer : after ≡ (compose (plain_terms sheet) values no_embedding [] before).buffer

-- READ: the user data's place, the values and the embedding; a refusal leaves them
abbrev pub read_code : Result Reading → ℕ
read_code (accepted x) = code (accepted x.user_place)
read_code (refused n p) = code (refused n p)

-- what is written where Read gives something; else what stood there stays
abbrev pub after : List ℕ → (Reading → List ℕ) → Result Reading → List ℕ
after before told (accepted x) = told x
after before told (refused n p) = before

pub record Reads (tm : Terms) (buf : List ℕ) (len : ℕ) (values fields format : List ℕ) (r : ℕ) (values' fields' format' : List ℕ) : Type 0 where
  pub answer : r ≡ read_code (read tm buf len)
  pub values_told : values' ≡ after values (λ x. x.values) (read tm buf len)
  pub fields_told : fields' ≡ after fields (λ x. embedding_fields x.embedding) (read tm buf len)
  pub format_told : format' ≡ after format (λ x. x.embedding.format) (read tm buf len)

-- THE N-TH ACTIVITY GROUP: place and length
abbrev pub Spans : Terms → List ℕ → ℕ → ℕ → List ℕ → Type 0
Spans tm buf len n part = part ≡ (activity_group tm buf len n).place ∷ (activity_group tm buf len n).length ∷ []

-- A NAMED STRING: whether the message has it, and its place and length; else the part stays as it was
abbrev pub is_in : Name → Bool
is_in (in_message s) = true
is_in substitute = false

abbrev pub span_told : List ℕ → Name → List ℕ
span_told before (in_message s) = s.place ∷ s.length ∷ []
span_told before substitute = before

pub record Names (name : Name) (before : List ℕ) (r : Bool) (after : List ℕ) : Type 0 where
  pub answer : r ≡ is_in name
  pub part : after ≡ span_told before name
