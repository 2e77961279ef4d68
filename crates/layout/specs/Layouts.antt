-- A layout, a part and an embedding as the code has them, in the meaning's terms.
use Rattle.std.specs.Prelude.{ℕ, ◌≡◌, List, length, take}
use Rattle.meaning.specs.Bytes.{Part as Meant, splice}
use Rattle.meaning.specs.Names.{no_room}
use Rattle.meaning.specs.Answer.{Result, accepted, refused, unless}
use Rattle.meaning.specs.Layout.{Form as MeantForm, plain, embedded, Layout as MeantLayout, start_of, room_for, Embedding as MeantEmbedding, laid_out}
use Rattle.layout.specs.declared.part.Form.{Form}
use Rattle.layout.specs.declared.part.Form.TheVariants.{Plain, Embedded}
use Rattle.layout.specs.declared.part.Layout.{Layout}
use Rattle.layout.specs.declared.part.Part.{Part}
use Rattle.layout.specs.declared.embedding.Embedding.{Embedding}

abbrev pub form_of : Form → MeantForm
form_of Plain = plain
form_of Embedded = embedded

abbrev pub layout_of : Layout → MeantLayout
layout_of l = record { form = form_of l.form }

-- the part of a buffer with these places
abbrev pub part_at : List ℕ → Part → Meant
part_at buf p = record { bytes = take p.end buf; start = p.start; end = p.end }

abbrev pub embedding_in : Embedding → MeantEmbedding
embedding_in e = record { encoding = e.encoding; coded_char_set_id = e.ccsid; format = e.format; flags = e.flags }

-- a length that is not above 65,536 or the room, or 12
abbrev pub fitting : ℕ → ℕ → Result ℕ
fitting n room = unless (room_for n room) (refused no_room 0) (accepted n)

-- with any part of `size` bytes written at `start`, the buffer has at its start the message laid out
pub record Around (f : MeantForm) (e : MeantEmbedding) (size : ℕ) (user before after : List ℕ) (start : ℕ) : Type 0 where
  pub starts : start ≡ start_of f
  pub as_long : length after ≡ length before
  pub around : (p : List ℕ) → length p ≡ size → splice after start p ≡ splice before 0 (laid_out f e user p)
