-- What an event writes, and what must hold before it does.
use Rattle.std.specs.Prelude.{ℕ, ◌+◌, ◌≤◌, ◌<◌, ◌≡◌, Bool, true, List, length}
use Rattle.meaning.specs.Bytes.{number, store}
use Rattle.meaning.specs.Answer.{accepted}
use Rattle.meaning.specs.Structure.{Row}
use Rattle.meaning.specs.Layout.{start_of, part_in, user_data}
use Rattle.meaning.specs.Trace.{read_trace}
use Rattle.meaning.specs.Event.{Event, sound_event, group_of, Plan, plan_of, grown_if}
use Rattle.layout.specs.Layouts.{form_of, layout_of, part_at}
use Rattle.layout.specs.declared.part.Layout.{Layout}
use Rattle.layout.specs.declared.part.Part.{Part}
use Rattle.trace.specs.declared.location.Traced.{Traced}

-- the buffer with the number at `at` one higher than `value`; and, if the group is appended, with the part grown by it
abbrev pub written_in : List ℕ → ℕ → Layout → Part → ℕ → ℕ → Bool → List ℕ → List ℕ
written_in buf len l p at value appends g =
    grown_if appends (form_of l.form) (part_at buf p) (user_data (part_at buf p) buf len) (store (part_at buf p) buf at (value + 1)) g

-- the part lies in the message of len bytes behind what the layout puts in front of it, the counter's Value ends inside the
-- part, neither number runs over, and an appended group fits
pub record Writable (buf : List ℕ) (len : ℕ) (l : Layout) (p : Part) (at value : ℕ) (appends : Bool) (group : List ℕ) : Type 0 where
  pub starts : p.start ≡ start_of (form_of l.form)
  pub header : p.start + 36 ≤ p.end
  pub within : p.end ≤ len
  pub message : len ≤ length buf
  pub most : len ≤ 65536
  pub inside : at + 4 ≤ p.end
  pub value_fits : value + 1 < 4294967296
  pub count_fits : number buf (p.start + 32) + 1 < 4294967296
  pub group_most : length group ≤ 65500
  pub group_fits : appends ≡ true → len + length group ≤ length buf

-- An event with this plan and group is entered into a trace that was read in this layout, with its part there, and with its
-- attributes at these places and with these values; its group is sound.
pub record Ready (buf : List ℕ) (len : ℕ) (l : Layout) (t : Traced) (plan : Plan) (group report : List ℕ) : Type 0 where
  pub sheet : List ℕ
  pub rows : List Row
  pub happened : Event
  pub read : read_trace (record { sheet = sheet; layout = layout_of l }) buf len ≡ accepted (record { rows = rows; places = t.places; values = t.values })
  pub lies : part_in (layout_of l) buf len ≡ part_at buf t.part
  pub sound_group : sound_event happened ≡ true
  pub due : plan_of t.values happened ≡ plan
  pub lent : group_of happened ≡ group
