-- A message read one structure at a time, computed: at the top level a group with one member, then an integer, and no more. The
-- same part is read behind an embedded header, where all places are 32 higher, and user data are behind it.
use mathlib.Core.Path.{◌≡◌, refl}
use mathlib.Core.List.{List, [], ◌∷◌, ◌++◌}
use Prim.Native.Nat.{ℕ, ◌+◌}
use Rattle.meaning.specs.Bytes.{words}
use Rattle.meaning.specs.Answer.{Result, accepted, refused}
use Rattle.meaning.specs.Layout.{Layout, embedded, laid_out, no_embedding}
use Rattle.meaning.specs.Message.{Stepped, step}
use Rattle.meaning.proofs.Cases.{definitions, plainly, header}
use Rattle.reader.specs.Reading.{start, standing, nth_top}

abbrev sample : List ℕ
sample = header 2 ++ words (20 ∷ 16 ∷ 8001 ∷ 1 ∷ 3 ∷ 16 ∷ 1011 ∷ 7 ∷ 3 ∷ 16 ∷ 1021 ∷ 90 ∷ [])

-- a structure with its depth, place, type, parameter, length and number of members
abbrev found : ℕ → ℕ → ℕ → ℕ → ℕ → ℕ → Result Stepped
found d p t id n m = accepted (record { row = record { depth = d; place = p; kind = t; parameter = id; size = n; members = m }; next = p + n })

pub sample-read :
    (standing plainly sample (start plainly) ≡ found 1 36 20 8001 16 1)
    × (standing plainly sample (record { place = 52; depth = 2 }) ≡ found 2 52 3 1011 16 0)
    × (nth_top plainly sample 1 ≡ found 1 68 3 1021 16 0)
    × (nth_top plainly sample 2 ≡ refused 3 84)
unfolding definitions step nth_top
sample-read = (refl, refl, refl, refl)

abbrev inside : Layout
inside = record { form = embedded }

abbrev message : List ℕ
message = laid_out embedded no_embedding (1 ∷ 2 ∷ 3 ∷ []) sample

pub embedded-read :
    (standing inside message (start inside) ≡ found 1 68 20 8001 16 1)
    × (nth_top inside message 1 ≡ found 1 100 3 1021 16 0)
    × (nth_top inside message 2 ≡ refused 3 116)
    × (nth_top inside sample 0 ≡ refused 18 0)
unfolding definitions step nth_top
embedded-read = (refl, refl, refl, refl)
