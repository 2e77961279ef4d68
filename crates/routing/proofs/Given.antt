-- What Read gives, from the trace.
use mathlib.Core.Path.{◌≡◌, refl, sym, ap, ◌∙◌}
use mathlib.Core.List.{List}
use Prim.Native.Nat.{ℕ, ◌≤◌}
use native.Mathlib.Omega.{arith}
use Rattle.meaning.specs.Bytes.{part_of}
use Rattle.meaning.specs.Answer.{Result, accepted, refused}
use Rattle.meaning.specs.Layout.{start_of, part_in, Embedding, embedding_of}
use Rattle.meaning.specs.Trace.{Terms, Trace, Reading, read_trace, read}
use Rattle.meaning.proofs.Layouts.{Sized, same_embedding}
use Rattle.meaning.proofs.Sound.{sound}
use Rattle.meaning.proofs.Tests.{then_accepted, then_refused}
use Rattle.trace.specs.Locations.{traced, traced_by}
use Rattle.trace.specs.declared.location.Traced.{Traced}

same_reading : {v v' : List ℕ} {x x' : Embedding} {u u' : ℕ} → v ≡ v' → x ≡ x' → u ≡ u'
    → ◌≡◌ {A = Result Reading} (accepted (record { values = v; embedding = x; user_place = u })) (accepted (record { values = v'; embedding = x'; user_place = u' }))
same_reading a b c = rw (a, b, c) refl

module _ (tm : Terms) (msg : List ℕ) (len : ℕ) where
  pub read_none : (k p : ℕ) → refused k p ≡ traced_by 0 tm msg len → refused k p ≡ read tm msg len
  unfolding read
  read_none k p e = rw (then_refused (read_trace tm msg len) (traced 0 (part_in tm.layout msg len)) k p (sym e)) refl

  read_by : (x : Trace) → read_trace tm msg len ≡ accepted x
      → accepted (record { values = x.values; embedding = embedding_of tm.layout.form (part_of msg len); user_place = (part_in tm.layout msg len).end }) ≡ read tm msg len
  unfolding read
  read_by x e = rw e refl

  module _ (t : Traced) (e : accepted t ≡ traced_by 0 tm msg len) where
    found : (x : Trace) × (read_trace tm msg len ≡ accepted x) × (accepted (traced 0 (part_in tm.layout msg len) x) ≡ accepted t)
    found = then_accepted (read_trace tm msg len) (λ x. accepted (traced 0 (part_in tm.layout msg len) x)) t (sym e)

    same : t ≡ traced 0 (part_in tm.layout msg len) found.0
    same = cc found.2

    pub lies : Sized tm.layout msg len
    lies = (sound tm msg len found.0 found.1).lies

    pub read_all : (x : Embedding) → x ≡ embedding_of tm.layout.form (part_of msg (start_of tm.layout.form))
        → accepted (record { values = t.values; embedding = x; user_place = t.part.end }) ≡ read tm msg len
    read_all x g =
        let z = lies in
        let k : start_of tm.layout.form ≤ len = omega (arith, z.least, z.within) in
        let s : embedding_of tm.layout.form (part_of msg (start_of tm.layout.form)) ≡ embedding_of tm.layout.form (part_of msg len) =
        same_embedding tm.layout.form msg msg (start_of tm.layout.form) len (omega arith) k (omega (arith, z.there)) z.there (λ i a b. refl) in
        same_reading (ap (λ (x : Traced). x.values) same) (g ∙ s) (ap (λ (x : Traced). x.part.end) same) ∙ read_by found.0 found.1
