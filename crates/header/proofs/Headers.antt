-- The fields of a header, one after the other.
use mathlib.Core.Path.{◌≡◌, refl}
use mathlib.Core.List.{List}
use Prim.Native.Nat.{ℕ, zero, suc, ◌+◌, ◌*◌, ◌≤◌, ◌<◌}
use native.Mathlib.Numerals.{add-one}
use native.Mathlib.Omega.{arith}
use lib.ListN.{length, get_or, take, drop}
use lib.Seq.{length-take-le, take-suc}
use lib.Dec.{eqb}
use Rattle.meaning.specs.Bytes.{number, bytes4, words, splice}
use Rattle.meaning.specs.Compose.{header_fields, trace_header_fields, report_header_fields}
use Rattle.meaning.proofs.Splices.{splice-number}
use Rattle.header.specs.declared.Kind.{Kind}
use Rattle.header.specs.declared.Kind.TheVariants.{Trace, Report}
use Rattle.header.specs.Headers.{fields_of, starts_with}
use Rattle.std.specs.List.{list_all, range_with_len}
use Rattle.meaning.proofs.Lists.{rest_next}

pub nine : (k : Kind) → length (fields_of k) ≡ 9
unfolding header_fields trace_header_fields report_header_fields
nine Trace = refl
nine Report = refl

-- one number more is written
pub write_next : (s fs : List ℕ) (i : ℕ) → i < length fs → 4 * length fs ≤ length s
    → splice (splice s 0 (words (take i fs))) (i * 4) (bytes4 (get_or fs i 0)) ≡ splice s 0 (words (take (i + 1) fs))
write_next s fs i h room =
    rw (add-one i, take-suc fs i 0 h) (splice-number s 0 (take i fs) (i * 4) (get_or fs i 0) (omega (arith, length-take-le i fs (omega arith))) (omega arith))

-- n numbers from the i-th on are compared, one after the other
pub starts_all : (s fs : List ℕ) (at i n p : ℕ) → i + n ≤ length fs → at + i * 4 ≡ p
    → list_all (λ k. eqb (number s (at + k * 4)) (get_or fs k 0)) (range_with_len i n) ≡ starts_with s p (take n (drop i fs))
unfolding starts_with
starts_all s fs at i zero p h e = refl
starts_all s fs at i (suc n) p h e = rw (rest_next fs i (omega arith), starts_all s fs at (i + 1) n (p + 4) (omega arith) (omega arith), e) refl
