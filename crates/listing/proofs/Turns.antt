-- The turns of the code that writes the lines of a walk, each over plain lists and numbers.
use mathlib.Core.Path.{◌≡◌, refl, sym, ap, ◌∙◌, subst}
use mathlib.Core.List.{List, [], ◌++◌, append-nil}
use Prim.Native.Nat.{ℕ, ◌+◌, ◌-◌, ◌<◌}
use native.Mathlib.Omega.{arith}
use lib.ListN.{length}
use Rattle.meaning.specs.Bytes.{number, whole}
use Rattle.meaning.specs.Answer.{Result}
use Rattle.meaning.specs.Walk.{Walked, walked, walk}
use Rattle.meaning.specs.Listing.{row_lines}
use Rattle.meaning.proofs.Fuel.{walk_zero}
use Rattle.meaning.proofs.Splices.{splice-none}
use Rattle.meaning.proofs.Lines.{row_lines-none}
use Rattle.text.proofs.Printed.{wrote_as, room_as}
use Rattle.text.specs.Wrote.{Room, Wrote}
use Rattle.text.specs.Lines.{line_text}
use Rattle.text.specs.declared.Line.{Line}
use Rattle.text.proofs.Laws.{front, behind, then}
use Rattle.listing.specs.Rows.{line_at, RowsDue, RowsDone}
use Rattle.listing.specs.declared.rows.Behind.{Behind}
use Rattle.listing.proofs.Walked.{Split, split, Opened, opened}

-- another name for the walk
pub done_as : {w w' : Result Walked} {out : List ℕ} {at : ℕ} {t : List ℕ} {r : Behind} → w ≡ w' → RowsDone w out at t r → RowsDone w' out at t r
done_as {w} {w'} {out} {at} {t} {r} e x = subst (λ (v : Result Walked). RowsDone v out at t r) e x

-- no text
wrote_none : (d : List ℕ) (at : ℕ) → Wrote d at [] d at
wrote_none d at = record { bytes = sym (splice-none d at); place = omega arith }

-- ONE STRUCTURE, whose line is l
module _ (s : List ℕ) (p d : ℕ) (out : List ℕ) (at : ℕ) (u : RowsDue s p d 1 out at) where
  pub its : Opened s p d u.rows u.next
  its = opened s p d u.rows u.next u.sound u.start

  both : Room out at (line_text (line_at s p d) ++ row_lines its.inside)
  both = room_as its.lines u.room

  pub line_room : (l : Line) → l ≡ line_at s p d → Room out at (line_text l)
  line_room l e = rw e (front _ both)

  -- what is inside a group
  group_sound : (l : Line) (k : ℕ) → l ≡ line_at s p d → k ≡ number s (p + 12) → l.kind ≡ 20
      → walk (whole s) (p + l.size) (d + 1) k ≡ walked its.inside u.next
  group_sound l k e f g =
      let z : l.size ≡ number s (p + 4) = ap (λ (x : Line). x.size) e in
      rw (z, f) (its.group (ap (λ (x : Line). x.kind) (sym e) ∙ g))

  pub group_due : (l : Line) (k : ℕ) (t : List ℕ) (n : ℕ) → l ≡ line_at s p d → k ≡ number s (p + 12) → l.kind ≡ 20 → Wrote out at (line_text l) t n
      → RowsDue s (p + l.size) (d + 1) k t n
  group_due l k t n e f g w =
      let h : number s p ≡ 20 = ap (λ (x : Line). x.kind) (sym e) ∙ g in
      let z : l.size ≡ number s (p + 4) = ap (λ (x : Line). x.size) e in
      record {
        rows = its.inside;
        next = u.next;
        sound = group_sound l k e f g;
        start = omega (arith, its.fits);
        small = u.small;
        shallow = omega (arith, its.deep h);
        room = behind _ (wrote_as (ap line_text e) w) both;
      }

  pub group_done : (l : Line) (k : ℕ) (t : List ℕ) (n : ℕ) (t' : List ℕ) (r : Behind) → l ≡ line_at s p d → k ≡ number s (p + 12) → l.kind ≡ 20
      → Wrote out at (line_text l) t n → RowsDone (walk (whole s) (p + l.size) (d + 1) k) t n t' r → RowsDone (walk (whole s) p d 1) out at t' r
  group_done l k t n t' r e f g w x =
      let y : RowsDone (walked its.inside u.next) t n t' r = done_as (group_sound l k e f g) x in
      done_as (sym u.sound)
      record {
        wrote = wrote_as (sym its.lines) (then (wrote_as (ap line_text e) w) (λ h. y.wrote) both);
        next = y.next;
      }

  -- nothing is inside any other structure
  pub plain_done : (l : Line) (t : List ℕ) (n : ℕ) → l ≡ line_at s p d → (l.kind ≡ 20 → ⊥) → Wrote out at (line_text l) t n
      → RowsDone (walk (whole s) p d 1) out at t (record { text = n; place = p + l.size })
  plain_done l t n e g w =
      let z : l.size ≡ number s (p + 4) = ap (λ (x : Line). x.size) e in
      let v = its.plain (λ h. g (ap (λ (x : Line). x.kind) e ∙ h)) in
      let none : row_lines its.inside ≡ [] = ap row_lines v.0 ∙ row_lines-none in
      done_as (sym u.sound)
      record {
        wrote = wrote_as (ap line_text e ∙ sym (append-nil _) ∙ ap (λ (x : List ℕ). line_text (line_at s p d) ++ x) (sym none) ∙ sym its.lines) w;
        next = ap (λ (x : ℕ). p + x) z ∙ sym v.1;
      }

-- A ROW OF STRUCTURES. What is left to do, and that whatever does it has done the whole.
pub record Rest (w : Result Walked) (out₀ : List ℕ) (at : ℕ) (s : List ℕ) (d : ℕ) (out : List ℕ) (text next left : ℕ) : Type 0 where
  pub due : RowsDue s next d left out text
  pub long : length out ≡ length out₀
  pub finish : (t : List ℕ) (r : Behind) → RowsDone (walk (whole s) next d left) out text t r → RowsDone w out₀ at t r

module _ (w : Result Walked) (out₀ : List ℕ) (at : ℕ) (s : List ℕ) (d : ℕ) (out : List ℕ) (text next left : ℕ) (u : Rest w out₀ at s d out text next left)
  where
    parts : 0 < left → Split (whole s) next d left u.due.rows u.due.next
    parts h = split (whole s) next d left u.due.rows u.due.next u.due.sound u.due.start h

    pub first_due : 0 < left → RowsDue s next d 1 out text
    first_due h =
        record {
          rows = (parts h).rows₁;
          next = (parts h).middle;
          sound = (parts h).first;
          start = u.due.start;
          small = u.due.small;
          shallow = u.due.shallow;
          room = front _ (room_as (parts h).lines u.due.room);
        }

    pub first_done : (t : List ℕ) (r : Behind) → 0 < left → length t ≡ length out → RowsDone (walk (whole s) next d 1) out text t r
        → Rest w out₀ at s d t r.text r.place (left - 1)
    first_done t r h l x =
        let y : RowsDone (walked (parts h).rows₁ (parts h).middle) out text t r = done_as (parts h).first x in
        let room = room_as (parts h).lines u.due.room in
        let others : walk (whole s) r.place d (left - 1) ≡ walked (parts h).rows₂ u.due.next = rw y.next (parts h).others in
        record {
          due =
              record {
                rows = (parts h).rows₂;
                next = u.due.next;
                sound = others;
                start = rw y.next (parts h).start;
                small = u.due.small;
                shallow = u.due.shallow;
                room = behind _ y.wrote room;
              };
          long = l ∙ u.long;
          finish = λ t' r' x'.
              let y' : RowsDone (walked (parts h).rows₂ u.due.next) t r.text t' r' = done_as others x' in
              u.finish t' r'
              (done_as (sym u.due.sound) record { wrote = wrote_as (sym (parts h).lines) (then y.wrote (λ k. y'.wrote) room); next = y'.next });
        }

    pub all_done : left ≡ 0 → RowsDone w out₀ at out (record { text = text; place = next })
    all_done e =
        u.finish out (record { text = text; place = next })
        (done_as (sym (walk_zero (whole s) next d) ∙ ap (walk (whole s) next d) (sym e))
        record { wrote = wrote_as (sym row_lines-none) (wrote_none out text); next = refl })
