-- The meaning makes the same tests. With a count, the header is a trace's if the table says so.
use Rattle.std.proofs.Common.{true, false, sym, ◌∙◌}
use Rattle.trace.proofs.Locating.{attributes_from, no_count, some_count, judge_header, judge_routes, judge_members}
use Rattle.trace.proofs.location.judge.Goals as goal
use Rattle.trace.proofs.location.judge.Goals.{then-opening-lt1-via-then-opening-lt1, then-opening-lt1-via-else-opening-lt1+then-not-has_header}

pub returns-then-opening-lt1 : goal.returns-then-opening-lt1
returns-then-opening-lt1 c =
    let a = c.args in
    let s = c.requires.headed in
    elim c.then-opening-lt1.branch [
      | then-opening-lt1-via-then-opening-lt1 w ↦
          judge_header a.sheet _ a.tops.routes a.tops.activities.group (no_count a.msg.now a.opening.part s.least s.sound a.opening.count s.read w.if-opening-lt1.true)
      | then-opening-lt1-via-else-opening-lt1+then-not-has_header w ↦
          judge_header a.sheet _ a.tops.routes a.tops.activities.group
          (some_count a.msg.now a.opening.part s.least s.sound a.opening.count s.read w.if-opening-lt1.false false (sym w.has_header.ensures ∙ w.if-not-has_header.true))
    ]

pub returns-then-tops-ne1 : goal.returns-then-tops-ne1
returns-then-tops-ne1 c =
    let a = c.args in
    let s = c.requires.headed in
    judge_routes a.sheet _ a.tops.routes a.tops.activities.group
    (some_count a.msg.now a.opening.part s.least s.sound a.opening.count s.read c.if-opening-lt1.false true (sym c.has_header.ensures ∙ c.if-not-has_header.false)) c.if-tops-ne1.true

pub returns : goal.returns
returns c =
    let a = c.args in
    let s = c.requires.headed in
    c.attributes.ensures ∙ attributes_from a.sheet a.msg.now a.opening.part _ _ a.tops.activities.group s.there ∙ judge_members a.sheet _ a.tops.routes a.tops.activities.group
    (some_count a.msg.now a.opening.part s.least s.sound a.opening.count s.read c.if-opening-lt1.false true (sym c.has_header.ensures ∙ c.if-not-has_header.false)) c.if-tops-ne1.false
