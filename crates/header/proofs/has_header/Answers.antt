-- the tests that the library's `all` makes are those of the header's first eight fields
use Rattle.std.proofs.Common.{◌+◌, ◌*◌, ◌∙◌, refl, arith, get_or, nat_eq, rules}
use borrow.Author.Tests.{tests}
use Rattle.std.proofs.lemmas.Iterator.{YieldsList-from_range}
use Rattle.std.proofs.lemmas.Iterator.Search.{all_from_yields_List}
use Rattle.meaning.specs.Bytes.{number}
use Rattle.header.specs.Headers.{fields_of}
use Rattle.header.proofs.Headers.{nine, starts_all}
use Rattle.header.proofs.has_header.Goals as goal

pub returns : goal.returns
returns c =
    let a = c.args in
    all_from_yields_List (λ i. nat_eq (number a.msg.now (a.at + i * 4)) (get_or (fields_of a.kind) i 0)) _ _ _ c.all.ensures.ran (YieldsList-from_range 0 8 8 refl refl) (λ x b q k. search (rules, tests))
    ∙ starts_all a.msg.now (fields_of a.kind) a.at 0 8 a.at (omega (arith, nine a.kind)) (omega arith)
