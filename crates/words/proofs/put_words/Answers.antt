-- A number that no refusal has: the table has no words for it. (For the others the table computes.)
use Rattle.std.proofs.Common.{rules, ◌≡◌, List, ℕ, subst}
use Rattle.words.specs.Words.{unknown, said_in, words_of, Says}
use Rattle.words.proofs.put_words.Goals as goal

pub returns-in_default : goal.returns-in_default
unfolding said_in words_of
returns-in_default c =
    let e : unknown ≡ words_of c.args.number = search rules in
    subst (λ (w : List ℕ). Says w c.args.text.now c.say-in_default.result c.say-in_default.new.text) e c.say-in_default.ensures
