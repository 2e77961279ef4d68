-- `width` meets its contract: of each range the text's exact length is known.
use Rattle.std.proofs.Common.{◌≡◌, ℕ, suc, ◌<◌, ◌≤◌, ◌^◌, sym, ap, length, arith}
use Rattle.meaning.specs.Listing.{decimal}
use Rattle.meaning.proofs.Decimals.{decimal_one, decimal_exact}
use Rattle.text.proofs.width.Goals as goal

-- 10 ^ k to 10 ^ (k + 1) - 1: k + 1 digits
range : (k v : ℕ) → k < 10 → 10 ^ k ≤ v → v < 10 ^ suc k → suc k ≡ length (decimal v)
range k v f l h = sym (decimal_exact k v f l h)

pub returns-in-0-to-9 : goal.returns-in-0-to-9
returns-in-0-to-9 c = sym (ap length (decimal_one _ (omega arith)))

pub returns-in-10-to-99 : goal.returns-in-10-to-99
returns-in-10-to-99 c = range 1 c.args.v (omega arith) (omega arith) (omega arith)

pub returns-in-100-to-999 : goal.returns-in-100-to-999
returns-in-100-to-999 c = range 2 c.args.v (omega arith) (omega arith) (omega arith)

pub returns-in-1000-to-9999 : goal.returns-in-1000-to-9999
returns-in-1000-to-9999 c = range 3 c.args.v (omega arith) (omega arith) (omega arith)

pub returns-in-10000-to-99999 : goal.returns-in-10000-to-99999
returns-in-10000-to-99999 c = range 4 c.args.v (omega arith) (omega arith) (omega arith)

pub returns-in-100000-to-999999 : goal.returns-in-100000-to-999999
returns-in-100000-to-999999 c = range 5 c.args.v (omega arith) (omega arith) (omega arith)

pub returns-in-1000000-to-9999999 : goal.returns-in-1000000-to-9999999
returns-in-1000000-to-9999999 c = range 6 c.args.v (omega arith) (omega arith) (omega arith)

pub returns-in-10000000-to-99999999 : goal.returns-in-10000000-to-99999999
returns-in-10000000-to-99999999 c = range 7 c.args.v (omega arith) (omega arith) (omega arith)

pub returns-in-100000000-to-999999999 : goal.returns-in-100000000-to-999999999
returns-in-100000000-to-999999999 c = range 8 c.args.v (omega arith) (omega arith) (omega arith)

pub returns-in_default : goal.returns-in_default
returns-in_default c = range 9 c.args.v (omega arith) (omega arith) (omega arith)
