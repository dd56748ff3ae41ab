use Rattle.std.proofs.Common.{arith}
use Rattle.api_words.proofs.NumberWords.{other_count}
use Rattle.api_words.proofs.numbers.count_in.Goals as goal

pub returns-then-number-lt1 : goal.returns-then-number-lt1
returns-then-number-lt1 c = other_count c.args.word.now c.in_ok-number.number c.args.most c.in_ok-number.ensures.0 c.in_ok-number.ensures.1 c.ranges.most.fits (λ some few. omega arith)

pub returns-then-number-from : goal.returns-then-number-from
returns-then-number-from c = other_count c.args.word.now c.in_ok-number.number c.args.most c.in_ok-number.ensures.0 c.in_ok-number.ensures.1 c.ranges.most.fits (λ some few. omega arith)
