-- One digit, or two, or those of a hundredth of the number and two more.
use Rattle.std.proofs.Common.{sym, ap, ◌/◌, length, arith}
use Rattle.line.proofs.Digits.{digits_one, digits_two, two_longer}
use Rattle.line.proofs.Lengths.{amount_most}
use Rattle.line.proofs.number.+count_digits.Goals as goal

pub returns-then-n-lt10 : goal.returns-then-n-lt10
returns-then-n-lt10 t c = sym (ap length (digits_one _ (omega arith)))

pub returns-then-n-lt100 : goal.returns-then-n-lt100
returns-then-n-lt100 t c = sym (ap length (digits_two _ (omega arith) (omega arith)))

pub overflow_add-result : goal.overflow_add-result
overflow_add-result t c = record { fits = omega (arith, c.count_digits.ensures, amount_most (c.args.n / 100) (omega arith)) }

pub returns : goal.returns
returns t c = omega (arith, c.count_digits.ensures, two_longer c.args.n (omega arith))
