-- The measure of the cycle of calls {count_digits} is the number.
use Rattle.line.proofs.number.+count_digits.Given as goal

abbrev pub decreases-count_digits : goal.decreases-count_digits
decreases-count_digits l = l.n
