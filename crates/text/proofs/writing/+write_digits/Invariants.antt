-- The measure is the digits that there is room for.
use Rattle.text.proofs.writing.+write_digits.Given as goal

abbrev pub decreases-write_digits : goal.decreases-write_digits
decreases-write_digits l = l.k
