-- By induction on the digits that there is room for: the digits of a tenth, then the last one. Assumes nothing.
use native.Mathlib.Omega.{arith}
use Rattle.text.proofs.Steps.{no_digit, one-digit, more-digits}
use Rattle.text.proofs.writing.+write_digits.Goals as goal

pub returns-then-k-eq0 : goal.returns-then-k-eq0
returns-then-k-eq0 t c = record { written = no_digit _ _ _ _ c.if-k-eq0.true; upper_bound = omega arith }

pub returns-then-n-lt10 : goal.returns-then-n-lt10
returns-then-n-lt10 t c =
    record {
      written = one-digit _ _ _ _ _ _ c.if-k-eq0.false c.if-n-lt10.true c.write_byte.ensures;
      upper_bound = omega (arith, c.write_byte.ensures.past, c.if-k-eq0.false);
    }

pub returns : goal.returns
returns t c =
    record {
      written = more-digits _ _ _ _ _ _ c.if-k-eq0.false _ _ c.if-n-lt10.false c.write_digits-p.ensures.written c.write_byte-2.ensures;
      upper_bound = omega (arith, c.write_byte-2.ensures.past, c.write_digits-p.ensures.upper_bound, c.if-k-eq0.false);
    }
