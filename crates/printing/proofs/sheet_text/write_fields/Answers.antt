-- The loop has written the fields of the words passed (`fields-more`), each in 22 bytes at most. Assumes nothing.
use mathlib.Core.Path.{ap, ◌≡◌, refl}
use Rattle.printing.specs.SheetTextLaws.{by_bits, fields-start, fields-more}
use Rattle.text.specs.Writing.{written_as, ◌then◌}
use Rattle.text.specs.Numbers.{decimal}
use borrow.Author.Rules.{sfits_of, rules}
use native.Mathlib.Omega.{arith}
use Rattle.printing.specs.SheetText.{fields}
use Rattle.printing.proofs.sheet_text.write_fields.Goals as goal

pub loop-i-init : goal.loop-i-init
loop-i-init c = (refl, omega arith, fields-start _ _ c.args.w.now c.args.o)

pub loop-i-preserved : goal.loop-i-preserved
loop-i-preserved c = (
  search rules,
  omega (arith, c.loop-i.invariant.1, c.write_number-q.ensures.upper_bound, c.write_byte-p.ensures.past),
  written_as (fields-more c.args.w.now c.args.o c.loop-i.i (omega arith))
      (c.loop-i.invariant.2 then written_as (by_bits decimal (sfits_of c.write_number-arg-in-loop-i-1.given)) c.write_number-q.ensures.written then c.write_byte-p.ensures),
)

pub returns : goal.returns
returns c =
    let e : c.loop-i.i ≡ c.args.n = omega (arith, c.loop-i-test.false) in
    record { written = written_as (ap (fields c.args.w.now c.args.o) e) c.loop-i.invariant.2; upper_bound = omega (arith, e, c.loop-i.invariant.1) }
