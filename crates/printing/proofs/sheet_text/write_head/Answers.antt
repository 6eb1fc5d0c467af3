-- Five texts one after the other; a count is handed over by its bits. Assumes nothing.
use Rattle.printing.specs.SheetTextLaws.{by_bits}
use Rattle.text.specs.Writing.{written_as, ◌then◌}
use Rattle.printing.specs.SheetText.{head_text}
use Rattle.text.specs.Numbers.{decimal}
use borrow.Author.Rules.{sfits_of}
use native.Mathlib.Omega.{arith}
use Rattle.printing.proofs.sheet_text.write_head.Goals as goal

pub returns : goal.returns
unfolding head_text
returns c =
    record {
      written = c.write_text-a.ensures
          then written_as (by_bits decimal (sfits_of c.write_number-arg-2-1.given)) c.write_number-b.ensures.written
          then c.write_text-c.ensures
          then written_as (by_bits decimal (sfits_of c.write_number-arg-4-1.given)) c.write_number-d.ensures.written
          then c.write_text.ensures;
      upper_bound = omega (arith, c.write_text-a.ensures.past, c.write_number-b.ensures.upper_bound, c.write_text-c.ensures.past, c.write_number-d.ensures.upper_bound, c.write_text.ensures.past);
    }
