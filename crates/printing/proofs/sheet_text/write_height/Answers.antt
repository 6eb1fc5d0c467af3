-- The fields, then the verdict, which is handed over by its bits. Assumes nothing.
use Rattle.printing.specs.SheetTextLaws.{by_bits}
use Rattle.text.specs.Writing.{written_as, ◌then◌}
use Rattle.printing.specs.SheetText.{height_text, verdict}
use borrow.Author.Rules.{sfits_of}
use native.Mathlib.Omega.{arith}
use Rattle.printing.proofs.sheet_text.write_height.Goals as goal

pub returns : goal.returns
unfolding height_text
returns c =
    record {
      written = c.write_fields-a.ensures.written
          then written_as (by_bits verdict (sfits_of c.write_verdict-arg-2-1.given)) c.write_verdict-b.ensures.written
          then c.write_byte.ensures;
      upper_bound = omega (arith, c.write_fields-a.ensures.upper_bound, c.write_verdict-b.ensures.upper_bound, c.write_byte.ensures.past);
    }
