-- The fields, then the verdict, which is handed over by its bits. Assumes nothing.
use Rattle.printing.specs.SheetTextLaws.{by_bits}
use Rattle.text.specs.Writing.{written_as, ◌then◌}
use Rattle.printing.specs.SheetText.{global_text, verdict}
use borrow.Author.Rules.{sfits_of}
use native.Mathlib.Omega.{arith}
use Rattle.printing.proofs.sheet_text.write_global.Goals as goal

pub returns : goal.returns
unfolding global_text
returns c =
    record {
      written = c.write_text-a.ensures
          then c.write_fields-b.ensures.written
          then written_as (by_bits verdict (sfits_of c.write_verdict-arg-2-1.given)) c.write_verdict-c.ensures.written
          then c.write_byte.ensures;
      upper_bound = omega (arith, c.write_text-a.ensures.past, c.write_fields-b.ensures.upper_bound, c.write_verdict-c.ensures.upper_bound, c.write_byte.ensures.past);
    }
