-- Six fields, then the seventh number, which is handed over by its bits. Assumes nothing.
use Rattle.printing.specs.SheetTextLaws.{by_bits}
use Rattle.text.specs.Writing.{written_as, ◌then◌}
use Rattle.printing.specs.SheetText.{station_text}
use Rattle.text.specs.Numbers.{decimal}
use borrow.Author.Rules.{sfits_of}
use native.Mathlib.Omega.{arith}
use Rattle.printing.proofs.sheet_text.write_station.Goals as goal

pub returns : goal.returns
unfolding station_text
returns c =
    record {
      written = c.write_fields-a.ensures.written
          then written_as (by_bits decimal (sfits_of c.write_number-arg-2-1.given)) c.write_number-b.ensures.written
          then c.write_byte.ensures;
      upper_bound = omega (arith, c.write_fields-a.ensures.upper_bound, c.write_number-b.ensures.upper_bound, c.write_byte.ensures.past);
    }
