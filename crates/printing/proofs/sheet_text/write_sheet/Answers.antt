-- The four parts are written one after the other; where the words of the last start is where those of the records end. Assumes nothing.
use native.Mathlib.Omega.{arith}
use mathlib.Core.Path.{ap}
use Rattle.network.specs.Places.{places_in}
use Rattle.text.specs.Writing.{◌then◌, written_as}
use Rattle.printing.specs.SheetText.{sheet_text, global_text}
use Rattle.printing.specs.SheetTextLaws.{global_after}
use Rattle.printing.proofs.sheet_text.write_sheet.Goals as goal

pub write_stations-stations-requires : goal.write_stations-stations-requires
write_stations-stations-requires c = (omega (arith, global_after c.args.n (places_in c.args.places.now), c.requires.2), omega (arith, c.write_head-head.ensures.upper_bound, c.write_head-head.auto.out, c.requires.0, c.requires.3))

pub returns : goal.returns
unfolding sheet_text
returns c =
    record {
      written = c.write_head-head.ensures.written
          then c.write_stations-stations.ensures.written
          then c.write_records-records.ensures.written
          then written_as (ap (global_text c.args.w.now) c.write_records-records.ensures.next_bound.1) c.write_global.ensures.written;
      upper_bound = omega (arith, c.write_head-head.ensures.upper_bound, c.write_stations-stations.ensures.upper_bound, c.write_records-records.ensures.next_bound.0, c.write_global.ensures.upper_bound, c.requires.0);
    }
