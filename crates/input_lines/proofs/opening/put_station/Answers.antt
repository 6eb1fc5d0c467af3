-- The part from at on is the station's words, stored as a run (`put_four`). Assumes nothing.
use Rattle.std.proofs.Common.{arith}
use Rattle.input_lines.specs.StateLaws.{put_four}
use Rattle.input_lines.proofs.opening.put_station.Goals as goal

pub returns : goal.returns
returns c = rw (c.copy_from_slice.ensures.after, c.station_words.ensures) (put_four c.args.list.now c.args.at _ c.args.s (omega arith) c.requires)
