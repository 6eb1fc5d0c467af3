-- The loop has stored the lines of the stations passed (`Put`), over the tables of components; at the end they are the sheet's (`stations_in`). Assumes nothing.
use mathlib.Core.Path.{◌≡◌}
use lib.ListN.{length}
use Rattle.sheet.specs.Lines.{station_lines_words_in, Put}
use Rattle.sheet.proofs.sheet.put_stations.Given as goal

abbrev pub invariant-loop-s : goal.invariant-loop-s
invariant-loop-s l = (length l.sheet ≡ length l.initial.sheet) × Put l.initial.sheet l.from (station_lines_words_in l.coordinate l.correction l.covariances.0.now l.covariances.1.0.now l.m l.covariances.1.1.1.0 l.s) l.sheet l.at
