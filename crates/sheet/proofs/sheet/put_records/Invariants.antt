-- The loop has stored the lines of the places passed (`Put`), over the tables of components; at the end they are the sheet's (`records_in`). Assumes nothing.
use mathlib.Core.Path.{◌≡◌}
use lib.ListN.{length}
use Rattle.network.specs.Places.{places_in}
use Rattle.sheet.specs.Lines.{record_lines_words_in, Put}
use Rattle.sheet.proofs.sheet.put_records.Given as goal

abbrev pub invariant-loop-p : goal.invariant-loop-p
invariant-loop-p l = (length l.sheet ≡ length l.initial.sheet) × Put l.initial.sheet l.from (record_lines_words_in l.coordinate l.correction l.covariances.0.now l.covariances.1.0.now l.m l.covariances.1.1.1.0 (places_in l.places) l.p) l.sheet l.at
