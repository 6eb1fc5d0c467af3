-- The kinds of entries, and the words that stand for them. Assumes nothing.
use Rattle.std.specs.Prelude.{cond, ℤ, pos, Result, Ok, Err}
use Rattle.words.specs.Signed.{eq_z}
use Rattle.files.specs.declared.EntryKind.{EntryKind}
use Rattle.files.specs.declared.EntryKind.TheVariants.{Baseline, HeightDifference, Strike}
use Rattle.files.specs.declared.NoKind.{NoKind}

-- "kind (1 baseline, 2 height difference, 3 strike)"
abbrev pub kind_of : ℤ → Result EntryKind NoKind
kind_of word = cond (eq_z word (pos 1)) (Ok Baseline) (cond (eq_z word (pos 2)) (Ok HeightDifference) (cond (eq_z word (pos 3)) (Ok Strike) (Err (record {}))))
