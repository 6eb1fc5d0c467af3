-- `words_in`, by whether the record is empty. Assumes nothing.
use borrow.Author.Rules.{rules}
use Prim.Native.Nat.{◌≤◌}
use mathlib.Core.Path.{sym, ◌∙◌}
use Rattle.network.specs.RecordLaws.{observations_few}
use Rattle.sheet.specs.Sheet.{line_length}
use Rattle.sheet.proofs.totals.words_in.Goals as goal

pub overflow_mul-result : goal.overflow_mul-result
overflow_mul-result c =
    let few : c.observations_of-n.result ≤ 3 = rw c.observations_of-n.ensures (observations_few c.args.r) in
    let h = few in search rules

pub overflow_add-result : goal.overflow_add-result
overflow_add-result c =
    let few : c.observations_of-n.result ≤ 3 = rw c.observations_of-n.ensures (observations_few c.args.r) in
    let h = few in search rules

pub returns-then-is_empty : goal.returns-then-is_empty
unfolding line_length
returns-then-is_empty c = rw (sym c.is_empty.ensures ∙ c.if-is_empty.true)

pub returns-else-is_empty : goal.returns-else-is_empty
unfolding line_length
returns-else-is_empty c = rw (sym c.is_empty.ensures ∙ c.if-is_empty.false, c.observations_of-n.ensures)
