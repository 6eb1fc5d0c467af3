-- `record_laid` tests the words of a record. Assumes nothing.
use mathlib.Core.Path.{◌∙◌}
use Rattle.lists.specs.Same.{same_long, eq-same_list}
use Rattle.layout.proofs.Parts.{laid_is}
use borrow.Author.Rules.{rules}
use Rattle.layout.proofs.laid.record_laid.Goals as goal

pub returns : goal.returns
returns c = c.eq.ensures ∙ eq-same_list _ _ ∙ same_long _ _ (search rules) ∙ laid_is c.args.s.now c.args.k c.requires.1 _ _ _ c.record_at-w.ensures c.record_in-r.ensures c.record_words-v.ensures
