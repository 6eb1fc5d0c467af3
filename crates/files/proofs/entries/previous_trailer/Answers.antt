-- `previous_trailer`, of the first entry and of any other. Assumes nothing.
use Rattle.std.proofs.Common.{sym, ap, ◌∙◌, arith, to_z-of_z, w64}
use Rattle.files.specs.Entries.{previous_trailer}
use Rattle.files.proofs.FileLaws.{previous_at}
use borrow.Author.Rules.{sfits_of}
use Rattle.files.proofs.entries.previous_trailer.Goals as goal

pub returns-then-at-eq0 : goal.returns-then-at-eq0
unfolding previous_trailer
returns-then-at-eq0 c = ap previous_trailer (sym c.if-at-eq0.true)

pub returns-else-at-eq0 : goal.returns-else-at-eq0
returns-else-at-eq0 c = to_z-of_z {w = w64} {z = c.to_signed.result} (sfits_of c.to_signed.type_inv) ∙ c.to_signed.ensures ∙ sym (previous_at _ (omega arith))
