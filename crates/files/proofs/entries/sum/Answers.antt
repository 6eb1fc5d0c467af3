-- `sum`: what is passed and what is left make the whole, modulo 2^64. Assumes nothing.
use Rattle.std.proofs.Common.{ℕ, ◌+◌, ◌%◌, ◌^◌, get_or, pos, ap, ◌∙◌, arith, to_z-of_z, w64, rules}
use Rattle.files.proofs.Loops.{sum-turn, sum_end}
use Rattle.words.specs.Signed.{unsigned}
use borrow.Author.Rules.{sfits_of}
use Rattle.files.proofs.entries.sum.Goals as goal

pub loop-v-preserved : goal.loop-v-preserved
loop-v-preserved c =
    sum-turn _ c.loop-v.s c.loop-v.v-index c.loop-v.invariant _ (omega arith)
    (ap (λ (n : ℕ). (c.loop-v.s + n) % 2 ^ 64) (c.to_unsigned-s.ensures ∙ ap unsigned (to_z-of_z {w = w64} {z = get_or c.args.w.now c.loop-v.v-index (pos 0)} (search rules))))

pub returns : goal.returns
returns c = to_z-of_z {w = w64} {z = c.to_signed.result} (sfits_of c.to_signed.type_inv) ∙ c.to_signed.ensures ∙ sum_end _ c.loop-v.s c.loop-v.v-index c.loop-v.invariant (omega arith) (omega arith)
