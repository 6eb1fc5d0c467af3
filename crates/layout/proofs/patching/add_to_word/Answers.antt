-- `add_to_word` reads a word, and writes it with v more: both are small enough that the sum fits. Assumes nothing.
use Prim.Native.Nat.{◌*◌, ◌≤◌, ◌^◌}
use mathlib.Core.Path.{ap, ◌∙◌}
use lib.IntN.{ℤ, nat_abs, ◌+ℤ◌}
use Rattle.words.specs.Words.{put_word}
use Rattle.integers.specs.Code.{fit, code_bounds}
use Rattle.layout.proofs.Shares.{sum-stored}
use Rattle.layout.proofs.patching.add_to_word.Goals as goal

pub overflow_add-x : goal.overflow_add-x
overflow_add-x c =
    let small : nat_abs c.word_in-x.result ≤ 2 ^ 42 = rw c.word_in-x.ensures c.requires.2 in
    let h = small in let v = c.requires.3 in fit (search code_bounds depth 8) tt

pub returns : goal.returns
returns c =
    let small : nat_abs c.word_in-x.result ≤ 2 ^ 42 = rw c.word_in-x.ensures c.requires.2 in
    c.put_word.ensures
    ∙ ap (put_word c.args.s.now (8 * c.args.k)) (sum-stored c.word_in-x.result c.args.v small c.requires.3 ∙ ap (λ (x : ℤ). x +ℤ c.args.v) c.word_in-x.ensures)
