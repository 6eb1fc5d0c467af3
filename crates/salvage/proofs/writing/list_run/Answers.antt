-- One pair, or none. Assumes nothing.
use mathlib.Core.Path.{sym, ap, ◌∙◌}
use mathlib.Core.List.{List}
use Prim.Native.Nat.{ℕ, ◌+◌, ◌*◌}
use native.Mathlib.Nat.{add-zero}
use native.Mathlib.Omega.{arith}
use lib.ListN.{length}
use Rattle.words.specs.Runs.{put_words}
use Rattle.salvage.specs.Salvage.{pair_words}
use Rattle.salvage.proofs.ScanLaws.{run_one, run_none}
use Rattle.salvage.proofs.writing.list_run.Goals as goal

pub list_pair-requires : goal.list_pair-requires
list_pair-requires c = omega (arith, c.requires, ap length (run_one _ _ c.if-a-b.true))

pub returns-then-a-b : goal.returns-then-a-b
unfolding pair_words
returns-then-a-b c =
    let t = sym (run_one c.args.a c.args.b c.if-a-b.true) in
    (ap (λ (l : List (ℕ × ℕ)). c.args.i + length l) t, c.list_pair.ensures ∙ ap (λ (l : List (ℕ × ℕ)). put_words c.args.list.now (16 * c.args.i) (pair_words l)) t)

pub returns-else-a-b : goal.returns-else-a-b
unfolding pair_words put_words
returns-else-a-b c =
    let t = sym (run_none c.args.a c.args.b c.if-a-b.false) in
    (sym (add-zero c.args.i) ∙ ap (λ (l : List (ℕ × ℕ)). c.args.i + length l) t, ap (λ (l : List (ℕ × ℕ)). put_words c.args.list.now (16 * c.args.i) (pair_words l)) t)
