-- `put_normals` puts N and u. Assumes nothing.
use Prim.Native.Nat.{ℕ, ◌*◌}
use mathlib.Core.Path.{ap, ◌∙◌}
use mathlib.Core.List.{List}
use Rattle.words.specs.Runs.{put_words}
use Rattle.layout.specs.Layout.{right_start}
use Rattle.layout.proofs.writing.put_normals.Goals as goal

pub returns : goal.returns
returns c = c.write_words-2.ensures ∙ ap (λ (x : List ℕ). put_words x (8 * right_start) c.args.right.now) c.write_words.ensures
