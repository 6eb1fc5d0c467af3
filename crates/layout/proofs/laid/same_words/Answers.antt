-- `same_words` compares word by word. The loop's invariant: those passed are equal. Assumes nothing.
use Prim.Native.Nat.{ℕ, ◌*◌}
use mathlib.Core.Path.{◌≡◌, sym, ap, ap₂, ◌∙◌}
use mathlib.Core.List.{List}
use native.Mathlib.Omega.{arith}
use borrow.Author.Rules.{rules}
use lib.ListN.{length, get_or}
use lib.IntN.{ℤ, pos}
use mir.Syntax.{w64}
use mir.Facts.{to_z-of_z}
use Rattle.words.specs.Signed.{eq_z}
use Rattle.words.specs.Runs.{words_at}
use Rattle.lists.specs.Same.{same_entries, same_none, same_more, same_not}
use Rattle.layout.proofs.Parts.{run_word-is}
use Rattle.layout.proofs.laid.same_words.Goals as goal

pub loop-i-init : goal.loop-i-init
loop-i-init c =
    let here : List ℤ = words_at c.args.s.now (8 * c.args.k) (length c.args.w.now) in
    same_none here c.args.w.now

pub returns-then-not-word_is : goal.returns-then-not-word_is
returns-then-not-word_is c =
    let here : List ℤ = words_at c.args.s.now (8 * c.args.k) (length c.args.w.now) in
    let compared : c.word_is.result ≡ eq_z (get_or here c.loop-i.i (pos 0)) (get_or c.args.w.now c.loop-i.i (pos 0)) =
    c.word_is.ensures ∙ ap₂ eq_z (sym (run_word-is c.args.s.now c.args.k (length c.args.w.now) c.requires.1 c.loop-i.i (omega arith))) (to_z-of_z {w = w64} (search rules)) in
    sym (same_not here c.args.w.now (length c.args.w.now) c.loop-i.i (omega arith) (sym compared ∙ c.if-not-word_is.true))

pub loop-i-preserved : goal.loop-i-preserved
loop-i-preserved c =
    let here : List ℤ = words_at c.args.s.now (8 * c.args.k) (length c.args.w.now) in
    let compared : c.word_is.result ≡ eq_z (get_or here c.loop-i.i (pos 0)) (get_or c.args.w.now c.loop-i.i (pos 0)) =
    c.word_is.ensures ∙ ap₂ eq_z (sym (run_word-is c.args.s.now c.args.k (length c.args.w.now) c.requires.1 c.loop-i.i (omega arith))) (to_z-of_z {w = w64} (search rules)) in
    same_more here c.args.w.now c.loop-i.i c.loop-i.invariant (sym compared ∙ c.if-not-word_is.false)

pub returns : goal.returns
returns c =
    let here : List ℤ = words_at c.args.s.now (8 * c.args.k) (length c.args.w.now) in
    let l = c.loop-i in
    let all : l.i ≡ length c.args.w.now = omega arith in
    sym l.invariant ∙ ap (λ (n : ℕ). same_entries n here c.args.w.now) all
