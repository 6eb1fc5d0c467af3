-- By the kind: a strike, or an enter of the record read. Assumes nothing.
use mathlib.Core.Path.{◌≡◌, sym, ap, ◌∙◌}
use mathlib.Core.List.{List}
use lib.ListN.{get_or}
use lib.IntN.{ℤ, pos}
use mir.Syntax.{w64}
use mir.ValLaws.{to_z-of_z}
use Rattle.words.specs.Signed.{eq_z}
use Rattle.network.specs.RecordWords.{record_in}
use Rattle.book.specs.declared.Call.TheVariants.{Edit}
use Rattle.book.specs.declared.Change.TheVariants.{Enter, Strike}
use Rattle.book_files.specs.EnteringLaws.{call_strikes, call_enters}
use borrow.Author.Rules.{rules}
use Rattle.book_files.proofs.records.call_in.Goals as goal

pub returns-then-is_strike : goal.returns-then-is_strike
returns-then-is_strike c =
    let kind-is : c.is_strike.result ≡ eq_z (get_or c.args.w 0 (pos 0)) (pos 3) = c.is_strike.ensures ∙ ap (λ (z : ℤ). eq_z z (pos 3)) (to_z-of_z w64 (get_or c.args.w 0 (pos 0)) (search rules)) in
    (λ i. Edit (to_z-of_z w64 (get_or c.args.w 1 (pos 0)) (search rules) i) Strike) ∙ call_strikes _ (sym kind-is ∙ c.if-is_strike.true)

pub returns : goal.returns
returns c =
    let kind-is : c.is_strike.result ≡ eq_z (get_or c.args.w 0 (pos 0)) (pos 3) = c.is_strike.ensures ∙ ap (λ (z : ℤ). eq_z z (pos 3)) (to_z-of_z w64 (get_or c.args.w 0 (pos 0)) (search rules)) in
    (λ i. Edit (to_z-of_z w64 (get_or c.args.w 1 (pos 0)) (search rules) i) (Enter c.record_in-r.result))
    ∙ call_enters _ (sym kind-is ∙ c.if-is_strike.false) (c.record_in-r.ensures ∙ ap (λ (l : List ℤ). record_in l 0) c.record_words_in-v.ensures)
