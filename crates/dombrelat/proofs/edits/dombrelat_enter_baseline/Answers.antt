-- `dombrelat_enter_baseline` makes the call that enters a baseline. Assumes nothing.
use mathlib.Core.Path.{◌≡◌, ◌∙◌}
use mathlib.Core.List.{[], ◌∷◌}
use mir.Syntax.{w64}
use mir.Facts.{to_z-of_z}
use Rattle.book.specs.declared.Change.TheVariants.{Enter}
use Rattle.book.specs.declared.Call.TheVariants.{Edit}
use Rattle.network.specs.Records.{baseline_of}
use Rattle.dombrelat.proofs.Lent.{answers_as}
use borrow.Author.Rules.{sfits_of}
use Rattle.dombrelat.proofs.edits.dombrelat_enter_baseline.Goals as goal

pub returns : goal.returns
returns c =
    let p = c.edit_bytes in
    let r = c.baseline_of-r in
    let made : r.result ≡ baseline_of c.args.from c.args.to (c.args.east ∷ c.args.north ∷ c.args.up ∷ []) (c.args.ee ∷ c.args.en ∷ c.args.eu ∷ c.args.nn ∷ c.args.nu ∷ c.args.uu ∷ []) (c.args.hf ∷ c.args.ht ∷ []) =
    r.ensures ∙ (λ i. baseline_of (to_z-of_z {w = w64} c.ranges.from i) (to_z-of_z {w = w64} c.ranges.to i)
    (to_z-of_z {w = w64} c.ranges.east i ∷ to_z-of_z {w = w64} c.ranges.north i ∷ to_z-of_z {w = w64} c.ranges.up i ∷ [])
    (to_z-of_z {w = w64} c.ranges.ee i ∷ to_z-of_z {w = w64} c.ranges.en i ∷ to_z-of_z {w = w64} c.ranges.eu i ∷ to_z-of_z {w = w64} c.ranges.nn i ∷ to_z-of_z {w = w64} c.ranges.nu i ∷ to_z-of_z {w = w64} c.ranges.uu i ∷ [])
    (to_z-of_z {w = w64} c.ranges.hf i ∷ to_z-of_z {w = w64} c.ranges.ht i ∷ [])) in
    let w = answers_as c.args.book.now _ _ (λ i. Edit (to_z-of_z {w = w64} c.ranges.place i) (Enter (made i))) _ _ p.ensures in
    record { value = to_z-of_z {w = w64} {z = p.result} (sfits_of p.type_inv) ∙ w.0; book_after = w.1 }
