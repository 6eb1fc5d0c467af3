-- Each word of the record is inside the list and read back from its bits; the place is small. Assumes nothing.
use Prim.Native.Nat.{ℕ, suc, ◌+◌, ◌<◌, ◌^◌}
use mathlib.Core.Path.{◌≡◌, refl, ap, ap₂, ◌∙◌}
use mathlib.Core.List.{List, ◌∷◌}
use native.Mathlib.Omega.{arith}
use lib.ListN.{get_or}
use lib.IntN.{ℤ, pos}
use mir.Syntax.{w64}
use mir.ValLaws.{to_z-of_z}
use Rattle.network.specs.RecordWords.{record_words}
use Rattle.book_files.specs.Writing.{record_entry}
use borrow.Author.Rules.{sfits_of}
use Rattle.book_files.proofs.records.entry_of.Goals as goal

pub returns : goal.returns
unfolding record_entry
returns c =
    let small : c.args.p + 1 < 2 ^ 63 = omega arith in
    let next : c.args.p + 1 ≡ suc c.args.p = omega arith in
    let word : (i : ℕ) → get_or c.record_words-w.result i (pos 0) ≡ get_or (record_words c.args.r) i (pos 0) = λ i. ap (λ (l : List ℤ). get_or l i (pos 0)) c.record_words-w.ensures in
    ap₂ ◌∷◌ (to_z-of_z w64 _ (sfits_of c.result-1.given) ∙ word 0)
    (ap₂ ◌∷◌ (to_z-of_z w64 (pos (c.args.p + 1)) (record { sfits = small }) ∙ ap pos next)
    (ap₂ ◌∷◌ (to_z-of_z w64 _ (sfits_of c.result-2-1.given) ∙ word 1)
    (ap₂ ◌∷◌ (to_z-of_z w64 _ (sfits_of c.result-3-1.given) ∙ word 2)
    (ap₂ ◌∷◌ (to_z-of_z w64 _ (sfits_of c.result-4-1.given) ∙ word 3)
    (ap₂ ◌∷◌ (to_z-of_z w64 _ (sfits_of c.result-5-1.given) ∙ word 4)
    (ap₂ ◌∷◌ (to_z-of_z w64 _ (sfits_of c.result-6-1.given) ∙ word 5)
    (ap₂ ◌∷◌ (to_z-of_z w64 _ (sfits_of c.result-7-1.given) ∙ word 6)
    (ap₂ ◌∷◌ (to_z-of_z w64 _ (sfits_of c.result-8-1.given) ∙ word 7)
    (ap₂ ◌∷◌ (to_z-of_z w64 _ (sfits_of c.result-9-1.given) ∙ word 8)
    (ap₂ ◌∷◌ (to_z-of_z w64 _ (sfits_of c.result-10-1.given) ∙ word 9)
    (ap₂ ◌∷◌ (to_z-of_z w64 _ (sfits_of c.result-11-1.given) ∙ word 10)
    (ap₂ ◌∷◌ (to_z-of_z w64 _ (sfits_of c.result-12-1.given) ∙ word 11) refl))))))))))))
