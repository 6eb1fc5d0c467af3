-- Each word is inside the list and read back from its bits. Assumes nothing.
use mathlib.Core.Path.{refl, ap₂}
use mathlib.Core.List.{◌∷◌}
use mir.Syntax.{w64}
use mir.ValLaws.{to_z-of_z}
use borrow.Author.Rules.{sfits_of}
use Rattle.book_files.specs.Entering.{record_words_in}
use Rattle.book_files.proofs.records.record_words_in.Goals as goal

pub returns : goal.returns
unfolding record_words_in
returns c =
    ap₂ ◌∷◌ (to_z-of_z w64 _ (sfits_of c.result-1.given))
    (ap₂ ◌∷◌ (to_z-of_z w64 _ (sfits_of c.result-2-1.given))
    (ap₂ ◌∷◌ (to_z-of_z w64 _ (sfits_of c.result-3-1.given))
    (ap₂ ◌∷◌ (to_z-of_z w64 _ (sfits_of c.result-4-1.given))
    (ap₂ ◌∷◌ (to_z-of_z w64 _ (sfits_of c.result-5-1.given))
    (ap₂ ◌∷◌ (to_z-of_z w64 _ (sfits_of c.result-6-1.given))
    (ap₂ ◌∷◌ (to_z-of_z w64 _ (sfits_of c.result-7-1.given))
    (ap₂ ◌∷◌ (to_z-of_z w64 _ (sfits_of c.result-8-1.given))
    (ap₂ ◌∷◌ (to_z-of_z w64 _ (sfits_of c.result-9-1.given))
    (ap₂ ◌∷◌ (to_z-of_z w64 _ (sfits_of c.result-10-1.given))
    (ap₂ ◌∷◌ (to_z-of_z w64 _ (sfits_of c.result-11-1.given))
    (ap₂ ◌∷◌ (to_z-of_z w64 _ (sfits_of c.result-12-1.given)) refl)))))))))))
