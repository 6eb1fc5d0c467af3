-- `write_book` writes a book, part by part. Assumes nothing.
use Prim.Native.Nat.{ℕ, ◌≤◌}
use mathlib.Core.Path.{sym, ◌∙◌, subst}
use mathlib.Core.List.{[], ◌∷◌}
use mir.Syntax.{w64}
use mir.Facts.{to_z-of_z}
use Rattle.words.specs.Runs.{put_words}
use Rattle.lists.specs.Filling.{length_mapped}
use Rattle.book.specs.Sound.{Sized}
use Rattle.layout.proofs.Whole.{joined}
use borrow.Author.Rules.{rules, sfits_of}
use Rattle.layout.specs.Layout.{layout_number, book_bytes}
use Rattle.layout.proofs.writing.write_book.Goals as goal

pub put_normals-requires : goal.put_normals-requires
put_normals-requires c =
    let sized : Sized c.args.book = record { places = search (rules, length_mapped); entries = search (rules, length_mapped); matrix = search rules; right = search rules } in
    let l₁ = c.put_pair.auto.s in
    let l₂ = c.put_stations.auto.s in
    let l₃ = c.put_places.auto.s in
    let l₄ = c.put_counts.auto.s in
    let l₅ = c.put_entries.auto.s in
    let room = c.requires in
    (subst (λ (n : ℕ). book_bytes ≤ n) (sym (l₅ ∙ l₄ ∙ l₃ ∙ l₂ ∙ l₁)) room, sized.matrix, sized.right)

pub returns : goal.returns
returns c =
    let sized : Sized c.args.book = record { places = search (rules, length_mapped); entries = search (rules, length_mapped); matrix = search rules; right = search rules } in
    let b = c.args.book in
    joined b sized c.args.s.now _ _ _ _ _ _
    (c.put_pair.ensures ∙ (λ i. put_words c.args.s.now 0 (layout_number ∷ (to_z-of_z {w = w64} {z = c.count_word-count.result} (sfits_of c.count_word-count.type_inv) ∙ c.count_word-count.ensures) i ∷ [])))
    c.put_stations.ensures c.put_places.ensures c.put_counts.ensures c.put_entries.ensures c.put_normals.ensures
