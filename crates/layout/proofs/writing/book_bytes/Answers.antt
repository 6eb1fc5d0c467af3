-- `book_bytes` writes the book on bytes that are all 0: the two laws of the layout say that they pass what 25 tests, and read back as the book. Assumes nothing.
use Prim.Native.Nat.{ℕ}
use mathlib.Core.Path.{◌≡◌, ap, ◌∙◌}
use mathlib.Core.List.{List}
use lib.ListN.{length}
use Rattle.lists.specs.Filling.{length_mapped}
use Rattle.book.specs.Sound.{Sized, SoundParts, sound-parts}
use Rattle.layout.specs.Bytes.{book_of, bytes_fit}
use Rattle.layout.specs.CodecLaws.{writes_fit, writes_reads}
use borrow.Author.Rules.{rules}
use Rattle.layout.proofs.writing.book_bytes.Goals as goal

pub returns : goal.returns
returns c =
    let b = c.args.book in
    let z : Sized b = record { places = search (rules, length_mapped); entries = search (rules, length_mapped); matrix = search rules; right = search rules } in
    let o : SoundParts b = sound-parts b z c.requires in
    let long : length b.network.stations ≡ 32 = search (rules, length_mapped) in
    let e = c.write_book.ensures in
    (ap bytes_fit e ∙ writes_fit _ b o long (search rules), ap (λ (x : List ℕ). book_of x) e ∙ writes_reads _ b o long (search rules))
