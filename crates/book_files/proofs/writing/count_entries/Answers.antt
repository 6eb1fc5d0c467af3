-- The loop counts the entries of the places passed. Assumes nothing.
use Prim.Native.Nat.{ℕ, ◌+◌}
use mathlib.Core.Path.{◌≡◌, sym, ap, ap₂, ◌∙◌}
use native.Mathlib.Omega.{arith}
use lib.ListN.{length}
use Rattle.network.specs.declared.Record.{Record}
use Rattle.layout.specs.Bytes.{book_of}
use Rattle.book_files.specs.Writing.{record_entries, entries_below}
use Rattle.book_files.specs.WritingLaws.{none_below, length_more, entries_few, entries-one}
use Rattle.book_files.proofs.writing.count_entries.Goals as goal

pub loop-p-init : goal.loop-p-init
loop-p-init c = sym (ap length (none_below _))

pub overflow_add-n : goal.overflow_add-n
overflow_add-n c = omega (arith, c.entry_count-n.ensures, c.loop-p.invariant, entries_few (book_of c.args.book.now).places c.loop-p.p, entries-one c.loop-p.p c.record_in-r.result)

pub loop-p-preserved : goal.loop-p-preserved
loop-p-preserved c =
    let places = (book_of c.args.book.now).places in
    ap₂ ◌+◌ c.loop-p.invariant (c.entry_count-n.ensures ∙ ap (λ (r : Record). length (record_entries c.loop-p.p r)) c.record_in-r.ensures) ∙ sym (length_more places c.loop-p.p)

pub returns : goal.returns
returns c =
    let places = (book_of c.args.book.now).places in
    let e : c.loop-p.p ≡ 256 = omega arith in
    let n : c.loop-p.n ≡ length (entries_below places 256) = c.loop-p.invariant ∙ ap (λ (p : ℕ). length (entries_below places p)) e in
    (n, omega (arith, n, entries_few places 256))
