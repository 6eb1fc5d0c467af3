-- `walks_back`, the latest reversal first. The loop's invariant: what is left, over the places that are empty by now, can be undone just where all could from the start. Assumes nothing.
use Prim.Native.Nat.{ℕ, ◌+◌, ◌-◌, ◌<◌}
use mathlib.Core.Path.{◌≡◌, sym, ap, ◌∙◌}
use native.Mathlib.Omega.{arith}
use borrow.Author.Rules.{rules}
use lib.ListN.{get_or, set, length-set}
use Rattle.book.specs.Journal.{slot_before, free, entries_before}
use Rattle.book.specs.Empties.{undoable_by}
use Rattle.book.proofs.Undoing.{undo_beyond, undo_fails, undo_goes_on, undo_ends}
use Rattle.book.proofs.soundness.walks_back.Goals as goal

pub loop-taken-init : goal.loop-taken-init
loop-taken-init c = (c.requires, search rules, ap (λ (k : ℕ). undoable_by c.args.rules.now.network c.args.empty (entries_before c.args.journal.entries c.args.journal.next k)) (let e : c.args.journal.count ≡ c.args.journal.count - 0 = omega arith in e))

pub slot_before-slot-requires : goal.slot_before-slot-requires
slot_before-slot-requires c = c.loop-taken.invariant.0

pub returns-then-u-ge-PLACES : goal.returns-then-u-ge-PLACES
returns-then-u-ge-PLACES c =
    let left = c.args.journal.count - c.loop-taken.taken in
    let some : 0 < left = omega arith in
    let entry_is : let j = c.args.journal in
    get_or j.entries c.slot_before-slot.result free ≡ get_or j.entries (slot_before c.loop-taken.slot) free = ap (λ (k : ℕ). get_or c.args.journal.entries k free) c.slot_before-slot.ensures in
    sym (c.loop-taken.invariant.2 ∙ undo_beyond c.args.rules.now.network c.args.journal.entries c.loop-taken.state c.loop-taken.slot left some _ entry_is c.if-u-ge-PLACES.true)

pub returns-then-not-restores : goal.returns-then-not-restores
returns-then-not-restores c =
    let left = c.args.journal.count - c.loop-taken.taken in
    let some : 0 < left = omega arith in
    let entry_is : let j = c.args.journal in
    get_or j.entries c.slot_before-slot.result free ≡ get_or j.entries (slot_before c.loop-taken.slot) free = ap (λ (k : ℕ). get_or c.args.journal.entries k free) c.slot_before-slot.ensures in
    sym
    (c.loop-taken.invariant.2
    ∙ undo_fails c.args.rules.now.network c.args.journal.entries c.loop-taken.state c.loop-taken.slot left some _ entry_is (sym c.restores.ensures ∙ c.if-not-restores.true))

pub loop-taken-preserved : goal.loop-taken-preserved
loop-taken-preserved c =
    let left = c.args.journal.count - c.loop-taken.taken in
    let some : 0 < left = omega arith in
    let entry_is : let j = c.args.journal in
    get_or j.entries c.slot_before-slot.result free ≡ get_or j.entries (slot_before c.loop-taken.slot) free = ap (λ (k : ℕ). get_or c.args.journal.entries k free) c.slot_before-slot.ensures in
    let fewer : left - 1 ≡ c.args.journal.count - (c.loop-taken.taken + 1) = omega arith in
    let u = get_or c.args.journal.entries c.slot_before-slot.result free in (
      let e = c.slot_before-slot.ensures in omega arith,
      length-set c.loop-taken.state _ _ ∙ c.loop-taken.invariant.1,
      c.loop-taken.invariant.2
          ∙ undo_goes_on c.args.rules.now.network c.args.journal.entries c.loop-taken.state c.loop-taken.slot left some _ entry_is c.if-u-ge-PLACES.false
          (sym c.restores.ensures ∙ c.if-not-restores.false)
          ∙ (λ i. undoable_by c.args.rules.now.network (set c.loop-taken.state u.place (sym c.is_empty.ensures i)) (entries_before c.args.journal.entries (sym c.slot_before-slot.ensures i) (fewer i))),
    )

pub returns : goal.returns
returns c = undo_ends c.args.rules.now.network c.args.journal.entries c.loop-taken.state c.loop-taken.slot (c.args.journal.count - c.loop-taken.taken) (omega arith) ∙ sym c.loop-taken.invariant.2
