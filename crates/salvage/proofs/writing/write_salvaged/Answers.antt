-- The loop has written what it has passed (`WrittenTo`). Assumes nothing.
use mathlib.Core.Path.{◌≡◌, sym, ◌∙◌}
use Prim.Native.Nat.{◌+◌, ◌*◌, ◌≤◌}
use native.Mathlib.Omega.{arith}
use mathlib.Core.Bool.{true}
use lib.ListN.{length}
use Rattle.files.specs.Files.{right_at}
use Rattle.salvage.proofs.Written.{written_none, written-keep, written-skip, written_fresh, written-kept, written_skipped, room-kept, room_run, room-last}
use borrow.Author.Rules.{rules}
use Rattle.salvage.proofs.writing.write_salvaged.Goals as goal

pub loop-at-init : goal.loop-at-init
loop-at-init c = written_none _ _ _ _

pub overflow_sub-file : goal.overflow_sub-file
overflow_sub-file c = c.loop-at.invariant.counted.inside

pub list_run-runs-requires : goal.list_run-runs-requires
list_run-runs-requires c =
    let inside : c.loop-at.at + 128 ≤ length c.args.file.now = omega (arith, c.loop-at-test.true, c.loop-at.invariant.counted.inside) in
    let right : right_at c.args.file.now c.loop-at.at ≡ true = sym c.right_at.ensures ∙ c.if-right_at.true in
    omega (arith, room_run c.loop-at.invariant c.requires inside right, c.loop-at.invariant.skipped_long)

pub overflow_mul-start : goal.overflow_mul-start
overflow_mul-start c =
    let inside : c.loop-at.at + 128 ≤ length c.args.file.now = omega (arith, c.loop-at-test.true, c.loop-at.invariant.counted.inside) in
    let right : right_at c.args.file.now c.loop-at.at ≡ true = sym c.right_at.ensures ∙ c.if-right_at.true in
    let rooms : (128 * c.loop-at.entries + 128 ≤ length c.loop-at.fresh)
    × (16 * c.loop-at.entries + 16 ≤ length c.loop-at.kept) = let r = room-kept c.loop-at.invariant c.requires inside right in
    (omega (arith, r.0, c.loop-at.invariant.fresh_long), omega (arith, r.1, c.loop-at.invariant.kept_long)) in
    let r = rooms.0 in search rules

pub list_pair-requires : goal.list_pair-requires
list_pair-requires c =
    let inside : c.loop-at.at + 128 ≤ length c.args.file.now = omega (arith, c.loop-at-test.true, c.loop-at.invariant.counted.inside) in
    let right : right_at c.args.file.now c.loop-at.at ≡ true = sym c.right_at.ensures ∙ c.if-right_at.true in
    let rooms : (128 * c.loop-at.entries + 128 ≤ length c.loop-at.fresh)
    × (16 * c.loop-at.entries + 16 ≤ length c.loop-at.kept) = let r = room-kept c.loop-at.invariant c.requires inside right in
    (omega (arith, r.0, c.loop-at.invariant.fresh_long), omega (arith, r.1, c.loop-at.invariant.kept_long)) in
    rooms.1

pub copy_entry-requires : goal.copy_entry-requires
copy_entry-requires c =
    let inside : c.loop-at.at + 128 ≤ length c.args.file.now = omega (arith, c.loop-at-test.true, c.loop-at.invariant.counted.inside) in
    let right : right_at c.args.file.now c.loop-at.at ≡ true = sym c.right_at.ensures ∙ c.if-right_at.true in
    let rooms : (128 * c.loop-at.entries + 128 ≤ length c.loop-at.fresh)
    × (16 * c.loop-at.entries + 16 ≤ length c.loop-at.kept) = let r = room-kept c.loop-at.invariant c.requires inside right in
    (omega (arith, r.0, c.loop-at.invariant.fresh_long), omega (arith, r.1, c.loop-at.invariant.kept_long)) in
    (inside, rooms.0, omega arith)

pub overflow_add-entries : goal.overflow_add-entries
overflow_add-entries c =
    let inside : c.loop-at.at + 128 ≤ length c.args.file.now = omega (arith, c.loop-at-test.true, c.loop-at.invariant.counted.inside) in
    let right : right_at c.args.file.now c.loop-at.at ≡ true = sym c.right_at.ensures ∙ c.if-right_at.true in
    let rooms : (128 * c.loop-at.entries + 128 ≤ length c.loop-at.fresh)
    × (16 * c.loop-at.entries + 16 ≤ length c.loop-at.kept) = let r = room-kept c.loop-at.invariant c.requires inside right in
    (omega (arith, r.0, c.loop-at.invariant.fresh_long), omega (arith, r.1, c.loop-at.invariant.kept_long)) in
    let r = rooms.0 in search rules

pub loop-at-preserved-then-right_at : goal.loop-at-preserved-then-right_at
loop-at-preserved-then-right_at c =
    let inside : c.loop-at.at + 128 ≤ length c.args.file.now = omega (arith, c.loop-at-test.true, c.loop-at.invariant.counted.inside) in
    let right : right_at c.args.file.now c.loop-at.at ≡ true = sym c.right_at.ensures ∙ c.if-right_at.true in
    written-keep c.loop-at.invariant inside right c.list_run-runs.ensures.0 c.copy_entry.ensures c.list_run-runs.ensures.1 c.list_pair.ensures

pub loop-at-preserved : goal.loop-at-preserved
loop-at-preserved c =
    let l = c.loop-at in
    written-skip l.invariant (omega arith) (sym c.right_at.ensures ∙ c.if-right_at.false)

pub list_run-requires : goal.list_run-requires
list_run-requires c = omega (arith, room-last c.loop-at.invariant c.requires (omega arith), c.loop-at.invariant.skipped_long)

pub returns : goal.returns
returns c =
    let l = c.loop-at in
    (written_fresh l.invariant (omega arith), written_skipped l.invariant (omega arith) c.list_run.ensures.1, written-kept l.invariant (omega arith))
