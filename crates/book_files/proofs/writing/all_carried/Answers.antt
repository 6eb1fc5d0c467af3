-- The loop tests each place in turn; those passed are carried. Assumes nothing.
use Prim.Native.Nat.{ℕ}
use mathlib.Core.Path.{◌≡◌, sym, ap, ◌∙◌}
use mathlib.Core.Bool.{Bool}
use native.Mathlib.Omega.{arith}
use Rattle.lists.specs.All.{all_none, all_more, all_done, all_fails}
use Rattle.network.specs.Records.{record_at}
use Rattle.layout.specs.Bytes.{book_of}
use Rattle.book_files.specs.Writing.{carried}
use Rattle.book_files.proofs.writing.all_carried.Goals as goal

pub loop-p-init : goal.loop-p-init
loop-p-init c = all_none _

pub returns-then-not-is_carried : goal.returns-then-not-is_carried
returns-then-not-is_carried c =
    let test : ℕ → Bool = λ q. carried (record_at (book_of c.args.book.now).places q) in
    let said : test c.loop-p.p ≡ c.is_carried.result = sym (c.is_carried.ensures ∙ ap carried c.record_in-r.ensures) in
    sym (all_fails 256 test c.loop-p.p c.loop-p-test.true (said ∙ c.if-not-is_carried.true))

pub loop-p-preserved : goal.loop-p-preserved
loop-p-preserved c =
    let test : ℕ → Bool = λ q. carried (record_at (book_of c.args.book.now).places q) in
    let said : test c.loop-p.p ≡ c.is_carried.result = sym (c.is_carried.ensures ∙ ap carried c.record_in-r.ensures) in
    all_more _ test c.loop-p.invariant (said ∙ c.if-not-is_carried.false)

pub returns : goal.returns
returns c =
    let test : ℕ → Bool = λ q. carried (record_at (book_of c.args.book.now).places q) in
    all_done 256 test c.loop-p.p c.loop-p.auto.p-end (omega arith) c.loop-p.invariant
