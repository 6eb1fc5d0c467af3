-- `records_laid` tests the words of n records. The loop's invariant: those passed are laid out. Assumes nothing.
use Prim.Native.Nat.{ℕ, ◌+◌, ◌*◌, ◌≤◌}
use mathlib.Core.Path.{sym, ◌∙◌}
use mathlib.Core.Bool.{Bool}
use native.Mathlib.Omega.{arith}
use Rattle.lists.specs.All.{all_none, all_more, all_done, all_fails}
use Rattle.network.specs.RecordWords.{record_length}
use Rattle.layout.specs.Laid.{record_laid}
use Rattle.layout.specs.Bytes.{words_of}
use Rattle.layout.specs.Layout.{book_length}
use Rattle.layout.proofs.laid.records_laid.Goals as goal

pub loop-p-init : goal.loop-p-init
loop-p-init c = all_none _

pub overflow_mul-p : goal.overflow_mul-p
overflow_mul-p c =
    let inside : c.args.at + c.loop-p.p * c.args.step + record_length ≤ book_length = c.requires.2 c.loop-p.p c.loop-p-test.true in
    let h = inside in omega arith

pub overflow_add-at : goal.overflow_add-at
overflow_add-at c =
    let inside : c.args.at + c.loop-p.p * c.args.step + record_length ≤ book_length = c.requires.2 c.loop-p.p c.loop-p-test.true in
    let h = inside in omega arith

pub record_laid-requires : goal.record_laid-requires
record_laid-requires c =
    let inside : c.args.at + c.loop-p.p * c.args.step + record_length ≤ book_length = c.requires.2 c.loop-p.p c.loop-p-test.true in
    (c.requires.0, inside)

pub returns-then-not-record_laid : goal.returns-then-not-record_laid
returns-then-not-record_laid c =
    let test : ℕ → Bool = λ q. record_laid (words_of c.args.s.now) (c.args.at + q * c.args.step) in
    sym (all_fails c.args.n test c.loop-p.p c.loop-p-test.true (sym c.record_laid.ensures ∙ c.if-not-record_laid.true))

pub loop-p-preserved : goal.loop-p-preserved
loop-p-preserved c =
    let test : ℕ → Bool = λ q. record_laid (words_of c.args.s.now) (c.args.at + q * c.args.step) in
    all_more _ test c.loop-p.invariant (sym c.record_laid.ensures ∙ c.if-not-record_laid.false)

pub returns : goal.returns
returns c =
    let test : ℕ → Bool = λ q. record_laid (words_of c.args.s.now) (c.args.at + q * c.args.step) in
    all_done c.args.n test c.loop-p.p c.loop-p.auto.p-end (omega arith) c.loop-p.invariant
