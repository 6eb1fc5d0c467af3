-- A pair whose sizes do not fit fails test 1. Of one whose sizes fit, the words that are read are all its words. Assumes nothing.
use Prim.Native.Nat.{◌+◌, ◌*◌, ◌/◌, ◌≤◌}
use mathlib.Core.Path.{◌≡◌, sym, ap₂, ◌∙◌, subst}
use mathlib.Core.Bool.{true}
use mathlib.Core.List.{List}
use native.Mathlib.Omega.{arith}
use lib.ListN.{length}
use lib.Seq.{length-take-le}
use lib.IntN.{ℤ}
use Rattle.acceptance.specs.Judge.{answer_number, answer_unknown, Answer}
use Rattle.layout.specs.Bytes.{book_of}
use Rattle.layout.specs.CodecLaws.{fits-sound}
use Rattle.checks.specs.Checks.{checked}
use Rattle.lent_checks.specs.LentChecks.{x_bytes, m_bytes, sizes_fit, answer_most}
use Rattle.lent_checks.specs.CheckLaws.{lent-fit, lent_unfit, lent-small}
use Rattle.lent_checks.proofs.Answers.{lengths_fit_lem}
use Rattle.lent_checks.proofs.checking.check_lent.Goals as goal

pub returns-then-not-sizes_fit : goal.returns-then-not-sizes_fit
returns-then-not-sizes_fit c =
    let book = c.args.book.now in
    (lent_unfit (book_of book) (fits-sound book c.requires) c.args.x.now c.args.m.now true (sym c.sizes_fit.ensures ∙ c.if-not-sizes_fit.true), omega arith)

pub words_of-xs-requires : goal.words_of-xs-requires
words_of-xs-requires c =
    let fit : sizes_fit c.args.x.now c.args.m.now ≡ true = sym c.sizes_fit.ensures ∙ c.if-not-sizes_fit.false in
    let few : (length c.args.x.now ≤ x_bytes) × (length c.args.m.now ≤ m_bytes) = lengths_fit_lem c.args.x.now c.args.m.now fit in
    (omega arith, few.0)

pub words_of-ms-requires : goal.words_of-ms-requires
words_of-ms-requires c =
    let fit : sizes_fit c.args.x.now c.args.m.now ≡ true = sym c.sizes_fit.ensures ∙ c.if-not-sizes_fit.false in
    let few : (length c.args.x.now ≤ x_bytes) × (length c.args.m.now ≤ m_bytes) = lengths_fit_lem c.args.x.now c.args.m.now fit in
    (omega arith, few.1)

pub slice_bounds-check_in-end : goal.slice_bounds-check_in-end
slice_bounds-check_in-end c =
    let fit : sizes_fit c.args.x.now c.args.m.now ≡ true = sym c.sizes_fit.ensures ∙ c.if-not-sizes_fit.false in
    let few : (length c.args.x.now ≤ x_bytes) × (length c.args.m.now ≤ m_bytes) = lengths_fit_lem c.args.x.now c.args.m.now fit in
    sym (length-take-le (length c.args.x.now / 8) c.words_of-xs.result (omega (arith, few, c.words_of-xs.ensures.room)))

pub slice_bounds-check_in-end-2 : goal.slice_bounds-check_in-end-2
slice_bounds-check_in-end-2 c =
    let fit : sizes_fit c.args.x.now c.args.m.now ≡ true = sym c.sizes_fit.ensures ∙ c.if-not-sizes_fit.false in
    let few : (length c.args.x.now ≤ x_bytes) × (length c.args.m.now ≤ m_bytes) = lengths_fit_lem c.args.x.now c.args.m.now fit in
    sym (length-take-le (length c.args.m.now / 8) c.words_of-ms.result (omega (arith, few, c.words_of-ms.ensures.room)))

pub returns : goal.returns
returns c =
    let fit : sizes_fit c.args.x.now c.args.m.now ≡ true = sym c.sizes_fit.ensures ∙ c.if-not-sizes_fit.false in
    let book = c.args.book.now in
    let b = book_of book in
    let x = c.args.x.now in
    let m = c.args.m.now in
    let xs = c.words_of-xs.ensures.words in
    let ms = c.words_of-ms.ensures.words in
    let is = c.check_in.ensures ∙ ap₂ (λ (y z : List ℤ). checked b y z true) xs ms ∙ lent-fit b x m true fit in
    (is, subst (λ (a : Answer). answer_number a + 256 * answer_unknown a ≤ answer_most) (sym is) (lent-small b (fits-sound book c.requires) x m true))
