-- Where the sizes fit no book, no word is read, and test 1 refuses a pair without words as it refuses the lent one; else all words are read. Assumes nothing.
use Prim.Native.Nat.{◌*◌, ◌/◌, ◌≤◌}
use mathlib.Core.Path.{◌≡◌, sym, ap₂, ◌∙◌, subst}
use mathlib.Core.Bool.{true}
use mathlib.Core.List.{List}
use native.Mathlib.Omega.{arith}
use lib.ListN.{length}
use lib.Seq.{length-take-le}
use lib.IntN.{ℤ}
use Rattle.layout.specs.Bytes.{book_of}
use Rattle.layout.specs.CodecLaws.{fits-sound}
use Rattle.distances.specs.Distances.{DistanceAnswer}
use Rattle.distances.specs.Distances.{agreement, agreement_unknown}
use Rattle.lent_checks.specs.LentChecks.{x_bytes, m_bytes, sizes_fit, answer_most}
use Rattle.lent_checks.specs.LentDistances.{agreement_lent}
use Rattle.lent_checks.specs.DistanceLaws.{read_all, read_none, distance_small}
use Rattle.lent_checks.proofs.Answers.{lengths_fit_lem}
use Rattle.lent_checks.proofs.distance.check_distance_lent.Goals as goal

pub returns-then-not-sizes_fit : goal.returns-then-not-sizes_fit
returns-then-not-sizes_fit c =
    let small : (r : DistanceAnswer) → r ≡ agreement_lent (book_of c.args.book.now) c.args.x.now c.args.m.now c.args.d
    → (r ≡ agreement_lent (book_of c.args.book.now) c.args.x.now c.args.m.now c.args.d) × (256 * agreement_unknown r ≤ answer_most) = λ r is. let book = c.args.book.now in
    (is, subst (λ (a : DistanceAnswer). 256 * agreement_unknown a ≤ answer_most) (sym is) (distance_small (book_of book) (fits-sound book c.requires) c.args.x.now c.args.m.now c.args.d)) in
    let book = c.args.book.now in
    small _
    (c.check_distance_in.ensures
    ∙ read_none (book_of book) (fits-sound book c.requires) c.args.x.now c.args.m.now c.args.d (sym c.sizes_fit.ensures ∙ c.if-not-sizes_fit.true))

pub words_of-xs-requires : goal.words_of-xs-requires
words_of-xs-requires c =
    let fit : sizes_fit c.args.x.now c.args.m.now ≡ true = sym c.sizes_fit.ensures ∙ c.if-not-sizes_fit.false in
    let few : (length c.args.x.now ≤ x_bytes) × (length c.args.m.now ≤ m_bytes) = lengths_fit_lem c.args.x.now c.args.m.now fit in
    (omega arith, few.0)

pub words_of-ms-requires : goal.words_of-ms-requires
words_of-ms-requires c =
    let fit : sizes_fit c.args.x.now c.args.m.now ≡ true = sym c.sizes_fit.ensures ∙ c.if-not-sizes_fit.false in
    let few : (length c.args.x.now ≤ x_bytes) × (length c.args.m.now ≤ m_bytes) = lengths_fit_lem c.args.x.now c.args.m.now fit in
    (omega arith, few.1)

pub slice_bounds-check_distance_in-end-2 : goal.slice_bounds-check_distance_in-end-2
slice_bounds-check_distance_in-end-2 c =
    let fit : sizes_fit c.args.x.now c.args.m.now ≡ true = sym c.sizes_fit.ensures ∙ c.if-not-sizes_fit.false in
    let few : (length c.args.x.now ≤ x_bytes) × (length c.args.m.now ≤ m_bytes) = lengths_fit_lem c.args.x.now c.args.m.now fit in
    sym (length-take-le (length c.args.x.now / 8) c.words_of-xs.result (omega (arith, few, c.words_of-xs.ensures.room)))

pub slice_bounds-check_distance_in-end-3 : goal.slice_bounds-check_distance_in-end-3
slice_bounds-check_distance_in-end-3 c =
    let fit : sizes_fit c.args.x.now c.args.m.now ≡ true = sym c.sizes_fit.ensures ∙ c.if-not-sizes_fit.false in
    let few : (length c.args.x.now ≤ x_bytes) × (length c.args.m.now ≤ m_bytes) = lengths_fit_lem c.args.x.now c.args.m.now fit in
    sym (length-take-le (length c.args.m.now / 8) c.words_of-ms.result (omega (arith, few, c.words_of-ms.ensures.room)))

pub returns : goal.returns
returns c =
    let small : (r : DistanceAnswer) → r ≡ agreement_lent (book_of c.args.book.now) c.args.x.now c.args.m.now c.args.d
    → (r ≡ agreement_lent (book_of c.args.book.now) c.args.x.now c.args.m.now c.args.d) × (256 * agreement_unknown r ≤ answer_most) = λ r is. let book = c.args.book.now in
    (is, subst (λ (a : DistanceAnswer). 256 * agreement_unknown a ≤ answer_most) (sym is) (distance_small (book_of book) (fits-sound book c.requires) c.args.x.now c.args.m.now c.args.d)) in
    let fit : sizes_fit c.args.x.now c.args.m.now ≡ true = sym c.sizes_fit.ensures ∙ c.if-not-sizes_fit.false in
    let book = c.args.book.now in
    let b = book_of book in
    let x = c.args.x.now in
    let m = c.args.m.now in
    let d = c.args.d in
    let xs = c.words_of-xs.ensures.words in
    let ms = c.words_of-ms.ensures.words in
    small _ (c.check_distance_in-2.ensures ∙ ap₂ (λ (y z : List ℤ). agreement b y z d) xs ms ∙ read_all b (fits-sound book c.requires) x m d fit)
