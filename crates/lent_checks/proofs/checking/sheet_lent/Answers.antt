-- All words of the pair are read, and the words that are delivered are those of the room that the sheet takes. Assumes nothing.
use Rattle.acceptance.specs.Judge.{Answer}
use Prim.Native.Nat.{◌-◌, ◌/◌, ◌≤◌}
use mathlib.Core.Path.{◌≡◌, sym, ap₂, ◌∙◌}
use mathlib.Core.List.{List}
use native.Mathlib.Nat.{sub-zero}
use native.Mathlib.Omega.{arith}
use borrow.Rule.Slice.PartMut.{post_of}
use lib.ListN.{length, take}
use lib.Seq.{length-take-le}
use lib.IntN.{ℤ, pos}
use Rattle.std.specs.Prelude.{replicate}
use Rattle.std.proofs.lemmas.List.{length-replicate}
use Rattle.words.specs.Runs.{put_words}
use Rattle.network.specs.RuleLaws.{network_few}
use Rattle.layout.specs.Bytes.{book_of}
use Rattle.layout.specs.CodecLaws.{fits-sound}
use Rattle.sheet.specs.Totals.{room_small}
use Rattle.checks.specs.Checks.{checked, has_room, sheet_after}
use Rattle.lent_checks.specs.LentChecks.{x_bytes, m_bytes, all_words, on_accepted}
use Rattle.lent_checks.specs.CheckLaws.{sheet_done}
use Rattle.lent_checks.proofs.Answers.{lengths_fit_lem, front_kept, front_fits}
use Rattle.lent_checks.proofs.checking.sheet_lent.Goals as goal

pub words_of-xs-requires : goal.words_of-xs-requires
words_of-xs-requires c =
    let few : (length c.args.x.now ≤ x_bytes) × (length c.args.m.now ≤ m_bytes) = lengths_fit_lem c.args.x.now c.args.m.now c.requires.3 in
    (omega arith, few.0)

pub words_of-ms-requires : goal.words_of-ms-requires
words_of-ms-requires c =
    let few : (length c.args.x.now ≤ x_bytes) × (length c.args.m.now ≤ m_bytes) = lengths_fit_lem c.args.x.now c.args.m.now c.requires.3 in
    (omega arith, few.1)

pub slice_bounds-check_sheet_in-end : goal.slice_bounds-check_sheet_in-end
slice_bounds-check_sheet_in-end c =
    let few : (length c.args.x.now ≤ x_bytes) × (length c.args.m.now ≤ m_bytes) = lengths_fit_lem c.args.x.now c.args.m.now c.requires.3 in
    sym (length-take-le (length c.args.x.now / 8) c.words_of-xs.result (omega (arith, few, c.words_of-xs.ensures.room)))

pub slice_bounds-check_sheet_in-end-2 : goal.slice_bounds-check_sheet_in-end-2
slice_bounds-check_sheet_in-end-2 c =
    let few : (length c.args.x.now ≤ x_bytes) × (length c.args.m.now ≤ m_bytes) = lengths_fit_lem c.args.x.now c.args.m.now c.requires.3 in
    sym (length-take-le (length c.args.m.now / 8) c.words_of-ms.result (omega (arith, few, c.words_of-ms.ensures.room)))

pub slice_bounds-ws-end : goal.slice_bounds-ws-end
slice_bounds-ws-end c =
    let words_few : c.args.n ≤ 2021 = let book = c.args.book.now in
    let b = book_of book in
    omega (arith, c.requires.1, room_small b.network b.places (network_few b.network (fits-sound book c.requires.0).network)) in
    omega (arith, words_few, length-replicate 2021 (pos 0))

pub slice_bounds-deliver-end : goal.slice_bounds-deliver-end
slice_bounds-deliver-end c =
    let words_few : c.args.n ≤ 2021 = let book = c.args.book.now in
    let b = book_of book in
    omega (arith, c.requires.1, room_small b.network b.places (network_few b.network (fits-sound book c.requires.0).network)) in
    let lent-long : length (take (c.args.n - 0) (replicate 2021 (pos 0))) ≡ c.args.n = length-take-le (c.args.n - 0) (replicate 2021 (pos 0)) (let h : c.args.n - 0 ≤ length (replicate 2021 (pos 0)) = omega (arith, words_few, length-replicate 2021 (pos 0)) in h) ∙ sub-zero c.args.n in
    let left-long : length c.check_sheet_in-a.new.sheet ≡ c.args.n = c.check_sheet_in-a.auto.sheet ∙ lent-long in
    front_fits _ c.check_sheet_in-a.new.sheet (post_of 0 (c.args.n - 0) (replicate 2021 (pos 0))) left-long

pub returns : goal.returns
returns c =
    let words_few : c.args.n ≤ 2021 = let book = c.args.book.now in
    let b = book_of book in
    omega (arith, c.requires.1, room_small b.network b.places (network_few b.network (fits-sound book c.requires.0).network)) in
    let lent-long : length (take (c.args.n - 0) (replicate 2021 (pos 0))) ≡ c.args.n = length-take-le (c.args.n - 0) (replicate 2021 (pos 0)) (let h : c.args.n - 0 ≤ length (replicate 2021 (pos 0)) = omega (arith, words_few, length-replicate 2021 (pos 0)) in h) ∙ sub-zero c.args.n in
    let left-long : length c.check_sheet_in-a.new.sheet ≡ c.args.n = c.check_sheet_in-a.auto.sheet ∙ lent-long in
    let d = c.deliver in
    let b = book_of c.args.book.now in
    let x = c.args.x.now in
    let m = c.args.m.now in
    let out = c.args.out.now in
    let w = take (c.args.n - 0) (replicate 2021 (pos 0)) in
    let xs = c.words_of-xs.ensures.words in
    let ms = c.words_of-ms.ensures.words in
    let left = front_kept _ _ _ left-long ∙ c.check_sheet_in-a.ensures.words ∙ ap₂ (λ (y z : List ℤ). sheet_after b y z w) xs ms in
    sheet_done b (all_words x) (all_words m) w (lent-long ∙ c.requires.1) d.result out _
    (d.ensures.0 ∙ c.check_sheet_in-a.ensures.answer ∙ ap₂ (λ (y z : List ℤ). checked b y z (has_room b w)) xs ms)
    (d.ensures.1 ∙ ap₂ (λ (a : Answer) (v : List ℤ). on_accepted a (put_words out 0 v) out) (sym d.ensures.0) left)
