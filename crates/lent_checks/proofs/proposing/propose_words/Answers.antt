-- Lengths that fit are those of the room that the pair is worked out in; what is written are the words that were accepted, and the check reads them back. Assumes nothing.
use Prim.Native.Nat.{ℕ, ◌*◌, ◌-◌, ◌/◌, ◌≤◌}
use mathlib.Core.Path.{◌≡◌, refl, sym, ap₂, ◌∙◌}
use mathlib.Core.Logic.{inl, inr}
use mathlib.Core.Bool.{true}
use mathlib.Core.List.{List}
use native.Mathlib.Omega.{arith}
use lib.ListN.{length, take}
use Rattle.std.specs.Prelude.{pos}
use lib.Seq.{length-take-le}
use Rattle.std.proofs.lemmas.List.{length-replicate}
use Rattle.layout.specs.Bytes.{book_of}
use Rattle.layout.specs.CodecLaws.{fits-tested, fits-sound}
use Rattle.checks.specs.Checks.{checked}
use Rattle.checks.specs.CheckLaws.{checked-is}
use Rattle.lent_checks.specs.LentChecks.{x_bytes, m_bytes, checked_lent}
use Rattle.lent_checks.proofs.Offered.{lengths_are, lengths_most, made}
use Rattle.lent_checks.proofs.proposing.propose_words.Goals as goal

pub returns-then-not-work_out : goal.returns-then-not-work_out
returns-then-not-work_out c = inr (refl, refl, refl)

pub slice_bounds-write_words-end : goal.slice_bounds-write_words-end
slice_bounds-write_words-end c =
    let most : (length c.args.x.now ≤ x_bytes) × (length c.args.m.now ≤ m_bytes) = lengths_most c.args.n c.args.x.now c.args.m.now c.requires.1 c.requires.2 in
    let room : (length c.args.x.now / 8 ≤ length c.work_out.new.x) × (length c.args.m.now / 8 ≤ length c.work_out.new.m) = let h = most in
    (omega (arith, h.0, c.work_out.auto.x, length-replicate 48 (pos 0)), omega (arith, h.1, c.work_out.auto.m, length-replicate 2304 (pos 0))) in
    room.0

pub slice_bounds-write_words-end-2 : goal.slice_bounds-write_words-end-2
slice_bounds-write_words-end-2 c =
    let most : (length c.args.x.now ≤ x_bytes) × (length c.args.m.now ≤ m_bytes) = lengths_most c.args.n c.args.x.now c.args.m.now c.requires.1 c.requires.2 in
    let room : (length c.args.x.now / 8 ≤ length c.work_out.new.x) × (length c.args.m.now / 8 ≤ length c.work_out.new.m) = let h = most in
    (omega (arith, h.0, c.work_out.auto.x, length-replicate 48 (pos 0)), omega (arith, h.1, c.work_out.auto.m, length-replicate 2304 (pos 0))) in
    room.1

pub returns : goal.returns
returns c =
    let most : (length c.args.x.now ≤ x_bytes) × (length c.args.m.now ≤ m_bytes) = lengths_most c.args.n c.args.x.now c.args.m.now c.requires.1 c.requires.2 in
    let room : (length c.args.x.now / 8 ≤ length c.work_out.new.x) × (length c.args.m.now / 8 ≤ length c.work_out.new.m) = let h = most in
    (omega (arith, h.0, c.work_out.auto.x, length-replicate 48 (pos 0)), omega (arith, h.1, c.work_out.auto.m, length-replicate 2304 (pos 0))) in
    let book = c.args.book.now in
    let b = book_of book in
    let x = c.args.x.now in
    let m = c.args.m.now in
    let n = c.args.n in
    let long = lengths_are n x m c.requires.2 in
    let xs = c.work_out.new.x in
    let ms = c.work_out.new.m in
    let i : length x / 8 - 0 ≡ n = omega (arith, long.0) in
    let j : length m / 8 - 0 ≡ n * n = omega (arith, long.1) in
    let lx : 8 * length (take (length x / 8 - 0) xs) ≡ length x = omega (arith, long.0, length-take-le (length x / 8 - 0) xs (omega (arith, room.0))) in
    let lm : 8 * length (take (length m / 8 - 0) ms) ≡ length m = omega (arith, long.1, length-take-le (length m / 8 - 0) ms (omega (arith, room.1))) in
    let ok : checked b (take (length x / 8 - 0) xs) (take (length m / 8 - 0) ms) true ≡ _ =
    ap₂ (λ (k l : ℕ). checked b (take k xs) (take l ms) true) i j ∙ c.work_out.ensures c.if-not-work_out.false in
    inl (
      refl,
      ap₂ (λ (p q : List ℕ). checked_lent b p q true) c.write_words.ensures c.write_words-2.ensures
          ∙ made b (fits-sound book c.requires.0) x m _ _ lx lm (sym (checked-is b (fits-tested book c.requires.0) _ _ true) ∙ ok),
    )
