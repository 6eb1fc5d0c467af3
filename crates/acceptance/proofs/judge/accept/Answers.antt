-- `judge` unfolds test by test: what each test told decides its `unless`, and the first untied component is below 96 exactly where test 2 fails.
use Prim.Native.Nat.{ℕ, ◌+◌}
use mathlib.Core.Path.{◌≡◌, sym, ap, ◌∙◌}
use mathlib.Core.Bool.{Bool, true, false}
use native.Mathlib.Omega.{arith}
use Rattle.network.specs.Stations.{unknown_count}
use Rattle.network.specs.Places.{places_in}
use Rattle.network.specs.StationLaws.{number_small}
use Rattle.chains.specs.ChainLaws.{untied_by, tied_by, untied_number}
use Rattle.acceptance.specs.Tests.{lengths_fit}
use Rattle.acceptance.specs.Judge.{judge}
use Rattle.acceptance.specs.JudgeLaws.{lengths_of}
use Rattle.std.specs.Prelude.{Err}
use Rattle.acceptance.specs.declared.Refusal.TheVariants.{Untied}
use Rattle.acceptance.proofs.judge.accept.Goals as goal

pub lengths_fit-requires : goal.lengths_fit-requires
lengths_fit-requires c = rw c.number_of-n.ensures c.requires.1.few

pub returns-then-not-lengths_fit : goal.returns-then-not-lengths_fit
unfolding judge lengths_fit
returns-then-not-lengths_fit c =
    let one : (b : Bool) → c.lengths_fit.result ≡ b
    → lengths_fit (unknown_count c.args.net.stations) c.args.x.now c.args.m.now c.args.room ≡ b = λ b e. sym (rw c.number_of-n.ensures at c.lengths_fit.ensures) ∙ e in
    rw (one false c.if-not-lengths_fit.true)

pub first_untied-requires : goal.first_untied-requires
first_untied-requires c = (c.requires.0, c.requires.1.ends)

pub overflow_add-first : goal.overflow_add-first
overflow_add-first c =
    let l = number_small c.args.net.stations c.in-Some.q in
    record { fits = omega (arith, c.number_of-first.ensures, c.in-Some.ensures.in_range) }

pub returns-in-Some : goal.returns-in-Some
unfolding judge lengths_fit
returns-in-Some c =
    let one : (b : Bool) → c.lengths_fit.result ≡ b
    → lengths_fit (unknown_count c.args.net.stations) c.args.x.now c.args.m.now c.args.room ≡ b = λ b e. sym (rw c.number_of-n.ensures at c.lengths_fit.ensures) ∙ e in
    let u = c.in-Some.ensures.position in
    rw (
      one true c.if-not-lengths_fit.false,
      untied_by c.args.net (places_in c.args.places.now) u c.in-Some.ensures.in_range,
    )
    (ap (λ (k : ℕ). Err (Untied k)) (ap (λ (k : ℕ). k + 1) c.number_of-first.ensures ∙ sym (untied_number c.args.net (places_in c.args.places.now) u)))

pub judge_numbers-requires : goal.judge_numbers-requires
unfolding lengths_fit
judge_numbers-requires c =
    let one : (b : Bool) → c.lengths_fit.result ≡ b
    → lengths_fit (unknown_count c.args.net.stations) c.args.x.now c.args.m.now c.args.room ≡ b = λ b e. sym (rw c.number_of-n.ensures at c.lengths_fit.ensures) ∙ e in
    let n = c.number_of-n.ensures in
    let l = lengths_of _ _ _ _ (one true c.if-not-lengths_fit.false) in
    record {
      few = rw n c.requires.1.few;
      corrections = rw n l.0;
      square = rw n l.1;
      matrix = c.requires.1.matrix;
      absolute = c.requires.1.absolute;
    }

pub returns : goal.returns
unfolding judge lengths_fit
returns c =
    let one : (b : Bool) → c.lengths_fit.result ≡ b
    → lengths_fit (unknown_count c.args.net.stations) c.args.x.now c.args.m.now c.args.room ≡ b = λ b e. sym (rw c.number_of-n.ensures at c.lengths_fit.ensures) ∙ e in
    rw (
      one true c.if-not-lengths_fit.false,
      tied_by c.args.net (places_in c.args.places.now) c.in_default.ensures.position (omega arith),
    )
    (rw c.number_of-n.ensures at c.judge_numbers.ensures)
