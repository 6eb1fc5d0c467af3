-- `with` adds the bit's weight where the bit is not set. Assumes nothing.
use Prim.Native.Nat.{◌+◌, ◌*◌, ◌%◌, ◌^◌, ◌<◌}
use mathlib.Core.Path.{◌≡◌, sym, ◌∙◌}
use native.Mathlib.Nat.{one-mul, mod-eq_of_lt}
use lib.Pow.{pow-lt}
use Rattle.chains.specs.Bits.{set_bit, set_yes, set_no, set-fits}
use Rattle.chains.proofs.sets.with.Goals as goal

pub returns-then-has : goal.returns-then-has
returns-then-has c = sym (set_yes _ _ (sym c.has.ensures ∙ c.if-has.true))

pub overflow_add-result : goal.overflow_add-result
overflow_add-result c =
    let is_set : c.args.w + (1 * 2 ^ c.args.s) % 2 ^ 32 ≡ set_bit c.args.w c.args.s = let l : 2 ^ c.args.s < 2 ^ 32 = pow-lt c.requires in
    rw (one-mul, mod-eq_of_lt l) (sym (set_no _ _ (sym c.has.ensures ∙ c.if-has.false))) in
    rw is_set (record { fits = set-fits _ _ c.requires c.ranges.w.fits })

pub returns : goal.returns
returns c =
    let is_set : c.args.w + (1 * 2 ^ c.args.s) % 2 ^ 32 ≡ set_bit c.args.w c.args.s = let l : 2 ^ c.args.s < 2 ^ 32 = pow-lt c.requires in
    rw (one-mul, mod-eq_of_lt l) (sym (set_no _ _ (sym c.has.ensures ∙ c.if-has.false))) in
    is_set
