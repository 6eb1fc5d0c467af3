-- Each covariance is at most 2^34, so the sum fits; the identity of stored numbers is `total`. Assumes nothing.
use Prim.Native.Nat.{ℕ, ◌≤◌, ◌^◌}
use mathlib.Core.Path.{◌≡◌, ◌∙◌}
use mathlib.Core.List.{List, [], ◌∷◌}
use lib.IntN.{ℤ, nat_abs, ◌+ℤ◌, ◌-ℤ◌, ◌*ℤ◌}
use Rattle.integers.specs.Code.{fit, code_bounds, ringm, code_shapes}
use Rattle.lists.specs.Stored.{stored}
use Rattle.residuals.specs.Components.{covariance_in, difference_in, Lookup, covariance-size}
use Rattle.residuals.proofs.variances.Covariances.difference_variance.Goals as goal

size : {numbers : List ℕ} {unknowns m : List ℤ} {n : ℕ} (w : Lookup numbers unknowns m n) (q k : ℕ) {v : ℤ} → v ≡ covariance_in numbers unknowns m n q k → nat_abs v ≤ 2 ^ 34
size w q k e = rw e (covariance-size w q k)

total : (a b c d j : ℤ) → nat_abs a ≤ 2 ^ 34 → nat_abs b ≤ 2 ^ 34 → nat_abs c ≤ 2 ^ 34 → nat_abs d ≤ 2 ^ 34 → nat_abs j ≤ 1
    → stored (stored a +ℤ stored (stored j *ℤ stored (stored (stored b -ℤ stored c) -ℤ stored d))) ≡ a +ℤ j *ℤ (b -ℤ c -ℤ d)
total a b c d j p q r t u = ringm (a ∷ b ∷ c ∷ d ∷ j ∷ []) (search code_shapes depth 20) tt

pub overflow_sub-result : goal.overflow_sub-result
overflow_sub-result c =
    let w = c.args.self.looked_up in let j = c.requires.2 in
    let tt' = size w c.args.o.to c.args.o.to c.covariance-to.ensures in let ff = size w c.args.o.from c.args.o.from c.covariance-from.ensures in
    let tf = size w c.args.o.to c.args.o.from c.covariance-upper.ensures in let ft = size w c.args.o.from c.args.o.to c.covariance-lower.ensures in fit (search code_bounds depth 20) tt

pub overflow_sub-result-2 : goal.overflow_sub-result-2
overflow_sub-result-2 c =
    let w = c.args.self.looked_up in let j = c.requires.2 in
    let tt' = size w c.args.o.to c.args.o.to c.covariance-to.ensures in let ff = size w c.args.o.from c.args.o.from c.covariance-from.ensures in
    let tf = size w c.args.o.to c.args.o.from c.covariance-upper.ensures in let ft = size w c.args.o.from c.args.o.to c.covariance-lower.ensures in fit (search code_bounds depth 20) tt

pub overflow_mul-result : goal.overflow_mul-result
overflow_mul-result c =
    let w = c.args.self.looked_up in let j = c.requires.2 in
    let tt' = size w c.args.o.to c.args.o.to c.covariance-to.ensures in let ff = size w c.args.o.from c.args.o.from c.covariance-from.ensures in
    let tf = size w c.args.o.to c.args.o.from c.covariance-upper.ensures in let ft = size w c.args.o.from c.args.o.to c.covariance-lower.ensures in fit (search code_bounds depth 20) tt

pub overflow_add-result : goal.overflow_add-result
overflow_add-result c =
    let w = c.args.self.looked_up in let j = c.requires.2 in
    let tt' = size w c.args.o.to c.args.o.to c.covariance-to.ensures in let ff = size w c.args.o.from c.args.o.from c.covariance-from.ensures in
    let tf = size w c.args.o.to c.args.o.from c.covariance-upper.ensures in let ft = size w c.args.o.from c.args.o.to c.covariance-lower.ensures in fit (search code_bounds depth 20) tt

pub returns : goal.returns
unfolding difference_in
returns c =
    let w = c.args.self.looked_up in let j = c.requires.2 in
    let tt' = size w c.args.o.to c.args.o.to c.covariance-to.ensures in let ff = size w c.args.o.from c.args.o.from c.covariance-from.ensures in
    let tf = size w c.args.o.to c.args.o.from c.covariance-upper.ensures in let ft = size w c.args.o.from c.args.o.to c.covariance-lower.ensures in
    total c.covariance-to.result c.covariance-from.result c.covariance-upper.result c.covariance-lower.result c.args.o.joins tt' ff tf ft j
    ∙ rw (c.covariance-to.ensures, c.covariance-from.ensures, c.covariance-upper.ensures, c.covariance-lower.ensures)
