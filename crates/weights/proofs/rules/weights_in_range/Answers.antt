-- Each of the six weights is read back from its bits, so each test is that of the definition, in its order. Assumes nothing.
use Rattle.std.proofs.Common.{◌≡◌, ap, ap₂, ◌∙◌, ◌&&◌, ℤ, rules}
use Rattle.std.specs.Int.{w64}
use Rattle.std.proofs.lemmas.Int.{to_z-of_z}
use Rattle.weights.specs.Rules.{weight_fits, off_diagonal_fits, weights_in_range}
use Rattle.weights.proofs.rules.weights_in_range.Goals as goal

pub returns : goal.returns
unfolding weights_in_range
returns c =
    let ee-is : c.weight_fits.result ≡ weight_fits c.args.w.ee = c.weight_fits.ensures ∙ ap (λ (z : ℤ). weight_fits z) (to_z-of_z w64 c.args.w.ee (search rules)) in
    let nn-is : c.weight_fits-2.result ≡ weight_fits c.args.w.nn = c.weight_fits-2.ensures ∙ ap (λ (z : ℤ). weight_fits z) (to_z-of_z w64 c.args.w.nn (search rules)) in
    let uu-is : c.weight_fits-3.result ≡ weight_fits c.args.w.uu = c.weight_fits-3.ensures ∙ ap (λ (z : ℤ). weight_fits z) (to_z-of_z w64 c.args.w.uu (search rules)) in
    let en_is : c.off_diagonal_fits.result ≡ off_diagonal_fits c.args.w.en = c.off_diagonal_fits.ensures ∙ ap (λ (z : ℤ). off_diagonal_fits z) (to_z-of_z w64 c.args.w.en (search rules)) in
    let eu-is : c.off_diagonal_fits-2.result ≡ off_diagonal_fits c.args.w.eu = c.off_diagonal_fits-2.ensures ∙ ap (λ (z : ℤ). off_diagonal_fits z) (to_z-of_z w64 c.args.w.eu (search rules)) in
    let nu-is : c.off_diagonal_fits-3.result ≡ off_diagonal_fits c.args.w.nu = c.off_diagonal_fits-3.ensures ∙ ap (λ (z : ℤ). off_diagonal_fits z) (to_z-of_z w64 c.args.w.nu (search rules)) in
    ap₂ ◌&&◌ (ap₂ ◌&&◌ (ap₂ ◌&&◌ (ap₂ ◌&&◌ (ap₂ ◌&&◌ ee-is nn-is) uu-is) en_is) eu-is) nu-is
