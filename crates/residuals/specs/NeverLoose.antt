-- A record by the rules that is a check only is never LOOSE: its residual's variance is the observation's, which is at least 2^14: the determinant is at most 10,000 times each diagonal
-- entry of the adjugate. Assumes nothing.
use Rattle.std.specs.Prelude.{ℕ, zero, suc, ◌<◌, ◌^◌, ◌≡◌, refl, true, false, List, [], ◌∷◌, ◌⊎◌, ℤ, pos, nat_abs, ◌*ℤ◌, ◌≤ℤ◌, ◌<ℤ◌}
use Rattle.std.proofs.Common.{sym, ap, subst, inl, inr, arith}
use Rattle.std.specs.Int.Signed.{lt_z, clash_ℤ}
use Rattle.integers.specs.Solvers.{shapes, zle, lez}
use Rattle.integers.specs.Order.{zarith, pos-abs, <ℤ→≤ℤ}
use Rattle.integers.specs.Division.{floor_div, ≤-floor_div}
use Rattle.words.specs.Bools.{clash, true_or_false}
use Rattle.words.specs.SignedLaws.{eq_z_false}
use Rattle.lists.specs.All.{passed}
use Rattle.weights.specs.Rules.{adjugate_e, adjugate_n, adjugate_u, adjugate, determinant}
use Rattle.weights.specs.declared.WeightMatrix.{WeightMatrix}
use Rattle.weights.specs.Determinants.{weight_some, weight_most, determinant-E, determinant-N, determinant-U}
use Rattle.network.specs.Records.{weight_matrix_of, acts, observations, acts_of}
use Rattle.network.specs.Rules.{record_fits}
use Rattle.network.specs.RuleLaws.{WeightsByRules, weights_by_rules}
use Rattle.network.specs.declared.Network.{Network}
use Rattle.network.specs.declared.Record.{Record}
use Rattle.integers.specs.Inverses.{S}
use Rattle.residuals.specs.Residuals.{residual, in_adjustment, weights_variance, observation_variance, residual_variance}
use Rattle.residuals.specs.Verdicts.{verdict_word, local_verdict}
use Rattle.residuals.specs.CheckOnly.{check_only}
use Rattle.residuals.specs.declared.Verdict.TheVariants.{Loose}

-- ════ the variance of an observation is at least 2^14
quotient-least : (a d : ℤ) → pos 0 <ℤ d → pos 0 ≤ℤ a → d ≤ℤ (pos 10000 *ℤ a) → pos (2 ^ 14) ≤ℤ floor_div (S *ℤ a) (nat_abs d)
quotient-least a d p h k =
    let e = pos-abs (<ℤ→≤ℤ p) in
    let some : 0 < nat_abs d = let q = subst (λ (y : ℤ). pos 0 <ℤ y) (sym e) p in omega (zarith, q) in
    let ρ = a ∷ d ∷ [] in
    ≤-floor_div (S *ℤ a) (pos (2 ^ 14)) (nat_abs d) some
    (subst (λ (y : ℤ). (pos (2 ^ 14) *ℤ y) ≤ℤ (S *ℤ a)) (sym e) (zle ρ (search shapes) (omega (zarith, lez ρ (search shapes) h, lez ρ (search shapes) k))))

weights-least : (n : ℕ) (w : WeightMatrix) (a : ℕ) → a < 3 → WeightsByRules n w → acts_of n a ≡ true → pos (2 ^ 14) ≤ℤ weights_variance n w a
unfolding acts_of weights_variance adjugate
weights-least zero w a l g h = clash h refl
weights-least (suc zero) w a l g h = quotient-least (pos 1) w.uu (weight_some g) (record { le = tt }) (weight_most g)
weights-least (suc (suc n)) w zero l g h = let m = g.1 in quotient-least (adjugate_e w) (determinant w) m.third (<ℤ→≤ℤ m.positive_e) (determinant-E w g.0 m)
weights-least (suc (suc n)) w (suc zero) l g h = let m = g.1 in quotient-least (adjugate_n w) (determinant w) m.third (<ℤ→≤ℤ m.positive_n) (determinant-N w g.0 m)
weights-least (suc (suc n)) w (suc (suc zero)) l g h = let m = g.1 in quotient-least (adjugate_u w) (determinant w) m.third (<ℤ→≤ℤ m.second) (determinant-U w g.0 m)
weights-least (suc (suc n)) w (suc (suc (suc a))) l g h = absurd (omega arith)

variance-least : (net : Network) (r : Record) (a : ℕ) → a < 3 → record_fits net r ≡ true → acts a r ≡ true → pos (2 ^ 14) ≤ℤ observation_variance r a
unfolding acts observation_variance
variance-least net r a l e h = weights-least (observations r) (weight_matrix_of r) a l (weights_by_rules net r e) h

-- ════ the verdict
tight : (v q : ℤ) → pos (2 ^ 14) ≤ℤ q → local_verdict v q ≡ Loose → ⊥
unfolding local_verdict verdict_word
tight v q l e = go (true_or_false (lt_z q (pos (2 ^ 14)))) (true_or_false (lt_z (pos 60025 *ℤ q) (v *ℤ v *ℤ pos (2 ^ 24))))
  where
    go : (lt_z q (pos (2 ^ 14)) ≡ true) ⊎ (lt_z q (pos (2 ^ 14)) ≡ false)
        → (lt_z (pos 60025 *ℤ q) (v *ℤ v *ℤ pos (2 ^ 24)) ≡ true) ⊎ (lt_z (pos 60025 *ℤ q) (v *ℤ v *ℤ pos (2 ^ 24)) ≡ false) → ⊥
    go (inl y) o = let low : q <ℤ pos (2 ^ 14) = record { lt = passed (lt_z q (pos (2 ^ 14))) y } in clash_ℤ low l
    go (inr n) (inl f) = eq_z_false (pos 1) (pos 2) refl (ap verdict_word (rw (n, f) at e))
    go (inr n) (inr f) = eq_z_false (pos 0) (pos 2) refl (ap verdict_word (rw (n, f) at e))

pub never_loose : (net : Network) (r : Record) → record_fits net r ≡ true → in_adjustment net.stations r ≡ false
    → (x m : List ℤ) (a : ℕ) → a < 3 → acts a r ≡ true → local_verdict (residual net.stations x r a) (residual_variance net.stations m r a) ≡ Loose → ⊥
never_loose net r e out x m a h q =
    tight _ _ (subst (λ (y : ℤ). pos (2 ^ 14) ≤ℤ y) (sym ((check_only net.stations r out).variances m a h q)) (variance-least net r a h e q))
