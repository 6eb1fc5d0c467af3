-- Verdicts: the local test of each residual and the global test. Assumes nothing.
use Rattle.std.specs.Prelude.{ℕ, ◌-◌, ◌^◌, cond, ◌&&◌, List, [], ◌∷◌, get_or, ℤ, pos, nat_abs, ◌*ℤ◌}
use Rattle.std.specs.Int.Signed.{le_z, lt_z}
use Rattle.residuals.specs.declared.Verdict.{Verdict}
use Rattle.residuals.specs.declared.Verdict.TheVariants.{Pass, Fail, Loose, Low, High, NoVerdict}
use Rattle.residuals.specs.declared.Limits.{Limits}

-- "verdicts as 0 PASS, 1 FAIL, 2 LOOSE, 3 LOW, 4 HIGH, 5 NONE"
unfoldable pub verdict_word : Verdict → ℤ
verdict_word Pass = pos 0
verdict_word Fail = pos 1
verdict_word Loose = pos 2
verdict_word Low = pos 3
verdict_word High = pos 4
verdict_word NoVerdict = pos 5

-- "If q < 2^14, LOOSE. Otherwise FAIL exactly when v²·2^24 > 60025·q, else PASS."
unfoldable pub local_verdict : ℤ → ℤ → Verdict
local_verdict v q = cond (lt_z q (pos (2 ^ 14))) Loose (cond (lt_z (pos 60025 *ℤ q) (v *ℤ v *ℤ pos (2 ^ 24))) Fail Pass)

-- "95% chi-square limits in thousandths, lower/upper, D = 1 to 30"
abbrev pub limits : ℕ → ℕ → Limits
limits a b = record { lower = pos a; upper = pos b }

unfoldable pub chi_square : List Limits
chi_square =
    limits 1 5024 ∷ limits 51 7378 ∷ limits 216 9348 ∷ limits 484 11143 ∷ limits 831 12833
    ∷ limits 1237 14449 ∷ limits 1690 16013 ∷ limits 2180 17535 ∷ limits 2700 19023 ∷ limits 3247 20483
    ∷ limits 3816 21920 ∷ limits 4404 23337 ∷ limits 5009 24736 ∷ limits 5629 26119 ∷ limits 6262 27488
    ∷ limits 6908 28845 ∷ limits 7564 30191 ∷ limits 8231 31526 ∷ limits 8907 32852 ∷ limits 9591 34170
    ∷ limits 10283 35479 ∷ limits 10982 36781 ∷ limits 11689 38076 ∷ limits 12401 39364 ∷ limits 13120 40646
    ∷ limits 13844 41923 ∷ limits 14573 43195 ∷ limits 15308 44461 ∷ limits 16047 45722 ∷ limits 16791 46979
    ∷ []

abbrev pub limits_at : ℕ → Limits
limits_at d = get_or chi_square (d - 1) (limits 0 0)

-- "LOW if T < 1000·lower, HIGH if T > 1000·upper, else PASS. D = 0 or D > 30 gives NONE."
unfoldable pub global_verdict : ℤ → ℤ → Verdict
global_verdict t d =
    cond (le_z (pos 1) d && le_z d (pos 30))
    (cond (lt_z t (pos 1000 *ℤ (limits_at (nat_abs d)).lower)) Low (cond (lt_z (pos 1000 *ℤ (limits_at (nat_abs d)).upper) t) High Pass))
    NoVerdict
