-- The table of chi-square limits rises within and between its pairs, proved once over the table; and the global verdict at an index of the table.
use Rattle.std.specs.Prelude.{ℕ, zero, suc, ◌+◌, ◌-◌, ◌<◌, ◌≤◌, ◌≡◌, refl, Bool, true, false, cond, ◌&&◌, T, get_or, ℤ, pos, neg_ℤ, nat_abs, ◌*ℤ◌, ◌<ℤ◌, ◌≤ℤ◌}
use Rattle.std.proofs.Common.{sym, ap, ◌∙◌, subst, arith, le-ltb, lt-ltb}
use Rattle.std.proofs.Math.Decide.{ℕ_discrete}
use Rattle.std.specs.Int.Signed.{lt_z}
use Rattle.integers.specs.Order.{zarith, between-abs, <ℤ→≤ℤ, ≤ℤ_trans}
use Rattle.words.specs.Signed.{index_in}
use Rattle.words.specs.SignedLaws.{index_test, index_number}
use Rattle.words.specs.Bools.{and_left, and_right}
use Rattle.lists.specs.All.{all_below, all_at}
use Rattle.residuals.specs.Verdicts.{chi_square, limits, local_verdict, global_verdict}
use Rattle.residuals.specs.declared.Verdict.TheVariants.{Pass, Fail, Loose, Low, High, NoVerdict}

-- the limits at k + 1 degrees of freedom
abbrev pub lower : ℕ → ℤ
lower k = (get_or chi_square k (limits 0 0)).lower

abbrev pub upper : ℕ → ℤ
upper k = (get_or chi_square k (limits 0 0)).upper

-- ════ the order: one test over the table, which computes
abbrev within : ℕ → Bool
within k = lt_z (lower k) (upper k)

abbrev between : ℕ → Bool
between k = lt_z (lower k) (lower (k + 1)) && lt_z (upper k) (upper (k + 1))

rising : all_below 30 within && all_below 29 between ≡ true
unfolding all_below chi_square
rising = refl

less : (a b : ℤ) → lt_z a b ≡ true → a <ℤ b
less a b e = record { lt = subst T (sym e) tt }

-- within each pair
pub chi_square-within : (k : ℕ) → k < 30 → lower k <ℤ upper k
chi_square-within k h = less (lower k) (upper k) (all_at 30 within k (and_left _ _ rising) h)

-- between the pairs, one step
step : (k : ℕ) → k < 29 → (lower k <ℤ lower (k + 1)) × (upper k <ℤ upper (k + 1))
step k h =
    let e = all_at 29 between k (and_right (all_below 30 within) _ rising) h in
    (less (lower k) (lower (k + 1)) (and_left _ _ e), less (upper k) (upper (k + 1)) (and_right (lt_z (lower k) (lower (k + 1))) _ e))

<ℤ_trans : {a b c : ℤ} → a <ℤ b → b <ℤ c → a <ℤ c
<ℤ_trans {a} {b} {c} h k = omega zarith

-- between the pairs
pub chi_square-between : (i j : ℕ) → i < j → j < 30 → (lower i <ℤ lower j) × (upper i <ℤ upper j)
chi_square-between i zero h l = absurd (omega arith)
chi_square-between i (suc j) h l = go (chi_square-between i j) (ℕ_discrete i j)
  where
    next : (lower j <ℤ lower (suc j)) × (upper j <ℤ upper (suc j))
    next = let e : j + 1 ≡ suc j = omega arith in rw e at (step j (omega arith))

    go : (i < j → j < 30 → (lower i <ℤ lower j) × (upper i <ℤ upper j)) → Dec (i ≡ j) → (lower i <ℤ lower (suc j)) × (upper i <ℤ upper (suc j))
    go ih (yes e) = rw e next
    go ih (no e) =
        let p = ih (omega arith) (omega arith) in
        (<ℤ_trans p.0 next.0, <ℤ_trans p.1 next.1)

-- ════ their size, from the first and the last pair
first : pos 1 ≤ℤ lower 0
unfolding chi_square
first = record { le = tt }

last : upper 29 ≤ℤ pos 46979
unfolding chi_square
last = record { le = tt }

low : (k : ℕ) → k < 30 → pos 1 ≤ℤ lower k
low zero h = first
low (suc k) h = ≤ℤ_trans first (<ℤ→≤ℤ (chi_square-between 0 (suc k) (omega arith) h).0)

high : (k : ℕ) → k < 30 → upper k ≤ℤ pos 46979
high k h = go (ℕ_discrete k 29)
  where
    go : Dec (k ≡ 29) → upper k ≤ℤ pos 46979
    go (yes e) = rw e last
    go (no e) = ≤ℤ_trans (<ℤ→≤ℤ (chi_square-between k 29 (omega arith) (omega arith)).1) last

size : (z : ℤ) → pos 1 ≤ℤ z → z ≤ℤ pos 46979 → nat_abs z ≤ 46979
size z a b = let l : neg_ℤ (pos 46979) ≤ℤ z = omega zarith in between-abs l b

pub lower-size : (k : ℕ) → k < 30 → nat_abs (lower k) ≤ 46979
lower-size k h = size (lower k) (low k h) (≤ℤ_trans (<ℤ→≤ℤ (chi_square-within k h)) (high k h))

pub upper-size : (k : ℕ) → k < 30 → nat_abs (upper k) ≤ 46979
upper-size k h = size (upper k) (≤ℤ_trans (low k h) (<ℤ→≤ℤ (chi_square-within k h))) (high k h)

-- ════ the global verdict: none outside the table, and by the limits at d − 1 inside
pub global_none : (t d : ℤ) → 30 ≤ index_in d 30 → NoVerdict ≡ global_verdict t d
unfolding global_verdict
global_none t d h = rw (sym (index_test d 30), le-ltb (index_in d 30) 30 h)

pub global_inside : (t d : ℤ) (k : ℕ) → k ≡ index_in d 30 → k < 30
    → global_verdict t d ≡ cond (lt_z t (pos 1000 *ℤ lower k)) Low (cond (lt_z (pos 1000 *ℤ upper k) t) High Pass)
unfolding global_verdict
global_inside t d k e h =
    let inside : index_in d 30 < 30 = omega arith in
    let number : d ≡ pos (suc k) = index_number d 30 inside ∙ ap (λ (i : ℕ). pos (suc i)) (sym e) in
    let at : nat_abs (pos (suc k)) - 1 ≡ k = omega arith in
    rw (sym (index_test d 30), lt-ltb (index_in d 30) 30 inside) (rw (number, at) refl)

-- ════ the local verdict
pub local_loose : (v q : ℤ) → lt_z q (pos 16384) ≡ true → Loose ≡ local_verdict v q
unfolding local_verdict
local_loose v q e = rw e

pub local_fail : (v q : ℤ) → lt_z q (pos 16384) ≡ false → lt_z (pos 60025 *ℤ q) (v *ℤ v *ℤ pos 16777216) ≡ true → Fail ≡ local_verdict v q
unfolding local_verdict
local_fail v q e f = rw (e, f)

pub local_pass : (v q : ℤ) → lt_z q (pos 16384) ≡ false → lt_z (pos 60025 *ℤ q) (v *ℤ v *ℤ pos 16777216) ≡ false → Pass ≡ local_verdict v q
unfolding local_verdict
local_pass v q e f = rw (e, f)
