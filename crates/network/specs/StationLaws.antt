-- Unknowns and their numbers.
use Rattle.std.specs.Prelude.{ℕ, zero, suc, ◌+◌, ◌-◌, ◌*◌, ◌/◌, ◌%◌, ◌<◌, ◌≤◌, ◌≡◌, Bool, true, false, cond, List, ◌⊎◌, eqb}
use Rattle.std.proofs.Math.Decide.{dec_lt}
use Rattle.std.proofs.Math.Path.{refl}
use Rattle.std.proofs.Common.{sym, ap, ◌∙◌, subst, inl, inr, add-one}
use native.Mathlib.Omega.{arith}
use Rattle.integers.specs.Sums.{sum_n}
use Rattle.network.specs.declared.Kind.{Kind}
use Rattle.network.specs.declared.Kind.TheVariants.{Known, Free, Height}
use Rattle.network.specs.declared.Station.{Station}
use Rattle.network.specs.Stations.{unknown_in, unknown, number, station_at}

pub bit_in : (k : Kind) (c : ℕ) → unknown_in k c ≤ 1
unfolding unknown_in
bit_in Known c = let e : 0 ≤ 1 = omega arith in e
bit_in Free c = let e : 1 ≤ 1 = omega arith in e
bit_in Height c = go (eqb c 2)
  where
    go : (b : Bool) → cond b 1 0 ≤ 1
    go true = let e : 1 ≤ 1 = omega arith in e
    go false = let e : 0 ≤ 1 = omega arith in e

module _ (st : List Station) where
  pub unknown-bit : (q : ℕ) → unknown st q ≤ 1
  unfolding unknown
  unknown-bit q = bit_in (station_at st (q / 3)).kind (q % 3)

  -- component c of station s
  pub unknown-at : (s c : ℕ) → c < 3 → unknown st (s * 3 + c) ≡ unknown_in (station_at st s).kind c
  unfolding unknown
  unknown-at s c h = let d : (s * 3 + c) / 3 ≡ s = omega arith in let m : (s * 3 + c) % 3 ≡ c = omega arith in rw (d, m)

  pub number_0 : number st 0 ≡ 0
  unfolding number sum_n
  number_0 = refl

  pub number-suc : (q : ℕ) → number st (suc q) ≡ number st q + unknown st q
  unfolding number sum_n
  number-suc q = refl

  pub number-+1 : (q : ℕ) → number st (q + 1) ≡ number st q + unknown st q
  number-+1 q = ap (number st) (add-one q) ∙ number-suc q

  pub number_small : (q : ℕ) → number st q ≤ q
  number_small zero = omega (arith, number_0)
  number_small (suc q) = omega (arith, number-suc q, number_small q, unknown-bit q)

  -- numbers rise: by d steps
  rise : (q d : ℕ) → number st q ≤ number st (q + d)
  rise q zero = let e : q + 0 ≡ q = omega arith in subst (λ (k : ℕ). number st q ≤ number st k) (sym e) (let g : number st q ≤ number st q = omega arith in g)
  rise q (suc d) =
      let e : q + suc d ≡ suc (q + d) = omega arith in
      subst (λ (k : ℕ). number st q ≤ number st k) (sym e) (omega (arith, rise q d, number-suc (q + d)))

  pub number_mono : (p q : ℕ) → p ≤ q → number st p ≤ number st q
  number_mono p q h = subst (λ (k : ℕ). number st p ≤ number st k) (e) (rise p (q - p))
    where
      e : p + (q - p) ≡ q
      e = omega arith

  -- an unknown's number is below the number of unknowns, and rises strictly
  pub number_below : (p q : ℕ) → p < q → unknown st p ≡ 1 → number st p < number st q
  number_below p q h u = omega (arith, number_mono (suc p) q h, number-suc p)

  pub number-apart : (p q : ℕ) → (p ≡ q → ⊥) → unknown st p ≡ 1 → unknown st q ≡ 1 → number st p ≡ number st q → ⊥
  number-apart p q ne u v e = go (dec_lt p q)
    where
      go : Dec (p < q) → ⊥
      go (yes h) = let g = number_below p q h u in omega arith
      go (no h) = let w : q < p = omega arith in let g = number_below q p w v in omega arith

  pub unknown_cases : (q : ℕ) → (unknown st q ≡ 0) ⊎ (unknown st q ≡ 1)
  unknown_cases q = go (unknown st q) (unknown-bit q)
    where
      go : (b : ℕ) → b ≤ 1 → (b ≡ 0) ⊎ (b ≡ 1)
      go zero h = inl refl
      go (suc zero) h = inr refl
      go (suc (suc b)) h = absurd (omega arith)
