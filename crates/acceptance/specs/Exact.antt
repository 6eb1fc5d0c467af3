-- The exact answer: where test 5 holds, for every right side b there are whole y and d > 0 with Ny = db (`exists`), and they give one fraction y over d (`unique`). Assumes nothing.
-- The n columns of N and b are n + 1 vectors of n coordinates, so some multiples of them, not all 0, add up to 0; by the kernel, that of b is not 0.
use Rattle.std.specs.Prelude.{ℕ, zero, suc, ◌<◌, ◌≡◌, refl, true, [], ◌∷◌, ℤ, pos, negsuc, ◌+ℤ◌, ◌-ℤ◌, ◌*ℤ◌, ◌<ℤ◌}
use Rattle.std.proofs.Math.Path.{sym, ap}
use Rattle.std.proofs.Common.{ap₂, ◌∙◌, arith}
use Rattle.std.proofs.Math.Decide.{ℕ_discrete}
use Rattle.std.proofs.Math.IntN.{neg_ℤ, *ℤ_comm}
use Rattle.integers.specs.Laws.{ -ℤ-zero-eq}
use Rattle.integers.specs.Solvers.{ring, shapes, zlt}
use Rattle.integers.specs.Sums.{sum, sum-ext, sum--, sum-*l}
use Rattle.integers.specs.Dependence.{Dependent, dependent, extended, sum-extended}
use Rattle.acceptance.specs.Tests.{defect_small}
use Rattle.acceptance.specs.Follows.{Solves}
use Rattle.acceptance.specs.Kernel.{kernel}

-- whole y and d > 0 with Ny = db
pub record Solution (n : ℕ) (N : ℕ → ℕ → ℤ) (b : ℕ → ℤ) : Type 0 where
  pub y : ℕ → ℤ
  pub d : ℤ
  pub solves : Solves n N b y d

module _ (n : ℕ) (N : ℕ → ℕ → ℤ) (b : ℕ → ℤ) where
  -- Nc + eb = 0
  Balanced : (ℕ → ℤ) → ℤ → Type 0
  Balanced c e = (i : ℕ) → i < n → sum n (λ j. N i j *ℤ c j) +ℤ e *ℤ b i ≡ pos 0

  -- the columns of N, and b
  abbrev columns : ℕ → ℕ → ℤ
  columns k i = extended n (N i) (b i) k

  balanced : (d : Dependent n (suc n) columns) → Balanced d.multiple (d.multiple n)
  unfolding Balanced
  balanced d i l =
      let c = d.multiple in
      ap (λ (z : ℤ). sum n (λ j. N i j *ℤ c j) +ℤ z) (*ℤ_comm (c n) (b i))
      ∙ sym (sum-extended n (N i) (b i) c)
      ∙ sum-ext (suc n) (λ k q. *ℤ_comm (columns k i) (c k))
      ∙ d.vanishes i l

  -- Nc + eb = 0 times s, where −se is positive
  scaled : (s : ℤ) (c : ℕ → ℤ) (e : ℤ) → pos 0 <ℤ neg_ℤ (s *ℤ e) → Balanced c e → Solution n N b
  unfolding Balanced
  scaled s c e p q =
      record {
        y = λ j. s *ℤ c j;
        d = neg_ℤ (s *ℤ e);
        solves = record {
          positive = p;
          solves = λ i l.
              let t = sum n (λ j. N i j *ℤ c j) in
              sum-ext n (λ j k. ring (N i j ∷ s ∷ c j ∷ []) (search shapes) tt)
              ∙ sum-*l n s (λ j. N i j *ℤ c j)
              ∙ ring (s ∷ t ∷ e ∷ b i ∷ []) (search shapes) tt
              ∙ ap (λ (z : ℤ). s *ℤ z +ℤ neg_ℤ (s *ℤ e) *ℤ b i) (q i l)
              ∙ ring (s ∷ e ∷ b i ∷ []) (search shapes) tt;
        };
      }

  solution : (c : ℕ → ℤ) (e : ℤ) → (e ≡ pos 0 → ⊥) → Balanced c e → Solution n N b
  solution c (pos zero) h q = absurd (h refl)
  solution c (pos (suc k)) h q = scaled (negsuc 0) c (pos (suc k)) (zlt [] (search shapes) (omega arith)) q
  solution c (negsuc k) h q = scaled (pos 1) c (negsuc k) (zlt [] (search shapes) (omega arith)) q

  pub exists : (M : ℕ → ℕ → ℤ) → defect_small n N M ≡ true → Solution n N b
  unfolding Balanced
  exists M five = solution c (c n) last (balanced d)
    where
      d : Dependent n (suc n) columns
      d = dependent n (suc n) columns (omega arith)

      c : ℕ → ℤ
      c = d.multiple

      -- were the last multiple 0, all would be
      without : c n ≡ pos 0 → (i : ℕ) → i < n → sum n (λ j. N i j *ℤ c j) ≡ pos 0
      without e i l =
          ring (sum n (λ j. N i j *ℤ c j) ∷ b i ∷ []) (search shapes) tt
          ∙ ap (λ (z : ℤ). sum n (λ j. N i j *ℤ c j) +ℤ z *ℤ b i) (sym e)
          ∙ balanced d i l

      all : c n ≡ pos 0 → (k : ℕ) → k < suc n → Dec (k ≡ n) → c k ≡ pos 0
      all e k h (yes q) = ap c q ∙ e
      all e k h (no q) = kernel n N M five c (without e) k (omega arith)

      last : c n ≡ pos 0 → ⊥
      last e = d.some.nonzero (all e d.some.index d.some.below (ℕ_discrete d.some.index n))

-- two solutions are equal as fractions
pub unique : (n : ℕ) (N M : ℕ → ℕ → ℤ) (b : ℕ → ℤ) → defect_small n N M ≡ true
    → (p q : Solution n N b) (i : ℕ) → i < n → q.d *ℤ p.y i ≡ p.d *ℤ q.y i
unique n N M b five p q i l = -ℤ-zero-eq _ _ (kernel n N M five (λ j. q.d *ℤ p.y j -ℤ p.d *ℤ q.y j) none i l)
  where
    times : (d : ℤ) (s : Solution n N b) (i : ℕ) → i < n → sum n (λ j. d *ℤ (N i j *ℤ s.y j)) ≡ d *ℤ (s.d *ℤ b i)
    times d s i l = sum-*l n d (λ j. N i j *ℤ s.y j) ∙ ap (λ (z : ℤ). d *ℤ z) (s.solves.solves i l)

    none : (i : ℕ) → i < n → sum n (λ j. N i j *ℤ (q.d *ℤ p.y j -ℤ p.d *ℤ q.y j)) ≡ pos 0
    none i l =
        sum-ext n (λ j k. ring (N i j ∷ q.d ∷ p.y j ∷ p.d ∷ q.y j ∷ []) (search shapes) tt)
        ∙ sum-- n (λ j. q.d *ℤ (N i j *ℤ p.y j)) (λ j. p.d *ℤ (N i j *ℤ q.y j))
        ∙ ap₂ ◌-ℤ◌ (times q.d p i l) (times p.d q i l)
        ∙ ring (q.d ∷ p.d ∷ b i ∷ []) (search shapes) tt
