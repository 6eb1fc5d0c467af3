-- One step of the loops over N and u, in machine integers: every value is stored in 64 bits and read again. Assumes nothing.
use Prim.Native.Nat.{ℕ, ◌+◌, ◌*◌, ◌%◌, ◌<◌, ◌≤◌, ◌^◌, zero-le}
use mathlib.Core.Path.{◌≡◌, ap, ◌∙◌}
use mathlib.Core.List.{List, [], ◌∷◌}
use lib.ListN.{get_or}
use lib.IntN.{ℤ, pos, nat_abs, ◌+ℤ◌, ◌-ℤ◌, ◌*ℤ◌}
use mir.Syntax.{w64}
use mir.Val.{SFits}
use Rattle.integers.specs.Code.{ringm, code_shapes, fit, code_bounds}
use Rattle.integers.specs.Solvers.{ring, shapes}
use Rattle.integers.specs.Sums.{sum-ext, sum_0, δ}
use Rattle.lists.specs.Stored.{stored}
use Rattle.normals.specs.declared.Equation.{Equation}
use Rattle.normals.specs.Equations.{EquationInRange, ends_of, at_of, coef_of, equation_weight, pair_n, row_n}

-- a turn of the loop over the ends f that adds end e's pairs to N
pub record Turn (q : Equation) (e f : ℕ) (s : ℤ) (n : List ℤ) : Type 0 where
  pub sign : nat_abs s ≤ 1
  pub row : at_of q e < 48
  pub column : at_of q f < 48
  pub coef : nat_abs (coef_of q e) ≤ 1
  pub weight : nat_abs (equation_weight q (e % 3) (f % 3)) ≤ 10000
  pub other : nat_abs (coef_of q f) ≤ 1
  pub entry : nat_abs (get_or n (at_of q e * 48 + at_of q f) (pos 0)) ≤ 2 ^ 41 + 60000

entry_by : (x s c w d : ℤ) → nat_abs x ≤ 2 ^ 41 + 60000 → nat_abs s ≤ 1 → nat_abs c ≤ 1 → nat_abs w ≤ 10000 → nat_abs d ≤ 1
    → stored (stored x +ℤ stored (stored (stored (stored s *ℤ stored c) *ℤ stored w) *ℤ stored d)) ≡ x +ℤ stored s *ℤ (c *ℤ w *ℤ d)
entry_by x s c w d hx hs hc hw hd = ringm (x ∷ s ∷ c ∷ w ∷ d ∷ []) (search code_shapes depth 16) tt

pub entry_step : (q : Equation) (e f : ℕ) (s : ℤ) (n : List ℤ) → Turn q e f s n
    → stored
    (stored (get_or n (at_of q e * 48 + at_of q f) (pos 0))
    +ℤ stored (stored (stored (stored s *ℤ stored (coef_of q e)) *ℤ stored (equation_weight q (e % 3) (f % 3))) *ℤ stored (coef_of q f)))
    ≡ get_or n (at_of q e * 48 + at_of q f) (pos 0) +ℤ stored s *ℤ pair_n q e f
entry_step q e f s n t =
    entry_by (get_or n (at_of q e * 48 + at_of q f) (pos 0)) s (coef_of q e) (equation_weight q (e % 3) (f % 3)) (coef_of q f)
    t.entry t.sign t.coef t.weight t.other

pub entry_fits : (q : Equation) (e f : ℕ) (s : ℤ) (n : List ℤ) → Turn q e f s n
    → SFits w64
    (stored (get_or n (at_of q e * 48 + at_of q f) (pos 0))
    +ℤ stored (stored (stored (stored s *ℤ stored (coef_of q e)) *ℤ stored (equation_weight q (e % 3) (f % 3))) *ℤ stored (coef_of q f)))
entry_fits q e f s n t = fit (search code_bounds depth 12) tt

-- the term of ends e and f
pub record Pair (q : Equation) (e f : ℕ) : Type 0 where
  pub row : at_of q e < 48
  pub column : at_of q f < 48
  pub coef : nat_abs (coef_of q e) ≤ 1
  pub weight : nat_abs (equation_weight q (e % 3) (f % 3)) ≤ 10000
  pub other : nat_abs (coef_of q f) ≤ 1

pub pair_product : (q : Equation) (e f : ℕ) → Pair q e f
    → stored (stored (stored (coef_of q e) *ℤ stored (equation_weight q (e % 3) (f % 3))) *ℤ stored (coef_of q f)) ≡ pair_n q e f
pair_product q e f h = ringm (coef_of q e ∷ equation_weight q (e % 3) (f % 3) ∷ coef_of q f ∷ []) (search code_shapes depth 16) tt

-- the term of an end: its coefficient c, and its row p of P times the misclosures
pub end_product : (c p : ℤ) → nat_abs c ≤ 1 → nat_abs p ≤ 3000000000 → stored (stored c *ℤ stored p) ≡ c *ℤ p
end_product c p hc hp = ringm (c ∷ p ∷ []) (search code_shapes depth 12) tt

-- the ends and weights of an equation in range are in range
pub fit_ends : (q : Equation) → EquationInRange q → EquationInRange (ends_of q.at q.coef q.weight)
fit_ends q f = record { ends = f.ends; units = f.units; weights = f.weights; misclosures = λ a. zero-le }

-- an end that is held adds nothing
pub row_held : (q : Equation) (e : ℕ) → coef_of q e ≡ pos 0 → (k : ℕ) → row_n q e k ≡ pos 0
unfolding row_n
row_held q e h k =
    sum-ext 6
    (λ f l. ap (λ (c : ℤ). c *ℤ equation_weight q (e % 3) (f % 3) *ℤ coef_of q f *ℤ δ (at_of q e * 48 + at_of q f) k) h
    ∙ ring (equation_weight q (e % 3) (f % 3) ∷ coef_of q f ∷ δ (at_of q e * 48 + at_of q f) k ∷ []) (search shapes) tt)
    ∙ sum_0 6

-- a row of P times the misclosures
pub record Row (a b c x y z : ℤ) : Type 0 where
  pub left : nat_abs a ≤ 10000
  pub middle : nat_abs b ≤ 10000
  pub right : nat_abs c ≤ 10000
  pub east : nat_abs x ≤ 100000
  pub north : nat_abs y ≤ 100000
  pub up : nat_abs z ≤ 100000

pub row_sum : (a b c x y z : ℤ) → Row a b c x y z
    → stored (stored (stored (stored a *ℤ stored x) +ℤ stored (stored b *ℤ stored y)) +ℤ stored (stored c *ℤ stored z))
    ≡ ((pos 0 +ℤ a *ℤ x) +ℤ b *ℤ y) +ℤ c *ℤ z
row_sum a b c x y z h = ringm (a ∷ b ∷ c ∷ x ∷ y ∷ z ∷ []) (search code_shapes depth 16) tt

-- a turn of the loop over the ends e that adds to u
pub record RightTurn (q : Equation) (e : ℕ) (s : ℤ) (u : List ℤ) : Type 0 where
  pub sign : nat_abs s ≤ 1
  pub at : at_of q e < 48
  pub coef : nat_abs (coef_of q e) ≤ 1
  pub entry : nat_abs (get_or u (at_of q e) (pos 0)) ≤ 2 ^ 43 + 18000000000

-- an entry of u, with s c p more
pub right_step : (x s c p : ℤ) → nat_abs x ≤ 2 ^ 43 + 18000000000 → nat_abs s ≤ 1 → nat_abs c ≤ 1 → nat_abs p ≤ 3000000000
    → stored (stored x +ℤ stored (stored (stored s *ℤ stored c) *ℤ stored p)) ≡ x +ℤ stored s *ℤ (c *ℤ p)
right_step x s c p hx hs hc hp = ringm (x ∷ s ∷ c ∷ p ∷ []) (search code_shapes depth 16) tt

-- the coefficient at a from end
pub from_coef : (g z : ℤ) → nat_abs g ≤ 1 → nat_abs z ≤ 1 → stored (pos 0 -ℤ stored (stored g *ℤ stored z)) ≡ pos 0 -ℤ g *ℤ z
from_coef g z k h = ringm (g ∷ z ∷ []) (search code_shapes depth 12) tt
