-- What the observation equations of one record add to N and u: the code's view, which knows no station. Assumes nothing.
use Rattle.std.specs.Prelude.{ℕ, ◌+◌, ◌*◌, ◌%◌, ◌<◌, ◌≤◌, List, [], ◌∷◌, get_or, ℤ, pos, nat_abs, ◌-ℤ◌, ◌*ℤ◌}
use Rattle.integers.specs.Sums.{sum, δ}
use Rattle.network.specs.Units.{most_unknowns, most_misclosure}
use Rattle.network.specs.Records.{from_of, to_of, joins, weights, misclosures}
use Rattle.network.specs.declared.Record.{Record}
use Rattle.normals.specs.declared.Equation.{Equation}

abbrev pub at_of : Equation → ℕ → ℕ
at_of q e = get_or q.at e 0

abbrev pub coef_of : Equation → ℕ → ℤ
coef_of q e = get_or q.coef e (pos 0)

abbrev pub equation_weight : Equation → ℕ → ℕ → ℤ
equation_weight q a b = get_or q.weight (a * 3 + b) (pos 0)

abbrev pub misclosure_of : Equation → ℕ → ℤ
misclosure_of q a = get_or q.misclosure a (pos 0)

-- what keeps the code in range
pub record EquationInRange (q : Equation) : Type 0 where
  pub ends : (e : ℕ) → at_of q e < most_unknowns
  pub units : (e : ℕ) → nat_abs (coef_of q e) ≤ 1
  pub weights : (k : ℕ) → nat_abs (get_or q.weight k (pos 0)) ≤ 10000
  pub misclosures : (a : ℕ) → nat_abs (misclosure_of q a) ≤ most_misclosure

-- ends e and f, at their entry of N
abbrev pub pair_n : Equation → ℕ → ℕ → ℤ
pair_n q e f = coef_of q e *ℤ equation_weight q (e % 3) (f % 3) *ℤ coef_of q f

-- end e with each of the six, at entry k of N
unfoldable pub row_n : Equation → ℕ → ℕ → ℤ
row_n q e k = sum 6 (λ f. pair_n q e f *ℤ δ (at_of q e * most_unknowns + at_of q f) k)

-- all pairs of ends
unfoldable pub block_n : Equation → ℕ → ℤ
block_n q k = sum 6 (λ e. row_n q e k)

-- an equation's ends and weights, beside no misclosure: what its part of N is made of
abbrev pub ends_of : List ℕ → List ℤ → List ℤ → Equation
ends_of at coef weight = record { at = at; coef = coef; weight = weight; misclosure = [] }

-- row a of P times the misclosures
unfoldable pub weighted : Equation → ℕ → ℤ
weighted q a = sum 3 (λ b. equation_weight q a b *ℤ misclosure_of q b)

-- the six ends, at entry k of u
unfoldable pub block_u : Equation → ℕ → ℤ
block_u q k = sum 6 (λ e. coef_of q e *ℤ weighted q (e % 3) *ℤ δ (at_of q e) k)

-- ════ a record's equations, from tables over the 96 components: numbers of the unknowns, 1 where unknown, provisional coordinates
abbrev pub end_indices : List ℕ → ℕ → ℕ → List ℕ
end_indices at f t = get_or at (f * 3) 0 ∷ get_or at (f * 3 + 1) 0 ∷ get_or at (f * 3 + 2) 0 ∷ get_or at (t * 3) 0 ∷ get_or at (t * 3 + 1) 0 ∷ get_or at (t * 3 + 2) 0 ∷ []

-- ±1 at the unknowns of all three components: in one in which the record does not act its weights are 0, so that nothing is added (Shares)
abbrev pub coefs : List ℤ → ℤ → ℕ → ℕ → List ℤ
coefs un g f t =
    (pos 0 -ℤ g *ℤ get_or un (f * 3) (pos 0)) ∷ (pos 0 -ℤ g *ℤ get_or un (f * 3 + 1) (pos 0)) ∷ (pos 0 -ℤ g *ℤ get_or un (f * 3 + 2) (pos 0))
    ∷ get_or un (t * 3) (pos 0) ∷ get_or un (t * 3 + 1) (pos 0) ∷ get_or un (t * 3 + 2) (pos 0) ∷ []

abbrev pub equation_of : List ℕ → List ℤ → List ℤ → Record → Equation
equation_of at un co r =
    record { at = end_indices at (from_of r) (to_of r); coef = coefs un (joins r) (from_of r) (to_of r); weight = weights r; misclosure = misclosures co r }
