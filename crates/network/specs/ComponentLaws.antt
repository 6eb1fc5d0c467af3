-- The numbers of the unknowns and the components that have them undo each other. Assumes nothing.
use Prim.Native.Nat.{ℕ, zero, suc, ◌+◌, ◌<◌, ◌≤◌}
use Rattle.std.specs.Prelude.{◌≡◌, Bool, ◌&&◌, List, eqb}
use Rattle.std.proofs.Math.Path.{refl, sym}
use Rattle.std.proofs.Common.{ap, ◌∙◌, subst, arith}
use Rattle.std.proofs.Math.Bool.{true, false, cond}
use Rattle.std.proofs.Math.Decide.{dec_lt, ℕ_discrete}
use borrow.Author.Tests.{eqb-true, eq-eqb}
use Rattle.words.specs.Bools.{clash, and_left, and_right, and_both}
use Rattle.network.specs.declared.Station.{Station}
use Rattle.network.specs.Stations.{unknown, number, unknown_count, component_from, component_of}
use Rattle.network.specs.StationLaws.{unknown-bit, number_0, number-suc, number_below, number-apart}

-- component p, before q, is the unknown i
pub record Unknown (st : List Station) (q i p : ℕ) : Type 0 where
  pub below : p < q
  pub is : unknown st p ≡ 1
  pub numbered : number st p ≡ i

module _ (st : List Station) (i : ℕ) where
  test : ℕ → Bool
  test q = eqb (unknown st q) 1 && eqb (number st q) i

  -- where the search finds it, and where it finds none
  found : (q left p : ℕ) → q ≤ p → Unknown st (q + left) i p → component_from st i q left ≡ p
  unfolding component_from test
  found q zero p h u = absurd (let k = u.below in omega arith)
  found q (suc left) p h u =
      go (λ k. found (suc q) left p k (record { below = let b = u.below in omega arith; is = u.is; numbered = u.numbered })) (test q) refl (ℕ_discrete q p)
    where
      go : (q < p → component_from st i (suc q) left ≡ p) → (b : Bool) → test q ≡ b → Dec (q ≡ p) → cond b q (component_from st i (suc q) left) ≡ p
      go rest true e (yes f) = f
      go rest true e (no f) =
          absurd (number-apart st q p f (eqb-true (unknown st q) 1 (and_left (eqb (unknown st q) 1) (eqb (number st q) i) e)) u.is
          (eqb-true (number st q) i (and_right (eqb (unknown st q) 1) (eqb (number st q) i) e) ∙ sym u.numbered))
      go rest false e (yes f) =
          clash (and_both (eqb (unknown st q) 1) (eqb (number st q) i) (eq-eqb (unknown st q) 1 (ap (unknown st) f ∙ u.is)) (eq-eqb (number st q) i (ap (number st) f ∙ u.numbered))) e
      go rest false e (no f) = rest (omega arith)

  lost : (q left : ℕ) → ((p : ℕ) → Unknown st (q + left) i p → ⊥) → component_from st i q left ≡ 96
  unfolding component_from test
  lost q zero h = refl
  lost q (suc left) h =
      go (lost (suc q) left (λ p u. h p (record { below = let b = u.below in omega arith; is = u.is; numbered = u.numbered }))) (test q) refl
    where
      go : component_from st i (suc q) left ≡ 96 → (b : Bool) → test q ≡ b → cond b q (component_from st i (suc q) left) ≡ 96
      go rest true e =
          absurd (h q (record {
            below = omega arith;
            is = eqb-true (unknown st q) 1 (and_left (eqb (unknown st q) 1) (eqb (number st q) i) e);
            numbered = eqb-true (number st q) i (and_right (eqb (unknown st q) 1) (eqb (number st q) i) e);
          }))
      go rest false e = rest

  -- each number below the count of unknowns is one's
  exists : (q : ℕ) → i < number st q → ((p : ℕ) × Unknown st q i p)
  exists zero h = absurd (omega (arith, number_0 st))
  exists (suc q) h = go (exists q) (dec_lt i (number st q))
    where
      go : (i < number st q → ((p : ℕ) × Unknown st q i p)) → Dec (i < number st q) → ((p : ℕ) × Unknown st (suc q) i p)
      go rest (yes k) = let x = rest k in (x.0, record { below = let b = x.1.below in omega arith; is = x.1.is; numbered = x.1.numbered })
      go rest (no k) = (q, record { below = omega arith; is = omega (arith, number-suc st q, unknown-bit st q); numbered = omega (arith, number-suc st q, unknown-bit st q) })

module _ (st : List Station) where
  -- the component with the number of the unknown q is q
  pub component_of-number : (q : ℕ) → q < 96 → unknown st q ≡ 1 → component_of st (number st q) ≡ q
  component_of-number q h u = found st (number st q) 0 96 q (omega arith) (record { below = omega arith; is = u; numbered = refl })

  -- the component of a number below the count of unknowns is unknown, and has that number
  pub component_of_lem : (i : ℕ) → i < unknown_count st → Unknown st 96 i (component_of st i)
  component_of_lem i h =
      let x = exists st i 96 h in
      let e : component_of st i ≡ x.0 = found st i 0 96 x.0 (omega arith) (record { below = let b = x.1.below in omega arith; is = x.1.is; numbered = x.1.numbered }) in
      subst (Unknown st 96 i) (sym e) x.1

  -- beyond them there is none
  pub component_beyond : (i : ℕ) → unknown_count st ≤ i → component_of st i ≡ 96
  component_beyond i h = lost st i 0 96 (λ p u. omega (arith, number_below st p 96 (let b = u.below in omega arith) u.is, u.numbered))
