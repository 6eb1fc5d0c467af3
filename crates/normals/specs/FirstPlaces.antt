-- N and u of the records in the first places, and of one more: what the code from scratch holds on its way. Assumes nothing.
use Rattle.std.specs.Prelude.{ℕ, ◌+◌, ◌/◌, ◌%◌, ◌<◌, ◌≤◌, ◌^◌, ◌≡◌, List, replicate, ℤ, pos, ◌+ℤ◌}
use Rattle.std.proofs.Math.Path.{refl, ap}
use Rattle.std.proofs.Common.{sym, ◌∙◌, arith}
use Rattle.std.proofs.Math.Nat.{le_trans, mul-le-mul_right}
use Rattle.std.proofs.lemmas.List.{length-replicate, get_or-replicate}
use Rattle.integers.specs.Sums.{sum, sum-+1, sum_zero, abs-sum-const}
use Rattle.integers.specs.Tables.{tabulate, is-tabulate, plus, plus-tabulate, Within, within-tabulate}
use Rattle.network.specs.Records.{record_at}
use Rattle.network.specs.RuleLaws.{SoundRecord, sound-stations}
use Rattle.network.specs.declared.Network.{Network}
use Rattle.network.specs.declared.Station.{Station}
use Rattle.network.specs.declared.Place.{Place}
use Rattle.normals.specs.Formulas.{share_n, share_u}
use Rattle.normals.specs.ByRules.{ByRules, record_sound}
use Rattle.normals.specs.Equations.{EquationInRange, block_n, block_u}
use Rattle.normals.specs.Shares.{equation, block_share, block_right, equation-fits}
use Rattle.normals.specs.ShareSizes.{share_entry, share_u_lem}

-- over the first m places
unfoldable pub first_n : List Station → List Place → ℕ → List ℤ
first_n st places m = tabulate 2304 (λ k. sum m (λ p. share_n st (record_at places p) (k / 48) (k % 48)))

unfoldable pub first_u : List Station → List Place → ℕ → List ℤ
first_u st places m = tabulate 48 (λ k. sum m (λ p. share_u st (record_at places p) k))

pub zeros-tabulate : (n m : ℕ) (f : ℕ → ℤ) → m ≡ n → ((k : ℕ) → k < n → f k ≡ pos 0) → replicate m (pos 0) ≡ tabulate n f
zeros-tabulate n m f e h = is-tabulate n f (replicate m (pos 0)) (pos 0) (length-replicate m (pos 0) ∙ e) (λ k l. get_or-replicate m k (pos 0) (pos 0) (omega arith) ∙ sym (h k l))

module _ (st : List Station) (places : List Place) where
  pub first_n_0 : replicate 2304 (pos 0) ≡ first_n st places 0
  unfolding first_n
  first_n_0 = zeros-tabulate 2304 2304 _ refl (λ k l. sum_zero _)

  pub first_u_0 : replicate 48 (pos 0) ≡ first_u st places 0
  unfolding first_u
  first_u_0 = zeros-tabulate 48 48 _ refl (λ k l. sum_zero _)

module _ (net : Network) (places : List Place) (g : ByRules net places) where
  rules : (p : ℕ) → p < 256 → SoundRecord net.stations (record_at places p)
  rules = record_sound net places g

  module _ (m : ℕ) (h : m < 256) where
    pub fits-at : EquationInRange (equation net.stations (record_at places m))
    fits-at = equation-fits net.stations (sound-stations net g.network) (record_at places m) (rules m h)

    pub first_n-more : plus 2304 (first_n net.stations places m) (pos 1) (block_n (equation net.stations (record_at places m))) ≡ first_n net.stations places (m + 1)
    unfolding first_n
    first_n-more =
        plus-tabulate 2304 _ _ _ (λ k l. sum-+1 m _ ∙ ap (λ (z : ℤ). sum m (λ p. share_n net.stations (record_at places p) (k / 48) (k % 48)) +ℤ z)
        (sym (block_share net.stations (record_at places m) (rules m h).from (rules m h).to fits-at k)))

    pub first_u-more : plus 48 (first_u net.stations places m) (pos 1) (block_u (equation net.stations (record_at places m))) ≡ first_u net.stations places (m + 1)
    unfolding first_u
    first_u-more =
        plus-tabulate 48 _ _ _ (λ k l. sum-+1 m _ ∙ ap (λ (z : ℤ). sum m (λ p. share_u net.stations (record_at places p) k) +ℤ z)
        (sym (block_right net.stations (record_at places m) (rules m h).from (rules m h).to k)))

  -- sizes that keep the code from wrapping
  module _ (m : ℕ) (h : m ≤ 256) where
    pub within-first_n : Within 2304 (2 ^ 40) (first_n net.stations places m)
    unfolding first_n
    within-first_n =
        within-tabulate 2304 (2 ^ 40) _ (λ k l. le_trans
        (abs-sum-const m _ 10000 (λ p o. share_entry net.stations (record_at places p) (rules p (omega arith)) (k / 48) (k % 48)))
        (omega (arith, mul-le-mul_right 10000 h)))

    pub within-first_u : Within 48 (2 ^ 43) (first_u net.stations places m)
    unfolding first_u
    within-first_u =
        within-tabulate 48 (2 ^ 43) _ (λ k l. le_trans
        (abs-sum-const m _ 3000000000 (λ p o. share_u_lem net.stations (record_at places p) (rules p (omega arith)) k))
        (omega (arith, mul-le-mul_right 3000000000 h)))
