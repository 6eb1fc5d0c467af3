-- Sizes of N and u of records by the rules; document 01's refusal 9 never comes of them. Assumes nothing.
use Rattle.std.specs.Prelude.{ℕ, ◌≤◌, ◌^◌, ◌≡◌, true, List}
use Rattle.std.proofs.Common.{sym, le_trans, lit≤}
use Rattle.std.proofs.Math.Path.{subst}
use borrow.Author.Tests.{le-leb}
use Rattle.std.proofs.Math.IntN.{nat_abs}
use Rattle.integers.specs.Sums.{sum, sum_n, abs-sum, abs-sum-const, sum_n_mono, sum_n-const, sum_n-swap}
use Rattle.words.specs.Bools.{and_both}
use Rattle.lists.specs.All.{all_by}
use Rattle.network.specs.Records.{record_at}
use Rattle.network.specs.declared.Network.{Network}
use Rattle.network.specs.declared.Place.{Place}
use Rattle.normals.specs.Formulas.{share_n, entry_n, entry_u, entries_fit}
use Rattle.normals.specs.ByRules.{ByRules, record_sound}
use Rattle.normals.specs.ShareSizes.{share_entry, share_row, share_all, share_u_lem}

-- At most one entry of a column of a record's A is not 0, it is ±1, and weights are at most 10,000 in size: 10,000 an entry of its share, 60,000 a row of it,
-- 360,000 all of it; misclosures are at most 100,000 in size, and three of them meet in an entry of its share of u. There are 256 places
module _ (net : Network) (places : List Place) (g : ByRules net places) where
  abbrev size : ℕ → ℕ → ℕ → ℕ
  size p i j = nat_abs (share_n net.stations (record_at places p) i j)

  pub N_entry : (i j : ℕ) → nat_abs (entry_n net.stations places i j) ≤ 2560000
  unfolding entry_n
  N_entry i j = abs-sum-const 256 _ 10000 (λ p h. share_entry net.stations (record_at places p) (record_sound net places g p h) i j)

  -- the sizes in the first n columns of row i, by places
  row_by_places : (n i : ℕ) → sum_n n (λ j. nat_abs (entry_n net.stations places i j)) ≤ sum_n 256 (λ p. sum_n n (size p i))
  unfolding entry_n
  row_by_places n i =
      subst (λ (m : ℕ). sum_n n (λ j. nat_abs (sum 256 (λ p. share_n net.stations (record_at places p) i j))) ≤ m) (sum_n-swap n 256 (λ j p. size p i j))
      (sum_n_mono n (λ j h. abs-sum 256 (λ p. share_n net.stations (record_at places p) i j)))

  -- a row
  pub N_row : (n i : ℕ) → sum_n n (λ j. nat_abs (entry_n net.stations places i j)) ≤ 15360000
  N_row n i =
      le_trans (row_by_places n i)
      (sum_n-const 256 {f = λ p. sum_n n (size p i)} 60000 (λ p h. share_row net.stations (record_at places p) (record_sound net places g p h) n i))

  -- all of N
  pub N_all : (n : ℕ) → sum_n n (λ i. sum_n n (λ j. nat_abs (entry_n net.stations places i j))) ≤ 92160000
  N_all n =
      le_trans (sum_n_mono n (λ i o. row_by_places n i))
      (subst (λ (m : ℕ). m ≤ 92160000) (sym (sum_n-swap n 256 (λ i p. sum_n n (size p i))))
      (sum_n-const 256 {f = λ p. sum_n n (λ i. sum_n n (size p i))} 360000 (λ p h. share_all net.stations (record_at places p) (record_sound net places g p h) n)))

  pub u_entry : (i : ℕ) → nat_abs (entry_u net.stations places i) ≤ 768000000000
  unfolding entry_u
  u_entry i = abs-sum-const 256 _ 3000000000 (λ p h. share_u_lem net.stations (record_at places p) (record_sound net places g p h) i)

  -- refusal 9 never comes of N or u
  pub never_9 : entries_fit net.stations places ≡ true
  unfolding entries_fit
  never_9 =
      all_by 48 _ (λ i h.
      and_both _ _
      (all_by 48 _ (λ j k. le-leb (nat_abs (entry_n net.stations places i j)) (2 ^ 62) (le_trans (N_entry i j) (lit≤ tt))))
      (le-leb (nat_abs (entry_u net.stations places i)) (2 ^ 62) (le_trans (u_entry i) (lit≤ tt))))
