-- What the rules give: all that later crates use of them, so that a new rule or a new kind of record changes nothing above. Assumes nothing.
use Rattle.std.specs.Prelude.{ℕ, zero, suc, ◌<◌, ◌≤◌, ◌≡◌, refl, Bool, true, false, cond, List, [], ◌∷◌, ◌⊎◌, eqb, leb, length, get_or, ℤ, pos, negsuc, nat_abs}
use Rattle.std.proofs.Common.{zero-le, sym, ap, ◌∙◌, subst, inr, arith, lit≤}
use Rattle.std.proofs.Math.Bool.{not}
use Rattle.std.proofs.Math.Logic.{inl}
use borrow.Author.Tests.{leb-true, eqb-true, eq-eqb, not-true}
use Rattle.std.proofs.Math.Dec.{lit<}
use Rattle.std.specs.Int.Signed.{le_z}
use Rattle.integers.specs.Tables.{Within, within-inside, within-tabulate}
use Rattle.words.specs.Bools.{clash, true_or_false, and_left, and_right}
use Rattle.words.specs.Signed.{index_in, eq_z}
use Rattle.words.specs.SignedLaws.{index_suc, index_number, eq_z_false}
use Rattle.lists.specs.Sizes.{small_at}
use Rattle.lists.specs.All.{all_at, Each, each}
use Rattle.weights.specs.Rules.{matrix_fits}
use Rattle.weights.specs.Ranges.{Weight, WeightsRange}
use Rattle.weights.specs.Positive.{PositiveMatrix, positive_matrix}
use Rattle.weights.specs.Determinants.{weight_some}
use Rattle.weights.specs.declared.WeightMatrix.{WeightMatrix}
use Rattle.network.specs.Ranges.{baseline_range, height_range, position_range, weights-small}
use Rattle.network.specs.Stations.{coordinates, coordinate, unknown_count, count_fits, coordinates_fit, unknowns_fit, blank_beyond, network_fits}
use Rattle.network.specs.Records.{weight_matrix_of, from_of, to_of, joins, weights, misclosure_in, misclosures, l, observations, acts_of, acts, is_empty}
use Rattle.network.specs.RecordLaws.{Observed}
use Rattle.network.specs.Rules.{in_list, ends_fit, record_ends_fit, in_range, record_matrix_fits, misclosure_fits, record_no_over, record_no, record_fits_over, record_fits}
use Rattle.network.specs.declared.Station.{Station}
use Rattle.network.specs.declared.Network.{Network}
use Rattle.network.specs.declared.Record.{Record}
use Rattle.network.specs.declared.Record.TheVariants.{Empty, Baseline as baseline, Height as height, Position as position}

-- ════ stations
-- a station list by the rules
pub record SoundStations (stations : List Station) : Type 0 where
  pub provisional : Within 96 500000000 (coordinates stations)
  pub some : 1 ≤ unknown_count stations
  pub few : unknown_count stations ≤ 48

-- the provisional coordinates are in range: each of the 96, and every entry of their table
pub coordinate-small : (stations : List Station) → coordinates_fit stations ≡ true → (q : ℕ) → q < 96 → nat_abs (coordinate stations q) ≤ 500000000
unfolding coordinates_fit
coordinate-small stations e q h = leb-true (nat_abs (coordinate stations q)) 500000000 (all_at 96 _ q e h)

pub provisional_within : (stations : List Station) → coordinates_fit stations ≡ true → Within 96 500000000 (coordinates stations)
provisional_within stations e = within-tabulate 96 500000000 (coordinate stations) (coordinate-small stations e)

module _ (net : Network) (e : network_fits net ≡ true) where
  tests : Each (count_fits net.count ∷ blank_beyond net ∷ coordinates_fit net.stations ∷ unknowns_fit net.stations ∷ [])
  unfolding network_fits
  tests = each (count_fits net.count ∷ blank_beyond net ∷ coordinates_fit net.stations ∷ unknowns_fit net.stations ∷ []) e

  pub network_few : net.count ≤ 32
  network_few = leb-true net.count 32 (and_right (leb 1 net.count) (leb net.count 32) tests.0)

  pub network-coordinates : coordinates_fit net.stations ≡ true
  network-coordinates = tests.1.1.0

  pub sound-stations : SoundStations net.stations
  unfolding unknowns_fit
  sound-stations =
      let n = unknown_count net.stations in
      let u = tests.1.1.1.0 in
      record {
        provisional = provisional_within net.stations network-coordinates;
        some = leb-true 1 n (and_left (leb 1 n) (leb n 48) u);
        few = leb-true n 48 (and_right (leb 1 n) (leb n 48) u);
      }

-- ════ the tests that a record not refused has passed
pub record RecordPassed (count : ℕ) (c : List ℤ) (r : Record) : Type 0 where
  pub ends : record_ends_fit count r ≡ true
  pub range : in_range r ≡ true
  pub matrix : record_matrix_fits r ≡ true
  pub closes : misclosure_fits c r ≡ true

not_refused : (b : Bool) (m k : ℕ) → cond b m (suc k) ≡ 0 → (b ≡ true) × (m ≡ 0)
not_refused true m k e = (refl, e)
not_refused false m k e = absurd (let z : suc k ≡ 0 = e in omega arith)

record_passed : (count : ℕ) (c : List ℤ) (r : Record) → record_no_over count c r ≡ 0 → RecordPassed count c r
unfolding record_no_over
record_passed count c r e =
    let x = not_refused (record_ends_fit count r) _ 2 e in
    let y = not_refused (in_range r) _ 3 x.1 in
    let z = not_refused (record_matrix_fits r) _ 4 y.1 in
    record { ends = x.0; range = y.0; matrix = z.0; closes = (not_refused (misclosure_fits c r) 0 5 z.1).0 }

-- ════ the ends of a record that is not refused
pub in_list_lem : (count : ℕ) (v : ℤ) → count ≤ 32 → in_list count v ≡ true → index_in v 32 < count
in_list_lem count (pos zero) h e = clash e refl
in_list_lem count (pos (suc k)) h e =
    let p : suc k ≤ count = leb-true (suc k) count (and_right (le_z (pos 1) (pos (suc k))) (le_z (pos (suc k)) (pos count)) e) in
    let q : k < 32 = omega arith in
    rw (index_suc k 32 q) p
in_list_lem count (negsuc k) h e = clash e refl

module _ (count : ℕ) (from to : ℤ) (few : count ≤ 32) (e : ends_fit count from to ≡ true) where
  pub ends_each : Each (in_list count from ∷ in_list count to ∷ not (eq_z from to) ∷ [])
  unfolding ends_fit
  ends_each = each (in_list count from ∷ in_list count to ∷ not (eq_z from to) ∷ []) e

  pub from_in_list : index_in from 32 < 32
  from_in_list = let h = in_list_lem count from few ends_each.0 in omega arith

  pub to-in_list : index_in to 32 < 32
  to-in_list = let h = in_list_lem count to few ends_each.1.0 in omega arith

  pub ends_apart : index_in from 32 ≡ index_in to 32 → ⊥
  ends_apart q =
      eq_z_false from to (not-true (eq_z from to) ends_each.1.1.0)
      (index_number from 32 from_in_list ∙ ap (λ (k : ℕ). pos (suc k)) q ∙ sym (index_number to 32 to-in_list))

-- they are in the list, and apart where the record joins two
pub record EndsListed (count : ℕ) (r : Record) : Type 0 where
  pub from : from_of r < count
  pub to : to_of r < count
  pub apart : (joins r ≡ pos 0) ⊎ (from_of r ≡ to_of r → ⊥)

pub ends_listed : (count : ℕ) (r : Record) → count ≤ 32 → record_ends_fit count r ≡ true → EndsListed count r
unfolding record_ends_fit from_of to_of joins
ends_listed count Empty few e = clash e refl
ends_listed count (baseline b) few e =
    let t = ends_each count b.from b.to few e in
    record { from = in_list_lem count b.from few t.0; to = in_list_lem count b.to few t.1.0; apart = inr (ends_apart count b.from b.to few e) }
ends_listed count (height h) few e =
    let t = ends_each count h.from h.to few e in
    record { from = in_list_lem count h.from few t.0; to = in_list_lem count h.to few t.1.0; apart = inr (ends_apart count h.from h.to few e) }
ends_listed count (position p) few e = let l = in_list_lem count p.station few e in record { from = l; to = l; apart = inl refl }

-- ════ a record by the rules
pub record SoundRecord (stations : List Station) (r : Record) : Type 0 where
  pub from : from_of r < 32
  pub to : to_of r < 32
  pub apart : (joins r ≡ pos 0) ⊎ (from_of r ≡ to_of r → ⊥)
  pub values : in_range r ≡ true
  pub weight : (k : ℕ) → nat_abs (get_or (weights r) k (pos 0)) ≤ 10000
  pub misclosure : (a : ℕ) → nat_abs (l stations r a) ≤ 100000

-- what the code of misclosures asks, of a record whose misclosures are not judged yet
pub judged-observed : (count : ℕ) (c : List ℤ) → count ≤ 32 → Within 96 500000000 c → (r : Record) → record_ends_fit count r ≡ true → in_range r ≡ true → Observed c r
judged-observed count c few w r e g =
    let l = ends_listed count r few e in
    let f = l.from in
    let t = l.to in
    record { from = omega arith; to = omega arith; values = g; provisional = w }

misclosures-length : (c : List ℤ) (r : Record) → length (misclosures c r) ≡ 3
unfolding misclosures
misclosures-length c r = refl

closes_within : (c : List ℤ) (r : Record) → misclosure_fits c r ≡ true → Within 3 100000 (misclosures c r)
unfolding misclosure_fits
closes_within c r e =
    within-inside 3 100000 (misclosures c r) (misclosures-length c r)
    (λ a h. leb-true (nat_abs (get_or (misclosures c r) a (pos 0))) 100000 (all_at 3 _ a e h))

module _ (net : Network) (few : net.count ≤ 32) where
  sound_empty : SoundRecord net.stations Empty
  unfolding from_of to_of joins in_range weights misclosures misclosure_in acts acts_of observations
  sound_empty =
      record {
        from = lit< tt;
        to = lit< tt;
        apart = inl refl;
        values = refl;
        weight = small_at 10000 (weights Empty) (zero-le, (zero-le, (zero-le, (zero-le, (zero-le, (zero-le, (zero-le, (zero-le, (zero-le, tt)))))))));
        misclosure = small_at 100000 (misclosures (coordinates net.stations) Empty) (zero-le, (zero-le, (zero-le, tt)));
      }

  sound-passed : (r : Record) → RecordPassed net.count (coordinates net.stations) r → SoundRecord net.stations r
  unfolding weights
  sound-passed r g =
      let l = ends_listed net.count r few g.ends in
      let f = l.from in
      let t = l.to in
      let m = weights-small r g.range in
      record {
        from = omega arith;
        to = omega arith;
        apart = l.apart;
        values = g.range;
        weight = small_at 10000 (weights r) (m.ee, (m.en, (m.eu, (m.en, (m.nn, (m.nu, (m.eu, (m.nu, (m.uu, tt)))))))));
        misclosure = (closes_within (coordinates net.stations) r g.closes).bound;
      }

-- ════ the facade
pub fits_empty : (net : Network) → record_fits net Empty ≡ true
unfolding record_fits record_fits_over is_empty observations
fits_empty net = refl

pub accepted-fits : (net : Network) (r : Record) → record_no net r ≡ 0 → record_fits net r ≡ true
unfolding record_fits record_fits_over record_no
accepted-fits net r e = go (is_empty r)
  where
    go : (b : Bool) → cond b true (eqb (record_no net r) 0) ≡ true
    go true = refl
    go false = eq-eqb (record_no net r) 0 e

pub filled-accepted : (net : Network) (r : Record) → record_fits net r ≡ true → is_empty r ≡ false → record_no net r ≡ 0
unfolding record_fits record_fits_over record_no
filled-accepted net r e f = eqb-true (record_no net r) 0 (go (is_empty r) f e)
  where
    go : (b : Bool) → b ≡ false → cond b true (eqb (record_no net r) 0) ≡ true → eqb (record_no net r) 0 ≡ true
    go true p q = clash refl p
    go false p q = q

pub empty_is : (r : Record) → is_empty r ≡ true → r ≡ Empty
unfolding is_empty observations
empty_is Empty e = refl
empty_is (baseline b) e = clash refl (sym e)
empty_is (height h) e = clash refl (sym e)
empty_is (position p) e = clash refl (sym e)

refused_empty : (net : Network) → record_no net Empty ≡ 3
unfolding record_no record_no_over record_ends_fit
refused_empty net = refl

pub accepted-filled : (net : Network) (r : Record) → record_no net r ≡ 0 → is_empty r ≡ false
accepted-filled net r e = go (true_or_false (is_empty r))
  where
    go : (is_empty r ≡ true) ⊎ (is_empty r ≡ false) → is_empty r ≡ false
    go (inl t) = let z : ◌≡◌ {A = ℕ} 3 0 = sym (refused_empty net) ∙ ap (record_no net) (sym (empty_is r t)) ∙ e in absurd (omega arith)
    go (inr f) = f

-- the numbers are 0 and 3 to 6
pick : (b : Bool) (m n : ℕ) → m ≤ 6 → n ≤ 6 → cond b m n ≤ 6
pick true m n p q = p
pick false m n p q = q

pub record_no-small : (net : Network) (r : Record) → record_no net r ≤ 6
unfolding record_no record_no_over
record_no-small net r =
    pick (record_ends_fit net.count r) _ 3
    (pick (in_range r) _ 4 (pick (record_matrix_fits r) _ 5 (pick (misclosure_fits (coordinates net.stations) r) 0 6 zero-le (lit≤ tt)) (lit≤ tt)) (lit≤ tt))
    (lit≤ tt)

pub fits-passed : (net : Network) (r : Record) → record_fits net r ≡ true → is_empty r ≡ false → RecordPassed net.count (coordinates net.stations) r
unfolding record_no
fits-passed net r e f = record_passed net.count (coordinates net.stations) r (filled-accepted net r e f)

pub sound_record : (net : Network) (r : Record) → network_fits net ≡ true → record_fits net r ≡ true → SoundRecord net.stations r
sound_record net r n e = go (true_or_false (is_empty r))
  where
    few : net.count ≤ 32
    few = network_few net n

    go : (is_empty r ≡ true) ⊎ (is_empty r ≡ false) → SoundRecord net.stations r
    go (inl t) = subst (SoundRecord net.stations) (sym (empty_is r t)) (sound_empty net few)
    go (inr f) = sound-passed net few r (fits-passed net r e f)

-- ════ the weights of a record by the rules, by the number of components that it observes: none, one weight at U, or a matrix
abbrev pub WeightsByRules : ℕ → WeightMatrix → Type 0
WeightsByRules zero m = Unit {0}
WeightsByRules (suc zero) m = Weight m.uu
WeightsByRules (suc (suc n)) m = WeightsRange m × PositiveMatrix m

matrix_by_rules : (m : WeightMatrix) → WeightsRange m → matrix_fits m ≡ true → WeightsRange m × PositiveMatrix m
matrix_by_rules m v e = (v, positive_matrix m (weight_some v.nn) e)

pub weights_by_rules : (net : Network) (r : Record) → record_fits net r ≡ true → WeightsByRules (observations r) (weight_matrix_of r)
unfolding observations is_empty in_range record_matrix_fits
weights_by_rules net Empty e = tt
weights_by_rules net (baseline b) e = let g = fits-passed net (baseline b) e refl in matrix_by_rules (weight_matrix_of (baseline b)) (baseline_range b g.range).weights g.matrix
weights_by_rules net (height h) e = (height_range h (fits-passed net (height h) e refl).range).weight
weights_by_rules net (position p) e = let g = fits-passed net (position p) e refl in matrix_by_rules (weight_matrix_of (position p)) (position_range p g.range).weights g.matrix
