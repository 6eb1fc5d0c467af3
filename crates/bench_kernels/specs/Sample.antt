-- A full network to be timed: one known and 16 free stations, 48 unknowns, 256 baselines; its records are by the rules. Assumes nothing.
use Rattle.std.specs.Prelude.{ℕ, ◌+◌, ◌-◌, ◌*◌, ◌/◌, ◌%◌, ◌<◌, ◌≤◌, ◌≡◌, Bool, true, cond, ◌&&◌, List, ◌∷◌, ◌++◌, ltb, replicate, ℤ, negsuc, nat_abs, ◌-ℤ◌, ◌*ℤ◌}
use Rattle.std.proofs.Math.Path.{refl}
use Rattle.std.proofs.Common.{sym, ap, ◌∙◌, subst, arith}
use Rattle.std.proofs.Math.Dec.{leb}
use Rattle.std.proofs.Math.ListN.{get_or}
use Rattle.std.proofs.Math.IntN.{pos}
use borrow.Author.Tests.{lt-ltb, le-ltb, le-leb, leb-true}
use Rattle.integers.specs.Bounds.{bounds, absle}
use Rattle.integers.specs.Tables.{tabulate, get_d_tabulate, Within, within-tabulate}
use Rattle.words.specs.Bools.{and_left, and_right, and_both}
use Rattle.lists.specs.All.{all_below, all_at}
use Rattle.network.specs.Stations.{network_fits, blank_beyond, coordinates_fit, unknowns_fit, is_blank, is_known, coordinate, coordinate_in, coordinates, unknown, unknown_in, number}
use Rattle.network.specs.Records.{weight_matrix_of, vacant, observations, acts_of, acts, from_of, to_of, joins, reduced_up, reduced, misclosure_at, misclosure_in, misclosures}
use Rattle.weights.specs.Rules.{weights_in_range, matrix_fits, minors_positive, adjugate_fits}
use Rattle.network.specs.Rules.{record_fits, record_no, record_no_over, record_ends_fit, in_range, record_matrix_fits, ends_fit, up_in_range, baseline_in_range, misclosure_fits}
use Rattle.network.specs.RecordLaws.{no_heights}
use Rattle.network.specs.RuleLaws.{accepted-fits}
use Rattle.network.specs.declared.Kind.{Kind}
use Rattle.network.specs.declared.Kind.TheVariants.{Known, Free}
use Rattle.network.specs.declared.Station.{Station}
use Rattle.network.specs.declared.Network.{Network}
use Rattle.network.specs.declared.Baseline.{Baseline}
use Rattle.network.specs.declared.Record.{Record}
use Rattle.network.specs.declared.Record.TheVariants.{Baseline as baseline}
use Rattle.network.specs.declared.Place.{Place}
use Rattle.normals.specs.declared.Normals.{Normals}
use Rattle.normals.specs.ByRules.{ByRules}

abbrev pub sample_station : Kind → Station
sample_station k = record { kind = k; east = pos 0; north = pos 0; up = pos 0 }

unfoldable pub sample_network : Network
sample_network = record { count = 17; stations = sample_station Known ∷ (replicate 16 (sample_station Free) ++ replicate 15 (sample_station Known)) }

-- the 17 stations in turn, each joined to the others in turn
unfoldable pub sample_baseline : ℕ → Baseline
sample_baseline p =
    record {
      from = pos (p % 17 + 1);
      to = pos ((p % 17 + 1 + p / 17) % 17 + 1);
      east = pos p;
      north = pos p;
      up = pos p;
      ee = pos 100;
      en = pos 10;
      eu = negsuc 9;
      nn = pos 100;
      nu = pos 10;
      uu = pos 100;
      hf = pos 0;
      ht = pos 0;
    }

abbrev pub sample_record : ℕ → Record
sample_record p = baseline (sample_baseline p)

abbrev pub sample_place : ℕ → Place
sample_place p = record { entry = sample_record p }

abbrev pub sample_places : List Place
sample_places = tabulate 256 sample_place

-- entry k of N by rows of 48, then of u; 0 beyond
abbrev pub entry_at : Normals → ℕ → ℤ
entry_at x k = cond (ltb k 2304) (get_or x.matrix k (pos 0)) (get_or x.right (k - 2304) (pos 0))

pub entry_matrix : (x : Normals) (k : ℕ) → k < 2304 → entry_at x k ≡ get_or x.matrix k (pos 0)
entry_matrix x k h = rw (lt-ltb k 2304 h)

pub entry_right : (x : Normals) (k : ℕ) → 2304 ≤ k → entry_at x k ≡ get_or x.right (k - 2304) (pos 0)
entry_right x k h = rw (le-ltb k 2304 h)

-- ════ by the rules
network-fits : network_fits sample_network ≡ true
unfolding network_fits blank_beyond coordinates_fit unknowns_fit all_below is_blank is_known coordinate coordinate_in unknown unknown_in number Rattle.integers.specs.Sums.sum_n sample_network
network-fits = refl

abbrev tests : ℕ → Bool
tests p = ends_fit 17 (sample_baseline p).from (sample_baseline p).to && (baseline_in_range (sample_baseline p) && matrix_fits (weight_matrix_of (baseline (sample_baseline p))))

tests-pass : all_below 256 tests ≡ true
unfolding all_below ends_fit up_in_range reduced_up baseline_in_range weights_in_range matrix_fits minors_positive adjugate_fits sample_baseline
tests-pass = refl

at-origin : all_below 96 (λ q. leb (nat_abs (coordinate sample_network.stations q)) 0) ≡ true
unfolding all_below coordinate coordinate_in sample_network
at-origin = refl

origin : Within 96 0 (coordinates sample_network.stations)
origin = within-tabulate 96 0 (coordinate sample_network.stations) (λ q h. leb-true (nat_abs (coordinate sample_network.stations q)) 0 (all_at 96 _ q at-origin h))

passes : (w x y z : Bool) → w ≡ true → x ≡ true → y ≡ true → z ≡ true → ◌≡◌ {A = ℕ} (cond w (cond x (cond y (cond z 0 6) 5) 4) 3) 0
passes w x y z e f g h = rw (e, f, g, h)

module _ (p : ℕ) (h : p < 256) where
  small : (c : List ℤ) (f t a : ℕ) → Within 96 0 c → leb (nat_abs (misclosure_at c f t (pos 1) a (pos p))) 100000 ≡ true
  unfolding misclosure_at
  small c f t a w =
      let x = w.bound (t * 3 + a) in
      let y = w.bound (f * 3 + a) in
      le-leb _ _ (absle (pos p -ℤ (get_or c (t * 3 + a) (pos 0) -ℤ pos 1 *ℤ get_or c (f * 3 + a) (pos 0))) (search bounds) (omega arith))

  -- both heights are 0
  up_is : reduced_up (sample_baseline p) ≡ pos p
  unfolding sample_baseline
  up_is = no_heights (sample_baseline p) refl refl

  closes : misclosure_fits (coordinates sample_network.stations) (baseline (sample_baseline p)) ≡ true
  unfolding misclosure_fits all_below misclosures misclosure_in acts acts_of observations joins reduced sample_baseline
  closes =
      let c = coordinates sample_network.stations in
      let f = from_of (baseline (sample_baseline p)) in
      let t = to_of (baseline (sample_baseline p)) in
      and_both _ _ (and_both _ _ (small c f t 0 origin) (small c f t 1 origin)) (subst (λ (z : ℤ). leb (nat_abs (misclosure_at c f t (pos 1) 2 z)) 100000 ≡ true) (sym up_is) (small c f t 2 origin))

  accepted : record_no sample_network (baseline (sample_baseline p)) ≡ 0
  unfolding record_no record_no_over record_ends_fit in_range record_matrix_fits observations sample_network
  accepted =
      let b = sample_baseline p in
      let e = ends_fit 17 b.from b.to in
      let t = all_at 256 tests p tests-pass h in
      let u = and_right e (baseline_in_range b && matrix_fits (weight_matrix_of (baseline b))) t in
      passes e (baseline_in_range b) (matrix_fits (weight_matrix_of (baseline b))) _
      (and_left e (baseline_in_range b && matrix_fits (weight_matrix_of (baseline b))) t) (and_left (baseline_in_range b) (matrix_fits (weight_matrix_of (baseline b))) u) (and_right (baseline_in_range b) (matrix_fits (weight_matrix_of (baseline b))) u) closes

pub sample_sound : ByRules sample_network sample_places
sample_sound =
    record {
      network = network-fits;
      each = λ p h. ap (λ (x : Place). record_fits sample_network x.entry) (get_d_tabulate 256 sample_place p vacant h) ∙ accepted-fits sample_network (baseline (sample_baseline p)) (accepted p h);
    }
