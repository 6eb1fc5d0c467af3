-- A record taken to the marks: of a baseline the one with heights 0 whose observed U difference is the reduced one. It joins, weighs and closes as the record itself, and is by the
-- rules where that is. Assumes nothing.
use Rattle.std.specs.Prelude.{ℕ, ◌≤◌, ◌≡◌, refl, true, List, [], ◌∷◌, ℤ, pos, nat_abs}
use Rattle.std.proofs.Common.{ap, le-leb}
use Rattle.words.specs.Bools.{and_both}
use Rattle.weights.specs.Rules.{matrix_rows, weights_in_range}
use Rattle.lists.specs.All.{each}
use Rattle.network.specs.Stations.{coordinates}
use Rattle.network.specs.Records.{weight_matrix_of, observations, is_empty, acts, from_of, to_of, joins, is_position, weights, reduced_up, reduced, misclosure_in, misclosures}
use Rattle.network.specs.RecordLaws.{no_heights}
use Rattle.network.specs.Rules.{observed_fits, up_in_range, baseline_in_range, record_ends_fit, in_range, record_matrix_fits, misclosure_fits, record_no_over, record_no}
use Rattle.network.specs.Ranges.{baseline_range}
use Rattle.network.specs.RuleLaws.{accepted-fits, fits-passed}
use Rattle.network.specs.declared.Network.{Network}
use Rattle.network.specs.declared.Baseline.{Baseline}
use Rattle.network.specs.declared.Record.{Record}
use Rattle.network.specs.declared.Record.TheVariants.{Empty, Baseline as baseline, Height as height, Position as position}

-- the baseline with heights 0 and the U difference u
abbrev with_up : Baseline → ℤ → Baseline
with_up b u =
    record {
      from = b.from;
      to = b.to;
      east = b.east;
      north = b.north;
      up = u;
      ee = b.ee;
      en = b.en;
      eu = b.eu;
      nn = b.nn;
      nu = b.nu;
      uu = b.uu;
      hf = pos 0;
      ht = pos 0;
    }

abbrev baseline_at_marks : Baseline → Baseline
baseline_at_marks b = with_up b (reduced_up b)

unfoldable pub at_marks : Record → Record
at_marks Empty = Empty
at_marks (baseline b) = baseline (baseline_at_marks b)
at_marks (height h) = height h
at_marks (position p) = position p

-- what is at the marks stays
pub marks_again : (r : Record) → at_marks (at_marks r) ≡ at_marks r
unfolding at_marks
marks_again Empty = refl
marks_again (baseline b) = ap (λ (u : ℤ). baseline (with_up b u)) (no_heights (baseline_at_marks b) refl refl)
marks_again (height h) = refl
marks_again (position p) = refl

-- ════ what a record says of the network
pub marks_observations : (r : Record) → observations (at_marks r) ≡ observations r
unfolding at_marks observations
marks_observations Empty = refl
marks_observations (baseline b) = refl
marks_observations (height h) = refl
marks_observations (position p) = refl

pub marks_from : (r : Record) → from_of (at_marks r) ≡ from_of r
unfolding at_marks from_of
marks_from Empty = refl
marks_from (baseline b) = refl
marks_from (height h) = refl
marks_from (position p) = refl

pub marks_to : (r : Record) → to_of (at_marks r) ≡ to_of r
unfolding at_marks to_of
marks_to Empty = refl
marks_to (baseline b) = refl
marks_to (height h) = refl
marks_to (position p) = refl

pub marks_position : (r : Record) → is_position (at_marks r) ≡ is_position r
unfolding at_marks is_position
marks_position Empty = refl
marks_position (baseline b) = refl
marks_position (height h) = refl
marks_position (position p) = refl

pub marks_joins : (r : Record) → joins (at_marks r) ≡ joins r
unfolding at_marks joins
marks_joins Empty = refl
marks_joins (baseline b) = refl
marks_joins (height h) = refl
marks_joins (position p) = refl

pub marks_matrix : (r : Record) → weight_matrix_of (at_marks r) ≡ weight_matrix_of r
unfolding at_marks
marks_matrix Empty = refl
marks_matrix (baseline b) = refl
marks_matrix (height h) = refl
marks_matrix (position p) = refl

pub marks_weights : (r : Record) → weights (at_marks r) ≡ weights r
unfolding weights
marks_weights r = ap matrix_rows (marks_matrix r)

pub marks_reduced : (r : Record) → reduced (at_marks r) ≡ reduced r
unfolding at_marks reduced
marks_reduced Empty = refl
marks_reduced (baseline b) = ap (λ (u : ℤ). b.east ∷ b.north ∷ u ∷ []) (no_heights (baseline_at_marks b) refl refl)
marks_reduced (height h) = refl
marks_reduced (position p) = refl

pub marks_acts : (a : ℕ) (r : Record) → acts a (at_marks r) ≡ acts a r
unfolding acts
marks_acts a r = rw (marks_observations r) refl

pub marks_misclosures : (c : List ℤ) (r : Record) → misclosures c (at_marks r) ≡ misclosures c r
unfolding misclosures misclosure_in
marks_misclosures c r = rw (marks_acts 0 r, marks_acts 1 r, marks_acts 2 r, marks_from r, marks_to r, marks_joins r, marks_reduced r) refl

-- ════ where the record is by the rules, so is this one
up_at_marks : (b : Baseline) → nat_abs (reduced_up b) ≤ 1000000000 → up_in_range (baseline_at_marks b) ≡ true
unfolding up_in_range
up_at_marks b h = rw (no_heights (baseline_at_marks b) refl refl, le-leb (nat_abs (reduced_up b)) 1000000000 h) refl

range_at_marks : (b : Baseline) → baseline_in_range b ≡ true → baseline_in_range (baseline_at_marks b) ≡ true
unfolding baseline_in_range
range_at_marks b e =
    let t = each (observed_fits b.east ∷ observed_fits b.north ∷ up_in_range b ∷ weights_in_range (weight_matrix_of (baseline b)) ∷ []) e in
    and_both _ _ (and_both _ _ (and_both _ _ t.0 t.1.0) (up_at_marks b (baseline_range b e).reduced)) t.1.1.1.0

closes_at_marks : (c : List ℤ) (r : Record) → misclosure_fits c r ≡ true → misclosure_fits c (at_marks r) ≡ true
unfolding misclosure_fits
closes_at_marks c r e = rw (marks_misclosures c r) e

baseline-accepted : (net : Network) (b : Baseline) → record_no net (baseline b) ≡ 0 → record_no net (baseline (baseline_at_marks b)) ≡ 0
unfolding record_no record_no_over record_ends_fit record_matrix_fits in_range observations is_empty at_marks
baseline-accepted net b e =
    let g = fits-passed net (baseline b) (accepted-fits net (baseline b) e) refl in
    rw (g.ends, range_at_marks b g.range, g.matrix, closes_at_marks (coordinates net.stations) (baseline b) g.closes) refl

pub marks_accepted : (net : Network) (r : Record) → record_no net r ≡ 0 → record_no net (at_marks r) ≡ 0
unfolding at_marks
marks_accepted net Empty e = e
marks_accepted net (baseline b) e = baseline-accepted net b e
marks_accepted net (height h) e = e
marks_accepted net (position p) e = e
