-- What the sheet's code asks: a network and records by the rules, corrections and M of the right lengths and within tests 3 and 4; and what that gives of its tables.
use Rattle.std.specs.Prelude.{ℕ, ◌*◌, ◌<◌, ◌≤◌, ◌^◌, ◌≡◌, true, List, ℤ, pos, ◌*ℤ◌}
use Rattle.std.proofs.Common.{arith}
use Rattle.std.proofs.Math.ListN.{get_or}
use Rattle.std.proofs.Math.IntN.{nat_abs}
use Rattle.integers.specs.Bounds.{bounds, absle}
use Rattle.integers.specs.Tables.{get_d_tabulate, Within, within-tabulate}
use Rattle.network.specs.Units.{most_components, most_unknowns, place_count}
use Rattle.network.specs.Stations.{unknown, number, unknown_index, unknown_count, coordinates, network_fits, unknown_table, index_table}
use Rattle.network.specs.StationLaws.{unknown-bit}
use Rattle.network.specs.Records.{record_at}
use Rattle.network.specs.Rules.{record_fits}
use Rattle.network.specs.RuleLaws.{SoundRecord, sound_record, sound-stations}
use Rattle.network.specs.declared.Network.{Network}
use Rattle.network.specs.declared.Place.{Place}
use Rattle.residuals.specs.Residuals.{correction}
use Rattle.residuals.specs.Components.{corrections_of, unknown_index_below, Closes, Lookup}

-- a network by the rules, with corrections of its unknowns
pub record Moved (net : Network) (x : List ℤ) : Type 0 where
  pub network : network_fits net ≡ true
  pub corrections : Within (unknown_count net.stations) 100000 x

-- its records by the rules
pub record Solved (net : Network) (places : List Place) (x : List ℤ) : Type 0 where
  pub moved : Moved net x
  pub records : (p : ℕ) → p < place_count → record_fits net (record_at places p) ≡ true

abbrev pub Inverse : Network → List ℤ → Type 0
Inverse net m = Within (unknown_count net.stations * unknown_count net.stations) (2 ^ 34) m

module _ {net : Network} {x : List ℤ} (g : Moved net x) where
  pub some_unknowns : 1 ≤ unknown_count net.stations
  some_unknowns = (sound-stations net g.network).some

  pub few_unknowns : unknown_count net.stations ≤ most_unknowns
  few_unknowns = (sound-stations net g.network).few

  pub corrections_within : Within most_components 100000 (corrections_of net.stations x)
  unfolding correction
  corrections_within =
      within-tabulate most_components 100000 (correction net.stations x) (λ q h.
      let a = unknown-bit net.stations q in let b = g.corrections.bound (number net.stations q) in
      let u : nat_abs (pos (unknown net.stations q)) ≤ 1 = a in
      absle (pos (unknown net.stations q) *ℤ get_or x (number net.stations q) (pos 0)) (search bounds) (omega arith))

  pub lookup : (m : List ℤ) → Inverse net m → Lookup (index_table net.stations) (unknown_table net.stations) m (unknown_count net.stations)
  lookup m w =
      record {
        below = λ q h. rw (get_d_tabulate most_components (unknown_index net.stations) q 0 h) (unknown_index_below net.stations q h some_unknowns);
        few = few_unknowns;
        bits = within-tabulate most_components 1 (λ q. pos (unknown net.stations q)) (λ q h. unknown-bit net.stations q);
        square = w.long;
        small = w.bound;
      }

module _ {net : Network} {places : List Place} {x : List ℤ} (g : Solved net places x) where
  pub sound-at : (p : ℕ) → p < place_count → SoundRecord net.stations (record_at places p)
  sound-at p h = sound_record net (record_at places p) g.moved.network (g.records p h)

  pub closes_at : (p : ℕ) → p < place_count → Closes (coordinates net.stations) (corrections_of net.stations x) (record_at places p)
  closes_at p h =
      let r = sound-at p h in
      record {
        observed = record { from = r.from; to = r.to; values = r.values; provisional = (sound-stations net g.moved.network).provisional };
        closes = r.misclosure;
        moved = corrections_within g.moved;
      }
