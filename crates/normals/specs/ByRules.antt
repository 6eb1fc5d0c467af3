-- Records by the rules: what every law and contract of this crate asks. Assumes nothing.
use Rattle.std.specs.Prelude.{ℕ, ◌<◌, ◌≡◌, true, List, set}
use Rattle.network.specs.Units.{place_count}
use Rattle.network.specs.Stations.{network_fits}
use Rattle.network.specs.Records.{record_at}
use Rattle.network.specs.Rules.{record_fits}
use Rattle.network.specs.RuleLaws.{SoundRecord, sound_record}
use Rattle.network.specs.declared.Network.{Network}
use Rattle.network.specs.declared.Record.{Record}
use Rattle.network.specs.declared.Place.{Place}

-- the network passes what opening tests, and each of the 256 places is empty or holds a record that is not refused
pub record ByRules (net : Network) (places : List Place) : Type 0 where
  pub network : network_fits net ≡ true
  pub each : (p : ℕ) → p < place_count → record_fits net (record_at places p) ≡ true

-- the record r put in place p
abbrev pub places_with : List Place → ℕ → Record → List Place
places_with places p r = set places p (record { entry = r })

module _ (net : Network) (places : List Place) (g : ByRules net places) where
  pub record_sound : (p : ℕ) → p < place_count → SoundRecord net.stations (record_at places p)
  record_sound p h = sound_record net (record_at places p) g.network (g.each p h)
