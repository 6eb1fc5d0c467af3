-- Refusal 9 never comes to an edit: N and u of records by the rules are far below 2^62. So the code needs no test for it. Assumes nothing.
use Prim.Native.Nat.{ℕ, zero, suc}
use Rattle.std.specs.Prelude.{◌≡◌, Bool, true}
use Rattle.std.proofs.Math.Path.{refl, sym, ap}
use Rattle.std.proofs.Common.{◌∙◌}
use Rattle.std.proofs.Math.Bool.{cond}
use Rattle.network.specs.Stations.{network_fits}
use Rattle.network.specs.Rules.{record_no, record_fits}
use Rattle.network.specs.RuleLaws.{accepted-fits}
use Rattle.network.specs.declared.Network.{Network}
use Rattle.network.specs.declared.Record.{Record}
use Rattle.normals.specs.Sizes.{never_9}
use Rattle.book.specs.Calls.{first, changed, places_of, size_no}
use Rattle.book.specs.PlaceLaws.{changed-each, places_of-at}

module _ (net : Network) (at : ℕ → Record) (g : network_fits net ≡ true) (each : (p : ℕ) → record_fits net (at p) ≡ true) where
  -- 9, of an enter: "an entry of N or u … beyond ±2^62"
  pub size_none : (p : ℕ) (r : Record) → record_fits net r ≡ true → size_no net at p r ≡ 0
  unfolding size_no
  size_none p r fits =
      ap (λ (b : Bool). cond b 0 9)
      (never_9 net (places_of (changed at p r))
      (record { network = g; each = λ k h. ap (record_fits net) (places_of-at (changed at p r) k h) ∙ changed-each (λ x. record_fits net x ≡ true) at p r k fits (each k) }))

  -- a record that is refused is refused before 9 is looked at
  pub untested : (p : ℕ) (r : Record) (m : ℕ) → record_no net r ≡ m → m ≡ first m (size_no net at p r)
  unfolding first
  untested p r zero e = sym (size_none p r (accepted-fits net r e))
  untested p r (suc m) e = refl
