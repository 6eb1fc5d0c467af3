-- The misclosures are small (`misclosures-small`), so each is read back from its bits and its test is that of the definition (`closes`). Assumes nothing.
use Rattle.std.specs.Prelude.{◌≡◌, ◌&&◌, List, ℕ, ℤ, leb, get_or, pos, nat_abs}
use Rattle.std.proofs.Common.{ap, ap₂, ◌∙◌}
use Rattle.network.specs.declared.Record.{Record}
use Rattle.lists.specs.All.{all_below}
use Rattle.lists.specs.Stored.{stored, back}
use Rattle.network.specs.Records.{misclosures}
use Rattle.network.specs.RecordLaws.{Observed, misclosures-small}
use Rattle.network.specs.Rules.{misclosure_fits}
use Rattle.network.proofs.rules.misclosure_fits.Goals as goal

-- one component's test, of the misclosures m that the call gave
closes : (c m : List ℤ) (r : Record) (a n : ℕ) → m ≡ misclosures c r → Observed c r → n ≡ nat_abs (stored (get_or m a (pos 0)))
    → leb n 100000 ≡ leb (nat_abs (get_or (misclosures c r) a (pos 0))) 100000
closes c m r a n e o q =
    ap (λ k. leb k 100000) (q ∙ ap (λ (z : List ℤ). nat_abs (stored (get_or z a (pos 0)))) e
    ∙ ap nat_abs (back (get_or (misclosures c r) a (pos 0)) (misclosures-small c r o a) tt))

pub returns : goal.returns
unfolding misclosure_fits all_below
returns c =
    let one = closes c.args.coordinate.now c.misclosures_of.result c.args.r in
    ap₂ ◌&&◌ (ap₂ ◌&&◌
    (one 0 _ c.misclosures_of.ensures c.requires c.unsigned_abs.ensures.value)
    (one 1 _ c.misclosures_of.ensures c.requires c.unsigned_abs-2.ensures.value))
    (one 2 _ c.misclosures_of.ensures c.requires c.unsigned_abs-3.ensures.value)
