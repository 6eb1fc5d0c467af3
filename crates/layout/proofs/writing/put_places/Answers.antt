-- `put_places` puts the places. The loop's invariant: those passed stand in their order. Assumes nothing.
use Prim.Native.Nat.{◌*◌}
use mathlib.Core.Path.{◌≡◌, refl, ◌∙◌}
use native.Mathlib.Omega.{arith}
use Rattle.network.specs.Records.{record_at}
use Rattle.network.specs.RecordWords.{record_words, record_length}
use Rattle.network.specs.RecordWordLaws.{length_record}
use Rattle.layout.proofs.Parts.{parts_none, parts_more}
use Rattle.layout.specs.Layout.{places_start}
use Rattle.layout.proofs.writing.put_places.Goals as goal

pub loop-p-init : goal.loop-p-init
loop-p-init c = (parts_none _ (8 * places_start) _, refl)

pub loop-p-preserved : goal.loop-p-preserved
loop-p-preserved c = (
  parts_more c.args.s.now c.loop-p.s _ (8 * places_start) record_length c.loop-p.p _ (λ q. record_words (record_at c.args.places q)) (λ i. length_record _) (omega arith) c.loop-p.invariant.0 c.put_record.ensures,
  c.put_record.auto.s ∙ c.loop-p.invariant.1,
)

pub returns : goal.returns
returns c = let e : c.loop-p.p ≡ 256 = omega arith in rw e at c.loop-p.invariant.0
