-- `put_places` puts the places. The loop's invariant: those passed stand in their order. Assumes nothing.
use Prim.Native.Nat.{◌*◌}
use mathlib.Core.Path.{◌≡◌}
use lib.ListN.{length}
use Rattle.words.specs.Runs.{put_words}
use Rattle.words.specs.Concat.{concat_below}
use Rattle.network.specs.Records.{record_at}
use Rattle.network.specs.RecordWords.{record_words}
use Rattle.layout.specs.Layout.{places_start}
use Rattle.layout.proofs.writing.put_places.Given as goal

abbrev pub invariant-loop-p : goal.invariant-loop-p
invariant-loop-p l = (l.s ≡ put_words l.initial.s (8 * places_start) (concat_below l.p (λ q. record_words (record_at l.places q)))) × (length l.s ≡ length l.initial.s)
