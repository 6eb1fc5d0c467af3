-- `put_stations` puts the station list. The loop's invariant: the stations passed stand in their order. Assumes nothing.
use Prim.Native.Nat.{◌+◌, ◌*◌}
use mathlib.Core.Path.{◌≡◌, refl, ap, ◌∙◌}
use native.Mathlib.Omega.{arith}
use lib.ListN.{length}
use Rattle.words.specs.Runs.{put_words}
use Rattle.layout.specs.Layout.{station_part, stations_start}
use Rattle.layout.specs.BookWords.{length-station}
use Rattle.layout.proofs.Parts.{parts_none, parts_more}
use borrow.Author.Rules.{rules}
use Rattle.layout.proofs.writing.put_stations.Goals as goal

pub loop-k-init : goal.loop-k-init
loop-k-init c = (parts_none _ (8 * stations_start) _, refl)

pub write_words-requires : goal.write_words-requires
write_words-requires c =
    let long : length c.station_part-v.result ≡ 4 = search rules in
    omega arith

pub loop-k-preserved : goal.loop-k-preserved
unfolding station_part
loop-k-preserved c = (
  parts_more c.args.s.now c.loop-k.s _ (8 * stations_start) 4 c.loop-k.k _ (station_part c.args.net) (length-station c.args.net) (omega arith) c.loop-k.invariant.0
      (c.write_words.ensures ∙ ap (put_words c.loop-k.s (8 * (stations_start + c.loop-k.k * 4))) c.station_part-v.ensures),
  c.write_words.auto.s ∙ c.loop-k.invariant.1,
)

pub returns : goal.returns
returns c = let e : c.loop-k.k ≡ 32 = omega arith in rw e at c.loop-k.invariant.0
