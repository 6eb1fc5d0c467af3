-- The loop has written the lines of the stations passed (`stations-more`). Assumes nothing.
use Rattle.printing.specs.SheetTextLaws.{stations-start, stations-more}
use Rattle.text.specs.Writing.{written_as, ◌then◌}
use Rattle.printing.specs.SheetText.{station_texts}
use native.Mathlib.Omega.{arith}
use mathlib.Core.Path.{◌≡◌, refl, ap}
use borrow.Author.Rules.{rules}
use Rattle.printing.proofs.sheet_text.write_stations.Goals as goal

pub loop-i-init : goal.loop-i-init
loop-i-init c = (refl, omega arith, stations-start _ _ c.args.w.now)

pub loop-i-preserved : goal.loop-i-preserved
loop-i-preserved c = (
  search rules,
  omega (arith, c.loop-i.invariant.1, c.write_station-p.ensures.upper_bound),
  written_as (stations-more c.args.w.now c.loop-i.i) (c.loop-i.invariant.2 then c.write_station-p.ensures.written),
)

pub returns : goal.returns
returns c =
    let e : c.loop-i.i ≡ c.args.n = omega (arith, c.loop-i-test.false) in
    record { written = written_as (ap (station_texts c.args.w.now) e) c.loop-i.invariant.2; upper_bound = omega (arith, e, c.loop-i.invariant.1) }
