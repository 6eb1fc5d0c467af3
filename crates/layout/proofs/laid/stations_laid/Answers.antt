-- `stations_laid` tests the words of the stations. The loop's invariant: those passed are laid out. Assumes nothing.
use Prim.Native.Nat.{◌+◌, ◌*◌, ◌-◌}
use mathlib.Core.Path.{◌≡◌, refl, sym, ap, ◌∙◌}
use Rattle.std.specs.Ordering.{int_eq}
use Rattle.std.specs.Cmp.Lexicographic.{pointwise}
use native.Mathlib.Omega.{arith}
use Rattle.lists.specs.All.{all_none, all_more, all_done, all_fails}
use Rattle.lists.specs.Same.{same_long, eq-same_list}
use Rattle.layout.specs.Laid.{station_laid}
use Rattle.layout.specs.Bytes.{words_of}
use Rattle.layout.proofs.Parts.{station-is}
use borrow.Author.Rules.{rules}
use Rattle.layout.proofs.laid.stations_laid.Goals as goal

pub loop-k-init : goal.loop-k-init
loop-k-init c = all_none _

pub returns-then-not-right : goal.returns-then-not-right
returns-then-not-right c =
    let tested : c.eq-right.result ≡ station_laid (words_of c.args.s.now) c.loop-k.k = let k = c.loop-k.k in
    let n : k * 4 + 4 - k * 4 ≡ 4 = omega arith in
    c.eq-right.ensures ∙ ap (pointwise int_eq _) c.as_slice.ensures ∙ eq-same_list _ _
    ∙ same_long _ _ (search rules)
    ∙ station-is c.args.s.now k (omega arith) c.network_in-net.result c.stations_at-list.result _ c.station_part-v.result (k * 4 + 4 - k * 4)
    c.network_in-net.ensures c.stations_at-list.ensures refl n (search rules) c.station_part-v.ensures in
    sym (all_fails 32 (station_laid (words_of c.args.s.now)) c.loop-k.k (omega arith) (sym tested ∙ c.if-not-right.true))

pub loop-k-preserved : goal.loop-k-preserved
loop-k-preserved c =
    let tested : c.eq-right.result ≡ station_laid (words_of c.args.s.now) c.loop-k.k = let k = c.loop-k.k in
    let n : k * 4 + 4 - k * 4 ≡ 4 = omega arith in
    c.eq-right.ensures ∙ ap (pointwise int_eq _) c.as_slice.ensures ∙ eq-same_list _ _
    ∙ same_long _ _ (search rules)
    ∙ station-is c.args.s.now k (omega arith) c.network_in-net.result c.stations_at-list.result _ c.station_part-v.result (k * 4 + 4 - k * 4)
    c.network_in-net.ensures c.stations_at-list.ensures refl n (search rules) c.station_part-v.ensures in
    all_more _ (station_laid (words_of c.args.s.now)) c.loop-k.invariant (sym tested ∙ c.if-not-right.false)

pub returns : goal.returns
returns c = all_done 32 (station_laid (words_of c.args.s.now)) c.loop-k.k c.loop-k.auto.k-end (omega arith) c.loop-k.invariant
