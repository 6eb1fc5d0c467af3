-- The four numbers are the station's words, in their order (`in_order`). Assumes nothing.
use Rattle.std.proofs.Common.{rules, ◌≡◌, ◌++◌, ◌+◌, ◌*◌, ◌∙◌, ap, List, [], ◌∷◌, ℤ, length, take, get_or, pos, to_z, of_z, arith, refl}
use Rattle.std.specs.Int.{w64}
use Rattle.std.proofs.lemmas.Slice.{take-put_mid}
use Rattle.std.proofs.lemmas.Int.{to_z-of_z}
use Rattle.network.specs.StationWords.{station_words}
use Rattle.network.specs.declared.Station.{Station}
use Rattle.stations.proofs.numbers.put.Goals as goal

in_order : (w : List ℤ) (s : Station) → w ≡ station_words s → get_or w 0 (pos 0) ∷ get_or w 1 (pos 0) ∷ get_or w 2 (pos 0) ∷ get_or w 3 (pos 0) ∷ [] ≡ station_words s
unfolding station_words
in_order w s e = rw e refl

pub returns : goal.returns
returns c =
    let k : to_z w64 (of_z w64 (get_or c.station_words.result 0 (pos 0))) ≡ get_or c.station_words.result 0 (pos 0) = to_z-of_z w64 _ (search rules) in
    let e : to_z w64 (of_z w64 (get_or c.station_words.result 1 (pos 0))) ≡ get_or c.station_words.result 1 (pos 0) = to_z-of_z w64 _ (search rules) in
    let n : to_z w64 (of_z w64 (get_or c.station_words.result 2 (pos 0))) ≡ get_or c.station_words.result 2 (pos 0) = to_z-of_z w64 _ (search rules) in
    let u : to_z w64 (of_z w64 (get_or c.station_words.result 3 (pos 0))) ≡ get_or c.station_words.result 3 (pos 0) = to_z-of_z w64 _ (search rules) in
    let four : c.copy_from_slice.new.self ≡ get_or c.station_words.result 0 (pos 0) ∷ get_or c.station_words.result 1 (pos 0) ∷ get_or c.station_words.result 2 (pos 0) ∷ get_or c.station_words.result 3 (pos 0) ∷ [] =
    rw (k, e, n, u) at c.copy_from_slice.ensures.after in
    let long : length c.copy_from_slice.new.self ≡ 4 = ap length four in
    let words : c.copy_from_slice.new.self ≡ station_words c.args.s = four ∙ in_order c.station_words.result c.args.s c.station_words.ensures in
    take-put_mid (c.args.i * 4) _ c.args.out.now c.copy_from_slice.new.self ((c.args.i + 1) * 4) (omega (arith, long)) (omega (arith, c.requires, c.told-out)) ∙ ap (λ (l : List ℤ). take (c.args.i * 4) c.args.out.now ++ l) words
