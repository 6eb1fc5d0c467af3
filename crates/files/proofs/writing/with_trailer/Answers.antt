-- `with_trailer` stores the three words of a trailer. Assumes nothing.
use Rattle.std.proofs.Common.{◌≡◌, length, ◌∙◌, arith, length-set, to_z-of_z, w64, rules}
use Rattle.files.proofs.Trailers.{trailer_is}
use borrow.Author.Rules.{sfits_of}
use Rattle.files.proofs.writing.with_trailer.Goals as goal

pub slice_bounds-sum-end : goal.slice_bounds-sum-end
slice_bounds-sum-end c =
    let long : length c.args.w ≡ 16 = search rules in
    simp length-set (omega (arith, long))

pub returns : goal.returns
returns c =
    let long : length c.args.w ≡ 16 = search rules in
    trailer_is c.args.start c.args.w long _ _
    (to_z-of_z {w = w64} {z = c.to_signed.result} (sfits_of c.to_signed.type_inv) ∙ c.to_signed.ensures)
    (to_z-of_z {w = w64} {z = c.previous_trailer.result} (sfits_of c.previous_trailer.type_inv) ∙ c.previous_trailer.ensures)
    (to_z-of_z {w = w64} {z = c.sum.result} (sfits_of c.sum.type_inv) ∙ c.sum.ensures)
