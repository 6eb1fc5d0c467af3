-- What the code tests before it reduces gives what the reduction asks. Assumes nothing.
use Rattle.std.specs.Prelude.{Bool, ◌&&◌, [], ◌∷◌, nat_abs}
use Rattle.std.proofs.Common.{sym, ap, ◌∙◌, ℤ, w64}
use borrow.Author.Rules.{sfits_of}
use borrow.Author.Tests.{leb-true}
use mir.ValLaws.{to_z-of_z}
use Rattle.words.specs.SignedLaws.{between-size}
use Rattle.lists.specs.All.{each}
use Rattle.network.specs.Records.{reduced_up}
use Rattle.network.specs.Rules.{observed_fits, height_above_mark_fits, up_in_range}
use Rattle.network.proofs.rules.up_in_range.Goals as goal

pub reduced_up-requires : goal.reduced_up-requires
reduced_up-requires c =
    let b = c.args.b in
    let t = each (observed_fits b.up ∷ height_above_mark_fits b.hf ∷ height_above_mark_fits b.ht ∷ []) (sym c.up_measured.ensures ∙ c.if-up_measured.true) in
    (leb-true (nat_abs b.up) 1000000000 t.0, between-size 0 300000 b.hf t.1.0, between-size 0 300000 b.ht t.1.1.0)

pub returns-then-up_measured : goal.returns-then-up_measured
unfolding up_in_range
returns-then-up_measured c =
    c.observed_fits.ensures ∙ ap (λ (z : ℤ). observed_fits z) (to_z-of_z w64 c.reduced_up.result (sfits_of c.reduced_up.type_inv) ∙ c.reduced_up.ensures)
    ∙ ap (λ (t : Bool). t && observed_fits (reduced_up c.args.b)) (sym c.if-up_measured.true ∙ c.up_measured.ensures)
