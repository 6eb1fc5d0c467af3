-- `sample_places` stores the words of one record after those before it. The loop's invariant: the places passed are read back as the sample's. Assumes nothing.
use borrow.Author.Rules.{rules}
use Prim.Native.Nat.{ℕ, ◌*◌, ◌<◌}
use mathlib.Core.Path.{◌≡◌, sym, ap, ◌∙◌}
use native.Mathlib.Omega.{arith}
use Rattle.integers.specs.Tables.{get_d_tabulate, length-tabulate}
use Rattle.lists.specs.Pasted.{pasted}
use Rattle.network.specs.Records.{record_at, vacant}
use Rattle.network.specs.RecordWords.{record_length}
use Rattle.network.specs.PlaceLaws.{lent_none, lent-more, lent_all}
use Rattle.network.specs.declared.Place.{Place}
use Rattle.bench_kernels.specs.Sample.{sample_record, sample_place, sample_places}
use Rattle.bench_kernels.proofs.sample_places.Goals as goal

sample-at : (p : ℕ) → p < 256 → sample_record p ≡ record_at sample_places p
sample-at p h = sym (ap (λ (x : Place). x.entry) (get_d_tabulate 256 sample_place p vacant h))

pub loop-p-init : goal.loop-p-init
loop-p-init c = lent_none _ _ (search rules)

pub loop-p-preserved : goal.loop-p-preserved
loop-p-preserved c =
    lent-more _ c.loop-p.places c.loop-p.p _ _ (omega arith) (c.sample_record.ensures ∙ sample-at c.loop-p.p (omega arith))
    (c.paste.ensures ∙ ap (pasted c.loop-p.places (c.loop-p.p * record_length)) c.record_words-w.ensures) c.paste.auto.list c.loop-p.invariant

pub returns : goal.returns
returns c = lent_all _ _ c.loop-p.p (omega arith) (length-tabulate 256 sample_place) c.loop-p.invariant
