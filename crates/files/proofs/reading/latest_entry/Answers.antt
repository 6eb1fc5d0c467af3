-- `latest_entry`: the latest among the entries not yet passed is the latest of all. Assumes nothing.
use Rattle.std.proofs.Common.{◌≡◌, sym, refl, ap, ◌∙◌, arith, to_z-of_z, w64, to_z, of_z}
use Rattle.words.specs.SignedLaws.{eq-eq_z}
use Rattle.files.specs.Files.{latest_entry}
use Rattle.files.proofs.Tests.{ne_eq_z}
use Rattle.files.proofs.Loops.{latest-found, latest-passed, latest-none}
use borrow.Author.Rules.{sfits_of}
use Rattle.files.proofs.reading.latest_entry.Goals as goal

pub loop-n-init : goal.loop-n-init
unfolding latest_entry
loop-n-init c = refl

pub returns-then-word_at-place : goal.returns-then-word_at-place
returns-then-word_at-place c =
    let read : c.word_at.result ≡ to_z w64 (of_z w64 c.args.place) = sym (to_z-of_z {w = w64} {z = c.word_at.result} (sfits_of c.word_at.type_inv)) ∙ ap (to_z w64) c.if-word_at-place.true in (
      latest-found _ _ c.loop-n.n c.loop-n-test.true c.loop-n.invariant (eq-eq_z _ _ (sym c.word_at.ensures ∙ read)) ∙ ap (latest_entry c.args.file.now) (to_z-of_z {w = w64} c.ranges.place),
      omega arith,
    )

pub loop-n-preserved : goal.loop-n-preserved
loop-n-preserved c =
    latest-passed _ _ c.loop-n.n c.loop-n-test.true c.loop-n.invariant
    (ne_eq_z _ _ (λ q. c.if-word_at-place.false (ap (of_z w64) (c.word_at.ensures ∙ q ∙ to_z-of_z {w = w64} c.ranges.place))))

pub returns : goal.returns
returns c = sym (latest-none _ _ c.loop-n.n (omega arith) c.loop-n.invariant ∙ ap (latest_entry c.args.file.now) (to_z-of_z {w = w64} c.ranges.place))
