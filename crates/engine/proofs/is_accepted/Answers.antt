-- What the check judged are the numbers at the front of the room; it told that it accepts them. Assumes nothing.
use Rattle.std.proofs.Common.{◌≡◌, ℕ, true, take, refl, sym, ◌∙◌, ap, arith}
use Rattle.std.proofs.lemmas.Grind.{common_steps}
use Rattle.std.specs.Prelude.{Ok, Err, is_ok}
use Rattle.std.proofs.lemmas.Bool.{false≢true}
use Rattle.acceptance.specs.Judge.{Answer}
use Rattle.layout.specs.Bytes.{book_of}
use Rattle.checks.specs.Checks.{checked}
use Rattle.engine.proofs.is_accepted.Goals as goal

accepted : (a : Answer) → is_ok a ≡ true → a ≡ Ok tt
accepted (Ok u) e = refl
accepted (Err refusal) e = absurd (false≢true e)

pub returns : goal.returns
returns c =
    λ e.
    let told : c.is_ok.result ≡ true = grind (e, arith, common_steps) in
    ap (λ (j : ℕ). checked (book_of c.args.s.now) (take c.args.n c.args.x.now) (take j c.args.m.now) true) (sym c.square-entries.ensures.0)
    ∙ sym c.check_in.ensures ∙ accepted _ (sym c.is_ok.ensures.value ∙ told)
