-- Where X or M was given, the check of what they gave (`ends_check`); else the engine's proposal (`ends_offer`). Assumes nothing.
use Prim.Native.Nat.{ℕ}
use mathlib.Core.Path.{◌≡◌, sym, ap₂, ◌∙◌}
use mathlib.Core.Bool.{Bool, true, false, ◌||◌}
use lib.ListN.{take}
use Rattle.layout.specs.Bytes.{book_of}
use Rattle.text.specs.Writing.{written_as}
use Rattle.printing.specs.Reports.{check_says, none, no_pair}
use Rattle.std.specs.Prelude.{is_some}
use Rattle.adjustment.specs.EndLaws.{ends_check, ends_offer}
use Rattle.adjustment.proofs.ending.conclude.Goals as goal

pub returns-then-is_some : goal.returns-then-is_some
returns-then-is_some c =
    let asked_is : (t : Bool) → (c.is_some.result || c.is_some-2.result) ≡ t → let a = c.args in (is_some a.corrections || is_some a.matrix) ≡ t = λ t e. sym (ap₂ ◌||◌ c.is_some.ensures c.is_some-2.ensures) ∙ e in
    let a = c.args in
    let b = book_of a.book.now in
    let x = a.x.now in
    let m = a.m.now in
    let e = ap₂ (λ (i j : ℕ). check_says b (take i x) (take j m)) c.unwrap_or-n.ensures c.unwrap_or-entries.ensures ∙ ends_check b x m a.corrections a.matrix (asked_is true c.if-is_some.true) in
    record { offer = none; offers = no_pair; written = written_as e c.write_check.ensures.written; small = c.write_check.ensures.upper_bound }

pub returns : goal.returns
returns c =
    let asked_is : (t : Bool) → (c.is_some.result || c.is_some-2.result) ≡ t → let a = c.args in (is_some a.corrections || is_some a.matrix) ≡ t = λ t e. sym (ap₂ ◌||◌ c.is_some.ensures c.is_some-2.ensures) ∙ e in
    let a = c.args in
    let q = c.write_proposal.ensures in
    record {
      offer = q.offer;
      offers = q.offers;
      written = written_as (ends_offer (book_of a.book.now) a.x.now a.m.now a.corrections a.matrix q.offer (asked_is false c.if-is_some.false)) q.written;
      small = q.small;
    }
