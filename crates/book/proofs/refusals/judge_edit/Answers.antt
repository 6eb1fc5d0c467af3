-- The test of the place is that of the definition (`place_is`); then the change is judged. Assumes nothing.
use Rattle.std.proofs.Common.{rules, ◌≡◌, ℕ, ap, ◌∙◌}
use Rattle.network.specs.Rules.{in_list}
use Rattle.book.specs.Calls.{first}
use Rattle.book.specs.Numbers.{change_no_of}
use Rattle.book.proofs.Steps.{place_is}
use Rattle.book.proofs.refusals.judge_edit.Goals as goal

pub returns-then-not-contains : goal.returns-then-not-contains
unfolding first
returns-then-not-contains c =
    let tested : in_list 256 c.args.place ≡ c.contains.result = search rules in
    ap (λ (n : ℕ). first n (change_no_of c.args.net c.args.current c.args.change)) (place_is _ _ (tested ∙ c.if-not-contains.true))

pub returns : goal.returns
unfolding first
returns c =
    let tested : in_list 256 c.args.place ≡ c.contains.result = search rules in
    c.judge_change.ensures ∙ ap (λ (n : ℕ). first n (change_no_of c.args.net c.args.current c.args.change)) (place_is _ _ (tested ∙ c.if-not-contains.false))
