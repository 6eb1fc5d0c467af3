-- `can_undo`: the walk over which places are empty gives what the walk over the places would (`by_empties`). Assumes nothing.
use mathlib.Core.Path.{ap, ◌∙◌}
use mathlib.Core.Bool.{Bool}
use mathlib.Core.List.{List}
use Rattle.network.specs.Places.{places_in}
use Rattle.book.specs.Journal.{reversals}
use Rattle.book.specs.Empties.{undoable_by}
use Rattle.book.proofs.Undoing.{by_empties}
use Rattle.book.proofs.soundness.can_undo.Goals as goal

pub returns : goal.returns
returns c =
    let h = reversals c.args.journal in
    c.walks_back.ensures
    ∙ ap (λ (e : List Bool). undoable_by c.args.rules.now.network e h) c.empties_in-empty.ensures
    ∙ by_empties c.args.rules.now.network (places_in c.args.places.now) h
