-- What is read of a list that is too long is nothing, and of any other all (`read_opened`). Assumes nothing.
use Rattle.std.proofs.Common.{◌≡◌, refl, ◌∙◌, ap, true, subst, List, ℤ, Result, Ok, Err, IfOk}
use Rattle.book.specs.declared.Book.{Book}
use Rattle.book.specs.declared.Refusal.{Refusal}
use Rattle.book.specs.Book.{opening, sound}
use Rattle.book.specs.Outcome.{Outcome}
use Rattle.book.specs.Outcomes.{opened_as}
use Rattle.book.specs.Refusals.{refused-number}
use Rattle.stations.specs.FlatLaws.{Opened, read_opened}
use Rattle.stations.proofs.open_stations.Goals as goal

-- an answer that is the opening's, and whose book, where there is one, is sound
opened_answer : (list : List ℤ) (r : Result Book Refusal) → opened_as r ≡ opening list → IfOk r (λ b. sound b ≡ true) → Opened list (opened_as r)
opened_answer list (Ok b) e s = (e, λ t. s)
opened_answer list (Err r) e s = (e, λ t. absurd (refused-number r (ap (λ (o : Outcome). o.refusal) e ∙ rw t refl)))

pub returns : goal.returns
returns c =
    let read = opened_answer _ c.open_words.result c.open_words.ensures.opened c.open_words.ensures.sound in
    let all : Opened _ (opened_as c.open_words.result) = read_opened c.args.list.now (opened_as c.open_words.result) (subst (λ (l : List ℤ). Opened l (opened_as c.open_words.result)) c.flat_words-w.ensures read) in
    record { opened = all.0; sound = c.open_words.ensures.sound }
