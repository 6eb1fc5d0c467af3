-- Where there is no edit to take back, the refusal and the same book; else the latest reversal may be put back (`latest-undoes`), and that is the undo (`undone-is`). Assumes nothing.
use Rattle.std.proofs.Common.{rules, ◌<◌, ℕ, sym, ap}
use Rattle.lists.specs.Filling.{length_mapped}
use Rattle.book.specs.declared.Call.TheVariants.{Undo}
use Rattle.book.specs.Calls.{unless}
use Rattle.book.specs.Book.{book_accepts, settled}
use Rattle.book.specs.Sound.{SoundParts}
use Rattle.book.specs.SoundLaws.{latest-undoes}
use Rattle.book.proofs.Done.{fresh, fresh-parts, undone-is, history_none, history_some, undo_done}
use Rattle.book.proofs.Book.undo.Goals as goal
use Rattle.book.proofs.Book.undo.Goals.{Else-self-eq0}

parts : (c : Else-self-eq0) → SoundParts (fresh c.args.self.now)
parts c = fresh-parts c.args.self.now (search (rules, length_mapped)) (search (rules, length_mapped)) c.requires

some : (c : Else-self-eq0) → 0 < c.args.self.now.journal.count
some c = search rules

pub returns-then-self-eq0-clause-outcome : goal.returns-then-self-eq0-clause-outcome
unfolding unless
returns-then-self-eq0-clause-outcome c =
    let b = c.args.self.now in
    sym (ap (λ (n : ℕ). settled n b (book_accepts b Undo)) (history_none b c.if-self-eq0.true))

pub last-last-requires : goal.last-last-requires
last-last-requires c = (parts (goal.at.last-last-requires c).Else-self-eq0).journal.next

pub pop-shorter-requires : goal.pop-shorter-requires
pop-shorter-requires c = let e = (goal.at.pop-shorter-requires c).Else-self-eq0 in (some e, (parts e).journal.next)

pub put-requires : goal.put-requires
put-requires c =
    let e = (goal.at.put-requires c).Else-self-eq0 in
    let m = latest-undoes (fresh c.args.self.now) (parts e) (some e) in
    rw c.last-last.ensures (m.inside, m.fits, c.requires)

pub returns-clause-outcome : goal.returns-clause-outcome
returns-clause-outcome c =
    let e = (goal.at.returns-clause-outcome c).Else-self-eq0 in
    (undo_done c.args.self.now _ (parts e) (history_some c.args.self.now c.if-self-eq0.false) (undone-is c.args.self.now _ _ _ c.last-last.ensures c.pop-shorter.ensures c.put.ensures)).0

pub returns-clause-sound : goal.returns-clause-sound
returns-clause-sound c =
    let e = (goal.at.returns-clause-sound c).Else-self-eq0 in
    (undo_done c.args.self.now _ (parts e) (history_some c.args.self.now c.if-self-eq0.false) (undone-is c.args.self.now _ _ _ c.last-last.ensures c.pop-shorter.ensures c.put.ensures)).1
