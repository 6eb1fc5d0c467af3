-- The words that are read fill the front of the room. Assumes nothing.
use Rattle.std.proofs.Common.{arith}
use Rattle.lent_checks.proofs.Answers.{read_front}
use Rattle.lent_checks.proofs.checking.read_front.Goals as goal

pub returns : goal.returns
returns c = read_front c.args.s.now _ c.args.room.now _ _ (omega (arith, c.requires)) c.read_words.ensures
