-- The test by quotients. Assumes nothing.
use Rattle.salvage.proofs.Room.{room_test}
use Rattle.salvage.proofs.salvaging.room_for.Goals as goal

pub returns : goal.returns
returns c = let a = c.args in room_test a.n a.fresh a.skipped a.kept
