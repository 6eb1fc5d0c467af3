-- `paste` copies into the part of the list from `at` on. Assumes nothing.
use Rattle.std.proofs.Common.{arith}
use Rattle.words.specs.Parts.{put_mid-sets}
use Rattle.lists.specs.Pasted.{pasted}
use Rattle.lists.proofs.pasting.paste.Goals as goal

pub returns : goal.returns
unfolding pasted
returns g c = rw c.copy_from_slice.ensures.after (put_mid-sets c.args.list.now c.args.w.now c.args.at _ c.requires (omega arith))
