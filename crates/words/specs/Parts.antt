-- A part of a list written whole, as code writes it into a slice's part. Assumes nothing.
use Rattle.std.specs.Prelude.{◌≡◌, ℕ, ◌+◌, ◌≤◌, List, length}
use Rattle.std.proofs.Common.{sym, ◌∙◌, refl}
use Rattle.std.proofs.lemmas.List.Edits.{sets, sets-eq}
use Rattle.std.proofs.lemmas.Slice.{put_mid-paste}
use Rattle.std.proofs.Math.Seq.{take-length}
use borrow.Rule.Slice.PartMut.{put_mid}

-- the part of l of k entries from index `at` on, overwritten by w
pub put_mid-sets : {X : Type 0} (l w : List X) (at k : ℕ) → at + length w ≤ length l → length w ≡ k → put_mid at k l w ≡ sets l at w
put_mid-sets l w at k h e = put_mid-paste at k l w w (length w) refl e refl ∙ rw (take-length w) (sym (sets-eq w l at h))
