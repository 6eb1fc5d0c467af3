-- Two pairs N, u compared entry by entry: for refusal 25, "or N or u not that of the records". Assumes nothing.
use Rattle.std.specs.Prelude.{◌≡◌, Bool, true, ◌&&◌}
use Rattle.std.proofs.Common.{ap}
use Rattle.words.specs.Bools.{and_left, and_right, and_both}
use Rattle.lists.specs.Same.{same_entries, same_list_lem, list_same}
use Rattle.normals.specs.declared.Normals.{Normals}
use Rattle.normals.specs.Entries.{SizedNormals}

unfoldable pub same_normals : Normals → Normals → Bool
same_normals x y = same_entries 2304 x.matrix y.matrix && same_entries 48 x.right y.right

pub same_equal : (x y : Normals) → SizedNormals x → SizedNormals y → same_normals x y ≡ true → x ≡ y
unfolding same_normals
same_equal x y g h e =
    let m : x.matrix ≡ y.matrix = same_list_lem 2304 _ _ g.matrix h.matrix (and_left (same_entries 2304 x.matrix y.matrix) (same_entries 48 x.right y.right) e) in
    let u : x.right ≡ y.right = same_list_lem 48 _ _ g.right h.right (and_right (same_entries 2304 x.matrix y.matrix) (same_entries 48 x.right y.right) e) in
    λ i. record { matrix = m i; right = u i }

pub equal_same : (x y : Normals) → x ≡ y → same_normals x y ≡ true
unfolding same_normals
equal_same x y e = and_both _ _ (list_same 2304 _ _ (ap (λ (z : Normals). z.matrix) e)) (list_same 48 _ _ (ap (λ (z : Normals). z.right) e))
