-- A run of numbers stored in a list from an index on: the laws by which runs are joined, and what is read afterwards. Assumes nothing.
use Rattle.std.specs.Prelude.{ℕ, zero, suc, ◌+◌, ◌≤◌, ◌<◌, ◌≡◌, refl, List, [], ◌∷◌, ◌++◌, length, drop, set, get_or, ℤ, pos}
use Rattle.std.proofs.Common.{ap, ◌∙◌, add-zero, arith, length-set, get_or-set_same, get_or-set_other}
use Rattle.std.proofs.lemmas.List.Edits.{sets, sets-eq}

-- l with w stored from index `at` on
unfoldable pub pasted : {X : Type 0} → List X → ℕ → List X → List X
pasted l at w = sets l at w

pub pasted-none : (l : List ℤ) (at : ℕ) → pasted l at [] ≡ l
unfolding pasted
pasted-none l at = refl

-- a run after a run
pub pasted_then : (l : List ℤ) (at : ℕ) (v w : List ℤ) → pasted (pasted l at v) (at + length v) w ≡ pasted l at (v ++ w)
unfolding pasted
pasted_then l at [] w = ap (λ (k : ℕ). sets l k w) (add-zero at)
pasted_then l at (x ∷ v) w =
    let e : at + length (x ∷ v) ≡ suc at + length v = omega arith in
    rw e (pasted_then (set l at x) (suc at) v w)

-- a run at the front: the words beyond stay
pub pasted_front : (l : List ℤ) (w : List ℤ) → length w ≤ length l → pasted l 0 w ≡ w ++ drop (length w) l
unfolding pasted
pasted_front l w h =
    let e : 0 + length w ≡ length w = omega arith in
    sets-eq w l 0 (omega arith) ∙ ap (λ (k : ℕ). w ++ drop k l) e

-- ════ what is read afterwards: before the run, within it, and behind it
pub pasted-before : (v l : List ℤ) (at k : ℕ) → k < at → get_or (pasted l at v) k (pos 0) ≡ get_or l k (pos 0)
unfolding pasted
pasted-before [] l at k h = refl
pasted-before (a ∷ v) l at k h = pasted-before v (set l at a) (suc at) k (omega arith) ∙ get_or-set_other l at k a (pos 0) (λ e. omega arith)

pub pasted_behind : (v l : List ℤ) (at k : ℕ) → at + length v ≤ k → get_or (pasted l at v) k (pos 0) ≡ get_or l k (pos 0)
unfolding pasted
pasted_behind [] l at k h = refl
pasted_behind (a ∷ v) l at k h =
    let g : suc (at + length v) ≤ k = omega arith in
    pasted_behind v (set l at a) (suc at) k (omega arith) ∙ get_or-set_other l at k a (pos 0) (λ e. omega arith)

pub pasted-within : (v l : List ℤ) (at j : ℕ) → j < length v → at + length v ≤ length l → get_or (pasted l at v) (at + j) (pos 0) ≡ get_or v j (pos 0)
unfolding pasted
pasted-within [] l at j h g = absurd (omega arith)
pasted-within (a ∷ v) l at zero h g = rw (add-zero at) (pasted-before v (set l at a) (suc at) at (omega arith) ∙ get_or-set_same l at a (pos 0) (omega arith))
pasted-within (a ∷ v) l at (suc j) h g =
    let e : at + suc j ≡ suc at + j = omega arith in
    rw e (pasted-within v (set l at a) (suc at) j (omega arith) (rw (length-set l at a) (omega arith)))

pub length-pasted : (l : List ℤ) (at : ℕ) (v : List ℤ) → length (pasted l at v) ≡ length l
unfolding pasted
length-pasted l at [] = refl
length-pasted l at (a ∷ v) = length-pasted (set l at a) (suc at) v ∙ length-set l at a
