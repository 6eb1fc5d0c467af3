-- Floor division of an integer by a positive natural: `floor_div a d` is the largest q with q d ≤ a. (At d = 0 it is 0 where 0 ≤ a, and −1 where a < 0; only floor_div_quot holds there.)
--     use Rattle.integers.specs.Division.{floor_div, floor_div-≤, floor_div->, floor_div-unique}
-- It is known by its bounds, with h : 0 < d
--     floor_div-≤ a d h : (floor_div a d *ℤ pos d) ≤ℤ a
--     floor_div-> a d h : a <ℤ ((floor_div a d +ℤ pos 1) *ℤ pos d)
-- and any q with these bounds is it: `floor_div-unique a q d h low high : floor_div a d ≡ q`. At literals it computes: `floor_div (negsuc 0) 2 ≡ negsuc 0` is `refl`.
-- Code divides by `/`, quot_z of lib.Signed, which rounds toward zero: `floor_div_quot d h : floor_div a d ≡ quot_z a (pos d)`, with h : pos 0 ≤ℤ a.
use Rattle.std.specs.Prelude.{◌≡◌, refl, ◌⊎◌, [], ◌∷◌, ℕ, ◌/◌, ◌<◌, ℤ, pos, negsuc, ◌+ℤ◌, ◌*ℤ◌, ◌≤ℤ◌, ◌<ℤ◌}
use Rattle.std.proofs.Common.{inl, inr, div-add-mod', mod-lt, arith}
use Rattle.std.specs.Int.Signed.{quot_z}
use Rattle.integers.specs.Differences.{is, is_le, is_lt, ◌⊕◌, ◌⊗◌}
use Rattle.integers.specs.Solvers.{shapes, zle, zlt}
use Rattle.integers.specs.Order.{zarith, ≤ℤ_or, ≤ℤ_trans, ≤ℤ_antisym, *ℤ_mono_pos}

abbrev pub floor_div : ℤ → ℕ → ℤ
floor_div (pos a) d = pos (a / d)
floor_div (negsuc a) d = negsuc (a / d)

-- q d ≤ a
pub floor_div-≤ : (a : ℤ) (d : ℕ) → 0 < d → (floor_div a d *ℤ pos d) ≤ℤ a
floor_div-≤ (pos a) d h = is_le (is (pos (a / d)) ⊗ is (pos d)) (is (pos a)) (omega (arith, div-add-mod' a d))
floor_div-≤ (negsuc a) d h = is_le (is (negsuc (a / d)) ⊗ is (pos d)) (is (negsuc a)) (omega (arith, div-add-mod' a d, mod-lt a h))

-- a < (q + 1) d
pub floor_div-> : (a : ℤ) (d : ℕ) → 0 < d → a <ℤ ((floor_div a d +ℤ pos 1) *ℤ pos d)
floor_div-> (pos a) d h = is_lt (is (pos a)) ((is (pos (a / d)) ⊕ is (pos 1)) ⊗ is (pos d)) (omega (arith, div-add-mod' a d, mod-lt a h))
floor_div-> (negsuc a) d h = is_lt (is (negsuc a)) ((is (negsuc (a / d)) ⊕ is (pos 1)) ⊗ is (pos d)) (omega (arith, div-add-mod' a d))

-- p d ≤ a < (q + 1) d gives p ≤ q
between : (a p q : ℤ) (d : ℕ) → (p *ℤ pos d) ≤ℤ a → a <ℤ ((q +ℤ pos 1) *ℤ pos d) → p ≤ℤ q
between a p q d low high = go (≤ℤ_or p q)
  where
    go : (p ≤ℤ q) ⊎ (q <ℤ p) → p ≤ℤ q
    go (inl h) = h
    go (inr h) =
        let next : (q +ℤ pos 1) ≤ℤ p = zle (p ∷ q ∷ []) (search shapes) (omega zarith) in
        let up : ((q +ℤ pos 1) *ℤ pos d) ≤ℤ (p *ℤ pos d) = *ℤ_mono_pos d next in
        absurd (omega zarith)

-- any q with these bounds is the quotient
pub floor_div-unique : (a q : ℤ) (d : ℕ) → 0 < d → (q *ℤ pos d) ≤ℤ a → a <ℤ ((q +ℤ pos 1) *ℤ pos d) → floor_div a d ≡ q
floor_div-unique a q d h low high =
    ≤ℤ_antisym (between a (floor_div a d) q d (floor_div-≤ a d h) high) (between a q (floor_div a d) d low (floor_div-> a d h))

-- the largest: p d ≤ a gives p ≤ q
pub ≤-floor_div : (a p : ℤ) (d : ℕ) → 0 < d → (p *ℤ pos d) ≤ℤ a → p ≤ℤ floor_div a d
≤-floor_div a p d h low = between a p (floor_div a d) d low (floor_div-> a d h)

pub floor_div_mono : {a b : ℤ} (d : ℕ) → 0 < d → a ≤ℤ b → floor_div a d ≤ℤ floor_div b d
floor_div_mono {a} {b} d h k = ≤-floor_div b (floor_div a d) d h (≤ℤ_trans (floor_div-≤ a d h) k)

pub floor_div_multiple : (q : ℤ) (d : ℕ) → 0 < d → floor_div (q *ℤ pos d) d ≡ q
floor_div_multiple q d h =
    let ρ = q ∷ pos d ∷ [] in
    floor_div-unique (q *ℤ pos d) q d h (zle ρ (search shapes) (omega arith)) (zlt ρ (search shapes) (omega arith))

-- the machine's `/`, of a number that is not negative
pub floor_div_quot : {a : ℤ} (d : ℕ) → pos 0 ≤ℤ a → floor_div a d ≡ quot_z a (pos d)
floor_div_quot {a = pos a} d h = refl
floor_div_quot {a = negsuc a} d h = absurd h.le
