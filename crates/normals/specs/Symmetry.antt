-- N is symmetric. Assumes nothing.
use Rattle.std.specs.Prelude.{ℕ, zero, suc, ◌+◌, ◌*◌, ◌<◌, ◌≡◌, refl, List, [], ◌∷◌, get_or, ℤ, pos, ◌*ℤ◌}
use Rattle.std.proofs.Common.{ap, ◌∙◌, arith}
use Rattle.integers.specs.Solvers.{ring, shapes}
use Rattle.integers.specs.Sums.{sum-ext, sum-swap}
use Rattle.network.specs.Records.{weight_matrix_of, weights, record_at}
use Rattle.network.specs.declared.Station.{Station}
use Rattle.network.specs.declared.Place.{Place}
use Rattle.network.specs.declared.Record.{Record}
use Rattle.normals.specs.Formulas.{P, A, share_n, entry_n}

-- a symmetric 3×3 matrix by rows
rows : ℤ → ℤ → ℤ → ℤ → ℤ → ℤ → ℕ → ℕ → ℤ
rows e f g h i j a b = get_or (e ∷ f ∷ g ∷ f ∷ h ∷ i ∷ g ∷ i ∷ j ∷ []) (a * 3 + b) (pos 0)

flip : (e f g h i j : ℤ) (a b : ℕ) → a < 3 → b < 3 → rows e f g h i j a b ≡ rows e f g h i j b a
unfolding rows
flip e f g h i j zero zero p q = refl
flip e f g h i j zero (suc zero) p q = refl
flip e f g h i j zero (suc (suc zero)) p q = refl
flip e f g h i j (suc zero) zero p q = refl
flip e f g h i j (suc zero) (suc zero) p q = refl
flip e f g h i j (suc zero) (suc (suc zero)) p q = refl
flip e f g h i j (suc (suc zero)) zero p q = refl
flip e f g h i j (suc (suc zero)) (suc zero) p q = refl
flip e f g h i j (suc (suc zero)) (suc (suc zero)) p q = refl
flip e f g h i j (suc (suc (suc a))) b p q = absurd (omega arith)
flip e f g h i j zero (suc (suc (suc b))) p q = absurd (omega arith)
flip e f g h i j (suc zero) (suc (suc (suc b))) p q = absurd (omega arith)
flip e f g h i j (suc (suc zero)) (suc (suc (suc b))) p q = absurd (omega arith)

pub P_sym : (r : Record) (a b : ℕ) → a < 3 → b < 3 → P r a b ≡ P r b a
unfolding weights rows
P_sym r a b p q = let w = weight_matrix_of r in flip w.ee w.en w.eu w.nn w.nu w.uu a b p q

pub share_sym : (st : List Station) (r : Record) (i j : ℕ) → share_n st r i j ≡ share_n st r j i
unfolding share_n
share_sym st r i j =
    sum-swap 3 3 (λ a b. A st r a i *ℤ P r a b *ℤ A st r b j)
    ∙ sum-ext 3 (λ b k. sum-ext 3 (λ a h. ap (λ (z : ℤ). A st r a i *ℤ z *ℤ A st r b j) (P_sym r a b h k) ∙ ring (A st r a i ∷ P r b a ∷ A st r b j ∷ []) (search shapes) tt))

pub N_sym : (st : List Station) (places : List Place) (i j : ℕ) → entry_n st places i j ≡ entry_n st places j i
unfolding entry_n
N_sym st places i j = sum-ext 256 (λ p h. share_sym st (record_at places p) i j)
