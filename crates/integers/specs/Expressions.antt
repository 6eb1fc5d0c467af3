-- Expressions in + − * over a list ρ of unknowns, and the integers that have one. Users need nothing here: `search shapes` (Solvers) finds the expression of an integer.
use Rattle.std.specs.Prelude.{◌≡◌, refl, Bool, true, false, List, [], ◌∷◌, ℕ, zero, suc, ◌+◌, ◌*◌, ℤ, pos, negsuc, neg_ℤ, ◌+ℤ◌, ◌-ℤ◌, ◌*ℤ◌}
use Rattle.std.proofs.Common.{ap, ap₂, subst}
use Rattle.integers.specs.Differences.{Is, plus_part, minus_part, is, ◌⊕◌, ◌⊖◌, ◌⊗◌, neg}

pub data Shape : Type 0 where
  var : ℕ → Shape
  num : ℤ → Shape
  shape+ : Shape → Shape → Shape
  shape_ : Shape → Shape → Shape
  shape* : Shape → Shape → Shape
  shape¬ : Shape → Shape

abbrev pub look : List ℤ → ℕ → ℤ
look [] i = pos 0
look (a ∷ ρ) zero = a
look (a ∷ ρ) (suc i) = look ρ i

abbrev pub value : List ℤ → Shape → ℤ
value ρ (var i) = look ρ i
value ρ (num k) = k
value ρ (shape+ x y) = value ρ x +ℤ value ρ y
value ρ (shape_ x y) = value ρ x -ℤ value ρ y
value ρ (shape* x y) = value ρ x *ℤ value ρ y
value ρ (shape¬ x) = neg_ℤ (value ρ x)

-- z has a shape over ρ
pub record HasShape (ρ : List ℤ) (z : ℤ) : Type 0 where
  pub x : Shape
  pub is : value ρ x ≡ z

abbrev pub has_+ : {ρ : List ℤ} {a b : ℤ} → HasShape ρ a → HasShape ρ b → HasShape ρ (a +ℤ b)
has_+ r s = record { x = shape+ r.x s.x; is = ap₂ ◌+ℤ◌ r.is s.is }

abbrev pub has-- : {ρ : List ℤ} {a b : ℤ} → HasShape ρ a → HasShape ρ b → HasShape ρ (a -ℤ b)
has-- r s = record { x = shape_ r.x s.x; is = ap₂ ◌-ℤ◌ r.is s.is }

abbrev pub has_* : {ρ : List ℤ} {a b : ℤ} → HasShape ρ a → HasShape ρ b → HasShape ρ (a *ℤ b)
has_* r s = record { x = shape* r.x s.x; is = ap₂ ◌*ℤ◌ r.is s.is }

abbrev pub has_¬ : {ρ : List ℤ} {a : ℤ} → HasShape ρ a → HasShape ρ (neg_ℤ a)
has_¬ r = record { x = shape¬ r.x; is = ap neg_ℤ r.is }

abbrev pub has_pos : {ρ : List ℤ} (k : ℕ) → HasShape ρ (pos k)
has_pos k = record { x = num (pos k); is = refl }

abbrev pub has_negsuc : {ρ : List ℤ} (k : ℕ) → HasShape ρ (negsuc k)
has_negsuc k = record { x = num (negsuc k); is = refl }

abbrev pub has_0 : {a : ℤ} {ρ : List ℤ} → HasShape (a ∷ ρ) a
has_0 = record { x = var 0; is = refl }

abbrev pub has_1 : {a b : ℤ} {ρ : List ℤ} → HasShape (a ∷ b ∷ ρ) b
has_1 = record { x = var 1; is = refl }

abbrev pub has_2 : {a b c : ℤ} {ρ : List ℤ} → HasShape (a ∷ b ∷ c ∷ ρ) c
has_2 = record { x = var 2; is = refl }

abbrev pub has_3 : {a b c d : ℤ} {ρ : List ℤ} → HasShape (a ∷ b ∷ c ∷ d ∷ ρ) d
has_3 = record { x = var 3; is = refl }

abbrev pub has_4 : {a b c d e : ℤ} {ρ : List ℤ} → HasShape (a ∷ b ∷ c ∷ d ∷ e ∷ ρ) e
has_4 = record { x = var 4; is = refl }

abbrev pub has_5 : {a b c d e f : ℤ} {ρ : List ℤ} → HasShape (a ∷ b ∷ c ∷ d ∷ e ∷ f ∷ ρ) f
has_5 = record { x = var 5; is = refl }

abbrev pub has_6 : {a b c d e f g : ℤ} {ρ : List ℤ} → HasShape (a ∷ b ∷ c ∷ d ∷ e ∷ f ∷ g ∷ ρ) g
has_6 = record { x = var 6; is = refl }

abbrev pub has_7 : {a b c d e f g h : ℤ} {ρ : List ℤ} → HasShape (a ∷ b ∷ c ∷ d ∷ e ∷ f ∷ g ∷ h ∷ ρ) h
has_7 = record { x = var 7; is = refl }

abbrev pub has_8 : {a b c d e f g h i : ℤ} {ρ : List ℤ} → HasShape (a ∷ b ∷ c ∷ d ∷ e ∷ f ∷ g ∷ h ∷ i ∷ ρ) i
has_8 = record { x = var 8; is = refl }

abbrev pub has_9 : {a b c d e f g h i j : ℤ} {ρ : List ℤ} → HasShape (a ∷ b ∷ c ∷ d ∷ e ∷ f ∷ g ∷ h ∷ i ∷ j ∷ ρ) j
has_9 = record { x = var 9; is = refl }

abbrev pub has_10 : {a b c d e f g h i j k : ℤ} {ρ : List ℤ} → HasShape (a ∷ b ∷ c ∷ d ∷ e ∷ f ∷ g ∷ h ∷ i ∷ j ∷ k ∷ ρ) k
has_10 = record { x = var 10; is = refl }

abbrev pub has_11 : {a b c d e f g h i j k l : ℤ} {ρ : List ℤ} → HasShape (a ∷ b ∷ c ∷ d ∷ e ∷ f ∷ g ∷ h ∷ i ∷ j ∷ k ∷ l ∷ ρ) l
has_11 = record { x = var 11; is = refl }

abbrev pub has_12 : {a b c d e f g h i j k l m : ℤ} {ρ : List ℤ} → HasShape (a ∷ b ∷ c ∷ d ∷ e ∷ f ∷ g ∷ h ∷ i ∷ j ∷ k ∷ l ∷ m ∷ ρ) m
has_12 = record { x = var 12; is = refl }

abbrev pub has_13 : {a b c d e f g h i j k l m n : ℤ} {ρ : List ℤ} → HasShape (a ∷ b ∷ c ∷ d ∷ e ∷ f ∷ g ∷ h ∷ i ∷ j ∷ k ∷ l ∷ m ∷ n ∷ ρ) n
has_13 = record { x = var 13; is = refl }

abbrev pub has_14 : {a b c d e f g h i j k l m n o : ℤ} {ρ : List ℤ} → HasShape (a ∷ b ∷ c ∷ d ∷ e ∷ f ∷ g ∷ h ∷ i ∷ j ∷ k ∷ l ∷ m ∷ n ∷ o ∷ ρ) o
has_14 = record { x = var 14; is = refl }

abbrev pub has_15 : {a b c d e f g h i j k l m n o p : ℤ} {ρ : List ℤ} → HasShape (a ∷ b ∷ c ∷ d ∷ e ∷ f ∷ g ∷ h ∷ i ∷ j ∷ k ∷ l ∷ m ∷ n ∷ o ∷ p ∷ ρ) p
has_15 = record { x = var 15; is = refl }

-- two integers at once
pub record HasShape² (ρ : List ℤ) (a b : ℤ) : Type 0 where
  pub l : HasShape ρ a
  pub r : HasShape ρ b

abbrev pub has² : {ρ : List ℤ} {a b : ℤ} → HasShape ρ a → HasShape ρ b → HasShape² ρ a b
has² x y = record { l = x; r = y }

-- what it adds (true) and what it takes off (false), two naturals
abbrev pub signed_part : List ℤ → Shape → Bool → ℕ
signed_part ρ (var i) true = plus_part (look ρ i)
signed_part ρ (var i) false = minus_part (look ρ i)
signed_part ρ (num k) true = plus_part k
signed_part ρ (num k) false = minus_part k
signed_part ρ (shape+ x y) c = signed_part ρ x c + signed_part ρ y c
signed_part ρ (shape_ x y) true = signed_part ρ x true + signed_part ρ y false
signed_part ρ (shape_ x y) false = signed_part ρ x false + signed_part ρ y true
signed_part ρ (shape* x y) true = signed_part ρ x true * signed_part ρ y true + signed_part ρ x false * signed_part ρ y false
signed_part ρ (shape* x y) false = signed_part ρ x true * signed_part ρ y false + signed_part ρ x false * signed_part ρ y true
signed_part ρ (shape¬ x) true = signed_part ρ x false
signed_part ρ (shape¬ x) false = signed_part ρ x true

parts_of : (ρ : List ℤ) (x : Shape) → Is (value ρ x) (signed_part ρ x true) (signed_part ρ x false)
parts_of ρ (var i) = is (look ρ i)
parts_of ρ (num k) = is k
parts_of ρ (shape+ x y) = parts_of ρ x ⊕ parts_of ρ y
parts_of ρ (shape_ x y) = parts_of ρ x ⊖ parts_of ρ y
parts_of ρ (shape* x y) = parts_of ρ x ⊗ parts_of ρ y
parts_of ρ (shape¬ x) = neg (parts_of ρ x)

pub shape_parts : {ρ : List ℤ} {z : ℤ} (f : HasShape ρ z) → Is z (signed_part ρ f.x true) (signed_part ρ f.x false)
shape_parts {ρ} f = subst (λ (z : ℤ). Is z (signed_part ρ f.x true) (signed_part ρ f.x false)) f.is (parts_of ρ f.x)
