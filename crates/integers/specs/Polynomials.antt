-- The normal form of an expression: a list of terms, each a coefficient and its unknowns, sorted. Two expressions are equal where the normal form of their difference is 0, which is
-- a computation. Users need nothing here: `ring` (Solvers) rests on it. Names in M are of monomials (lists of unknowns), in T of terms, in P of polynomials (lists of terms).
use Rattle.std.specs.Prelude.{◌≡◌, refl, Bool, true, false, not, cond, List, [], ◌∷◌, ℕ, T, ltb, eqb, ℤ, pos, negsuc, neg_ℤ, ◌+ℤ◌, ◌-ℤ◌, ◌*ℤ◌}
use Rattle.std.proofs.Common.{sym, ap, ap₂, ◌∙◌, subst, arith, eqb→eq}
use Rattle.std.proofs.Math.IntN.{+ℤ_assoc, zero-*ℤ, *ℤ-zero, +ℤ_idl}
use Rattle.integers.specs.Differences.{is, is_eq, ◌⊕◌, ◌⊖◌, ◌⊗◌, neg}
use Rattle.integers.specs.Laws.{*ℤ_assoc, *ℤ_distl, *ℤ_distr, *ℤ_idl, *ℤ_lcomm, +ℤ_lcomm, -ℤ-zero-eq}
use Rattle.integers.specs.Expressions.{Shape, var, num, shape+, shape_, shape*, shape¬, look, value}

pub data Term : Type 0 where
  term : ℤ → List ℕ → Term

abbrev pub monomial : List ℤ → List ℕ → ℤ
monomial ρ [] = pos 1
monomial ρ (i ∷ m) = look ρ i *ℤ monomial ρ m

abbrev pub term_value : List ℤ → Term → ℤ
term_value ρ (term c m) = c *ℤ monomial ρ m

abbrev pub polynomial : List ℤ → List Term → ℤ
polynomial ρ [] = pos 0
polynomial ρ (t ∷ p) = term_value ρ t +ℤ polynomial ρ p

cond_case : {A : Type 0} (Q : A → Type 0) (c : Bool) (x y : A) → (T c → Q x) → (T (not c) → Q y) → Q (cond c x y)
cond_case Q true x y f g = f tt
cond_case Q false x y f g = g tt

-- one unknown more
abbrev pub insert_m : ℕ → List ℕ → List ℕ
insert_m i [] = i ∷ []
insert_m i (j ∷ m) = let r = j ∷ insert_m i m in cond (ltb j i) r (i ∷ j ∷ m)

insert_m_ok : (ρ : List ℤ) (i : ℕ) (m : List ℕ) → monomial ρ (insert_m i m) ≡ look ρ i *ℤ monomial ρ m
insert_m_ok ρ i [] = refl
insert_m_ok ρ i (j ∷ m) =
    cond_case (λ (k : List ℕ). monomial ρ k ≡ look ρ i *ℤ (look ρ j *ℤ monomial ρ m)) (ltb j i) (j ∷ insert_m i m) (i ∷ j ∷ m)
    (λ t. ap (λ (z : ℤ). look ρ j *ℤ z) (insert_m_ok ρ i m) ∙ *ℤ_lcomm (look ρ j) (look ρ i) (monomial ρ m))
    (λ t. refl)

abbrev pub mul_m : List ℕ → List ℕ → List ℕ
mul_m [] n = n
mul_m (i ∷ m) n = insert_m i (mul_m m n)

mul_m_ok : (ρ : List ℤ) (m n : List ℕ) → monomial ρ (mul_m m n) ≡ monomial ρ m *ℤ monomial ρ n
mul_m_ok ρ [] n = sym (*ℤ_idl (monomial ρ n))
mul_m_ok ρ (i ∷ m) n = insert_m_ok ρ i (mul_m m n) ∙ ap (λ (z : ℤ). look ρ i *ℤ z) (mul_m_ok ρ m n) ∙ sym (*ℤ_assoc (look ρ i) (monomial ρ m) (monomial ρ n))

abbrev pub eq_m : List ℕ → List ℕ → Bool
eq_m [] [] = true
eq_m [] (j ∷ n) = false
eq_m (i ∷ m) [] = false
eq_m (i ∷ m) (j ∷ n) = let r = eq_m m n in cond (eqb i j) r false

eq_m_ok : (m n : List ℕ) → T (eq_m m n) → m ≡ n
eq_m_ok [] [] t = refl
eq_m_ok [] (j ∷ n) t = absurd t
eq_m_ok (i ∷ m) [] t = absurd t
eq_m_ok (i ∷ m) (j ∷ n) t =
    cond_case (λ (c : Bool). T c → ◌≡◌ {A = List ℕ} (i ∷ m) (j ∷ n)) (eqb i j) (eq_m m n) false
    (λ e u. ap₂ {C = List ℕ} ◌∷◌ (eqb→eq i j e) (eq_m_ok m n u)) (λ e u. absurd u) t

-- one term more
abbrev pub add_t : ℤ → List ℕ → List Term → List Term
add_t c m [] = term c m ∷ []
add_t c m (term d n ∷ p) = let r = term d n ∷ add_t c m p in let s = term (c +ℤ d) n ∷ p in cond (eq_m m n) s r

add_t_ok : (ρ : List ℤ) (c : ℤ) (m : List ℕ) (p : List Term) → polynomial ρ (add_t c m p) ≡ c *ℤ monomial ρ m +ℤ polynomial ρ p
add_t_ok ρ c m [] = refl
add_t_ok ρ c m (term d n ∷ p) =
    cond_case (λ (q : List Term). polynomial ρ q ≡ c *ℤ monomial ρ m +ℤ (d *ℤ monomial ρ n +ℤ polynomial ρ p)) (eq_m m n) (term (c +ℤ d) n ∷ p) (term d n ∷ add_t c m p)
    (λ t. subst (λ (k : List ℕ). (c +ℤ d) *ℤ monomial ρ n +ℤ polynomial ρ p ≡ c *ℤ monomial ρ k +ℤ (d *ℤ monomial ρ n +ℤ polynomial ρ p)) (sym (eq_m_ok m n t))
    (ap (λ (z : ℤ). z +ℤ polynomial ρ p) (*ℤ_distr c d (monomial ρ n)) ∙ +ℤ_assoc (c *ℤ monomial ρ n) (d *ℤ monomial ρ n) (polynomial ρ p)))
    (λ t. ap (λ (z : ℤ). d *ℤ monomial ρ n +ℤ z) (add_t_ok ρ c m p) ∙ +ℤ_lcomm (d *ℤ monomial ρ n) (c *ℤ monomial ρ m) (polynomial ρ p))

abbrev pub add_p : List Term → List Term → List Term
add_p [] q = q
add_p (term c m ∷ p) q = add_t c m (add_p p q)

add_p_ok : (ρ : List ℤ) (p q : List Term) → polynomial ρ (add_p p q) ≡ polynomial ρ p +ℤ polynomial ρ q
add_p_ok ρ [] q = sym (+ℤ_idl (polynomial ρ q))
add_p_ok ρ (term c m ∷ p) q = add_t_ok ρ c m (add_p p q) ∙ ap (λ (z : ℤ). c *ℤ monomial ρ m +ℤ z) (add_p_ok ρ p q) ∙ sym (+ℤ_assoc (c *ℤ monomial ρ m) (polynomial ρ p) (polynomial ρ q))

-- c m times q, added to r
abbrev pub mul_t : ℤ → List ℕ → List Term → List Term → List Term
mul_t c m [] r = r
mul_t c m (term d n ∷ q) r = add_t (c *ℤ d) (mul_m m n) (mul_t c m q r)

quad : (c d m n : ℤ) → (c *ℤ d) *ℤ (m *ℤ n) ≡ (c *ℤ m) *ℤ (d *ℤ n)
quad c d m n = is_eq (is c ⊗ is d ⊗ (is m ⊗ is n)) (is c ⊗ is m ⊗ (is d ⊗ is n)) (omega arith)

mul_t_ok : (ρ : List ℤ) (c : ℤ) (m : List ℕ) (q r : List Term) → polynomial ρ (mul_t c m q r) ≡ (c *ℤ monomial ρ m) *ℤ polynomial ρ q +ℤ polynomial ρ r
mul_t_ok ρ c m [] r = sym (ap (λ (z : ℤ). z +ℤ polynomial ρ r) (*ℤ-zero (c *ℤ monomial ρ m)) ∙ +ℤ_idl (polynomial ρ r))
mul_t_ok ρ c m (term d n ∷ q) r =
    add_t_ok ρ (c *ℤ d) (mul_m m n) (mul_t c m q r)
    ∙ ap₂ ◌+ℤ◌ (ap (λ (z : ℤ). c *ℤ d *ℤ z) (mul_m_ok ρ m n) ∙ quad c d (monomial ρ m) (monomial ρ n)) (mul_t_ok ρ c m q r)
    ∙ sym (+ℤ_assoc (c *ℤ monomial ρ m *ℤ (d *ℤ monomial ρ n)) (c *ℤ monomial ρ m *ℤ polynomial ρ q) (polynomial ρ r))
    ∙ ap (λ (z : ℤ). z +ℤ polynomial ρ r) (sym (*ℤ_distl (c *ℤ monomial ρ m) (d *ℤ monomial ρ n) (polynomial ρ q)))

abbrev pub mul_p : List Term → List Term → List Term
mul_p [] q = []
mul_p (term c m ∷ p) q = mul_t c m q (mul_p p q)

mul_p_ok : (ρ : List ℤ) (p q : List Term) → polynomial ρ (mul_p p q) ≡ polynomial ρ p *ℤ polynomial ρ q
mul_p_ok ρ [] q = sym (zero-*ℤ (polynomial ρ q))
mul_p_ok ρ (term c m ∷ p) q =
    mul_t_ok ρ c m q (mul_p p q) ∙ ap (λ (z : ℤ). c *ℤ monomial ρ m *ℤ polynomial ρ q +ℤ z) (mul_p_ok ρ p q)
    ∙ sym (*ℤ_distr (c *ℤ monomial ρ m) (polynomial ρ p) (polynomial ρ q))

-- sign k times x, added to r
abbrev pub normal : Shape → List Term
normal (var i) = term (pos 1) (i ∷ []) ∷ []
normal (num k) = term k [] ∷ []
normal (shape+ x y) = add_p (normal x) (normal y)
normal (shape_ x y) = mul_t (negsuc 0) [] (normal y) (normal x)
normal (shape* x y) = mul_p (normal x) (normal y)
normal (shape¬ x) = mul_t (negsuc 0) [] (normal x) []

minus_one : (a b : ℤ) → (negsuc 0 *ℤ pos 1) *ℤ a +ℤ b ≡ b -ℤ a
minus_one a b = is_eq (is (negsuc 0 *ℤ pos 1) ⊗ is a ⊕ is b) (is b ⊖ is a) (omega arith)

minus_one_zero : (a : ℤ) → (negsuc 0 *ℤ pos 1) *ℤ a +ℤ pos 0 ≡ neg_ℤ a
minus_one_zero a = is_eq (is (negsuc 0 *ℤ pos 1) ⊗ is a ⊕ is (pos 0)) (neg (is a)) (omega arith)

one_var : (a : ℤ) → pos 1 *ℤ (a *ℤ pos 1) +ℤ pos 0 ≡ a
one_var a = is_eq (is (pos 1) ⊗ (is a ⊗ is (pos 1)) ⊕ is (pos 0)) (is a) (omega arith)

const : (a : ℤ) → a *ℤ pos 1 +ℤ pos 0 ≡ a
const a = is_eq (is a ⊗ is (pos 1) ⊕ is (pos 0)) (is a) (omega arith)

normal_ok : (ρ : List ℤ) (x : Shape) → polynomial ρ (normal x) ≡ value ρ x
normal_ok ρ (var i) = one_var (look ρ i)
normal_ok ρ (num k) = const k
normal_ok ρ (shape+ x y) = add_p_ok ρ (normal x) (normal y) ∙ ap₂ ◌+ℤ◌ (normal_ok ρ x) (normal_ok ρ y)
normal_ok ρ (shape_ x y) = mul_t_ok ρ (negsuc 0) [] (normal y) (normal x) ∙ minus_one (polynomial ρ (normal y)) (polynomial ρ (normal x)) ∙ ap₂ ◌-ℤ◌ (normal_ok ρ x) (normal_ok ρ y)
normal_ok ρ (shape* x y) = mul_p_ok ρ (normal x) (normal y) ∙ ap₂ ◌*ℤ◌ (normal_ok ρ x) (normal_ok ρ y)
normal_ok ρ (shape¬ x) = mul_t_ok ρ (negsuc 0) [] (normal x) [] ∙ minus_one_zero (polynomial ρ (normal x)) ∙ ap neg_ℤ (normal_ok ρ x)

abbrev pub is_zero : ℤ → Bool
is_zero (pos n) = eqb n 0
is_zero (negsuc n) = false

is_zero_ok : (z : ℤ) → T (is_zero z) → z ≡ pos 0
is_zero_ok (pos n) t = ap pos (eqb→eq n 0 t)
is_zero_ok (negsuc n) t = absurd t

abbrev pub zeros : List Term → Bool
zeros [] = true
zeros (term c m ∷ p) = let r = zeros p in cond (is_zero c) r false

zeros_ok : (ρ : List ℤ) (p : List Term) → T (zeros p) → polynomial ρ p ≡ pos 0
zeros_ok ρ [] t = refl
zeros_ok ρ (term c m ∷ p) t =
    cond_case (λ (b : Bool). T b → c *ℤ monomial ρ m +ℤ polynomial ρ p ≡ pos 0) (is_zero c) (zeros p) false
    (λ e u. ap₂ ◌+ℤ◌ (ap (λ (z : ℤ). z *ℤ monomial ρ m) (is_zero_ok c e) ∙ zero-*ℤ (monomial ρ m)) (zeros_ok ρ p u)) (λ e u. absurd u) t

pub zeros-eq : (ρ : List ℤ) (x y : Shape) → T (zeros (normal (shape_ x y))) → value ρ x ≡ value ρ y
zeros-eq ρ x y t = -ℤ-zero-eq (value ρ x) (value ρ y) (sym (normal_ok ρ (shape_ x y)) ∙ zeros_ok ρ (normal (shape_ x y)) t)
