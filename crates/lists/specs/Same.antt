-- Two lists of numbers compared entry by entry. Assumes nothing.
use Rattle.std.specs.Prelude.{ℕ, ◌+◌, ◌<◌, ◌≡◌, refl, Bool, true, false, ◌&&◌, List, eqb, length, get_or, ℤ, pos}
use Rattle.std.proofs.Common.{sym, ap, ◌∙◌, subst, arith, add-one, eqb-true, eq-eqb, ext_get_or}
use Rattle.std.specs.Bool.{Decides}
use Rattle.std.specs.Ordering.{int_eq}
use Rattle.std.specs.Cmp.Lexicographic.{pointwise}
use Rattle.std.specs.Cmp.Rules.{signed_items}
use Rattle.std.proofs.lemmas.Bool.Decides.{same_from_decides}
use Rattle.words.specs.Signed.{eq_z}
use Rattle.words.specs.SignedLaws.{eq_z_true, eq-eq_z}
use Rattle.words.specs.Bools.{clash, and_left, and_right, and_both}
use Rattle.lists.specs.All.{all_below, all_suc, all_at, all_by}

-- the first n entries of two lists
abbrev pub same_entries : ℕ → List ℤ → List ℤ → Bool
same_entries n a b = all_below n (λ k. eq_z (get_or a k (pos 0)) (get_or b k (pos 0)))

-- two lists
unfoldable pub same_list : List ℤ → List ℤ → Bool
same_list a b = eqb (length a) (length b) && same_entries (length a) a b

-- the lists of n entries are equal
pub same_list_lem : (n : ℕ) (a b : List ℤ) → length a ≡ n → length b ≡ n → same_entries n a b ≡ true → a ≡ b
same_list_lem n a b e f h = ext_get_or (pos 0) a b (e ∙ sym f) (λ k l. eq_z_true _ _ (all_at n _ k h (subst (λ (m : ℕ). k < m) e l)))

pub list_same : (n : ℕ) (a b : List ℤ) → a ≡ b → same_entries n a b ≡ true
list_same n a b e = all_by n _ (λ k l. eq-eq_z _ _ (ap (λ (x : List ℤ). get_or x k (pos 0)) e))

-- ════ two lists, by their lengths
pub same_long : (a b : List ℤ) → length a ≡ length b → same_list a b ≡ same_entries (length a) a b
unfolding same_list
same_long a b e = rw (eq-eqb (length a) (length b) e)

-- ════ `same_list` is equality, and what `==` on slices and arrays of numbers answers
pub same_list-Decides : (a b : List ℤ) → Decides (same_list a b) (a ≡ b)
unfolding same_list
same_list-Decides a b = (
  λ e. let long : length a ≡ length b = eqb-true _ _ (and_left (eqb (length a) (length b)) _ e) in
      same_list_lem (length a) a b refl (sym long) (and_right (eqb (length a) (length b)) _ e),
  λ e. and_both _ _ (eq-eqb _ _ (ap length e)) (list_same (length a) a b e),
)

-- of an `==` the code has r ≡ pointwise int_eq a b
pub eq-same_list : (a b : List ℤ) → pointwise int_eq a b ≡ same_list a b
eq-same_list a b = same_from_decides _ _ (signed_items a b) (same_list-Decides a b)

-- ════ a loop over the entries
module _ (a b : List ℤ) where
  pub same_none : same_entries 0 a b ≡ true
  same_none = all_by 0 _ (λ k l. absurd (omega arith))

  pub same_more : (i : ℕ) → same_entries i a b ≡ true → eq_z (get_or a i (pos 0)) (get_or b i (pos 0)) ≡ true → same_entries (i + 1) a b ≡ true
  same_more i e f = ap (λ (n : ℕ). same_entries n a b) (add-one i) ∙ all_suc i _ ∙ and_both _ _ e f

  pub same_not : (n i : ℕ) → i < n → eq_z (get_or a i (pos 0)) (get_or b i (pos 0)) ≡ false → same_entries n a b ≡ false
  same_not n i h e = go (same_entries n a b) refl
    where
      go : (t : Bool) → same_entries n a b ≡ t → same_entries n a b ≡ false
      go true q = clash (all_at n _ i q h) e
      go false q = q
