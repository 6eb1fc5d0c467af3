-- `are_of` compares with what `add_records` makes of zeros, first N and then u; `==` is `same_list`, which compares lists of one length whole. Assumes nothing.
use Rattle.std.proofs.Common.{◌≡◌, refl, sym, ap, ap₂, ◌∙◌, ◌&&◌, Bool, List, ℕ, length, ℤ}
use Rattle.std.specs.Ordering.{int_eq}
use Rattle.std.specs.Cmp.Lexicographic.{pointwise}
use Rattle.integers.specs.Tables.{length-tabulate}
use Rattle.lists.specs.Same.{same_list, same_entries, same_long, eq-same_list}
use Rattle.normals.specs.Same.{same_normals}
use Rattle.normals.proofs.are_of.Goals as goal

-- r tells whether a list of n entries is b, which is worked out as c
compared : (n : ℕ) (a b c : List ℤ) (r : Bool) → r ≡ pointwise int_eq a b → length a ≡ n → length c ≡ n → b ≡ c → r ≡ same_entries n a c
compared n a b c r h e f q =
    h ∙ eq-same_list a b ∙ ap (same_list a) q ∙ same_long a c (e ∙ sym f) ∙ ap (λ (m : ℕ). same_entries m a c) e

pub returns-then-eq : goal.returns-then-eq
unfolding same_normals
returns-then-eq c =
    ap₂ ◌&&◌
    (sym c.if-eq.true ∙ compared 2304 _ _ _ _ c.eq.ensures c.requires.2 (length-tabulate 2304 _) (c.as_slice.ensures ∙ c.add_records.ensures.matrix))
    (compared 48 _ _ _ _ c.eq-then-eq.ensures c.requires.3 (length-tabulate 48 _) (c.as_slice-then-eq.ensures ∙ c.add_records.ensures.right))

pub returns-else-eq : goal.returns-else-eq
unfolding same_normals
returns-else-eq c =
    c.if-eq.false
    ∙ ap₂ ◌&&◌
    (sym c.if-eq.false ∙ compared 2304 _ _ _ _ c.eq.ensures c.requires.2 (length-tabulate 2304 _) (c.as_slice.ensures ∙ c.add_records.ensures.matrix))
    refl
