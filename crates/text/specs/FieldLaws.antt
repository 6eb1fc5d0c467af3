-- Laws of fields: the first and the rest are the whole, and where a field lies in a line. Assumes nothing.
use Rattle.std.specs.Prelude.{◌≡◌, Bool, cond, ℕ, zero, suc, ◌+◌, ◌-◌, ◌≤◌, ◌<◌, eqb, Some, None, take, drop, get_or}
use Rattle.std.proofs.Math.Path.{refl}
use Rattle.std.proofs.Common.{ap, ◌∙◌, length-drop, drop-cons, drop-drop}
use Rattle.std.proofs.Math.Bool.{true, false}
use mathlib.Core.List.{List, [], ◌∷◌}
use native.Mathlib.Omega.{arith}
use Rattle.std.proofs.Math.ListN.{length}
use Rattle.std.specs.Option.{unwrap_or}
use Rattle.text.specs.Before.{before, before-length, before-take, before-cut}
use Rattle.text.specs.Fields.{space, onto, fields_of, first_field, rest_fields, letter_of, only_byte}

-- ════ over a list
pub first_and_rest : (l : List ℕ) → fields_of l ≡ first_field l ∷ rest_fields l
unfolding fields_of before rest_fields
first_and_rest [] = refl
first_and_rest (c ∷ cs) = by (eqb c space) (first_and_rest cs)
  where
    by :
        (t : Bool) →
        fields_of cs ≡ first_field cs ∷ rest_fields cs →
        cond t ([] ∷ fields_of cs) (onto c (fields_of cs)) ≡ cond t [] (c ∷ first_field cs) ∷ cond t (fields_of cs) (rest_fields cs)
    by true e = refl
    by false e = rw e

-- the first field reaches to the end: there are no others
whole-rest : (l : List ℕ) → length l ≤ length (first_field l) → rest_fields l ≡ []
unfolding before rest_fields
whole-rest [] h = refl
whole-rest (c ∷ cs) h = by (eqb c space) (whole-rest cs) h
  where
    by :
        (t : Bool) →
        (length cs ≤ length (first_field cs) → rest_fields cs ≡ []) →
        suc (length cs) ≤ length (cond t [] (c ∷ first_field cs)) →
        cond t (fields_of cs) (rest_fields cs) ≡ []
    by true e h = absurd (omega arith)
    by false e h = e (omega arith)

-- else they start past the blank after it
part_rest : (l : List ℕ) → length (first_field l) < length l → rest_fields l ≡ fields_of (drop (suc (length (first_field l))) l)
unfolding before rest_fields
part_rest [] h = absurd (omega arith)
part_rest (c ∷ cs) h = by (eqb c space) (part_rest cs) h
  where
    by :
        (t : Bool) →
        (length (first_field cs) < length cs → rest_fields cs ≡ fields_of (drop (suc (length (first_field cs))) cs)) →
        length (cond t [] (c ∷ first_field cs)) < suc (length cs) →
        cond t (fields_of cs) (rest_fields cs) ≡ fields_of (drop (length (cond t [] (c ∷ first_field cs))) cs)
    by true e h = refl
    by false e h = e (omega arith)

-- 0 stands for no letter
pub letter_or_none : (f : List ℕ) → letter_of f ≡ unwrap_or (only_byte f) 0
unfolding letter_of only_byte
letter_or_none [] = refl
letter_or_none (c ∷ []) = refl
letter_or_none (c ∷ d ∷ cs) = refl

-- ════ the field that starts at i of a line, and ends before e
module _ (s : List ℕ) (i e : ℕ) (is : e ≡ i + length (first_field (drop i s))) where
  rest-length : length (first_field (drop i s)) ≤ length s - i
  rest-length = rw length-drop at (before-length space (drop i s))

  pub end_within : i ≤ length s → e ≤ length s
  end_within h = omega (arith, rest-length)

  field_is : take (e - i) (drop i s) ≡ first_field (drop i s)
  field_is = let k : e - i ≡ length (first_field (drop i s)) = omega arith in rw k (before-take space (drop i s))

  pub no_rest : length s ≤ e → rest_fields (drop i s) ≡ []
  no_rest h = whole-rest (drop i s) (rw length-drop (omega arith))

  pub some_rest : e < length s → rest_fields (drop i s) ≡ fields_of (drop (e + 1) s)
  some_rest h =
      let n : i + suc (length (first_field (drop i s))) ≡ e + 1 = omega arith in
      part_rest (drop i s) (rw length-drop (omega arith)) ∙ rw (drop-drop, n)

  pub fields_here : fields_of (drop i s) ≡ take (e - i) (drop i s) ∷ rest_fields (drop i s)
  fields_here = rw field_is (first_and_rest (drop i s))

  pub fields-last : length s ≤ e → fields_of (drop i s) ≡ take (e - i) (drop i s) ∷ []
  fields-last h = fields_here ∙ rw (no_rest h)

  pub fields-more : e < length s → fields_of (drop i s) ≡ take (e - i) (drop i s) ∷ fields_of (drop (e + 1) s)
  fields-more h = fields_here ∙ rw (some_rest h)

  -- ════ a field of one byte
  pub one_byte : e - i ≡ 1 → only_byte (first_field (drop i s)) ≡ Some (get_or s i 0)
  unfolding only_byte before
  one_byte h =
      let inside : i < length s = omega (arith, rest-length) in
      let k : length (first_field (drop i s)) ≡ 1 = omega arith in
      rw (drop-cons s i 0 inside) (only (get_or s i 0) (drop (suc i) s) (rw (drop-cons s i 0 inside) at k))
    where
      only : (c : ℕ) (cs : List ℕ) → length (first_field (c ∷ cs)) ≡ 1 → only_byte (first_field (c ∷ cs)) ≡ Some c
      only c cs q = by (eqb c space) (first_field cs) q
        where
          by : (t : Bool) (f : List ℕ) → length (cond t [] (c ∷ f)) ≡ 1 → only_byte (cond t [] (c ∷ f)) ≡ Some c
          by true f q = absurd (omega arith)
          by false [] q = refl
          by false (d ∷ f) q = absurd (omega arith)

  pub no_byte : (e - i ≡ 1 → ⊥) → only_byte (first_field (drop i s)) ≡ None
  unfolding only_byte
  no_byte h = by (first_field (drop i s)) (λ q. h (omega arith))
    where
      by : (f : List ℕ) → (length f ≡ 1 → ⊥) → only_byte f ≡ None
      by [] q = refl
      by (c ∷ []) q = absurd (q refl)
      by (c ∷ d ∷ f) q = refl

  pub a_letter : e - i ≡ 1 → letter_of (first_field (drop i s)) ≡ get_or s i 0
  a_letter h = letter_or_none (first_field (drop i s)) ∙ rw (one_byte h)

  pub no_letter : (e - i ≡ 1 → ⊥) → letter_of (first_field (drop i s)) ≡ 0
  no_letter h = letter_or_none (first_field (drop i s)) ∙ rw (no_byte h)

  pub letter_inside : e - i ≡ 1 → i < length s
  letter_inside h = omega (arith, rest-length)

-- ════ a line that was cut
-- its first field is still known where that is one letter
pub letter_cut : (n : ℕ) (l : List ℕ) → 2 ≤ n → letter_of (first_field (take n l)) ≡ letter_of (first_field l)
unfolding letter_of
letter_cut n l h = ap letter_of (before-cut space n l) ∙ by n (first_field l) h
  where
    by : (n : ℕ) (f : List ℕ) → 2 ≤ n → letter_of (take n f) ≡ letter_of f
    by zero f h = absurd (omega arith)
    by (suc zero) f h = absurd (omega arith)
    by (suc (suc n)) [] h = refl
    by (suc (suc n)) (c ∷ []) h = refl
    by (suc (suc n)) (c ∷ d ∷ f) h = refl
