-- The numbers of a line as the code reads them: counted first, then stored. Assumes nothing.
use Rattle.std.specs.Prelude.{◌≡◌, Bool, cond, Option, Some, None, set, take, drop, ℤ}
use Rattle.std.proofs.Math.Path.{refl, sym}
use Rattle.std.proofs.Common.{ap, ◌∙◌, add-one, zero-add, length-drop, take_all}
use Rattle.std.proofs.Math.Bool.{true, false}
use mathlib.Core.List.{List, [], ◌∷◌}
use Prim.Native.Nat.{ℕ, zero, suc, ◌+◌, ◌-◌, ◌≤◌, ◌<◌}
use native.Mathlib.Omega.{arith}
use Rattle.std.proofs.Math.Dec.{leb, leb-zero}
use Rattle.std.proofs.Math.ListN.{length}
use Rattle.std.proofs.Math.Seq.{sets}
use borrow.Author.Tests.{le-leb, lt-leb, leb-true}
use Rattle.text.specs.Numbers.{number_in}
use Rattle.text.specs.Fields.{fields_of, first_field, rest_fields, FieldNumbers, numbers, unreadable, with_number, numbers_in, at_most, count_of, stored_in, Stored}
use Rattle.text.specs.FieldLaws.{no_rest, some_rest}

-- ════ counted
-- how many numbers there are with n with_number, where that is at most `most`
unfoldable pub count_after : ℕ → ℕ → FieldNumbers → Option ℕ
count_after n most unreadable = None
count_after n most (numbers vs) = cond (leb (n + length vs) most) (Some (n + length vs)) None

pub count_start : (most : ℕ) (ns : FieldNumbers) → count_after 0 most ns ≡ count_of (at_most most ns)
unfolding count_after count_of at_most
count_start most unreadable = refl
count_start most (numbers vs) = rw (zero-add (length vs)) (by (leb (length vs) most))
  where
    by : (t : Bool) → cond t (Some (length vs)) None ≡ count_of (cond t (numbers vs) unreadable)
    by true = refl
    by false = refl

-- the next field is r
module _ (n most : ℕ) (f : List ℕ) (r : Option ℤ) (is : r ≡ number_in f) where
  pub count_wrong : (fs : List (List ℕ)) → r ≡ None → None ≡ count_after n most (numbers_in (f ∷ fs))
  unfolding numbers_in count_after
  count_wrong fs e = rw (← is, e)

  module _ (v : ℤ) (e : r ≡ Some v) where
    pub count_last : n < most → Some (n + 1) ≡ count_after n most (numbers_in (f ∷ []))
    unfolding numbers_in count_after
    count_last h = rw (← is, e, le-leb (n + 1) most (omega arith))

    pub count_more : (fs : List (List ℕ)) → count_after (n + 1) most (numbers_in fs) ≡ count_after n most (numbers_in (f ∷ fs))
    unfolding numbers_in count_after
    count_more fs = rw (← is, e) (by (numbers_in fs))
      where
        by : (ns : FieldNumbers) → count_after (n + 1) most ns ≡ count_after n most (with_number (Some v) ns)
        by unreadable = refl
        by (numbers vs) = let k : n + 1 + length vs ≡ n + suc (length vs) = omega arith in rw k

pub count_full : (n most : ℕ) (f : List ℕ) (fs : List (List ℕ)) → most ≤ n → None ≡ count_after n most (numbers_in (f ∷ fs))
unfolding numbers_in count_after
count_full n most f fs h = by (number_in f) (numbers_in fs)
  where
    by : (r : Option ℤ) (ns : FieldNumbers) → None ≡ count_after n most (with_number r ns)
    by None ns = refl
    by (Some v) unreadable = refl
    by (Some v) (numbers vs) = rw (lt-leb (n + suc (length vs)) most (omega arith))

-- ════ stored
-- the numbers at the front of the fields, at most k of them
abbrev pub ahead : Option ℤ → List ℤ → List ℤ
ahead None vs = []
ahead (Some v) vs = v ∷ vs

unfoldable pub leading : ℕ → List (List ℕ) → List ℤ
leading zero fs = []
leading (suc k) [] = []
leading (suc k) (f ∷ fs) = ahead (number_in f) (leading k fs)

-- where all are numbers, and there is room, these are all of them
leading_all : (k : ℕ) (fs : List (List ℕ)) (vs : List ℤ) → numbers_in fs ≡ numbers vs → length vs ≤ k → leading k fs ≡ vs
unfolding leading numbers_in
leading_all zero [] [] e h = refl
leading_all zero [] (v ∷ vs) e h = absurd (omega arith)
leading_all zero (f ∷ fs) [] e h = refl
leading_all zero (f ∷ fs) (v ∷ vs) e h = absurd (omega arith)
leading_all (suc k) [] vs e h = cc
leading_all (suc k) (f ∷ fs) vs e h = by (number_in f) (numbers_in fs) refl e (leading_all k fs)
  where
    by :
        (r : Option ℤ) (ns : FieldNumbers) →
        numbers_in fs ≡ ns →
        with_number r ns ≡ numbers vs →
        ((us : List ℤ) → numbers_in fs ≡ numbers us → length us ≤ k → leading k fs ≡ us) →
        ahead r (leading k fs) ≡ vs
    by None ns q e all = cc
    by (Some v) unreadable q e all = cc
    by (Some v) (numbers us) q e all =
        let w : v ∷ us ≡ vs = cc in
        ap (λ (l : List ℤ). v ∷ l) (all us q (omega (arith, ap length w))) ∙ w

leading-none : (k : ℕ) → leading k [] ≡ []
unfolding leading
leading-none zero = refl
leading-none (suc k) = refl

-- n of at most `most` are stored in out, and the next field is r
module _ (most n : ℕ) (out : List ℤ) (f : List ℕ) (r : Option ℤ) (room : n < most) (is : r ≡ number_in f) where
  one : most - n ≡ suc (most - (n + 1))
  one = omega arith

  pub fill_wrong : (fs : List (List ℕ)) → r ≡ None → out ≡ sets out n (leading (most - n) (f ∷ fs))
  unfolding leading
  fill_wrong fs e = rw (one, ← is, e)

  -- u is what is stored of the number v
  module _ (v : ℤ) (e : r ≡ Some v) (u : ℤ) (same : u ≡ v) where
    pub fill_more :
        (fs : List (List ℕ)) → sets (set out n u) (n + 1) (leading (most - (n + 1)) fs) ≡ sets out n (leading (most - n) (f ∷ fs))
    unfolding leading
    fill_more fs = sym (rw (one, ← is, e, ← same, add-one))

    pub fill_last : set out n u ≡ sets out n (leading (most - n) (f ∷ []))
    unfolding leading
    fill_last = sym (rw (one, ← is, e, ← same, leading-none (most - (n + 1))))

pub fill_start : (most : ℕ) (out : List ℤ) (fs : List (List ℕ)) → sets out 0 (leading (most - 0) fs) ≡ sets out 0 (leading most fs)
fill_start most out fs = let e : most - 0 ≡ most = omega arith in rw e

pub fill_full : (most n : ℕ) (out : List ℤ) (fs : List (List ℕ)) → most ≤ n → out ≡ sets out n (leading (most - n) fs)
unfolding leading
fill_full most n out fs h = let e : most - n ≡ 0 = omega arith in rw e

-- ════ counted, then stored
module _ (out : List ℤ) (most : ℕ) (fs : List (List ℕ)) (r : Option ℕ) (is : r ≡ count_of (at_most most (numbers_in fs))) where
  pub stored-none : r ≡ None → Stored out (at_most most (numbers_in fs)) r out
  unfolding count_of stored_in
  stored-none e = record { counts = is; stores = by (at_most most (numbers_in fs)) (sym is ∙ e) }
    where
      by : (ns : FieldNumbers) → count_of ns ≡ None → out ≡ stored_in out ns
      by unreadable e = refl
      by (numbers vs) e = cc

  pub stored-all :
      (n : ℕ) (after : List ℤ) →
      r ≡ Some n →
      most ≤ length out →
      after ≡ sets out 0 (leading (length out) fs) →
      Stored out (at_most most (numbers_in fs)) r after
  unfolding count_of stored_in at_most
  stored-all n after e room w = record { counts = is; stores = w ∙ by (numbers_in fs) refl (sym e ∙ is) }
    where
      fits :
          (vs : List ℤ) (t : Bool) →
          numbers_in fs ≡ numbers vs →
          leb (length vs) most ≡ t →
          Some n ≡ count_of (cond t (numbers vs) unreadable) →
          sets out 0 (leading (length out) fs) ≡ stored_in out (cond t (numbers vs) unreadable)
      fits vs false q h e = cc
      fits vs true q h e = rw (leading_all (length out) fs vs q (omega (arith, leb-true (length vs) most h)))

      by :
          (ns : FieldNumbers) →
          numbers_in fs ≡ ns →
          Some n ≡ count_of (at_most most ns) →
          sets out 0 (leading (length out) fs) ≡ stored_in out (at_most most ns)
      by unreadable q e = cc
      by (numbers vs) q e = fits vs (leb (length vs) most) q refl e

-- ════ the fields after the one at i, which ends before e
module _ (out : List ℤ) (most : ℕ) (s : List ℕ) (i e : ℕ) (is : e ≡ i + length (first_field (drop i s))) where
  pub rest-none : length s ≤ e → Stored out (at_most most (numbers_in (rest_fields (drop i s)))) (Some 0) out
  unfolding count_of stored_in at_most numbers_in
  rest-none h = rw (no_rest s i e is h, leb-zero most) (record { counts = refl; stores = refl })

  pub rest_some :
      (r : Option ℕ) (after : List ℤ) →
      e < length s →
      Stored out (at_most most (numbers_in (fields_of (take (length s - (e + 1)) (drop (e + 1) s))))) r after →
      Stored out (at_most most (numbers_in (rest_fields (drop i s)))) r after
  rest_some r after h w =
      let all : take (length s - (e + 1)) (drop (e + 1) s) ≡ drop (e + 1) s = take_all (length s - (e + 1)) (drop (e + 1) s) (rw length-drop (omega arith)) in
      rw (some_rest s i e is h) (rw all at w)
