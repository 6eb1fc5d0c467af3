-- The chain `(0..n).all(p)` as the specs say it: `all_below n p`. Assumes nothing.
use Rattle.std.specs.Prelude.{ℕ, zero, suc, ◌+◌, ◌≡◌, refl, Bool, true, false, ◌&&◌}
use Rattle.std.specs.List.{list_all, range_with_len}
use Rattle.std.proofs.Common.{ap, ap₂, sym, ◌∙◌, arith}
use Rattle.lists.specs.All.{all_below, all_none, all_suc}

last : (b : Bool) → b && true ≡ b
last true = refl
last false = refl

regroup : (a b c : Bool) → a && (b && c) ≡ (a && b) && c
regroup true b c = refl
regroup false b c = refl

more : (p : ℕ → Bool) (a n : ℕ) → list_all p (range_with_len a (suc n)) ≡ list_all p (range_with_len a n) && p (a + n)
more p a zero = let e : a ≡ a + 0 = omega arith in last (p a) ∙ ap p e
more p a (suc n) =
    let e : (a + 1) + n ≡ a + suc n = omega arith in
    ap (λ b. p a && b) (more p (a + 1) n ∙ ap (λ k. list_all p (range_with_len (a + 1) n) && p k) e)
    ∙ regroup (p a) (list_all p (range_with_len (a + 1) n)) (p (a + suc n))

ranged : (p : ℕ → Bool) (n : ℕ) → list_all p (range_with_len 0 n) ≡ all_below n p
ranged p zero = sym (all_none p)
ranged p (suc n) =
    let e : 0 + n ≡ n = omega arith in
    more p 0 n ∙ ap₂ (λ (b : Bool) (k : ℕ). b && p k) (ranged p n) e ∙ sym (all_suc n p)

pub by_range : (p : ℕ → Bool) (n : ℕ) (r : Bool) → r ≡ list_all p (range_with_len 0 n) → r ≡ all_below n p
by_range p n r e = e ∙ ranged p n
