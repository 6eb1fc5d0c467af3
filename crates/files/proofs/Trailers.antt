-- Three words stored into sixteen make an entry of the first thirteen. Assumes nothing.
use Rattle.std.proofs.Common.{◌≡◌, ℕ, List, [], ◌∷◌, ◌++◌, length, take, set, ℤ, sym, ap, ◌∙◌, append_assoc, arith, length-set, take_all, take-suc-set}
use Rattle.words.specs.Signed.{signed}
use Rattle.files.specs.Entries.{previous_trailer, sum_of, fifteen_words, entry_words}

module _ (start : ℕ) (w : List ℤ) (long : length w ≡ 16) (a b : ℤ) (p : a ≡ signed start) (q : b ≡ previous_trailer start) where
  abbrev v : List ℤ
  v = set (set w 13 a) 14 b

  fifteen : take 15 v ≡ fifteen_words start (take 13 w)
  unfolding fifteen_words
  fifteen =
      take-suc-set (set w 13 a) 14 b (rw length-set (omega arith))
      ∙ ap (λ (l : List ℤ). l ++ (b ∷ [])) (take-suc-set w 13 a (omega arith))
      ∙ append_assoc (take 13 w) (a ∷ []) (b ∷ [])
      ∙ cc

  pub trailer_is : {c : ℤ} → c ≡ sum_of (take 15 v) → set v 15 c ≡ entry_words start (take 13 w)
  unfolding entry_words
  trailer_is {c} r =
      let l : length v ≡ 16 = length-set (set w 13 a) 14 b ∙ length-set w 13 a ∙ long in
      sym (take_all 16 (set v 15 c) (rw length-set (omega arith))) ∙ take-suc-set v 15 c (omega arith) ∙ cc fifteen
