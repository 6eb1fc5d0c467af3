-- Loops that fill a list from the front: f k is stored at each index k. Assumes nothing.
use Rattle.std.specs.Prelude.{ℕ, ◌+◌, ◌<◌, ◌≤◌, ◌≡◌, refl, List, map, length, get_or, set}
use Rattle.std.proofs.Common.{sym, ◌∙◌, arith, below_none, below_more, length-set, get_or-set_same, get_or-set_other}
use Rattle.std.proofs.lemmas.List.{length-map}
use Rattle.integers.specs.Tables.{tabulate, is-tabulate}

-- of n elements, the first k are f's, and the others are l's; d is what a list has beyond its end
pub record Mapped {A : Type 0} (d : A) (n : ℕ) (f : ℕ → A) (l out : List A) (k : ℕ) : Type 0 where
  pub long : length out ≡ n
  pub done : (m : ℕ) → m < k → get_or out m d ≡ f m
  pub left : (m : ℕ) → k ≤ m → get_or out m d ≡ get_or l m d

module _ {A : Type 0} (d : A) (n : ℕ) (f : ℕ → A) (l : List A) where
  -- before the first turn
  pub starts : length l ≡ n → Mapped d n f l l 0
  starts e = record { long = e; done = below_none (λ m. get_or l m d ≡ f m); left = λ m h. refl }

  -- a turn
  pub goes_on : (out : List A) (k : ℕ) (v : A) → k < n → Mapped d n f l out k → v ≡ f k → Mapped d n f l (set out k v) (k + 1)
  goes_on out k v h p e =
      let inside : k < length out = let q : length out ≡ n = p.long in omega arith in
      record {
        long = length-set out k v ∙ p.long;
        done = below_more (λ m. get_or (set out k v) m d ≡ f m) k
            (λ m q. get_or-set_other out k m v d (λ w. omega arith) ∙ p.done m q)
            (get_or-set_same out k v d inside ∙ e);
        left = λ m q. get_or-set_other out k m v d (λ w. omega arith) ∙ p.left m (omega arith);
      }

  -- after the last
  pub finish : (out : List A) (k : ℕ) → n ≤ k → Mapped d n f l out k → out ≡ tabulate n f
  finish out k h p = is-tabulate n f out d p.long (λ m q. p.done m (omega arith))

-- an array of structs is held as the list of their images
pub length_mapped : (X Y : Type 0) (f : X → Y) (l : List X) (n : ℕ) → length (map f l) ≡ n → length l ≡ n
length_mapped X Y f l n e = sym (length-map l f) ∙ e
