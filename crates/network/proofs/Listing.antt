-- The loop that lists the components of the unknowns by their numbers.
use Prim.Native.Nat.{ℕ, zero, suc, ◌+◌, ◌<◌, ◌≤◌}
use mathlib.Core.Path.{◌≡◌, refl, sym, ap, ◌∙◌}
use mathlib.Core.List.{List}
use mathlib.Core.Logic.{◌⊎◌, inl, inr}
use native.Mathlib.Omega.{arith}
use native.Mathlib.Decide.{dec_lt, ℕ_discrete}
use borrow.Author.Tests.{ltb-false}
use mathlib.Core.Bool.{false, ◌&&◌}
use lib.Dec.{eqb, ltb}
use lib.ListN.{length, get_or, set, length-set}
use lib.Seq.{get_or-set_same, get_or-set_other}
use Rattle.integers.specs.Tables.{tabulate, is-tabulate}
use Rattle.network.specs.declared.Station.{Station}
use Rattle.network.specs.Stations.{unknown, number, unknown_count, component_of}
use Rattle.network.specs.ComponentLaws.{component_of-number, component_beyond}

-- of 48 entries, those below n are the components of these numbers, and the others 96
pub record Listed (st : List Station) (out : List ℕ) (n : ℕ) : Type 0 where
  pub long : length out ≡ 48
  pub done : (m : ℕ) → m < n → m < 48 → get_or out m 96 ≡ component_of st m
  pub left : (m : ℕ) → n ≤ m → m < 48 → get_or out m 96 ≡ 96

module _ (st : List Station) where
  pub listing_starts : (out : List ℕ) → length out ≡ 48 → ((m : ℕ) → m < 48 → get_or out m 96 ≡ 96) → Listed st out 0
  listing_starts out e h = record { long = e; done = λ m k l. absurd (omega arith); left = λ m k l. h m l }

  -- an unknown that has room
  pub listing_puts : (out : List ℕ) (n q b : ℕ) → n ≡ number st q → b ≡ unknown st q → b ≡ 1 → q < 96 → n < 48 → Listed st out n → Listed st (set out n q) (n + b)
  listing_puts out n q b e f u h k g =
      record {
        long = length-set out n q ∙ g.long;
        done = λ m a l. put m a l (ℕ_discrete m n);
        left = λ m a l. get_or-set_other out n m q 96 (λ w. omega arith) ∙ g.left m (omega arith) l;
      }
    where
      put : (m : ℕ) → m < n + b → m < 48 → Dec (m ≡ n) → get_or (set out n q) m 96 ≡ component_of st m
      put m a l (yes d) =
          let inside : n < length out = let s : length out ≡ 48 = g.long in omega arith in
          ap (λ (j : ℕ). get_or (set out n q) j 96) d ∙ get_or-set_same out n q 96 inside
          ∙ sym (component_of-number st q h (sym f ∙ u)) ∙ ap (component_of st) (sym e ∙ sym d)
      put m a l (no d) = get_or-set_other out n m q 96 (λ w. d w) ∙ g.done m (omega arith) l

  -- a held component, or no room
  pub listing_skips : (out : List ℕ) (n b : ℕ) → Listed st out n → (b ≡ 0) ⊎ (48 ≤ n) → Listed st out (n + b)
  listing_skips out n b g (inl e) =
      record { long = g.long; done = λ m a l. g.done m (omega arith) l; left = λ m a l. g.left m (omega arith) l }
  listing_skips out n b g (inr e) =
      record { long = g.long; done = λ m a l. g.done m (omega arith) l; left = λ m a l. absurd (omega arith) }

  pub listing_ends : (out : List ℕ) → Listed st out (unknown_count st) → out ≡ tabulate 48 (component_of st)
  listing_ends out g = is-tabulate 48 (component_of st) out 96 g.long (λ m h. one m h (dec_lt m (unknown_count st)))
    where
      one : (m : ℕ) → m < 48 → Dec (m < unknown_count st) → get_or out m 96 ≡ component_of st m
      one m h (yes p) = g.done m p h
      one m h (no p) = let q : unknown_count st ≤ m = omega arith in g.left m q h ∙ sym (component_beyond st m q)

-- what the test told where it was not taken
pub no_room : (b n : ℕ) → b ≤ 1 → eqb b 1 && ltb n 48 ≡ false → (b ≡ 0) ⊎ (48 ≤ n)
no_room zero n h e = inl refl
no_room (suc zero) n h e = inr (ltb-false n 48 e)
no_room (suc (suc b)) n h e = absurd (omega arith)
