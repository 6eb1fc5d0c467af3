-- From an opening and a run to what a replay promises. Assumes nothing.
use Prim.Native.Nat.{ℕ}
use mathlib.Core.Path.{◌≡◌, refl, sym, ap, ◌∙◌, subst}
use mathlib.Core.Bool.{Bool, true, false, cond}
use mathlib.Core.List.{List, []}
use native.Mathlib.Omega.{arith}
use lib.IntN.{ℤ}
use lib.ListN.{take}
use Rattle.words.specs.Bools.{clash}
use Rattle.network.specs.Stations.{network_of, opens, open_no}
use Rattle.network.specs.OpeningLaws.{opened-fits}
use Rattle.book.specs.declared.Book.{Book}
use Rattle.book.specs.Outcome.{Outcome}
use Rattle.book.specs.Book.{opened_book, opening}
use Rattle.book.specs.Rows.{rows_in}
use Rattle.book.specs.Demand3Holds.{demanded}
use Rattle.book.specs.Replay.{Ran, row_count, Replayed}

open_refusal : (t : Bool) (b c : Book) → (cond {A = Outcome} t (record { refusal = 0; book = b }) (record { refusal = 1; book = c })).refusal ≡ cond t 0 1
open_refusal true b c = refl
open_refusal false b c = refl

open_book : (t : Bool) (b c : Book) → t ≡ true → (cond {A = Outcome} t (record { refusal = 0; book = b }) (record { refusal = 1; book = c })).book ≡ b
open_book true b c e = refl
open_book false b c e = clash refl (sym e)

is_open : (t : Bool) → ◌≡◌ {A = ℕ} (cond t 0 1) 0 → t ≡ true
is_open true e = refl
is_open false e = absurd (let z : ◌≡◌ {A = ℕ} 1 0 = e in omega arith)

module _ (list words before : List ℤ) (e : Outcome) (o : e ≡ opening list) where
  refusal_is : e.refusal ≡ open_no list
  refusal_is = ap (λ (x : Outcome). x.refusal) o ∙ open_refusal (opens list) (opened_book (network_of list)) (opened_book (network_of []))

  opened : opens list ≡ true → e.book ≡ opened_book (network_of list)
  opened t = ap (λ (x : Outcome). x.book) o ∙ open_book (opens list) (opened_book (network_of list)) (opened_book (network_of [])) t

  pub replay_refused : (e.refusal ≡ 0 → ⊥) → Replayed list words before before e
  replay_refused h =
      let never : opens list ≡ true → ⊥ = λ t. h (refusal_is ∙ ap (λ (x : Bool). cond x 0 1) t) in
      record { refusal = refusal_is; demand = λ t. absurd (never t); left = λ t. absurd (never t); beyond = refl; unopened = λ f. (o, refl) }

  pub replay_done : e.refusal ≡ 0 → (n : ℕ) → n ≡ row_count words before → (after : List ℤ) (last : Book) → Ran e.book words n before after last
      → Replayed list words before after (record { refusal = 0; book = last })
  replay_done z n count after last r =
      let t : opens list ≡ true = is_open (opens list) (sym refusal_is ∙ z) in
      let m = row_count words before in
      let q : Ran (opened_book (network_of list)) words m before after last =
      subst (λ (x : Book). Ran x words m before after last) (opened t) (subst (λ (k : ℕ). Ran e.book words k before after last) count r) in
      record {
        refusal = sym z ∙ refusal_is;
        demand = λ u. demanded (network_of list) (opened-fits list t) (rows_in words m) (take m after) _ last q.answered (λ k. refl) q.left;
        left = λ u. q.left;
        beyond = q.beyond;
        unopened = λ f. clash t f;
      }
