-- The cases of an opening on lent bytes. Assumes nothing.
use Prim.Native.Nat.{ℕ, ◌/◌, ◌%◌, ◌<◌, ◌≤◌}
use mathlib.Core.Path.{◌≡◌, refl, sym, ap, ◌∙◌}
use mathlib.Core.Bool.{Bool, true, false, cond}
use mathlib.Core.List.{List, []}
use native.Mathlib.Omega.{arith}
use borrow.Author.Tests.{lt-leb, le-leb, eq-eqb, ne_eqb}
use lib.Dec.{leb, eqb}
use lib.ListN.{length}
use lib.IntN.{ℤ}
use Rattle.words.specs.Bools.{and_no_left, and_no_right}
use Rattle.words.specs.Runs.{words_at}
use Rattle.words.specs.RunLaws.{length_words}
use Rattle.network.specs.Stations.{count_fits, kinds_fit, coordinates_fit, unknowns_fit, whole_stations, network_of}
use Rattle.network.specs.Stations.{opens as allOpens}
use Rattle.book.specs.Outcome.{Outcome}
use Rattle.book.specs.Calls.{unless}
use Rattle.book.specs.Book.{opened_book, opening}
use Rattle.dombrelat.specs.Calls.{Returned, refused_with, answered_with, open_call}
use Rattle.layout.specs.Layout.{book_bytes}

too_many : (w : List ℤ) → 32 < length w / 4 → allOpens w ≡ false
unfolding allOpens
too_many w h =
    let count : count_fits (length w / 4) ≡ false = and_no_right (leb 1 (length w / 4)) (leb (length w / 4) 32) (lt-leb _ _ h) in
    and_no_left _ (unknowns_fit (network_of w).stations) (and_no_left _ (coordinates_fit (network_of w).stations) (and_no_left _ (kinds_fit w) (and_no_right (whole_stations w) _ count)))

module _ (list s : List ℕ) where
  abbrev tested : Bool → Bool → Returned
  tested t u = cond t (cond u (answered_with s (opening (words_at list 0 (length list / 8)))) (refused_with 1 s)) (refused_with 25 s)

  pub opens_short : length s < book_bytes → refused_with 25 s ≡ open_call list s
  unfolding open_call
  opens_short h = sym (ap (λ (t : Bool). tested t (eqb (length list % 32) 0)) (lt-leb book_bytes (length s) h))

  module _ (room : book_bytes ≤ length s) where
    pub opens_odd : (length list % 32 ≡ 0 → ⊥) → refused_with 1 s ≡ open_call list s
    unfolding open_call
    opens_odd h = sym (ap (λ (t : Bool). tested t (eqb (length list % 32) 0)) (le-leb book_bytes (length s) room) ∙ ap (tested true) (ne_eqb _ _ h))

    module _ (even : length list % 32 ≡ 0) where
      pub opens_done : (e : Outcome) → e ≡ opening (words_at list 0 (length list / 8)) → answered_with s e ≡ open_call list s
      unfolding open_call
      opens_done e p =
          ap (answered_with s) p ∙ sym (ap (λ (t : Bool). tested t (eqb (length list % 32) 0)) (le-leb book_bytes (length s) room) ∙ ap (tested true) (eq-eqb _ _ even))

      pub opens_many : 1024 < length list → refused_with 1 s ≡ open_call list s
      unfolding unless
      opens_many h =
          let words = words_at list 0 (length list / 8) in
          let n = length_words list 0 (length list / 8) in
          let no : allOpens words ≡ false = too_many words (omega (arith, n)) in
          sym (ap (λ (t : Bool). answered_with s (cond t (record { refusal = 0; book = opened_book (network_of words) }) (record { refusal = 1; book = opened_book (network_of []) }))) no) ∙ opens_done (opening words) refl
