-- What a sound book and an acceptance give: the ranges that the sheet's code asks for, and that 9 never comes.
use Rattle.std.specs.Prelude.{ℕ, ◌*◌, ◌<◌, ◌≤◌, ◌≡◌, Bool, true, ◌&&◌, List, ◌++◌, eqb, length, drop, ℤ, Ok, Err}
use Rattle.std.proofs.Math.Path.{refl}
use Rattle.std.proofs.Common.{ap, arith, le-leb, leb-true}
use Rattle.words.specs.Bools.{and_both, and_right}
use Rattle.lists.specs.All.{all_at}
use Rattle.network.specs.Stations.{unknown_count}
use Rattle.network.specs.Records.{record_at}
use Rattle.network.specs.Rules.{record_fits}
use Rattle.normals.specs.ByRules.{ByRules}
use Rattle.normals.specs.Sizes.{never_9}
use Rattle.normals.specs.Formulas.{matrix_of, right_of}
use Rattle.acceptance.specs.Tests.{at, by_rows, lengths_fit}
use Rattle.acceptance.specs.JudgeLaws.{BookInRange, lengths_of, corrections_small_lem, inverse-small}
use Rattle.acceptance.specs.Judge.{judge, Answer}
use Rattle.acceptance.specs.Exactly.{answer, book_in_range}
use Rattle.acceptance.proofs.SameAnswer.{kept-answer}
use Rattle.acceptance.specs.InTurn.{computed, accepted-tests}
use Rattle.acceptance.specs.declared.Refusal.{Refusal}
use Rattle.book.specs.declared.Book.{Book}
use Rattle.book.specs.Book.{sound}
use Rattle.book.specs.Sound.{tested, parts-sound}
use Rattle.book.specs.Sound as Parts
use Rattle.sheet.specs.Sheet.{sheet_words, room}
use Rattle.residuals.specs.Ranges.{Solved, Inverse}
use Rattle.sheet.specs.Totals.{T-fits}
use Rattle.checks.specs.Checks.{sizes_fit, then_nine, checked, has_room, on_acceptance, sheet_after}

room_of_test : (n : ℕ) (x m : List ℤ) (r : Bool) → lengths_fit n x m r ≡ true → r ≡ true
unfolding lengths_fit
room_of_test n x m r e = and_right (eqb (length x) n && eqb (length m) (n * n)) r e

-- the rules of stations and records, from what 25 tests
pub rules : (b : Book) → sound b ≡ true → ByRules b.network b.places
rules b e = let t = tested b e in record { network = t.network; each = λ p h. all_at 256 (λ k. record_fits b.network (record_at b.places k)) p t.records h }

module _ (b : Book) (g : Parts.SoundParts b) where
  -- N and u are those of the records
  pub matrix_is : b.normals.matrix ≡ matrix_of b.network.stations b.places
  matrix_is = ap (λ (n : Rattle.normals.specs.declared.Normals.Normals). n.matrix) g.normals

  pub right_is : b.normals.right ≡ right_of b.network.stations b.places
  right_is = ap (λ (n : Rattle.normals.specs.declared.Normals.Normals). n.right) g.normals

  pub sound-in_range : BookInRange b.network b.places b.normals.matrix b.normals.right
  sound-in_range = rw (matrix_is, right_is) (book_in_range b.network b.places (rules b (parts-sound b g)))

  -- the answer of `accept` on the book's own N and u
  pub judge-is : (x m : List ℤ) (r : Bool)
      → judge b.network b.places (by_rows 48 b.normals.matrix) (at b.normals.right) x m r ≡ answer b.network b.places x m r
  judge-is x m r = rw (matrix_is, right_is) (kept-answer b.network b.places (rules b (parts-sound b g)) x m r)

module _ (b : Book) (sure : sound b ≡ true) where
  module _ (x m : List ℤ) (r : Bool) where
    module _ (e : answer b.network b.places x m r ≡ Ok tt) where
      tests : (k : ℕ) → k < 7 → computed b.network b.places x m r k ≡ true
      tests = accepted-tests b.network b.places x m r e

      lengths : lengths_fit (unknown_count b.network.stations) x m r ≡ true
      unfolding computed
      lengths = tests 0 (omega arith)

      pub solved : Solved b.network b.places x
      unfolding computed
      solved =
          record {
            moved = record { network = (rules b sure).network; corrections = record { long = (lengths_of _ x m r lengths).0; bound = corrections_small_lem x (tests 2 (omega arith)) } };
            records = (rules b sure).each;
          }

      pub inverse : Inverse b.network m
      unfolding computed
      inverse = record { long = (lengths_of _ x m r lengths).1; bound = inverse-small m (tests 3 (omega arith)) }

      pub has_room_lem : r ≡ true
      has_room_lem = room_of_test _ x m r lengths

      pub sizes-fit : sizes_fit b.network b.places x ≡ true
      unfolding sizes_fit
      sizes-fit = and_both _ _ (never_9 b.network b.places (rules b sure)) (le-leb _ _ (T-fits solved))

    -- 9 never comes
    pub checked-is : checked b x m r ≡ answer b.network b.places x m r
    unfolding checked then_nine
    checked-is = go (answer b.network b.places x m r) refl
      where
        go : (a : Answer) → answer b.network b.places x m r ≡ a → then_nine (answer b.network b.places x m r) (sizes_fit b.network b.places x) ≡ answer b.network b.places x m r
        go (Ok u) e = rw (e, sizes-fit e)
        go (Err refusal) e = rw e

  -- the words afterwards, by the answer
  module _ (x m sheet : List ℤ) where
    pub after-accepted : answer b.network b.places x m (has_room b sheet) ≡ Ok tt
        → sheet_words b.network b.places x m ++ drop (room b.network b.places) sheet ≡ sheet_after b x m sheet
    unfolding sheet_after on_acceptance
    after-accepted e = rw (checked-is x m (has_room b sheet), e)

    pub after-refused : (refusal : Refusal) → answer b.network b.places x m (has_room b sheet) ≡ Err refusal → sheet ≡ sheet_after b x m sheet
    unfolding sheet_after on_acceptance
    after-refused refusal e = rw (checked-is x m (has_room b sheet), e)

    pub room-enough : answer b.network b.places x m (has_room b sheet) ≡ Ok tt → room b.network b.places ≤ length sheet
    room-enough e = leb-true _ _ (has_room_lem x m (has_room b sheet) e)
