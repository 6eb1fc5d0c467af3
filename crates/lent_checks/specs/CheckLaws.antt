-- Laws of the calls that check: lent slices that fail test 1, and how large an answer is. Assumes nothing.
use Rattle.std.specs.Prelude.{ℕ, ◌+◌, ◌*◌, ◌/◌, ◌%◌, ◌≤◌, ◌≡◌, false, ◌&&◌, ℤ, Ok, Err}
use Rattle.std.proofs.Math.Path.{refl, ap}
use Rattle.std.proofs.Common.{sym, ◌∙◌, ⊎_elim, arith}
use Rattle.std.proofs.Math.Bool.{Bool, true}
use mathlib.Core.List.{List, ◌++◌, append-nil}
use Rattle.std.proofs.Math.Nat.{mul-le-mul}
use Rattle.std.proofs.Math.Decide.{ℕ_discrete}
use borrow.Author.Tests.{eqb-true, le-leb}
use Rattle.std.proofs.Math.Dec.{eqb, leb}
use Rattle.std.proofs.Math.ListN.{length, drop}
use Rattle.std.proofs.Math.Seq.{drop-length}
use Rattle.words.specs.Bools.{clash, true_or_false, and_left, and_right, and_both, and_no_right}
use Rattle.words.specs.Runs.{put_words}
use Rattle.words.specs.RunLaws.{length_words}
use Rattle.network.specs.Stations.{unknown_count}
use Rattle.network.specs.StationLaws.{number_small}
use Rattle.network.specs.RuleLaws.{sound-stations}
use Rattle.sheet.specs.Sheet.{sheet_words, room}
use Rattle.acceptance.specs.Tests.{lengths_fit}
use Rattle.acceptance.specs.Judge.{answer_number, answer_unknown, judge, Answer}
use Rattle.acceptance.specs.JudgeLaws.{lengths_of, number_most_lem}
use Rattle.acceptance.specs.Exactly.{answer}
use Rattle.acceptance.specs.declared.Refusal.TheVariants.{Lengths}
use Rattle.book.specs.declared.Book.{Book}
use Rattle.book.specs.Sound.{SoundParts, parts-sound}
use Rattle.checks.specs.Checks.{checked, then_nine, has_room, on_acceptance, sheet_after}
use Rattle.checks.specs.Demand2.{DemandOf}
use Rattle.checks.specs.Demand2Holds.{demand_2}
use Rattle.lent_checks.specs.LentChecks.{all_words, is_whole, x_bytes, m_bytes, sizes_fit, answer_most, checked_lent, on_accepted}

-- ════ test 1 fails
pub test_1 : (b : Book) (x m : List ℤ) (r : Bool) → lengths_fit (unknown_count b.network.stations) x m r ≡ false → Err Lengths ≡ checked b x m r
unfolding checked answer judge then_nine
test_1 b x m r e = rw e

module _ (b : Book) (x m : List ℕ) (r : Bool) where
  -- a sheet without room
  pub lent_roomless : r ≡ false → Err Lengths ≡ checked_lent b x m r
  unfolding checked_lent lengths_fit
  lent_roomless e =
      let k = unknown_count b.network.stations in
      test_1 b (all_words x) (all_words m) (is_whole x && is_whole m && r)
      (and_no_right (eqb (length (all_words x)) k && eqb (length (all_words m)) (k * k)) _ (and_no_right (is_whole x && is_whole m) r e))

  -- whole words
  pub lent-fit : sizes_fit x m ≡ true → checked b (all_words x) (all_words m) r ≡ checked_lent b x m r
  unfolding checked_lent
  lent-fit e =
      let whole : is_whole x && is_whole m ≡ true = and_left _ _ (and_left (is_whole x && is_whole m && leb (length x) x_bytes) (leb (length m) m_bytes) e) in
      ap (λ (t : Bool). checked b (all_words x) (all_words m) (t && r)) (sym whole)

module _ (b : Book) (o : SoundParts b) (x m : List ℕ) (r : Bool) where
  -- slices that pass it hold whole words, and no more than a book can ask for
  passed : lengths_fit (unknown_count b.network.stations) (all_words x) (all_words m) (is_whole x && is_whole m && r) ≡ true
      → sizes_fit x m ≡ true
  unfolding lengths_fit
  passed e =
      let k = unknown_count b.network.stations in
      let few : k ≤ 48 = (sound-stations b.network o.network).few in
      let whole : is_whole x && is_whole m ≡ true = and_left _ r (and_right (eqb (length (all_words x)) k && eqb (length (all_words m)) (k * k)) _ e) in
      let long = lengths_of k (all_words x) (all_words m) (is_whole x && is_whole m && r) e in
      let wx : length x % 8 ≡ 0 = eqb-true _ _ (and_left (is_whole x) (is_whole m) whole) in
      let wm : length m % 8 ≡ 0 = eqb-true _ _ (and_right (is_whole x) (is_whole m) whole) in
      and_both _ _
      (and_both _ _ whole (le-leb _ _ (let h : length x ≤ x_bytes = omega (arith, length_words x 0 (length x / 8), long.0) in h)))
      (le-leb _ _ (let h : length m ≤ m_bytes = omega (arith, length_words m 0 (length m / 8), long.1, mul-le-mul few few) in h))

  pub lent_unfit : sizes_fit x m ≡ false → Err Lengths ≡ checked_lent b x m r
  unfolding checked_lent
  lent_unfit e = test_1 b (all_words x) (all_words m) (is_whole x && is_whole m && r) (⊎_elim (λ t. clash (passed t) e) (λ f. f) (true_or_false _))

  -- ════ how large an answer is
  pub lent-small : answer_number (checked_lent b x m r) + 256 * answer_unknown (checked_lent b x m r) ≤ answer_most
  unfolding checked_lent
  lent-small =
      let a = checked_lent b x m r in
      go a ((demand_2 b (parts-sound b o) (all_words x) (all_words m)).0 fits) (ℕ_discrete (answer_number a) 11)
    where
      fits : Bool
      fits = is_whole x && is_whole m && r

      go : (a : Answer) → DemandOf b (all_words x) (all_words m) fits a → Dec (answer_number a ≡ 11) → answer_number a + 256 * answer_unknown a ≤ answer_most
      go a j (yes e) =
          let f = j.untied e in
          omega (arith, number_small b.network.stations (f.station * 3 + f.component), f.numbered, f.inside.0, f.inside.1)
      go a j (no e) = omega (arith, number_most_lem a, j.otherwise e)

-- ════ a sheet
-- a sheet of just the words it takes: ws are the words before, r the answer, o the bytes afterwards
module _ (b : Book) (x m ws : List ℤ) (long : length ws ≡ room b.network b.places) where
  pub has_room-lent : has_room b ws ≡ true
  has_room-lent = le-leb _ _ (let h : room b.network b.places ≤ length ws = omega arith in h)

  sheet_is : checked b x m (has_room b ws) ≡ Ok tt → sheet_after b x m ws ≡ sheet_words b.network b.places x m
  unfolding sheet_after on_acceptance
  sheet_is e =
      let w = sheet_words b.network b.places x m in
      ap (λ (a : Answer). on_acceptance a (w ++ drop (room b.network b.places) ws) ws) e
      ∙ ap (λ (n : ℕ). w ++ drop n ws) (sym long) ∙ ap (λ (l : List ℤ). w ++ l) (drop-length ws) ∙ append-nil w

  pub sheet_done : (r : Answer) (out o : List ℕ) → r ≡ checked b x m (has_room b ws) → o ≡ on_accepted r (put_words out 0 (sheet_after b x m ws)) out
      → (r ≡ checked b x m true) × (o ≡ on_accepted r (put_words out 0 (sheet_words b.network b.places x m)) out)
  unfolding on_accepted
  sheet_done r out o p q = (p ∙ ap (checked b x m) has_room-lent, q ∙ go r p)
    where
      go : (a : Answer) → a ≡ checked b x m (has_room b ws)
          → on_accepted a (put_words out 0 (sheet_after b x m ws)) out ≡ on_accepted a (put_words out 0 (sheet_words b.network b.places x m)) out
      go (Ok u) e = ap (put_words out 0) (sheet_is (sym e))
      go (Err refusal) e = refl
