-- A check distance and the sheet, over bytes: where dombrelat_check_sheet accepts the pair, the answer of dombrelat_check_distance is that of the words which it left in the lent sheet for the
-- two stations. Assumes nothing.
use Rattle.acceptance.specs.Judge.{Answer}
use Rattle.std.specs.Prelude.{ℕ, ◌+◌, ◌*◌, ◌/◌, ◌<◌, ◌≤◌, ◌≡◌, Bool, ◌&&◌, leb, ℤ, pos, negsuc, Ok, Err}
use Rattle.std.proofs.Math.Path.{refl, sym, ap}
use Rattle.std.proofs.Common.{◌∙◌, subst, ⊎_elim, leb-true}
use Rattle.std.proofs.Math.Bool.{true, false, cond}
use mathlib.Core.List.{List}
use native.Mathlib.Omega.{arith}
use Rattle.std.proofs.Math.ListN.{length, get_or}
use Rattle.std.proofs.Math.IntN.{nat_abs}
use mir.Syntax.{w64}
use mir.Val.{SFits}
use Rattle.words.specs.Bools.{true_or_false, and_left, and_right}
use Rattle.words.specs.Signed.{index_in}
use Rattle.words.specs.Words.{word_at}
use Rattle.words.specs.Runs.{put_words}
use Rattle.words.specs.RunLaws.{run_at}
use Rattle.network.specs.Rules.{in_list, ends_fit}
use Rattle.network.specs.RuleLaws.{network_few, in_list_lem, ends_each}
use Rattle.lists.specs.Stored.{fits_by}
use Rattle.acceptance.specs.Exactly.{answer}
use Rattle.acceptance.specs.JudgeLaws.{refusal-least}
use Rattle.book.specs.declared.Book.{Book}
use Rattle.book.specs.Book.{sound}
use Rattle.sheet.specs.Sheet.{sheet_words, room}
use Rattle.sheet.specs.SheetLaws.{sheet_length}
use Rattle.checks.specs.Checks.{checked}
use Rattle.checks.specs.CheckLaws.{rules, solved, has_room_lem, checked-is}
use Rattle.distances.specs.declared.CheckDistance.{CheckDistance}
use Rattle.distances.specs.declared.Agreement.TheVariants.{Agrees, Disagrees}
use Rattle.distances.specs.Distances.{distance_in_range, mark, agrees, agrees_at}
use Rattle.distances.specs.DistanceLaws.{pair-answer}
use Rattle.distances.specs.Coordinates.{mark-small}
use Rattle.distances.specs.SheetWords.{coordinate_word, agrees_as, sheet_mark}
use Rattle.lent_checks.specs.LentChecks.{all_words, is_whole, answer_word, checked_lent, sheet_fits}
use Rattle.lent_checks.specs.LentDistances.{agreement_word, agreement_lent}
use Rattle.layout.specs.Bytes.{book_of, bytes_fit}
use Rattle.layout.specs.CodecLaws.{fits-tested}
use Rattle.dombrelat.specs.CheckCalls.{sheet_call, distance_call}
use Rattle.dombrelat.specs.Demand2Holds.{demand_2}

-- the coordinates of the station with the number k, in the bytes of a sheet
abbrev pub mark_at : List ℕ → ℤ → ℕ → ℤ
mark_at sheet k c = word_at sheet (8 * coordinate_word (index_in k 32) c)

-- an answer whose word is 0 is acceptance
word-accepted : (a : Answer) → answer_word a ≡ pos 0 → a ≡ Ok tt
unfolding answer_word
word-accepted (Ok u) e = refl
word-accepted (Err r) e = absurd (let z = ap nat_abs e in omega (arith, refusal-least r))

-- ════ bytes that hold a book
module _ (s x m sheet : List ℕ) (fit : bytes_fit s ≡ true) (done : (sheet_call s x m sheet).answer ≡ pos 0) where
  abbrev b : Book
  b = book_of s

  sure : sound b ≡ true
  sure = fits-tested s fit

  -- test 1 counts whole words, and a sheet of whole words with room
  abbrev whole : Bool
  whole = is_whole x && is_whole m

  accepted : checked b (all_words x) (all_words m) (whole && sheet_fits b sheet) ≡ Ok tt
  unfolding sheet_call checked_lent
  accepted = word-accepted _ (sym (rw fit) ∙ done)

  is-accepted : answer b.network b.places (all_words x) (all_words m) (whole && sheet_fits b sheet) ≡ Ok tt
  is-accepted = sym (checked-is b sure (all_words x) (all_words m) (whole && sheet_fits b sheet)) ∙ accepted

  roomy : whole && sheet_fits b sheet ≡ true
  roomy = has_room_lem b sure (all_words x) (all_words m) (whole && sheet_fits b sheet) is-accepted

  pair-accepted : checked_lent b x m true ≡ Ok tt
  unfolding checked_lent
  pair-accepted =
      let w : whole && true ≡ whole && sheet_fits b sheet = ap (λ (t : Bool). t && true) (and_left whole (sheet_fits b sheet) roomy) ∙ sym roomy in
      ap (checked b (all_words x) (all_words m)) w ∙ accepted

  few : b.network.count ≤ 32
  few = network_few b.network (rules b sure).network

  long : 8 * length (sheet_words b.network b.places (all_words x) (all_words m)) ≤ length sheet
  long =
      let h : room b.network b.places ≤ length sheet / 8 = leb-true _ _ (and_right (is_whole sheet) (leb (room b.network b.places) (length sheet / 8)) (and_right whole (sheet_fits b sheet) roomy)) in
      omega (arith, sheet_length b.network b.places (all_words x) (all_words m))

  -- a station's coordinate is a word of the sheet
  bytes_mark : (k : ℤ) → in_list b.network.count k ≡ true → (c : ℕ) → c < 3 → mark b.network.stations (all_words x) k c ≡ mark_at (sheet_call s x m sheet).sheet k c
  unfolding room
  bytes_mark k e c l =
      let w = sheet_words b.network b.places (all_words x) (all_words m) in
      let h = in_list_lem b.network.count k few e in
      let i = coordinate_word (index_in k 32) c in
      let word : mark b.network.stations (all_words x) k c ≡ get_or w i (pos 0) = sheet_mark b.network b.places (all_words x) (all_words m) few k e c l in
      let small = mark-small (solved b sure (all_words x) (all_words m) (whole && sheet_fits b sheet) is-accepted).moved k c (omega (arith, few)) l in
      let fits : SFits w64 (get_or w i (pos 0)) = fits_by (get_or w i (pos 0)) (subst (λ (z : ℤ). nat_abs z ≤ 500100000) word small) tt in
      word
      ∙ sym (run_at sheet 0 w i (omega (arith, sheet_length b.network b.places (all_words x) (all_words m))) (let g : 0 + 8 * length w ≤ length sheet = omega (arith, long) in g) fits)
      ∙ ap (word_at (put_words sheet 0 w)) (let g : 0 + 8 * i ≡ 8 * i = omega arith in g)
      ∙ ap (λ (t : List ℕ). word_at t (8 * i)) (sym (((demand_2 s x m sheet).0 fit).written done))

  said : (d : CheckDistance) → ends_fit b.network.count d.from d.to ≡ true → distance_in_range d ≡ true
      → distance_call s x m d ≡ cond (agrees d (mark_at (sheet_call s x m sheet).sheet d.from) (mark_at (sheet_call s x m sheet).sheet d.to)) (pos 0) (negsuc 1)
  unfolding distance_call agreement_lent agreement_word
  said d e f =
      let t = ends_each b.network.count d.from d.to few e in
      let is : agreement_lent b x m d ≡ Ok (cond (agrees_at b.network.stations (all_words x) d) Agrees Disagrees) =
      pair-answer b.network d e _ _ pair-accepted f in
      rw fit (ap agreement_word is ∙ word (agrees_at b.network.stations (all_words x) d)
      ∙ ap (λ (g : Bool). cond g (pos 0) (negsuc 1)) (agrees_as d _ _ _ _ (bytes_mark d.from t.0) (bytes_mark d.to t.1.0)))
    where
      word : (g : Bool) → agreement_word (Ok (cond g Agrees Disagrees)) ≡ cond g (pos 0) (negsuc 1)
      word true = refl
      word false = refl

-- ════ of any bytes: an accepted sheet is one of bytes that hold a book
pub distance_sheet : (s x m sheet : List ℕ) → (sheet_call s x m sheet).answer ≡ pos 0 → (d : CheckDistance)
    → ends_fit (book_of s).network.count d.from d.to ≡ true → distance_in_range d ≡ true
    → distance_call s x m d ≡ cond (agrees d (mark_at (sheet_call s x m sheet).sheet d.from) (mark_at (sheet_call s x m sheet).sheet d.to)) (pos 0) (negsuc 1)
distance_sheet s x m sheet done d e f =
    ⊎_elim (λ fit. said s x m sheet fit done d e f) (λ unfit. absurd (let z = ap nat_abs (sym ((demand_2 s x m sheet).1 unfit).sheet_checked ∙ done) in omega arith)) (true_or_false (bytes_fit s))
