-- The coordinates that a check distance is held against are the words that the sheet has for its two stations, at the same x. Assumes nothing.
use Prim.Native.Nat.{ℕ, zero, suc, ◌+◌, ◌*◌, ◌<◌, ◌≤◌}
use Rattle.std.specs.Prelude.{◌≡◌, Bool, true, length, Ok}
use Rattle.std.proofs.Math.Path.{refl, sym, ap}
use Rattle.std.proofs.Common.{◌∙◌, subst}
use Rattle.std.proofs.Math.Bool.{cond}
use mathlib.Core.List.{List, [], ◌∷◌, ◌++◌, append_assoc}
use native.Mathlib.Omega.{arith}
use Rattle.std.proofs.Math.ListN.{get_or, drop, get_or-append}
use Rattle.std.proofs.Math.IntN.{ℤ, pos}
use Rattle.words.specs.Signed.{index_in}
use Rattle.words.specs.Concat.{concat_below, concat_below-between}
use Rattle.network.specs.Stations.{unknown_count}
use Rattle.network.specs.Rules.{in_list, ends_fit}
use Rattle.network.specs.RuleLaws.{network_few, in_list_lem, ends_each}
use Rattle.network.specs.declared.Network.{Network}
use Rattle.network.specs.declared.Station.{Station}
use Rattle.network.specs.declared.Place.{Place}
use Rattle.residuals.specs.Residuals.{adjusted, record_count}
use Rattle.acceptance.specs.Exactly.{answer}
use Rattle.book.specs.declared.Book.{Book}
use Rattle.book.specs.Book.{sound}
use Rattle.sheet.specs.Sheet.{station_line_words, station_lines_words, record_lines_words, global_words, sheet_words, room}
use Rattle.sheet.specs.Lines.{station-lines}
use Rattle.sheet.specs.SheetLaws.{sheet_length}
use Rattle.checks.specs.Checks.{checked, has_room, sheet_after}
use Rattle.checks.specs.CheckLaws.{rules, has_room_lem, checked-is, after-accepted}
use Rattle.distances.specs.Distances.{distance_in_range, squared_distance, mark, agrees, agrees_at, agreement}
use Rattle.distances.specs.DistanceLaws.{pair-answer}
use Rattle.distances.specs.declared.Agreement.TheVariants.{Agrees, Disagrees}
use Rattle.distances.specs.declared.CheckDistance.{CheckDistance}

-- ════ where the words stand: after two, seven a station; the first is its number, the next three its coordinates
abbrev pub coordinate_word : ℕ → ℕ → ℕ
coordinate_word s c = 2 + s * 7 + (1 + c)

module _ (stations : List Station) (x m : List ℤ) where
  line_long : (s : ℕ) → length (station_line_words stations x m s) ≡ 7
  unfolding station_line_words
  line_long s = refl

  -- the coordinates in a station's line
  coordinate-at : (s c : ℕ) → c < 3 → get_or (station_line_words stations x m s) (1 + c) (pos 0) ≡ adjusted stations x (s * 3 + c)
  unfolding station_line_words
  coordinate-at s zero h = ap (adjusted stations x) (let e : s * 3 ≡ s * 3 + 0 = omega arith in e)
  coordinate-at s (suc zero) h = refl
  coordinate-at s (suc (suc zero)) h = refl
  coordinate-at s (suc (suc (suc c))) h = absurd (omega arith)

module _ (net : Network) (places : List Place) (x m : List ℤ) where
  pub sheet_coordinate : (s c : ℕ) → s < net.count → c < 3
      → get_or (sheet_words net places x m) (coordinate_word s c) (pos 0) ≡ adjusted net.stations x (s * 3 + c)
  unfolding sheet_words
  sheet_coordinate s c h l =
      ap (λ (w : List ℤ). get_or w (coordinate_word s c) (pos 0)) parted
      ∙ concat_below-between H (R ++ G) 7 net.count s (1 + c) 2 (station_line_words net.stations x m) (pos 0) (line_long net.stations x m) refl h (omega arith)
      ∙ coordinate-at net.stations x m s c l
    where
      H : List ℤ
      H = pos (record_count places) ∷ pos (unknown_count net.stations) ∷ []

      R : List ℤ
      R = record_lines_words net.stations x m places 256

      G : List ℤ
      G = global_words net.stations places x

      L : List ℤ
      L = station_lines_words net.stations x m net.count

      parted : H ++ L ++ R ++ G ≡ H ++ (concat_below net.count (station_line_words net.stations x m) ++ (R ++ G))
      parted =
          append_assoc (H ++ L) R G ∙ append_assoc H L (R ++ G)
          ∙ ap (λ (w : List ℤ). H ++ (w ++ (R ++ G))) (station-lines net.stations x m net.count)

-- ════ a station by its number
-- the coordinates of the station with the number k, in the words of a sheet
abbrev pub mark_in : List ℤ → ℤ → ℕ → ℤ
mark_in sheet k c = get_or sheet (coordinate_word (index_in k 32) c) (pos 0)

-- marks with the same coordinates agree with the same distances
pub agrees_as : (d : CheckDistance) (f t f' t' : ℕ → ℤ) → ((c : ℕ) → c < 3 → f c ≡ f' c) → ((c : ℕ) → c < 3 → t c ≡ t' c) → agrees d f t ≡ agrees d f' t'
unfolding squared_distance
agrees_as d f t f' t' p q =
    rw (p 0 (omega arith), p 1 (omega arith), p 2 (omega arith), q 0 (omega arith), q 1 (omega arith), q 2 (omega arith))

module _ (net : Network) (places : List Place) (x m : List ℤ) (few : net.count ≤ 32) where
  pub sheet_mark : (k : ℤ) → in_list net.count k ≡ true → (c : ℕ) → c < 3 → mark net.stations x k c ≡ mark_in (sheet_words net places x m) k c
  unfolding mark
  sheet_mark k e c l = sym (sheet_coordinate net places x m (index_in k 32) c (in_list_lem net.count k few e) l)

  -- "held against the sheet": the comparison is that of the sheet's words for the two stations
  pub agrees_sheet : (d : CheckDistance) → ends_fit net.count d.from d.to ≡ true
      → agrees_at net.stations x d ≡ agrees d (mark_in (sheet_words net places x m) d.from) (mark_in (sheet_words net places x m) d.to)
  agrees_sheet d e =
      let t = ends_each net.count d.from d.to few e in
      agrees_as d _ _ _ _ (sheet_mark d.from t.0) (sheet_mark d.to t.1.0)

-- ════ the call and the sheet: where `check_sheet` accepts the pair, the answer to a distance in range is that of the words which it left for the two stations
module _ (b : Book) (sure : sound b ≡ true) (x m sheet : List ℤ) (accepted : checked b x m (has_room b sheet) ≡ Ok tt) where
  is-accepted : answer b.network b.places x m (has_room b sheet) ≡ Ok tt
  is-accepted = sym (checked-is b sure x m (has_room b sheet)) ∙ accepted

  -- the same pair is accepted where no sheet is lent
  pair-accepted : checked b x m true ≡ Ok tt
  pair-accepted = subst (λ (t : Bool). checked b x m t ≡ Ok tt) (has_room_lem b sure x m (has_room b sheet) is-accepted) accepted

  few : b.network.count ≤ 32
  few = network_few b.network (rules b sure).network

  -- the sheet's words stand at the front of the lent ones
  front_mark : (k : ℤ) → in_list b.network.count k ≡ true → (c : ℕ) → c < 3
      → mark_in (sheet_words b.network b.places x m) k c ≡ mark_in (sheet_after b x m sheet) k c
  unfolding room
  front_mark k e c l =
      let w = sheet_words b.network b.places x m in
      let rest = drop (room b.network b.places) sheet in
      let s = index_in k 32 in
      let h = in_list_lem b.network.count k few e in
      sym (get_or-append w rest (pos 0) (coordinate_word s c) (omega (arith, sheet_length b.network b.places x m)))
      ∙ ap (λ (v : List ℤ). get_or v (coordinate_word s c) (pos 0)) (after-accepted b sure x m sheet is-accepted)

  pub agreement_sheet : (d : CheckDistance) → ends_fit b.network.count d.from d.to ≡ true → distance_in_range d ≡ true
      → agreement b x m d ≡ Ok (cond (agrees d (mark_in (sheet_after b x m sheet) d.from) (mark_in (sheet_after b x m sheet) d.to)) Agrees Disagrees)
  unfolding agreement
  agreement_sheet d e f =
      let t = ends_each b.network.count d.from d.to few e in
      pair-answer b.network d e _ _ pair-accepted f
      ∙ ap (λ (g : Bool). Ok (cond g Agrees Disagrees))
      (agrees_sheet b.network b.places x m few d e ∙ agrees_as d _ _ _ _ (front_mark d.from t.0) (front_mark d.to t.1.0))
