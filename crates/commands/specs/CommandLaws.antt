-- Laws of commands: numbers that were read into an array, and the cases of each line. Assumes nothing.
use Rattle.std.specs.Prelude.{◌≡◌, Bool, ℕ, zero, suc, ◌+◌, ◌-◌, ◌≤◌, ◌<◌, eqb, Option, Some, None, take, drop, replicate, ℤ, pos, negsuc, nat_abs}
use Rattle.std.proofs.Math.Path.{refl, ap}
use Rattle.std.proofs.Common.{sym, ap₂, ◌∙◌, arith, take_all, drop_of_length-le, append-nil, get_or-append-add, get_or-drop, SFits, to_z, of_z, to_z-of_z}
use Rattle.std.proofs.Math.Bool.{true, false, cond}
use mathlib.Core.List.{List, [], ◌∷◌, ◌++◌}
use Rattle.std.proofs.Math.Decide.{dec_le}
use Rattle.std.proofs.Math.Dec.{leb, eqb-suc-suc}
use Rattle.std.proofs.Math.ListN.{length, get_or, get_or-eq_default, get_or-append}
use Rattle.std.proofs.Math.Seq.{sets}
use Rattle.std.proofs.lemmas.List.Edits.{sets-eq}
use Rattle.std.specs.Int.Signed.{lt_z}
use Rattle.std.specs.Option.{unwrap_or, option_eq}
use Rattle.std.specs.Int.{w64}
use borrow.Author.Tests.{eq-eqb, eqb-true, ne_eqb, leb-false, ltb-true, lt-ltb, le-ltb}
use Rattle.words.specs.Bools.{clash}
use Rattle.words.specs.Signed.{eq_z}
use Rattle.network.specs.declared.Kind.{Kind}
use Rattle.network.specs.declared.Record.{Record}
use Rattle.book.specs.declared.Change.TheVariants.{Enter}
use Rattle.book.specs.declared.Call.TheVariants.{Edit, Undo}
use Rattle.text.specs.Numbers.{number_in}
use Rattle.text.specs.Fields.{first_field, rest_fields, letter_of, only_byte, FieldNumbers, numbers, unreadable, numbers_in, at_most, count_of, stored_in, Stored}
use Rattle.text.specs.FieldLaws.{first_and_rest, no_rest, some_rest, fields-more, letter_or_none, letter_cut}
use Rattle.text.specs.Lines.{kept}
use Rattle.commands.specs.declared.Entry.{Entry}
use Rattle.commands.specs.declared.Command.{Command}
use Rattle.commands.specs.declared.Command.TheVariants.{Call, Corrections, Matrix, Unreadable}
use Rattle.commands.specs.Commands.{letter_S, letter_X, letter_M, longest_line, exactly, just, level_entry, baseline_entry, without_heights, with_heights, position_entry, entry_of, entered, after_r, undo_of, counted_as, corrections_in, matrix_in, station_with, station_of_kind, numbered_in_turn, station_of, other_of, fields_command, letter_in, command_of, is_station_line, kept_command, corrections_after, matrix_after, Obeys}

-- what is stored over a list that is 0 beyond it reads as itself
stored_over : (out vs : List ℤ) → length vs ≤ length out → ((i : ℕ) → length vs ≤ i → get_or out i (pos 0) ≡ pos 0) → (i : ℕ) → get_or (sets out 0 vs) i (pos 0) ≡ get_or vs i (pos 0)
stored_over out vs room rest i = ap (λ (l : List ℤ). get_or l i (pos 0)) (sets-eq vs out 0 (omega arith)) ∙ by (dec_le (length vs) i)
  where
    by : Dec (length vs ≤ i) → get_or (vs ++ drop (0 + length vs) out) i (pos 0) ≡ get_or vs i (pos 0)
    by (yes h) =
        ap (λ (k : ℕ). get_or (vs ++ drop (0 + length vs) out) k (pos 0)) (let e : i ≡ length vs + (i - length vs) = omega arith in e)
        ∙ get_or-append-add vs (drop (0 + length vs) out) (i - length vs) (pos 0)
        ∙ get_or-drop (0 + length vs) out (i - length vs) (pos 0)
        ∙ rest (0 + length vs + (i - length vs)) (omega arith)
        ∙ sym (get_or-eq_default vs (pos 0) h)
    by (no h) = get_or-append vs (drop (0 + length vs) out) (pos 0) i (omega arith)

-- ════ of just k numbers
module _ {A : Type 0} (k : ℕ) (other : A) (f : (ℕ → ℤ) → A) where
  pub of_none : (ns : FieldNumbers) → just k ns ≡ None → other ≡ exactly k other f ns
  unfolding just exactly
  of_none unreadable e = refl
  of_none (numbers vs) e = by (eqb (length vs) k) e
    where
      by : (t : Bool) → cond t (Some vs) None ≡ None → other ≡ cond t (f (λ i. get_or vs i (pos 0))) other
      by true e = cc
      by false e = refl

  pub of_these : (ns : FieldNumbers) (vs : List ℤ) → just k ns ≡ Some vs → f (λ i. get_or vs i (pos 0)) ≡ exactly k other f ns
  unfolding just exactly
  of_these unreadable vs e = cc
  of_these (numbers us) vs e = by (eqb (length us) k) e
    where
      by : (t : Bool) → cond t (Some us) None ≡ Some vs → f (λ i. get_or vs i (pos 0)) ≡ cond t (f (λ i. get_or us i (pos 0))) other
      by true e = let same : vs ≡ us = cc in rw same
      by false e = cc

-- at most `most` numbers were read: whether there are just k of them
module _ (most k : ℕ) (out : List ℤ) (ns : FieldNumbers) (r : Option ℕ) (after : List ℤ) (s : Stored out (at_most most ns) r after) where
  -- n of them were read: these are after's first
  read_all : (n : ℕ) → r ≡ Some n → (vs : List ℤ) → ns ≡ numbers vs → (length vs ≡ n) × (after ≡ sets out 0 vs)
  unfolding at_most count_of stored_in
  read_all n e vs q = by (leb (length vs) most) (sym e ∙ s.counts ∙ ap (λ (x : FieldNumbers). count_of (at_most most x)) q) (s.stores ∙ ap (λ (x : FieldNumbers). stored_in out (at_most most x)) q)
    where
      by : (t : Bool) → Some n ≡ count_of (cond t (numbers vs) unreadable) → after ≡ stored_in out (cond t (numbers vs) unreadable) → (length vs ≡ n) × (after ≡ sets out 0 vs)
      by true c w = (cc, w)
      by false c w = (cc, cc)

  pub just_none : k ≤ most → r ≡ None → None ≡ just k ns
  unfolding just at_most count_of
  just_none few e = by ns (sym e ∙ s.counts)
    where
      some : (vs : List ℤ) (t : Bool) → leb (length vs) most ≡ t → None ≡ count_of (cond t (numbers vs) unreadable) → None ≡ cond (eqb (length vs) k) (Some vs) None
      some vs true h c = cc
      some vs false h c = rw (ne_eqb (length vs) k (λ q. omega (arith, leb-false (length vs) most h)))

      by : (ns : FieldNumbers) → None ≡ count_of (at_most most ns) → None ≡ just k ns
      by unreadable c = refl
      by (numbers vs) c = some vs (leb (length vs) most) refl c

  pub just_other : (n : ℕ) → r ≡ Some n → (n ≡ k → ⊥) → None ≡ just k ns
  unfolding just
  just_other n e q = by ns (read_all n e)
    where
      by : (ns : FieldNumbers) → ((vs : List ℤ) → ns ≡ numbers vs → (length vs ≡ n) × (after ≡ sets out 0 vs)) → None ≡ just k ns
      by unreadable all = refl
      by (numbers vs) all = rw (ne_eqb (length vs) k (λ p. q (omega (arith, (all vs refl).0))))

  -- read into a list of just their count
  pub just_all : (n : ℕ) → r ≡ Some n → n ≡ k → length out ≡ k → Some after ≡ just k ns
  unfolding just at_most count_of
  just_all n e q room = by ns (read_all n e) (sym e ∙ s.counts)
    where
      by :
          (ns : FieldNumbers) →
          ((vs : List ℤ) → ns ≡ numbers vs → (length vs ≡ n) × (after ≡ sets out 0 vs)) →
          Some n ≡ count_of (at_most most ns) →
          Some after ≡ just k ns
      by unreadable all c = cc
      by (numbers vs) all c =
          let l : length vs ≡ k = (all vs refl).0 ∙ q in
          let full : drop (0 + length vs) out ≡ [] = drop_of_length-le out (omega arith) in
          let whole : sets out 0 vs ≡ vs = sets-eq vs out 0 (omega arith) ∙ rw full (append-nil vs) in
          rw (eq-eqb (length vs) k l, (all vs refl).1, whole)

  module _ {A : Type 0} (other : A) (f : (ℕ → ℤ) → A) where
    pub exactly-none : k ≤ most → r ≡ None → other ≡ exactly k other f ns
    exactly-none few e = of_none k other f ns (sym (just_none few e))

    pub exactly_other : (n : ℕ) → r ≡ Some n → (n ≡ k → ⊥) → other ≡ exactly k other f ns
    exactly_other n e q = of_none k other f ns (sym (just_other n e q))

    -- read into a list that is 0 beyond them
    pub exactly_front : (n : ℕ) → r ≡ Some n → n ≡ k → k ≤ length out → ((i : ℕ) → k ≤ i → get_or out i (pos 0) ≡ pos 0) → f (λ i. get_or after i (pos 0)) ≡ exactly k other f ns
    unfolding exactly at_most count_of
    exactly_front n e q room rest = by ns (read_all n e) (sym e ∙ s.counts)
      where
        by :
            (ns : FieldNumbers) →
            ((vs : List ℤ) → ns ≡ numbers vs → (length vs ≡ n) × (after ≡ sets out 0 vs)) →
            Some n ≡ count_of (at_most most ns) →
            f (λ i. get_or after i (pos 0)) ≡ exactly k other f ns
        by unreadable all c = cc
        by (numbers vs) all c =
            let l : length vs ≡ k = (all vs refl).0 ∙ q in
            let same : (i : ℕ) → get_or after i (pos 0) ≡ get_or vs i (pos 0) =
            λ i. ap (λ (x : List ℤ). get_or x i (pos 0)) (all vs refl).1 ∙ stored_over out vs (omega arith) (λ j h. rest j (omega arith)) i in
            rw (eq-eqb (length vs) k l) (λ j. f (λ i. same i j))

    -- into one of just their count
    pub exactly_all : (n : ℕ) → r ≡ Some n → n ≡ k → length out ≡ k → f (λ i. get_or after i (pos 0)) ≡ exactly k other f ns
    exactly_all n e q room = of_these k other f ns after (sym (just_all n e q room))

-- a list of 0 reads 0 everywhere
pub zeros : (n i : ℕ) → get_or (replicate n (pos 0)) i (pos 0) ≡ pos 0
zeros zero i = refl
zeros (suc n) zero = refl
zeros (suc n) (suc i) = zeros n i

-- of 12 numbers the heights are 0
pub heights_lacking : (other : Option Entry) (ns : FieldNumbers) → exactly 12 other with_heights ns ≡ exactly 12 other without_heights ns
unfolding exactly
heights_lacking other unreadable = refl
heights_lacking other (numbers vs) = by (eqb (length vs) 12) refl
  where
    by : (t : Bool) → eqb (length vs) 12 ≡ t → cond t (with_heights (λ i. get_or vs i (pos 0))) other ≡ cond t (without_heights (λ i. get_or vs i (pos 0))) other
    by true e =
        let l : length vs ≡ 12 = eqb-true (length vs) 12 e in
        ap₂ (λ (h k : ℤ). baseline_entry (h ∷ k ∷ []) (λ i. get_or vs i (pos 0))) (get_or-eq_default vs (pos 0) (omega arith)) (get_or-eq_default vs (pos 0) (omega arith))
    by false e = refl

-- ════ a test of a letter
module _ {letter l : ℕ} (is : letter ≡ l) (k : ℕ) where
  pub it_is : letter ≡ k → eqb l k ≡ true
  it_is e = eq-eqb l k (sym is ∙ e)

  pub it_is_not : (letter ≡ k → ⊥) → eqb l k ≡ false
  it_is_not q = ne_eqb l k (λ e. q (is ∙ e))

-- the same of a byte that a field may have
module _ {o : Option ℕ} (f : List ℕ) (is : o ≡ only_byte f) where
  pub letter_some : (c : ℕ) → o ≡ Some c → c ≡ letter_of f
  letter_some c e = ap (λ (b : Option ℕ). unwrap_or b 0) (sym e ∙ is) ∙ sym (letter_or_none f)

  pub letter_none : o ≡ None → 0 ≡ letter_of f
  letter_none e = ap (λ (b : Option ℕ). unwrap_or b 0) (sym e ∙ is) ∙ sym (letter_or_none f)

  pub letter_test : (k : ℕ) → 0 < k → option_eq eqb o (Some k) ≡ eqb (letter_of f) k
  letter_test k h = by o refl
    where
      by : (p : Option ℕ) → o ≡ p → option_eq eqb p (Some k) ≡ eqb (letter_of f) k
      by None e = sym (ne_eqb 0 k (λ q. omega arith)) ∙ ap (λ (l : ℕ). eqb l k) (letter_none e)
      by (Some c) e = ap (λ (l : ℕ). eqb l k) (letter_some c e)

-- ════ numbers as they lie in a struct
abbrev bits : (ℕ → ℤ) → ℕ → ℤ
bits v i = to_z w64 (of_z w64 (v i))

pub level-bits :
    (v : ℕ → ℤ) → SFits w64 (v 0) → SFits w64 (v 1) → SFits w64 (v 2) → SFits w64 (v 3) → SFits w64 (v 4) → level_entry (bits v) ≡ level_entry v
level-bits v a b c d e = rw (to_z-of_z a, to_z-of_z b, to_z-of_z c, to_z-of_z d, to_z-of_z e)

pub position-bits :
    (v : ℕ → ℤ) →
    SFits w64 (v 0) →
    SFits w64 (v 1) →
    SFits w64 (v 2) →
    SFits w64 (v 3) →
    SFits w64 (v 4) →
    SFits w64 (v 5) →
    SFits w64 (v 6) →
    SFits w64 (v 7) →
    SFits w64 (v 8) →
    SFits w64 (v 9) →
    SFits w64 (v 10) →
    position_entry (bits v) ≡ position_entry v
position-bits v a b c d e f g h i j k =
    rw (to_z-of_z a, to_z-of_z b, to_z-of_z c, to_z-of_z d, to_z-of_z e, to_z-of_z f, to_z-of_z g, to_z-of_z h, to_z-of_z i, to_z-of_z j, to_z-of_z k)

pub station-bits :
    (k : Kind) (v : ℕ → ℤ) → SFits w64 (v 0) → SFits w64 (v 1) → SFits w64 (v 2) → station_with k (bits v) ≡ station_with k v
station-bits k v a b c = rw (to_z-of_z a, to_z-of_z b, to_z-of_z c)

-- ════ a record for a place
module _ (e : Option Entry) where
  pub entered_of : (place p : ℤ) (r : Record) → e ≡ Some (record { place = place; of = r }) → p ≡ place → Call (Edit p (Enter r)) ≡ entered e
  unfolding entered
  entered_of place p r q s = rw (q, s)

  pub entered-none : e ≡ None → Unreadable ≡ entered e
  unfolding entered
  entered-none q = rw q

-- a field that has no letter is no line's first
pub nothing_of : (fs : List (List ℕ)) → Unreadable ≡ other_of 0 fs
unfolding other_of entry_of entered
nothing_of fs = refl

-- ════ the fields after the first, which ends before e
module _ (s : List ℕ) (e : ℕ) (is : e ≡ 0 + length (first_field s)) where
  next_field : e < length s → rest_fields s ≡ first_field (drop (e + 1) s) ∷ rest_fields (drop (e + 1) s)
  next_field h = some_rest s 0 e is h ∙ first_and_rest (drop (e + 1) s)

  pub after_none : length s ≤ e → Unreadable ≡ after_r (rest_fields s)
  unfolding after_r
  after_none h = rw (no_rest s 0 e is h)

  pub after-some :
      e < length s → entered (entry_of (letter_of (first_field (drop (e + 1) s))) (rest_fields (drop (e + 1) s))) ≡ after_r (rest_fields s)
  unfolding after_r
  after-some h = rw (next_field h)

  pub undo_none : length s ≤ e → Call Undo ≡ undo_of (rest_fields s)
  unfolding undo_of
  undo_none h = rw (no_rest s 0 e is h)

  pub undo_some : e < length s → Unreadable ≡ undo_of (rest_fields s)
  unfolding undo_of
  undo_some h = rw (next_field h)

  module _ (read : ℕ) where
    pub station-none : length s ≤ e → Unreadable ≡ station_of read (rest_fields s)
    unfolding station_of
    station-none h = rw (no_rest s 0 e is h)

    -- the second field starts at i and ends before f
    module _ (h : e < length s) (f : ℕ) (next : f ≡ e + 1 + length (first_field (drop (e + 1) s))) where
      pub station-one : length s ≤ f → Unreadable ≡ station_of read (rest_fields s)
      unfolding station_of
      station-one g = rw (next_field h, no_rest s (e + 1) f next g)

      both : f < length s → rest_fields s ≡ take (f - (e + 1)) (drop (e + 1) s) ∷ first_field (drop (f + 1) s) ∷ rest_fields (drop (f + 1) s)
      both g = some_rest s 0 e is h ∙ fields-more s (e + 1) f next g ∙ rw (first_and_rest (drop (f + 1) s))

      module _ (g : f < length s) (r : Option ℤ) (reads : r ≡ number_in (take (f - (e + 1)) (drop (e + 1) s))) where
        pub station_wrong : numbered_in_turn read r ≡ false → Unreadable ≡ station_of read (rest_fields s)
        unfolding station_of
        station_wrong t = rw (both g, ← reads, t)

        pub station-turn :
            numbered_in_turn read r ≡ true →
            station_of_kind (letter_of (first_field (drop (f + 1) s))) (numbers_in (rest_fields (drop (f + 1) s))) ≡ station_of read (rest_fields s)
        unfolding station_of
        station-turn t = rw (both g, ← reads, t)

pub turn-none : (read : ℕ) (r : Option ℤ) → r ≡ None → numbered_in_turn read r ≡ false
unfolding numbered_in_turn
turn-none read r e = rw e

pub turn_is : (read : ℕ) (r : Option ℤ) (v : ℤ) (t : Bool) → r ≡ Some v → t ≡ eq_z v (pos (suc read)) → numbered_in_turn read r ≡ t
unfolding numbered_in_turn
turn_is read r v t e q = rw (e, q)

-- ════ one more than `read`
pub turn-negative : (v : ℤ) (n : ℕ) → lt_z v (pos 0) ≡ true → false ≡ eq_z v (pos (suc n))
turn-negative (pos m) n e = let h : m < 0 = ltb-true m 0 e in absurd (omega arith)
turn-negative (negsuc k) n e = refl

pub turn_zero : (v : ℤ) (n m : ℕ) → m ≡ nat_abs v → m ≡ 0 → false ≡ eq_z v (pos (suc n))
turn_zero (pos k) n m e z = sym (ne_eqb k (suc n) (λ q. omega arith))
turn_zero (negsuc k) n m e z = refl

pub turn-size : (v : ℤ) (n m : ℕ) → lt_z v (pos 0) ≡ false → m ≡ nat_abs v → (m ≡ 0 → ⊥) → eqb (m - 1) n ≡ eq_z v (pos (suc n))
turn-size (pos zero) n m s e q = absurd (q e)
turn-size (pos (suc k)) n m s e q = let j : m - 1 ≡ k = omega arith in rw (j, eqb-suc-suc k n)
turn-size (negsuc k) n m s e q = clash refl s

-- ════ X and M
module _ (make : ℕ → Command) (ns : FieldNumbers) (r : Option ℕ) (is : r ≡ count_of ns) where
  pub counted_none : r ≡ None → Unreadable ≡ counted_as make ns
  unfolding counted_as count_of
  counted_none e = by ns (sym e ∙ is)
    where
      by : (ns : FieldNumbers) → None ≡ count_of ns → Unreadable ≡ counted_as make ns
      by unreadable c = refl
      by (numbers vs) c = cc

  pub counted_some : (n : ℕ) → r ≡ Some n → make n ≡ counted_as make ns
  unfolding counted_as count_of
  counted_some n e = by ns (sym e ∙ is)
    where
      by : (ns : FieldNumbers) → Some n ≡ count_of ns → make n ≡ counted_as make ns
      by unreadable c = cc
      by (numbers vs) c = let k : n ≡ length vs = cc in ap make k

-- ════ a line of a kind
module _ (read : ℕ) (unopened : Bool) (line : List ℕ) (over : Bool) (x m : List ℤ) (r : Command) where
  pub obeys_cut : over ≡ true → r ≡ Unreadable → Obeys read unopened (record { text = line; over = over }) x m r x m
  unfolding kept_command corrections_after matrix_after
  obeys_cut o e = record { asks = rw (o, e); corrections = rw o; matrix = rw o }

  module _ (o : over ≡ false) (letter : ℕ) (is : letter ≡ letter_in line) where
    module _ (e : letter ≡ letter_S) where
      pub obeys_station : unopened ≡ true → r ≡ station_of read (rest_fields line) → Obeys read unopened (record { text = line; over = over }) x m r x m
      unfolding kept_command corrections_after matrix_after fields_command
      obeys_station u q =
          record {
            asks = rw (o, it_is is letter_S e, u) q;
            corrections = rw (o, it_is_not is letter_X (λ w. omega arith));
            matrix = rw (o, it_is_not is letter_M (λ w. omega arith));
          }

      pub obeys_late : unopened ≡ false → r ≡ Unreadable → Obeys read unopened (record { text = line; over = over }) x m r x m
      unfolding kept_command corrections_after matrix_after fields_command
      obeys_late u q =
          record {
            asks = rw (o, it_is is letter_S e, u) q;
            corrections = rw (o, it_is_not is letter_X (λ w. omega arith));
            matrix = rw (o, it_is_not is letter_M (λ w. omega arith));
          }

    pub obeys-corrections :
        (xs : List ℤ) →
        letter ≡ letter_X →
        r ≡ counted_as Corrections (corrections_in (rest_fields line)) →
        xs ≡ stored_in x (corrections_in (rest_fields line)) →
        Obeys read unopened (record { text = line; over = over }) x m r xs m
    unfolding kept_command corrections_after matrix_after fields_command
    obeys-corrections xs e q w =
        record {
          asks = rw (o, it_is_not is letter_S (λ w. omega arith), it_is is letter_X e) q;
          corrections = rw (o, it_is is letter_X e) w;
          matrix = rw (o, it_is_not is letter_M (λ w. omega arith));
        }

    pub obeys-matrix :
        (ms : List ℤ) →
        letter ≡ letter_M →
        r ≡ counted_as Matrix (matrix_in (rest_fields line)) →
        ms ≡ stored_in m (matrix_in (rest_fields line)) →
        Obeys read unopened (record { text = line; over = over }) x m r x ms
    unfolding kept_command corrections_after matrix_after fields_command
    obeys-matrix ms e q w =
        record {
          asks = rw (o, it_is_not is letter_S (λ w. omega arith), it_is_not is letter_X (λ w. omega arith), it_is is letter_M e) q;
          corrections = rw (o, it_is_not is letter_X (λ w. omega arith));
          matrix = rw (o, it_is is letter_M e) w;
        }

    pub obeys-other :
        (letter ≡ letter_S → ⊥) →
        (letter ≡ letter_X → ⊥) →
        (letter ≡ letter_M → ⊥) →
        r ≡ other_of letter (rest_fields line) →
        Obeys read unopened (record { text = line; over = over }) x m r x m
    unfolding kept_command corrections_after matrix_after fields_command
    obeys-other s c t q =
        record {
          asks = rw (o, it_is_not is letter_S s, it_is_not is letter_X c, it_is_not is letter_M t) (q ∙ rw is);
          corrections = rw (o, it_is_not is letter_X c);
          matrix = rw (o, it_is_not is letter_M t);
        }

-- ════ what is kept of a line asks what the line does
pub kept_command_lem : (read : ℕ) (unopened : Bool) (line : List ℕ) → kept_command read unopened (kept longest_line line) ≡ command_of read unopened line
unfolding kept_command command_of
kept_command_lem read unopened line = by (dec_le (length line) longest_line)
  where
    by : Dec (length line ≤ longest_line) → kept_command read unopened (kept longest_line line) ≡ command_of read unopened line
    by (yes h) = rw (le-ltb longest_line (length line) h, take_all longest_line line h)
    by (no h) = rw (lt-ltb longest_line (length line) (omega arith))

-- the first field of a line that was cut is still known
pub kept-station_line : (line : List ℕ) → is_station_line (take longest_line line) ≡ is_station_line line
kept-station_line line = ap (λ (l : ℕ). eqb l letter_S) (letter_cut longest_line line (omega arith))
