-- What a line brings: corrections, a matrix, or neither; and that just these are stored. Assumes nothing.
use Rattle.std.specs.Prelude.{ℕ, ◌≤◌, ◌≡◌, Bool, cond, Option, Some, None, eqb, leb}
use Rattle.std.proofs.Math.Path.{refl}
use Rattle.std.proofs.Math.Bool.{true, false}
use mathlib.Core.List.{List, [], ◌∷◌}
use Rattle.std.proofs.Common.{arith, eqb-true, leb-true}
use lib.ListN.{length}
use Rattle.std.proofs.lemmas.List.Edits.{sets}
use lib.IntN.{ℤ}
use Rattle.text.specs.Numbers.{number_in}
use Rattle.text.specs.Fields.{rest_fields, letter_of, FieldNumbers, numbers, unreadable, numbers_in, at_most, stored_in}
use Rattle.text.specs.Lines.{KeptLine}
use Rattle.commands.specs.declared.Entry.{Entry}
use Rattle.commands.specs.declared.Command.{Command}
use Rattle.commands.specs.declared.Command.TheVariants.{Station, Call, Corrections, Matrix, Unreadable}
use Rattle.commands.specs.Commands.{most_corrections, most_entries, letter_K, letter_F, letter_V, letter_S, letter_R, letter_D, letter_U, letter_X, letter_M, exactly, entry_of, entered, after_r, strike_of, undo_of, counted_as, corrections_in, matrix_in, station_of_kind, numbered_in_turn, station_of, other_of, fields_command, letter_in, kept_command, corrections_after, matrix_after, Obeys}

-- the two parts of a solution: x, which X lines give, and M, which M lines give
pub data SolutionPart : Type 0 where
  corrections : SolutionPart
  matrix : SolutionPart

-- whether a line brings that part
unfoldable pub brings : Command → SolutionPart → Bool
brings (Station s) part = false
brings (Call c) part = false
brings (Corrections n) corrections = true
brings (Corrections n) matrix = false
brings (Matrix n) corrections = false
brings (Matrix n) matrix = true
brings Unreadable part = false

-- how many numbers
unfoldable pub how_many : Command → ℕ
how_many (Station s) = 0
how_many (Call c) = 0
how_many (Corrections n) = n
how_many (Matrix n) = n
how_many Unreadable = 0

-- ════ only an X line brings corrections, and only an M line a matrix
module _ (part : SolutionPart) where
  exactly-brings-none : (k : ℕ) (f : (ℕ → ℤ) → Command) (ns : FieldNumbers) → ((v : ℕ → ℤ) → brings (f v) part ≡ false) → brings (exactly k Unreadable f ns) part ≡ false
  unfolding exactly brings
  exactly-brings-none k f unreadable h = refl
  exactly-brings-none k f (numbers vs) h = by (eqb (length vs) k)
    where
      by : (t : Bool) → brings (cond t (f (λ i. lib.ListN.get_or vs i (lib.IntN.pos 0))) Unreadable) part ≡ false
      by true = h (λ i. lib.ListN.get_or vs i (lib.IntN.pos 0))
      by false = refl

  cond-brings-none : (t : Bool) (a b : Command) → brings a part ≡ false → brings b part ≡ false → brings (cond t a b) part ≡ false
  cond-brings-none true a b p q = p
  cond-brings-none false a b p q = q

  entered-brings-none : (e : Option Entry) → brings (entered e) part ≡ false
  unfolding entered brings
  entered-brings-none (Some e) = refl
  entered-brings-none None = refl

  after-brings-none : (fs : List (List ℕ)) → brings (after_r fs) part ≡ false
  unfolding after_r brings
  after-brings-none [] = refl
  after-brings-none (f ∷ fs) = entered-brings-none (entry_of (letter_of f) fs)

  undo_brings-none : (fs : List (List ℕ)) → brings (undo_of fs) part ≡ false
  unfolding undo_of brings
  undo_brings-none [] = refl
  undo_brings-none (f ∷ fs) = refl

  pub unreadable_none : brings Unreadable part ≡ false
  unfolding brings
  unreadable_none = refl

  kind_brings-none : (letter : ℕ) (ns : FieldNumbers) → brings (station_of_kind letter ns) part ≡ false
  unfolding station_of_kind brings
  kind_brings-none letter ns =
      cond-brings-none (eqb letter letter_K) _ _ (exactly-brings-none 3 _ ns (λ v. refl))
      (cond-brings-none (eqb letter letter_F) _ _ (exactly-brings-none 3 _ ns (λ v. refl)) (cond-brings-none (eqb letter letter_V) _ _ (exactly-brings-none 3 _ ns (λ v. refl)) refl))

  station-brings-none : (read : ℕ) (fs : List (List ℕ)) → brings (station_of read fs) part ≡ false
  unfolding station_of brings
  station-brings-none read [] = refl
  station-brings-none read (n ∷ []) = refl
  station-brings-none read (n ∷ k ∷ fs) = cond-brings-none (numbered_in_turn read (number_in n)) _ _ (kind_brings-none (letter_of k) (numbers_in fs)) refl

  other_brings-none : (letter : ℕ) (fs : List (List ℕ)) → brings (other_of letter fs) part ≡ false
  unfolding other_of brings
  other_brings-none letter fs =
      cond-brings-none (eqb letter letter_R) _ _ (after-brings-none fs)
      (cond-brings-none (eqb letter letter_D) _ _ (exactly-brings-none 1 strike_of (numbers_in fs) (λ v. refl)) (cond-brings-none (eqb letter letter_U) _ _ (undo_brings-none fs) (entered-brings-none (entry_of letter fs))))

-- ════ what a line brought: the numbers ns stand at the front of the list, or the list is as it was
pub data Brought (part : SolutionPart) (most : ℕ) (c : Command) (ns : FieldNumbers) (l after : List ℤ) : Type 0 where
  other : brings c part ≡ false → after ≡ l → Brought part most c ns l after
  these : (vs : List ℤ) → brings c part ≡ true → ns ≡ numbers vs → how_many c ≡ length vs → after ≡ sets l 0 vs → length vs ≤ most → Brought part most c ns l after

at_most_lem : (most : ℕ) (ns : FieldNumbers) (vs : List ℤ) → at_most most ns ≡ numbers vs → length vs ≤ most
unfolding at_most
at_most_lem most unreadable vs e = let z : ◌≡◌ {A = ℕ} 0 1 = cc in absurd (omega arith)
at_most_lem most (numbers us) vs e = by (leb (length us) most) refl e
  where
    by : (t : Bool) → leb (length us) most ≡ t → cond t (numbers us) unreadable ≡ numbers vs → length vs ≤ most
    by true h q = let w : us ≡ vs = cc in rw w at (leb-true (length us) most h)
    by false h q = let z : ◌≡◌ {A = ℕ} 0 1 = cc in absurd (omega arith)

brought_corrections : (ns : FieldNumbers) (l : List ℤ) → Brought corrections most_corrections (counted_as Corrections (at_most most_corrections ns)) (at_most most_corrections ns) l (stored_in l (at_most most_corrections ns))
unfolding counted_as stored_in brings how_many
brought_corrections ns l = by (at_most most_corrections ns) (at_most_lem most_corrections ns)
  where
    by : (a : FieldNumbers) → ((vs : List ℤ) → a ≡ numbers vs → length vs ≤ most_corrections) → Brought corrections most_corrections (counted_as Corrections a) a l (stored_in l a)
    by unreadable few = other refl refl
    by (numbers vs) few = these vs refl refl refl refl (few vs refl)

brought_matrix : (ns : FieldNumbers) (l : List ℤ) → Brought matrix most_entries (counted_as Matrix (at_most most_entries ns)) (at_most most_entries ns) l (stored_in l (at_most most_entries ns))
unfolding counted_as stored_in brings how_many
brought_matrix ns l = by (at_most most_entries ns) (at_most_lem most_entries ns)
  where
    by : (a : FieldNumbers) → ((vs : List ℤ) → a ≡ numbers vs → length vs ≤ most_entries) → Brought matrix most_entries (counted_as Matrix a) a l (stored_in l a)
    by unreadable few = other refl refl
    by (numbers vs) few = these vs refl refl refl refl (few vs refl)

-- ════ a line that is no X line, or no M line, brings the other
not_corrections : (read : ℕ) (u : Bool) (letter : ℕ) (fs : List (List ℕ)) → eqb letter letter_X ≡ false → brings (fields_command read u letter fs) corrections ≡ false
unfolding fields_command counted_as brings
not_corrections read u letter fs e = rw e (by (eqb letter letter_S) (eqb letter letter_M) u)
  where
    as_matrix : (ns : FieldNumbers) → brings (counted_as Matrix ns) corrections ≡ false
    as_matrix unreadable = refl
    as_matrix (numbers vs) = refl

    by : (s t w : Bool) → brings (cond s (cond w (station_of read fs) Unreadable) (cond t (counted_as Matrix (matrix_in fs)) (other_of letter fs))) corrections ≡ false
    by true t true = station-brings-none corrections read fs
    by true t false = refl
    by false true w = as_matrix (matrix_in fs)
    by false false w = other_brings-none corrections letter fs

not_matrix : (read : ℕ) (u : Bool) (letter : ℕ) (fs : List (List ℕ)) → eqb letter letter_M ≡ false → brings (fields_command read u letter fs) matrix ≡ false
unfolding fields_command counted_as brings
not_matrix read u letter fs e = rw e (by (eqb letter letter_S) (eqb letter letter_X) u)
  where
    as_corrections : (ns : FieldNumbers) → brings (counted_as Corrections ns) matrix ≡ false
    as_corrections unreadable = refl
    as_corrections (numbers vs) = refl

    by : (s t w : Bool) → brings (cond s (cond w (station_of read fs) Unreadable) (cond t (counted_as Corrections (corrections_in fs)) (other_of letter fs))) matrix ≡ false
    by true t true = station-brings-none matrix read fs
    by true t false = refl
    by false true w = as_corrections (corrections_in fs)
    by false false w = other_brings-none matrix letter fs

is_corrections : (read : ℕ) (u : Bool) (letter : ℕ) (fs : List (List ℕ)) → letter ≡ letter_X → fields_command read u letter fs ≡ counted_as Corrections (corrections_in fs)
unfolding fields_command
is_corrections read u letter fs e = rw e

is_matrix : (read : ℕ) (u : Bool) (letter : ℕ) (fs : List (List ℕ)) → letter ≡ letter_M → fields_command read u letter fs ≡ counted_as Matrix (matrix_in fs)
unfolding fields_command
is_matrix read u letter fs e = rw e

-- ════ what `read_command` leaves
module _ (read : ℕ) (u : Bool) (k : KeptLine) (x m : List ℤ) (c : Command) (xs ms : List ℤ) (o : Obeys read u k x m c xs ms) where
  pub corrections_brought : Brought corrections most_corrections c (corrections_in (rest_fields k.text)) x xs
  unfolding kept_command corrections_after
  corrections_brought = rw (o.asks, o.corrections) (by k.over (eqb (letter_in k.text) letter_X) refl)
    where
      fs : List (List ℕ)
      fs = rest_fields k.text

      line : Command
      line = fields_command read u (letter_in k.text) fs

      by : (v t : Bool) → eqb (letter_in k.text) letter_X ≡ t → Brought corrections most_corrections (cond v Unreadable line) (corrections_in fs) x (cond v x (cond t (stored_in x (corrections_in fs)) x))
      by true t e = other (unreadable_none corrections) refl
      by false true e = rw (is_corrections read u (letter_in k.text) fs (eqb-true _ _ e)) (brought_corrections (numbers_in fs) x)
      by false false e = other (not_corrections read u (letter_in k.text) fs e) refl

  pub matrix_brought : Brought matrix most_entries c (matrix_in (rest_fields k.text)) m ms
  unfolding kept_command matrix_after
  matrix_brought = rw (o.asks, o.matrix) (by k.over (eqb (letter_in k.text) letter_M) refl)
    where
      fs : List (List ℕ)
      fs = rest_fields k.text

      line : Command
      line = fields_command read u (letter_in k.text) fs

      by : (v t : Bool) → eqb (letter_in k.text) letter_M ≡ t → Brought matrix most_entries (cond v Unreadable line) (matrix_in fs) m (cond v m (cond t (stored_in m (matrix_in fs)) m))
      by true t e = other (unreadable_none matrix) refl
      by false true e = rw (is_matrix read u (letter_in k.text) fs (eqb-true _ _ e)) (brought_matrix (numbers_in fs) m)
      by false false e = other (not_matrix read u (letter_in k.text) fs e) refl
