-- Document 02, request 4: baselines with antenna heights, and the same taken to the marks. Two books over one station list whose records are the same taken to the marks have the same N
-- and u, the same residuals and T, the check answers every pair alike, and the sheet has the same words. Assumes nothing.
use Prim.Native.Nat.{ℕ, zero, suc, ◌+◌, ◌*◌, ◌%◌, ◌<◌, ◌≤◌}
use Rattle.std.specs.Prelude.{◌≡◌, Bool, ℤ}
use Rattle.std.proofs.Math.Path.{refl, ap, ap₂, fun_ext}
use Rattle.std.proofs.Common.{sym, ◌∙◌, arith}
use mathlib.Core.List.{List, [], ◌∷◌, ◌++◌}
use Rattle.std.proofs.Math.IntN.{pos}
use Rattle.integers.specs.Sums.{sum_n-ext}
use Rattle.integers.specs.Tables.{tabulate-ext}
use Rattle.network.specs.Records.{observations, is_empty, is_position, to_of, record_at}
use Rattle.network.specs.AtMarks.{at_marks, marks_observations, marks_acts, marks_from, marks_to, marks_position}
use Rattle.network.specs.declared.Network.{Network}
use Rattle.network.specs.declared.Station.{Station}
use Rattle.network.specs.declared.Place.{Place}
use Rattle.network.specs.declared.Record.{Record}
use Rattle.normals.specs.Formulas.{share_n, share_u, normals_of}
use Rattle.normals.specs.AtMarks.{marks_share_n, marks_share_u}
use Rattle.chains.specs.Chains.{edge, edges, tied_set, is_tied}
use Rattle.chains.specs.Bits.{put_in}
use Rattle.acceptance.specs.Exactly.{answer}
use Rattle.book.specs.declared.Book.{Book}
use Rattle.residuals.specs.Residuals.{residual, share_t, T, share_d, is_record, record_count}
use Rattle.residuals.specs.AtMarks.{marks_record, marks_variance, marks_share_d, marks_residual, marks_share_t}
use Rattle.sheet.specs.Sheet.{verdict_at, line_words, record_line_words, record_lines_words, sheet_words, line_length, room}
use Rattle.checks.specs.Checks.{sizes_fit, then_nine, checked}
use Rattle.checks.specs.SameShares.{SameShares, same-T, same_normals_lem, same-checked, same_global}

-- ════ the same records, taken to the marks
abbrev pub SameAtMarks : List Place → List Place → Type 0
SameAtMarks places others = (p : ℕ) → p < 256 → at_marks (record_at places p) ≡ at_marks (record_at others p)

edge-at_marks : (c : ℕ) (r : Record) → edge c (at_marks r) ≡ edge c r
unfolding edge
edge-at_marks c r = rw (marks_acts c r, marks_from r, marks_to r) refl

length_at_marks : (r : Record) → line_length (at_marks r) ≡ line_length r
unfolding line_length is_empty
length_at_marks r = rw (marks_observations r) refl

module _ (stations : List Station) (x m : List ℤ) where
  verdict_at_marks : (r : Record) (a : ℕ) → verdict_at stations x m (at_marks r) a ≡ verdict_at stations x m r a
  unfolding verdict_at
  verdict_at_marks r a = rw (marks_residual stations r x a, marks_variance stations r m a) refl

  line_at_marks : (p : ℕ) (r : Record) → record_line_words stations x m p (at_marks r) ≡ record_line_words stations x m p r
  unfolding record_line_words line_words
  line_at_marks p r = rw (marks_observations r) (go (observations r))
    where
      go : (n : ℕ) → line_words stations x m n p (at_marks r) ≡ line_words stations x m n p r
      go zero = refl
      go (suc zero) = rw (marks_residual stations r x 2, verdict_at_marks r 2) refl
      go (suc (suc n)) =
          let v = marks_residual stations r x in
          let w = verdict_at_marks r in
          λ i. pos (p + 1) ∷ v 0 i ∷ v 1 i ∷ v 2 i ∷ w 0 i ∷ w 1 i ∷ w 2 i ∷ []

module _ (net : Network) (places others : List Place) (same : SameAtMarks places others) where
  -- what is the same of a record and of that record taken to the marks is the same in both lists
  carried : {B : Type 0} (f : Record → B) → ((r : Record) → f (at_marks r) ≡ f r) → (p : ℕ) → p < 256 → f (record_at places p) ≡ f (record_at others p)
  carried f e p h = sym (e (record_at places p)) ∙ ap f (same p h) ∙ e (record_at others p)

  same_count : record_count places ≡ record_count others
  unfolding record_count
  same_count = sum_n-ext 256 (carried is_record marks_record)

  same-room : room net places ≡ room net others
  unfolding room
  same-room = ap (λ (k : ℕ). 5 + 7 * net.count + k) (sum_n-ext 256 (carried line_length length_at_marks))

  same_edges : (c : ℕ) → edges places c ≡ edges others c
  same_edges c = tabulate-ext 256 (λ p. edge c (record_at places p)) (λ p. edge c (record_at others p)) 0 (carried (edge c) (edge-at_marks c))

  same_positions : (n : ℕ) → n ≤ 256
      → put_in n (λ p. is_position (record_at places p)) (λ p. to_of (record_at places p)) 0 ≡ put_in n (λ p. is_position (record_at others p)) (λ p. to_of (record_at others p)) 0
  unfolding put_in
  same_positions zero h = refl
  same_positions (suc n) h = rw (carried is_position marks_position n (omega arith), carried to_of marks_to n (omega arith), same_positions n (omega arith)) refl

  same_tied : is_tied net places ≡ is_tied net others
  unfolding is_tied tied_set
  same_tied = fun_ext (λ q. rw (same_edges (q % 3), same_positions 256 (omega arith)) refl)

  pub marks_shares : SameShares net places others
  marks_shares =
      record {
        matrix = λ i j. carried (λ r. share_n net.stations r i j) (λ r. marks_share_n net.stations r i j);
        right = λ i. carried (λ r. share_u net.stations r i) (λ r. marks_share_u net.stations r i);
        squares = λ x. carried (share_t net.stations x) (λ r. marks_share_t net.stations r x);
        freedom = carried (share_d net.stations) (marks_share_d net.stations);
        tied = same_tied;
      }

  same_lines : (x m : List ℤ) (k : ℕ) → k ≤ 256 → record_lines_words net.stations x m places k ≡ record_lines_words net.stations x m others k
  unfolding record_lines_words
  same_lines x m zero h = refl
  same_lines x m (suc k) h =
      ap₂ (λ (a b : List ℤ). a ++ b) (same_lines x m k (omega arith)) (carried (record_line_words net.stations x m k) (line_at_marks net.stations x m k) k (omega arith))

  same_sheet : (x m : List ℤ) → sheet_words net places x m ≡ sheet_words net others x m
  unfolding sheet_words
  same_sheet x m = rw (same_count, same_lines x m 256 (omega arith), same_global marks_shares x) refl

-- ════ two books over one station list whose records are the same taken to the marks
pub record SameSheets (b c : Book) : Type 0 where
  pub normals : normals_of b.network.stations b.places ≡ normals_of c.network.stations c.places
  pub residuals : (x : List ℤ) (p a : ℕ) → p < 256 → residual b.network.stations x (record_at b.places p) a ≡ residual c.network.stations x (record_at c.places p) a
  pub squares : (x : List ℤ) → T b.network.stations b.places x ≡ T c.network.stations c.places x
  pub answers : (x m : List ℤ) (fits : Bool) → checked b x m fits ≡ checked c x m fits
  -- the room that the sheet takes, and its words
  pub rooms : room b.network b.places ≡ room c.network c.places
  pub words : (x m : List ℤ) → sheet_words b.network b.places x m ≡ sheet_words c.network c.places x m

pub same_sheets : (b c : Book) → b.network ≡ c.network → SameAtMarks b.places c.places → SameSheets b c
unfolding checked
same_sheets b c e same =
    record {
      normals = same_normals_lem shares ∙ ap (λ (n : Network). normals_of n.stations c.places) e;
      residuals =
          λ x p a h. carried net b.places c.places same (λ r. residual net.stations x r a) (λ r. marks_residual net.stations r x a) p h
          ∙ ap (λ (n : Network). residual n.stations x (record_at c.places p) a) e;
      squares = λ x. same-T shares x ∙ ap (λ (n : Network). T n.stations c.places x) e;
      answers = λ x m fits. same-checked shares x m fits ∙ ap (λ (n : Network). then_nine (answer n c.places x m fits) (sizes_fit n c.places x)) e;
      rooms = same-room net b.places c.places same ∙ ap (λ (n : Network). room n c.places) e;
      words = λ x m. same_sheet net b.places c.places same x m ∙ ap (λ (n : Network). sheet_words n c.places x m) e;
    }
  where
    net : Network
    net = b.network

    shares : SameShares net b.places c.places
    shares = marks_shares net b.places c.places same
