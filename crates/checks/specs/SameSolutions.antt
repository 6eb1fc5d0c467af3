-- A record that is a check only (document 02, request 2) changes no solution: two books over one station list with the same records in the adjustment have the same N and u, the check
-- answers every pair alike (where a lent sheet has room in both or in neither), and the sheet's last line is the same. The rest of a sheet is the count of records, the stations' lines,
-- which read no record, and each record's own line. Assumes nothing.
use Rattle.std.specs.Prelude.{ℕ, ◌/◌, ◌%◌, ◌<◌, ◌≡◌, Bool, true, false, cond, List, ◌⊎◌, eqb, ℤ, pos}
use Rattle.std.proofs.Math.Path.{refl, ap, fun_ext}
use Rattle.std.proofs.Common.{sym, ◌∙◌, subst, inl, inr, arith}
use Rattle.words.specs.Bools.{same_test}
use Rattle.network.specs.Stations.{unknown}
use Rattle.network.specs.Records.{acts, is_position, from_of, to_of, record_at}
use Rattle.network.specs.RuleLaws.{network_few, ends_listed, fits-passed}
use Rattle.network.specs.RecordLaws.{acting_filled, position-acts}
use Rattle.network.specs.declared.Network.{Network}
use Rattle.network.specs.declared.Place.{Place}
use Rattle.network.specs.declared.Record.{Record}
use Rattle.normals.specs.Formulas.{share_n, share_u, entry_n, entry_u}
use Rattle.normals.specs.ByRules.{ByRules}
use Rattle.chains.specs.Bits.{bit}
use Rattle.chains.specs.Chains.{Tied, held, positioned, along, back, tied_set, is_tied}
use Rattle.chains.specs.ChainLaws.{tied_sound, tied_whole}
use Rattle.acceptance.specs.Exactly.{answer, book_in_range}
use Rattle.book.specs.declared.Book.{Book}
use Rattle.book.specs.Book.{sound}
use Rattle.residuals.specs.Residuals.{in_adjustment, share_t, share_d}
use Rattle.residuals.specs.CheckOnly.{check_only}
use Rattle.sheet.specs.Sheet.{global_words}
use Rattle.checks.specs.Checks.{sizes_fit, then_nine, checked}
use Rattle.checks.specs.SameShares.{SameShares, same-N, same-u, same-checked, same_global}
use Rattle.checks.specs.CheckLaws.{rules}

-- ════ the same records in the adjustment: at each place the same record, or none that is in it
abbrev SameAt : Network → Record → Record → Type 0
SameAt net r s = (r ≡ s) ⊎ ((in_adjustment net.stations r ≡ false) × (in_adjustment net.stations s ≡ false))

abbrev pub SameAdjustment : Network → List Place → List Place → Type 0
SameAdjustment net places others = (p : ℕ) → p < 256 → SameAt net (record_at places p) (record_at others p)

flipped : (net : Network) {r s : Record} → SameAt net r s → SameAt net s r
flipped net (inl e) = inl (sym e)
flipped net (inr e) = inr (e.1, e.0)

-- ════ a chain over one list is one over the other: where it goes along a check only, it has met a held station already
module _ (net : Network) (places others : List Place) (g : ByRules net places) (same : SameAdjustment net places others) (c : ℕ) (low : c < 3) where
  ends_tied : (p : ℕ) → p < 256 → acts c (record_at places p) ≡ true → in_adjustment net.stations (record_at places p) ≡ false
      → Tied net others c (from_of (record_at places p)) × Tied net others c (to_of (record_at places p))
  ends_tied p h a out =
      let l = ends_listed net.count (record_at places p) (network_few net g.network) (fits-passed net (record_at places p) (g.each p h) (acting_filled (record_at places p) c a)).ends in
      let u = (check_only net.stations (record_at places p) out).ends c low a in
      (held l.from u.0, held l.to u.1)

  tied_too : {s : ℕ} → Tied net places c s → Tied net others c s
  tied_too (held l u) = held l u
  tied_too (positioned {s = s} {p = p} h i t) = go (same p h)
    where
      go : SameAt net (record_at places p) (record_at others p) → Tied net others c s
      go (inl q) = positioned h (ap is_position (sym q) ∙ i) (ap to_of (sym q) ∙ t)
      go (inr o) = rw t at (ends_tied p h (position-acts (record_at places p) c i) o.0).1
  tied_too (along {s = s} {t = t} {p = p} h a f e j) = go (tied_too j) (same p h)
    where
      go : Tied net others c s → SameAt net (record_at places p) (record_at others p) → Tied net others c t
      go i (inl q) = along h (ap (acts c) (sym q) ∙ a) (ap from_of (sym q) ∙ f) (ap to_of (sym q) ∙ e) i
      go i (inr o) = rw e at (ends_tied p h a o.0).1
  tied_too (back {s = s} {t = t} {p = p} h a f e j) = go (tied_too j) (same p h)
    where
      go : Tied net others c t → SameAt net (record_at places p) (record_at others p) → Tied net others c s
      go i (inl q) = back h (ap (acts c) (sym q) ∙ a) (ap from_of (sym q) ∙ f) (ap to_of (sym q) ∙ e) i
      go i (inr o) = rw f at (ends_tied p h a o.0).0

module _ (net : Network) (places others : List Place) (g : ByRules net places) (k : ByRules net others) (same : SameAdjustment net places others) where
  same_set : (c s : ℕ) → c < 3 → bit (tied_set net places c) s ≡ bit (tied_set net others c) s
  same_set c s h =
      same_test _ _
      (λ e. tied_whole net others c (book_in_range net others k).ends s (tied_too net places others g same c h (tied_sound net places c (book_in_range net places g).ends s e)))
      (λ e. tied_whole net places c (book_in_range net places g).ends s (tied_too net others places k (λ p l. flipped net (same p l)) c h (tied_sound net others c (book_in_range net others k).ends s e)))

  same_tied : is_tied net places ≡ is_tied net others
  unfolding is_tied
  same_tied = fun_ext (λ q. ap (cond (eqb (unknown net.stations q) 0) true) (same_set (q % 3) (q / 3) (omega arith)))

  -- ════ what a check only adds nothing to
  same_share : {B : Type 0} (f : Record → B) (none : B) → ((r : Record) → in_adjustment net.stations r ≡ false → f r ≡ none) → (p : ℕ) → p < 256 → f (record_at places p) ≡ f (record_at others p)
  same_share f none z p h = go (same p h)
    where
      go : SameAt net (record_at places p) (record_at others p) → f (record_at places p) ≡ f (record_at others p)
      go (inl e) = ap f e
      go (inr o) = z _ o.0 ∙ sym (z _ o.1)

  no_squares : (x : List ℤ) (r : Record) → in_adjustment net.stations r ≡ false → share_t net.stations x r ≡ pos 0
  unfolding share_t
  no_squares x r o = rw o refl

  no_freedom : (r : Record) → in_adjustment net.stations r ≡ false → share_d net.stations r ≡ 0
  unfolding share_d
  no_freedom r o = rw o refl

  same_shares : SameShares net places others
  same_shares =
      record {
        matrix = λ i j. same_share (λ r. share_n net.stations r i j) (pos 0) (λ r o. (check_only net.stations r o).matrix i j);
        right = λ i. same_share (λ r. share_u net.stations r i) (pos 0) (λ r o. (check_only net.stations r o).right i);
        squares = λ x. same_share (share_t net.stations x) (pos 0) (no_squares x);
        freedom = same_share (share_d net.stations) 0 no_freedom;
        tied = same_tied;
      }

-- ════ two books over one station list with the same records in the adjustment
pub record SameSolutions (b c : Book) : Type 0 where
  pub matrix : (i j : ℕ) → entry_n b.network.stations b.places i j ≡ entry_n c.network.stations c.places i j
  pub right : (i : ℕ) → entry_u b.network.stations b.places i ≡ entry_u c.network.stations c.places i
  pub answers : (x m : List ℤ) (fits : Bool) → checked b x m fits ≡ checked c x m fits
  pub global : (x : List ℤ) → global_words b.network.stations b.places x ≡ global_words c.network.stations c.places x

pub same_solutions : (b c : Book) → sound b ≡ true → sound c ≡ true → b.network ≡ c.network → SameAdjustment b.network b.places c.places → SameSolutions b c
unfolding checked
same_solutions b c p q e same =
    record {
      matrix = λ i j. ap (λ (f : ℕ → ℕ → ℤ). f i j) (same-N shares) ∙ ap (λ (n : Network). entry_n n.stations c.places i j) e;
      right = λ i. ap (λ (f : ℕ → ℤ). f i) (same-u shares) ∙ ap (λ (n : Network). entry_u n.stations c.places i) e;
      answers = λ x m fits. same-checked shares x m fits ∙ ap (λ (n : Network). then_nine (answer n c.places x m fits) (sizes_fit n c.places x)) e;
      global = λ x. same_global shares x ∙ ap (λ (n : Network). global_words n.stations c.places x) e;
    }
  where
    net : Network
    net = b.network

    g : ByRules net b.places
    g = rules b p

    k : ByRules net c.places
    k = subst (λ (n : Network). ByRules n c.places) (sym e) (rules c q)

    shares : SameShares net b.places c.places
    shares = same_shares net b.places c.places g k same
