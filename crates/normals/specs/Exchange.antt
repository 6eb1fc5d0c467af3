-- One record exchanged: the old share off and the new one on is N and u of the changed places. Assumes nothing.
use Rattle.std.specs.Prelude.{ℕ, ◌/◌, ◌%◌, ◌<◌, ◌≡◌, true, List, [], ◌∷◌, length, ℤ, pos, negsuc, ◌+ℤ◌, ◌-ℤ◌, ◌*ℤ◌}
use Rattle.std.proofs.Common.{sym, ap, ◌∙◌, subst, get_or-set_same, get_or-set_other}
use Rattle.integers.specs.Solvers.{ring, shapes}
use Rattle.integers.specs.Sums.{sum, sum-set}
use Rattle.integers.specs.Tables.{tabulate, get_d_tabulate, is-tabulate, plus, plus-at, plus-length, plus-ext, Within}
use Rattle.network.specs.Units.{most_unknowns, place_count}
use Rattle.network.specs.Stations.{network_fits}
use Rattle.network.specs.Records.{record_at, vacant}
use Rattle.network.specs.Rules.{record_fits}
use Rattle.network.specs.RuleLaws.{SoundStations, SoundRecord}
use Rattle.network.specs.declared.Network.{Network}
use Rattle.network.specs.declared.Station.{Station}
use Rattle.network.specs.declared.Place.{Place}
use Rattle.network.specs.declared.Record.{Record}
use Rattle.normals.specs.declared.Normals.{Normals}
use Rattle.normals.specs.Formulas.{share_n, share_u, entry_n, entry_u, matrix_of, right_of, normals_of, matrix_length}
use Rattle.normals.specs.ByRules.{ByRules, places_with}
use Rattle.normals.specs.Equations.{block_n, block_u}
use Rattle.normals.specs.Shares.{equation, block_share, block_right, equation-fits}
use Rattle.normals.specs.Entries.{matrix_within, right_within}

-- a record's share of entry k of N, by rows of 48
abbrev pub share_at : List Station → Record → ℕ → ℤ
share_at st r k = share_n st r (k / most_unknowns) (k % most_unknowns)

-- N and u with old's share off and new's on
unfoldable pub exchanged_n : List Station → Record → Record → List ℤ → List ℤ
exchanged_n st old new n = plus matrix_length (plus matrix_length n (negsuc 0) (share_at st old)) (pos 1) (share_at st new)

unfoldable pub exchanged_u : List Station → Record → Record → List ℤ → List ℤ
exchanged_u st old new u = plus most_unknowns (plus most_unknowns u (negsuc 0) (share_u st old)) (pos 1) (share_u st new)

abbrev pub exchanged : List Station → Record → Record → Normals → Normals
exchanged st old new x = record { matrix = exchanged_n st old new x.matrix; right = exchanged_u st old new x.right }

-- what the exchange asks: records by the rules, and N and u in a range that those of records by the rules are in
pub record Exchangeable (net : Network) (o r : Record) (n u : List ℤ) : Type 0 where
  pub network : network_fits net ≡ true
  pub old : record_fits net o ≡ true
  pub new : record_fits net r ≡ true
  pub matrix : Within matrix_length 2560000 n
  pub right : Within most_unknowns 768000000000 u

pub exchangeable : (net : Network) (places : List Place) (p : ℕ) (r : Record) → ByRules net places → p < place_count → record_fits net r ≡ true
    → Exchangeable net (record_at places p) r (matrix_of net.stations places) (right_of net.stations places)
exchangeable net places p r g h e = record { network = g.network; old = g.each p h; new = e; matrix = matrix_within net places g; right = right_within net places g }

-- any sum over the places of a function of the record
change : (places : List Place) (p : ℕ) (r : Record) (f : Record → ℤ) → p < place_count → length places ≡ place_count
    → sum place_count (λ x. f (record_at places x)) +ℤ negsuc 0 *ℤ f (record_at places p) +ℤ pos 1 *ℤ f r ≡ sum place_count (λ x. f (record_at (places_with places p r) x))
change places p r f h e =
    sym
    (sum-set place_count p (λ x. f (record_at places x)) (λ x. f (record_at (places_with places p r) x)) h
    (λ i ne. ap (λ (q : Place). f q.entry) (get_or-set_other places p i (record { entry = r }) vacant ne))
    ∙ ap (λ (q : Place). sum place_count (λ x. f (record_at places x)) +ℤ (f q.entry -ℤ f (record_at places p)))
    (get_or-set_same places p (record { entry = r }) vacant (subst (λ (n : ℕ). p < n) (sym e) h))
    ∙ ring (sum place_count (λ x. f (record_at places x)) ∷ f r ∷ f (record_at places p) ∷ []) (search shapes) tt)

-- a table of such sums
table : (n : ℕ) (places : List Place) (p : ℕ) (r : Record) (f : Record → ℕ → ℤ) → p < place_count → length places ≡ place_count
    → plus n (plus n (tabulate n (λ k. sum place_count (λ x. f (record_at places x) k))) (negsuc 0) (f (record_at places p))) (pos 1) (f r)
    ≡ tabulate n (λ k. sum place_count (λ x. f (record_at (places_with places p r) x) k))
table n places p r f h e =
    is-tabulate n _ _ (pos 0) (plus-length n _ (pos 1) (f r))
    (λ k l. plus-at n _ (pos 1) (f r) k l
    ∙ ap (λ (z : ℤ). z +ℤ pos 1 *ℤ f r k)
    (plus-at n _ (negsuc 0) (f (record_at places p)) k l ∙ ap (λ (z : ℤ). z +ℤ negsuc 0 *ℤ f (record_at places p) k) (get_d_tabulate n _ k (pos 0) l))
    ∙ change places p r (λ x. f x k) h e)

-- N and u of the places, with the record of place p exchanged for r, are those of the changed places
module _ (st : List Station) (places : List Place) (p : ℕ) (r : Record) (h : p < place_count) (e : length places ≡ place_count) where
  pub exchange_N : exchanged_n st (record_at places p) r (matrix_of st places) ≡ matrix_of st (places_with places p r)
  unfolding entry_n exchanged_n
  exchange_N = table matrix_length places p r (share_at st) h e

  pub exchange_u : exchanged_u st (record_at places p) r (right_of st places) ≡ right_of st (places_with places p r)
  unfolding entry_u exchanged_u
  exchange_u = table most_unknowns places p r (share_u st) h e

  pub exchange_is : exchanged st (record_at places p) r (normals_of st places) ≡ normals_of st (places_with places p r)
  exchange_is = λ i. record { matrix = exchange_N i; right = exchange_u i }

-- what the code adds for a record is its share
module _ (st : List Station) (g : SoundStations st) (r : Record) (h : SoundRecord st r) (m : List ℤ) (s : ℤ) where
  pub shift_N : plus matrix_length m s (block_n (equation st r)) ≡ plus matrix_length m s (share_at st r)
  shift_N = plus-ext matrix_length m s _ _ (λ k o. block_share st r h.from h.to (equation-fits st g r h) k)

  pub shift_u : plus most_unknowns m s (block_u (equation st r)) ≡ plus most_unknowns m s (share_u st r)
  shift_u = plus-ext most_unknowns m s _ _ (λ k o. block_right st r h.from h.to k)
