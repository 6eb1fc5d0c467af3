-- Two lists of places over one station list, with the same share of each place in N, u, T and D and the same unknowns tied: the check answers every pair alike (where a lent sheet has room
-- in both or in neither), and the sheet's last line is the same. Assumes nothing.
use Rattle.std.specs.Prelude.{ℕ, ◌<◌, ◌≡◌, Bool, List, [], ◌∷◌, ℤ, ◌-ℤ◌}
use Rattle.std.proofs.Math.Path.{refl, ap, ap₂, fun_ext}
use Rattle.std.proofs.Math.IntN.{pos}
use Rattle.integers.specs.Sums.{sum-ext, sum_n-ext}
use Rattle.network.specs.Stations.{unknown_count}
use Rattle.network.specs.Records.{record_at}
use Rattle.network.specs.declared.Network.{Network}
use Rattle.network.specs.declared.Place.{Place}
use Rattle.normals.specs.Formulas.{share_n, share_u, entry_n, entry_u, entries_fit, normals_of}
use Rattle.chains.specs.Chains.{is_tied, all_tied, first_untied}
use Rattle.acceptance.specs.Judge.{judge}
use Rattle.acceptance.specs.Exactly.{answer}
use Rattle.residuals.specs.Residuals.{share_t, T, share_d, D}
use Rattle.residuals.specs.Verdicts.{verdict_word, global_verdict}
use Rattle.sheet.specs.Sheet.{global_words}
use Rattle.checks.specs.Checks.{sizes_fit, then_nine}

pub record SameShares (net : Network) (places others : List Place) : Type 0 where
  pub matrix : (i j p : ℕ) → p < 256 → share_n net.stations (record_at places p) i j ≡ share_n net.stations (record_at others p) i j
  pub right : (i p : ℕ) → p < 256 → share_u net.stations (record_at places p) i ≡ share_u net.stations (record_at others p) i
  pub squares : (x : List ℤ) (p : ℕ) → p < 256 → share_t net.stations x (record_at places p) ≡ share_t net.stations x (record_at others p)
  pub freedom : (p : ℕ) → p < 256 → share_d net.stations (record_at places p) ≡ share_d net.stations (record_at others p)
  pub tied : is_tied net places ≡ is_tied net others

module _ {net : Network} {places others : List Place} (same : SameShares net places others) where
  pub same-N : entry_n net.stations places ≡ entry_n net.stations others
  unfolding entry_n
  same-N = fun_ext (λ i. fun_ext (λ j. sum-ext 256 (same.matrix i j)))

  pub same-u : entry_u net.stations places ≡ entry_u net.stations others
  unfolding entry_u
  same-u = fun_ext (λ i. sum-ext 256 (same.right i))

  pub same-T : (x : List ℤ) → T net.stations places x ≡ T net.stations others x
  unfolding T
  same-T x = sum-ext 256 (same.squares x)

  same-D : D net.stations places ≡ D net.stations others
  unfolding D
  same-D = ap (λ (k : ℕ). pos k -ℤ pos (unknown_count net.stations)) (sum_n-ext 256 same.freedom)

  pub same_normals_lem : normals_of net.stations places ≡ normals_of net.stations others
  same_normals_lem = rw (same-N, same-u) refl

  pub same_entries_lem : entries_fit net.stations places ≡ entries_fit net.stations others
  unfolding entries_fit
  same_entries_lem = rw (same-N, same-u) refl

  pub same-checked : (x m : List ℤ) (room : Bool) → then_nine (answer net places x m room) (sizes_fit net places x) ≡ then_nine (answer net others x m room) (sizes_fit net others x)
  unfolding answer judge all_tied first_untied sizes_fit
  same-checked x m room = rw (same_entries_lem, same-N, same-u, same.tied, same-T x) refl

  pub same_global : (x : List ℤ) → global_words net.stations places x ≡ global_words net.stations others x
  unfolding global_words
  same_global x = ap₂ (λ (t d : ℤ). t ∷ d ∷ verdict_word (global_verdict t d) ∷ []) (same-T x) same-D
