-- The loop over the scan: what is counted so far and what the scan still keeps and skips are all that it keeps and skips. Assumes nothing.
use mathlib.Core.Path.{◌≡◌, sym, ap, ◌∙◌}
use mathlib.Core.Bool.{true, false}
use mathlib.Core.List.{List, ◌∷◌, ◌++◌}
use Prim.Native.Nat.{ℕ, ◌+◌, ◌*◌, ◌<◌, ◌≤◌}
use native.Mathlib.Omega.{arith}
use borrow.Author.Tests.{le-leb}
use lib.Dec.{leb}
use lib.ListN.{length, length-append}
use Rattle.words.specs.Bools.{and_both, and_no_right}
use Rattle.files.specs.Files.{right_at}
use Rattle.salvage.specs.Salvage.{kept_at, kept_from, kept_starts, run_between, runs_between, skipped_runs, salvage_counts}
use Rattle.salvage.proofs.ScanLaws.{scan-keep, scan-skip, scan_end}
use Rattle.salvage.proofs.SalvageLaws.{kept_few, runs_few}

-- ---- one step
module _ (f : List ℕ) (at : ℕ) where
  pub keeps : at + 128 ≤ length f → right_at f at ≡ true → kept_from f at ≡ at ∷ kept_from f (at + 128)
  unfolding kept_at
  keeps h r = scan-keep f at (and_both (leb (at + 128) (length f)) (right_at f at) (le-leb (at + 128) (length f) h) r)

  pub skips : right_at f at ≡ false → kept_from f at ≡ kept_from f (at + 8)
  unfolding kept_at
  skips r = scan-skip f at (and_no_right (leb (at + 128) (length f)) (right_at f at) r)

  module _ (end : ℕ) where
    pub runs_keep : at + 128 ≤ length f → right_at f at ≡ true
        → runs_between end (kept_from f at) (length f) ≡ run_between end at ++ runs_between (at + 128) (kept_from f (at + 128)) (length f)
    unfolding runs_between
    runs_keep h r = ap (λ (ks : List ℕ). runs_between end ks (length f)) (keeps h r)

    pub runs_end : length f < at + 128 → runs_between end (kept_from f at) (length f) ≡ run_between end (length f)
    unfolding runs_between
    runs_end h = ap (λ (ks : List ℕ). runs_between end ks (length f)) (scan_end f at h)

-- ---- what is counted before byte `at`, where the last entry kept ended at byte `end`
pub record CountedTo (f : List ℕ) (skipped kept end at : ℕ) : Type 0 where
  pub inside : at ≤ length f
  pub entries : kept + length (kept_from f at) ≡ length (kept_starts f)
  pub runs : skipped + length (runs_between end (kept_from f at) (length f)) ≡ length (skipped_runs f)

pub counted_none : (f : List ℕ) → CountedTo f 0 0 0 0
counted_none f = record { inside = omega arith; entries = omega arith; runs = omega arith }

module _ (f : List ℕ) (skipped kept end at : ℕ) (c : CountedTo f skipped kept end at) where
  -- no count gets large
  pub counted_few : (128 * skipped ≤ length f + 128) × (128 * kept ≤ length f)
  counted_few =
      let few = kept_few f in
      let runs = runs_few 0 (kept_starts f) (length f) in
      (omega (arith, c.runs), omega (arith, c.entries))

  pub counted_keep : at + 128 ≤ length f → right_at f at ≡ true → CountedTo f (skipped + length (run_between end at)) (kept + 1) (at + 128) (at + 128)
  counted_keep h r =
      record {
        inside = h;
        entries = omega (arith, c.entries, ap length (keeps f at h r));
        runs = omega (
          arith,
          c.runs,
          ap length (runs_keep f at end h r),
          length-append (run_between end at) (runs_between (at + 128) (kept_from f (at + 128)) (length f)),
        );
      }

  pub counted_skip : at + 128 ≤ length f → right_at f at ≡ false → CountedTo f skipped kept end (at + 8)
  counted_skip h r =
      record {
        inside = omega arith;
        entries = ap (λ (ks : List ℕ). kept + length ks) (sym (skips f at r)) ∙ c.entries;
        runs = ap (λ (ks : List ℕ). skipped + length (runs_between end ks (length f))) (sym (skips f at r)) ∙ c.runs;
      }

  module _ (over : length f < at + 128) where
    all_kept : kept ≡ length (kept_starts f)
    all_kept = omega (arith, c.entries, ap length (scan_end f at over))

    all_skipped : skipped + length (run_between end (length f)) ≡ length (skipped_runs f)
    all_skipped = ap (λ (rs : List (ℕ × ℕ)). skipped + length rs) (sym (runs_end f at end over)) ∙ c.runs

    pub counted_all : {n : ℕ} → n ≡ length (run_between end (length f)) → record { skipped = skipped + n; kept = kept } ≡ salvage_counts f
    counted_all e = (λ i. record { skipped = (ap (λ (m : ℕ). skipped + m) e ∙ all_skipped) i; kept = all_kept i })
