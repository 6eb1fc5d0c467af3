-- The loop that writes: what it has written, and what is left of each output, make the whole of it. Assumes nothing.
use mathlib.Core.Path.{◌≡◌, refl, sym, ap, ◌∙◌}
use mathlib.Core.Bool.{true, false}
use mathlib.Core.List.{List, [], ◌∷◌, ◌++◌}
use Prim.Native.Nat.{ℕ, ◌+◌, ◌*◌, ◌<◌, ◌≤◌}
use native.Mathlib.Omega.{arith}
use lib.ListN.{length, length-append}
use lib.IntN.{ℤ}
use Rattle.words.specs.Signed.{signed}
use Rattle.words.specs.Words.{put_word}
use Rattle.words.specs.Runs.{words_at, put_words}
use Rattle.words.specs.RunLaws.{length_words, length_run}
use Rattle.files.specs.BytesLaws.{put_append}
use Rattle.files.specs.Entries.{entry_words}
use Rattle.files.specs.EntryLaws.{length_entry}
use Rattle.files.specs.Files.{right_at, file_words}
use Rattle.salvage.specs.Salvage.{kept_from, kept_starts, entries_at, kept_entries, run_between, runs_between, skipped_runs, kept_pairs, pair_words, salvage_counts, room_for}
use Rattle.salvage.proofs.ScanLaws.{scan_end}
use Rattle.salvage.proofs.SalvageLaws.{length_pairs, room-each}
use Rattle.salvage.proofs.Counted.{keeps, skips, runs_keep, runs_end, CountedTo, counted_none, counted_keep, counted_skip}

-- ---- words of pairs
pub pair_put : (s : List ℕ) (at : ℕ) (a b : ℤ) → put_word (put_word s at a) (at + 8) b ≡ put_words s at (a ∷ b ∷ [])
unfolding put_words
pair_put s at a b = refl

pairs_append : (r s : List (ℕ × ℕ)) → pair_words (r ++ s) ≡ pair_words r ++ pair_words s
unfolding pair_words
pairs_append [] s = refl
pairs_append (x ∷ r) s = ap (λ (l : List ℤ). signed x.0 ∷ signed x.1 ∷ l) (pairs_append r s)

-- ---- what is left, before byte `at`, of each output
abbrev fresh_rest : List ℕ → ℕ → ℕ → List ℤ
fresh_rest f entries at = file_words (128 * entries) (entries_at f (kept_from f at))

abbrev skipped_rest : List ℕ → ℕ → ℕ → List ℤ
skipped_rest f end at = pair_words (runs_between end (kept_from f at) (length f))

abbrev kept_rest : List ℕ → ℕ → ℕ → List ℤ
kept_rest f entries at = pair_words (kept_pairs (128 * entries) (kept_from f at))

pub record WrittenTo (f fresh₀ skipped₀ kept₀ fresh skipped kept : List ℕ) (runs entries end at : ℕ) : Type 0 where
  pub counted : CountedTo f runs entries end at
  pub fresh_long : length fresh ≡ length fresh₀
  pub skipped_long : length skipped ≡ length skipped₀
  pub kept_long : length kept ≡ length kept₀
  pub fresh_whole : put_words fresh (128 * entries) (fresh_rest f entries at) ≡ put_words fresh₀ 0 (file_words 0 (kept_entries f))
  pub skipped_whole : put_words skipped (16 * runs) (skipped_rest f end at) ≡ put_words skipped₀ 0 (pair_words (skipped_runs f))
  pub kept_whole : put_words kept (16 * entries) (kept_rest f entries at) ≡ put_words kept₀ 0 (pair_words (kept_pairs 0 (kept_starts f)))

pub written_none : (f fresh skipped kept : List ℕ) → WrittenTo f fresh skipped kept fresh skipped kept 0 0 0 0
written_none f fresh skipped kept =
    record { counted = counted_none f; fresh_long = refl; skipped_long = refl; kept_long = refl; fresh_whole = refl; skipped_whole = refl; kept_whole = refl }

-- ---- an entry kept
module _ (f : List ℕ) (at : ℕ) (inside : at + 128 ≤ length f) (right : right_at f at ≡ true) where
  fresh_keep : (fresh : List ℕ) (entries : ℕ)
      → put_words (put_words fresh (128 * entries) (entry_words (128 * entries) (words_at f at 13))) (128 * (entries + 1)) (fresh_rest f (entries + 1) (at + 128))
      ≡ put_words fresh (128 * entries) (fresh_rest f entries at)
  unfolding file_words entries_at
  fresh_keep fresh entries =
      let e = entry_words (128 * entries) (words_at f at 13) in
      let n : 128 * (entries + 1) ≡ 128 * entries + 128 = omega arith in
      let m : 128 * entries + 128 ≡ 128 * entries + 8 * length e = omega (arith, length_entry (128 * entries) (words_at f at 13) (length_words f at 13)) in
      let rest = file_words (128 * entries + 128) (entries_at f (kept_from f (at + 128))) in
      ap (λ (k : ℕ). put_words (put_words fresh (128 * entries) e) k (file_words k (entries_at f (kept_from f (at + 128))))) n
      ∙ ap (λ (k : ℕ). put_words (put_words fresh (128 * entries) e) k rest) m
      ∙ sym (put_append fresh (128 * entries) e rest)
      ∙ ap (λ (ks : List ℕ). put_words fresh (128 * entries) (file_words (128 * entries) (entries_at f ks))) (sym (keeps f at inside right))

  kept-keep : (kept : List ℕ) (entries : ℕ)
      → put_words (put_words kept (16 * entries) (signed at ∷ signed (128 * entries) ∷ [])) (16 * (entries + 1)) (kept_rest f (entries + 1) (at + 128))
      ≡ put_words kept (16 * entries) (kept_rest f entries at)
  unfolding kept_pairs pair_words
  kept-keep kept entries =
      let e = signed at ∷ signed (128 * entries) ∷ [] in
      let n : 128 * (entries + 1) ≡ 128 * entries + 128 = omega arith in
      let m : 16 * (entries + 1) ≡ 16 * entries + 8 * 2 = omega arith in
      let rest = pair_words (kept_pairs (128 * entries + 128) (kept_from f (at + 128))) in
      ap (λ (k : ℕ). put_words (put_words kept (16 * entries) e) (16 * (entries + 1)) (pair_words (kept_pairs k (kept_from f (at + 128))))) n
      ∙ ap (λ (k : ℕ). put_words (put_words kept (16 * entries) e) k rest) m
      ∙ sym (put_append kept (16 * entries) e rest)
      ∙ ap (λ (ks : List ℕ). put_words kept (16 * entries) (pair_words (kept_pairs (128 * entries) ks))) (sym (keeps f at inside right))

  skipped_keep : (skipped : List ℕ) (runs end : ℕ)
      → put_words (put_words skipped (16 * runs) (pair_words (run_between end at))) (16 * (runs + length (run_between end at))) (skipped_rest f (at + 128) (at + 128))
      ≡ put_words skipped (16 * runs) (skipped_rest f end at)
  skipped_keep skipped runs end =
      let r = run_between end at in
      let rest = runs_between (at + 128) (kept_from f (at + 128)) (length f) in
      let n : 16 * (runs + length r) ≡ 16 * runs + 8 * length (pair_words r) = omega (arith, length_pairs r) in
      ap (λ (k : ℕ). put_words (put_words skipped (16 * runs) (pair_words r)) k (pair_words rest)) n
      ∙ sym (put_append skipped (16 * runs) (pair_words r) (pair_words rest))
      ∙ ap (put_words skipped (16 * runs)) (sym (pairs_append r rest) ∙ ap pair_words (sym (runs_keep f at end inside right)))

module _ {f fresh₀ skipped₀ kept₀ fresh skipped kept : List ℕ} {runs entries end at : ℕ} (w : WrittenTo f fresh₀ skipped₀ kept₀ fresh skipped kept runs entries end at) where
  pub written-keep : {fresh' skipped' kept' : List ℕ} {runs' : ℕ} → at + 128 ≤ length f → right_at f at ≡ true
      → runs' ≡ runs + length (run_between end at)
      → fresh' ≡ put_words fresh (128 * entries) (entry_words (128 * entries) (words_at f at 13))
      → skipped' ≡ put_words skipped (16 * runs) (pair_words (run_between end at))
      → kept' ≡ put_words kept (16 * entries) (signed at ∷ signed (128 * entries) ∷ [])
      → WrittenTo f fresh₀ skipped₀ kept₀ fresh' skipped' kept' runs' (entries + 1) (at + 128) (at + 128)
  written-keep h r n ff ss kk =
      record {
        counted = rw n (counted_keep f runs entries end at w.counted h r);
        fresh_long = ap length ff ∙ length_run fresh (128 * entries) (entry_words (128 * entries) (words_at f at 13)) ∙ w.fresh_long;
        skipped_long = ap length ss ∙ length_run skipped (16 * runs) (pair_words (run_between end at)) ∙ w.skipped_long;
        kept_long = ap length kk ∙ length_run kept (16 * entries) (signed at ∷ signed (128 * entries) ∷ []) ∙ w.kept_long;
        fresh_whole = ap (λ (l : List ℕ). put_words l (128 * (entries + 1)) (fresh_rest f (entries + 1) (at + 128))) ff ∙ fresh_keep f at h r fresh entries ∙ w.fresh_whole;
        skipped_whole = (λ i. put_words (ss i) (16 * n i) (skipped_rest f (at + 128) (at + 128))) ∙ skipped_keep f at h r skipped runs end ∙ w.skipped_whole;
        kept_whole = ap (λ (l : List ℕ). put_words l (16 * (entries + 1)) (kept_rest f (entries + 1) (at + 128))) kk ∙ kept-keep f at h r kept entries ∙ w.kept_whole;
      }

  pub written-skip : at + 128 ≤ length f → right_at f at ≡ false → WrittenTo f fresh₀ skipped₀ kept₀ fresh skipped kept runs entries end (at + 8)
  written-skip h r =
      let s : kept_from f (at + 8) ≡ kept_from f at = sym (skips f at r) in
      record {
        counted = counted_skip f runs entries end at w.counted h r;
        fresh_long = w.fresh_long;
        skipped_long = w.skipped_long;
        kept_long = w.kept_long;
        fresh_whole = ap (λ (ks : List ℕ). put_words fresh (128 * entries) (file_words (128 * entries) (entries_at f ks))) s ∙ w.fresh_whole;
        skipped_whole = ap (λ (ks : List ℕ). put_words skipped (16 * runs) (pair_words (runs_between end ks (length f)))) s ∙ w.skipped_whole;
        kept_whole = ap (λ (ks : List ℕ). put_words kept (16 * entries) (pair_words (kept_pairs (128 * entries) ks))) s ∙ w.kept_whole;
      }

  -- ---- room for an entry and for a run
  module _ (room : room_for (salvage_counts f) (length fresh₀) (length skipped₀) (length kept₀) ≡ true) where
    pub room-kept : at + 128 ≤ length f → right_at f at ≡ true → (128 * entries + 128 ≤ length fresh₀) × (16 * entries + 16 ≤ length kept₀)
    room-kept h r =
        let each = room-each (salvage_counts f) (length fresh₀) (length skipped₀) (length kept₀) room in
        let n = w.counted.entries in
        let k = ap length (keeps f at h r) in
        (omega (arith, each.0), omega (arith, each.2))

    pub room_run : at + 128 ≤ length f → right_at f at ≡ true → 16 * runs + 16 * length (run_between end at) ≤ length skipped₀
    room_run h r =
        omega (
          arith,
          (room-each (salvage_counts f) (length fresh₀) (length skipped₀) (length kept₀) room).1,
          w.counted.runs,
          ap length (runs_keep f at end h r),
          length-append (run_between end at) (runs_between (at + 128) (kept_from f (at + 128)) (length f)),
        )

    pub room-last : length f < at + 128 → 16 * runs + 16 * length (run_between end (length f)) ≤ length skipped₀
    room-last h =
        omega (arith, (room-each (salvage_counts f) (length fresh₀) (length skipped₀) (length kept₀) room).1, w.counted.runs, ap length (runs_end f at end h))

  -- ---- the end
  module _ (over : length f < at + 128) where
    pub written_fresh : fresh ≡ put_words fresh₀ 0 (file_words 0 (kept_entries f))
    unfolding file_words entries_at put_words
    written_fresh = ap (λ (ks : List ℕ). put_words fresh (128 * entries) (file_words (128 * entries) (entries_at f ks))) (sym (scan_end f at over)) ∙ w.fresh_whole

    pub written-kept : kept ≡ put_words kept₀ 0 (pair_words (kept_pairs 0 (kept_starts f)))
    unfolding kept_pairs pair_words put_words
    written-kept = ap (λ (ks : List ℕ). put_words kept (16 * entries) (pair_words (kept_pairs (128 * entries) ks))) (sym (scan_end f at over)) ∙ w.kept_whole

    pub written_skipped : {skipped' : List ℕ} → skipped' ≡ put_words skipped (16 * runs) (pair_words (run_between end (length f))) → skipped' ≡ put_words skipped₀ 0 (pair_words (skipped_runs f))
    written_skipped e = e ∙ ap (λ (rs : List (ℕ × ℕ)). put_words skipped (16 * runs) (pair_words rs)) (sym (runs_end f at end over)) ∙ w.skipped_whole
