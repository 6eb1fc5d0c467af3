-- What a C host finds after a salvage that is not refused (`salvage_found`), and how much room is never too little (`salvage_enough`). Assumes nothing.
use Rattle.std.specs.Prelude.{ℕ, ◌+◌, ◌*◌, ◌/◌, ◌<◌, ◌≤◌, ◌^◌, ◌≡◌, refl, Bool, cond, ◌⊎◌, leb, pos, nat_abs, Ok}
use Rattle.std.proofs.Common.{sym, ◌∙◌, inl, inr, arith}
use Rattle.std.proofs.Math.Path.{ap, subst}
use Rattle.std.proofs.Math.Bool.{true, false}
use mathlib.Core.List.{List, [], ◌∷◌}
use borrow.Author.Tests.{leb-true, le-leb}
use Rattle.std.proofs.Math.ListN.{length, take, drop}
use Rattle.words.specs.Bools.{true_or_false}
use Rattle.words.specs.Signed.{signed}
use Rattle.words.specs.Words.{Bytes}
use Rattle.words.specs.Runs.{words_at, put_words}
use Rattle.files.specs.Files.{reads, entries_of}
use Rattle.salvage.specs.Salvage.{kept_starts, kept_entries, skipped_runs, kept_pairs, pair_words, fresh_file, salvage_counts, room_for, salvage_answer, fresh_left, skipped_left, kept_left}
use Rattle.salvage.proofs.SalvageLaws.{room-each, room-enough, length-kept, fresh_reads, fresh_entries, fresh_front, fresh-beyond, pairs_back, pairs_beyond, length-kept_pairs}
use Rattle.dombrelat.specs.SalvageCall.{SalvageReturned, salvage_call}

-- the lent slices after a salvage that is not refused, which came as `fresh`, `skipped`, `kept` and `counts`
pub record SalvageFound (damaged fresh skipped kept counts : List ℕ) (r : SalvageReturned) : Type 0 where
  -- "both counts are returned"
  pub counted : words_at r.counts 0 2 ≡ signed (length (skipped_runs damaged)) ∷ signed (length (kept_starts damaged)) ∷ []
  -- the fresh file is at the front, it reads, and its entries are those kept
  pub file : take (128 * length (kept_starts damaged)) r.fresh ≡ fresh_file damaged
  pub readable : reads (fresh_file damaged) ≡ true
  pub entries : entries_of (fresh_file damaged) ≡ kept_entries damaged
  -- the words of the two lists
  pub runs : words_at r.skipped 0 (2 * length (skipped_runs damaged)) ≡ pair_words (skipped_runs damaged)
  pub starts : words_at r.kept 0 (2 * length (kept_starts damaged)) ≡ pair_words (kept_pairs 0 (kept_starts damaged))
  -- "Lent room beyond what is written stays" (request 6)
  pub fresh_beyond : drop (128 * length (kept_starts damaged)) r.fresh ≡ drop (128 * length (kept_starts damaged)) fresh
  pub skipped_beyond : drop (16 * length (skipped_runs damaged)) r.skipped ≡ drop (16 * length (skipped_runs damaged)) skipped
  pub kept_beyond : drop (16 * length (kept_starts damaged)) r.kept ≡ drop (16 * length (kept_starts damaged)) kept
  pub counts_beyond : drop 16 r.counts ≡ drop 16 counts

module _ (damaged fresh skipped kept counts : List ℕ) where
  abbrev roomy : Bool
  roomy = room_for (salvage_counts damaged) (length fresh) (length skipped) (length kept)

  -- the call's answer, by the two tests of room
  answer-is : (t u : Bool) → leb 16 (length counts) ≡ t → roomy ≡ u → (salvage_call damaged fresh skipped kept counts).answer ≡ cond t (cond u (pos 0) (pos 10)) (pos 10)
  unfolding salvage_call salvage_answer
  answer-is true true e f = rw (e, f)
  answer-is true false e f = rw (e, f)
  answer-is false u e f = rw e

  -- as many bytes as the damaged file has, a pair for each whole 128 of them and one more in each list, and two counts
  pub salvage_enough : length damaged ≤ length fresh → 16 * (length damaged / 128 + 1) ≤ length skipped → 16 * (length damaged / 128 + 1) ≤ length kept → 16 ≤ length counts
      → (salvage_call damaged fresh skipped kept counts).answer ≡ pos 0
  salvage_enough f s k c = answer-is true true (le-leb 16 (length counts) c) (room-enough damaged (length fresh) (length skipped) (length kept) f s k)

  -- an answer 0 says that there is room for all
  roomy_all : (salvage_call damaged fresh skipped kept counts).answer ≡ pos 0 → (leb 16 (length counts) ≡ true) × (roomy ≡ true)
  roomy_all z = go (true_or_false (leb 16 (length counts))) (true_or_false roomy)
    where
      ten : (salvage_call damaged fresh skipped kept counts).answer ≡ pos 10 → ⊥
      ten e = let n : ◌≡◌ {A = ℕ} 10 0 = ap nat_abs (sym e ∙ z) in omega arith

      go : (leb 16 (length counts) ≡ true) ⊎ (leb 16 (length counts) ≡ false) → (roomy ≡ true) ⊎ (roomy ≡ false) → (leb 16 (length counts) ≡ true) × (roomy ≡ true)
      go (inl e) (inl f) = (e, f)
      go (inl e) (inr f) = absurd (ten (answer-is true false e f))
      go (inr e) f = absurd (ten (answer-is false roomy e refl))

  call_is : leb 16 (length counts) ≡ true → roomy ≡ true
      → salvage_call damaged fresh skipped kept counts
      ≡ record {
        answer = pos 0;
        fresh = fresh_left (Ok (salvage_counts damaged)) damaged fresh;
        skipped = put_words skipped 0 (pair_words (skipped_runs damaged));
        kept = put_words kept 0 (pair_words (kept_pairs 0 (kept_starts damaged)));
        counts = put_words counts 0 (signed (length (skipped_runs damaged)) ∷ signed (length (kept_starts damaged)) ∷ []);
      }
  unfolding salvage_call salvage_answer skipped_left kept_left
  call_is e f = rw (e, f)

  pub salvage_found : Bytes damaged → length damaged < 2 ^ 64 → (salvage_call damaged fresh skipped kept counts).answer ≡ pos 0 → SalvageFound damaged fresh skipped kept counts (salvage_call damaged fresh skipped kept counts)
  unfolding pair_words
  salvage_found b h z =
      let t = roomy_all z in
      let each = room-each (salvage_counts damaged) (length fresh) (length skipped) (length kept) t.1 in
      let two = leb-true 16 (length counts) t.0 in
      let n = salvage_counts damaged in
      let l = length-kept damaged in
      let ps = kept_pairs 0 (kept_starts damaged) in
      let p = length-kept_pairs 0 (kept_starts damaged) in
      let both : List (ℕ × ℕ) = (length (skipped_runs damaged), length (kept_starts damaged)) ∷ [] in
      subst (SalvageFound damaged fresh skipped kept counts) (sym (call_is t.0 t.1))
      (record {
        counted = pairs_back counts both two;
        file = ap (λ (m : ℕ). take (128 * m) (fresh_left (Ok n) damaged fresh)) (sym l) ∙ fresh_front damaged b n fresh each.0;
        readable = fresh_reads damaged b h;
        entries = fresh_entries damaged b;
        runs = pairs_back skipped (skipped_runs damaged) each.1;
        starts = rw p at (pairs_back kept ps (omega (arith, p, each.2)));
        fresh_beyond = ap (λ (m : ℕ). drop (128 * m) (fresh_left (Ok n) damaged fresh)) (sym l) ∙ fresh-beyond damaged b n fresh each.0 ∙ ap (λ (m : ℕ). drop (128 * m) fresh) l;
        skipped_beyond = pairs_beyond skipped (skipped_runs damaged) each.1;
        kept_beyond = rw p at (pairs_beyond kept ps (omega (arith, p, each.2)));
        counts_beyond = pairs_beyond counts both two;
      })
