-- The words of a record: how many they are, and that they read back as the record wherever they stand. Assumes nothing.
use Rattle.std.specs.Prelude.{ℕ, zero, suc, ◌+◌, ◌<◌, ◌≡◌, refl, List, length, get_or, ℤ, pos}
use Rattle.std.proofs.Common.{sym, ap, ◌∙◌, add-zero, arith}
use Rattle.words.specs.Signed.{index_in}
use Rattle.network.specs.declared.Record.{Record}
use Rattle.network.specs.declared.Record.TheVariants.{Empty, Baseline as baseline, Height as height, Position as position}
use Rattle.network.specs.RecordWords.{record_length, record_words, record_of, record_in}

pub length_record : (r : Record) → length (record_words r) ≡ record_length
unfolding record_words
length_record Empty = refl
length_record (baseline b) = refl
length_record (height h) = refl
length_record (position p) = refl

-- words that agree give one record
pub record_moved : (w v : List ℤ) (at to : ℕ) → ((j : ℕ) → j < record_length → get_or w (at + j) (pos 0) ≡ get_or v (to + j) (pos 0)) → record_in w at ≡ record_in v to
unfolding record_of
record_moved w v at to h =
    let kind : get_or w at (pos 0) ≡ get_or v to (pos 0) =
    ap (λ (k : ℕ). get_or w k (pos 0)) (sym (add-zero at)) ∙ h 0 (omega arith) ∙ ap (λ (k : ℕ). get_or v k (pos 0)) (add-zero to) in
    ap (λ (z : ℤ). record_of (index_in z 4) w at) kind ∙ go (index_in (get_or v to (pos 0)) 4)
  where
    go : (k : ℕ) → record_of k w at ≡ record_of k v to
    go zero =
        λ i. baseline
        (record {
          from = h 1 (omega arith) i;
          to = h 2 (omega arith) i;
          east = h 3 (omega arith) i;
          north = h 4 (omega arith) i;
          up = h 5 (omega arith) i;
          ee = h 6 (omega arith) i;
          en = h 7 (omega arith) i;
          eu = h 8 (omega arith) i;
          nn = h 9 (omega arith) i;
          nu = h 10 (omega arith) i;
          uu = h 11 (omega arith) i;
          hf = h 12 (omega arith) i;
          ht = h 13 (omega arith) i;
        })
    go (suc zero) = λ i. height (record { from = h 1 (omega arith) i; to = h 2 (omega arith) i; up = h 5 (omega arith) i; weight = h 11 (omega arith) i })
    go (suc (suc zero)) = refl
    go (suc (suc (suc zero))) =
        λ i. position
        (record {
          station = h 1 (omega arith) i;
          east = h 3 (omega arith) i;
          north = h 4 (omega arith) i;
          up = h 5 (omega arith) i;
          ee = h 6 (omega arith) i;
          en = h 7 (omega arith) i;
          eu = h 8 (omega arith) i;
          nn = h 9 (omega arith) i;
          nu = h 10 (omega arith) i;
          uu = h 11 (omega arith) i;
        })
    go (suc (suc (suc (suc k)))) = refl

words_back : (r : Record) → record_in (record_words r) 0 ≡ r
unfolding record_of record_words index_in
words_back Empty = refl
words_back (baseline b) = refl
words_back (height h) = refl
words_back (position p) = refl

-- where the words of a record stand, that record is read
pub record_back : (w : List ℤ) (at : ℕ) (r : Record) → ((j : ℕ) → j < record_length → get_or w (at + j) (pos 0) ≡ get_or (record_words r) j (pos 0)) → record_in w at ≡ r
record_back w at r h = record_moved w (record_words r) at 0 (λ j l. h j l ∙ ap (λ (k : ℕ). get_or (record_words r) k (pos 0)) (omega arith)) ∙ words_back r
