-- Words that are those of the records, place by place, give these places. Assumes nothing.
use Rattle.std.specs.Prelude.{ℕ, ◌+◌, ◌*◌, ◌<◌, ◌≤◌, ◌≡◌, List, length, ℤ}
use Rattle.std.proofs.Math.Path.{sym, ap}
use Rattle.std.proofs.Common.{◌∙◌, arith}
use Rattle.std.proofs.Math.Decide.{ℕ_discrete}
use Rattle.integers.specs.Tables.{is-tabulate}
use Rattle.lists.specs.Pasted.{pasted, pasted-before, pasted-within}
use Rattle.network.specs.Units.{place_count}
use Rattle.network.specs.Records.{record_at, vacant}
use Rattle.network.specs.RecordWords.{record_length, record_words, record_in}
use Rattle.network.specs.RecordWordLaws.{length_record, record_moved, record_back}
use Rattle.network.specs.Places.{places_length, places_in}
use Rattle.network.specs.declared.Place.{Place}
use Rattle.network.specs.declared.Record.{Record}

abbrev placed : Record → Place
placed r = record { entry = r }

-- words of places, up to the n-th
pub record Lent (places : List Place) (n : ℕ) (w : List ℤ) : Type 0 where
  pub long : length w ≡ places_length
  pub reads : (p : ℕ) → p < n → record_in w (p * record_length) ≡ record_at places p

module _ (places : List Place) (w : List ℤ) where
  pub lent_none : length w ≡ places_length → Lent places 0 w
  lent_none e = record { long = e; reads = λ p h. absurd (omega arith) }

  -- the record at place n, stored behind those before it
  pub lent-more : (n : ℕ) (r : Record) (v : List ℤ) → n < place_count → r ≡ record_at places n → v ≡ pasted w (n * record_length) (record_words r) → length v ≡ length w → Lent places n w → Lent places (n + 1) v
  lent-more n r v h e q k o = record { long = k ∙ o.long; reads = λ p l. at p l (ℕ_discrete p n) }
    where
      at : (p : ℕ) → p < n + 1 → Dec (p ≡ n) → record_in v (p * record_length) ≡ record_at places p
      at p l (yes i) = rw (i, q) (record_back (pasted w (n * record_length) (record_words r)) (n * record_length) r (λ j m. pasted-within (record_words r) w (n * record_length) j (rw (length_record r) m) (rw (length_record r, o.long) (omega arith))) ∙ e)
      at p l (no i) = rw q (record_moved (pasted w (n * record_length) (record_words r)) w (p * record_length) (p * record_length) (λ j m. pasted-before (record_words r) w (n * record_length) (p * record_length + j) (omega (arith, i))) ∙ o.reads p (omega (arith, i)))

  pub lent_all : (n : ℕ) → place_count ≤ n → length places ≡ place_count → Lent places n w → places_in w ≡ places
  unfolding places_in
  lent_all n h e o = sym (is-tabulate place_count (λ p. placed (record_in w (p * record_length))) places vacant e (λ p l. ap placed (sym (o.reads p (omega arith)))))
