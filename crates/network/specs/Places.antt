-- The places of a book in words: 256 records of 14 words, one after the other. Code that goes over the places is lent such words, and reads one record at a time. Assumes nothing.
use Rattle.std.specs.Prelude.{ℕ, ◌*◌, ◌<◌, ◌≡◌, List, length, ℤ}
use Rattle.std.proofs.Common.{ap}
use Rattle.integers.specs.Tables.{tabulate, get_d_tabulate, length-tabulate}
use Rattle.network.specs.Units.{place_count}
use Rattle.network.specs.Records.{record_at, vacant}
use Rattle.network.specs.RecordWords.{record_length, record_in}
use Rattle.network.specs.declared.Place.{Place}

-- the length in words of all places
abbrev pub places_length : ℕ
places_length = place_count * record_length

-- the places that words give, for any words
unfoldable pub places_in : List ℤ → List Place
places_in w = tabulate place_count (λ p. record { entry = record_in w (p * record_length) })

pub record_in_place : (w : List ℤ) (p : ℕ) → p < place_count → record_at (places_in w) p ≡ record_in w (p * record_length)
unfolding places_in
record_in_place w p h = ap (λ (x : Place). x.entry) (get_d_tabulate place_count (λ p. record { entry = record_in w (p * record_length) }) p vacant h)

pub length_places : (w : List ℤ) → length (places_in w) ≡ place_count
unfolding places_in
length_places w = length-tabulate place_count _
