-- A record in 14 words, both ways: kind (0 empty, 1 baseline, 2 height difference, 4 position), from or station, to, observed E, N, U, weights EE, EN, EU, NN, NU, UU, from-height,
-- to-height. A height difference has the U and UU words, a position no to and no heights. Assumes nothing.
use Rattle.std.specs.Prelude.{ℕ, zero, suc, ◌+◌, List, [], ◌∷◌, get_or, ℤ, pos}
use Rattle.words.specs.Signed.{index_in}
use Rattle.network.specs.Records.{baseline_of, height_of, position_of}
use Rattle.network.specs.declared.Record.{Record}
use Rattle.network.specs.declared.Record.TheVariants.{Empty, Baseline as baseline, Height as height, Position as position}

-- a record's length in words
abbrev pub record_length : ℕ
record_length = 14

-- what a record does not use is 0
unfoldable pub record_words : Record → List ℤ
record_words Empty =
    pos 0 ∷ pos 0 ∷ pos 0 ∷ pos 0 ∷ pos 0 ∷ pos 0 ∷ pos 0 ∷ pos 0 ∷ pos 0 ∷ pos 0 ∷ pos 0 ∷ pos 0 ∷ pos 0 ∷ pos 0 ∷ []
record_words (baseline b) =
    pos 1 ∷ b.from ∷ b.to ∷ b.east ∷ b.north ∷ b.up ∷ b.ee ∷ b.en ∷ b.eu ∷ b.nn ∷ b.nu ∷ b.uu ∷ b.hf ∷ b.ht ∷ []
record_words (height h) =
    pos 2 ∷ h.from ∷ h.to ∷ pos 0 ∷ pos 0 ∷ h.up ∷ pos 0 ∷ pos 0 ∷ pos 0 ∷ pos 0 ∷ pos 0 ∷ h.weight ∷ pos 0 ∷ pos 0 ∷ []
record_words (position p) =
    pos 4 ∷ p.station ∷ pos 0 ∷ p.east ∷ p.north ∷ p.up ∷ p.ee ∷ p.en ∷ p.eu ∷ p.nn ∷ p.nu ∷ p.uu ∷ pos 0 ∷ pos 0 ∷ []

-- the observed values and the weights of the record whose first word is at index at
abbrev pub observed_in : List ℤ → ℕ → List ℤ
observed_in w at = get_or w (at + 3) (pos 0) ∷ get_or w (at + 4) (pos 0) ∷ get_or w (at + 5) (pos 0) ∷ []

abbrev pub weights_in : List ℤ → ℕ → List ℤ
weights_in w at =
    get_or w (at + 6) (pos 0) ∷ get_or w (at + 7) (pos 0) ∷ get_or w (at + 8) (pos 0) ∷ get_or w (at + 9) (pos 0) ∷ get_or w (at + 10) (pos 0) ∷ get_or w (at + 11) (pos 0) ∷ []

-- the record of kind k + 1 whose first word is at index at; words that it does not use are not looked at
unfoldable pub record_of : ℕ → List ℤ → ℕ → Record
record_of zero w at =
    baseline_of (get_or w (at + 1) (pos 0)) (get_or w (at + 2) (pos 0)) (observed_in w at) (weights_in w at) (get_or w (at + 12) (pos 0) ∷ get_or w (at + 13) (pos 0) ∷ [])
record_of (suc zero) w at = height_of (get_or w (at + 1) (pos 0)) (get_or w (at + 2) (pos 0)) (get_or w (at + 5) (pos 0)) (get_or w (at + 11) (pos 0))
record_of (suc (suc zero)) w at = Empty
record_of (suc (suc (suc zero))) w at = position_of (get_or w (at + 1) (pos 0)) (observed_in w at) (weights_in w at)
record_of (suc (suc (suc (suc k)))) w at = Empty

-- the record whose first word is at index at: Empty where the kind is none of 1, 2 and 4
abbrev pub record_in : List ℤ → ℕ → Record
record_in w at = record_of (index_in (get_or w at (pos 0)) 4) w at
