-- The walk back through the journal looks at no more of a place than whether it is empty. Assumes nothing.
use Rattle.std.specs.Prelude.{Bool, true, false, not, ◌&&◌, List, [], ◌∷◌, ltb, get_or, set}
use Rattle.integers.specs.Tables.{tabulate}
use Rattle.network.specs.Records.{record_at, is_empty}
use Rattle.network.specs.Rules.{record_fits}
use Rattle.network.specs.declared.Network.{Network}
use Rattle.network.specs.declared.Place.{Place}
use Rattle.book.specs.declared.Reversal.{Reversal}

-- which of the 256 places are empty
abbrev pub empties : List Place → List Bool
empties places = tabulate 256 (λ p. is_empty (record_at places p))

-- `undoable`, told only which places are empty
unfoldable pub undoable_by : Network → List Bool → List Reversal → Bool
undoable_by net empty [] = true
undoable_by net empty (u ∷ h) =
    ltb u.place 256
    && record_fits net u.prior
    && not (get_or empty u.place false && is_empty u.prior)
    && undoable_by net (set empty u.place (is_empty u.prior)) h
