-- The printed message lines, each with its LF: `LINE k REFUSED no`, `LINE k UNREADABLE`, `REFUSED no`, `REFUSED 11 unknown`, `NO PROPOSAL`.
-- Assumes nothing.
use Rattle.std.specs.Prelude.{ℕ, List, [], ◌∷◌, ◌++◌}
use Rattle.text.specs.Lines.{line_feed}
use Rattle.text.specs.Numbers.{most_digits, decimal_in}

-- `LINE `, ` REFUSED `, ` UNREADABLE`, `REFUSED `, `REFUSED 11 `, `NO PROPOSAL`
abbrev LINE- : List ℕ
LINE- = 76 ∷ 73 ∷ 78 ∷ 69 ∷ 32 ∷ []

abbrev -REFUSED- : List ℕ
-REFUSED- = 32 ∷ 82 ∷ 69 ∷ 70 ∷ 85 ∷ 83 ∷ 69 ∷ 68 ∷ 32 ∷ []

abbrev -UNREADABLE : List ℕ
-UNREADABLE = 32 ∷ 85 ∷ 78 ∷ 82 ∷ 69 ∷ 65 ∷ 68 ∷ 65 ∷ 66 ∷ 76 ∷ 69 ∷ 10 ∷ []

abbrev REFUSED- : List ℕ
REFUSED- = 82 ∷ 69 ∷ 70 ∷ 85 ∷ 83 ∷ 69 ∷ 68 ∷ 32 ∷ []

abbrev REFUSED-11- : List ℕ
REFUSED-11- = 82 ∷ 69 ∷ 70 ∷ 85 ∷ 83 ∷ 69 ∷ 68 ∷ 32 ∷ 49 ∷ 49 ∷ 32 ∷ []

-- "A refused edit prints `LINE k REFUSED no`, k from 1"
unfoldable pub refused_line : ℕ → ℕ → List ℕ
refused_line k number = LINE- ++ decimal_in most_digits k ++ -REFUSED- ++ decimal_in most_digits number ++ (line_feed ∷ [])

-- "any other line `LINE k UNREADABLE`"
unfoldable pub unreadable_line : ℕ → List ℕ
unreadable_line k = LINE- ++ decimal_in most_digits k ++ -UNREADABLE

-- "A refused opening or check prints `REFUSED no`"
unfoldable pub refused_text : ℕ → List ℕ
refused_text number = REFUSED- ++ decimal_in most_digits number ++ (line_feed ∷ [])

-- "for 11 also the unknown"
unfoldable pub refused_unknown_text : ℕ → List ℕ
refused_unknown_text unknown = REFUSED-11- ++ decimal_in most_digits unknown ++ (line_feed ∷ [])

-- "with no proposal, `NO PROPOSAL`"
abbrev pub no_proposal_text : List ℕ
no_proposal_text = 78 ∷ 79 ∷ 32 ∷ 80 ∷ 82 ∷ 79 ∷ 80 ∷ 79 ∷ 83 ∷ 65 ∷ 76 ∷ 10 ∷ []
