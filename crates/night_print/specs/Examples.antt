-- The definitions at a few texts: what they print where no engine is asked. `10` is an LF, `32` a blank, `85` a `U`. Assumes nothing.
use Rattle.std.specs.Prelude.{◌≡◌, refl, List, [], ◌∷◌, ℕ}
use Rattle.network.specs.Stations.{whole_stations, opens}
use Rattle.text.specs.Numbers.{decimal_in}
use Rattle.text.specs.Before.{before}
use Rattle.text.specs.Fields.{letter_of}
use Rattle.text.specs.Lines.{lines_after}
use Rattle.printing.specs.Messages.{refused_text}
use Rattle.printing.specs.Reports.{none}
use Rattle.network.specs.StationWords.{flat}
use Rattle.input_lines.specs.Runs.{phase_opened, opening_says, phase_after, phase_says}
use Rattle.adjustment.specs.Ends.{phase_ends}
use Rattle.night_print.specs.Print.{run_before, says_before, line_next, line_says, lines_next, lines_say, end_prints, print_of}

-- `REFUSED 1`
REFUSED-1 : List ℕ
REFUSED-1 = 82 ∷ 69 ∷ 70 ∷ 85 ∷ 83 ∷ 69 ∷ 68 ∷ 32 ∷ 49 ∷ 10 ∷ []

-- no lines: the end opens, on no stations
empty_text : print_of [] none ≡ REFUSED-1
unfolding REFUSED-1 print_of lines_after lines_say lines_next end_prints flat opening_says phase_opened phase_ends opens whole_stations refused_text decimal_in
empty_text = refl

-- an empty line is no S line, so it opens; the refusal ends the run, and neither it nor the `U` after it gets a message
blank_line : print_of (10 ∷ 85 ∷ 10 ∷ []) none ≡ REFUSED-1
unfolding REFUSED-1 print_of lines_after lines_say line_says lines_next line_next run_before says_before end_prints flat opening_says phase_opened phase_ends phase_says phase_after opens whole_stations refused_text decimal_in letter_of before
blank_line = refl
