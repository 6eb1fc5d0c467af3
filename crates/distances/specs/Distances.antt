-- Check distances: document 02, request 1. "The crews tape slope distances between marks after setting out, and want them held against the sheet. A check distance has from, to, the
-- distance s, instrument and target heights, and a tolerance t, all in units." A check distance is no record: nothing here is in N, T or the degrees of freedom. Assumes nothing.
use Rattle.std.specs.Prelude.{ℕ, ◌+◌, ◌*◌, Bool, true, cond, ◌&&◌, List, ℤ, pos, negsuc, ◌+ℤ◌, ◌-ℤ◌, ◌*ℤ◌, Result, Ok, Err}
use Rattle.std.specs.Int.Signed.{le_z, lt_z}
use Rattle.words.specs.Signed.{index_in}
use Rattle.network.specs.Units.{most_stations}
use Rattle.network.specs.Rules.{ends_fit, height_above_mark_fits}
use Rattle.network.specs.declared.Network.{Network}
use Rattle.network.specs.declared.Station.{Station}
use Rattle.acceptance.specs.Judge.{Answer, refusal_number, refusal_unknown}
use Rattle.book.specs.declared.Book.{Book}
use Rattle.residuals.specs.Residuals.{adjusted}
use Rattle.checks.specs.Checks.{checked}
use Rattle.distances.specs.declared.CheckDistance.{CheckDistance}
use Rattle.distances.specs.declared.DistanceRefusal.{DistanceRefusal}
use Rattle.distances.specs.declared.DistanceRefusal.TheVariants.{Ends, Range, Pair}
use Rattle.distances.specs.declared.Agreement.{Agreement}
use Rattle.distances.specs.declared.Agreement.TheVariants.{Agrees, Disagrees}

-- ════ 17: "a value out of range"
-- "Heights are 0 to 300,000" (`height_above_mark_fits`, in crate network), "s is 1 to 1,800,000,000, t is 0 to 100,000 and below s."
unfoldable pub distance_in_range : CheckDistance → Bool
distance_in_range d =
    height_above_mark_fits d.instrument && height_above_mark_fits d.target
    && (le_z (pos 1) d.distance && le_z d.distance (pos 1800000000))
    && (le_z (pos 0) d.tolerance && le_z d.tolerance (pos 100000)) && lt_z d.tolerance d.distance

-- ════ agreement. `from` and `to` give the coordinates of the two marks, by component: 0 E, 1 N, 2 U
abbrev pub square : ℤ → ℤ
square v = v *ℤ v

-- "With D² the sum of squared coordinate differences, the U difference taken plus target height minus instrument height": differences are to minus from
unfoldable pub squared_distance : CheckDistance → (from to : ℕ → ℤ) → ℤ
squared_distance d from to =
    square (to 0 -ℤ from 0) +ℤ square (to 1 -ℤ from 1) +ℤ square (to 2 -ℤ from 2 +ℤ d.target -ℤ d.instrument)

-- "it agrees exactly when (s − t)² ≤ D² ≤ (s + t)²"
unfoldable pub within_tolerance : (s t squared : ℤ) → Bool
within_tolerance s t squared = le_z (square (s -ℤ t)) squared && le_z squared (square (s +ℤ t))

abbrev pub agrees : CheckDistance → (from to : ℕ → ℤ) → Bool
agrees d from to = within_tolerance d.distance d.tolerance (squared_distance d from to)

-- the sheet's coordinates of the station with the number k, at the corrections x; specs/SheetWords.antt shows that these are the words of the sheet
unfoldable pub mark : List Station → List ℤ → ℤ → ℕ → ℤ
mark stations x k c = adjusted stations x (index_in k most_stations * 3 + c)

abbrev pub agrees_at : List Station → List ℤ → CheckDistance → Bool
agrees_at stations x d = agrees d (mark stations x d.from) (mark stations x d.to)

-- ════ the answer: whether the distance agrees, or why it is refused
abbrev pub DistanceAnswer : Type 0
DistanceAnswer = Result Agreement DistanceRefusal

-- "It is asked with a pair x, M that the check accepts": given the check's answer, and whether it agrees
unfoldable pub on_pair : Answer → Bool → DistanceAnswer
on_pair (Ok u) agreed = Ok (cond agreed Agrees Disagrees)
on_pair (Err refusal) agreed = Err (Pair refusal)

-- "Refusals: 17 for a value out of range, after 3 and before the check's own"; 3 is "from or to not in the list, or equal"
unfoldable pub unless_refused : Network → CheckDistance → DistanceAnswer → DistanceAnswer
unless_refused net d next = cond (ends_fit net.count d.from d.to) (cond (distance_in_range d) next (Err Range)) (Err Ends)

unfoldable pub agreement : Book → List ℤ → List ℤ → CheckDistance → DistanceAnswer
agreement b x m d = unless_refused b.network d (on_pair (checked b x m true) (agrees_at b.network.stations x d))

-- ════ its number: document 02's of a refusal, 0 where the distance agrees, −2 where it does not
abbrev pub distance_number : DistanceRefusal → ℕ
distance_number Ends = 3
distance_number Range = 17
distance_number (Pair refusal) = refusal_number refusal

abbrev pub agreement_number : DistanceAnswer → ℤ
agreement_number (Ok Agrees) = pos 0
agreement_number (Ok Disagrees) = negsuc 1
agreement_number (Err refusal) = pos (distance_number refusal)

-- "for 11 also the first unknown without a chain", by its number from 1; 0 in every other answer
abbrev pub distance_unknown : DistanceRefusal → ℕ
distance_unknown Ends = 0
distance_unknown Range = 0
distance_unknown (Pair refusal) = refusal_unknown refusal

abbrev pub agreement_unknown : DistanceAnswer → ℕ
agreement_unknown (Ok a) = 0
agreement_unknown (Err refusal) = distance_unknown refusal
