-- Each case worked out on the ledger's records, by computation. Assumes nothing.
use Rattle.std.specs.Prelude.{ℕ, ◌≡◌, refl, Bool, true, List, [], ◌∷◌, map, leb, replicate, ℤ, pos}
use Rattle.integers.specs.Tables.{tabulate}
use Rattle.integers.specs.Sums.{sum, sum_n}
use Rattle.words.specs.Signed.{index_in}
use Rattle.lists.specs.All.{all_below}
use Rattle.weights.specs.Rules.{weights_in_range, minors_positive, adjugate_fits, matrix_fits, adjugate}
use Rattle.network.specs.Stations.{blank_station, network_of, station_in, kind_at, opens, whole_stations, kinds_fit, coordinates_fit, unknowns_fit, unknown, unknown_in, number, coordinate, coordinate_in}
use Rattle.network.specs.Records.{acts, from_of, to_of, joins, weights, reduced_up, reduced, misclosures, misclosure_in, misclosure_at, is_empty, observations, is_position, acts_of}
use Rattle.network.specs.Rules.{ends_fit, record_ends_fit, in_range, record_matrix_fits, up_in_range, baseline_in_range, height_in_range, misclosure_fits, record_no_over, record_no}
use Rattle.network.specs.declared.Kind.TheVariants.{Known, Height}
use Rattle.network.specs.declared.Network.{Network}
use Rattle.network.specs.declared.Place.{Place}
use Rattle.normals.specs.Formulas.{entry_n, entry_u, share_n, share_u, A, is_unknown}
use Rattle.chains.specs.Chains.{all_tied, is_tied, tied_set, edge, first_untied}
use Rattle.chains.specs.Search.{search, pass, join}
use Rattle.chains.specs.Bits.{put_in, set_bit, digit, worked_out}
use Rattle.chains.specs.Scans.{first_failing}
use Rattle.acceptance.specs.Tests.{lengths_fit, corrections_small, inverse_small, defect_small, residual_small, refinement_small}
use Rattle.acceptance.specs.Judge.{answer_number, answer_unknown, judge, judge_numbers, Answer}
use Rattle.acceptance.specs.Exactly.{answer}
use Rattle.book.specs.Calls.{places_of, first, place_no, empty_no, undo_no, puts, unless}
use Rattle.book.specs.Numbers.{change_no_of}
use Rattle.book.specs.Run.{final, answers}
use Rattle.book.specs.Rows.{row_next, row_says}
use Rattle.book.specs.Ledger.{standing, accepted}
use Rattle.residuals.specs.Residuals.{correction, adjusted, covariance, residual, unknown_at_end, in_adjustment, weighted_squares, share_t, T, share_d, is_record, record_count, D, weights_variance, observation_variance, difference_variance, residual_variance}
use Rattle.residuals.specs.Verdicts.{verdict_word, local_verdict, global_verdict, chi_square}
use Rattle.sheet.specs.Sheet.{station_line_words, verdict_at, line_words, record_line_words, station_lines_words, record_lines_words, global_words, sheet_words, line_length, room}
use Rattle.checks.specs.Checks.{on_acceptance}
use Rattle.cases.specs.Table.{Case, station_list, table}
use Rattle.cases.specs.Cases.{filled_places, rows_of, x_of, m_of, refined_at, enough}
use Rattle.cases.specs.Brief.{brief_no, brief_after, brief_answers}

-- ════ a case worked out on the ledger's records
pub record WorkedCase : Type 0 where
  pub answered : List ℤ
  pub refined : ℤ
  pub number : ℕ
  pub unknown : ℕ
  pub fits : Bool
  pub sheet : List ℤ

abbrev pub case_places : Network → Case → List Place
case_places net c = places_of (standing (brief_after net (rows_of c)).edits)

-- by the check's answer a
abbrev pub worked_by : Network → List Place → Case → Answer → WorkedCase
worked_by net places c a =
    record {
      answered = brief_answers net (rows_of c);
      refined = refined_at net places (x_of c) (m_of c) 0;
      number = answer_number a;
      unknown = answer_unknown a;
      fits = leb (room net places) enough;
      sheet = on_acceptance a (sheet_words net places (x_of c) (m_of c)) [];
    }

unfoldable pub worked_on : Network → List Place → Case → WorkedCase
worked_on net places c = worked_by net places c (answer net places (x_of c) (m_of c) true)

unfoldable pub expected : Case → WorkedCase
expected c = record { answered = map pos c.answers; refined = c.refined; number = c.number; unknown = c.unknown; fits = true; sheet = c.sheet }

-- ════ every case of the table at once, by computation
unfoldable pub network : Network
network =
    record {
      count = 2;
      stations = record { kind = Known; east = pos 0; north = pos 0; up = pos 100000 }
          ∷ record { kind = Height; east = pos 0; north = pos 0; up = pos 101000 }
          ∷ replicate 30 blank_station;
    }

pub network-is : network_of station_list ≡ network
unfolding network network_of station_list station_in kind_at index_in tabulate
network-is = refl

pub list_opens : opens station_list ≡ true
unfolding opens station_list whole_stations kinds_fit coordinates_fit unknowns_fit all_below coordinate coordinate_in number sum_n unknown unknown_in network_of station_in kind_at index_in tabulate
list_opens = refl

pub all_places : map (case_places network) table ≡ map (λ c. filled_places c.records) table
unfolding filled_places network table final row_next brief_no change_no_of puts first place_no empty_no undo_no record_no record_no_over record_ends_fit in_range record_matrix_fits ends_fit up_in_range baseline_in_range weights_in_range height_in_range minors_positive adjugate_fits matrix_fits misclosure_fits misclosures misclosure_in reduced_up reduced acts acts_of misclosure_at from_of to_of joins index_in tabulate coordinate coordinate_in all_below standing accepted unless is_empty observations
all_places = refl

pub all_worked : map (λ c. worked_on network (filled_places c.records) c) table ≡ map expected table
unfolding worked_on filled_places expected network table final answers row_next row_says brief_no change_no_of puts first place_no empty_no undo_no record_no record_no_over record_ends_fit in_range record_matrix_fits ends_fit up_in_range baseline_in_range weights_in_range height_in_range minors_positive adjugate_fits matrix_fits misclosure_fits misclosures misclosure_in reduced_up reduced acts acts_of misclosure_at from_of to_of index_in tabulate coordinate coordinate_in all_below standing accepted unless is_empty answer sum sum_n entry_n share_n entry_u share_u A is_unknown unknown unknown_in number joins weights judge judge_numbers lengths_fit corrections_small inverse_small defect_small residual_small refinement_small all_tied is_tied tied_set is_position edge first_untied first_failing search pass join put_in set_bit digit worked_out on_acceptance room line_length station_line_words verdict_at line_words record_line_words station_lines_words record_lines_words global_words sheet_words verdict_word local_verdict global_verdict chi_square correction adjusted covariance residual unknown_at_end in_adjustment weighted_squares share_t T observations share_d is_record record_count D weights_variance observation_variance difference_variance residual_variance adjugate
all_worked = refl
