-- Document 01, "Both sides of each line": the lines marked *, as one table; since document 02's request 3 every record is entered.
-- "All start from the network above", that of the night print. Assumes nothing.
use Rattle.std.specs.Prelude.{ℕ, ◌+◌, List, [], ◌∷◌, ◌++◌, ℤ, pos, neg_ℤ}
use Rattle.network.specs.Records.{baseline_of, height_of}
use Rattle.network.specs.declared.Record.{Record}
use Rattle.book.specs.declared.Change.TheVariants.{Enter}
use Rattle.book.specs.declared.Call.{Call}
use Rattle.book.specs.declared.Call.TheVariants.{Edit, Undo}

-- ════ the night print's lines
-- "S 1 K 0 0 100000", "S 2 V 0 0 101000": four words a station: kind (1 known, 3 height), E, N, U
unfoldable pub station_list : List ℤ
station_list = pos 1 ∷ pos 0 ∷ pos 0 ∷ pos 100000 ∷ pos 3 ∷ pos 0 ∷ pos 0 ∷ pos 101000 ∷ []

-- "H place 1 2 difference 100"
abbrev pub level_by : ℤ → Record
level_by difference = height_of (pos 1) (pos 2) difference (pos 100)

abbrev pub level : ℕ → Record
level difference = level_by (pos difference)

-- "B place 1 2 0 0 1000 100 EN 0 100 0 100"
abbrev pub baseline_by : ℤ → Record
baseline_by en = baseline_of (pos 1) (pos 2) (pos 0 ∷ pos 0 ∷ pos 1000 ∷ []) (pos 100 ∷ en ∷ pos 0 ∷ pos 100 ∷ pos 0 ∷ pos 100 ∷ []) (pos 0 ∷ pos 0 ∷ [])

abbrev pub baseline_with : ℕ → Record
baseline_with en = baseline_by (pos en)

-- its two H lines, the second with a difference of the case's own
abbrev pub printed_calls : ℕ → List Call
printed_calls difference = Edit (pos 1) (Enter (level 1000)) ∷ Edit (pos 2) (Enter (level difference)) ∷ []

-- ════ a case: what is called and checked, and what is expected of it
pub record Case : Type 0 where
  -- the calls after the opening, and X and M, one number each, that are checked then
  pub calls : List Call
  pub x : ℤ
  pub m : ℤ
  -- the number that each call is answered, 0 where it is not refused, and the records in force afterwards, from place 1 on
  pub answers : List ℕ
  pub records : List Record
  -- the number that the check is answered, 0 where it accepts, and the unknown that comes with 11, 0 elsewhere
  pub number : ℕ
  pub unknown : ℕ
  -- the one entry of Mr, which test 7 bounds
  pub refined : ℤ
  -- the words on the sheet, none where the check is refused
  pub sheet : List ℤ

-- ════ the words of the sheets, line by line as the night print has them
-- both stations: the height of 2 and its variance
abbrev pub case_station_words : ℕ → ℕ → List ℤ
case_station_words up variance =
    pos 1 ∷ pos 0 ∷ pos 0 ∷ pos 100000 ∷ pos 0 ∷ pos 0 ∷ pos 0
    ∷ pos 2 ∷ pos 0 ∷ pos 0 ∷ pos up ∷ pos 0 ∷ pos 0 ∷ pos variance
    ∷ []

-- a height difference: place, residual, verdict (0 PASS, 1 FAIL)
abbrev pub case_level_words : ℕ → ℤ → ℕ → List ℤ
case_level_words place residual verdict = pos place ∷ residual ∷ pos verdict ∷ []

-- T, D, verdict (0 PASS, 4 HIGH)
abbrev pub case_global_words : ℕ → ℕ → ℕ → List ℤ
case_global_words t d verdict = pos t ∷ pos d ∷ pos verdict ∷ []

-- ════ the table
-- the night print with X, its second difference, the verdict of both residuals and T as the case has them: accepted, and the sheet that is printed
abbrev pub accepted_case : List Call → List ℕ → ℕ → ℕ → ℕ → ℕ → Case
accepted_case calls answers second x verdict t =
    record {
      calls = calls;
      x = pos x;
      m = pos 5368709;
      answers = answers;
      records = level 1000 ∷ level second ∷ [];
      number = 0;
      unknown = 0;
      refined = pos 0;
      sheet = (pos 2 ∷ pos 1 ∷ []) ++ case_station_words (101000 + x) 5368709 ++ case_level_words 1 (neg_ℤ (pos x)) verdict ++ case_level_words 2 (pos x) verdict ++ case_global_words t 1 0;
    }

-- as it stands
abbrev pub as_printed : List Call → List ℕ → Case
as_printed calls answers = accepted_case calls answers 1100 50 0 500000

-- one that is refused leaves the sheet
abbrev pub refused_case : List Call → ℤ → ℤ → List ℕ → List Record → ℕ → ℕ → ℤ → Case
refused_case calls x m answers records number unknown refined =
    record { calls = calls; x = x; m = m; answers = answers; records = records; number = number; unknown = unknown; refined = refined; sheet = [] }

unfoldable pub table : List Case
table =
    -- "As printed, accepted."
    as_printed (printed_calls 1100) (0 ∷ 0 ∷ [])
    -- "X 51: Mr is −1073741800, refused 16."
    ∷ refused_case (printed_calls 1100) (pos 51) (pos 5368709) (0 ∷ 0 ∷ []) (level 1000 ∷ level 1100 ∷ []) 16 0 (neg_ℤ (pos 1073741800))
    -- "M 0: 14."
    ∷ refused_case (printed_calls 1100) (pos 50) (pos 0) (0 ∷ 0 ∷ []) (level 1000 ∷ level 1100 ∷ []) 14 0 (pos 0)
    -- "No records: 11, unknown 1."
    ∷ refused_case [] (pos 50) (pos 5368709) [] [] 11 1 (pos 0)
    -- "Record 2 replaced by 1200", entered over: "X 50 is refused 16, X 100 accepted with T 2000000."
    ∷ refused_case (printed_calls 1100 ++ Edit (pos 2) (Enter (level 1200)) ∷ []) (pos 50) (pos 5368709) (0 ∷ 0 ∷ 0 ∷ []) (level 1000 ∷ level 1200 ∷ []) 16 0 (pos 53687090000)
    ∷ accepted_case (printed_calls 1100 ++ Edit (pos 2) (Enter (level 1200)) ∷ []) (0 ∷ 0 ∷ 0 ∷ []) 1200 100 0 2000000
    -- "Undo then: X 50 accepted again."
    ∷ as_printed (printed_calls 1100 ++ Edit (pos 2) (Enter (level 1200)) ∷ Undo ∷ []) (0 ∷ 0 ∷ 0 ∷ 0 ∷ [])
    -- "Undo on a new book: 8."
    ∷ refused_case (Undo ∷ []) (pos 50) (pos 5368709) (8 ∷ []) [] 11 1 (pos 0)
    -- "Record 2 as 1276, X 138: both PASS."
    ∷ accepted_case (printed_calls 1276) (0 ∷ 0 ∷ []) 1276 138 0 3808800
    -- "As 1278, X 139: both FAIL, T 3864200, global PASS."
    ∷ accepted_case (printed_calls 1278) (0 ∷ 0 ∷ []) 1278 139 1 3864200
    -- "Difference 101000 enters": as a third record, with the solution and the inverse of the three, rounded
    ∷ record {
      calls = printed_calls 1100 ++ Edit (pos 3) (Enter (level 101000)) ∷ [];
      x = pos 33367;
      m = pos 3579139;
      answers = 0 ∷ 0 ∷ 0 ∷ [];
      records = level 1000 ∷ level 1100 ∷ level 101000 ∷ [];
      number = 0;
      unknown = 0;
      refined = neg_ℤ (pos 357913900);
      sheet =
          (pos 3 ∷ pos 1 ∷ []) ++ case_station_words 134367 3579139
          ++ case_level_words 1 (neg_ℤ (pos 33367)) 1 ++ case_level_words 2 (neg_ℤ (pos 33267)) 1 ++ case_level_words 3 (pos 66633) 1
          ++ case_global_words 666000666700 2 4;
    }
    -- "101001 is refused 6", and changes nothing
    ∷ as_printed (printed_calls 1100 ++ Edit (pos 3) (Enter (level 101001)) ∷ []) (0 ∷ 0 ∷ 6 ∷ [])
    -- "Weights 100, 100, 100 with EN 100: 5"
    ∷ as_printed (printed_calls 1100 ++ Edit (pos 3) (Enter (baseline_with 100)) ∷ []) (0 ∷ 0 ∷ 5 ∷ [])
    -- "with EN 99: entered."
    ∷ record {
      calls = printed_calls 1100 ++ Edit (pos 3) (Enter (baseline_with 99)) ∷ [];
      x = pos 33;
      m = pos 3579139;
      answers = 0 ∷ 0 ∷ 0 ∷ [];
      records = level 1000 ∷ level 1100 ∷ baseline_with 99 ∷ [];
      number = 0;
      unknown = 0;
      refined = pos 357913900;
      sheet =
          (pos 3 ∷ pos 1 ∷ []) ++ case_station_words 101033 3579139
          ++ case_level_words 1 (neg_ℤ (pos 33)) 0 ++ case_level_words 2 (pos 67) 0
          ++ (pos 3 ∷ pos 0 ∷ pos 0 ∷ neg_ℤ (pos 33) ∷ pos 0 ∷ pos 0 ∷ pos 0 ∷ [])
          ++ case_global_words 666700 4 0;
    }
    ∷ []
