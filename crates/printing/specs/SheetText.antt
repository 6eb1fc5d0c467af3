-- The printed sheet, from the sheet's words w: two counts, then the words of the stations, of the records, and of the global test. Assumes nothing.
use Rattle.std.specs.Prelude.{ℕ, zero, suc, ◌+◌, ◌*◌, cond, List, [], ◌∷◌, ◌++◌, eqb, get_or, take, drop, ℤ, pos}
use Rattle.text.specs.Lines.{line_feed}
use Rattle.text.specs.Fields.{space}
use Rattle.integers.specs.Sums.{sum_n}
use Rattle.words.specs.Signed.{eq_z}
use Rattle.network.specs.Records.{observations, record_at}
use Rattle.network.specs.declared.Place.{Place}
use Rattle.network.specs.declared.Record.{Record}
use Rattle.sheet.specs.Sheet.{line_length}
use Rattle.text.specs.Numbers.{decimal}

abbrev word_at : List ℤ → ℕ → ℤ
word_at w i = get_or w i (pos 0)

-- numbers with a blank after each
unfoldable pub spaced : List ℤ → List ℕ
spaced [] = []
spaced (v ∷ vs) = decimal v ++ (space ∷ []) ++ spaced vs

-- n words from o on, with a blank after each
abbrev pub fields : List ℤ → ℕ → ℕ → List ℕ
fields w o n = spaced (take n (drop o w))

-- "verdicts as 0 PASS, 1 FAIL, 2 LOOSE, 3 LOW, 4 HIGH, 5 NONE"; a sheet has no other word there
unfoldable pub high_verdict : ℤ → List ℕ
high_verdict v =
    cond (eq_z v (pos 3)) (76 ∷ 79 ∷ 87 ∷ []) (cond (eq_z v (pos 4)) (72 ∷ 73 ∷ 71 ∷ 72 ∷ []) (78 ∷ 79 ∷ 78 ∷ 69 ∷ []))

unfoldable pub verdict : ℤ → List ℕ
verdict v =
    cond (eq_z v (pos 0)) (80 ∷ 65 ∷ 83 ∷ 83 ∷ [])
    (cond (eq_z v (pos 1)) (70 ∷ 65 ∷ 73 ∷ 76 ∷ []) (cond (eq_z v (pos 2)) (76 ∷ 79 ∷ 79 ∷ 83 ∷ 69 ∷ []) (high_verdict v)))

-- `SHEET `, ` RECORDS `, ` UNKNOWNS` and LF, `GLOBAL `
abbrev SHEET- : List ℕ
SHEET- = 83 ∷ 72 ∷ 69 ∷ 69 ∷ 84 ∷ 32 ∷ []

abbrev -RECORDS- : List ℕ
-RECORDS- = 32 ∷ 82 ∷ 69 ∷ 67 ∷ 79 ∷ 82 ∷ 68 ∷ 83 ∷ 32 ∷ []

abbrev -UNKNOWNS : List ℕ
-UNKNOWNS = 32 ∷ 85 ∷ 78 ∷ 75 ∷ 78 ∷ 79 ∷ 87 ∷ 78 ∷ 83 ∷ 10 ∷ []

abbrev GLOBAL- : List ℕ
GLOBAL- = 71 ∷ 76 ∷ 79 ∷ 66 ∷ 65 ∷ 76 ∷ 32 ∷ []

-- `SHEET 2 RECORDS 1 UNKNOWNS`
unfoldable pub head_text : List ℤ → List ℕ
head_text w = SHEET- ++ decimal (word_at w 0) ++ -RECORDS- ++ decimal (word_at w 1) ++ -UNKNOWNS

-- a station's seven words from o on: number, E, N, U, three variances
unfoldable pub station_text : List ℤ → ℕ → List ℕ
station_text w o = fields w o 6 ++ decimal (word_at w (o + 6)) ++ (line_feed ∷ [])

-- "a baseline's line is place, three residuals, three verdicts"
unfoldable pub baseline_text : List ℤ → ℕ → List ℕ
baseline_text w o =
    fields w o 4 ++ verdict (word_at w (o + 4)) ++ (space ∷ []) ++ verdict (word_at w (o + 5)) ++ (space ∷ []) ++ verdict (word_at w (o + 6)) ++ (line_feed ∷ [])

-- a height difference's three words: place, residual, verdict
unfoldable pub height_text : List ℤ → ℕ → List ℕ
height_text w o = fields w o 2 ++ verdict (word_at w (o + 2)) ++ (line_feed ∷ [])

-- `GLOBAL 500000 1 PASS`: T, D, verdict
unfoldable pub global_text : List ℤ → ℕ → List ℕ
global_text w o = GLOBAL- ++ fields w o 2 ++ verdict (word_at w (o + 2)) ++ (line_feed ∷ [])

-- ════ the whole
-- "Stations, then records, print by rising number": the lines of the first n stations, whose words start at 2
unfoldable pub station_texts : List ℤ → ℕ → List ℕ
station_texts w zero = []
station_texts w (suc n) = station_texts w n ++ station_text w (2 + n * 7)

-- a record's line, its words from o on, follows from how many components the record observes: 3 a baseline's, 1 a height difference's; an empty place has none
unfoldable pub text_for : List ℤ → ℕ → ℕ → List ℕ
text_for w o observed = cond (eqb observed 3) (baseline_text w o) (cond (eqb observed 1) (height_text w o) [])

abbrev pub record_text : List ℤ → ℕ → Record → List ℕ
record_text w o r = text_for w o (observations r)

-- where the words of the record at place k start, those of the first place at o
unfoldable pub record_start : ℕ → List Place → ℕ → ℕ
record_start o places k = o + sum_n k (λ p. line_length (record_at places p))

-- the lines of the first k places
unfoldable pub record_texts : List ℤ → ℕ → List Place → ℕ → List ℕ
record_texts w o places zero = []
record_texts w o places (suc k) = record_texts w o places k ++ record_text w (record_start o places k) (record_at places k)

-- where the words of the global test start, after n stations and all records
abbrev pub global_start : ℕ → List Place → ℕ
global_start n places = record_start (2 + n * 7) places 256

-- the printed sheet of n stations and these records
unfoldable pub sheet_text : List ℤ → ℕ → List Place → List ℕ
sheet_text w n places =
    head_text w ++ station_texts w n ++ record_texts w (2 + n * 7) places 256 ++ global_text w (global_start n places)
