-- The numbers of document 01's table that stand for the refusals of a record. Assumes nothing.
use Rattle.std.specs.Prelude.{ℕ, ◌≡◌, refl, ◌==◌, Result, Ok, Err, is_ok}
use Rattle.network.specs.declared.RecordRefusal.{RecordRefusal}
use Rattle.network.specs.declared.RecordRefusal.TheVariants.{Ends, Range, Matrix, Misclosure}

abbrev pub record_refusal_no : RecordRefusal → ℕ
record_refusal_no Ends = 3
record_refusal_no Range = 4
record_refusal_no Matrix = 5
record_refusal_no Misclosure = 6

-- "where none does, the call is not refused": 0 is no refusal
abbrev pub record_answer_no : Result (Unit {0}) RecordRefusal → ℕ
record_answer_no (Ok a) = 0
record_answer_no (Err r) = record_refusal_no r

-- a record is not refused exactly where its number is 0
pub ok_zero : (a : Result (Unit {0}) RecordRefusal) → is_ok a ≡ (record_answer_no a == 0)
ok_zero (Ok a) = refl
ok_zero (Err Ends) = refl
ok_zero (Err Range) = refl
ok_zero (Err Matrix) = refl
ok_zero (Err Misclosure) = refl
