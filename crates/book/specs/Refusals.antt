-- The numbers of document 01's table that stand for the refusals of the calls that open and edit. Assumes nothing.
use Rattle.std.specs.Prelude.{ℕ, ◌≡◌, ◌≤◌, Result, Ok, Err}
use Rattle.std.proofs.Common.{arith}
use Rattle.network.specs.declared.RecordRefusal.TheVariants.{Ends, Range, Matrix, Misclosure}
use Rattle.network.specs.Refusals.{record_refusal_no}
use Rattle.book.specs.declared.Refusal.{Refusal}
use Rattle.book.specs.declared.Refusal.TheVariants.{BadList, BadPlace, BadRecord, EmptyPlace, EmptyHistory}

abbrev pub refusal_no : Refusal → ℕ
refusal_no BadList = 1
refusal_no BadPlace = 2
refusal_no (BadRecord r) = record_refusal_no r
refusal_no EmptyPlace = 7
refusal_no EmptyHistory = 8

-- "where none does, the call is not refused": 0 is no refusal
abbrev pub answer_no : Result (Unit {0}) Refusal → ℕ
answer_no (Ok a) = 0
answer_no (Err r) = refusal_no r

-- a refusal is no 0
pub refused-number : (r : Refusal) → refusal_no r ≡ 0 → ⊥
refused-number BadList e = cc
refused-number BadPlace e = cc
refused-number (BadRecord Ends) e = cc
refused-number (BadRecord Range) e = cc
refused-number (BadRecord Matrix) e = cc
refused-number (BadRecord Misclosure) e = cc
refused-number EmptyPlace e = cc
refused-number EmptyHistory e = cc

-- and no more than 8: 9 never comes
pub refusal-most : (r : Refusal) → refusal_no r ≤ 8
refusal-most BadList = omega arith
refusal-most BadPlace = omega arith
refusal-most (BadRecord Ends) = omega arith
refusal-most (BadRecord Range) = omega arith
refusal-most (BadRecord Matrix) = omega arith
refusal-most (BadRecord Misclosure) = omega arith
refusal-most EmptyPlace = omega arith
refusal-most EmptyHistory = omega arith

pub answer-most : (a : Result (Unit {0}) Refusal) → answer_no a ≤ 8
answer-most (Ok a) = omega arith
answer-most (Err r) = refusal-most r
