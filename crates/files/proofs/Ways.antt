-- The ways through the search for the entry in force. Assumes nothing.
use Rattle.files.specs.declared.FileRefusal.{FileRefusal}
use Rattle.std.specs.Prelude.{Result, Ok, Err}
use Rattle.std.proofs.Common.{◌≡◌, ℕ, ◌<◌, true, false, ◌&&◌, List, length, ℤ, pos, ap, arith, le-ltb, lt-ltb}
use lib.Signed.{le_z}
use Rattle.files.specs.Files.{reads, latest_entry}
use Rattle.files.specs.Force.{force_in, in_force}
use Rattle.files.specs.declared.FileRefusal.TheVariants.{BadPlace, Unreadable, NoEntry}
use Rattle.files.specs.declared.EntryFound.{EntryFound}
use Rattle.files.specs.declared.EntryFound.TheVariants.{InNight, InDay}

module _ (night day : List ℕ) (p : ℤ) where
  pub in_night : {n : ℕ} → n ≡ latest_entry night p → n < length night → Ok (InNight n) ≡ force_in night day p
  unfolding force_in
  in_night {n} e h = let l : latest_entry night p < length night = omega arith in rw (lt-ltb (latest_entry night p) (length night) l) (ap (λ (k : ℕ). Ok (InNight k)) e)

  pub in_day : {d : ℕ} → latest_entry night p ≡ length night → d ≡ latest_entry day p → d < length day → Ok (InDay d) ≡ force_in night day p
  unfolding force_in
  in_day {d} e f g =
      let m : latest_entry day p < length day = omega arith in
      rw (le-ltb (latest_entry night p) (length night) (omega arith), lt-ltb (latest_entry day p) (length day) m) (ap (λ (k : ℕ). Ok (InDay k)) f)

  pub in_none : latest_entry night p ≡ length night → latest_entry day p ≡ length day → Err NoEntry ≡ force_in night day p
  unfolding force_in
  in_none e f = rw (le-ltb (latest_entry night p) (length night) (omega arith), le-ltb (latest_entry day p) (length day) (omega arith))

  pub place_no_lem : le_z (pos 1) p && le_z p (pos 256) ≡ false → Err BadPlace ≡ in_force night day p
  unfolding in_force
  place_no_lem e = rw e

  pub reads_no : le_z (pos 1) p && le_z p (pos 256) ≡ true → reads night && reads day ≡ false → Err Unreadable ≡ in_force night day p
  unfolding in_force
  reads_no e f = rw (e, f)

  pub both_read : {r : Result EntryFound FileRefusal} → le_z (pos 1) p && le_z p (pos 256) ≡ true → reads night && reads day ≡ true → r ≡ force_in night day p → r ≡ in_force night day p
  unfolding in_force
  both_read e f h = rw (e, f) h
