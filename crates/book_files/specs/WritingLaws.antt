-- Laws of a book written: the entries, their number and length, the loop's step, and that a file can carry them. Assumes nothing.
use Prim.Native.Nat.{ℕ, zero, suc, ◌+◌, ◌-◌, ◌*◌, ◌/◌, ◌<◌, ◌≤◌}
use Rattle.files.specs.Statements.{AllLong}
use Rattle.std.specs.Prelude.{◌≡◌, refl, Bool, cond, List, [], ◌∷◌, ◌++◌, get_or, drop, ℤ, Ok, Err}
use Rattle.std.proofs.Math.Path.{sym}
use Rattle.std.proofs.Common.{ap, ◌∙◌, le-leb, add-one, length-append}
use Rattle.std.proofs.Math.Bool.{true, false}
use native.Mathlib.Omega.{arith}
use Rattle.std.proofs.lemmas.Bool.{lt-leb}
use Rattle.std.proofs.Math.ListN.{length}
use Rattle.words.specs.Runs.{put_words}
use Rattle.words.specs.RunLaws.{length_run}
use Rattle.network.specs.Records.{record_at, is_empty}
use Rattle.network.specs.declared.Place.{Place}
use Rattle.network.specs.declared.Record.{Record}
use Rattle.files.specs.Entries.{entry_words}
use Rattle.files.specs.Files.{file_words, file_of}
use Rattle.files.proofs.FileLaws.{write_append, file_one, put_file}
use Rattle.files.specs.declared.FileRefusal.{FileRefusal}
use Rattle.files.specs.declared.FileRefusal.TheVariants.{NoRoom, NotCarried}
use Rattle.book.specs.declared.Book.{Book}
use Rattle.book_files.specs.Writing.{record_entry, record_entries, entries_below, book_entries, all_carried, write_answer, file_left}

-- ════ lists of entries, each with a property
pub each_append : (P : List ℤ → Type 0) (a b : List (List ℤ)) → ((i : ℕ) → i < length a → P (get_or a i [])) → ((i : ℕ) → i < length b → P (get_or b i []))
    → (i : ℕ) → i < length (a ++ b) → P (get_or (a ++ b) i [])
each_append P [] b f g i h = g i h
each_append P (x ∷ a) b f g zero h = f 0 (omega arith)
each_append P (x ∷ a) b f g (suc i) h = each_append P a b (λ k l. f (suc k) (omega arith)) g i (omega arith)

module _ (P : List ℤ → Type 0) (places : List Place) where
  pub each_below : (n : ℕ) → ((p : ℕ) → p < n → is_empty (record_at places p) ≡ false → P (record_entry p (record_at places p)))
      → (i : ℕ) → i < length (entries_below places n) → P (get_or (entries_below places n) i [])
  unfolding entries_below record_entries
  each_below zero h i l = absurd (omega arith)
  each_below (suc n) h i l =
      each_append P (entries_below places n) (record_entries n (record_at places n)) (each_below n (λ p q. h p (omega arith))) (last (is_empty (record_at places n)) refl) i l
    where
      last : (t : Bool) → is_empty (record_at places n) ≡ t → (i : ℕ) → i < length (record_entries n (record_at places n)) → P (get_or (record_entries n (record_at places n)) i [])
      last true e i l = absurd (let z : i < 0 = rw e at l in omega arith)
      last false e zero l = rw e (h n (omega arith) e)
      last false e (suc i) l = absurd (let z : suc i < 1 = rw e at l in omega arith)

-- ════ their number
pub none_below : (places : List Place) → entries_below places 0 ≡ []
unfolding entries_below
none_below places = refl

more_below : (places : List Place) (n : ℕ) → entries_below places (n + 1) ≡ entries_below places n ++ record_entries n (record_at places n)
unfolding entries_below
more_below places n = ap (entries_below places) (add-one n)

pub length_more : (places : List Place) (n : ℕ) → length (entries_below places (n + 1)) ≡ length (entries_below places n) + length (record_entries n (record_at places n))
length_more places n = ap length (more_below places n) ∙ length-append (entries_below places n) (record_entries n (record_at places n))

pub entries-one : (p : ℕ) (r : Record) → length (record_entries p r) ≤ 1
unfolding record_entries
entries-one p r = go (is_empty r)
  where
    go : (t : Bool) → length (cond {A = List (List ℤ)} t [] (record_entry p r ∷ [])) ≤ 1
    go true = let h : 0 ≤ 1 = omega arith in h
    go false = let h : 1 ≤ 1 = omega arith in h

pub entries_few : (places : List Place) (n : ℕ) → length (entries_below places n) ≤ n
entries_few places zero = let e = ap length (none_below places) in omega arith
entries_few places (suc n) =
    let m : n + 1 ≡ suc n = omega arith in
    let e : length (entries_below places (suc n)) ≡ length (entries_below places (n + 1)) = ap (λ (k : ℕ). length (entries_below places k)) (sym m) in
    omega (arith, e, length_more places n, entries-one n (record_at places n), entries_few places n)

-- those of fewer places are no more
entries_rise : (places : List Place) (n d : ℕ) → length (entries_below places n) ≤ length (entries_below places (n + d))
entries_rise places n zero = let e : n + 0 ≡ n = omega arith in let z = ap (λ (k : ℕ). length (entries_below places k)) e in omega arith
entries_rise places n (suc d) =
    let e : n + suc d ≡ n + d + 1 = omega arith in
    let z = ap (λ (k : ℕ). length (entries_below places k)) e in
    omega (arith, z, length_more places (n + d), entries_rise places n d)

entries_most : (places : List Place) (n m : ℕ) → n ≤ m → length (entries_below places n) ≤ length (entries_below places m)
entries_most places n m h = let e : n + (m - n) ≡ m = omega arith in let z = ap (λ (k : ℕ). length (entries_below places k)) e in omega (arith, z, entries_rise places n (m - n))

-- ════ each has thirteen words
length-entry_of : (p : ℕ) (r : Record) → length (record_entry p r) ≡ 13
unfolding record_entry
length-entry_of p r = refl

pub entries_long : (places : List Place) (n : ℕ) → AllLong (entries_below places n)
entries_long places n = each_below (λ e. length e ≡ 13) places n (λ p h f. length-entry_of p (record_at places p))

-- ════ the entry of one place, written: none, or one
module _ (p : ℕ) (r : Record) where
  pub one_entry : is_empty r ≡ false → length (record_entries p r) ≡ 1
  unfolding record_entries
  one_entry e = rw e

  pub put_none : (s : List ℕ) (at : ℕ) → is_empty r ≡ true → (at ≡ at + 128 * length (record_entries p r)) × (s ≡ put_words s at (file_words at (record_entries p r)))
  unfolding record_entries file_words put_words
  put_none s at e = let z : at ≡ at + 128 * 0 = omega arith in (rw e z, rw e)

  pub put_one : (s : List ℕ) (at : ℕ) {w : List ℤ} → is_empty r ≡ false → w ≡ record_entry p r
      → (at + 128 ≡ at + 128 * length (record_entries p r)) × (put_words s at (entry_words at w) ≡ put_words s at (file_words at (record_entries p r)))
  unfolding record_entries
  put_one s at e q =
      let z : at + 128 ≡ at + 128 * 1 = omega arith in
      (rw e z, rw e (ap (put_words s at) (ap (entry_words at) q ∙ sym (file_one at (record_entry p r)))))

-- ════ written place by place
write_more : (s : List ℕ) (places : List Place) (n : ℕ)
    → put_words (put_words s 0 (file_words 0 (entries_below places n))) (128 * length (entries_below places n)) (file_words (128 * length (entries_below places n)) (record_entries n (record_at places n)))
    ≡ put_words s 0 (file_words 0 (entries_below places (n + 1)))
write_more s places n =
    write_append s (entries_below places n) (record_entries n (record_at places n)) (entries_long places n)
    ∙ ap (λ (es : List (List ℤ)). put_words s 0 (file_words 0 es)) (sym (more_below places n))

-- what is written of the places below p: the next byte, and the bytes
pub record Wrote (s : List ℕ) (places : List Place) (p at : ℕ) (t : List ℕ) : Type 0 where
  pub next : at ≡ 128 * length (entries_below places p)
  pub bytes : t ≡ put_words s 0 (file_words 0 (entries_below places p))
  pub long : length t ≡ length s

pub wrote_none : (s : List ℕ) (places : List Place) → Wrote s places 0 0 s
unfolding entries_below file_words put_words
wrote_none s places = record { next = refl; bytes = refl; long = refl }

module _ (s : List ℕ) (places : List Place) (p at : ℕ) (t : List ℕ) (w : Wrote s places p at t) where
  pub wrote_more : {r : Record} {n : ℕ} {u : List ℕ} → r ≡ record_at places p → n ≡ at + 128 * length (record_entries p r) → u ≡ put_words t at (file_words at (record_entries p r))
      → Wrote s places (p + 1) n u
  wrote_more e f g =
      record {
        next = let z = ap (λ (x : Record). length (record_entries p x)) e in omega (arith, z, f, w.next, length_more places p);
        bytes = g ∙ cc (e, w.next, w.bytes) ∙ write_more s places p;
        long = ap length g ∙ length_run t at _ ∙ w.long;
      }

  -- the entry of the next place has room where all have
  pub room_next : {r : Record} → r ≡ record_at places p → p < 256 → 128 * length (entries_below places 256) ≤ length s → at + 128 * length (record_entries p r) ≤ length t
  room_next e h room =
      let z = ap (λ (x : Record). length (record_entries p x)) e in
      omega (arith, z, w.next, w.long, room, length_more places p, entries_most places (p + 1) 256 (omega arith))

  pub wrote_all : p ≡ 256 → t ≡ put_words s 0 (file_words 0 (entries_below places 256))
  wrote_all e = w.bytes ∙ ap (λ (k : ℕ). put_words s 0 (file_words 0 (entries_below places k))) e

-- ════ the answer
module _ (b : Book) (room : ℕ) {n : ℕ} (count : n ≡ length (book_entries b)) where
  pub written-room : room / 128 < n → Err NoRoom ≡ write_answer b room
  unfolding write_answer
  written-room h = rw (lt-leb (128 * length (book_entries b)) room (omega arith))

  pub written-carried : n ≤ room / 128 → all_carried b ≡ false → Err NotCarried ≡ write_answer b room
  unfolding write_answer
  written-carried h e = rw (le-leb (128 * length (book_entries b)) room (omega arith), e)

  pub written-length : n ≤ room / 128 → all_carried b ≡ true → Ok (128 * n) ≡ write_answer b room
  unfolding write_answer
  written-length h e = rw (le-leb (128 * length (book_entries b)) room (omega arith), e) (ap (λ (k : ℕ). Ok (128 * k)) count)

-- the bytes written, as a file and the rest
pub file_left_lem : (b : Book) (s : List ℕ) {n : ℕ} {t : List ℕ} → n ≡ length (book_entries b) → n ≤ length s / 128 → t ≡ put_words s 0 (file_words 0 (book_entries b))
    → t ≡ file_left (Ok (128 * n)) b s
unfolding file_left
file_left_lem b s {n} count h e =
    e ∙ put_file s (book_entries b) (entries_long b.places 256) (omega arith) ∙ ap (λ (k : ℕ). file_of (book_entries b) ++ drop (128 * k) s) (sym count)

pub file_stays : (b : Book) (s : List ℕ) (r : FileRefusal) → s ≡ file_left (Err r) b s
unfolding file_left
file_stays b s r = refl
