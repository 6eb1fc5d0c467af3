-- Demand 1 holds of the C calls: each definition that a contract equals gives the slices that came where it refuses. Assumes nothing.
use Rattle.salvage.specs.declared.SalvageCounts.{SalvageCounts}
use Rattle.std.specs.Prelude.{ℕ, zero, suc, ◌+◌, ◌*◌, ◌/◌, ◌%◌, ◌<◌, ◌≤◌, ◌≡◌, refl, Bool, true, false, cond, List, [], ◌∷◌, ◌⊎◌, leb, eqb, length, ℤ, pos, negsuc, nat_abs, Result, Ok, Err}
use Rattle.std.proofs.Common.{sym, ap, ◌∙◌, subst, inl, inr, arith}
use Rattle.words.specs.Bools.{clash, true_or_false}
use Rattle.words.specs.Runs.{words_at, put_words}
use Rattle.network.specs.Stations.{unknown_count}
use Rattle.network.specs.Stations as stations
use Rattle.network.specs.Records.{record_at}
use Rattle.network.specs.Rules.{in_list}
use Rattle.acceptance.specs.Judge.{refusal_number, refusal_unknown, Answer}
use Rattle.acceptance.specs.JudgeLaws.{refusal-least, refusal_most}
use Rattle.book.specs.declared.Book.{Book}
use Rattle.book.specs.Outcome.{Outcome}
use Rattle.book.specs.declared.Call.{Call}
use Rattle.book.specs.Calls.{place_of, unless}
use Rattle.book.specs.CallLaws.{call_small}
use Rattle.book.specs.Book.{opened_book, opening, outcome}
use Rattle.sheet.specs.Sheet.{room}
use Rattle.distances.specs.declared.CheckDistance.{CheckDistance}
use Rattle.distances.specs.declared.Agreement.TheVariants.{Agrees, Disagrees}
use Rattle.distances.specs.Distances.{distance_number, distance_unknown, DistanceAnswer}
use Rattle.distances.specs.DistanceLaws.{distance_least, distance_most}
use Rattle.lent_checks.specs.LentDistances.{agreement_word, agreement_lent}
use Rattle.lent_checks.specs.LentChecks.{answer_word, checked_lent, sheet_fits, on_accepted}
use Rattle.lent_checks.specs.Offers.{Offers, OffersLent, lent_lengths}
use Rattle.network.specs.RecordWords.{record_words}
use Rattle.layout.specs.Bytes.{book_of, bytes_fit}
use Rattle.layout.specs.Layout.{book_bytes}
use Rattle.files.specs.Files.{reads}
use Rattle.files.specs.Force.{file_number, in_force}
use Rattle.files.specs.declared.FileRefusal.{FileRefusal}
use Rattle.files.specs.declared.FileRefusal.TheVariants.{BadPlace, NoRoom, NotCarried}
use Rattle.files.specs.declared.EntryFound.{EntryFound}
use Rattle.files.specs.declared.EntryFound.TheVariants.{InNight, InDay}
use Rattle.book_files.specs.Writing.{book_entries, all_carried, write_answer, file_left}
use Rattle.book_files.specs.Entering.{calls_in, enter_answer}
use Rattle.salvage.specs.Salvage.{salvage_answer, fresh_left, skipped_left, kept_left}
use Rattle.dombrelat.specs.Calls.{Returned, refused_with, answered_with, through, edit_call, open_call}
use Rattle.dombrelat.specs.CheckCalls.{Judged, judged_lent, check_call, sheet_call, distance_call}
use Rattle.dombrelat.specs.Proposal.{Proposes}
use Rattle.dombrelat.specs.Reading.{numbered, gives, list_words, unknowns_call, sheet_bytes_call, stations_call, record_call}
use Rattle.dombrelat.specs.FileCalls.{FileEntered, written_word, write_call, check_file_call, given_found, found_call, entered_into, enter_call}
use Rattle.dombrelat.specs.SalvageCall.{SalvageReturned, salvaged_word, counts_left, salvage_call}
use Rattle.dombrelat.specs.FileCallLaws.{number-least, number_most_lem, run_fits}
use Rattle.dombrelat.specs.Demand3Holds.{opened-fits-next, edited-next}
use Rattle.dombrelat.specs.Demand1.{Asked, to_open, to_edit, to_check, to_check_sheet, to_check_distance, to_propose, to_read_unknowns, to_read_sheet_bytes, to_read_stations, to_read_record, to_write_file, to_check_file, to_find_entry, to_enter_file, to_salvage, Left, given, Returns, refusal_in, unrefused, Demand1}

-- ════ answers taken apart
-- an answer r without a refusal is k
Told : ℤ → ℤ → Type 0
Told k r = refusal_in r ≡ pos 0 → r ≡ k

remainder : (n : ℕ) → refusal_in (pos n) ≡ pos 0 → n % 128 ≡ 0
unfolding refusal_in
remainder n e = ap nat_abs e

-- a refusal; a number of the table, 0 among them; and a number that is given
told-refusal : (k : ℤ) (n : ℕ) → 0 < n → n < 128 → Told k (pos n)
unfolding Told
told-refusal k n h l e = absurd (let z = remainder n e in omega arith)

told-small : (n : ℕ) → n < 128 → Told (pos 0) (pos n)
unfolding Told
told-small n l e = ap pos (let z = remainder n e in omega arith)

told-given : (k : ℤ) → Told k k
unfolding Told
told-given k e = refl

told-either : (k : ℤ) (t : Bool) (p q : ℤ) → Told k p → Told k q → Told k (cond t p q)
told-either k true p q a b = a
told-either k false p q a b = b

told_25 : (k : ℤ) → Told k (pos 25)
told_25 k = told-refusal k 25 (omega arith) (omega arith)

-- an answer that is no refusal gives 0 as its remainder
given-none : (k : ℕ) → refusal_in (numbered k) ≡ pos 0
unfolding refusal_in
given-none k = ap pos (let z : 256 * k % 128 ≡ 0 = omega arith in z)

-- ════ a call that may write on one slice, which came as s: its answer tells a refusal, and then the slice stays
record Right (k : ℤ) (s : List ℕ) (r : Returned) : Type 0 where
  told : Told k r.answer
  stays : (refusal_in r.answer ≡ pos 0 → ⊥) → r.bytes ≡ s

either : (k : ℤ) (s : List ℕ) (t : Bool) (p q : Returned) → Right k s p → Right k s q → Right k s (cond t p q)
either k s true p q a b = a
either k s false p q a b = b

refused_right : (k : ℤ) (s : List ℕ) (n : ℕ) → 0 < n → n < 128 → Right k s (refused_with n s)
refused_right k s n h l = record { told = told-refusal k n h l; stays = λ z. refl }

unfit_right : (k : ℤ) (s : List ℕ) → Right k s (refused_with 25 s)
unfit_right k s = refused_right k s 25 (omega arith) (omega arith)

settled_right : (s : List ℕ) (e : Outcome) → e.refusal < 128 → Right (pos 0) s (answered_with s e)
unfolding unless
settled_right s e l = record { told = told-small e.refusal l; stays = go e.refusal _ }
  where
    go : (n : ℕ) (new : List ℕ) → (refusal_in (pos n) ≡ pos 0 → ⊥) → unless n s new ≡ s
    go zero new h = absurd (h (given-none 0))
    go (suc n) new h = refl

-- ════ openings and edits
-- an opening's number is 0 or 1
pub opening-small : (w : List ℤ) → (opening w).refusal ≤ 9
opening-small w = go (stations.opens w) (opened_book (stations.network_of w)) (opened_book (stations.network_of []))
  where
    go : (t : Bool) (a b : Book) → (cond {A = Outcome} t (record { refusal = 0; book = a }) (record { refusal = 1; book = b })).refusal ≤ 9
    go true a b = let h : 0 ≤ 9 = omega arith in h
    go false a b = let h : 1 ≤ 9 = omega arith in h

opens_right : (list s : List ℕ) → Right (pos 0) s (open_call list s)
unfolding open_call
opens_right list s =
    let e = opening (words_at list 0 (length list / 8)) in
    either (pos 0) s (leb book_bytes (length s)) (cond (eqb (length list % 32) 0) (answered_with s e) (refused_with 1 s)) (refused_with 25 s)
    (either (pos 0) s (eqb (length list % 32) 0) (answered_with s e) (refused_with 1 s) (settled_right s e (let h = opening-small (words_at list 0 (length list / 8)) in omega arith)) (refused_right (pos 0) s 1 (omega arith) (omega arith)))
    (unfit_right (pos 0) s)

edit_right : (s : List ℕ) (c : Call) → Right (pos 0) s (edit_call s c)
unfolding through
edit_right s c =
    let b = book_of s in
    either (pos 0) s (bytes_fit s) (answered_with s (outcome b c)) (refused_with 25 s)
    (settled_right s (outcome b c) (let h = call_small b.network (record_at b.places) b.journal.count c in omega arith))
    (unfit_right (pos 0) s)

-- ════ checks
answer-told : (a : Answer) → Told (pos 0) (answer_word a)
unfolding Told answer_word
answer-told (Ok u) e = refl
answer-told (Err r) e = absurd (let z : (refusal_number r + 256 * refusal_unknown r) % 128 ≡ 0 = remainder _ e in omega (arith, refusal-least r, refusal_most r))

check_told : (s x m : List ℕ) → Told (pos 0) (check_call s x m)
unfolding check_call
check_told s x m = told-either (pos 0) (bytes_fit s) (answer_word (checked_lent (book_of s) x m true)) (pos 25) (answer-told _) (told_25 (pos 0))

judged_right : (a : Answer) (new old : List ℕ) → Right (pos 0) old (record { answer = answer_word a; bytes = on_accepted a new old })
unfolding on_accepted answer_word
judged_right a new old = record { told = answer-told a; stays = go a }
  where
    go : (a : Answer) → (refusal_in (answer_word a) ≡ pos 0 → ⊥) → on_accepted a new old ≡ old
    go (Ok u) h = absurd (h (given-none 0))
    go (Err r) h = refl

sheet_right : (s x m sheet : List ℕ) → Right (pos 0) sheet (record { answer = (sheet_call s x m sheet).answer; bytes = (sheet_call s x m sheet).sheet })
unfolding sheet_call
sheet_right s x m sheet = go (bytes_fit s) (judged_lent (checked_lent (book_of s) x m (sheet_fits (book_of s) sheet)) (book_of s) x m sheet) (judged_right _ _ sheet)
  where
    go : (t : Bool) (j : Judged) → Right (pos 0) sheet (record { answer = j.answer; bytes = j.sheet })
        → Right (pos 0) sheet (record { answer = (cond t j (record { answer = pos 25; sheet = sheet })).answer; bytes = (cond t j (record { answer = pos 25; sheet = sheet })).sheet })
    go true j o = o
    go false j o = unfit_right (pos 0) sheet

-- ════ a check distance: 3, 17 and the numbers of the check's own are refusals; −2 is no refusal, but is not 0 either
word-told : (a : DistanceAnswer) → Told (pos 0) (agreement_word a)
unfolding Told agreement_word refusal_in
word-told (Ok Agrees) e = refl
word-told (Ok Disagrees) e = e
word-told (Err r) e = absurd (let z : (distance_number r + 256 * distance_unknown r) % 128 ≡ 0 = remainder _ e in omega (arith, distance_least r, distance_most r))

distance_told : (s x m : List ℕ) (d : CheckDistance) → Told (pos 0) (distance_call s x m d)
unfolding distance_call
distance_told s x m d = told-either (pos 0) (bytes_fit s) (agreement_word (agreement_lent (book_of s) x m d)) (pos 25) (word-told _) (told_25 (pos 0))

-- ════ a proposal
record Offered (r : ℤ) (x m x' m' : List ℕ) : Type 0 where
  told : Told (pos 0) r
  stays : (refusal_in r ≡ pos 0 → ⊥) → (x' ≡ x) × (m' ≡ m)

abbrev lengths_right : List ℕ → List ℕ → List ℕ → Bool
lengths_right s x m = lent_lengths (unknown_count (book_of s).network.stations) x m

-- an answer that leaves both as they came
kept : (r n : ℤ) (x m x' m' : List ℕ) → Told (pos 0) n → (r ≡ n) × (x' ≡ x) × (m' ≡ m) → Offered r x m x' m'
kept r n x m x' m' t p = record { told = subst (Told (pos 0)) (sym p.0) t; stays = λ h. (p.1, p.2) }

none_told : Told (pos 0) (negsuc 0)
unfolding Told refusal_in
none_told e = e

offered : (s : List ℕ) (r : ℤ) (x m x' m' : List ℕ) → Proposes s r x m x' m' → Offered r x m x' m'
offered s r x m x' m' p = go (true_or_false (bytes_fit s))
  where
    pair : Offers (book_of s) r x m x' m' → Offered r x m x' m'
    pair (inl o) = record { told = subst (Told (pos 0)) (sym o.0) (told-given (pos 0)); stays = λ h. absurd (h (ap refusal_in o.0 ∙ given-none 0)) }
    pair (inr o) = kept r (negsuc 0) x m x' m' none_told o

    lent : OffersLent (book_of s) r x m x' m' → (lengths_right s x m ≡ true) ⊎ (lengths_right s x m ≡ false) → Offered r x m x' m'
    lent o (inl e) = pair (o.fit e)
    lent o (inr e) = kept r (pos 10) x m x' m' (told-refusal (pos 0) 10 (omega arith) (omega arith)) (o.unfit e)

    go : (bytes_fit s ≡ true) ⊎ (bytes_fit s ≡ false) → Offered r x m x' m'
    go (inl e) = lent (p.fit e) (true_or_false _)
    go (inr e) = kept r (pos 25) x m x' m' (told_25 (pos 0)) (p.unfit e)

-- some answer is always allowed: 25, 10, or no proposal
proposes_something : (s x m : List ℕ) → (r : ℤ) × Proposes s r x m x m
proposes_something s x m = go (true_or_false (bytes_fit s)) (true_or_false (lengths_right s x m))
  where
    go : (bytes_fit s ≡ true) ⊎ (bytes_fit s ≡ false) → (lengths_right s x m ≡ true) ⊎ (lengths_right s x m ≡ false) → (r : ℤ) × Proposes s r x m x m
    go (inr e) l = (pos 25, record { unfit = λ f. (refl, refl, refl); fit = λ f. clash f e })
    go (inl e) (inr l) = (pos 10, record { unfit = λ f. clash e f; fit = λ f. record { unfit = λ g. (refl, refl, refl); fit = λ g. clash g l } })
    go (inl e) (inl l) = (negsuc 0, record { unfit = λ f. clash e f; fit = λ f. record { unfit = λ g. clash l g; fit = λ g. inr (refl, refl, refl) } })

-- ════ reading
unknowns_told : (s : List ℕ) → Told (numbered (unknown_count (book_of s).network.stations)) (unknowns_call s)
unfolding unknowns_call
unknowns_told s =
    let k = numbered (unknown_count (book_of s).network.stations) in
    told-either k (bytes_fit s) k (pos 25) (told-given k) (told_25 k)

sheet_bytes_told : (s : List ℕ) → Told (numbered (8 * room (book_of s).network (book_of s).places)) (sheet_bytes_call s)
unfolding sheet_bytes_call
sheet_bytes_told s =
    let k = numbered (8 * room (book_of s).network (book_of s).places) in
    told-either k (bytes_fit s) k (pos 25) (told-given k) (told_25 k)

gives_right : (k : ℕ) (w : List ℤ) (out : List ℕ) → Right (numbered k) out (gives k w out)
unfolding gives
gives_right k w out =
    either (numbered k) out (leb (8 * length w) (length out)) (record { answer = numbered k; bytes = put_words out 0 w }) (refused_with 10 out)
    (record { told = told-given (numbered k); stays = λ h. absurd (h (given-none k)) }) (refused_right (numbered k) out 10 (omega arith) (omega arith))

stations_right : (s list : List ℕ) → Right (numbered (book_of s).network.count) list (stations_call s list)
unfolding stations_call
stations_right s list =
    let k = (book_of s).network.count in
    either (numbered k) list (bytes_fit s) (gives k (list_words (book_of s).network) list) (refused_with 25 list) (gives_right k _ list) (unfit_right (numbered k) list)

record_right : (s : List ℕ) (place : ℤ) (out : List ℕ) → Right (pos 0) out (record_call s place out)
unfolding record_call
record_right s place out =
    let g = gives 0 (record_words (record_at (book_of s).places (place_of place))) out in
    either (pos 0) out (bytes_fit s) (cond (in_list 256 place) g (refused_with 2 out)) (refused_with 25 out)
    (either (pos 0) out (in_list 256 place) g (refused_with 2 out) (gives_right 0 _ out) (refused_right (pos 0) out 2 (omega arith) (omega arith))) (unfit_right (pos 0) out)

-- ════ files
number_right : (k : ℤ) (s : List ℕ) (r : FileRefusal) → Right k s (refused_with (file_number r) s)
number_right k s r = refused_right k s (file_number r) (number-least r) (let h = number_most_lem r in omega arith)

length_none : (k : ℕ) → refusal_in (pos (128 * k)) ≡ pos 0
unfolding refusal_in
length_none k = ap pos (let z : 128 * k % 128 ≡ 0 = omega arith in z)

write_right : (s file : List ℕ) → Right (pos (128 * length (book_entries (book_of s)))) file (write_call s file)
unfolding write_call write_answer file_left
write_right s file =
    go (bytes_fit s) (leb (128 * length (book_entries (book_of s))) (length file)) (all_carried (book_of s))
  where
    go : (t u v : Bool)
        → Right (pos (128 * length (book_entries (book_of s)))) file
        (let w = cond u (cond v (Ok (128 * length (book_entries (book_of s)))) (Err NotCarried)) (Err NoRoom) in
        cond t (record { answer = written_word w; bytes = file_left w (book_of s) file }) (refused_with 25 file))
    go true true true = record { told = told-given _; stays = λ h. absurd (h (length_none (length (book_entries (book_of s))))) }
    go true true false = number_right _ file NotCarried
    go true false v = number_right _ file NoRoom
    go false u v = unfit_right _ file

check_file_told : (file : List ℕ) → Told (pos 0) (check_file_call file)
unfolding check_file_call
check_file_told file = told-either (pos 0) (reads file) (pos 0) (pos 18) (told-given (pos 0)) (told-refusal (pos 0) 18 (omega arith) (omega arith))

found_right : (night day : List ℕ) (p : ℤ) (out : List ℕ) → Right (pos 0) out (found_call night day p out)
unfolding found_call
found_right night day p out =
    let g = given_found (in_force night day p) out in
    either (pos 0) out (in_list 256 p) (cond (leb 16 (length out)) g (refused_with 10 out)) (refused_with 2 out)
    (either (pos 0) out (leb 16 (length out)) g (refused_with 10 out) (shown (in_force night day p)) (number_right (pos 0) out NoRoom)) (number_right (pos 0) out BadPlace)
  where
    shown : (f : Result EntryFound FileRefusal) → Right (pos 0) out (given_found f out)
    shown (Ok (InNight at)) = record { told = told-given (pos 0); stays = λ h. absurd (h (given-none 0)) }
    shown (Ok (InDay at)) = record { told = told-given (pos 0); stays = λ h. absurd (h (given-none 0)) }
    shown (Err r) = number_right (pos 0) out r

-- a file entered: one refused leaves the book and the answers as they came, and else the book's bytes fit
record EntersRight (s before : List ℕ) (e : FileEntered) : Type 0 where
  told : Told (pos 0) e.answer
  stays : (refusal_in e.answer ≡ pos 0 → ⊥) → (e.book ≡ s) × (e.answers ≡ before)
  fits : e.answer ≡ pos 0 → bytes_fit e.book ≡ true

enter_right : (s file before : List ℕ) → EntersRight s before (enter_call s file before)
unfolding enter_call
enter_right s file before = go (bytes_fit s) refl (enter_answer file (length before))
  where
    small : (n : ℕ) → 0 < n → n < 128 → EntersRight s before (record { answer = pos n; book = s; answers = before })
    small n h l = record { told = told-refusal (pos 0) n h l; stays = λ z. (refl, refl); fits = λ e. absurd (let z : n ≡ 0 = ap nat_abs e in omega arith) }

    go : (t : Bool) → bytes_fit s ≡ t → (e : Result (Unit {0}) FileRefusal) → EntersRight s before (cond t (entered_into e s file before) (record { answer = pos 25; book = s; answers = before }))
    go true f (Ok u) = record { told = told-given (pos 0); stays = λ h. absurd (h (given-none 0)); fits = λ e. run_fits s f (calls_in file) }
    go true f (Err r) = small (file_number r) (number-least r) (let h = number_most_lem r in omega arith)
    go false f e = small 25 (omega arith) (omega arith)

-- a file salvaged: one refused leaves all four slices as they came
record SalvagesRight (fresh skipped kept counts : List ℕ) (r : SalvageReturned) : Type 0 where
  told : Told (pos 0) r.answer
  stays : (refusal_in r.answer ≡ pos 0 → ⊥) → (r.fresh ≡ fresh) × (r.skipped ≡ skipped) × (r.kept ≡ kept) × (r.counts ≡ counts)

salvage_right : (f fresh skipped kept counts : List ℕ) → SalvagesRight fresh skipped kept counts (salvage_call f fresh skipped kept counts)
unfolding salvage_call fresh_left skipped_left kept_left
salvage_right f fresh skipped kept counts = go (cond (leb 16 (length counts)) (salvage_answer f (length fresh) (length skipped) (length kept)) (Err NoRoom))
  where
    go : (s : Result SalvageCounts FileRefusal)
        → SalvagesRight fresh skipped kept counts
        (record { answer = salvaged_word s; fresh = fresh_left s f fresh; skipped = skipped_left s f skipped; kept = kept_left s f kept; counts = counts_left s counts })
    go (Ok n) = record { told = told-given (pos 0); stays = λ h. absurd (h (given-none 0)) }
    go (Err r) = record { told = told-refusal (pos 0) (file_number r) (number-least r) (let h = number_most_lem r in omega arith); stays = λ h. (refl, refl, refl, refl) }

-- ════ all calls
told_as : (k r n : ℤ) → r ≡ n → Told k n → Told k r
told_as k r n e t = subst (Told k) (sym e) t

told_all : (asked : Asked) (r : ℤ) (left : Left) → Returns asked r left → Told (unrefused asked) r
unfolding Returns unrefused
told_all (to_open list book) r left (e, q) = told_as (pos 0) r _ e (opens_right list book).told
told_all (to_edit book c) r left (e, q) = told_as (pos 0) r _ e (edit_right book c).told
told_all (to_check book x m) r left (e, q) = told_as (pos 0) r _ e (check_told book x m)
told_all (to_check_sheet book x m sheet) r left (e, q) = told_as (pos 0) r _ e (sheet_right book x m sheet).told
told_all (to_check_distance book x m d) r left (e, q) = told_as (pos 0) r _ e (distance_told book x m d)
told_all (to_propose book x m) r left (x', m', p, q) = (offered book r x m x' m' p).told
told_all (to_read_unknowns book) r left (e, q) = told_as _ r _ e (unknowns_told book)
told_all (to_read_sheet_bytes book) r left (e, q) = told_as _ r _ e (sheet_bytes_told book)
told_all (to_read_stations book list) r left (e, q) = told_as _ r _ e (stations_right book list).told
told_all (to_read_record book place out) r left (e, q) = told_as (pos 0) r _ e (record_right book place out).told
told_all (to_write_file book file) r left (e, q) = told_as _ r _ e (write_right book file).told
told_all (to_check_file file) r left (e, q) = told_as (pos 0) r _ e (check_file_told file)
told_all (to_find_entry night day place found) r left (e, q) = told_as (pos 0) r _ e (found_right night day place found).told
told_all (to_enter_file book file answers) r left (e, q) = told_as (pos 0) r _ e (enter_right book file answers).told
told_all (to_salvage f fresh skipped kept counts) r left (e, q) = told_as (pos 0) r _ e (salvage_right f fresh skipped kept counts).told

-- the refusal of an answer given in two ways
refused_as : (r n : ℤ) → r ≡ n → (refusal_in r ≡ pos 0 → ⊥) → refusal_in n ≡ pos 0 → ⊥
refused_as r n e h z = h (ap refusal_in e ∙ z)

refused_all : (asked : Asked) (r : ℤ) (left : Left) → Returns asked r left → (refusal_in r ≡ pos 0 → ⊥) → left ≡ given asked
unfolding Returns given
refused_all (to_open list book) r left (e, q) h = q ∙ ap (λ (s : List ℕ). record { books = s ∷ []; others = [] }) ((opens_right list book).stays (refused_as r _ e h))
refused_all (to_edit book c) r left (e, q) h = q ∙ ap (λ (s : List ℕ). record { books = s ∷ []; others = [] }) ((edit_right book c).stays (refused_as r _ e h))
refused_all (to_check book x m) r left (e, q) h = q
refused_all (to_check_sheet book x m sheet) r left (e, q) h = q ∙ ap (λ (s : List ℕ). record { books = []; others = s ∷ [] }) ((sheet_right book x m sheet).stays (refused_as r _ e h))
refused_all (to_check_distance book x m d) r left (e, q) h = q
refused_all (to_propose book x m) r left (x', m', p, q) h =
    let s = (offered book r x m x' m' p).stays h in
    q ∙ (λ i. record { books = []; others = s.0 i ∷ s.1 i ∷ [] })
refused_all (to_read_unknowns book) r left (e, q) h = q
refused_all (to_read_sheet_bytes book) r left (e, q) h = q
refused_all (to_read_stations book list) r left (e, q) h = q ∙ ap (λ (s : List ℕ). record { books = []; others = s ∷ [] }) ((stations_right book list).stays (refused_as r _ e h))
refused_all (to_read_record book place out) r left (e, q) h = q ∙ ap (λ (s : List ℕ). record { books = []; others = s ∷ [] }) ((record_right book place out).stays (refused_as r _ e h))
refused_all (to_write_file book file) r left (e, q) h = q ∙ ap (λ (s : List ℕ). record { books = []; others = s ∷ [] }) ((write_right book file).stays (refused_as r _ e h))
refused_all (to_check_file file) r left (e, q) h = q
refused_all (to_find_entry night day place found) r left (e, q) h = q ∙ ap (λ (s : List ℕ). record { books = []; others = s ∷ [] }) ((found_right night day place found).stays (refused_as r _ e h))
refused_all (to_enter_file book file answers) r left (e, q) h =
    let s = (enter_right book file answers).stays (refused_as r _ e h) in
    q ∙ (λ i. record { books = s.0 i ∷ []; others = s.1 i ∷ [] })
refused_all (to_salvage f fresh skipped kept counts) r left (e, q) h =
    let s = (salvage_right f fresh skipped kept counts).stays (refused_as r _ e h) in
    q ∙ (λ i. record { books = []; others = s.0 i ∷ s.1 i ∷ s.2 i ∷ s.3 i ∷ [] })

answers : (asked : Asked) → (r : ℤ) × (left : Left) × Returns asked r left
unfolding Returns
answers (to_open list book) = (_, _, (refl, refl))
answers (to_edit book c) = (_, _, (refl, refl))
answers (to_check book x m) = (_, _, (refl, refl))
answers (to_check_sheet book x m sheet) = (_, _, (refl, refl))
answers (to_check_distance book x m d) = (_, _, (refl, refl))
answers (to_propose book x m) = let p = proposes_something book x m in (p.0, _, (x, m, p.1, refl))
answers (to_read_unknowns book) = (_, _, (refl, refl))
answers (to_read_sheet_bytes book) = (_, _, (refl, refl))
answers (to_read_stations book list) = (_, _, (refl, refl))
answers (to_read_record book place out) = (_, _, (refl, refl))
answers (to_write_file book file) = (_, _, (refl, refl))
answers (to_check_file file) = (_, _, (refl, refl))
answers (to_find_entry night day place found) = (_, _, (refl, refl))
answers (to_enter_file book file said) = (_, _, (refl, refl))
answers (to_salvage f fresh skipped kept counts) = (_, _, (refl, refl))

only : (x y : List ℕ) (l : List (List ℕ)) → l ≡ x ∷ [] → l ≡ y ∷ [] → x ≡ y
only x y l p q = cc

none : (s : List ℕ) (l : List (List ℕ)) {X : Type 0} → l ≡ [] → l ≡ s ∷ [] → X
none s l p q = absurd (let z : ◌≡◌ {A = ℕ} 0 1 = ap length (sym p ∙ q) in omega arith)

accepted : (asked : Asked) (left : Left) (book : List ℕ) → Returns asked (pos 0) left → left.books ≡ book ∷ [] → bytes_fit book ≡ true
unfolding Returns
accepted (to_open list s) left book (e, q) h =
    subst (λ (k : List ℕ). bytes_fit k ≡ true) (only (open_call list s).bytes book left.books (ap (λ (y : Left). y.books) q) h) (opened-fits-next list s (sym e))
accepted (to_edit s c) left book (e, q) h =
    subst (λ (k : List ℕ). bytes_fit k ≡ true) (only (edit_call s c).bytes book left.books (ap (λ (y : Left). y.books) q) h) (edited-next s c (sym e)).fits
accepted (to_check s x m) left book (e, q) h = none book left.books (ap (λ (y : Left). y.books) q) h
accepted (to_check_sheet s x m sheet) left book (e, q) h = none book left.books (ap (λ (y : Left). y.books) q) h
accepted (to_check_distance s x m d) left book (e, q) h = none book left.books (ap (λ (y : Left). y.books) q) h
accepted (to_propose s x m) left book (x', m', p, q) h = none book left.books (ap (λ (y : Left). y.books) q) h
accepted (to_read_unknowns s) left book (e, q) h = none book left.books (ap (λ (y : Left). y.books) q) h
accepted (to_read_sheet_bytes s) left book (e, q) h = none book left.books (ap (λ (y : Left). y.books) q) h
accepted (to_read_stations s list) left book (e, q) h = none book left.books (ap (λ (y : Left). y.books) q) h
accepted (to_read_record s place out) left book (e, q) h = none book left.books (ap (λ (y : Left). y.books) q) h
accepted (to_write_file s file) left book (e, q) h = none book left.books (ap (λ (y : Left). y.books) q) h
accepted (to_check_file file) left book (e, q) h = none book left.books (ap (λ (y : Left). y.books) q) h
accepted (to_find_entry night day place found) left book (e, q) h = none book left.books (ap (λ (y : Left). y.books) q) h
accepted (to_enter_file s file answers) left book (e, q) h =
    subst (λ (k : List ℕ). bytes_fit k ≡ true) (only (enter_call s file answers).book book left.books (ap (λ (y : Left). y.books) q) h) ((enter_right s file answers).fits (sym e))
accepted (to_salvage f fresh skipped kept counts) left book (e, q) h = none book left.books (ap (λ (y : Left). y.books) q) h

pub demand_1 : Demand1
unfolding Told
demand_1 asked = record { answers = answers asked; told = told_all asked; refused = refused_all asked; accepted = accepted asked }
