-- What an opening, an edit or an undo that is not refused writes is a book that the next call takes; bytes beyond it stay. Assumes nothing.
use Prim.Native.Nat.{ℕ, zero, suc, ◌≤◌}
use Rattle.std.specs.Prelude.{◌≡◌, refl, Bool, true, false, cond, ◌⊎◌, length, get_or, ℤ}
use Rattle.std.proofs.Math.Path.{sym, ap}
use Rattle.std.proofs.Common.{◌∙◌, inl, inr, arith}
use mathlib.Core.List.{List, []}
use Rattle.integers.specs.Tables.{length-tabulate}
use Rattle.words.specs.Bools.{true_or_false}
use Rattle.network.specs.Stations.{network_of}
use Rattle.network.specs.Stations as stations
use Rattle.network.specs.OpeningLaws.{opened-fits}
use Rattle.network.specs.declared.Network.{Network}
use Rattle.book.specs.declared.Book.{Book}
use Rattle.book.specs.Outcome.{Outcome}
use Rattle.book.specs.declared.Call.{Call}
use Rattle.book.specs.declared.Call.TheVariants.{Edit, Undo}
use Rattle.book.specs.Calls.{unless}
use Rattle.book.specs.CallLaws.{unless-either}
use Rattle.book.specs.Book.{opened_book, opening, book_accepts, book_says, book_next, outcome}
use Rattle.book.specs.Sound.{SoundParts}
use Rattle.book.specs.SoundLaws.{sound-next}
use Rattle.book.specs.Opened.{sound-opened}
use Rattle.layout.specs.Bytes.{book_of, put_book, bytes_fit}
use Rattle.layout.specs.CodecLaws.{read_stations, fits-room, fits-sound, writes_reads, writes_fit, writes_beyond}
use Rattle.layout.specs.Layout.{book_bytes}
use Rattle.lent_edits.specs.LentEdits.{bytes_left, Applies, Opens}

-- ════ bytes s hold the book b, and are those of s₀ beyond it
pub record HoldsBook (s₀ s : List ℕ) (b : Book) : Type 0 where
  pub reads : book_of s ≡ b
  pub fits : bytes_fit s ≡ true
  pub beyond : (j : ℕ) → book_bytes ≤ j → get_or s j 0 ≡ get_or s₀ j 0

-- a sound book, written
pub written-holds : (s : List ℕ) (b : Book) → SoundParts b → length b.network.stations ≡ 32 → book_bytes ≤ length s → HoldsBook s (put_book s b) b
written-holds s b o l room = record { reads = writes_reads s b o l room; fits = writes_fit s b o l room; beyond = writes_beyond s b o l room }

-- ════ an edit keeps the station list
accepts_network : (b : Book) (c : Call) → (book_accepts b c).network ≡ b.network
unfolding book_accepts
accepts_network b (Edit p c) = refl
accepts_network b Undo = refl

pub next-network : (b : Book) (c : Call) → (book_next b c).network ≡ b.network
next-network b c = unless-either (λ (x : Book). x.network ≡ b.network) (book_says b c) b (book_accepts b c) refl (λ e. accepts_network b c)

-- ════ an edit or an undo: the bytes and the book as they were, or the next book written
module _ (s₀ s : List ℕ) (fit : bytes_fit s ≡ true) (kept : (j : ℕ) → book_bytes ≤ j → get_or s j 0 ≡ get_or s₀ j 0) where
  leaves : (n : ℕ) (b : Book) → SoundParts (unless n (book_of s) b) → length (unless n (book_of s) b).network.stations ≡ 32
      → HoldsBook s₀ (unless n s (put_book s (unless n (book_of s) b))) (unless n (book_of s) b)
  unfolding unless
  leaves zero b o l =
      let w = written-holds s b o l (fits-room s fit) in
      record { reads = w.reads; fits = w.fits; beyond = λ j q. w.beyond j q ∙ kept j q }
  leaves (suc n) b o l = record { reads = refl; fits = fit; beyond = kept }

  pub call_leaves : (c : Call) → HoldsBook s₀ (bytes_left s (outcome (book_of s) c)) (book_next (book_of s) c)
  call_leaves c =
      let b = book_of s in
      leaves (book_says b c) (book_accepts b c) (sound-next b (fits-sound s fit) c) (ap (λ (net : Network). length net.stations) (next-network b c) ∙ read_stations s)

pub call_applies : (s : List ℕ) (c : Call) (n : ℕ) (t : List ℕ) → bytes_fit s ≡ true → n ≡ book_says (book_of s) c → t ≡ bytes_left s (outcome (book_of s) c) → Applies s c n t
call_applies s c n t fit e q =
    let h = call_leaves s s fit (λ j l. refl) c in
    record { number = e; bytes = q; fits = ap bytes_fit q ∙ h.fits; reads = ap (λ (x : List ℕ). book_of x) q ∙ h.reads }

-- ════ an opening
module _ (s : List ℕ) (room : book_bytes ≤ length s) where
  pub opened-holds : (list : List ℤ) → stations.opens list ≡ true → HoldsBook s (put_book s (opened_book (network_of list))) (opened_book (network_of list))
  unfolding network_of
  opened-holds list e = written-holds s (opened_book (network_of list)) (sound-opened (network_of list) (opened-fits list e)) (length-tabulate 32 _) room

  -- where the list opens, its book is written; where it does not, the number is 1
  opened : (list : List ℤ) (t : List ℕ) → stations.opens list ≡ true → t ≡ bytes_left s (opening list) → (bytes_fit t ≡ true) × (book_of t ≡ (opening list).book)
  unfolding unless
  opened list t o q =
      let h = opened-holds list o in
      let e : opening list ≡ record { refusal = 0; book = opened_book (network_of list) } = rw o in
      let w : t ≡ put_book s (opened_book (network_of list)) = q ∙ ap (λ (x : Outcome). bytes_left s x) e in
      (ap bytes_fit w ∙ h.fits, ap (λ (x : List ℕ). book_of x) w ∙ h.reads ∙ sym (ap (λ (x : Outcome). x.book) e))

  pub open_opens : (list : List ℤ) (n : ℕ) (t : List ℕ) → n ≡ (opening list).refusal → t ≡ bytes_left s (opening list) → Opens list s n t
  open_opens list n t e q = go (true_or_false (stations.opens list))
    where
      go : (stations.opens list ≡ true) ⊎ (stations.opens list ≡ false) → Opens list s n t
      go (inl o) = let w = opened list t o q in record { number = e; bytes = q; fits = λ z. w.0; reads = λ z. w.1 }
      go (inr o) =
          let one : n ≡ 1 = e ∙ ap (λ (b : Bool). (cond {A = Outcome} b (record { refusal = 0; book = opened_book (network_of list) }) (record { refusal = 1; book = opened_book (network_of []) })).refusal) o in
          record { number = e; bytes = q; fits = λ z. absurd (omega arith); reads = λ z. absurd (omega arith) }
