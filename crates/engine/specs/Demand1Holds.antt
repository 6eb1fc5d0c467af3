-- Demand 1 holds of the calls in the language: each definition that a contract equals gives what came where it refuses. Assumes nothing.
use Rattle.std.specs.Prelude.{◌≡◌, ℕ, zero, suc, Bool, true, false, cond, List, [], ◌∷◌, length, ℤ, pos, ◌≢◌, unsigned_abs, refl, Ok, Err}
use Rattle.std.proofs.Common.{sym, ap, ◌∙◌, subst, arith}
use Rattle.network.specs.Stations.{network_of, opens}
use Rattle.network.specs.OpeningLaws.{opened-fits}
use Rattle.acceptance.specs.Judge.{answer_number, Answer}
use Rattle.book.specs.declared.Book.{Book}
use Rattle.book.specs.Outcome.{Outcome}
use Rattle.book.specs.Calls.{unless}
use Rattle.book.specs.Book.{opened_book, opening, outcome, book_says, book_accepts, sound}
use Rattle.book.specs.Sound.{Sized, sound-parts, parts-sound}
use Rattle.book.specs.SoundLaws.{sound-next}
use Rattle.book.specs.Opened.{sound-opened}
use Rattle.checks.specs.Checks.{checked, has_room, on_acceptance, sheet_after}
use Rattle.engine.specs.Proposals.{Proposed}
use Rattle.engine.specs.declared.Proposal.{Proposal}
use Rattle.engine.specs.declared.Proposal.TheVariants.{Made, Nothing}
use Rattle.engine.specs.Demand1.{Asked, to_open, to_edit, to_check, to_check_sheet, to_check_distance, to_propose, Left, given, proposal_number, Returns, Demand1}

-- ════ a refused call leaves what it was given
unless-refused : {A : Type 0} (n : ℕ) (a b : A) → (n ≢ 0) → unless n a b ≡ a
unfolding unless
unless-refused zero a b h = absurd (h refl)
unless-refused (suc n) a b h = refl

sheet_refused : (b : Book) (x m sheet : List ℤ) → (answer_number (checked b x m (has_room b sheet)) ≢ 0) → sheet_after b x m sheet ≡ sheet
unfolding sheet_after on_acceptance
sheet_refused b x m sheet h = go (checked b x m (has_room b sheet)) refl
  where
    go : (a : Answer) → checked b x m (has_room b sheet) ≡ a → sheet_after b x m sheet ≡ sheet
    go (Ok u) e = absurd (h (ap answer_number e))
    go (Err r) e = rw e

not_number : (r : ℤ) (n : ℕ) → r ≡ pos n → (r ≢ pos 0) → n ≢ 0
not_number r n e h z = h (e ∙ ap pos z)

proposal_refused : (p : Proposal) (a : Answer) (x m x' m' : List ℤ) → Proposed p a x m x' m' → (proposal_number p ≢ pos 0) → (x' ≡ x) × (m' ≡ m)
unfolding proposal_number
proposal_refused Made a x m x' m' q h = absurd (h refl)
proposal_refused Nothing a x m x' m' q h = q

refused : (asked : Asked) (r : ℤ) (left : Left) → Returns asked r left → (r ≢ pos 0) → left ≡ given asked
unfolding Returns given
refused (to_open list) r left (e, q) h =
    q ∙ ap (λ (bs : List Book). record { books = bs; slices = [] }) (unless-refused (opening list).refusal [] ((opening list).book ∷ []) (not_number r (opening list).refusal e h))
refused (to_edit b c) r left (e, q) h =
    q ∙ ap (λ (k : Book). record { books = k ∷ []; slices = [] }) (unless-refused (book_says b c) b (book_accepts b c) (not_number r (book_says b c) e h))
refused (to_check b x m) r left (e, q) h = q
refused (to_check_sheet b x m sheet) r left (e, q) h =
    q ∙ ap (λ (w : List ℤ). record { books = []; slices = w ∷ [] }) (sheet_refused b x m sheet (not_number r (answer_number (checked b x m (has_room b sheet))) e h))
refused (to_check_distance b x m d) r left (e, q) h = q
refused (to_propose b x m) r left (p, x', m', o, e, q) h =
    let s = proposal_refused p (checked b x' m' true) x m x' m' o (λ z. h (e ∙ z)) in
    q ∙ (λ i. record { books = []; slices = s.0 i ∷ s.1 i ∷ [] })

-- ════ every call answers
answers : (asked : Asked) → (r : ℤ) × (left : Left) × Returns asked r left
unfolding Returns proposal_number
answers (to_open list) = (_, _, (refl, refl))
answers (to_edit b c) = (_, _, (refl, refl))
answers (to_check b x m) = (_, _, (refl, refl))
answers (to_check_sheet b x m sheet) = (_, _, (refl, refl))
answers (to_check_distance b x m d) = (_, _, (refl, refl))
answers (to_propose b x m) = (_, _, (Nothing, x, m, (refl, refl), refl, refl))

-- ════ an accepted opening or edit gives a sound book
opened : (t : Bool) (b none k : Book) → (cond {A = Outcome} t (record { refusal = 0; book = b }) (record { refusal = 1; book = none })).refusal ≡ 0
    → (cond {A = Outcome} t (record { refusal = 0; book = b }) (record { refusal = 1; book = none })).book ≡ k → (t ≡ true) × (b ≡ k)
opened true b none k z e = (refl, e)
opened false b none k z e = absurd (let w : ◌≡◌ {A = ℕ} 1 0 = z in omega arith)

opened-sound : (list : List ℤ) (b : Book) → (opening list).refusal ≡ 0 → (opening list).book ≡ b → sound b ≡ true
opened-sound list b z e =
    let o = opened (opens list) (opened_book (network_of list)) (opened_book (network_of [])) b z e in
    subst (λ (k : Book). sound k ≡ true) o.1 (parts-sound (opened_book (network_of list)) (sound-opened (network_of list) (opened-fits list o.0)))

only : (x y : Book) (l : List Book) → l ≡ x ∷ [] → l ≡ y ∷ [] → x ≡ y
only x y l p q = cc

none : (b : Book) (l : List Book) {X : Type 0} → l ≡ [] → l ≡ b ∷ [] → X
none b l p q = absurd (let z : ◌≡◌ {A = ℕ} 0 1 = ap length (sym p ∙ q) in omega arith)

accepted : (asked : Asked) → ((b : Book) → (given asked).books ≡ b ∷ [] → (sound b ≡ true) × Sized b)
    → (left : Left) (b : Book) → Returns asked (pos 0) left → left.books ≡ b ∷ [] → sound b ≡ true
unfolding Returns given unless
accepted (to_open list) g left b (e, q) h =
    let z : (opening list).refusal ≡ 0 = sym (ap unsigned_abs e) in
    let made : left.books ≡ (opening list).book ∷ [] = ap (λ (k : Left). k.books) q ∙ ap (λ (n : ℕ). unless n [] ((opening list).book ∷ [])) z in
    opened-sound list b z (only (opening list).book b left.books made h)
accepted (to_edit b c) g left k (e, q) h =
    let s = g b refl in
    subst (λ (y : Book). sound y ≡ true) (only (outcome b c).book k left.books (ap (λ (y : Left). y.books) q) h)
    (parts-sound (outcome b c).book (sound-next b (sound-parts b s.1 s.0) c))
accepted (to_check b x m) g left k (e, q) h = none k left.books (ap (λ (y : Left). y.books) q) h
accepted (to_check_sheet b x m sheet) g left k (e, q) h = none k left.books (ap (λ (y : Left). y.books) q) h
accepted (to_check_distance b x m d) g left k (e, q) h = none k left.books (ap (λ (y : Left). y.books) q) h
accepted (to_propose b x m) g left k (p, x', m', o, e, q) h = none k left.books (ap (λ (y : Left). y.books) q) h

pub demand_1 : Demand1
demand_1 asked g = record { answers = answers asked; refused = refused asked; accepted = accepted asked g }
