-- A proposal on bytes that hold a book. Assumes nothing.
use Prim.Native.Nat.{ℕ}
use mathlib.Core.Path.{◌≡◌, sym, subst}
use mathlib.Core.Bool.{true}
use mathlib.Core.List.{List}
use lib.IntN.{ℤ}
use Rattle.words.specs.Bools.{clash}
use Rattle.lent_checks.specs.Offers.{OffersLent}
use Rattle.layout.specs.Bytes.{book_of, bytes_fit}
use Rattle.dombrelat.specs.Proposal.{Proposes}

pub proposed : (s : List ℕ) (r r' : ℤ) (x m x' m' : List ℕ) → bytes_fit s ≡ true → r' ≡ r → OffersLent (book_of s) r x m x' m' → Proposes s r' x m x' m'
proposed s r r' x m x' m' e q o = record { unfit = λ f. clash e f; fit = λ f. subst (λ (z : ℤ). OffersLent (book_of s) z x m x' m') (sym q) o }
