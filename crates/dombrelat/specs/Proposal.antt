-- What the C call for a proposal promises. "The engine's proposal is not fixed: it is a pair the check accepts, or no proposal". Assumes nothing.
use Rattle.std.specs.Prelude.{ℕ, ◌≡◌, true, false, List, ℤ, pos}
use Rattle.lent_checks.specs.Offers.{OffersLent}
use Rattle.layout.specs.Bytes.{book_of, bytes_fit}

-- the answer r, and the lent bytes of x and M, which came as x and m and are left as x' and m'
pub record Proposes (s : List ℕ) (r : ℤ) (x m x' m' : List ℕ) : Type 0 where
  -- 25 before all others; then 10 where the lengths fail test 1; otherwise 0 and a pair that the check accepts, or −1. But for 0 both are as they came
  pub unfit : bytes_fit s ≡ false → (r ≡ pos 25) × (x' ≡ x) × (m' ≡ m)
  pub fit : bytes_fit s ≡ true → OffersLent (book_of s) r x m x' m'
