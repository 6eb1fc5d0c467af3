-- What a proposal to lent bytes promises. "The engine's proposal is not fixed: it is a pair the check accepts, or no proposal". Assumes nothing.
use Rattle.std.specs.Prelude.{ℕ, ◌≡◌, ◌⊎◌, Bool, true, false, ◌&&◌, List, ℤ, pos, negsuc, Result, Ok, Err}
use Rattle.network.specs.Stations.{unknown_count}
use Rattle.acceptance.specs.Tests.{lengths_fit}
use Rattle.acceptance.specs.Judge.{refusal_number}
use Rattle.acceptance.specs.declared.Refusal.{Refusal}
use Rattle.book.specs.declared.Book.{Book}
use Rattle.engine.specs.declared.Proposal.{Proposal}
use Rattle.engine.specs.declared.Proposal.TheVariants.{Made, Nothing}
use Rattle.lent_checks.specs.LentChecks.{all_words, is_whole, checked_lent}

-- the answer r, and the lent bytes of x and M, which came as x and m and are left as x' and m': 0 and a pair that the check accepts, or −1 and both as they came
abbrev pub Offers : Book → ℤ → List ℕ → List ℕ → List ℕ → List ℕ → Type 0
Offers b r x m x' m' = ((r ≡ pos 0) × (checked_lent b x' m' true ≡ Ok tt)) ⊎ ((r ≡ negsuc 0) × (x' ≡ x) × (m' ≡ m))

-- test 1 of lent x and M where no sheet is lent: whole words, k and k·k of them
abbrev pub lent_lengths : ℕ → List ℕ → List ℕ → Bool
lent_lengths k x m = lengths_fit k (all_words x) (all_words m) (is_whole x && is_whole m)

-- the same, for any lengths: 10 exactly where they fail test 1, and then both are as they came
pub record OffersLent (b : Book) (r : ℤ) (x m x' m' : List ℕ) : Type 0 where
  pub unfit : lent_lengths (unknown_count b.network.stations) x m ≡ false → (r ≡ pos 10) × (x' ≡ x) × (m' ≡ m)
  pub fit : lent_lengths (unknown_count b.network.stations) x m ≡ true → Offers b r x m x' m'

-- what a proposal answers: whether a pair was made, or why the lengths are refused; and its number
abbrev pub ProposalAnswer : Type 0
ProposalAnswer = Result Proposal Refusal

abbrev pub proposal_word : ProposalAnswer → ℤ
proposal_word (Ok Made) = pos 0
proposal_word (Ok Nothing) = negsuc 0
proposal_word (Err refusal) = pos (refusal_number refusal)
