-- Document 01: "The engine's proposal is not fixed: it is a pair the check accepts, or no proposal". Assumes nothing.
use Rattle.acceptance.specs.Judge.{Answer}
use Rattle.std.specs.Prelude.{◌≡◌, ℕ, List, ℤ, Ok}
use Rattle.engine.specs.declared.Proposal.{Proposal}
use Rattle.engine.specs.declared.Proposal.TheVariants.{Made, Nothing}

-- What each case says of the lent x and M, which came as x and m and are left as x' and m'. `checked` is the check's answer to x' and m'.
-- Made: the check accepts what is left; the lent lengths fit, then, by its test 1. Nothing: both are left as they came.
abbrev pub Proposed : Proposal → Answer → List ℤ → List ℤ → List ℤ → List ℤ → Type 0
Proposed Made checked x m x' m' = checked ≡ Ok tt
Proposed Nothing checked x m x' m' = (x' ≡ x) × (m' ≡ m)

-- the f64 work slice holds the inverse and N
abbrev pub work_length : ℕ
work_length = 4608
