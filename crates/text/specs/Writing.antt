-- What writing text into a buffer leaves: the text from a position on, everything else as it was. Assumes nothing.
use Rattle.std.specs.Prelude.{◌≡◌, refl, ℕ, suc, ◌+◌, List, [], ◌∷◌, ◌++◌, length, set}
use Rattle.std.proofs.Common.{sym, ◌∙◌, arith, add-zero, length-append}
use Rattle.std.proofs.lemmas.List.Edits.{sets}
use Rattle.text.specs.Numbers.{most_digits}

-- room for a number without a sign, and with one
abbrev pub natural_room : ℕ
natural_room = most_digits

abbrev pub number_room : ℕ
number_room = most_digits + 1

-- `text` was written over `before` from `at` on, which left `after`; `next` is the position past it
pub record Written (before : List ℕ) (at : ℕ) (text : List ℕ) (next : ℕ) (after : List ℕ) : Type 0 where
  pub leaves : after ≡ sets before at text
  pub past : next ≡ at + length text

-- a text by another name
pub written_as : {l : List ℕ} {at : ℕ} {t u : List ℕ} {r : ℕ} {m : List ℕ} → t ≡ u → Written l at t r m → Written l at u r m
written_as e w = rw e at w

-- ════ writing one text after another is writing both
sets_append : (l : List ℕ) (at : ℕ) (xs ys : List ℕ) → sets (sets l at xs) (at + length xs) ys ≡ sets l at (xs ++ ys)
sets_append l at [] ys = rw add-zero
sets_append l at (x ∷ xs) ys =
    let e : at + suc (length xs) ≡ suc at + length xs = omega arith in
    rw e (sets_append (set l at x) (suc at) xs ys)

pub nothing : (l : List ℕ) (at : ℕ) → Written l at [] at l
nothing l at = record { leaves = refl; past = sym (add-zero at) }

infixl 5 ◌then◌
pub ◌then◌ :
    {l : List ℕ} {at : ℕ} {xs : List ℕ} {p : ℕ} {m ys : List ℕ} {next : ℕ} {after : List ℕ} →
    Written l at xs p m →
    Written m p ys next after →
    Written l at (xs ++ ys) next after
◌then◌ {l} {at} {xs} {p} {m} {ys} a b =
    record {
      leaves = b.leaves ∙ rw (a.leaves, a.past) (sets_append l at xs ys);
      past = b.past ∙ rw (a.past, length-append xs ys) (omega arith);
    }
