-- `is_strike`, by the kind that the word is. Assumes nothing.
use Rattle.std.proofs.Common.{◌≡◌, ◌⊎◌, inl, inr, Bool, true, false, ℤ, pos, Result, Ok, Err, sym, refl, subst, ap, ◌∙◌, to_z-of_z, w64}
use Rattle.words.specs.Bools.{true_or_false}
use Rattle.words.specs.Signed.{eq_z}
use Rattle.words.specs.SignedLaws.{eq_z_true}
use Rattle.files.specs.declared.EntryKind.{EntryKind}
use Rattle.files.specs.declared.EntryKind.TheVariants.{Baseline, HeightDifference, Strike}
use Rattle.files.specs.declared.NoKind.{NoKind}
use Rattle.files.specs.Kinds.{kind_of}
use Rattle.book_files.proofs.records.is_strike.Goals as goal

abbrev strikes : Result EntryKind NoKind → Bool
strikes (Ok Baseline) = false
strikes (Ok HeightDifference) = false
strikes (Ok Strike) = true
strikes (Err e) = false

strikes_is : (k : ℤ) → strikes (kind_of k) ≡ eq_z k (pos 3)
strikes_is k = go (true_or_false (eq_z k (pos 1))) (true_or_false (eq_z k (pos 2))) (true_or_false (eq_z k (pos 3)))
  where
    go : (eq_z k (pos 1) ≡ true) ⊎ (eq_z k (pos 1) ≡ false) → (eq_z k (pos 2) ≡ true) ⊎ (eq_z k (pos 2) ≡ false) → (eq_z k (pos 3) ≡ true) ⊎ (eq_z k (pos 3) ≡ false)
        → strikes (kind_of k) ≡ eq_z k (pos 3)
    go (inl a) b c = subst (λ (z : ℤ). strikes (kind_of z) ≡ eq_z z (pos 3)) (sym (eq_z_true k (pos 1) a)) refl
    go (inr a) (inl b) c = subst (λ (z : ℤ). strikes (kind_of z) ≡ eq_z z (pos 3)) (sym (eq_z_true k (pos 2) b)) refl
    go (inr a) (inr b) (inl c) = rw (a, b, c) refl
    go (inr a) (inr b) (inr c) = rw (a, b, c) refl

pub returns-in-Ok-Strike : goal.returns-in-Ok-Strike
returns-in-Ok-Strike c = ap strikes (rw c.in-Ok-Strike.field-0-is at c.in-Ok-Strike.ensures ∙ ap kind_of (to_z-of_z {w = w64} c.ranges.kind)) ∙ strikes_is c.args.kind

pub returns-in-Ok-Baseline : goal.returns-in-Ok-Baseline
returns-in-Ok-Baseline c = ap strikes (rw c.in-Ok-Baseline.field-0-is at c.in-Ok-Baseline.ensures ∙ ap kind_of (to_z-of_z {w = w64} c.ranges.kind)) ∙ strikes_is c.args.kind

pub returns-in-Ok-HeightDifference : goal.returns-in-Ok-HeightDifference
returns-in-Ok-HeightDifference c = ap strikes (rw c.in-Ok-HeightDifference.field-0-is at c.in-Ok-HeightDifference.ensures ∙ ap kind_of (to_z-of_z {w = w64} c.ranges.kind)) ∙ strikes_is c.args.kind

pub returns-in-Err : goal.returns-in-Err
returns-in-Err c = ap strikes (c.in-Err.ensures ∙ ap kind_of (to_z-of_z {w = w64} c.ranges.kind)) ∙ strikes_is c.args.kind
