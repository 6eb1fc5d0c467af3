-- The first word alone tells that there is no entry. Assumes nothing.
use Rattle.std.specs.Prelude.{◌≡◌, ◌⊎◌, true, false, ◌&&◌, List, ℕ, get_or, ℤ, pos, int_le, refl}
use Rattle.std.proofs.Common.{sym, inl, inr}
use Rattle.std.specs.Result.{is_err}
use Rattle.words.specs.Bools.{true_or_false, clash, and_no_right}
use Rattle.words.specs.Signed.{eq_z}
use Rattle.words.specs.Words.{word_at}
use Rattle.words.specs.Runs.{words_at}
use Rattle.files.specs.Entries.{kind_right, right_words, right_entry}
use Rattle.files.specs.Kinds.{kind_of}
use Rattle.files.specs.Files.{right_at}

module _ (w : List ℤ) where
  abbrev kind : ℤ
  kind = get_or w 0 (pos 0)

  module _ (out : is_err (kind_of kind) ≡ true) where
    kind_wrong : kind_right w ≡ false
    unfolding kind_right
    kind_wrong = go (true_or_false (eq_z kind (pos 1))) (true_or_false (eq_z kind (pos 2))) (true_or_false (eq_z kind (pos 3)))
      where
        go : (eq_z kind (pos 1) ≡ true) ⊎ (eq_z kind (pos 1) ≡ false) → (eq_z kind (pos 2) ≡ true) ⊎ (eq_z kind (pos 2) ≡ false) → (eq_z kind (pos 3) ≡ true) ⊎ (eq_z kind (pos 3) ≡ false)
            → kind_right w ≡ false
        go (inl a) b c = clash out (rw a refl)
        go (inr a) (inl b) c = clash out (rw (a, b) refl)
        go (inr a) (inr b) (inl c) = clash out (rw (a, b, c) refl)
        go (inr a) (inr b) (inr c) = rw (a, b, c) refl

    entry_wrong : right_entry w ≡ false
    unfolding right_entry right_words
    entry_wrong = rw (kind_wrong, and_no_right (int_le (pos 1) (get_or w 1 (pos 0)) && int_le (get_or w 1 (pos 0)) (pos 256)) false refl)

pub wrong_at : (f : List ℕ) (at : ℕ) → is_err (kind_of (word_at f at)) ≡ true → false ≡ right_at f at
unfolding right_at words_at
wrong_at f at h = sym (entry_wrong (words_at f at 16) h)
