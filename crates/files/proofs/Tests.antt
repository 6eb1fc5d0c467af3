-- What the tests of an entry's words tell, by the ways through the code. Assumes nothing.
use Rattle.std.proofs.Common.{◌≡◌, ℕ, zero, suc, ◌+◌, ◌/◌, ◌%◌, ◌^◌, ◌<◌, ◌≤◌, Bool, true, false, ◌&&◌, ◌⊎◌, inl, inr, List, length, get_or, take, drop, ℤ, pos, Result, Ok, Err, sym, refl, ap, ◌∙◌, arith, drop-cons, eq-eqb, ne_eqb}
use Rattle.std.specs.List.{list_all}
use Rattle.words.specs.Bools.{true_or_false}
use Rattle.words.specs.Signed.{eq_z}
use Rattle.words.specs.SignedLaws.{eq_z_true}
use Rattle.files.specs.declared.EntryKind.{EntryKind}
use Rattle.files.specs.declared.EntryKind.TheVariants.{Baseline, HeightDifference, Strike}
use Rattle.files.specs.declared.NoKind.{NoKind}
use Rattle.files.specs.Entries.{zeros_from, kind_right}
use Rattle.files.specs.Kinds.{kind_of}
use Rattle.files.specs.Files.{linked_to, reads}
use Rattle.files.proofs.FileLaws.{reads_linked}

-- two tests, each known
pub both : {a b c d : Bool} → a ≡ c → b ≡ d → a && b ≡ c && d
both p q = cc

-- a test that runs only where the one before it passed
pub and_then : {a b c d : Bool} → a ≡ c → a ≡ true → b ≡ d → b ≡ c && d
and_then {d = d} p t q = q ∙ ap (λ (x : Bool). x && d) (sym t ∙ p)

pub and_no : {a c : Bool} (d : Bool) → a ≡ c → a ≡ false → a ≡ c && d
and_no d p t = t ∙ ap (λ (x : Bool). x && d) (sym t ∙ p)

-- two numbers, each known
pub pair : {a b c d : ℤ} → a ≡ c → b ≡ d → eq_z a b ≡ eq_z c d
pair p q = (λ i. eq_z (p i) (q i))

-- two numbers that are not the same
pub ne_eq_z : (a b : ℤ) → (a ≡ b → ⊥) → eq_z a b ≡ false
ne_eq_z a b h = go (true_or_false (eq_z a b))
  where
    go : (eq_z a b ≡ true) ⊎ (eq_z a b ≡ false) → eq_z a b ≡ false
    go (inl t) = absurd (h (eq_z_true a b t))
    go (inr f) = f

-- the zeros that are tested as a part of w
pub zeros_all : (w : List ℤ) (i n : ℕ) → i + n ≤ length w → list_all (λ v. eq_z v (pos 0)) (take n (drop i w)) ≡ zeros_from w i n
unfolding zeros_from
zeros_all w i zero h = refl
zeros_all w i (suc n) h =
    let next : suc i ≡ i + 1 = omega arith in
    ap (λ (v : List ℤ). list_all (λ x. eq_z x (pos 0)) (take (suc n) v)) (drop-cons w i (pos 0) (omega arith))
    ∙ ap (λ (k : ℕ). eq_z (get_or w i (pos 0)) (pos 0) && list_all (λ x. eq_z x (pos 0)) (take n (drop k w))) next
    ∙ ap (λ (b : Bool). eq_z (get_or w i (pos 0)) (pos 0) && b) (zeros_all w (i + 1) n (omega arith))

-- what each kind asks of the words
abbrev pub by_kind : Result EntryKind NoKind → List ℤ → Bool
by_kind (Ok Baseline) w = true
by_kind (Ok HeightDifference) w = zeros_from w 4 2 && zeros_from w 7 5
by_kind (Ok Strike) w = zeros_from w 2 11
by_kind (Err e) w = false

module _ (w : List ℤ) where
  abbrev kind : ℤ
  kind = get_or w 0 (pos 0)

  pub by_kind_is : by_kind (kind_of kind) w ≡ kind_right w
  unfolding kind_right
  by_kind_is = go (true_or_false (eq_z kind (pos 1))) (true_or_false (eq_z kind (pos 2))) (true_or_false (eq_z kind (pos 3)))
    where
      go : (eq_z kind (pos 1) ≡ true) ⊎ (eq_z kind (pos 1) ≡ false) → (eq_z kind (pos 2) ≡ true) ⊎ (eq_z kind (pos 2) ≡ false) → (eq_z kind (pos 3) ≡ true) ⊎ (eq_z kind (pos 3) ≡ false)
          → by_kind (kind_of kind) w ≡ kind_right w
      go (inl a) b c = rw a refl
      go (inr a) (inl b) c = rw (a, b) refl
      go (inr a) (inr b) (inl c) = rw (a, b, c) refl
      go (inr a) (inr b) (inr c) = rw (a, b, c) refl

-- a file's length tells whether it may read
module _ (f : List ℕ) (b : length f < 2 ^ 64) where
  pub reads_odd : (length f % 128 ≡ 0 → ⊥) → false ≡ reads f
  reads_odd h = sym (reads_linked f b ∙ ap (λ (t : Bool). t && linked_to f (length f / 128)) (ne_eqb (length f % 128) 0 h))

  pub reads-even : length f % 128 ≡ 0 → linked_to f (length f / 128) ≡ reads f
  reads-even h = sym (reads_linked f b ∙ ap (λ (t : Bool). t && linked_to f (length f / 128)) (eq-eqb (length f % 128) 0 h))

pub none_left : (f : List ℕ) (n : ℕ) {t : Bool} → linked_to f n ≡ t → n ≡ 0 → true ≡ t
unfolding linked_to
none_left f n h z = rw z at h
