-- A run row by row: the state and the answers after one row more, and what a filled list of answers holds. Assumes nothing.
use Rattle.std.specs.Prelude.{ℕ, ◌+◌, ◌*◌, ◌<◌, ◌≤◌, ◌≡◌, List, Option, None, ℤ, pos, length, take, drop, get_or}
use Rattle.std.proofs.Common.{sym, ap, ◌∙◌, add-one, arith, length-take, length-drop, ext_get_or, get_or-take, get_or-drop, take_all}
use Rattle.integers.specs.Tables.{length-tabulate, get_d_tabulate}
use Rattle.lists.specs.Filling.{Mapped}
use Rattle.book.specs.declared.Call.{Call}
use Rattle.book.specs.Run.{final, answers, final-suc, answer_at}
use Rattle.book.specs.Rows.{row_length, row_in, rows_in}

-- ════ the rows
pub length-rows : (w : List ℤ) (n : ℕ) → length (rows_in w n) ≡ n
unfolding rows_in
length-rows w n = length-tabulate n _

row_at : (w : List ℤ) (n k : ℕ) → k < n → get_or (rows_in w n) k None ≡ row_in w (k * row_length)
unfolding rows_in
row_at w n k h = get_d_tabulate n (λ j. row_in w (j * row_length)) k None h

-- ════ one row more of a machine
module _ {S : Type 0} (next : S → Option Call → S) (says : S → Option Call → ℤ) (s : S) (w : List ℤ) (n k : ℕ) (h : k < n) (t : S) (at : t ≡ final next s (take k (rows_in w n))) where
  inside : k < length (rows_in w n)
  inside = let z : length (rows_in w n) ≡ n = length-rows w n in omega arith

  pub turn-says : says t (row_in w (k * row_length)) ≡ get_or (answers next says s (rows_in w n)) k (pos 0)
  turn-says =
      ap (λ (x : S). says x (row_in w (k * row_length))) at
      ∙ ap (says (final next s (take k (rows_in w n)))) (sym (row_at w n k h))
      ∙ sym (answer_at next says s (rows_in w n) k (pos 0) None inside)

  pub turn-next : next t (row_in w (k * row_length)) ≡ final next s (take (k + 1) (rows_in w n))
  turn-next =
      ap (λ (x : S). next x (row_in w (k * row_length))) at
      ∙ ap (next (final next s (take k (rows_in w n)))) (sym (row_at w n k h))
      ∙ sym (ap (λ (j : ℕ). final next s (take j (rows_in w n))) (add-one k) ∙ final-suc next s (rows_in w n) k None inside)

pub all_rows : (w : List ℤ) (n k : ℕ) → n ≤ k → take k (rows_in w n) ≡ rows_in w n
all_rows w n k h = take_all k (rows_in w n) (let z : length (rows_in w n) ≡ n = length-rows w n in omega arith)

-- ════ a list of which the first k are filled
pub filled : (m : ℕ) (f : ℕ → ℤ) (l out answers : List ℤ) (k : ℕ) → k ≤ m → Mapped (pos 0) m f l out k → length answers ≡ k → ((i : ℕ) → i < k → f i ≡ get_or answers i (pos 0)) → take k out ≡ answers
filled m f l out answers k h p e g =
    ext_get_or (pos 0) (take k out) answers
    (let z : length out ≡ m = p.long in simp length-take (omega arith))
    (λ i q. let r : i < k = omega (arith, simp length-take at q) in get_or-take k out i (pos 0) r ∙ p.done i r ∙ g i r)

pub unfilled : (m : ℕ) (f : ℕ → ℤ) (l out : List ℤ) (k : ℕ) → length l ≡ m → Mapped (pos 0) m f l out k → drop k out ≡ drop k l
unfilled m f l out k e p =
    ext_get_or (pos 0) (drop k out) (drop k l)
    (let z : length out ≡ m = p.long in simp length-drop (omega arith))
    (λ i q. get_or-drop k out i (pos 0) ∙ p.left (k + i) (omega arith) ∙ sym (get_or-drop k l i (pos 0)))
