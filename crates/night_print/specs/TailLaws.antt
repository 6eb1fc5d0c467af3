-- A buffer whose end is lent to a call: what was printed stays in front, and what the call prints comes after it. Assumes nothing.
use Rattle.std.specs.Prelude.{ℕ, ◌+◌, ◌-◌, ◌*◌, ◌/◌, ◌≤◌, ◌≡◌, refl, true, false, leb, drop}
use Rattle.std.proofs.Common.{sym, ap, ◌∙◌, le-leb, length-drop, drop_of_length-le, take_all, drop-drop, length-take-le}
use mathlib.Core.List.{List, [], ◌∷◌, ◌++◌, append-nil}
use native.Mathlib.Omega.{arith}
use Rattle.std.proofs.Math.Decide.{dec_le}
use Rattle.std.proofs.lemmas.Bool.{lt-leb}
use Rattle.std.proofs.Math.ListN.{length, take, length-append}
use Rattle.std.proofs.Math.Seq.{take-append-add, drop-append-add}
use Rattle.text.specs.Lines.{line_feed, KeptLine, nothing_held, came, concat, is_line, last_kept}
use Rattle.commands.specs.Commands.{longest_line}
use Rattle.printing.specs.Rooms.{line_room}
use Rattle.input_lines.specs.Runs.{Run, start, run_after, says_all}
use Rattle.input_lines.specs.StateLaws.{written_front, written-beyond, drop_further}
use Rattle.adjustment.specs.Chunks.{Takes}
use Rattle.adjustment.specs.Ends.{RunEnds}
use Rattle.night_print.specs.Closing.{end_room, Concludes}
use Rattle.night_print.specs.Print.{Prints}
use Rattle.night_print.specs.Texts.{PrintsAll}
use Rattle.night_print.specs.Whole.{no_more, then-a-chunk, whole-text}

-- the part of a buffer from p on, as it is lent, and the buffer with that part as it came back
abbrev pub lent_from : ℕ → List ℕ → List ℕ
lent_from p buffer = take (length buffer - p) (drop p buffer)

abbrev pub back_from : ℕ → List ℕ → List ℕ → List ℕ
back_from p buffer part = take p buffer ++ (part ++ drop (length buffer - p) (drop p buffer))

module _ (p : ℕ) (buffer : List ℕ) (h : p ≤ length buffer) where
  pub lent_is : lent_from p buffer ≡ drop p buffer
  lent_is = take_all (length buffer - p) (drop p buffer) (rw length-drop (omega arith))

  pub lent_length : length (lent_from p buffer) ≡ length buffer - p
  lent_length = rw (lent_is, length-drop)

  back_is : (part : List ℕ) → back_from p buffer part ≡ take p buffer ++ part
  back_is part =
      let none : drop (length buffer - p) (drop p buffer) ≡ [] = drop_of_length-le (drop p buffer) {i = length buffer - p} (rw length-drop (omega arith)) in
      rw (none, append-nil)

  front : length (take p buffer) ≡ p
  front = length-take-le p buffer h

  take_back : (part : List ℕ) (n : ℕ) → take (p + n) (back_from p buffer part) ≡ take p buffer ++ take n part
  take_back part n = rw (back_is part) (ap (λ (q : ℕ). take (q + n) (take p buffer ++ part)) (sym front) ∙ take-append-add (take p buffer) part n)

  drop-back : (part : List ℕ) (n : ℕ) → drop (p + n) (back_from p buffer part) ≡ drop n part
  drop-back part n = rw (back_is part) (ap (λ (q : ℕ). drop (q + n) (take p buffer ++ part)) (sym front) ∙ drop-append-add (take p buffer) part n)

  -- what lies beyond is as it was before, if it was so of the part and of the buffer
  beyond-back : (before part : List ℕ) (n : ℕ) → drop p buffer ≡ drop p before → drop n part ≡ drop n (lent_from p buffer) → drop (p + n) (back_from p buffer part) ≡ drop (p + n) before
  beyond-back before part n e d =
      drop-back part n ∙ d ∙ ap (drop n) lent_is ∙ drop-drop n p buffer ∙ drop_further buffer before p (p + n) (omega arith) e

-- ════ room for a text's print, tested without a product
pub room_test : (text out : ℕ) → end_room ≤ out → leb text ((out - end_room) / line_room) ≡ leb (line_room * text + end_room) out
room_test text out h = by (dec_le text ((out - end_room) / line_room))
  where
    by : Dec (text ≤ (out - end_room) / line_room) → leb text ((out - end_room) / line_room) ≡ leb (line_room * text + end_room) out
    by (yes g) = le-leb text ((out - end_room) / line_room) g ∙ sym (le-leb (line_room * text + end_room) out (omega arith))
    by (no g) = lt-leb text ((out - end_room) / line_room) (omega arith) ∙ sym (lt-leb (line_room * text + end_room) out (omega arith))

-- ════ the end, without a last line that is held, and with one
last_none : (k : KeptLine) → is_line k ≡ false → last_kept k ≡ []
last_none k e = rw e

last_line_lem : (k : KeptLine) → is_line k ≡ true → last_kept k ≡ k ∷ []
last_line_lem k e = rw e

pub closes_none : {r : Run} {k : KeptLine} {before : List ℕ} {n : ℕ} {after : List ℕ} → is_line k ≡ false → end_room ≤ length before → RunEnds r before n after → Concludes r k before n after
unfolding run_after says_all
closes_none {r} {k} {before} {n} {after} e room h =
    let z = last_none k e in
    let w = h.written.past in
    let s = h.small in
    let fits : n ≤ length before = omega arith in
    record {
      offer = h.offer;
      offers = rw z h.offers;
      printed = rw z (written_front h.written fits);
      beyond = written-beyond h.written fits;
      small = omega arith;
    }

-- the LF that the last line lacks ends it
lf_ends : (k : KeptLine) → came longest_line k (line_feed ∷ []) ≡ record { ended = k ∷ []; going = nothing_held }
unfolding came
lf_ends k = refl

module _ {r r₁ : Run} {k k₁ : KeptLine} {before mid part : List ℕ} {p n : ℕ} where
  pub closes-line :
      is_line k ≡ true →
      end_room ≤ length before →
      length mid ≡ length before →
      p ≤ line_room →
      Takes r k (line_feed ∷ []) before r₁ k₁ p mid →
      RunEnds r₁ (lent_from p mid) n part →
      Concludes r k before (p + n) (back_from p mid part)
  closes-line e room same few t h =
      let z = last_line_lem k e in
      let f = lf_ends k in
      let inside : p ≤ length mid = omega arith in
      let l = lent_length p mid inside in
      let s = h.small in
      let fits : n ≤ length (lent_from p mid) = omega arith in
      let run : r₁ ≡ run_after r (last_kept k) = t.run ∙ rw (f, z) in
      let said : take p mid ≡ says_all r (last_kept k) = t.printed ∙ rw (f, z) in
      record {
        offer = h.offer;
        offers = rw run at h.offers;
        printed = take_back p mid inside part n ∙ rw (said, written_front h.written fits, run);
        beyond = beyond-back p mid inside before part n t.beyond (written-beyond h.written fits);
        small = omega arith;
      }

  -- ════ a whole text as one chunk, and its end
  pub prints-all :
      {text : List ℕ} →
      line_room * length text + end_room ≤ length before →
      length mid ≡ length before →
      length part ≡ length (lent_from p mid) →
      p ≤ line_room * length text →
      r ≡ start →
      k ≡ nothing_held →
      Takes r k text before r₁ k₁ p mid →
      Concludes r₁ k₁ (lent_from p mid) n part →
      PrintsAll text before (p + n) (back_from p mid part)
  unfolding concat
  prints-all {text} room same back few e b t h =
      let inside : p ≤ length mid = omega arith in
      let l = lent_length p mid inside in
      let s = h.small in
      let one : Prints (text ++ []) ((take p mid ++ []) ++ take n part) = whole-text (then-a-chunk (rw (e, b) at t) no_more) h in
      record {
        prints = rw (take_back p mid inside part n) (rw (append-nil text, append-nil (take p mid)) at one);
        beyond = beyond-back p mid inside before part n t.beyond h.beyond;
        within = rw (back_is p mid inside part, length-append, front p mid inside) (omega arith);
      }
