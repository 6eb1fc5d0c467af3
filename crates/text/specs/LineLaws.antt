-- Laws of lines: one step of the code is the chunk up to the next LF, and chunks, however cut, give the lines of the whole text. Assumes nothing.
use Rattle.std.specs.Prelude.{◌≡◌, refl, Bool, true, false, cond, ◌||◌, ℕ, zero, suc, ◌+◌, ◌-◌, ◌≤◌, ◌<◌, ltb, eqb, take, drop}
use Rattle.std.proofs.Common.{sym, ◌∙◌, arith, add-one, add-suc, length-take, length-append, drop_of_length-le, take_all, take-take, take_at, length-take-le, drop-drop}
use Rattle.std.proofs.Math.Path.{ap}
use Rattle.std.proofs.Math.Bool.{or-false, or-true, or_assoc}
use mathlib.Core.List.{List, [], ◌∷◌, ◌++◌, append-nil, append_assoc, map}
use Rattle.std.proofs.Math.Decide.{dec_lt, dec_le}
use Rattle.std.proofs.Math.ListN.{length, length-drop}
use Rattle.std.proofs.lemmas.List.Edits.{sets, sets-eq}
use Rattle.std.proofs.Math.Seq.{take-nil}
use borrow.Author.Tests.{lt-ltb, le-ltb, ltb-true, ltb-false}
use Rattle.text.specs.declared.Fed.{Fed}
use Rattle.text.specs.Before.{before, before-length, before-take}
use Rattle.text.specs.Writing.{Written}
use Rattle.text.specs.Lines.{line_feed, last_line, lines_after, lines_of, KeptLine, kept, nothing_held, keep, in_front, came, joined, came_all, concat, is_line, last_kept, holds, line_part, fed_at, Feeds}

-- ════ the cases of the code
module _ (buffer : List ℕ) (len : ℕ) (over : Bool) (chunk : List ℕ) (at end : ℕ) (is : end ≡ at + length (line_part chunk at)) where
  left : length (line_part chunk at) ≤ length chunk - at
  left = rw length-drop at (before-length line_feed (drop at chunk))

  whole_part : take (end - at) (drop at chunk) ≡ line_part chunk at
  whole_part = let e : end - at ≡ length (line_part chunk at) = omega arith in rw e (before-take line_feed (drop at chunk))

  said :
      (r : Fed) (m : ℕ) (o : Bool) →
      r ≡ fed_at (length chunk) end m o →
      m ≡ len + length (take (length buffer - len) (line_part chunk at)) →
      o ≡ (over || ltb (length buffer - len) (length (line_part chunk at))) →
      r ≡ fed_at (length chunk) (at + length (line_part chunk at)) (len + length (take (length buffer - len) (line_part chunk at))) (over || ltb (length buffer - len) (length (line_part chunk at)))
  said r m o e p q = e ∙ cc

  pub feeds_none : (r : Fed) → length chunk < end → r ≡ fed_at (length chunk) end len over → Feeds buffer len over chunk at r buffer
  unfolding before
  feeds_none r h e =
      let beyond : length chunk ≤ at = omega (arith, left) in
      let p : line_part chunk at ≡ [] = ap (before line_feed) (drop_of_length-le chunk beyond) in
      record {
        leaves = rw (p, take-nil (length buffer - len));
        says =
            said r len over e (rw (p, take-nil (length buffer - len)) (omega arith))
            (rw (p, le-ltb (length buffer - len) 0 (omega arith)) (sym (or-false over)));
      }

  module _ (room p : ℕ) (after : List ℕ) (r : Fed) (is-room : room ≡ length buffer - len) where
    pub feeds-all :
        end - at ≤ room →
        Written buffer len (take (end - at) (drop at chunk)) p after →
        r ≡ fed_at (length chunk) end p over →
        Feeds buffer len over chunk at r after
    feeds-all h w e =
        let all : take (length buffer - len) (line_part chunk at) ≡ take (end - at) (drop at chunk) =
        take_all (length buffer - len) (line_part chunk at) (omega arith) ∙ sym whole_part in
        record {
          leaves = w.leaves ∙ rw all;
          says = said r p over e (w.past ∙ rw all) (rw (le-ltb (length buffer - len) (length (line_part chunk at)) (omega arith)) (sym (or-false over)));
        }

    pub feeds-cut :
        room < end - at →
        Written buffer len (take (at + room - at) (drop at chunk)) p after →
        r ≡ fed_at (length chunk) end p true →
        Feeds buffer len over chunk at r after
    feeds-cut h w e =
        let k : at + room - at ≡ room = omega arith in
        let front : take (length buffer - len) (line_part chunk at) ≡ take (at + room - at) (drop at chunk) =
        sym (rw (k, is-room) (sym (take-take (length buffer - len) (end - at) (drop at chunk) (omega arith)) ∙ ap (take (length buffer - len)) whole_part)) in
        record {
          leaves = w.leaves ∙ rw front;
          says = said r p true e (w.past ∙ rw front) (rw (lt-ltb (length buffer - len) (length (line_part chunk at)) (omega arith)) (sym (or-true over)));
        }

-- ════ a step as a step on what is kept
pub feeds-keep :
    (buffer : List ℕ) (len : ℕ) (over : Bool) (chunk : List ℕ) (at : ℕ) (r : Fed) (after : List ℕ) →
    len ≤ length buffer →
    Feeds buffer len over chunk at r after →
    holds after r.len r.over ≡ keep (length buffer) (holds buffer len over) (line_part chunk at)
unfolding keep fed_at
feeds-keep buffer len over chunk at r after h f =
    let size : length (take len buffer) ≡ len = length-take-le len buffer h in
    rw (f.says, f.leaves, size)
    (ap (λ (t : List ℕ). record { text = t; over = over || ltb (length buffer - len) (length (line_part chunk at)) })
    (front (take (length buffer - len) (line_part chunk at)) (rw length-take (omega arith))))
  where
    front : (x : List ℕ) → length x ≤ length buffer - len → take (len + length x) (sets buffer len x) ≡ take len buffer ++ x
    front x k =
        rw (sets-eq x buffer len (omega arith))
        (take_at (take len buffer ++ x) (drop (len + length x) buffer) (len + length x) (rw (length-append, length-take-le len buffer h)))

-- ════ keeping
take-both : (r : ℕ) (a b : List ℕ) → take r a ++ take (r - length (take r a)) b ≡ take r (a ++ b)
take-both zero a b = refl
take-both (suc r) [] b = let e : suc r - 0 ≡ suc r = omega arith in rw e
take-both (suc r) (c ∷ a) b =
    let e : suc r - suc (length (take r a)) ≡ r - length (take r a) = omega arith in
    rw e (ap (λ (l : List ℕ). c ∷ l) (take-both r a b))

same-less : (a b c d : ℕ) → (a < b → c < d) → (b ≤ a → d ≤ c) → ltb a b ≡ ltb c d
same-less a b c d f g = by (dec_lt a b)
  where
    by : Dec (a < b) → ltb a b ≡ ltb c d
    by (yes h) = lt-ltb a b h ∙ sym (lt-ltb c d (f h))
    by (no h) = le-ltb a b (omega arith) ∙ sym (le-ltb c d (g (omega arith)))

-- the bytes of a, then those of b
pub keep_append : (most : ℕ) (k : KeptLine) (a b : List ℕ) → keep most (keep most k a) b ≡ keep most k (a ++ b)
unfolding keep
keep_append most k a b = cc (text, over)
  where
    r : ℕ
    r = most - length k.text

    rest : most - length (k.text ++ take r a) ≡ r - length (take r a)
    rest = rw length-append (omega arith)

    text : (k.text ++ take r a) ++ take (most - length (k.text ++ take r a)) b ≡ k.text ++ take r (a ++ b)
    text = rw (rest, append_assoc) (ap (λ (l : List ℕ). k.text ++ l) (take-both r a b))

    many : Dec (length a ≤ r) → (ltb r (length a) || ltb (r - length (take r a)) (length b)) ≡ ltb r (length a + length b)
    many (yes h) =
        let e : length (take r a) ≡ length a = ap length (take_all r a h) in
        rw (e, le-ltb r (length a) h) (same-less (r - length a) (length b) r (length a + length b) (λ l. omega arith) (λ l. omega arith))
    many (no h) = rw (lt-ltb r (length a) (omega arith), lt-ltb r (length a + length b) (omega arith))

    over : (k.over || ltb r (length a) || ltb (most - length (k.text ++ take r a)) (length b)) ≡ (k.over || ltb r (length (a ++ b)))
    over = rw (rest, length-append, or_assoc) (ap (λ (t : Bool). k.over || t) (many (dec_le (length a) r)))

keep-none : (most : ℕ) (k : KeptLine) → keep most k [] ≡ k
unfolding keep
keep-none most k =
    rw (take-nil (most - length k.text), append-nil, le-ltb (most - length k.text) 0 (omega arith), or-false)

-- keeping all of a line's bytes keeps the line
kept-is : (most : ℕ) (t : List ℕ) → keep most nothing_held t ≡ kept most t
unfolding keep
kept-is most t = let e : most - 0 ≡ most = omega arith in rw e

pub kept_append : (most : ℕ) (t s : List ℕ) → keep most (kept most t) s ≡ kept most (t ++ s)
kept_append most t s =
    ap (λ (k : KeptLine). keep most k s) (sym (kept-is most t)) ∙ keep_append most nothing_held t s ∙ kept-is most (t ++ s)

-- ════ a chunk, up to its first LF
-- it has none
pub came_part : (most : ℕ) (k : KeptLine) (l : List ℕ) → length l ≤ length (before line_feed l) → came most k l ≡ record { ended = []; going = keep most k (before line_feed l) }
unfolding came before
came_part most k [] h = rw (keep-none most k)
came_part most k (c ∷ cs) h = by (eqb c line_feed) h (came_part most (keep most k (c ∷ [])) cs)
  where
    by :
        (t : Bool) →
        suc (length cs) ≤ length (cond t [] (c ∷ before line_feed cs)) →
        (length cs ≤ length (before line_feed cs) → came most (keep most k (c ∷ [])) cs ≡ record { ended = []; going = keep most (keep most k (c ∷ [])) (before line_feed cs) }) →
        cond t (in_front k (came most nothing_held cs)) (came most (keep most k (c ∷ [])) cs) ≡ record { ended = []; going = keep most k (cond t [] (c ∷ before line_feed cs)) }
    by true h e = absurd (omega arith)
    by false h e = e (omega arith) ∙ rw (keep_append most k (c ∷ []) (before line_feed cs))

-- it has one: a line ends
pub came-line :
    (most : ℕ) (k : KeptLine) (l : List ℕ) →
    length (before line_feed l) < length l →
    came most k l ≡ in_front (keep most k (before line_feed l)) (came most nothing_held (drop (suc (length (before line_feed l))) l))
unfolding came before
came-line most k [] h = absurd (omega arith)
came-line most k (c ∷ cs) h = by (eqb c line_feed) h (came-line most (keep most k (c ∷ [])) cs)
  where
    by :
        (t : Bool) →
        length (cond t [] (c ∷ before line_feed cs)) < suc (length cs) →
        (length (before line_feed cs) < length cs →
        came most (keep most k (c ∷ [])) cs ≡ in_front (keep most (keep most k (c ∷ [])) (before line_feed cs)) (came most nothing_held (drop (suc (length (before line_feed cs))) cs))) →
        cond t (in_front k (came most nothing_held cs)) (came most (keep most k (c ∷ [])) cs)
        ≡ in_front (keep most k (cond t [] (c ∷ before line_feed cs))) (came most nothing_held (drop (length (cond t [] (c ∷ before line_feed cs))) cs))
    by true h e = rw (keep-none most k)
    by false h e = e (omega arith) ∙ rw (keep_append most k (c ∷ []) (before line_feed cs))

-- ════ however it is cut
pub came-append : (most : ℕ) (k : KeptLine) (a b : List ℕ) → came most k (a ++ b) ≡ joined (came most k a) (came most (came most k a).going b)
unfolding came
came-append most k [] b = refl
came-append most k (c ∷ a) b = by (eqb c line_feed) (came-append most nothing_held a b) (came-append most (keep most k (c ∷ [])) a b)
  where
    by :
        (t : Bool) →
        came most nothing_held (a ++ b) ≡ joined (came most nothing_held a) (came most (came most nothing_held a).going b) →
        came most (keep most k (c ∷ [])) (a ++ b) ≡ joined (came most (keep most k (c ∷ [])) a) (came most (came most (keep most k (c ∷ [])) a).going b) →
        cond t (in_front k (came most nothing_held (a ++ b))) (came most (keep most k (c ∷ [])) (a ++ b))
        ≡ joined (cond t (in_front k (came most nothing_held a)) (came most (keep most k (c ∷ [])) a)) (came most (cond t (in_front k (came most nothing_held a)) (came most (keep most k (c ∷ [])) a)).going b)
    by true e f = ap (in_front k) e
    by false e f = f

pub came_all_lem : (most : ℕ) (k : KeptLine) (ss : List (List ℕ)) → came_all most k ss ≡ came most k (concat ss)
unfolding came_all concat came
came_all_lem most k [] = refl
came_all_lem most k (s ∷ ss) = ap (joined (came most k s)) (came_all_lem most (came most k s).going ss) ∙ sym (came-append most k s (concat ss))

-- ════ the lines of the whole
last-kept : (most : ℕ) (t : List ℕ) → last_kept (kept most t) ≡ map (kept most) (last_line t)
unfolding is_line
last-kept most [] = rw (take-nil most, le-ltb most 0 (omega arith))
last-kept zero (c ∷ t) = rw (lt-ltb 0 (suc (length t)) (omega arith))
last-kept (suc m) (c ∷ t) = rw (lt-ltb 0 (suc (length (take m t))) (omega arith), or-true)

kept_blank : (most : ℕ) → kept most [] ≡ nothing_held
kept_blank most = rw (take-nil most, le-ltb most 0 (omega arith))

came-lines : (most : ℕ) (t s : List ℕ) → (came most (kept most t) s).ended ++ last_kept (came most (kept most t) s).going ≡ map (kept most) (lines_after t s)
unfolding came lines_after
came-lines most t [] = last-kept most t
came-lines most t (c ∷ s) = by (eqb c line_feed) (came-lines most [] s) (came-lines most (t ++ (c ∷ [])) s)
  where
    by :
        (x : Bool) →
        (came most (kept most []) s).ended ++ last_kept (came most (kept most []) s).going ≡ map (kept most) (lines_after [] s) →
        (came most (kept most (t ++ (c ∷ []))) s).ended ++ last_kept (came most (kept most (t ++ (c ∷ []))) s).going ≡ map (kept most) (lines_after (t ++ (c ∷ [])) s) →
        (cond x (in_front (kept most t) (came most nothing_held s)) (came most (keep most (kept most t) (c ∷ [])) s)).ended
        ++ last_kept (cond x (in_front (kept most t) (came most nothing_held s)) (came most (keep most (kept most t) (c ∷ [])) s)).going
        ≡ map (kept most) (cond x (t ∷ lines_after [] s) (lines_after (t ++ (c ∷ [])) s))
    by true e f = ap (λ (l : List KeptLine). kept most t ∷ l) (rw (kept_blank most) at e)
    by false e f = rw (kept_append most t (c ∷ [])) f

-- the law: the lines that end in the chunks, and the last where it lacks its LF, are the lines of the whole text, each kept up to `most` bytes
pub lines-of-chunks :
    (most : ℕ) (ss : List (List ℕ)) → (came_all most nothing_held ss).ended ++ last_kept (came_all most nothing_held ss).going ≡ map (kept most) (lines_of (concat ss))
lines-of-chunks most ss = rw (came_all_lem most nothing_held ss, ← kept_blank most) (came-lines most [] (concat ss))

-- ════ for a loop that feeds a chunk to its end
pub is_line_lem : (buffer : List ℕ) (len : ℕ) (over : Bool) → len ≤ length buffer → is_line (holds buffer len over) ≡ (over || ltb 0 len)
unfolding is_line
is_line_lem buffer len over h = rw (length-take-le len buffer h)

module _ (buffer : List ℕ) (len : ℕ) (over : Bool) (chunk : List ℕ) (at : ℕ) (r : Fed) (after : List ℕ) (fits : len ≤ length buffer) (f : Feeds buffer len over chunk at r after) where
  pub fed_fits : r.len ≤ length buffer
  unfolding fed_at
  fed_fits = rw (f.says, length-take) (omega arith)

  -- a line ended: the rest of the chunk starts a new one
  module _ (whole : r.whole ≡ true) where
    inside : at + length (line_part chunk at) < length chunk
    unfolding fed_at
    inside = ltb-true (at + length (line_part chunk at)) (length chunk) (sym (ap (λ (x : Fed). x.whole) f.says) ∙ whole)

    next-is : r.next ≡ at + length (line_part chunk at) + 1
    unfolding fed_at
    next-is = ap (λ (x : Fed). x.next) f.says ∙ rw (lt-ltb (at + length (line_part chunk at)) (length chunk) inside)

    pub fed_on : (at < r.next) × (r.next ≤ length chunk)
    fed_on = let e = next-is in let h = inside in (omega arith, omega arith)

    pub fed_line : came (length buffer) (holds buffer len over) (drop at chunk) ≡ in_front (holds after r.len r.over) (came (length buffer) nothing_held (drop r.next chunk))
    fed_line =
        let n : r.next ≡ at + suc (length (line_part chunk at)) = next-is ∙ rw add-one (sym (add-suc at (length (line_part chunk at)))) in
        rw (feeds-keep buffer len over chunk at r after fits f, n, ← drop-drop (suc (length (line_part chunk at))) at chunk)
        (came-line (length buffer) (holds buffer len over) (drop at chunk) (rw length-drop (let h = inside in omega arith)))

  -- it goes on
  pub fed_part : r.whole ≡ false → came (length buffer) (holds buffer len over) (drop at chunk) ≡ record { ended = []; going = holds after r.len r.over }
  unfolding fed_at
  fed_part whole =
      let h : length chunk ≤ at + length (line_part chunk at) = ltb-false (at + length (line_part chunk at)) (length chunk) (sym (ap (λ (x : Fed). x.whole) f.says) ∙ whole) in
      rw (feeds-keep buffer len over chunk at r after fits f)
      (came_part (length buffer) (holds buffer len over) (drop at chunk) (rw length-drop (omega arith)))
