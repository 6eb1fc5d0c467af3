-- Lines: "lines end in LF (the last may lack it)"; of a line that is too long its front is kept. Assumes nothing.
use Rattle.std.specs.Prelude.{◌≡◌, Bool, false, cond, ◌||◌, List, [], ◌∷◌, ◌++◌, ℕ, ◌+◌, ◌-◌, ltb, eqb, length, take, drop}
use Rattle.std.proofs.lemmas.List.Edits.{sets}
use Rattle.text.specs.Before.{before}
use Rattle.text.specs.declared.Fed.{Fed}

-- LF, which ends a line
abbrev pub line_feed : ℕ
line_feed = 10

-- a last line that lacks its LF: no line where it has no byte
abbrev pub last_line : List ℕ → List (List ℕ)
last_line [] = []
last_line (c ∷ cs) = (c ∷ cs) ∷ []

-- the lines of a text after the bytes t of the first, each without its LF
unfoldable pub lines_after : List ℕ → List ℕ → List (List ℕ)
lines_after t [] = last_line t
lines_after t (c ∷ cs) = cond (eqb c line_feed) (t ∷ lines_after [] cs) (lines_after (t ++ (c ∷ [])) cs)

abbrev pub lines_of : List ℕ → List (List ℕ)
lines_of s = lines_after [] s

-- ════ what is kept of a line
-- its first bytes, and whether there are more
pub record KeptLine : Type 0 where
  pub text : List ℕ
  pub over : Bool

abbrev pub kept : ℕ → List ℕ → KeptLine
kept most line = record { text = take most line; over = ltb most (length line) }

abbrev pub nothing_held : KeptLine
nothing_held = record { text = []; over = false }

-- with the bytes s more
unfoldable pub keep : ℕ → KeptLine → List ℕ → KeptLine
keep most k s =
    record {
      text = k.text ++ take (most - length k.text) s;
      over = k.over || ltb (most - length k.text) (length s);
    }

-- ════ chunks of a text
-- the lines that end in a chunk, and what is kept of the one that goes on
pub record Came : Type 0 where
  pub ended : List KeptLine
  pub going : KeptLine

abbrev pub in_front : KeptLine → Came → Came
in_front k r = record { ended = k ∷ r.ended; going = r.going }

-- k is kept of the line that the chunk goes on with
unfoldable pub came : ℕ → KeptLine → List ℕ → Came
came most k [] = record { ended = []; going = k }
came most k (c ∷ cs) = cond (eqb c line_feed) (in_front k (came most nothing_held cs)) (came most (keep most k (c ∷ [])) cs)

-- chunk after chunk
abbrev pub joined : Came → Came → Came
joined a b = record { ended = a.ended ++ b.ended; going = b.going }

unfoldable pub came_all : ℕ → KeptLine → List (List ℕ) → Came
came_all most k [] = record { ended = []; going = k }
came_all most k (s ∷ ss) = joined (came most k s) (came_all most (came most k s).going ss)

unfoldable pub concat : List (List ℕ) → List ℕ
concat [] = []
concat (s ∷ ss) = s ++ concat ss

-- at the end of the text: what goes on is a last line, where it has a byte
unfoldable pub is_line : KeptLine → Bool
is_line k = k.over || ltb 0 (length k.text)

abbrev pub last_kept : KeptLine → List KeptLine
last_kept k = cond (is_line k) (k ∷ []) []

-- ════ one step of the code: up to the next LF
-- a buffer that holds a line at its front, up to len
abbrev pub holds : List ℕ → ℕ → Bool → KeptLine
holds buffer len over = record { text = take len buffer; over = over }

-- the bytes of the chunk from `at` up to the next LF
abbrev pub line_part : List ℕ → ℕ → List ℕ
line_part chunk at = before line_feed (drop at chunk)

-- what the code says of a line whose part ends before `end` of a chunk of n bytes
unfoldable pub fed_at : ℕ → ℕ → ℕ → Bool → Fed
fed_at n end len over =
    record { whole = ltb end n; len = len; over = over; next = cond (ltb end n) (end + 1) end }

-- the buffer goes on with those bytes, as far as there is room
pub record Feeds (buffer : List ℕ) (len : ℕ) (over : Bool) (chunk : List ℕ) (at : ℕ) (r : Fed) (after : List ℕ) : Type 0 where
  pub leaves : after ≡ sets buffer len (take (length buffer - len) (line_part chunk at))
  pub says :
      r ≡
      fed_at (length chunk) (at + length (line_part chunk at)) (len + length (take (length buffer - len) (line_part chunk at)))
      (over || ltb (length buffer - len) (length (line_part chunk at)))
