-- A chunk, line by line: what holds in the middle of it, and how a line that ends takes it on. Assumes nothing.
use Rattle.std.specs.Prelude.{ℕ, suc, ◌+◌, ◌*◌, ◌≤◌, ◌≡◌, refl, Bool, true, false, List, [], ◌++◌, length, take, drop, ℤ}
use Rattle.std.proofs.Math.Path.{sym}
use Rattle.std.proofs.Common.{◌∙◌, append-nil, append_assoc, arith, drop_of_length-le}
use Rattle.text.specs.declared.Fed.{Fed}
use Rattle.text.specs.Lines.{KeptLine, nothing_held, in_front, came, holds, Feeds}
use Rattle.text.specs.LineLaws.{fed_fits, fed_on, fed_line, fed_part}
use Rattle.commands.specs.Commands.{longest_line}
use Rattle.printing.specs.Rooms.{line_room}
use Rattle.input_lines.specs.declared.Reached.{Reached}
use Rattle.input_lines.specs.Runs.{Run, next, says, run_after, says_all}
use Rattle.input_lines.specs.States.{RunsTo}
use Rattle.input_lines.specs.StateLaws.{written_front, written-beyond, drop_further}
use Rattle.adjustment.specs.declared.Rooms.{Rooms}
use Rattle.adjustment.specs.declared.Taken.{Taken}
use Rattle.adjustment.specs.Rooms.{run_in, ready_in, held_in, SameRooms}
use Rattle.adjustment.specs.Chunks.{Takes, Ahead}

-- ════ the lines of a chunk
module _ (r₀ : Run) (k₀ : KeptLine) (chunk before : List ℕ) where
  pub ahead-start : Ahead r₀ k₀ chunk before r₀ k₀ 0 0 before
  ahead-start = record { run = refl; going = refl; printed = refl; beyond = refl }

  module _ {r : Run} {k : KeptLine} {at p : ℕ} {out : List ℕ} (h : Ahead r₀ k₀ chunk before r k at p out) where
    -- a line ended
    pub ahead-line :
        {line : KeptLine} {on q : ℕ} {after : List ℕ} (n : Run) →
        came longest_line k (drop at chunk) ≡ in_front line (came longest_line nothing_held (drop on chunk)) →
        n ≡ next r line →
        take q after ≡ take p out ++ says r line →
        drop q after ≡ drop q before →
        Ahead r₀ k₀ chunk before n nothing_held on q after
    unfolding run_after says_all
    ahead-line {line} {on} {q} {after} n c e t d =
        record {
          run = rw e (rw c at h.run);
          going = rw c at h.going;
          printed = rw (t, e) (append_assoc (take p out) (says r line) (says_all (next r line) (came longest_line nothing_held (drop on chunk)).ended) ∙ (rw c at h.printed));
          beyond = d;
        }

    -- the chunk ends
    pub ahead_part : {line : KeptLine} → came longest_line k (drop at chunk) ≡ record { ended = []; going = line } → Takes r₀ k₀ chunk before r line p out
    unfolding run_after says_all
    ahead_part {line} c =
        record {
          run = rw c at h.run;
          going = rw c at h.going;
          printed = sym (append-nil (take p out)) ∙ (rw c at h.printed);
          beyond = h.beyond;
        }

    pub ahead_end : length chunk ≤ at → Takes r₀ k₀ chunk before r k p out
    unfolding came
    ahead_end l = ahead_part (rw (drop_of_length-le chunk l))

-- ════ in the middle of a chunk
pub record Middle (t₀ : Taken) (rooms₀ : Rooms) (chunk out₀ : List ℕ) (reached : Reached) (rooms : Rooms) (len : ℕ) (over : Bool) (at : ℕ) (out : List ℕ) : Type 0 where
  pub same : SameRooms rooms₀ rooms
  pub ready : ready_in reached.state rooms
  pub line_long : length rooms.line.now ≡ longest_line
  pub out-kept : length out ≡ length out₀
  pub len_fits : len ≤ longest_line
  pub at-fits : at ≤ length chunk
  pub lines : reached.state.lines ≤ t₀.state.lines + at
  pub p_fits : reached.printed ≤ line_room * at
  pub ahead : Ahead (run_in t₀.state rooms₀) (held_in t₀ rooms₀) chunk out₀ (run_in reached.state rooms) (holds rooms.line.now len over) at reached.printed out

pub same_rooms : (r : Rooms) → SameRooms r r
same_rooms r = record { line = refl; book = refl; list = refl; x = refl; m = refl; line_kept = refl; book_kept = refl; list_kept = refl; x_kept = refl; m_kept = refl }

pub same_then : {q r s : Rooms} → SameRooms q r → SameRooms r s → SameRooms q s
same_then a b =
    record {
      line = b.line ∙ a.line;
      book = b.book ∙ a.book;
      list = b.list ∙ a.list;
      x = b.x ∙ a.x;
      m = b.m ∙ a.m;
      line_kept = b.line_kept ∙ a.line_kept;
      book_kept = b.book_kept ∙ a.book_kept;
      list_kept = b.list_kept ∙ a.list_kept;
      x_kept = b.x_kept ∙ a.x_kept;
      m_kept = b.m_kept ∙ a.m_kept;
    }

module _ {t₀ : Taken} {rooms₀ : Rooms} {chunk out₀ : List ℕ} where
  pub middle_start : ready_in t₀.state rooms₀ → length rooms₀.line.now ≡ longest_line → t₀.len ≤ longest_line → Middle t₀ rooms₀ chunk out₀ (record { state = t₀.state; printed = 0 }) rooms₀ t₀.len t₀.over 0 out₀
  middle_start r l f =
      record {
        same = same_rooms rooms₀;
        ready = r;
        line_long = l;
        out-kept = refl;
        len_fits = f;
        at-fits = omega arith;
        lines = omega arith;
        p_fits = omega arith;
        ahead = ahead-start _ _ _ _;
      }

  module _ {reached : Reached} {rooms : Rooms} {len : ℕ} {over : Bool} {at : ℕ} {out : List ℕ} (h : Middle t₀ rooms₀ chunk out₀ reached rooms len over at out) where
    fits : len ≤ length rooms.line.now
    fits = omega (arith, h.len_fits, h.line_long)

    -- a line ended, with the buffer at line' as it was obeyed
    pub middle-line :
        {fed : Fed} {line' : List ℕ} {reached' : Reached} {rooms' : Rooms} {out' : List ℕ} →
        Feeds rooms.line.now len over chunk at fed line' →
        fed.whole ≡ true →
        RunsTo (next (run_in reached.state rooms) (holds line' fed.len fed.over)) (says (run_in reached.state rooms) (holds line' fed.len fed.over)) line_room out reached.printed (run_in reached'.state rooms') reached'.printed out' →
        ready_in reached'.state rooms' →
        reached'.state.lines ≡ suc reached.state.lines →
        SameRooms rooms₀ rooms' →
        length out' ≡ length out →
        line_room * length chunk ≤ length out₀ →
        Middle t₀ rooms₀ chunk out₀ reached' rooms' 0 false fed.next out'
    middle-line {fed} {line'} {reached'} {rooms'} {out'} f whole n rd li sr lo room =
        let on = fed_on rooms.line.now len over chunk at fed line' fits f whole in
        let w = n.written in
        let p = reached.printed in
        let q = reached'.printed in
        let fit : q ≤ length out = omega (arith, n.few, h.p_fits, h.out-kept, on.0, on.1, room) in
        record {
          same = sr;
          ready = rd;
          line_long = sr.line_kept ∙ sym h.same.line_kept ∙ h.line_long;
          out-kept = lo ∙ h.out-kept;
          len_fits = omega arith;
          at-fits = on.1;
          lines = omega (arith, li, h.lines, on.0);
          p_fits = omega (arith, n.few, h.p_fits, on.0);
          ahead =
              ahead-line _ _ chunk out₀ h.ahead (run_in reached'.state rooms')
              (rw h.line_long at (fed_line rooms.line.now len over chunk at fed line' fits f whole))
              n.run
              (written_front w fit)
              (written-beyond w fit ∙ drop_further out out₀ p q (omega (arith, w.past)) h.ahead.beyond);
        }

    -- the chunk ended within a line
    pub middle-part :
        {fed : Fed} {line' : List ℕ} →
        Feeds rooms.line.now len over chunk at fed line' →
        fed.whole ≡ false →
        Takes (run_in t₀.state rooms₀) (held_in t₀ rooms₀) chunk out₀ (run_in reached.state rooms) (holds line' fed.len fed.over) reached.printed out × (fed.len ≤ longest_line)
    middle-part {fed} {line'} f whole = (
      ahead_part _ _ chunk out₀ h.ahead (rw h.line_long at (fed_part rooms.line.now len over chunk at fed line' fits f whole)),
      omega (arith, fed_fits rooms.line.now len over chunk at fed line' fits f, h.line_long),
    )

    pub middle_end : length chunk ≤ at → Takes (run_in t₀.state rooms₀) (held_in t₀ rooms₀) chunk out₀ (run_in reached.state rooms) (holds rooms.line.now len over) reached.printed out
    middle_end l = ahead_end _ _ chunk out₀ h.ahead l
