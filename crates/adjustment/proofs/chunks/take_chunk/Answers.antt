-- The invariant is `Middle`: what is ahead from here is what was ahead from the chunk's start. A line that ends is obeyed, which takes it on (`middle-line`);
-- a chunk that ends within a line (`middle-part`), or with one (`middle_end`), is taken. The measure is what is left of the chunk. Assumes nothing.
use Prim.Native.Nat.{ℕ, ◌-◌, ◌≤◌}
use mathlib.Core.Path.{ap, ◌∙◌}
use native.Mathlib.Omega.{arith}
use native.Mathlib.Nat.{sub-zero}
use borrow.Author.Tests.{not-true, not-false}
use lib.ListN.{length, take}
use Rattle.text.specs.Lines.{holds}
use Rattle.text.specs.LineLaws.{fed_fits, fed_on}
use Rattle.adjustment.specs.ChunkLaws.{middle_start, middle-line, middle-part, middle_end}
use Rattle.adjustment.proofs.chunks.take_chunk.Goals as goal

pub loop-at-init : goal.loop-at-init
loop-at-init c = middle_start c.requires.ready c.requires.line_len.0 c.requires.line_len.1

pub feed-fed-requires : goal.feed-fed-requires
feed-fed-requires c =
    let held_fits : c.loop-at.len ≤ length c.loop-at.rooms.line.now = let h = c.loop-at.invariant in omega (arith, h.len_fits, h.line_long) in
    held_fits

pub returns-then-not-fed : goal.returns-then-not-fed
returns-then-not-fed c =
    let h = c.loop-at.invariant in
    let q = middle-part h c.feed-fed.ensures (not-true _ c.if-not-fed.true) in
    record {
      same = record {
        line = h.same.line;
        book = h.same.book;
        list = h.same.list;
        x = h.same.x;
        m = h.same.m;
        line_kept = c.feed-fed.auto.line ∙ h.same.line_kept;
        book_kept = h.same.book_kept;
        list_kept = h.same.list_kept;
        x_kept = h.same.x_kept;
        m_kept = h.same.m_kept;
      };
      takes = rw c.taken_to.ensures q.0;
      ready_2 = rw c.taken_to.ensures (h.ready, q.1, omega (arith, h.lines, h.at-fits), omega (arith, h.p_fits, h.at-fits));
    }

pub obey_line-reached-requires : goal.obey_line-reached-requires
obey_line-reached-requires c =
    let t = c.loop-at-test.true in
    let h = c.loop-at.invariant in
    let p = c.requires.line_len in
    let held_fits : c.loop-at.len ≤ length c.loop-at.rooms.line.now = omega (arith, h.len_fits, h.line_long) in
    record { ready = h.ready; line_len = (omega (arith, fed_fits _ _ _ _ _ _ _ held_fits c.feed-fed.ensures, c.feed-fed.auto.line), omega (arith, h.lines, t, p.2), omega (arith, h.p_fits, h.out-kept, t, p.3)) }

pub loop-at-smaller : goal.loop-at-smaller
loop-at-smaller c =
    let held_fits : c.loop-at.len ≤ length c.loop-at.rooms.line.now = let h = c.loop-at.invariant in omega (arith, h.len_fits, h.line_long) in
    let on = fed_on _ _ _ _ _ _ _ held_fits c.feed-fed.ensures (not-false _ c.if-not-fed.false) in
    omega (arith, on.0, on.1)

pub loop-at-preserved : goal.loop-at-preserved
loop-at-preserved c =
    let h = c.loop-at.invariant in
    let o = c.obey_line-reached in
    let k = o.ensures.same in
    middle-line h c.feed-fed.ensures (not-false _ c.if-not-fed.false) o.ensures.runs_to o.ensures.ready_2.0 o.ensures.ready_2.1
    (record {
      line = k.line ∙ h.same.line;
      book = k.book ∙ h.same.book;
      list = k.list ∙ h.same.list;
      x = k.x ∙ h.same.x;
      m = k.m ∙ h.same.m;
      line_kept = k.line_kept ∙ c.feed-fed.auto.line ∙ h.same.line_kept;
      book_kept = k.book_kept ∙ h.same.book_kept;
      list_kept = k.list_kept ∙ h.same.list_kept;
      x_kept = k.x_kept ∙ h.same.x_kept;
      m_kept = k.m_kept ∙ h.same.m_kept;
    })
    o.auto.out c.requires.line_len.3

pub returns : goal.returns
returns c =
    let h = c.loop-at.invariant in
    record {
      same = h.same;
      takes = rw c.taken_to-2.ensures (middle_end h c.loop-at-test.false);
      ready_2 = rw c.taken_to-2.ensures (h.ready, h.len_fits, omega (arith, h.lines, h.at-fits), omega (arith, h.p_fits, h.at-fits));
    }
