-- 10 where the counts have no room, and else what `salvage` answers and leaves. Assumes nothing.
use mathlib.Core.Path.{◌∙◌}
use mir.Syntax.{w64}
use mir.Facts.{to_z-of_z}
use Rattle.dombrelat.proofs.Salvages.{salvage_no_room, salvage_given}
use borrow.Author.Rules.{sfits_of}
use Rattle.dombrelat.proofs.salvaging.dombrelat_salvage.Goals as goal

pub returns-then-counts-lt-COUNTS_BYTES : goal.returns-then-counts-lt-COUNTS_BYTES
returns-then-counts-lt-COUNTS_BYTES c =
    record {
      value = (salvage_no_room _ _ _ _ _ c.if-counts-lt-COUNTS_BYTES.true).0;
      fresh_after = (salvage_no_room _ _ _ _ _ c.if-counts-lt-COUNTS_BYTES.true).1.0;
      skipped_after = (salvage_no_room _ _ _ _ _ c.if-counts-lt-COUNTS_BYTES.true).1.1.0;
      kept_after = (salvage_no_room _ _ _ _ _ c.if-counts-lt-COUNTS_BYTES.true).1.1.1.0;
      counts_after = (salvage_no_room _ _ _ _ _ c.if-counts-lt-COUNTS_BYTES.true).1.1.1.1;
    }

pub returns : goal.returns
returns c =
    let w = c.give_salvaged in
    let s = c.salvage-s.ensures in
    record {
      value = (salvage_given _ _ _ _ _ c.if-counts-lt-COUNTS_BYTES.false s.0 (to_z-of_z {w = w64} {z = w.result} (sfits_of w.type_inv) ∙ w.ensures.0) s.1 s.2 s.3 w.ensures.1).0;
      fresh_after = (salvage_given _ _ _ _ _ c.if-counts-lt-COUNTS_BYTES.false s.0 (to_z-of_z {w = w64} {z = w.result} (sfits_of w.type_inv) ∙ w.ensures.0) s.1 s.2 s.3 w.ensures.1).1.0;
      skipped_after = (salvage_given _ _ _ _ _ c.if-counts-lt-COUNTS_BYTES.false s.0 (to_z-of_z {w = w64} {z = w.result} (sfits_of w.type_inv) ∙ w.ensures.0) s.1 s.2 s.3 w.ensures.1).1.1.0;
      kept_after = (salvage_given _ _ _ _ _ c.if-counts-lt-COUNTS_BYTES.false s.0 (to_z-of_z {w = w64} {z = w.result} (sfits_of w.type_inv) ∙ w.ensures.0) s.1 s.2 s.3 w.ensures.1).1.1.1.0;
      counts_after = (salvage_given _ _ _ _ _ c.if-counts-lt-COUNTS_BYTES.false s.0 (to_z-of_z {w = w64} {z = w.result} (sfits_of w.type_inv) ∙ w.ensures.0) s.1 s.2 s.3 w.ensures.1).1.1.1.1;
    }
