-- By the word; each text is the one that `verdict` gives of it. Assumes nothing.
use Rattle.std.proofs.Common.{◌≡◌, pos, false, rules}
use Rattle.words.specs.Signed.{eq_z}
use Rattle.text.specs.Writing.{written_as}
use Rattle.printing.specs.SheetText.{verdict, high_verdict}
use Rattle.printing.proofs.sheet_text.write_verdict.Goals as goal

pub returns-in-0-clause-written : goal.returns-in-0-clause-written
unfolding verdict high_verdict
returns-in-0-clause-written c = let e : c.args.v ≡ pos 0 = search rules in written_as (rw e) c.write_text.ensures

pub returns-in-1-clause-written : goal.returns-in-1-clause-written
unfolding verdict high_verdict
returns-in-1-clause-written c = let e : c.args.v ≡ pos 1 = search rules in written_as (rw e) c.write_text-in-1.ensures

pub returns-in-2-clause-written : goal.returns-in-2-clause-written
unfolding verdict high_verdict
returns-in-2-clause-written c = let e : c.args.v ≡ pos 2 = search rules in written_as (rw e) c.write_text-in-2.ensures

pub returns-in-3-clause-written : goal.returns-in-3-clause-written
unfolding verdict high_verdict
returns-in-3-clause-written c = let e : c.args.v ≡ pos 3 = search rules in written_as (rw e) c.write_text-in-3.ensures

pub returns-in-4-clause-written : goal.returns-in-4-clause-written
unfolding verdict high_verdict
returns-in-4-clause-written c = let e : c.args.v ≡ pos 4 = search rules in written_as (rw e) c.write_text-in-4.ensures

pub returns-in_default-clause-written : goal.returns-in_default-clause-written
unfolding verdict high_verdict
returns-in_default-clause-written c =
    let e0 : eq_z c.args.v (pos 0) ≡ false = search rules in
    let e1 : eq_z c.args.v (pos 1) ≡ false = search rules in
    let e2 : eq_z c.args.v (pos 2) ≡ false = search rules in
    let e3 : eq_z c.args.v (pos 3) ≡ false = search rules in
    let e4 : eq_z c.args.v (pos 4) ≡ false = search rules in
    written_as (rw (e0, e1, e2, e3, e4)) c.write_text-in_default.ensures
