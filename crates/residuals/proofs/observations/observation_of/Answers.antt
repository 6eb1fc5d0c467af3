-- Each number of the observation is read back from its bits; the entry and the determinant by the sizes that the quotient gives. Assumes nothing.
use native.Mathlib.Omega.{arith}
use Prim.Native.Nat.{ℕ, ◌+◌, ◌*◌}
use mathlib.Core.Path.{◌≡◌, ap, ◌∙◌}
use lib.ListN.{get_or}
use lib.IntN.{pos}
use Rattle.lists.specs.Stored.{stored, back, kept}
use Rattle.network.specs.Records.{joins, joins-one}
use Rattle.residuals.specs.Observations.{adjugate_entry}
use Rattle.residuals.proofs.observations.observation_of.Goals as goal

pub returns : goal.returns
returns c =
    let a = c.args.a in let w = c.args.w in let d = c.requires.3 in let v = get_or c.args.v a (pos 0) in
    let above : stored c.entry-adjugate.result ≡ adjugate_entry w a = ap stored c.entry-adjugate.ensures ∙ back (adjugate_entry w a) (d.quotient a).small tt in
    let below : stored w.determinant ≡ w.determinant = back w.determinant (d.quotient a).size tt in
    let joined : stored c.joins_of-joins.result ≡ joins c.args.r = ap stored c.joins_of-joins.ensures ∙ back (joins c.args.r) (joins-one c.args.r) tt in
    record {
      residual-is = back v (c.requires.4.bound a) tt;
      variance-is = d.variance a ∙ rw (above, below);
      to_is = ap (λ (k : ℕ). k * 3 + a) c.to_of.ensures;
      from_is = ap (λ (k : ℕ). k * 3 + a) c.from_of.ensures;
      joins-is = joined;
      testable = record {
        small = kept v (c.requires.4.bound a) tt;
        quotient = rw (above, below) (d.quotient a);
        at-to = omega (arith, c.to_of.ensures, c.requires.0, c.requires.2);
        at_from = omega (arith, c.from_of.ensures, c.requires.0, c.requires.1);
        joined = rw joined (joins-one c.args.r);
      };
    }
