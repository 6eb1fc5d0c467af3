-- Laws of the check distance on a lent pair: the words that are read give the answer of the whole slices, and how large the unknown of an answer is. Assumes nothing.
use Rattle.std.specs.Prelude.{ℕ, ◌*◌, ◌≤◌, ◌≡◌, Bool, false, cond, Ok, Err}
use Rattle.std.proofs.Math.Path.{refl, sym, ap}
use Rattle.std.proofs.Common.{◌∙◌, arith, ne_eqb}
use Rattle.std.proofs.Math.Bool.{true}
use mathlib.Core.List.{List, []}
use Rattle.network.specs.Stations.{unknown_count}
use Rattle.network.specs.Rules.{ends_fit}
use Rattle.network.specs.RuleLaws.{sound-stations}
use Rattle.network.specs.declared.Network.{Network}
use Rattle.acceptance.specs.Tests.{lengths_fit}
use Rattle.acceptance.specs.Judge.{answer_unknown, Answer}
use Rattle.acceptance.specs.declared.Refusal.TheVariants.{Lengths}
use Rattle.book.specs.declared.Book.{Book}
use Rattle.book.specs.Sound.{SoundParts}
use Rattle.checks.specs.Checks.{checked}
use Rattle.distances.specs.declared.CheckDistance.{CheckDistance}
use Rattle.distances.specs.declared.DistanceRefusal.TheVariants.{Ends, Range}
use Rattle.distances.specs.Distances.{DistanceAnswer, distance_in_range, agrees_at, on_pair, unless_refused, agreement, agreement_unknown}
use Rattle.lent_checks.specs.LentChecks.{all_words, sizes_fit, answer_most, checked_lent}
use Rattle.lent_checks.specs.LentDistances.{agreement_lent}
use Rattle.lent_checks.specs.CheckLaws.{lent-fit, lent_unfit, lent-small, test_1}

-- ════ the words that are read
-- no words at all fail test 1: a book has an unknown
empty_refused : (b : Book) → SoundParts b → Err Lengths ≡ checked b [] [] true
unfolding lengths_fit
empty_refused b o =
    let some : 1 ≤ unknown_count b.network.stations = (sound-stations b.network o.network).some in
    test_1 b [] [] true (rw (ne_eqb 0 (unknown_count b.network.stations) (λ z. omega arith)))

module _ (b : Book) (o : SoundParts b) (x m : List ℕ) (d : CheckDistance) where
  -- all of them, where the sizes fit
  pub read_all : sizes_fit x m ≡ true → agreement b (all_words x) (all_words m) d ≡ agreement_lent b x m d
  unfolding agreement agreement_lent
  read_all e = ap (λ (a : Answer). unless_refused b.network d (on_pair a (agrees_at b.network.stations (all_words x) d))) (lent-fit b x m true e)

  -- none, where they do not: test 1 refuses both
  refused-alike : (t u : Bool) → on_pair (Err Lengths) t ≡ on_pair (Err Lengths) u
  unfolding on_pair
  refused-alike t u = refl

  pub read_none : sizes_fit x m ≡ false → agreement b [] [] d ≡ agreement_lent b x m d
  unfolding agreement agreement_lent
  read_none e =
      let none : checked b [] [] true ≡ Err Lengths = sym (empty_refused b o) in
      let lent : Err Lengths ≡ checked_lent b x m true = lent_unfit b o x m true e in
      ap (λ (g : DistanceAnswer). unless_refused b.network d g)
      (ap (λ (a : Answer). on_pair a (agrees_at b.network.stations [] d)) none ∙ refused-alike _ _ ∙ ap (λ (a : Answer). on_pair a (agrees_at b.network.stations (all_words x) d)) lent)

-- ════ the unknown of an answer is that of the check's
pair-unknown : (a : Answer) (t : Bool) → agreement_unknown (on_pair a t) ≡ answer_unknown a
unfolding on_pair
pair-unknown (Ok u) true = refl
pair-unknown (Ok u) false = refl
pair-unknown (Err r) t = refl

refused-unknown : (net : Network) (d : CheckDistance) (next : DistanceAnswer) (k : ℕ) → 256 * agreement_unknown next ≤ k → 256 * agreement_unknown (unless_refused net d next) ≤ k
unfolding unless_refused
refused-unknown net d next k h = go (ends_fit net.count d.from d.to) (distance_in_range d)
  where
    go : (s t : Bool) → 256 * agreement_unknown (cond s (cond t next (Err Range)) (Err Ends)) ≤ k
    go true true = h
    go true false = omega arith
    go false t = omega arith

pub distance_small : (b : Book) → SoundParts b → (x m : List ℕ) (d : CheckDistance) → 256 * agreement_unknown (agreement_lent b x m d) ≤ answer_most
unfolding agreement_lent
distance_small b o x m d =
    let a = checked_lent b x m true in
    refused-unknown b.network d _ answer_most (let h = lent-small b o x m true in let e = pair-unknown a (agrees_at b.network.stations (all_words x) d) in omega arith)
