-- The refusals in their order, and then what was found. Assumes nothing.
use native.Mathlib.Omega.{arith}
use mathlib.Core.Path.{◌≡◌, sym, ap, ◌∙◌}
use mir.Syntax.{w64}
use mir.Facts.{to_z-of_z}
use Rattle.network.specs.Rules.{in_list}
use Rattle.files.specs.Force.{in_force}
use Rattle.dombrelat.proofs.Filings.{found_place, found-room, found-given}
use borrow.Author.Rules.{sfits_of}
use Rattle.dombrelat.proofs.filing.dombrelat_entry_in_force.Goals as goal

pub returns-then-not-is_place : goal.returns-then-not-is_place
returns-then-not-is_place c =
    let place_is : c.is_place.result ≡ in_list 256 c.args.place = c.is_place.ensures ∙ ap (in_list 256) (to_z-of_z {w = w64} c.ranges.place) in
    record {
      value = (found_place _ _ _ _ (sym place_is ∙ c.if-not-is_place.true)).0;
      found_after = (found_place _ _ _ _ (sym place_is ∙ c.if-not-is_place.true)).1;
    }

pub returns-then-found-lt-FOUND_BYTES : goal.returns-then-found-lt-FOUND_BYTES
returns-then-found-lt-FOUND_BYTES c =
    let place_is : c.is_place.result ≡ in_list 256 c.args.place = c.is_place.ensures ∙ ap (in_list 256) (to_z-of_z {w = w64} c.ranges.place) in
    record {
      value = (found-room _ _ _ _ (sym place_is ∙ c.if-not-is_place.false) c.if-found-lt-FOUND_BYTES.true).0;
      found_after = (found-room _ _ _ _ (sym place_is ∙ c.if-not-is_place.false) c.if-found-lt-FOUND_BYTES.true).1;
    }

pub returns : goal.returns
returns c =
    let place_is : c.is_place.result ≡ in_list 256 c.args.place = c.is_place.ensures ∙ ap (in_list 256) (to_z-of_z {w = w64} c.ranges.place) in
    let found = c.find-f.ensures ∙ ap (in_force c.args.night.now c.args.day.now) (to_z-of_z {w = w64} c.ranges.place) in
    record {
      value = (found-given _ _ _ _ (sym place_is ∙ c.if-not-is_place.false) (omega arith) found (to_z-of_z {w = w64} {z = c.give_found.result} (sfits_of c.give_found.type_inv) ∙ c.give_found.ensures.0, c.give_found.ensures.1)).0;
      found_after = (found-given _ _ _ _ (sym place_is ∙ c.if-not-is_place.false) (omega arith) found (to_z-of_z {w = w64} {z = c.give_found.result} (sfits_of c.give_found.type_inv) ∙ c.give_found.ensures.0, c.give_found.ensures.1)).1;
    }
