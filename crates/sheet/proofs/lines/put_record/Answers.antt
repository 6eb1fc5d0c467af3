-- By how many components the record observes: none, one or three; the line is stored by `put_line`. Assumes nothing.
use native.Mathlib.Omega.{arith}
use mathlib.Core.Path.{◌≡◌, sym, ap, ◌∙◌}
use lib.ListN.{length}
use Rattle.lists.specs.Pasted.{pasted, pasted-none}
use Rattle.network.specs.Records.{observations, is_empty}
use Rattle.sheet.specs.Sheet.{line_length}
use Rattle.sheet.specs.Lines.{seven_words, three_words, line_of, three-observed}
use Rattle.sheet.proofs.lines.put_record.Goals as goal

pub returns-in-0 : goal.returns-in-0
unfolding line_length is_empty line_of
returns-in-0 c =
    let e = sym c.observations_of.ensures ∙ c.in-0.is in
    rw e (omega arith, sym (pasted-none c.args.sheet.now c.args.at))

pub put_line-requires : goal.put_line-requires
unfolding three_words line_length is_empty
put_line-requires c =
    let short : (observations c.args.r ≡ 1) × (line_length c.args.r ≡ 3) = let e = sym c.observations_of.ensures ∙ c.in-1.is in (e, rw e) in
    omega (arith, c.requires.0, short.1, ap length c.three_words.ensures)

pub returns-in-1 : goal.returns-in-1
unfolding line_of three_words line_length is_empty
returns-in-1 c =
    let short : (observations c.args.r ≡ 1) × (line_length c.args.r ≡ 3) = let e = sym c.observations_of.ensures ∙ c.in-1.is in (e, rw e) in
    let l = c.put_line in let e = short in
    (omega (arith, l.ensures.0, e.1, ap length c.three_words.ensures), rw e.0 (l.ensures.1 ∙ ap (pasted c.args.sheet.now c.args.at) c.three_words.ensures))

pub put_line-requires-in_default : goal.put_line-requires-in_default
unfolding seven_words line_length is_empty
put_line-requires-in_default c =
    let whole : (observations c.args.r ≡ 3) × (line_length c.args.r ≡ 7) = let e = three-observed c.args.r (λ z. let h = c.observations_of.ensures ∙ z in omega arith) (λ z. let h = c.observations_of.ensures ∙ z in omega arith) in
    (e, rw e) in
    omega (arith, c.requires.0, whole.1, ap length c.seven_words.ensures)

pub returns-in_default : goal.returns-in_default
unfolding line_of seven_words line_length is_empty
returns-in_default c =
    let whole : (observations c.args.r ≡ 3) × (line_length c.args.r ≡ 7) = let e = three-observed c.args.r (λ z. let h = c.observations_of.ensures ∙ z in omega arith) (λ z. let h = c.observations_of.ensures ∙ z in omega arith) in
    (e, rw e) in
    let l = c.put_line-in_default in let e = whole in
    (omega (arith, l.ensures.0, e.1, ap length c.seven_words.ensures), rw e.0 (l.ensures.1 ∙ ap (pasted c.args.sheet.now c.args.at) c.seven_words.ensures))
