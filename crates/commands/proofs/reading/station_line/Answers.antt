-- Fields that are missing (`station-none`, `station-one`) or a number out of turn (`station_wrong`) make it unreadable; else its kind and coordinates are read from the next field on. Assumes nothing.
use Rattle.std.proofs.Common.{◌≡◌, suc, ap, ◌∙◌, Option, ℤ, pos, rules, w64, to_z-of_z}
use Rattle.std.specs.Option.{unwrap_or}
use Rattle.commands.specs.CommandLaws.{station-none, station-one, station_wrong, station-turn, turn-none, turn_is}
use Rattle.commands.specs.declared.Command.{Command}
use Rattle.commands.specs.declared.Command.TheVariants.{Unreadable}
use Rattle.words.specs.Signed.{eq_z}
use Rattle.commands.proofs.reading.station_line.Goals as goal

pub returns-then-line-letter_end : goal.returns-then-line-letter_end
returns-then-line-letter_end c = station-none _ _ c.field_end-letter_end.ensures _ c.if-line-letter_end.true

pub returns-then-line-end : goal.returns-then-line-end
returns-then-line-end c = station-one _ _ c.field_end-letter_end.ensures _ c.if-line-letter_end.false _ c.field_end-end.ensures c.if-line-end.true

pub returns-in_err-v : goal.returns-in_err-v
returns-in_err-v c =
    ap (λ (o : Option Command). unwrap_or o Unreadable) c.from_residual.ensures
    ∙ station_wrong _ _ c.field_end-letter_end.ensures _ c.if-line-letter_end.false _ c.field_end-end.ensures c.if-line-end.false _ c.number_of.ensures (turn-none _ _ c.in_err-v.was)

pub returns-else-in_turn : goal.returns-else-in_turn
returns-else-in_turn c =
    let turn : c.in_turn.result ≡ eq_z c.in_ok-v.v (pos (suc c.args.read)) =
    c.in_turn.ensures ∙ ap (λ (z : ℤ). eq_z z (pos (suc c.args.read))) (to_z-of_z {w = w64} {z = c.in_ok-v.v} (search rules)) in
    station_wrong _ _ c.field_end-letter_end.ensures _ c.if-line-letter_end.false _ c.field_end-end.ensures c.if-line-end.false _ c.number_of.ensures (turn_is _ _ _ _ c.in_ok-v.was turn ∙ c.if-in_turn.false)

pub returns-then-in_turn : goal.returns-then-in_turn
returns-then-in_turn c =
    let turn : c.in_turn.result ≡ eq_z c.in_ok-v.v (pos (suc c.args.read)) =
    c.in_turn.ensures ∙ ap (λ (z : ℤ). eq_z z (pos (suc c.args.read))) (to_z-of_z {w = w64} {z = c.in_ok-v.v} (search rules)) in
    c.kind_at.ensures
    ∙ station-turn _ _ c.field_end-letter_end.ensures _ c.if-line-letter_end.false _ c.field_end-end.ensures c.if-line-end.false _ c.number_of.ensures (turn_is _ _ _ _ c.in_ok-v.was turn ∙ c.if-in_turn.true)
