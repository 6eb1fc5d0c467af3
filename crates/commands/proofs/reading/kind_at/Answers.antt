-- By the letter, as `station_of_kind` goes through them. Assumes nothing.
use Rattle.std.proofs.Common.{ap, Option, arith}
use Rattle.std.specs.Option.{unwrap_or}
use Rattle.commands.specs.CommandLaws.{it_is, it_is_not, letter_some, letter_none}
use Rattle.commands.specs.declared.Command.{Command}
use Rattle.commands.specs.declared.Command.TheVariants.{Unreadable}
use Rattle.commands.specs.Commands.{letter_K, letter_F, letter_V, station_of_kind}
use Rattle.commands.proofs.reading.kind_at.Goals as goal

pub returns-in_err-letter_at : goal.returns-in_err-letter_at
unfolding station_of_kind
returns-in_err-letter_at c =
    let l = letter_none _ c.letter_at.ensures c.in_err-letter_at.was in
    rw (it_is_not l letter_K (λ e. omega arith), it_is_not l letter_F (λ e. omega arith), it_is_not l letter_V (λ e. omega arith))
    (ap (λ (o : Option Command). unwrap_or o Unreadable) c.from_residual.ensures)

pub returns-in-75 : goal.returns-in-75
unfolding station_of_kind
returns-in-75 c = let l = letter_some _ c.letter_at.ensures _ c.in_ok-letter_at.was in rw (it_is l letter_K c.in-75.is) c.station_with.ensures

pub returns-in-70 : goal.returns-in-70
unfolding station_of_kind
returns-in-70 c =
    let l = letter_some _ c.letter_at.ensures _ c.in_ok-letter_at.was in
    rw (it_is_not l letter_K (λ e. omega arith), it_is l letter_F c.in-70.is) c.station_with-in-70.ensures

pub returns-in-86 : goal.returns-in-86
unfolding station_of_kind
returns-in-86 c =
    let l = letter_some _ c.letter_at.ensures _ c.in_ok-letter_at.was in
    rw (it_is_not l letter_K (λ e. omega arith), it_is_not l letter_F (λ e. omega arith), it_is l letter_V c.in-86.is) c.station_with-in-86.ensures

pub returns-in_default : goal.returns-in_default
unfolding station_of_kind
returns-in_default c =
    let l = letter_some _ c.letter_at.ensures _ c.in_ok-letter_at.was in
    rw (it_is_not l letter_K (λ e. omega arith), it_is_not l letter_F (λ e. omega arith), it_is_not l letter_V (λ e. omega arith))
