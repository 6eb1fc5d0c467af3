-- By the letter, as `entry_of` goes through them. Assumes nothing.
use Rattle.std.proofs.Common.{arith}
use Rattle.commands.specs.CommandLaws.{it_is, it_is_not, letter_some, letter_none}
use Rattle.commands.specs.Commands.{letter_H, letter_B, letter_P, entry_of}
use Rattle.commands.proofs.reading.entry_at.Goals as goal

pub returns-in_err-letter_at : goal.returns-in_err-letter_at
unfolding entry_of
returns-in_err-letter_at c =
    let l = letter_none _ c.letter_at.ensures c.in_err-letter_at.was in
    rw (it_is_not l letter_H (λ e. omega arith), it_is_not l letter_B (λ e. omega arith), it_is_not l letter_P (λ e. omega arith)) c.from_residual.ensures

pub returns-in-72 : goal.returns-in-72
unfolding entry_of
returns-in-72 c = let l = letter_some _ c.letter_at.ensures _ c.in_ok-letter_at.was in rw (it_is l letter_H c.in-72.is) c.level_entry.ensures

pub returns-in-66 : goal.returns-in-66
unfolding entry_of
returns-in-66 c =
    let l = letter_some _ c.letter_at.ensures _ c.in_ok-letter_at.was in
    rw (it_is_not l letter_H (λ e. omega arith), it_is l letter_B c.in-66.is) c.baseline_line.ensures

pub returns-in-80 : goal.returns-in-80
unfolding entry_of
returns-in-80 c =
    let l = letter_some _ c.letter_at.ensures _ c.in_ok-letter_at.was in
    rw (it_is_not l letter_H (λ e. omega arith), it_is_not l letter_B (λ e. omega arith), it_is l letter_P c.in-80.is) c.position_line.ensures

pub returns-in_default : goal.returns-in_default
unfolding entry_of
returns-in_default c =
    let l = letter_some _ c.letter_at.ensures _ c.in_ok-letter_at.was in
    rw (it_is_not l letter_H (λ e. omega arith), it_is_not l letter_B (λ e. omega arith), it_is_not l letter_P (λ e. omega arith))
