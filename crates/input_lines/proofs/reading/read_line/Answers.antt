-- What the line asks is `read_command`'s answer; the numbers that it brought stand at the front of x or m (`corrections_brought`, `matrix_brought`), and the rest of the state is noted part by part. Assumes nothing.
use mathlib.Core.Path.{refl}
use Rattle.commands.specs.Brings.{corrections_brought, matrix_brought}
use Rattle.input_lines.specs.StateLaws.{asked_in, brought_given, brought_few}
use Rattle.input_lines.proofs.reading.read_line.Goals as goal

pub returns : goal.returns
returns c =
    let q = c.read_command-command in
    let w = c.note_words-words.ensures in
    let o = asked_in c.args.state.read c.is_unopened.ensures q.ensures in
    let x = corrections_brought _ _ _ _ _ _ _ _ o in
    let m = matrix_brought _ _ _ _ _ _ _ _ o in
    rw c.state_after-noted.ensures
    (record {
      command = o.asks;
      words = w.leaves;
      read = refl;
      lines = refl;
      phase = refl;
      corrections = brought_given x c.requires.list_room_in_bounds.1 c.args.state.corrections;
      matrix = brought_given m c.requires.list_room_in_bounds.2 c.args.state.matrix;
      few_words = w.few;
      few_corrections = brought_few x c.requires.list_room_in_bounds.1 c.args.state.corrections c.requires.words_le_list_room.1;
      few_matrix = brought_few m c.requires.list_room_in_bounds.2 c.args.state.matrix c.requires.words_le_list_room.2;
    })
