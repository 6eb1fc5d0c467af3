-- Nothing is read, held or printed, and no book is opened: each part is as a run starts. Assumes nothing.
use mathlib.Core.Path.{refl}
use native.Mathlib.Omega.{arith}
use Rattle.input_lines.specs.States.{phase_of, given_of, opened_phase}
use Rattle.adjustment.proofs.chunks.begin.Goals as goal

pub returns : goal.returns
unfolding phase_of given_of
returns c =
    record {
      run = λ b list x m. refl;
      blank = λ line. refl;
      ready = λ bytes list x m o p q r. record { room_book = o; room_list = p; room_x = q; room-m = r; words = omega arith; corrections = omega arith; matrix = omega arith; read = omega arith; fits = λ h. cc };
      lines = refl;
      short = refl;
      silent = refl;
    }
