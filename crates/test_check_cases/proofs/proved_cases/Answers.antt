-- Each number below 14 is that of a case. Assumes nothing.
use Rattle.std.proofs.Common.{arith}
use Rattle.cases.specs.Script.{table-length}
use Rattle.test_check_cases.proofs.proved_cases.Goals as goal

pub show_case-requires : goal.show_case-requires
show_case-requires c = omega (arith, table-length)
