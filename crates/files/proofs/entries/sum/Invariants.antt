-- `sum`: what is passed and what is left make the whole, modulo 2^64. Assumes nothing.
use Rattle.std.proofs.Common.{◌≡◌, ◌+◌, ◌%◌, ◌^◌, drop}
use Rattle.files.specs.Entries.{total}
use Rattle.files.proofs.entries.sum.Given as goal

abbrev pub invariant-loop-v : goal.invariant-loop-v
invariant-loop-v l = (l.s + total (drop l.v-index l.w)) % 2 ^ 64 ≡ total l.w % 2 ^ 64
