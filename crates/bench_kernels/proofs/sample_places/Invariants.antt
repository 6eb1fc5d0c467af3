-- `sample_places` stores the words of one record after those before it. The loop's invariant: the places passed are read back as the sample's. Assumes nothing.
use Rattle.network.specs.PlaceLaws.{Lent}
use Rattle.bench_kernels.specs.Sample.{sample_places}
use Rattle.bench_kernels.proofs.sample_places.Given as goal

abbrev pub invariant-loop-p : goal.invariant-loop-p
invariant-loop-p l = Lent sample_places l.p l.places
