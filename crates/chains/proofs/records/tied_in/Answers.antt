-- The search from the stations that are held or have a position finds what `tied_set` has (`found-same`); edges and these stations are what the calls gave, and the set of positions is what was asked.
use Rattle.chains.specs.ChainLaws.{ends_low, found-same}
use Rattle.chains.proofs.records.tied_in.Goals as goal

pub edges_in-e-requires : goal.edges_in-e-requires
edges_in-e-requires c = (c.requires.0, c.requires.1.ends)

pub with_stations_held-start-requires : goal.with_stations_held-start-requires
with_stations_held-start-requires c = (c.requires.1.few, c.requires.2)

pub search-requires : goal.search-requires
search-requires c = rw c.edges_in-e.ensures (ends_low c.args.net _ c.args.c c.requires.1)

pub returns : goal.returns
returns c =
    found-same c.args.net _ c.args.c c.requires.1 c.search.result
    (rw (c.edges_in-e.ensures, c.with_stations_held-start.ensures, c.requires.3) at c.search.ensures)
