-- Stations and places are read once, and `judge_in` asks of them what the two reads gave.
use Rattle.layout.specs.CodecLaws.{fits-room}
use Rattle.checks.proofs.check_in.Goals as goal

pub network_in-net-requires : goal.network_in-net-requires
network_in-net-requires c = fits-room _ c.requires

pub places_in-places-requires : goal.places_in-places-requires
places_in-places-requires c = fits-room _ c.requires
