use Rattle.nodes.proofs.RoundTrips.{root_blocks_round_trip}
use Rattle.nodes.proofs.laws.root_blocks_round_trip.Goals as goal

pub returns : goal.returns
returns c = root_blocks_round_trip
