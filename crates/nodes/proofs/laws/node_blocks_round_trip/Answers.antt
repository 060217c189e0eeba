use Rattle.nodes.proofs.RoundTrips.{node_blocks_round_trip}
use Rattle.nodes.proofs.laws.node_blocks_round_trip.Goals as goal

pub returns : goal.returns
returns c = node_blocks_round_trip
