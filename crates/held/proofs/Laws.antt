-- The format of nodes meets what the laws of stored trees ask of it.
use Rattle.std.proofs.Common.{◌≡◌, ℕ, List, None, ap}
use Rattle.messages.specs.Algebra.{Algebra}
use Rattle.nodes.proofs.RoundTrips.{node_back}
use Rattle.node_ops.specs.CodeOf.{encode_of, fault_of, pivots_at, children_at, messages_at, records_at, code_of}
use Rattle.plan.specs.Codes.{decoded}
use Rattle.tree.specs.Nodes.{Node, node, next_free}
use Rattle.bridge.specs.Stored.{FitsBlock}
use Rattle.bridge.proofs.Update.{update_bridge}
use Rattle.bridge.proofs.Query.{query_bridge}
use Rattle.bridge.proofs.Page.{page_bridge}
use Rattle.held.specs.Laws.{place_of, NodesFit, NodesComeBack, StoreUpdates, StoreQueries, StorePages}
use Rattle.held.proofs.Fits.{node_fits}

module _ (K : Algebra) (a : List Node) (b : ℕ) (f : FitsBlock a b) where
  not_refused : fault_of K (node a b).frame.level (node a b).frame.low (node a b).frame.high (next_free a) (encode_of K (node a b)) ≡ None
  unfolding encode_of fault_of
  not_refused = (node_back (place_of K a b) (node a b) (node_fits a b f K)).0

  read_back : decoded (code_of K) (node a b).frame.level (node a b).frame.low (node a b).frame.high (encode_of K (node a b)) ≡ node a b
  unfolding encode_of pivots_at children_at messages_at records_at
  read_back = (node_back (place_of K a b) (node a b) (node_fits a b f K)).1

pub nodes_fit : NodesFit
nodes_fit K a b f = node_fits a b f K

pub nodes_come_back : NodesComeBack
nodes_come_back K = record { not_refused = not_refused K; read_back = read_back K }

pub store_updates : StoreUpdates
store_updates K = update_bridge (code_of K) (nodes_come_back K)

pub store_queries : StoreQueries
store_queries K = query_bridge (code_of K) (nodes_come_back K)

pub store_pages : StorePages
store_pages K = page_bridge (code_of K) (nodes_come_back K)
