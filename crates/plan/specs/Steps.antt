-- An update on blocks of any content: what it reads, what it writes and in which order, and where it stops.
use Rattle.std.specs.Prelude.{ℕ, zero, suc, ◌+◌, ◌-◌, ◌%◌, ◌^◌, Bool, cond, ◌&&◌, ◌∷◌, map, length, Some, None, Option, ◌==◌, nat_lt, slice_index, slice_index_or}
use Rattle.std.specs.List.{range_with_len}
use Rattle.messages.specs.Lists.{pending, batch}
use Rattle.messages.specs.declared.message.Message.{Message}
use Rattle.tree.specs.Nodes.{Node}
use Rattle.tree.specs.Operations.{with_message, lower_inner, upper_inner, split_key, lower_half, upper_half, with_new_child, new_root, without_batch, absorb}
use Rattle.tree.specs.Update.{largest, is_full}
use Rattle.plan.specs.Codes.{Code, decoded}
use Rattle.plan.specs.Images.{Image, Try, bind, load, save}
use Rattle.plan.specs.Images.Try.{done, stop}
use Rattle.plan.specs.Reports.{node_report}
use Rattle.rules.specs.declared.rule.Rule.{Rule}

-- ---- the choice of the child
-- the block and the span of the child at place j
abbrev pub child_block : Node → ℕ → ℕ
child_block x j = slice_index x.frame.children j

abbrev pub child_low : Node → ℕ → ℕ
child_low x j = slice_index (x.frame.low ∷ x.frame.pivots) j

abbrev pub child_high : Node → ℕ → ℕ
child_high x j = slice_index_or x.frame.pivots j x.frame.high

-- how many messages are pending for the child at place j
abbrev pub pending_at : Node → ℕ → ℕ
pending_at x j = pending (child_low x j) (child_high x j) x.messages

-- the place of the child with most pending messages, the lowest at a tie
abbrev pub busiest : Node → ℕ
busiest x = largest (map (pending_at x) (range_with_len 0 (length x.frame.children)))

-- ---- reading a child
pub record Fetched : Type 0 where
  pub image : Image
  pub child : Node

abbrev pub unless_bad : {F : Type 0} → (F → Rule) → Option F → Image → ℕ → Node → Try Fetched
unless_bad rule None d n x = done (record { image = d; child = x })
unless_bad rule (Some fault) d n x = stop d (node_report n (rule fault))

-- block n is read where a node of level l with a span is expected
abbrev pub fetch : {F : Type 0} → Code F → Image → ℕ → ℕ → ℕ → ℕ → ℕ → Try Fetched
fetch C d next n l low high = bind (load d n) (λ e. unless_bad C.rule (C.fault l low high next (d.bytes n)) e n (decoded C l low high (d.bytes n)))

-- the child at place j of x is read
abbrev pub fetch_child : {F : Type 0} → Code F → Image → ℕ → Node → ℕ → Try Fetched
fetch_child C d next x j = fetch C d next (child_block x j) (x.frame.level - 1) (child_low x j) (child_high x j)

-- ---- the split
-- a step on its way: the image, the next free number, the tree writes, the parent, and the child with its block
pub record Step : Type 0 where
  pub image : Image
  pub next : ℕ
  pub writes : ℕ
  pub parent : Node
  pub child : Node
  pub block : ℕ

-- whether more messages of the parent p are pending for the upper half of c
abbrev pub upper_has_more : Node → Node → Bool
upper_has_more p c =
    let q = split_key c.frame.level c in nat_lt (pending c.frame.low q p.messages) (pending q c.frame.high p.messages)

-- the parent p once its child c at place j is split, the upper half in block n
abbrev pub parted_parent : Node → ℕ → Node → ℕ → Node
parted_parent p j c n = with_new_child j (split_key c.frame.level c) n p

-- a full child is split; the half with more pending goes on, the lower at a tie, and the other is written
abbrev pub split_if_full : {F : Type 0} → Code F → Image → ℕ → ℕ → Node → ℕ → Node → ℕ → Try Step
split_if_full C d next w p j c n =
    cond (is_full c)
    (cond (upper_has_more p c)
    (bind (save d n (C.encode (lower_half c.frame.level c))) (λ e.
    done (record { image = e; next = next + 1; writes = (w + 1) % 2 ^ 64; parent = parted_parent p j c next; child = upper_half c.frame.level c; block = next })))
    (bind (save d next (C.encode (upper_half c.frame.level c))) (λ e.
    done (record { image = e; next = next + 1; writes = (w + 1) % 2 ^ 64; parent = parted_parent p j c next; child = lower_half c.frame.level c; block = n }))))
    (done (record { image = d; next = next; writes = w; parent = p; child = c; block = n }))

-- ---- the move
-- the batch of smallest keys that is pending for the child moves down to it
abbrev pub carried : {F : Type 0} → Code F → Step → Step
carried C s = record {
  image = s.image;
  next = s.next;
  writes = s.writes;
  parent = without_batch s.child.frame.low s.child.frame.high s.parent;
  child = absorb C.algebra (batch s.child.frame.low s.child.frame.high s.parent.messages) s.child;
  block = s.block;
}

-- ---- a step from the node p
abbrev pub step : {F : Type 0} → Code F → Image → ℕ → ℕ → Node → Try Step
step C d next w p =
    bind (fetch_child C d next p (busiest p)) (λ g.
    bind (split_if_full C g.image next w p (busiest p) g.child (child_block p (busiest p))) (λ s. done (carried C s)))

-- ---- all steps from a current node below the root
pub record Sunk : Type 0 where
  pub image : Image
  pub next : ℕ
  pub writes : ℕ

-- the last current node is written
abbrev pub finish : {F : Type 0} → Code F → Image → ℕ → ℕ → ℕ → Node → Try Sunk
finish C d next w n x = bind (save d n (C.encode x)) (λ e. done (record { image = e; next = next; writes = (w + 1) % 2 ^ 64 }))

-- steps while the current node, of level l in block n, has more than 256 messages; each is written once its step is made
abbrev pub sink : {F : Type 0} → Code F → ℕ → Image → ℕ → ℕ → ℕ → Node → Try Sunk
sink C zero d next w n x = finish C d next w n x
sink C (suc l) d next w n x =
    cond (nat_lt 256 (length x.messages))
    (bind (step C d next w x) (λ s.
    bind (save s.image n (C.encode s.parent)) (λ e. sink C l e s.next ((s.writes + 1) % 2 ^ 64) s.block s.child)))
    (finish C d next w n x)

-- whether a step is due from a node
abbrev pub step_due : Node → Bool
step_due x = nat_lt 0 x.frame.level && nat_lt 256 (length x.messages)

-- ---- an update
pub record Settled : Type 0 where
  pub image : Image
  pub next : ℕ
  pub writes : ℕ
  pub root : Node

-- the steps from the root on; the root itself is not written
abbrev pub settle : {F : Type 0} → Code F → Image → ℕ → ℕ → Node → Try Settled
settle C d next w r =
    cond (nat_lt 256 (length r.messages))
    (bind (step C d next w r) (λ s.
    bind (sink C (r.frame.level - 1) s.image s.next s.writes s.block s.child) (λ z.
    done (record { image = z.image; next = z.next; writes = z.writes; root = s.parent }))))
    (done (record { image = d; next = next; writes = w; root = r }))

-- a root of 8 children is cut: its halves go to the next two free blocks, the lower first
abbrev pub cut_if_full : {F : Type 0} → Code F → Image → ℕ → ℕ → Node → Try Settled
cut_if_full C d next w r =
    cond (length r.frame.children == 8)
    (bind (save d next (C.encode (lower_inner 3 r))) (λ e.
    bind (save e (next + 1) (C.encode (upper_inner 3 r))) (λ f.
    done (record { image = f; next = next + 2; writes = ((w + 1) % 2 ^ 64 + 1) % 2 ^ 64; root = new_root (slice_index r.frame.pivots 3) next r }))))
    (done (record { image = d; next = next; writes = w; root = r }))

abbrev pub updated : {F : Type 0} → Code F → Image → ℕ → ℕ → Node → ℕ → Message → Try Settled
updated C d next w r k m =
    bind (cut_if_full C d next w r) (λ s. settle C s.image s.next s.writes (with_message C.algebra k m s.root))
