-- A query on blocks that hold a tree answers what the tree answers.
use Rattle.std.proofs.Common.{◌≡◌, ℕ, zero, suc, ◌+◌, ◌^◌, ◌<◌, ◌≤◌, List, length, Some, None, Option, refl, arith}
use Rattle.blocks.specs.Media.{most_blocks}
use Rattle.messages.specs.Algebra.{Algebra}
use Rattle.messages.specs.Lists.{find}
use Rattle.messages.specs.declared.message.Message.{Message}
use Rattle.messages.specs.declared.message.Message.TheVariants.{Put, Remove, Add}
use Rattle.plan.specs.Codes.{Code}
use Rattle.plan.specs.Images.{Image, Try, image_read}
use Rattle.plan.specs.Queries.{Answered, by_verdict, judged, seek}
use Rattle.tree.specs.Nodes.{Node, node, child, height}
use Rattle.tree.specs.Query.{Answer, settle, ask, query}
use Rattle.tree.specs.Shape.{AllSized, Tree}
use Rattle.tree.specs.Update.{grown}
use Rattle.tree.proofs.Grown.{held}
use Rattle.tree.proofs.Invariants.{tree}
use Rattle.tree.proofs.Plain.{Plain, all_plain}
use Rattle.bridge.specs.Laws.{Found, QueryBridge}
use Rattle.bridge.specs.Stored.{most_levels, RoundTrip, Stored}
use Rattle.bridge.specs.Work.{AllSound, Work}
use Rattle.bridge.proofs.Descent.{taking_child, taking_child_then}
use Rattle.bridge.proofs.Outcomes.{Ends, ends_with, when_accepted, never_stops}
use Rattle.bridge.proofs.Working.{no_work, read_more, same_work}

-- s is the answer y after n blocks read from the image d on
record Says (d : Image) (n : ℕ) (y : Answer) (s : Answered) : Type 0 where
  value_is : s.value ≡ y.value
  reads_are : s.reads ≡ n + y.reads
  work : Work d s.image (n + y.reads) 0 0

-- an answer at once
says_now : (d e : Image) (n : ℕ) (v : Option ℕ) → Work d e n 0 0 → Says d n (record { value = v; reads = 0 }) (record { image = e; value = v; reads = n })
says_now d e n v k = record { value_is = refl; reads_are = omega arith; work = same_work d e n (n + 0) 0 0 0 (omega arith) refl k }

-- what the message of a node says of the key
verdict_ends : (K : Algebra) (o : Option Message) (met : Option ℕ) (d e : Image) (n : ℕ) (f : Option ℕ → Try Answered) (g : Option ℕ → Answer) → Work d e n 0 0
    → ((met : Option ℕ) → Ends (AllSound d) (f met) (Says d n (g met))) → Ends (AllSound d) (by_verdict (judged K o met) e n f) (Says d n (settle K met o g))
verdict_ends K None met d e n f g k h = h met
verdict_ends K (Some (Put v)) met d e n f g k h = says_now d e n _ k
verdict_ends K (Some Remove) met d e n f g k h = says_now d e n _ k
verdict_ends K (Some (Add x)) met d e n f g k h = h _

module _ {F : Type 0} (C : Code F) (T : RoundTrip C) (a : List Node) (t : Tree a) (sized : AllSized a) (plain : (b : ℕ) → b < length a → Plain (node a b)) (d : Image)
    (inside : length a ≤ d.size) (numbers_fit : length a ≤ most_blocks) (k : ℕ) where
  abbrev K : Algebra
  K = C.algebra

  seek_ends : (l b : ℕ) → l ≤ most_levels → b < length a → (node a b).frame.level ≡ l → (node a b).frame.high ≤ 2 ^ 32 → (e : Image) → Stored C e a → (met : Option ℕ) (n : ℕ) → Work d e n 0 0
      → Ends (AllSound d) (seek C l e (length a) (node a b) k met n) (Says d n (ask K l a b k met))
  seek_ends zero b lev i level_is span e st met n w = says_now d e n _ w
  seek_ends (suc l) b lev i level_is span e st met n w =
      let c = child (node a b).frame k in
      let p = taking_child a t l b k i level_is in
      let more : (o : Option ℕ) → Ends (AllSound d) (seek C l (image_read e) (length a) (node a c) k o (n + 1)) (Says d (n + 1) (ask K l a c k o))
      = λ o. seek_ends l c (omega arith) p.inside p.level_is (omega (arith, p.under)) (image_read e) (record { in_blocks = st.in_blocks; words_fit = st.words_fit }) o (n + 1) (read_more d e n 0 0 w) in
      verdict_ends K (find k (node a b).messages) met d e n _ _ w (λ o.
      taking_child_then C T a t sized plain d inside numbers_fit l b k (omega arith) i level_is span e st n w (λ g. seek C l g.image (length a) g.child k o (n + 1)) _
      (ends_with (AllSound d) (seek C l (image_read e) (length a) (node a c) k o (n + 1)) _ _ (more o) (λ s y. record {
        value_is = y.value_is;
        reads_are = omega (arith, y.reads_are);
        work = same_work d s.image _ _ 0 0 0 (omega arith) refl y.work;
      })))

-- from the root on
found : {F : Type 0} (C : Code F) (d : Image) (a : List Node) (k : ℕ) (s : Answered) → Says d 0 (query C.algebra a k) s → Found C d a k s
found C d a k s y = record { value_is = y.value_is; reads_are = omega (arith, y.reads_are); work = same_work d s.image _ _ 0 0 0 (omega arith) refl y.work }

pub query_bridge : {F : Type 0} → QueryBridge F
query_bridge C T h ks d st on k =
    let K = C.algebra in
    let a = grown K h in
    let i = held K h ks in
    let t = tree K a h i.moves i.reached in
    let asked = seek C (height a) d (length a) (node a 0) k None 0 in
    let ends : Ends (AllSound d) asked (Found C d a k) = ends_with (AllSound d) asked (Says d 0 (query K a k)) (Found C d a k)
    (seek_ends C T a t i.sized (all_plain K a h i.moves i.reached) d on.blocks (omega (arith, on.blocks, on.size_fits)) k (height a) 0 on.levels t.has_root refl (omega (arith, t.root_to_end)) d st None 0 (no_work d 0))
    (found C d a k) in
    record {
      accepted = when_accepted (AllSound d) asked (Found C d a k) ends;
      never_stops = never_stops (AllSound d) asked (Found C d a k) ends;
    }
