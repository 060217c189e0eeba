-- An update on blocks that hold a tree gives blocks that hold the updated tree.
use Rattle.std.proofs.Common.{◌≡◌, ℕ, zero, suc, ◌+◌, ◌%◌, ◌^◌, ◌<◌, ◌≤◌, Bool, true, false, cond, eqb, ◌≢◌, List, ◌∷◌, length, get_or, sym, refl, ap, ◌∙◌, subst, ⊎_elim, arith}
use Rattle.std.proofs.lemmas.Bool.{cases_eq, eqb-true}
use Rattle.messages.specs.Algebra.{Algebra}
use Rattle.messages.specs.Lists.{entry}
use Rattle.messages.specs.declared.entry.Entry.{Entry}
use Rattle.messages.specs.declared.message.Message.{Message}
use Rattle.plan.specs.Codes.{Code}
use Rattle.plan.specs.Images.{Image, bind, save, image_written}
use Rattle.plan.specs.Images.Try.{done}
use Rattle.plan.specs.Steps.{Settled, settle, cut_if_full, updated}
use Rattle.tree.specs.Laws.{Keys}
use Rattle.tree.specs.Nodes.{Node, node, height, next_free}
use Rattle.tree.specs.Operations.{cut_root, fresh, joined, lower_inner, new_root, upper_inner, with_message}
use Rattle.tree.specs.Shape.{Tree}
use Rattle.tree.specs.Update.{grown, raised, update}
use Rattle.tree.proofs.Costs.{costs}
use Rattle.tree.proofs.Cut as ct
use Rattle.tree.proofs.Grown.{held}
use Rattle.tree.proofs.Invariants.{root_halved, tree}
use Rattle.tree.proofs.Reached.{Halved}
use Rattle.tree.proofs.Update as up
use Rattle.bridge.specs.Laws.{OnDevice, Room, Updated, UpdateBridge, FreshBridge}
use Rattle.bridge.specs.Stored.{WordFits, WordsFit, RoundTrip, Stored}
use Rattle.bridge.specs.Work.{AllSound, Work}
use Rattle.bridge.proofs.Outcomes.{Ends, ends_with, bind_ends, save_then, when_accepted, never_stops}
use Rattle.bridge.proofs.Sink.{Came, length_steps, settle_ends}
use Rattle.bridge.proofs.Words.{lower_inner_fits, upper_inner_fits, with_message_fits}
use Rattle.bridge.proofs.Working.{no_work, same_work, write_more, wrote}

-- ---- the root is cut
module _ {F : Type 0} (C : Code F) (a : List Node) (t : Tree a) (d : Image) (n : ℕ) (inside : n ≤ d.size) (st : Stored C d a) (u : ℕ) where
  module _ (e8 : length (node a 0).frame.children ≡ 8) where
    abbrev Y : Node
    Y = lower_inner 3 (node a 0)

    abbrev Z : Node
    Z = upper_inner 3 (node a 0)

    H : Halved a (get_or (node a 0).frame.pivots 3 0) (node a 0) Y Z
    H = root_halved a t e8

    length_is : length (cut_root a) ≡ length a + 2
    length_is = ct.len a t _ _ _ H

    at_z : node (cut_root a) (length a + 1) ≡ Z
    at_z = let z : length a + 1 ≡ suc (length a) = omega arith in ap (node (cut_root a)) z ∙ ct.at_z a t _ _ _ H

    old : (b : ℕ) → b < length (cut_root a) → b ≢ length a + 1 → b ≢ length a → b < length a
    old b i p q = omega (arith, length_is)

    words_cut : (b : ℕ) → b < length (cut_root a) → WordsFit (node (cut_root a) b)
    words_cut b i = ⊎_elim
        (λ z. subst (λ x. WordsFit (node (cut_root a) x)) (sym z) (subst WordsFit (sym (ct.at_root a t _ _ _ H)) (record { messages_fit = tt; records_fit = tt })))
        (λ (o : b ≢ 0). ⊎_elim
        (λ (z : b ≡ length a). subst (λ x. WordsFit (node (cut_root a) x)) (sym z) (subst WordsFit (sym (ct.at_y a t _ _ _ H)) (lower_inner_fits 3 (node a 0) (st.words_fit 0 t.has_root))))
        (λ (q : b ≢ length a). ⊎_elim
        (λ (z : b ≡ length a + 1). subst (λ x. WordsFit (node (cut_root a) x)) (sym z) (subst WordsFit (sym at_z) (upper_inner_fits 3 (node a 0) (st.words_fit 0 t.has_root))))
        (λ (p : b ≢ length a + 1). subst WordsFit (sym (ct.at_old a t _ _ _ H b (old b i p q) (omega arith))) (st.words_fit b (old b i p q)))
        (cases_eq b (length a + 1)))
        (cases_eq b (length a)))
        (cases_eq b 0)

    abbrev root_over : Image → Settled
    root_over f = record { image = f; next = length a + 2; writes = ((u + 1) % 2 ^ 64 + 1) % 2 ^ 64; root = new_root (get_or (node a 0).frame.pivots 3 0) (length a) (node a 0) }

    cut_ends : length (cut_root a) ≤ n
        → Ends (AllSound d) (bind (save d (length a) (C.encode Y)) (λ e. bind (save e (length a + 1) (C.encode Z)) (λ f. done (root_over f))))
        (Came C d (u + 2) 0 2 n (height (cut_root a)) (cut_root a))
    cut_ends room =
        let e = image_written d (length a) (C.encode Y) in
        let k : Work d e 0 1 n = write_more d d 0 0 n (no_work d n) (length a) (C.encode Y) t.has_root (omega (arith, length_is)) in
        save_then (AllSound d) d (length a) (omega (arith, length_is)) (λ s. s (length a) (omega (arith, length_is))) (C.encode Y) _ (Came C d (u + 2) 0 2 n (height (cut_root a)) (cut_root a))
        (save_then (AllSound d) e (length a + 1) (omega (arith, length_is)) (λ s. k.stays_sound s (length a + 1) (omega (arith, length_is))) (C.encode Z) (λ f. done (root_over f)) (Came C d (u + 2) 0 2 n (height (cut_root a)) (cut_root a)) (record {
          height_is = refl;
          next_is = sym length_is;
          writes_are = omega arith;
          root_is = sym (ct.at_root a t _ _ _ H);
          stored = record {
            in_blocks = λ b i pos. wrote C e (length a + 1) b Z (node (cut_root a) b)
                (λ z. sym at_z ∙ ap (node (cut_root a)) (sym z))
                (λ (p : b ≢ length a + 1). wrote C d (length a) b Y (node (cut_root a) b)
                (λ z. sym (ct.at_y a t _ _ _ H) ∙ ap (node (cut_root a)) (sym z))
                (λ (q : b ≢ length a). st.in_blocks b (old b i p q) pos ∙ ap C.encode (sym (ct.at_old a t _ _ _ H b (old b i p q) pos))));
            words_fit = words_cut;
          };
          work = write_more d e 0 1 n k (length a + 1) (C.encode Z) (omega arith) (omega (arith, length_is));
        }))

  raise_ends : u < 2 ^ 64 → length (raised a) ≤ n → let w : ℕ = cond (eqb (length (node a 0).frame.children) 8) 2 0 in
      Ends (AllSound d) (cut_if_full C d (length a) u (node a 0)) (Came C d (u + w) 0 w n (height (raised a)) (raised a))
  raise_ends small room = go (eqb (length (node a 0).frame.children) 8) refl room
    where
      go : (b : Bool) → eqb (length (node a 0).frame.children) 8 ≡ b → length (cond b (cut_root a) a) ≤ n
          → Ends (AllSound d) (cond b
          (bind (save d (length a) (C.encode (lower_inner 3 (node a 0)))) (λ e. bind (save e (length a + 1) (C.encode (upper_inner 3 (node a 0)))) (λ f.
          done (record { image = f; next = length a + 2; writes = ((u + 1) % 2 ^ 64 + 1) % 2 ^ 64; root = new_root (get_or (node a 0).frame.pivots 3 0) (length a) (node a 0) }))))
          (done (record { image = d; next = length a; writes = u; root = node a 0 })))
          (Came C d (u + cond b 2 0) 0 (cond b 2 0) n (height (cond b (cut_root a) a)) (cond b (cut_root a) a))
      go true f room = cut_ends (eqb-true _ _ f) room
      go false f room = record { height_is = refl; next_is = refl; writes_are = omega arith; root_is = refl; stored = st; work = no_work d n }

-- ---- a message joins the root
module _ {F : Type 0} (C : Code F) (a : List Node) (t : Tree a) (k : ℕ) (m : Message) (key_fits : k < 2 ^ 32) (word_fits : WordFits m) (e : Image) (st : Stored C e a) where
  joined_stored : Stored C e (joined C.algebra k m a)
  joined_stored =
      let len = ct.join_len C.algebra a t k m key_fits in
      record {
        in_blocks = λ b i pos. st.in_blocks b (omega arith) pos ∙ ap C.encode (sym (ct.join_at_else C.algebra a t k m key_fits b pos));
        words_fit = λ b i. ⊎_elim
            (λ z. subst (λ x. WordsFit (node (joined C.algebra k m a) x)) (sym z)
            (subst WordsFit (sym (ct.join_at_root C.algebra a t k m key_fits)) (with_message_fits C.algebra k m (node a 0) word_fits (st.words_fit 0 t.has_root))))
            (λ (o : b ≢ 0). subst WordsFit (sym (ct.join_at_else C.algebra a t k m key_fits b (omega arith))) (st.words_fit b (omega arith)))
            (cases_eq b 0);
      }

-- ---- the whole update
module _ {F : Type 0} (C : Code F) (T : RoundTrip C) (h : List (Entry Message)) (ks : Keys h) (d : Image) (u : ℕ) (st : Stored C d (grown C.algebra h)) (on : OnDevice d (grown C.algebra h)) (small : u < 2 ^ 64)
    (room : Room d (grown C.algebra h)) (k : ℕ) (m : Message) (key_fits : k < 2 ^ 32) (word_fits : WordFits m) where
  abbrev K : Algebra
  K = C.algebra

  abbrev a : List Node
  a = grown K h

  abbrev b : List Node
  b = raised a

  t : Tree a
  t = tree K a h (held K h ks).moves (held K h ks).reached

  tb : Tree b
  tb = tree K b h (held K h ks).moves (up.raised_ok K h (held K h ks).moves a (held K h ks).reached (held K h ks).sized).0

  abbrev n : ℕ
  n = next_free (update K k m a)

  n_inside : n ≤ d.size
  n_inside = omega (arith, (costs K h ks k m key_fits).blocks_at_most, room.free_blocks)

  raised_inside : length b ≤ n
  raised_inside = omega (arith, length_steps K (height b) (joined K k m b) 0, ct.join_len K b tb k m key_fits)

  abbrev cut_writes : ℕ
  cut_writes = cond (eqb (length (node a 0).frame.children) 8) 2 0

  settled : (s : Settled) → Came C d (u + cut_writes) 0 cut_writes n (height b) b s
      → Ends (AllSound d) (settle C s.image s.next s.writes (with_message K k m s.root)) (Updated C d u a k m)
  settled s c =
      let j = joined K k m b in
      let at_root : with_message K k m s.root ≡ node j 0 = ap (with_message K k m) c.root_is ∙ sym (ct.join_at_root K b tb k m key_fits) in
      let next : s.next ≡ length j = c.next_is ∙ sym (ct.join_len K b tb k m key_fits) in
      let g = up.starts K a h (held K h ks).moves k m key_fits (held K h ks).reached (held K h ks).sized in
      let span : (node j 0).frame.high ≤ 2 ^ 32 = omega (arith, ap (λ (x : Node). x.frame.high) (ct.join_at_root K b tb k m key_fits), tb.root_to_end) in
      let all = settle_ends C T d n n_inside (omega (arith, n_inside, on.size_fits)) (entry k m ∷ h) (height b) tb.root_inner room.free_level j g span (omega arith) s.image s.writes 0 cut_writes
      (omega (arith, c.writes_are)) (joined_stored C b tb k m key_fits word_fits s.image c.stored) c.work in
      subst (λ x. Ends (AllSound d) x (Updated C d u a k m)) (λ i. settle C s.image (sym next i) s.writes (sym at_root i))
      (ends_with (AllSound d) (settle C s.image (length j) s.writes (node j 0)) _ (Updated C d u a k m) all (λ z o. record {
        root_is = o.root_is;
        next_is = o.next_is;
        tree_writes_rise = omega (arith, o.writes_are, c.writes_are);
        stored = o.stored;
        on_device = record {
          blocks = omega (arith, n_inside, o.work.size_kept);
          size_fits = omega (arith, on.size_fits, o.work.size_kept);
          levels = omega (arith, o.height_is, room.free_level);
        };
        work = same_work d z.image _ _ _ _ n (omega arith) refl o.work;
      }))

  update_ends : Ends (AllSound d) (updated C d (length a) u (node a 0) k m) (Updated C d u a k m)
  update_ends =
      bind_ends (AllSound d) (cut_if_full C d (length a) u (node a 0)) (λ s. settle C s.image s.next s.writes (with_message K k m s.root)) (Came C d (u + cut_writes) 0 cut_writes n (height b) b) (Updated C d u a k m)
      (raise_ends C a t d n n_inside st u small raised_inside) settled

-- ---- the fresh tree
fresh_fits : (b : ℕ) → b < length fresh → WordsFit (node fresh b)
fresh_fits zero i = record { messages_fit = tt; records_fit = tt }
fresh_fits (suc zero) i = record { messages_fit = tt; records_fit = tt }
fresh_fits (suc (suc b)) i = absurd (omega arith)

pub fresh_bridge : {F : Type 0} → FreshBridge F
fresh_bridge C d e = record {
  in_blocks = λ b i pos. let one : b ≡ 1 = omega arith in ap d.bytes one ∙ e ∙ ap (λ x. C.encode (node fresh x)) (sym one);
  words_fit = fresh_fits;
}

-- ---- the laws
pub update_bridge : {F : Type 0} → UpdateBridge F
update_bridge C T h ks d u st on small room k m key_fits word_fits =
    let a = grown C.algebra h in
    let ends = update_ends C T h ks d u st on small room k m key_fits word_fits in
    record {
      accepted = when_accepted (AllSound d) (updated C d (length a) u (node a 0) k m) (Updated C d u a k m) ends;
      never_stops = never_stops (AllSound d) (updated C d (length a) u (node a 0) k m) (Updated C d u a k m) ends;
    }
