-- A leaf has only records, an inner node none: every operation keeps it so.
use Rattle.std.proofs.Common.{◌≡◌, ℕ, zero, suc, ◌<◌, ◌≤◌, ◌≢◌, List, [], length, get_or, take, drop, sym, refl, ◌∙◌, subst, ⊎_elim, arith}
use Rattle.std.proofs.lemmas.Bool.{cases_eq, cases_lt}
use Rattle.messages.specs.Algebra.{Algebra}
use Rattle.messages.specs.Lists.{below, batch, rest}
use Rattle.messages.specs.declared.entry.Entry.{Entry}
use Rattle.messages.specs.declared.message.Message.{Message}
use Rattle.tree.specs.Nodes.{Node, node}
use Rattle.tree.specs.Operations.{absorb_messages, absorb_records, fresh, lower_half, lower_inner, upper_half, upper_inner}
use Rattle.tree.proofs.Reached.{Reached}
use Rattle.tree.proofs.Reached.Reached.{start, join, move, part, rise}
use Rattle.tree.proofs.Invariants.{tree, splits, root_halved, level_up}
use Rattle.tree.proofs.Move as mv
use Rattle.tree.proofs.Split as sp
use Rattle.tree.proofs.Cut as ct

pub record Plain (x : Node) : Type 0 where
  pub leaf : x.frame.level ≡ 0 → (x.messages ≡ []) × (x.frame.pivots ≡ []) × (x.frame.children ≡ [])
  pub inner : 0 < x.frame.level → x.records ≡ []

take_none : {X : Type 0} (n : ℕ) (xs : List X) → xs ≡ [] → take n xs ≡ []
take_none zero xs e = refl
take_none (suc n) xs e = rw e

drop_none : {X : Type 0} (n : ℕ) (xs : List X) → xs ≡ [] → drop n xs ≡ []
drop_none zero xs e = e
drop_none (suc n) xs e = rw e

rest_none : (q r : ℕ) (xs : List (Entry Message)) → xs ≡ [] → rest q r xs ≡ []
rest_none q r xs e = rw e

messages_kept : (K : Algebra) (l : ℕ) (xs bs : List (Entry Message)) → l ≡ 0 → absorb_messages K l xs bs ≡ xs
messages_kept K zero xs bs e = refl
messages_kept K (suc l) xs bs e = absurd (omega arith)

records_kept : (K : Algebra) (l : ℕ) (xs : List (Entry ℕ)) (bs : List (Entry Message)) → 0 < l → absorb_records K l xs bs ≡ xs
records_kept K zero xs bs e = absurd (omega arith)
records_kept K (suc l) xs bs e = refl

lower_inner_plain : (i : ℕ) (x : Node) → Plain x → Plain (lower_inner i x)
lower_inner_plain i x n = record {
  leaf = λ z. (take_none (below (get_or x.frame.pivots i 0) x.messages) x.messages (n.leaf z).0, take_none i x.frame.pivots (n.leaf z).1, take_none (suc i) x.frame.children (n.leaf z).2);
  inner = n.inner;
}

upper_inner_plain : (i : ℕ) (x : Node) → Plain x → Plain (upper_inner i x)
upper_inner_plain i x n = record {
  leaf = λ z. (drop_none (below (get_or x.frame.pivots i 0) x.messages) x.messages (n.leaf z).0, drop_none (suc i) x.frame.pivots (n.leaf z).1, drop_none (suc i) x.frame.children (n.leaf z).2);
  inner = n.inner;
}

lower_plain : (l : ℕ) (x : Node) → x.frame.level ≡ l → Plain x → Plain (lower_half l x)
lower_plain zero x e n = record { leaf = n.leaf; inner = λ z. absurd (omega arith) }
lower_plain (suc l) x e n = lower_inner_plain 3 x n

upper_plain : (l : ℕ) (x : Node) → x.frame.level ≡ l → Plain x → Plain (upper_half l x)
upper_plain zero x e n = record { leaf = n.leaf; inner = λ z. absurd (omega arith) }
upper_plain (suc l) x e n = upper_inner_plain 3 x n

AllPlain : List Node → Type 0
AllPlain a = (b : ℕ) → b < length a → Plain (node a b)

fresh_plain : AllPlain fresh
unfolding AllPlain
fresh_plain zero h = record { leaf = λ e. absurd (omega arith); inner = λ _. refl }
fresh_plain (suc zero) h = record { leaf = λ _. (refl, refl, refl); inner = λ e. absurd (omega arith) }
fresh_plain (suc (suc b)) h = absurd (omega arith)

pub all_plain : (K : Algebra) (a : List Node) (h : List (Entry Message)) (n : ℕ) → Reached K a h n → (b : ℕ) → b < length a → Plain (node a b)
unfolding AllPlain
all_plain K a h n start b lt = fresh_plain b lt
all_plain K a h n (join {a = d} {h = g} k m up r) b lt =
    let t = tree K d g n r in
    let old = all_plain K d g n r in
    ⊎_elim
    (λ e. subst (λ x. Plain (node a x)) (sym e) (rw (ct.join_at_root K d t k m up) (record { leaf = λ z. absurd (omega (arith, t.root_inner)); inner = (old 0 t.has_root).inner })))
    (λ (e : b ≢ 0). rw (ct.join_at_else K d t k m up b (omega arith)) (old b (omega (arith, ct.join_len K d t k m up))))
    (cases_eq b 0)
all_plain K a h n (move {a = d} {n = o} p j c m r) b lt =
    let t = tree K d h o r in
    let old = all_plain K d h o r in
    let (l, e) = level_up (node d p).frame.level m.inner in
    let x = node d p in
    let y = node d c in
    let q = y.frame.low in
    let s = y.frame.high in
    let bs = batch q s x.messages in
    let child = old c (mv.part K d t p j c l m e).inside in
    let parent = old p m.p_in in
    ⊎_elim
    (λ f. subst (λ x. Plain (node a x)) (sym f) (rw (mv.at_c K d t p j c l m e) (record {
      leaf = λ z. (messages_kept K y.frame.level y.messages bs z ∙ (child.leaf z).0, (child.leaf z).1, (child.leaf z).2);
      inner = λ z. records_kept K y.frame.level y.records bs z ∙ child.inner z;
    })))
    (λ (f : b ≢ c). ⊎_elim
    (λ g. subst (λ x. Plain (node a x)) (sym g) (rw (mv.at_p K d t p j c l m e) (record {
      leaf = λ z. (rest_none q s x.messages (parent.leaf z).0, (parent.leaf z).1, (parent.leaf z).2);
      inner = parent.inner;
    })))
    (λ (g : b ≢ p). rw (mv.at_else K d t p j c l m e b f g) (old b (omega (arith, mv.len K d t p j c l m e))))
    (cases_eq b p))
    (cases_eq b c)
all_plain K a h n (part {a = d} p j c u full r) b lt =
    let t = tree K d h n r in
    let old = all_plain K d h n r in
    let (l, e) = level_up (node d p).frame.level u.inner in
    let S = splits d t p j c u full in
    let child = old c (sp.part d t p j c _ l _ _ S e).inside in
    let parent = old p u.p_in in
    ⊎_elim
    (λ f. subst (λ x. Plain (node a x)) (sym f) (rw (sp.at_c d t p j c _ l _ _ S e) (lower_plain (node d c).frame.level (node d c) refl child)))
    (λ (f : b ≢ c). ⊎_elim
    (λ g. subst (λ x. Plain (node a x)) (sym g) (rw (sp.at_p d t p j c _ l _ _ S e) (record { leaf = λ z. absurd (omega (arith, u.inner)); inner = parent.inner })))
    (λ (g : b ≢ p). ⊎_elim
    (λ (i : b < length d). rw (sp.at_else d t p j c _ l _ _ S e b i f g) (old b i))
    (λ (i : length d ≤ b).
    let is : b ≡ length d = omega (arith, sp.len d t p j c _ l _ _ S e) in
    subst (λ x. Plain (node a x)) (sym is) (rw (sp.at_new d t p j c _ l _ _ S e) (upper_plain (node d c).frame.level (node d c) refl child)))
    (cases_lt b (length d)))
    (cases_eq b p))
    (cases_eq b c)
all_plain K a h n (rise {a = d} e8 r) b lt =
    let t = tree K d h n r in
    let old = all_plain K d h n r in
    let H = root_halved d t e8 in
    let root = old 0 t.has_root in
    ⊎_elim
    (λ e. subst (λ x. Plain (node a x)) (sym e) (rw (ct.at_root d t _ _ _ H) (record { leaf = λ z. absurd (omega arith); inner = λ _. refl })))
    (λ (e : b ≢ 0). ⊎_elim
    (λ (g : b < length d). rw (ct.at_old d t _ _ _ H b g (omega arith)) (old b g))
    (λ (g : length d ≤ b). ⊎_elim
    (λ w. subst (λ x. Plain (node a x)) (sym w) (rw (ct.at_y d t _ _ _ H) (lower_inner_plain 3 (node d 0) root)))
    (λ (w : b ≢ length d).
    let is : b ≡ suc (length d) = omega (arith, ct.len d t _ _ _ H) in
    subst (λ x. Plain (node a x)) (sym is) (rw (ct.at_z d t _ _ _ H) (upper_inner_plain 3 (node d 0) root)))
    (cases_eq b (length d)))
    (cases_lt b (length d)))
    (cases_eq b 0)
