-- What comes of something tried, whether it is accepted or stops.
use Rattle.std.proofs.Common.{◌≡◌, ℕ, ◌<◌, cond, ltb, List, Some, None, Option, sym, refl, ap, ◌∙◌, subst, arith}
use Rattle.std.proofs.lemmas.Bool.{cond-true, lt-ltb}
use Rattle.blocks.specs.Media.{state_read, state_write}
use Rattle.blocks.specs.Refusals.{refusal_number}
use Rattle.blocks.specs.declared.refusal.Refusal.TheVariants.{NoSuchBlock}
use Rattle.blocks.specs.declared.state.State.TheVariants.{Sound}
use Rattle.plan.specs.Codes.{Code, decoded}
use Rattle.plan.specs.Images.{Image, Try, bind, unless_refused, load, save, image_read, image_written}
use Rattle.plan.specs.Images.Try.{done, stop}
use Rattle.plan.specs.Steps.{Fetched, fetch, unless_bad}
use Rattle.plan.specs.Reports.{Report}
use Rattle.tree.specs.Nodes.{Node}

-- Q holds of what t gives, and t stops only where S fails
abbrev pub Ends : {A : Type 0} → Type 0 → Try A → (A → Type 0) → Type 0
Ends S (done a) Q = Q a
Ends S (stop d y) Q = S → ⊥

done_is : {A : Type 0} (x y : A) → done x ≡ done y → x ≡ y
done_is x y e = cc

stop_done : {A : Type 0} (d : Image) (z : Report) (y : A) → stop d z ≡ done y → ⊥
stop_done d z y e = let o : ◌≡◌ {A = ℕ} 0 1 = cc in omega arith

pub when_accepted : {A : Type 0} (S : Type 0) (t : Try A) (Q : A → Type 0) → Ends S t Q → (a : A) → t ≡ done a → Q a
when_accepted S (done x) Q h a e = subst Q (done_is x a e) h
when_accepted S (stop d y) Q h a e = absurd (stop_done d y a e)

pub never_stops : {A : Type 0} (S : Type 0) (t : Try A) (Q : A → Type 0) → Ends S t Q → S → (a : A) × (t ≡ done a)
never_stops S (done a) Q h s = (a, refl)
never_stops S (stop d y) Q h s = absurd (h s)

pub ends_with : {A : Type 0} (S : Type 0) (t : Try A) (Q R : A → Type 0) → Ends S t Q → ((a : A) → Q a → R a) → Ends S t R
ends_with S (done a) Q R h g = g a h
ends_with S (stop d y) Q R h g = h

pub bind_ends : {A B : Type 0} (S : Type 0) (t : Try A) (f : A → Try B) (Q : A → Type 0) (R : B → Type 0) → Ends S t Q → ((a : A) → Q a → Ends S (f a) R) → Ends S (bind t f) R
bind_ends S (done a) f Q R h g = g a h
bind_ends S (stop d y) f Q R h g = h

unless_ends : (S : Type 0) (o : Option ℕ) (d : Image) (n : ℕ) (e : Image) (Q : Image → Type 0) → (S → o ≡ None) → Q e → Ends S (unless_refused o d n e) Q
unless_ends S None d n e Q h q = q
unless_ends S (Some x) d n e Q h q = λ s. (let f = h s in let o : ◌≡◌ {A = ℕ} 0 1 = cc in omega arith)

module _ (S : Type 0) (d : Image) (n : ℕ) (inside : n < d.size) (sound : S → d.state n ≡ Sound) where
  load_ends : (Q : Image → Type 0) → Q (image_read d) → Ends S (load d n) Q
  load_ends Q q =
      unless_ends S (cond (ltb n d.size) (state_read (d.state n)) (Some (refusal_number NoSuchBlock))) d n (image_read d) Q
      (λ s. cond-true (ltb n d.size) _ _ (lt-ltb n d.size inside) ∙ ap state_read (sound s)) q

  save_ends : (b : List ℕ) (Q : Image → Type 0) → Q (image_written d n b) → Ends S (save d n b) Q
  save_ends b Q q =
      unless_ends S (cond (ltb n d.size) (state_write (d.state n)) (Some (refusal_number NoSuchBlock))) d n (image_written d n b) Q
      (λ s. cond-true (ltb n d.size) _ _ (lt-ltb n d.size inside) ∙ ap state_write (sound s)) q

  -- a write, and what follows it
  pub save_then : {B : Type 0} (b : List ℕ) (f : Image → Try B) (R : B → Type 0) → Ends S (f (image_written d n b)) R → Ends S (bind (save d n b) f) R
  save_then b f R h =
      bind_ends S (save d n b) f (λ e. image_written d n b ≡ e) R (save_ends b (λ e. image_written d n b ≡ e) refl) (λ e is. subst (λ e. Ends S (f e) R) is h)

  -- a block that is not refused where a node is expected
  fetch_ends : {F : Type 0} (C : Code F) (next l low high : ℕ) (x : Node) (Q : Fetched → Type 0) → C.fault l low high next (d.bytes n) ≡ None → decoded C l low high (d.bytes n) ≡ x
      → Q (record { image = image_read d; child = x }) → Ends S (fetch C d next n l low high) Q
  fetch_ends C next l low high x Q fine same q =
      bind_ends S (load d n) (λ e. unless_bad C.rule (C.fault l low high next (d.bytes n)) e n (decoded C l low high (d.bytes n))) (λ e. image_read d ≡ e) Q (load_ends (λ e. image_read d ≡ e) refl)
      (λ e is. subst (λ o. Ends S (unless_bad C.rule o e n (decoded C l low high (d.bytes n))) Q) (sym fine)
      (subst Q (λ i. record { image = is i; child = sym same i }) q))

  -- such a read, and what follows it
  pub fetch_then : {B : Type 0} {F : Type 0} (C : Code F) (next l low high : ℕ) (x : Node) (f : Fetched → Try B) (R : B → Type 0)
      → C.fault l low high next (d.bytes n) ≡ None → decoded C l low high (d.bytes n) ≡ x
      → Ends S (f (record { image = image_read d; child = x })) R → Ends S (bind (fetch C d next n l low high) f) R
  fetch_then C next l low high x f R fine same h =
      let got : Fetched = record { image = image_read d; child = x } in
      bind_ends S (fetch C d next n l low high) f (λ g. got ≡ g) R (fetch_ends C next l low high x (λ g. got ≡ g) fine same refl) (λ g is. subst (λ g. Ends S (f g) R) is h)
