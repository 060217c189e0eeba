-- Reads and writes one after another.
use Rattle.std.proofs.Common.{◌≡◌, ℕ, ◌+◌, ◌<◌, ◌≤◌, false, eqb, ◌≢◌, List, refl, ap, ◌∙◌, subst₂, ⊎_elim, arith}
use Rattle.std.proofs.lemmas.Bool.{cases_eq, cond_both, cond-true, cond-false, eq-eqb, ne_eqb}
use Rattle.blocks.specs.declared.state.State.TheVariants.{Sound}
use Rattle.plan.specs.Codes.{Code}
use Rattle.plan.specs.Images.{Image, image_read, image_written}
use Rattle.tree.specs.Nodes.{Node}
use Rattle.bridge.specs.Work.{Work}

pub no_work : (d : Image) (n : ℕ) → Work d d 0 0 n
no_work d n = record {
  size_kept = refl;
  reads_rise = omega arith;
  writes_rise = omega arith;
  stays_sound = λ s. s;
  bytes_kept = λ b out. refl;
  states_kept = λ b out. refl;
}

-- the same counts, written otherwise
pub same_work : (d e : Image) (r r' w w' n : ℕ) → r ≡ r' → w ≡ w' → Work d e r w n → Work d e r' w' n
same_work d e r r' w w' n x y k = subst₂ (λ i j. Work d e i j n) x y k

-- one more read
pub read_more : (d e : Image) (r w n : ℕ) → Work d e r w n → Work d (image_read e) (r + 1) w n
read_more d e r w n k = record {
  size_kept = k.size_kept;
  reads_rise = omega (arith, k.reads_rise);
  writes_rise = k.writes_rise;
  stays_sound = k.stays_sound;
  bytes_kept = k.bytes_kept;
  states_kept = k.states_kept;
}

-- one more write, to a block from 1 on and below n
pub write_more : (d e : Image) (r w n : ℕ) → Work d e r w n → (b : ℕ) (bs : List ℕ) → 0 < b → b < n → Work d (image_written e b bs) r (w + 1) n
write_more d e r w n k b bs pos below =
    let other : (c : ℕ) → (0 < c → n ≤ c) → eqb c b ≡ false = λ c out. ne_eqb c b (λ z. omega (arith, out (omega arith))) in
    record {
      size_kept = k.size_kept;
      reads_rise = k.reads_rise;
      writes_rise = omega (arith, k.writes_rise);
      stays_sound = λ s c i. cond_both (eqb c b) Sound (e.state c) (λ x. x ≡ Sound) (λ _. refl) (λ _. k.stays_sound s c i);
      bytes_kept = λ c out. cond-false (eqb c b) bs (e.bytes c) (other c out) ∙ k.bytes_kept c out;
      states_kept = λ c out. cond-false (eqb c b) Sound (e.state c) (other c out) ∙ k.states_kept c out;
    }

-- the bytes of a block after a node was written to one
pub wrote : {F : Type 0} (C : Code F) (d : Image) (n b : ℕ) (x y : Node) → (b ≡ n → x ≡ y) → (b ≢ n → d.bytes b ≡ C.encode y) → (image_written d n (C.encode x)).bytes b ≡ C.encode y
wrote C d n b x y here else = ⊎_elim
    (λ (z : b ≡ n). cond-true (eqb b n) (C.encode x) (d.bytes b) (eq-eqb b n z) ∙ ap C.encode (here z))
    (λ (z : b ≢ n). cond-false (eqb b n) (C.encode x) (d.bytes b) (ne_eqb b n z) ∙ else z)
    (cases_eq b n)
