-- A block written into a row of bytes changes that block and nothing else.
use Rattle.std.proofs.Common.{◌≡◌, ℕ, ◌+◌, ◌-◌, ◌*◌, ◌%◌, ◌^◌, ◌<◌, ◌≤◌, cond, eqb, ltb, List, length, get_or, take, drop, set, sym, refl, ap, ◌∙◌, ⊎_elim, arith, get_or-set_other, get_or-set_same}
use mathlib.Core.Path.{fun_ext}
use borrow.Rule.Slice.PartMut.{put_mid}
use Rattle.std.proofs.lemmas.List.{length-append, length-take-le, length-drop, length-set, drop-take}
use Rattle.std.proofs.lemmas.Slice.{take-put_mid_below, drop-put_mid, between-put_mid}
use Rattle.std.proofs.lemmas.Bool.{cases_order, cond-true, cond-false, eq-eqb, ne_eqb, lt-ltb}
use Rattle.blocks.specs.declared.state.State.{State}
use Rattle.blocks.specs.declared.state.State.TheVariants.{Sound, Lost}
use Rattle.blocks.specs.Media.{block_bytes, change, was_written}
use Rattle.blocks.specs.Memory.{memory, whole_blocks, block_of, left_over, memory_state}
use Rattle.blocks.specs.Faulty.{faulty, faulty_size, faulty_state}

-- a change is a function's new value at one place
pub change_is : {X : Type 0} (f g : ℕ → X) (n : ℕ) (x : X) → g n ≡ x → ((k : ℕ) → (k ≡ n → ⊥) → g k ≡ f k) → g ≡ change f n x
change_is f g n x here there =
    let other : (k : ℕ) → (k ≡ n → ⊥) → g k ≡ change f n x k = λ k apart. there k apart ∙ sym (cond-false (eqb k n) x (f k) (ne_eqb k n apart)) in
    fun_ext (λ k. ⊎_elim
    (λ same. ap g same ∙ here ∙ sym (cond-true (eqb k n) x (f k) (eq-eqb k n same)))
    (⊎_elim (λ (less : k < n). other k (λ e. omega arith)) (λ (more : n < k). other k (λ e. omega arith)))
    (cases_order k n))

-- one value written over itself changes nothing
pub change_same : {X : Type 0} (f : ℕ → X) (n : ℕ) (x : X) → f n ≡ x → f ≡ change f n x
change_same f n x here = change_is f f n x here (λ k other. refl)

module _ (xs ys : List ℕ) (n : ℕ) (fits : block_bytes * n + block_bytes ≤ length xs) (whole : length ys ≡ block_bytes) where
  pub put_length : length (put_mid (block_bytes * n) block_bytes xs ys) ≡ length xs
  put_length = simp (length-append, length-drop) (omega (arith, length-take-le (4096 * n) xs (omega arith)))

  put_here : block_of (put_mid (block_bytes * n) block_bytes xs ys) n ≡ ys
  put_here =
      let e : 4096 * n + 4096 - 4096 * n ≡ 4096 = omega arith in
      rw e at (between-put_mid (4096 * n) 4096 xs ys (4096 * n + 4096) (omega arith) (omega arith))

  put_there : (k : ℕ) → (k ≡ n → ⊥) → block_of (put_mid (block_bytes * n) block_bytes xs ys) k ≡ block_of xs k
  put_there k other = ⊎_elim
      (λ same. absurd (other same))
      (⊎_elim
      (λ (less : k < n). sym (drop-take (4096 * k) 4096 (put_mid (4096 * n) 4096 xs ys)) ∙ ap (drop (4096 * k)) (take-put_mid_below (4096 * n) 4096 xs ys (4096 * k + 4096) (omega arith) (omega arith)) ∙ drop-take (4096 * k) 4096 xs)
      (λ (more : n < k). ap (take 4096) (drop-put_mid (4096 * n) 4096 xs ys (4096 * k) (omega arith) (omega arith) whole)))
      (cases_order k n)

  pub put_blocks : block_of (put_mid (block_bytes * n) block_bytes xs ys) ≡ change (block_of xs) n ys
  put_blocks = change_is (block_of xs) (block_of (put_mid (4096 * n) 4096 xs ys)) n ys put_here put_there

-- the block numbers of a device lie inside its bytes
pub block_fits : (xs : List ℕ) (n : ℕ) → n < whole_blocks (length xs) → block_bytes * n + block_bytes ≤ length xs
block_fits xs n inside = omega arith

-- a write leaves the bytes past the last block
pub put_left_over : (xs ys : List ℕ) (n : ℕ) → n < whole_blocks (length xs) → length ys ≡ block_bytes → left_over (put_mid (block_bytes * n) block_bytes xs ys) ≡ left_over xs
put_left_over xs ys n inside whole =
    let long = put_length xs ys n (block_fits xs n inside) whole in
    ap (λ k. drop (4096 * whole_blocks k) (put_mid (4096 * n) 4096 xs ys)) long
    ∙ drop-put_mid (4096 * n) 4096 xs ys (4096 * whole_blocks (length xs)) (omega arith) (omega arith) whole

-- what a write to memory means
pub memory_written : (xs ys : List ℕ) (n a b r w : ℕ) → n < whole_blocks (length xs) → length ys ≡ block_bytes
    → memory (put_mid (block_bytes * n) block_bytes xs ys) b r ((w + 1) % 2 ^ 64) ≡ was_written (memory xs a r w) n ys b
memory_written xs ys n a b r w inside whole =
    let fits = block_fits xs n inside in
    let long = put_length xs ys n fits whole in
    let bytes = put_blocks xs ys n fits whole in
    let here : memory_state (whole_blocks (length xs)) n ≡ Sound = cond-true (ltb n (whole_blocks (length xs))) Sound Lost (lt-ltb n (whole_blocks (length xs)) inside) in
    let states = change_same (memory_state (whole_blocks (length xs))) n Sound here in
    λ i. record {
      size = whole_blocks (long i);
      bytes = bytes i;
      state = (ap (λ k. memory_state (whole_blocks k)) long ∙ states) i;
      allowance = b;
      reads = r;
      writes = (w + 1) % 2 ^ 64;
    }

-- a state set is that state's change
set_state : (states : List State) (size n : ℕ) (s : State) → n < size → n < length states → faulty_state size (set states n s) ≡ change (faulty_state size states) n s
set_state states size n s inside has = change_is (faulty_state size states) (faulty_state size (set states n s)) n s
    (cond-true (ltb n size) (get_or (set states n s) n Sound) Lost (lt-ltb n size inside) ∙ get_or-set_same states n s Sound has)
    (λ k other. ap (λ x. cond (ltb k size) x Lost) (get_or-set_other states n k s Sound other))

-- what a write to a device for trials means
pub faulty_written : (xs ys : List ℕ) (states : List State) (n a b r w : ℕ) → n < faulty_size xs states → length ys ≡ block_bytes
    → faulty (put_mid (block_bytes * n) block_bytes xs ys) (set states n Sound) b r ((w + 1) % 2 ^ 64) ≡ was_written (faulty xs states a r w) n ys b
faulty_written xs ys states n a b r w inside whole =
    let fits = block_fits xs n (omega arith) in
    let size : faulty_size (put_mid (block_bytes * n) block_bytes xs ys) (set states n Sound) ≡ faulty_size xs states = rw (put_length xs ys n fits whole, length-set states n Sound) refl in
    let bytes = put_blocks xs ys n fits whole in
    let state = ap (λ k. faulty_state k (set states n Sound)) size ∙ set_state states (faulty_size xs states) n Sound inside (omega arith) in
    λ i. record { size = size i; bytes = bytes i; state = state i; allowance = b; reads = r; writes = (w + 1) % 2 ^ 64 }
