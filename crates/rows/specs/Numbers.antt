-- The bytes of a number and the number of bytes are inverse, at every width.
use Rattle.std.specs.Prelude.{◌≡◌, ℕ, zero, suc, ◌+◌, ◌*◌, ◌/◌, ◌%◌, ◌^◌, ◌<◌, ◌≤◌, List, [], ◌∷◌, length, refl}
use Rattle.std.proofs.Common.{sym, ap, ◌∙◌, mul-one, add-zero, zero-mul, zero-add, mul_assoc, add-mul, pow-suc, mod-eq_of_lt, arith}
use Rattle.std.proofs.Math.Nat.{mod-one, pow-succ', div-eq_of_lt-le}
use Rattle.std.proofs.Math.Arith.{mod-mul}
use Rattle.std.specs.Int.Digits.{number_from_digits_after}
use Rattle.std.proofs.lemmas.Nat.{mod-mul-add}
use Rattle.std.proofs.lemmas.Int.Digits.{number_after_lt}
use Rattle.rows.specs.Bytes.{Bytes, bytes_of, number_of}

pow_256 : (k : ℕ) → 0 < 256 ^ k
pow_256 zero = omega arith
pow_256 (suc k) = rw pow-suc (omega (arith, pow_256 k))

-- the bytes of n read on from a number m
number_after : (k n m : ℕ) → number_from_digits_after 256 m (bytes_of k n) ≡ m * 256 ^ k + n % 256 ^ k
number_after zero n m = rw (mul-one, mod-one, add-zero)
number_after (suc k) n m =
    let p = 256 ^ k in
    let q = n / p % 256 in
    let s : n % (256 * p) ≡ q * p + n % p = mod-mul n (omega arith) (pow_256 k) in
    number_after k n (m * 256 + q) ∙ rw pow-succ' (omega (arith, s, add-mul (m * 256) q p, mul_assoc m 256 p))

pub number_of_bytes : (k n : ℕ) → n < 256 ^ k → number_of (bytes_of k n) ≡ n
number_of_bytes k n h = number_after k n 0 ∙ rw (zero-mul, zero-add) (mod-eq_of_lt h)

after_low : (m : ℕ) (bs : List ℕ) → m * 256 ^ length bs ≤ number_from_digits_after 256 m bs
after_low m [] = omega arith
after_low m (b ∷ bs) =
    let p = 256 ^ length bs in
    rw pow-succ' (omega (arith, after_low (m * 256 + b) bs, add-mul (m * 256) b p, mul_assoc m 256 p))

bytes_after : (bs : List ℕ) (m : ℕ) → Bytes bs → bytes_of (length bs) (number_from_digits_after 256 m bs) ≡ bs
bytes_after [] m h = refl
bytes_after (b ∷ bs) m h =
    let c = m * 256 + b in
    let top : number_from_digits_after 256 c bs / 256 ^ length bs ≡ c = div-eq_of_lt-le (256 ^ length bs) (after_low c bs) (number_after_lt 256 c bs h.1) in
    (λ i. (ap (λ x. x % 256) top ∙ mod-mul-add m 256 b h.0) i ∷ bytes_after bs c h.1 i)

pub bytes_of_number : (k : ℕ) (bs : List ℕ) → length bs ≡ k → Bytes bs → bytes_of k (number_of bs) ≡ bs
bytes_of_number k bs e h = rw (sym e) (bytes_after bs 0 h)

pub length_bytes : (k n : ℕ) → length (bytes_of k n) ≡ k
length_bytes zero n = refl
length_bytes (suc k) n = ap suc (length_bytes k n)
