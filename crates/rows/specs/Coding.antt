-- How values stand in rows of bytes of one size, and that each comes back from the other.
use Rattle.std.specs.Prelude.{◌≡◌, ℕ, ◌+◌, ◌^◌, ◌<◌, ◌≤◌, Bool, true, ◌&&◌, List, ◌++◌, length, take, drop, nat_lt}
use Rattle.std.proofs.Common.{sym, ap, ◌∙◌, append_assoc, lt_of_lt_of_le, arith, length-append, length-drop, take-add}
use Rattle.std.proofs.Math.Nat.{pow-le-pow_right}
use Rattle.std.proofs.lemmas.Int.Digits.{number_lt}
use Rattle.std.proofs.ByRecursion.{All-take, All-drop}
use Rattle.std.proofs.lemmas.List.{take_at, drop_at, length-take, length-take-le}
use Rattle.std.proofs.lemmas.Bool.{and_parts, and_from, ltb-true, lt-ltb}
use Rattle.rows.specs.Bytes.{Bytes, bytes_of, number_of}
use Rattle.rows.specs.Numbers.{number_of_bytes, bytes_of_number, length_bytes}

pub record Coding (X : Type 0) : Type 0 where
  -- the bytes of a row
  pub size : ℕ
  pub encode : X → List ℕ
  -- what the row at the front of some bytes says, whatever it holds
  pub decode : List ℕ → X
  -- the values that a row has room for
  pub fits : X → Bool
  -- the row at the front is the encoding of a value
  pub valid : List ℕ → Bool
  pub encode_size : (x : X) → length (encode x) ≡ size
  pub decode_encode : (x : X) (more : List ℕ) → fits x ≡ true → decode (encode x ++ more) ≡ x
  pub encode_decode : (bs : List ℕ) → size ≤ length bs → Bytes bs → valid bs ≡ true → encode (decode bs) ≡ take size bs
  pub decode_fits : (bs : List ℕ) → Bytes bs → fits (decode bs) ≡ true

module _ (k : ℕ) where
  pub number_back : (n : ℕ) (more : List ℕ) → nat_lt n (256 ^ k) ≡ true → number_of (take k (bytes_of k n ++ more)) ≡ n
  number_back n more h = ap number_of (take_at (bytes_of k n) more k (length_bytes k n)) ∙ number_of_bytes k n (ltb-true n (256 ^ k) h)

  pub bytes_back : (bs : List ℕ) → k ≤ length bs → Bytes bs → bytes_of k (number_of (take k bs)) ≡ take k bs
  bytes_back bs h bytes = bytes_of_number k (take k bs) (length-take-le k bs h) (All-take (λ b. b < 256) k bs bytes)

  pub number_fits : (bs : List ℕ) → Bytes bs → nat_lt (number_of (take k bs)) (256 ^ k) ≡ true
  number_fits bs bytes = lt-ltb (number_of (take k bs)) (256 ^ k) (lt_of_lt_of_le (number_lt 256 (take k bs) (All-take (λ b. b < 256) k bs bytes)) (pow-le-pow_right (omega arith) (rw length-take (omega arith))))

-- a number of k bytes
abbrev pub number : ℕ → Coding ℕ
number k = record {
  size = k;
  encode = bytes_of k;
  decode = λ bs. number_of (take k bs);
  fits = λ n. nat_lt n (256 ^ k);
  valid = λ bs. true;
  encode_size = length_bytes k;
  decode_encode = number_back k;
  encode_decode = λ bs h bytes v. bytes_back k bs h bytes;
  decode_fits = number_fits k;
}

module _ {A B : Type 0} (a : Coding A) (b : Coding B) where
  pub pair_back : (x : A × B) (more : List ℕ) → (a.fits x.0 && b.fits x.1) ≡ true → (a.decode ((a.encode x.0 ++ b.encode x.1) ++ more), b.decode (drop a.size ((a.encode x.0 ++ b.encode x.1) ++ more))) ≡ x
  pair_back x more h =
      let p = and_parts (a.fits x.0) (b.fits x.1) h in
      let front = a.encode x.0 in
      let rest = b.encode x.1 in
      let all = append_assoc front rest more in
      let left = ap (drop a.size) all ∙ drop_at front (rest ++ more) a.size (a.encode_size x.0) in
      (λ i. ((ap a.decode all ∙ a.decode_encode x.0 (rest ++ more) p.0) i, (ap b.decode left ∙ b.decode_encode x.1 more p.1) i))

  pub pair_forth : (bs : List ℕ) → a.size + b.size ≤ length bs → Bytes bs → (a.valid bs && b.valid (drop a.size bs)) ≡ true → a.encode (a.decode bs) ++ b.encode (b.decode (drop a.size bs)) ≡ take (a.size + b.size) bs
  pair_forth bs h bytes v =
      let p = and_parts (a.valid bs) (b.valid (drop a.size bs)) v in
      let front = a.encode_decode bs (omega arith) bytes p.0 in
      let left : b.size ≤ length (drop a.size bs) = rw length-drop (omega arith) in
      let rest = b.encode_decode (drop a.size bs) left (All-drop (λ x. x < 256) a.size bs bytes) p.1 in
      (λ i. front i ++ rest i) ∙ sym (take-add a.size b.size bs)

  pub pair_fits : (bs : List ℕ) → Bytes bs → (a.fits (a.decode bs) && b.fits (b.decode (drop a.size bs))) ≡ true
  pair_fits bs bytes = and_from _ _ (a.decode_fits bs bytes) (b.decode_fits (drop a.size bs) (All-drop (λ x. x < 256) a.size bs bytes))

-- one value and then another
abbrev pub pair : {A B : Type 0} → Coding A → Coding B → Coding (A × B)
pair a b = record {
  size = a.size + b.size;
  encode = λ x. a.encode x.0 ++ b.encode x.1;
  decode = λ bs. (a.decode bs, b.decode (drop a.size bs));
  fits = λ x. a.fits x.0 && b.fits x.1;
  valid = λ bs. a.valid bs && b.valid (drop a.size bs);
  encode_size = λ x. length-append (a.encode x.0) (b.encode x.1) ∙ (λ i. a.encode_size x.0 i + b.encode_size x.1 i);
  decode_encode = pair_back a b;
  encode_decode = pair_forth a b;
  decode_fits = pair_fits a b;
}

-- values of another type that say the same
abbrev pub like : {A B : Type 0} (to : A → B) (from : B → A) → ((x : B) → to (from x) ≡ x) → ((x : A) → from (to x) ≡ x) → Coding A → Coding B
like to from there back a = record {
  size = a.size;
  encode = λ x. a.encode (from x);
  decode = λ bs. to (a.decode bs);
  fits = λ x. a.fits (from x);
  valid = a.valid;
  encode_size = λ x. a.encode_size (from x);
  decode_encode = λ x more h. ap to (a.decode_encode (from x) more h) ∙ there x;
  encode_decode = λ bs h bytes v. ap a.encode (back (a.decode bs)) ∙ a.encode_decode bs h bytes v;
  decode_fits = λ bs bytes. ap a.fits (back (a.decode bs)) ∙ a.decode_fits bs bytes;
}
