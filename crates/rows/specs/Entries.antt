-- Entries as rows: a key of 4 bytes, then a record's word of 8, or a message's number of 1 and word of 8.
use Rattle.std.specs.Prelude.{◌≡◌, ℕ, ◌^◌, ◌≤◌, Bool, true, false, cond, ◌&&◌, List, length, take, drop, ◌==◌, nat_le, nat_lt, refl}
use Rattle.std.proofs.Common.{sym, ap, subst, ◌∙◌, ⊎_elim, arith}
use Rattle.std.proofs.lemmas.Bool.{and_parts, eqb-true, leb-true, cases_eq}
use Rattle.messages.specs.declared.entry.Entry.{Entry}
use Rattle.messages.specs.declared.message.Message.{Message}
use Rattle.messages.specs.declared.message.Message.TheVariants.{Put, Remove, Add}
use Rattle.rows.specs.Bytes.{Bytes, number_of}
use Rattle.rows.specs.Coding.{Coding, number, pair, like}
pub use Rattle.rows.specs.Sorts.{message_number, known}

-- a key and then a value
abbrev pub entry_coding : {V : Type 0} → Coding V → Coding (Entry V)
entry_coding c = like (λ p. record { key = p.0; value = p.1 }) (λ e. (e.key, e.value)) (λ e. refl) (λ p. refl) (pair (number 4) c)

-- the value or delta of a message, 0 of a remove
abbrev pub message_word : Message → ℕ
message_word (Put v) = v
message_word Remove = 0
message_word (Add d) = d

-- the message that a number and a word say; an unknown number says a remove
abbrev pub message_of : ℕ → ℕ → Message
message_of n w = cond (n == 1) (Put w) (cond (n == 3) (Add w) Remove)

-- a remove's word is zero
abbrev pub exact : ℕ → ℕ → Bool
exact n w = cond (n == 2) (w == 0) true

-- a number of 1 byte and a word of 8
abbrev pub number_and_word : Coding (ℕ × ℕ)
number_and_word = pair (number 1) (number 8)

pub message_fits : (m : Message) → nat_lt (message_word m) (256 ^ 8) ≡ true → (nat_lt (message_number m) (256 ^ 1) && nat_lt (message_word m) (256 ^ 8)) ≡ true
message_fits (Put v) h = h
message_fits Remove h = h
message_fits (Add d) h = h

pub message_there : (m : Message) → message_of (message_number m) (message_word m) ≡ m
message_there (Put v) = refl
message_there Remove = refl
message_there (Add d) = refl

-- a known number and an exact word are those of the message that they say
pub message_back : (n w : ℕ) → (known n && exact n w) ≡ true → ◌≡◌ {A = ℕ × ℕ} (message_number (message_of n w), message_word (message_of n w)) (n, w)
message_back n w h =
    let p = and_parts (known n) (exact n w) h in
    let q = and_parts (nat_le 1 n) (nat_le n 3) p.0 in
    let low = leb-true 1 n q.0 in
    let high = leb-true n 3 q.1 in
    let Same : ℕ → Type 0 = λ m. ◌≡◌ {A = ℕ × ℕ} (message_number (message_of m w), message_word (message_of m w)) (m, w) in
    ⊎_elim (λ (e : n ≡ 1). subst Same (sym e) refl)
    (λ (a : n ≡ 1 → ⊥).
    ⊎_elim (λ (e : n ≡ 3). subst Same (sym e) refl)
    (λ (b : n ≡ 3 → ⊥).
    let e : n ≡ 2 = omega (arith, low, high, a, b) in
    let z : w ≡ 0 = eqb-true w 0 (subst (λ m. exact m w ≡ true) e p.1) in
    subst Same (sym e) (λ i. (2, sym z i)))
    (cases_eq n 3))
    (cases_eq n 1)

-- a word of 8 bytes always fits
pub word_fits : (n w : ℕ) → nat_lt w (256 ^ 8) ≡ true → nat_lt (message_word (message_of n w)) (256 ^ 8) ≡ true
word_fits n w h =
    elim (n == 1) as (λ b. nat_lt (message_word (cond b (Put w) (cond (n == 3) (Add w) Remove))) (256 ^ 8) ≡ true)
    [ true ↦ h | false ↦ elim (n == 3) as (λ b. nat_lt (message_word (cond b (Add w) Remove)) (256 ^ 8) ≡ true) [ true ↦ h | false ↦ refl ] ]

module _ (bs : List ℕ) where
  pub message_encode_decode : 9 ≤ length bs → Bytes bs → (known (number_of (take 1 bs)) && exact (number_of (take 1 bs)) (number_of (take 8 (drop 1 bs)))) ≡ true → number_and_word.encode (message_number (message_of (number_of (take 1 bs)) (number_of (take 8 (drop 1 bs)))), message_word (message_of (number_of (take 1 bs)) (number_of (take 8 (drop 1 bs))))) ≡ take 9 bs
  message_encode_decode h bytes v = ap number_and_word.encode (message_back (number_of (take 1 bs)) (number_of (take 8 (drop 1 bs))) v) ∙ number_and_word.encode_decode bs h bytes refl

  pub message_decode_fits : Bytes bs → nat_lt (message_word (message_of (number_of (take 1 bs)) (number_of (take 8 (drop 1 bs))))) (256 ^ 8) ≡ true
  message_decode_fits bytes =
      let n = number_of (take 1 bs) in
      let w = number_of (take 8 (drop 1 bs)) in
      word_fits n w (and_parts (nat_lt n (256 ^ 1)) (nat_lt w (256 ^ 8)) (number_and_word.decode_fits bs bytes)).1

-- a message: its number and its word
abbrev pub message_coding : Coding Message
message_coding = record {
  size = 9;
  encode = λ m. number_and_word.encode (message_number m, message_word m);
  decode = λ bs. message_of (number_of (take 1 bs)) (number_of (take 8 (drop 1 bs)));
  fits = λ m. nat_lt (message_word m) (256 ^ 8);
  valid = λ bs. known (number_of (take 1 bs)) && exact (number_of (take 1 bs)) (number_of (take 8 (drop 1 bs)));
  encode_size = λ m. refl;
  decode_encode = λ m more h. ap (λ p. message_of p.0 p.1) (number_and_word.decode_encode (message_number m, message_word m) more (message_fits m h)) ∙ message_there m;
  encode_decode = message_encode_decode;
  decode_fits = message_decode_fits;
}

-- a leaf's record: 12 bytes
abbrev pub record_coding : Coding (Entry ℕ)
record_coding = entry_coding (number 8)

-- an inner node's message with its key: 13 bytes
abbrev pub message_entry_coding : Coding (Entry Message)
message_entry_coding = entry_coding message_coding
