-- The sum of a range of quantities is exact: amounts are too small for it to pass the ends of a word.
use Rattle.std.proofs.Common.{◌≡◌, ℕ, suc, ◌+◌, ◌-◌, ◌*◌, ◌%◌, ◌^◌, ◌<◌, ◌≤◌, cond, eqb, ltb, ◌≢◌, List, [], ◌∷◌, length, pos, ◌+ℤ◌, nat_abs, Some, None, Option, sym, refl, ap, ◌∙◌, subst, ⊎_elim, arith}
use Rattle.std.proofs.lemmas.Int.{ints}
use Rattle.std.proofs.lemmas.Bool.{cases_eq, cases_lt, eq-eqb, ne_eqb, lt-ltb, le-ltb, cond_both}
use Rattle.std.proofs.lemmas.Bool.Decides.{nat_tests}
use Rattle.messages.specs.Lists.{Within, find}
use Rattle.messages.specs.Messages.{effect}
use Rattle.messages.specs.Quantity.{quantity_algebra}
use Rattle.messages.specs.Words.{signed}
use Rattle.messages.specs.declared.entry.Entry.{Entry}
use Rattle.messages.specs.declared.message.Message.{Message}
use Rattle.messages.specs.declared.message.Message.TheVariants.{Put, Remove, Add}
use Rattle.tree.specs.Laws.{Amount, Amounts, meaning, numbered, number_said, sum_of_words, sum_of_numbers}
use Rattle.tree.specs.Lookup.{said}
use Rattle.tree.proofs.Lengths.{cases_bool}

-- a word read as signed is its up less its down
abbrev up : ℕ → ℕ
up w = cond (ltb w (2 ^ 63)) w 0

abbrev down : ℕ → ℕ
down w = cond (ltb w (2 ^ 63)) 0 (2 ^ 64 - w)

signed_parts : (w : ℕ) → w < 2 ^ 64 → signed w +ℤ pos (down w) ≡ pos (up w)
signed_parts w h = ⊎_elim
    (λ (g : w < 2 ^ 63). rw (lt-ltb w (2 ^ 63) g) (omega (arith, ints)))
    (λ (g : 2 ^ 63 ≤ w). rw (le-ltb w (2 ^ 63) g) (omega (arith, ints)))
    (cases_lt w (2 ^ 63))

size_parts : (w : ℕ) → w < 2 ^ 64 → nat_abs (signed w) ≡ up w + down w
size_parts w h = ⊎_elim
    (λ (g : w < 2 ^ 63). rw (lt-ltb w (2 ^ 63) g) (omega arith))
    (λ (g : 2 ^ 63 ≤ w). rw (le-ltb w (2 ^ 63) g) (omega arith))
    (cases_lt w (2 ^ 63))

abbrev sum_by : (ℕ → ℕ) → List (Entry ℕ) → ℕ
sum_by f [] = 0
sum_by f (x ∷ xs) = f x.value + sum_by f xs

-- ---- sizes
-- the size of what a key holds
abbrev size : Option ℕ → ℕ
size None = 0
size (Some w) = up w + down w

abbrev Word : Option ℕ → Type 0
Word None = Unit {0}
Word (Some w) = w < 2 ^ 64

abbrev sizes : List (Entry Message) → List (Entry ℕ) → ℕ
sizes h [] = 0
sizes h (x ∷ xs) = size (said quantity_algebra x.key h) + sizes h xs

add_size : (w d m : ℕ) → w < 2 ^ 64 → d < 2 ^ 64 → up d + down d ≤ m → up ((w + d) % 2 ^ 64) + down ((w + d) % 2 ^ 64) ≤ up w + down w + m
add_size w d m hw hd h = grind (arith, nat_tests)

effect_size : (m : ℕ) (g : Message) (o : Option ℕ) → Amount m g → Word o → (size (effect quantity_algebra g o) ≤ size o + m) × Word (effect quantity_algebra g o)
effect_size m (Put v) o b w = (omega (arith, b.1, size_parts v b.0), b.0)
effect_size m Remove o b w = (omega arith, tt)
effect_size m (Add d) None b w = (add_size 0 d m (omega arith) b.0 (omega (arith, b.1, size_parts d b.0)), omega arith)
effect_size m (Add d) (Some v) b w = (add_size v d m w b.0 (omega (arith, b.1, size_parts d b.0)), omega arith)

said_word : (m k : ℕ) (h : List (Entry Message)) → Amounts m h → Word (said quantity_algebra k h)
said_word m k [] b = tt
said_word m k (x ∷ h) b =
    let i = said_word m k h b.1 in
    cond_both (eqb x.key k) _ _ Word (λ _. (effect_size m x.value (said quantity_algebra k h) b.0 i).1) (λ _. i)

-- one message more changes one key at most
sizes_else : (x : Entry Message) (h : List (Entry Message)) (low high : ℕ) (xs : List (Entry ℕ)) → Within low high xs → x.key < low → sizes (x ∷ h) xs ≡ sizes h xs
sizes_else x h low high [] w g = refl
sizes_else x h low high (y ∷ xs) w g =
    let e = sizes_else x h (suc y.key) high xs w.2 (omega arith) in
    rw (ne_eqb x.key y.key (omega arith)) (ap (λ n. size (said quantity_algebra y.key h) + n) e)

sizes_more : (m : ℕ) (x : Entry Message) (h : List (Entry Message)) (low high : ℕ) (xs : List (Entry ℕ)) → Amount m x.value → Amounts m h → Within low high xs
    → sizes (x ∷ h) xs ≤ sizes h xs + m
sizes_more m x h low high [] b c w = omega arith
sizes_more m x h low high (y ∷ xs) b c w = ⊎_elim
    (λ (e : x.key ≡ y.key).
    let s = effect_size m x.value (said quantity_algebra y.key h) b (said_word m y.key h c) in
    let r = sizes_else x h (suc y.key) high xs w.2 (omega arith) in
    rw (eq-eqb x.key y.key e) (omega (arith, s.0)))
    (λ (e : x.key ≢ y.key).
    let i = sizes_more m x h (suc y.key) high xs b c w.2 in
    rw (ne_eqb x.key y.key e) (omega arith))
    (cases_eq x.key y.key)

sizes_none : (m : ℕ) (xs : List (Entry ℕ)) → sizes [] xs ≤ m * 0
sizes_none m [] = omega arith
sizes_none m (x ∷ xs) = omega (arith, sizes_none m xs)

sizes_all : (m : ℕ) (h : List (Entry Message)) (low high : ℕ) (xs : List (Entry ℕ)) → Amounts m h → Within low high xs → sizes h xs ≤ m * length h
sizes_all m [] low high xs b w = sizes_none m xs
sizes_all m (x ∷ h) low high xs b w =
    let i = sizes_all m h low high xs b.1 w in
    omega (arith, sizes_more m x h low high xs b.0 b.1 w)

-- ---- entries that hold what messages say
abbrev Holds : List (Entry Message) → ℕ → ℕ → List (Entry ℕ) → Type 0
Holds h low high xs = (k : ℕ) → low ≤ k → k < high → find k xs ≡ said quantity_algebra k h

first_holds : (h : List (Entry Message)) (low high : ℕ) (x : Entry ℕ) (xs : List (Entry ℕ)) → Within low high (x ∷ xs) → Holds h low high (x ∷ xs)
    → Some x.value ≡ said quantity_algebra x.key h
first_holds h low high x xs w f = sym (rw (le-ltb x.key x.key (omega arith), eq-eqb x.key x.key refl) refl) ∙ f x.key w.0 w.1

rest_holds : (h : List (Entry Message)) (low high : ℕ) (x : Entry ℕ) (xs : List (Entry ℕ)) → Within low high (x ∷ xs) → Holds h low high (x ∷ xs) → Holds h (suc x.key) high xs
rest_holds h low high x xs w f k g u = sym (rw (lt-ltb x.key k (omega arith)) refl) ∙ f k (omega (arith, w.0)) u

sizes_are : (h : List (Entry Message)) (low high : ℕ) (xs : List (Entry ℕ)) → Within low high xs → Holds h low high xs → sum_by up xs + sum_by down xs ≡ sizes h xs
sizes_are h low high [] w f = refl
sizes_are h low high (x ∷ xs) w f =
    let i = sizes_are h (suc x.key) high xs w.2 (rest_holds h low high x xs w f) in
    omega (arith, ap size (first_holds h low high x xs w f))

carry : (w : ℕ) → w < 2 ^ 64 → w + down w ≡ up w + cond (ltb w (2 ^ 63)) 0 1 * 2 ^ 64
carry w h = grind (arith, nat_tests)

-- the words and the numbers that they mean, by their parts
pub record Parts (xs : List (Entry ℕ)) : Type 0 where
  pub carried : ℕ
  pub of_words : sum_of_words xs + sum_by down xs ≡ sum_by up xs + carried * 2 ^ 64
  pub of_numbers : sum_of_numbers xs +ℤ pos (sum_by down xs) ≡ pos (sum_by up xs)

parts : (m : ℕ) (h : List (Entry Message)) (low high : ℕ) (xs : List (Entry ℕ)) → Amounts m h → Within low high xs → Holds h low high xs → Parts xs
parts m h low high [] b w f = record { carried = 0; of_words = refl; of_numbers = refl }
parts m h low high (x ∷ xs) b w f =
    let word : x.value < 2 ^ 64 = subst Word (sym (first_holds h low high x xs w f)) (said_word m x.key h b) in
    let i = parts m h (suc x.key) high xs b w.2 (rest_holds h low high x xs w f) in
    record {
      carried = i.carried + cond (ltb x.value (2 ^ 63)) 0 1;
      of_words = (let s = carry x.value word in omega (arith, i.of_words));
      of_numbers = (let s = signed_parts x.value word in omega (arith, ints, s, i.of_numbers));
    }

-- a sum of words whose parts are small, read as signed
sum_parts : (s p d c : ℕ) → s + d ≡ p + c * 2 ^ 64 → p + d < 2 ^ 63 → signed (s % 2 ^ 64) +ℤ pos d ≡ pos p
sum_parts s p d c e small = ⊎_elim
    (λ (g : p < d).
    let r : s % 2 ^ 64 ≡ 2 ^ 64 - (d - p) = omega arith in
    rw r (rw (le-ltb (2 ^ 64 - (d - p)) (2 ^ 63) (omega arith)) (omega (arith, ints))))
    (λ (g : d ≤ p).
    let r : s % 2 ^ 64 ≡ p - d = omega arith in
    rw r (rw (lt-ltb (p - d) (2 ^ 63) (omega arith)) (omega (arith, ints))))
    (cases_lt p d)

pub exact_sum : (m : ℕ) (h : List (Entry Message)) (low high : ℕ) (xs : List (Entry ℕ)) → Amounts m h → m * length h < 2 ^ 63 → Within low high xs → Holds h low high xs
    → signed (sum_of_words xs % 2 ^ 64) ≡ sum_of_numbers xs
exact_sum m h low high xs b small w f =
    let i = parts m h low high xs b w f in
    let s = sum_parts (sum_of_words xs) (sum_by up xs) (sum_by down xs) i.carried i.of_words
    (omega (arith, sizes_are h low high xs w f, sizes_all m h low high xs b w)) in
    omega (arith, ints, s, i.of_numbers)

-- ---- one key
said_size : (m k : ℕ) (h : List (Entry Message)) → Amounts m h → size (said quantity_algebra k h) ≤ m * length h
said_size m k [] b = omega arith
said_size m k (x ∷ h) b =
    let i = said_size m k h b.1 in
    cond_both (eqb x.key k) _ _ (λ o. size o ≤ m * suc (length h))
    (λ _. omega (arith, (effect_size m x.value (said quantity_algebra k h) b.0 (said_word m k h b.1)).0))
    (λ _. omega arith)

-- a sum of two words of small numbers does not wrap
signed_add : (v d : ℕ) → v < 2 ^ 64 → d < 2 ^ 64 → up v + down v + (up d + down d) < 2 ^ 63 → signed ((v + d) % 2 ^ 64) ≡ signed v +ℤ signed d
signed_add v d hv hd small =
    let c = carry v hv in
    let e = carry d hd in
    let s = sum_parts (v + d) (up v + up d) (down v + down d) (cond (ltb v (2 ^ 63)) 0 1 + cond (ltb d (2 ^ 63)) 0 1) (omega arith) (omega arith) in
    omega (arith, ints, s, signed_parts v hv, signed_parts d hd)

numbered_effect : (m n : ℕ) (g : Message) (o : Option ℕ) → Amount m g → Word o → size o ≤ n → n + m < 2 ^ 63 → meaning (effect quantity_algebra g o) ≡ numbered g (meaning o)
numbered_effect m n (Put v) o b w s small = refl
numbered_effect m n Remove o b w s small = refl
numbered_effect m n (Add d) None b w s small =
    let p = size_parts d b.0 in
    ap Some (signed_add 0 d (omega arith) b.0 (omega (arith, b.1)) ∙ omega (arith, ints))
numbered_effect m n (Add d) (Some v) b w s small = let p = size_parts d b.0 in ap Some (signed_add v d w b.0 (omega (arith, b.1)))

pub exact_quantity : (m k : ℕ) (h : List (Entry Message)) → Amounts m h → m * length h < 2 ^ 63 → meaning (said quantity_algebra k h) ≡ number_said k h
exact_quantity m k [] b small = refl
exact_quantity m k (x ∷ h) b small =
    let i = exact_quantity m k h b.1 (omega arith) in
    let e = numbered_effect m (m * length h) x.value (said quantity_algebra k h) b.0 (said_word m k h b.1) (said_size m k h b.1) (omega arith) in
    cases_bool (eqb x.key k) (λ t. meaning (cond t (effect quantity_algebra x.value (said quantity_algebra k h)) (said quantity_algebra k h))
    ≡ cond t (numbered x.value (number_said k h)) (number_said k h))
    (e ∙ ap (numbered x.value) i) i
