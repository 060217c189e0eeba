-- Words that are added one after another, as signed numbers that wrap.
use Rattle.std.proofs.Common.{◌≡◌, ℕ, ◌+◌, ◌%◌, ◌^◌, ◌<◌, List, [], ◌∷◌, length, get_or, take, ℤ, pos, negsuc, sym, ap, ◌∙◌, arith, w64, SFits, to_z, of_z}
use Rattle.std.proofs.lemmas.List.{take_more}
use Rattle.std.proofs.lemmas.Int.{of_z-to_z}
use Rattle.messages.specs.Words.{signed, word}
use Rattle.messages.specs.declared.entry.Entry.{Entry}
use Rattle.store_plan.specs.Pages.{no_entry}
use Rattle.tree.specs.Laws.{sum_of_words}
use Rattle.book_plan.proofs.Totals.{sum_append}

bits_small : (z : ℤ) → SFits w64 z → of_z w64 z < 2 ^ 64
bits_small (pos n) f = omega (arith, f.sfits)
bits_small (negsuc n) f = omega (arith, f.sfits)

-- before the first word
pub none_added : (z : ℤ) → SFits w64 z → to_z w64 (of_z w64 z) ≡ signed ((word (to_z w64 (of_z w64 z)) + 0) % 2 ^ 64)
none_added z f =
    let small = bits_small z f in
    let same : of_z w64 z ≡ (of_z w64 z + 0) % 2 ^ 64 = omega arith in
    ap signed same ∙ ap (λ n. signed ((n + 0) % 2 ^ 64)) (sym (of_z-to_z w64 (of_z w64 z) small))

-- one word more
pub one_added : (bits base i : ℕ) (z : ℤ) (xs : List (Entry ℕ)) → bits < 2 ^ 64 → i < length xs → (get_or xs i no_entry).value < 2 ^ 64 → z ≡ to_z w64 (get_or xs i no_entry).value
    → to_z w64 bits ≡ signed ((base + sum_of_words (take i xs)) % 2 ^ 64)
    → to_z w64 ((bits + of_z w64 z) % 2 ^ 64) ≡ signed ((base + sum_of_words (take (i + 1) xs)) % 2 ^ 64)
one_added bits base i z xs small inside fits is so_far =
    let v = (get_or xs i no_entry).value in
    let before = (base + sum_of_words (take i xs)) % 2 ^ 64 in
    let modest : before < 2 ^ 64 = omega arith in
    let bits_are : bits ≡ before = sym (of_z-to_z w64 bits small) ∙ ap (of_z w64) so_far ∙ of_z-to_z w64 before modest in
    let word_is : of_z w64 z ≡ v = ap (of_z w64) is ∙ of_z-to_z w64 v fits in
    let longer : sum_of_words (take (i + 1) xs) ≡ sum_of_words (take i xs) + (v + 0) =
    ap sum_of_words (take_more xs i no_entry inside) ∙ sum_append (take i xs) (get_or xs i no_entry ∷ []) in
    let sums : (bits + of_z w64 z) % 2 ^ 64 ≡ (base + sum_of_words (take (i + 1) xs)) % 2 ^ 64 = omega (arith, bits_are, word_is, longer) in
    ap signed sums
