-- The messages that changes give to the stores say what the changes say.
use Rattle.std.proofs.Common.{◌≡◌, ℕ, ◌^◌, ◌<◌, ◌≤◌, Bool, true, false, cond, eqb, leb, List, [], ◌∷◌, length, ℤ, pos, negsuc, nat_abs, Some, None, Option, refl, ap, ◌∙◌, arith}
use Rattle.std.proofs.lemmas.Int.{ints}
use Rattle.std.proofs.lemmas.Bool.{leb-true, and_parts}
use Rattle.messages.specs.LatestDay.{latest_day_algebra}
use Rattle.messages.specs.Messages.{effect}
use Rattle.messages.specs.Words.{signed, word}
use Rattle.messages.specs.declared.message.Message.TheVariants.{Add}
use Rattle.bridge.specs.Stored.{WordFits}
use Rattle.tree.specs.Laws.{Amounts, number_said, numbered}
use Rattle.tree.specs.Lookup.{said}
use Rattle.calls.specs.declared.refusal.Refusal.{Refusal}
use Rattle.book_plan.specs.Books.{most_amount, last_day, bad_value}
use Rattle.book_plan.specs.Changes.{Change, added, later, quantity_of, day_of}
use Rattle.book_plan.specs.Changes.Change.{booking, count, strike}
use Rattle.book_plan.specs.Kept.{stock_message, day_message, stock_messages, day_messages, value_refusal, InRange, AllInRange}

-- ---- a value that is not refused is in range
tested : (b : Bool) (y : Refusal) → cond b None (Some y) ≡ None → b ≡ true
tested true y e = refl
tested false y e = cc

value_in_range : (amount : ℤ) (day : ℕ) → bad_value amount day ≡ None → (nat_abs amount ≤ most_amount) × (1 ≤ day) × (day ≤ last_day)
value_in_range amount day e =
    let t = and_parts (leb (nat_abs amount) most_amount) _ (tested _ _ e) in
    let u = and_parts (leb 1 day) (leb day last_day) t.1 in
    (leb-true (nat_abs amount) most_amount t.0, leb-true 1 day u.0, leb-true day last_day u.1)

pub in_range : (x : Change) → value_refusal x ≡ None → InRange x
in_range (booking sheet amount day) e = value_in_range amount day e
in_range (count sheet amount day) e = value_in_range amount day e
in_range (strike sheet) e = tt

-- ---- the word of an amount
pub word_fits : (z : ℤ) → nat_abs z ≤ most_amount → word z < 2 ^ 64
word_fits (pos n) h = omega arith
word_fits (negsuc n) h = omega arith

pub word_means : (z : ℤ) → nat_abs z ≤ most_amount → signed (word z) ≡ z
word_means z h = omega (arith, ints)

pub stock_word_fits : (x : Change) → InRange x → WordFits (stock_message x)
stock_word_fits (booking sheet amount day) h = word_fits amount h.0
stock_word_fits (count sheet amount day) h = word_fits amount h.0
stock_word_fits (strike sheet) h = tt

pub day_word_fits : (x : Change) → InRange x → WordFits (day_message x)
day_word_fits (booking sheet amount day) h = omega (arith, h.2)
day_word_fits (count sheet amount day) h = omega (arith, h.2)
day_word_fits (strike sheet) h = tt

amount_small : (z : ℤ) → nat_abs z ≤ most_amount → (word z < 2 ^ 64) × (nat_abs (signed (word z)) ≤ 10 ^ 9)
amount_small z h = (word_fits z h, omega (arith, ap nat_abs (word_means z h)))

pub amounts : (cs : List Change) → AllInRange cs → Amounts (10 ^ 9) (stock_messages cs)
amounts [] h = tt
amounts (booking sheet amount day ∷ cs) h = (amount_small amount h.0.0, amounts cs h.1)
amounts (count sheet amount day ∷ cs) h = (amount_small amount h.0.0, amounts cs h.1)
amounts (strike sheet ∷ cs) h = (tt, amounts cs h.1)

-- ---- what the messages say
numbered_add : (o : Option ℤ) (z : ℤ) → signed (word z) ≡ z → numbered (Add (word z)) o ≡ added o z
numbered_add None z e = ap Some e
numbered_add (Some q) z e = cc

pub quantities : (k : ℕ) (cs : List Change) → AllInRange cs → number_said k (stock_messages cs) ≡ quantity_of k cs
quantities k [] h = refl
quantities k (booking sheet amount day ∷ cs) h =
    let i = quantities k cs h.1 in
    ap (λ o. cond (eqb sheet k) (numbered (Add (word amount)) o) o) i
    ∙ ap (λ o. cond (eqb sheet k) o (quantity_of k cs)) (numbered_add (quantity_of k cs) amount (word_means amount h.0.0))
quantities k (count sheet amount day ∷ cs) h =
    let i = quantities k cs h.1 in
    ap (λ o. cond (eqb sheet k) (Some (signed (word amount))) o) i ∙ ap (λ z. cond (eqb sheet k) (Some z) (quantity_of k cs)) (word_means amount h.0.0)
quantities k (strike sheet ∷ cs) h = ap (λ o. cond (eqb sheet k) None o) (quantities k cs h.1)

later_is : (o : Option ℕ) (day : ℕ) → effect latest_day_algebra (Add day) o ≡ later o day
later_is None day = ap Some (omega arith)
later_is (Some e) day = refl

pub days : (k : ℕ) (cs : List Change) → said latest_day_algebra k (day_messages cs) ≡ day_of k cs
days k [] = refl
days k (booking sheet amount day ∷ cs) =
    ap (λ o. cond (eqb sheet k) (effect latest_day_algebra (Add day) o) o) (days k cs)
    ∙ ap (λ o. cond (eqb sheet k) o (day_of k cs)) (later_is (day_of k cs) day)
days k (count sheet amount day ∷ cs) =
    ap (λ o. cond (eqb sheet k) (effect latest_day_algebra (Add day) o) o) (days k cs)
    ∙ ap (λ o. cond (eqb sheet k) o (day_of k cs)) (later_is (day_of k cs) day)
days k (strike sheet ∷ cs) = ap (λ o. cond (eqb sheet k) None o) (days k cs)

pub stock_count : (cs : List Change) → length (stock_messages cs) ≡ length cs
stock_count [] = refl
stock_count (x ∷ cs) = omega (arith, stock_count cs)

pub day_count : (cs : List Change) → length (day_messages cs) ≡ length cs
day_count [] = refl
day_count (x ∷ cs) = omega (arith, day_count cs)
