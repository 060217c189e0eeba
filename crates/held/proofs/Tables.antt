-- The tables of a node of a tree pass the tests of the format.
use Rattle.std.proofs.Common.{◌≡◌, ℕ, suc, ◌^◌, ◌<◌, ◌≤◌, true, List, [], ◌∷◌, map, refl, arith}
use Rattle.std.specs.List.{AllByRecursion}
use Rattle.std.proofs.lemmas.Bool.{and_from, le-leb, lt-ltb}
use Rattle.messages.specs.Lists.{Within}
use Rattle.messages.specs.declared.entry.Entry.{Entry}
use Rattle.messages.specs.declared.message.Message.{Message}
use Rattle.messages.specs.declared.message.Message.TheVariants.{Put, Remove, Add}
use Rattle.rows.specs.Coding.{Coding, number}
use Rattle.rows.specs.Entries.{entry_coding, message_coding}
use Rattle.rules.specs.Keys.{rising, numbers_below}
use Rattle.tree.specs.Shape.{Rising}
use Rattle.bridge.specs.Stored.{WordFits}

-- ---- entries
pub keys_rise : {V : Type 0} (low high : ℕ) (xs : List (Entry V)) → Within low high xs → rising low high (map (λ e. e.key) xs) ≡ true
keys_rise low high [] w = refl
keys_rise low high (x ∷ xs) w =
    and_from _ _ (le-leb low x.key w.0) (and_from _ _ (lt-ltb x.key high w.1) (keys_rise (suc x.key) high xs w.2))

-- an entry fits its row if its key is below 2 ^ 32 and its value fits
pub entries_fit : {V : Type 0} (c : Coding V) (P : V → Type 0) → ((v : V) → P v → c.fits v ≡ true) → (low high : ℕ) (xs : List (Entry V)) → high ≤ 2 ^ 32 → Within low high xs → AllByRecursion (λ e. P e.value) xs → AllByRecursion (λ e. (entry_coding c).fits e ≡ true) xs
entries_fit c P fits low high [] top w all = tt
entries_fit c P fits low high (x ∷ xs) top w all =
    let key : x.key < 256 ^ 4 = omega (arith, top, w.1) in
    (and_from _ _ (lt-ltb x.key (256 ^ 4) key) (fits x.value all.0), entries_fit c P fits (suc x.key) high xs top w.2 all.1)

pub message_fits : (m : Message) → WordFits m → message_coding.fits m ≡ true
message_fits (Put v) f = lt-ltb v (256 ^ 8) f
message_fits Remove f = refl
message_fits (Add d) f = lt-ltb d (256 ^ 8) f

-- ---- pivots: the first is above low, so it is from any number on that is at most low + 1
pub pivots_rise : (from low high : ℕ) (ps : List ℕ) → from ≤ suc low → Rising low high ps → rising from high ps ≡ true
pivots_rise from low high [] le r = refl
pivots_rise from low high (p ∷ ps) le r =
    let least : from ≤ p = omega (arith, le, r.0) in
    and_from _ _ (le-leb from p least) (and_from _ _ (lt-ltb p high r.1) (pivots_rise (suc p) p high ps (omega arith) r.2))

pub pivots_fit : (low high : ℕ) (ps : List ℕ) → high ≤ 2 ^ 32 → Rising low high ps → AllByRecursion (λ n. (number 4).fits n ≡ true) ps
pivots_fit low high [] top r = tt
pivots_fit low high (p ∷ ps) top r =
    let small : p < 256 ^ 4 = omega (arith, top, r.1) in
    (lt-ltb p (256 ^ 4) small, pivots_fit p high ps top r.2)

-- ---- child numbers
pub all_below : (limit : ℕ) (cs : List ℕ) → AllByRecursion (λ c. (1 ≤ c) × (c < limit)) cs → numbers_below limit cs ≡ true
all_below limit [] all = refl
all_below limit (c ∷ cs) all = and_from _ _ (le-leb 1 c all.0.0) (and_from _ _ (lt-ltb c limit all.0.1) (all_below limit cs all.1))
