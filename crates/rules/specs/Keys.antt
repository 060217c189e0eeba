-- Keys in order, and numbers in range.
use Rattle.std.specs.Prelude.{ℕ, suc, ◌*◌, Bool, true, ◌&&◌, List, [], ◌∷◌, map, take, drop, nat_le, nat_lt}
use Rattle.rows.specs.Bytes.{number_of, all_zero}
use Rattle.rows.specs.Coding.{Coding}
use Rattle.rows.specs.Entries.{known, exact}
use Rattle.rows.specs.Tables.{values_of, all_rows}

-- keys rise strictly, from low on and below high
abbrev pub rising : ℕ → ℕ → List ℕ → Bool
rising low high [] = true
rising low high (k ∷ ks) = nat_le low k && (nat_lt k high && rising (suc k) high ks)

-- each number is at least 1 and below a limit
abbrev pub numbers_below : ℕ → List ℕ → Bool
numbers_below limit [] = true
numbers_below limit (n ∷ ns) = nat_le 1 n && (nat_lt n limit && numbers_below limit ns)

-- a test on the bytes behind a row's key
abbrev pub behind_key : (List ℕ → Bool) → List ℕ → Bool
behind_key test row = test (drop 4 row)

-- the number of a message is known
abbrev pub known_message : List ℕ → Bool
known_message bs = known (number_of (take 1 bs))

-- the word of a remove is zero
abbrev pub exact_message : List ℕ → Bool
exact_message bs = exact (number_of (take 1 bs)) (number_of (take 8 (drop 1 bs)))

-- the row of a message has a known message number
abbrev pub known_row : List ℕ → Bool
known_row row = behind_key known_message row

-- the word of a remove's row is zero
abbrev pub exact_row : List ℕ → Bool
exact_row row = behind_key exact_message row

-- the first n rows of a table: their keys rise, inside the span, and their values are known
abbrev pub rows_in_order : {X : Type 0} → Coding X → (X → ℕ) → (List ℕ → Bool) → ℕ → ℕ → ℕ → List ℕ → Bool
rows_in_order c key known low high n bs = rising low high (map key (values_of c n bs)) && all_rows known c.size n bs

-- the first n rows of a table are exact, and zeros follow
abbrev pub rows_exact : {X : Type 0} → Coding X → (List ℕ → Bool) → ℕ → List ℕ → Bool
rows_exact c exact n bs = all_rows exact c.size n bs && all_zero (drop (c.size * n) bs)
