-- Tables: rows of one size behind one another, and zeros to the end.
use Rattle.std.specs.Prelude.{◌≡◌, ℕ, zero, suc, ◌*◌, ◌^◌, ◌<◌, ◌≤◌, Bool, true, ◌&&◌, List, [], ◌∷◌, length, drop}
use Rattle.std.specs.List.{flat_map, AllByRecursion}
use Rattle.rows.specs.Bytes.{Bytes, bytes_of, number_of, padded, all_zero}
use Rattle.rows.specs.Coding.{Coding}

-- the bytes of values behind one another
abbrev pub rows_of : {X : Type 0} → Coding X → List X → List ℕ
rows_of c xs = flat_map c.encode xs

-- a table of n bytes that holds the values
abbrev pub table_of : {X : Type 0} → Coding X → ℕ → List X → List ℕ
table_of c n xs = padded n (rows_of c xs)

-- what the first n rows say
abbrev pub values_of : {X : Type 0} → Coding X → ℕ → List ℕ → List X
values_of c zero bs = []
values_of c (suc n) bs = c.decode bs ∷ values_of c n (drop c.size bs)

-- each of the first n rows of a size passes; a test looks at the bytes from its row on
abbrev pub all_rows : (List ℕ → Bool) → ℕ → ℕ → List ℕ → Bool
all_rows test size zero bs = true
all_rows test size (suc n) bs = test bs && all_rows test size n (drop size bs)

-- numbers of any width come back from their bytes, and bytes from their number
pub record NumbersRoundTrip : Type 0 where
  pub number_back : (k n : ℕ) → n < 256 ^ k → number_of (bytes_of k n) ≡ n
  pub bytes_back : (k : ℕ) (bs : List ℕ) → length bs ≡ k → Bytes bs → bytes_of k (number_of bs) ≡ bs

-- values come back from their table, and a table of valid rows and zeros from its values
pub record TablesRoundTrip {X : Type 0} (c : Coding X) : Type 0 where
  pub values_back : (n : ℕ) (xs : List X) → AllByRecursion (λ x. c.fits x ≡ true) xs → values_of c (length xs) (table_of c n xs) ≡ xs
  pub table_back : (n : ℕ) (bs : List ℕ) → c.size * n ≤ length bs → Bytes bs → all_rows c.valid c.size n bs ≡ true → all_zero (drop (c.size * n) bs) ≡ true → table_of c (length bs) (values_of c n bs) ≡ bs
