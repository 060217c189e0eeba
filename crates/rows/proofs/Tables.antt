-- Tables that are written and read row by row, and both round trips.
use Rattle.std.proofs.Common.{◌≡◌, ℕ, zero, suc, ◌+◌, ◌-◌, ◌*◌, ◌<◌, ◌≤◌, Bool, true, eqb, List, [], ◌∷◌, ◌++◌, length, get_or, take, drop, replicate, sym, refl, ap, ◌∙◌, append_assoc, mul-zero, mul-suc, add-one, arith, length-append, length-drop, take-append-drop}
use borrow.Rule.Slice.PartMut.{put_mid}
use lib.ListN.{length-replicate}
use Rattle.std.specs.List.{AllByRecursion}
use Rattle.std.proofs.lemmas.Nat.{mul-le}
use Rattle.std.proofs.ByRecursion.{All-drop}
use Rattle.std.proofs.lemmas.List.{append-nil, take_more, take_all, take_rest, drop_all, drop_at, flat_map_more, drop-drop}
use Rattle.std.proofs.lemmas.Slice.{take-put_mid}
use Rattle.std.proofs.lemmas.Bool.{and_parts, and_from, eqb-true}
use Rattle.rows.specs.Bytes.{Bytes, padded, all_zero}
use Rattle.rows.specs.Coding.{Coding}
use Rattle.rows.specs.Tables.{rows_of, table_of, values_of, all_rows, TablesRoundTrip}

-- one write after another
pub then : {X : Type 0} (a b c x y : List X) → y ≡ x ++ c → x ≡ a ++ b → y ≡ a ++ (b ++ c)
then a b c x y p q = p ∙ ap (λ l. l ++ c) q ∙ append_assoc a b c

-- a buffer that is written to its end
pub filled : {X : Type 0} (n : ℕ) (buffer all : List X) → length buffer ≡ n → take n buffer ≡ all → buffer ≡ all
filled n buffer all e h = sym (take_all n buffer (omega arith)) ∙ h

-- zeros are filled in behind the first n bytes
pub zero_filled : (n k : ℕ) (rows bytes fill : List ℕ) → take n bytes ≡ rows → length rows ≡ n → length bytes ≡ k → fill ≡ replicate (length (take (length bytes - n) (drop n bytes))) 0 → put_mid n (length bytes - n) bytes fill ≡ padded k rows
zero_filled n k rows bytes fill front used long empty =
    let end : drop (length bytes - n) (drop n bytes) ≡ [] = drop_all (length bytes - n) (drop n bytes) (rw length-drop (omega arith)) in
    let left : length (take (length bytes - n) (drop n bytes)) ≡ k - length rows = ap length (take_rest bytes n) ∙ length-drop n bytes ∙ omega arith in
    (λ i. front i ++ (empty i ++ end i)) ∙ ap (λ l. rows ++ l) (append-nil _) ∙ ap (λ m. rows ++ replicate m 0) left

-- row i lies within n rows
pub row_within : (size i n : ℕ) → i < n → size * i + size ≤ size * n
row_within size i n h = rw mul-suc at (mul-le size (suc i) size n (omega arith) (omega arith))

-- past the first i of n rows there is a row left
pub row_left : (size i n : ℕ) (table rest : List ℕ) → rest ≡ drop (size * i) table → size * n ≤ length table → i < n → size ≤ length rest
row_left size i n table rest e within less =
    let long : length rest ≡ length table - size * i = ap length e ∙ length-drop (size * i) table in
    omega (arith, row_within size i n less)

-- bytes that are all zero are that many zeros
pub zeros : (bs : List ℕ) (n : ℕ) → length bs ≡ n → all_zero bs ≡ true → bs ≡ replicate n 0
zeros [] n e h = rw (sym e) refl
zeros (b ∷ bs) n e h =
    let p = and_parts (eqb b 0) (all_zero bs) h in
    rw (sym e) (λ i. eqb-true b 0 p.0 i ∷ zeros bs (length bs) refl p.1 i)

pub all_zero_zeros : (n : ℕ) → all_zero (replicate n 0) ≡ true
all_zero_zeros zero = refl
all_zero_zeros (suc n) = all_zero_zeros n

module _ {X : Type 0} (c : Coding X) where
  pub length_rows : (xs : List X) → length (rows_of c xs) ≡ c.size * length xs
  length_rows [] = rw mul-zero
  length_rows (x ∷ xs) = rw mul-suc (simp length-append (omega (arith, c.encode_size x, length_rows xs)))

  pub rows_more : (xs : List X) (i : ℕ) (x : X) → i < length xs → x ≡ get_or xs i x → rows_of c (take (i + 1) xs) ≡ rows_of c (take i xs) ++ c.encode x
  rows_more xs i x h e = ap (rows_of c) (take_more xs i x h ∙ ap (λ y. take i xs ++ y ∷ []) (sym e)) ∙ sym (flat_map_more c.encode [] (take i xs) x)

  -- row i is written behind the rows of the values before it
  pub row_written : (size k i : ℕ) (xs : List X) (x : X) (table row : List ℕ) → size ≡ c.size → c.size * length xs ≤ length table → i < length xs → x ≡ get_or xs i x → take (i * size) table ≡ rows_of c (take i xs) → row ≡ c.encode x → take ((i + 1) * size) (put_mid (i * size) k table row) ≡ rows_of c (take (i + 1) xs)
  row_written size k i xs x table row e room h at front w =
      let within : i * size + size ≤ length table = rw e (omega (arith, row_within c.size i (length xs) h)) in
      let long : length row ≡ size = ap length w ∙ c.encode_size x ∙ sym e in
      take-put_mid (i * size) k table row ((i + 1) * size) (omega arith) (omega arith) ∙ (λ j. front j ++ w j) ∙ sym (rows_more xs i x h at)

  pub length_values : (n : ℕ) (bs : List ℕ) → length (values_of c n bs) ≡ n
  length_values zero bs = refl
  length_values (suc n) bs = ap suc (length_values n (drop c.size bs))

  pub values_more : (n : ℕ) (bs : List ℕ) → values_of c (n + 1) bs ≡ values_of c n bs ++ c.decode (drop (c.size * n) bs) ∷ []
  values_more zero bs = rw mul-zero
  values_more (suc n) bs =
      rw (add-one, mul-suc)
      (ap (λ l. c.decode bs ∷ l) (rw add-one at (values_more n (drop c.size bs)) ∙ ap (λ l. values_of c n (drop c.size bs) ++ c.decode l ∷ []) (drop-drop (c.size * n) c.size bs ∙ ap (λ k. drop k bs) (omega arith))))

  -- one row more, x, is read into a list that held `was`
  pub read_more : (start was more : List X) (x : X) (bs rest : List ℕ) (i : ℕ) → more ≡ was ++ x ∷ [] → was ≡ start ++ values_of c i bs → rest ≡ drop (c.size * i) bs → x ≡ c.decode rest → more ≡ start ++ values_of c (i + 1) bs
  read_more start was more x bs rest i push held left read =
      let e : x ≡ c.decode (drop (c.size * i) bs) = read ∙ ap c.decode left in
      rw values_more (then start (values_of c i bs) _ was more (push ∙ ap (λ y. was ++ y ∷ []) e) held)

  pub rest_more : (bs rest : List ℕ) (i : ℕ) → rest ≡ drop (c.size * i) bs → drop c.size rest ≡ drop (c.size * (i + 1)) bs
  rest_more bs rest i left = rw (add-one, mul-suc) (ap (drop c.size) left ∙ drop-drop c.size (c.size * i) bs)

  pub values_back : (xs : List X) (more : List ℕ) → AllByRecursion (λ x. c.fits x ≡ true) xs → values_of c (length xs) (rows_of c xs ++ more) ≡ xs
  values_back [] more h = refl
  values_back (x ∷ xs) more h =
      let all = append_assoc (c.encode x) (rows_of c xs) more in
      let left = ap (drop c.size) all ∙ drop_at (c.encode x) (rows_of c xs ++ more) c.size (c.encode_size x) in
      (λ i. (ap c.decode all ∙ c.decode_encode x (rows_of c xs ++ more) h.0) i ∷ (ap (values_of c (length xs)) left ∙ values_back xs more h.1) i)

  pub rows_back : (n : ℕ) (bs : List ℕ) → c.size * n ≤ length bs → Bytes bs → all_rows c.valid c.size n bs ≡ true → rows_of c (values_of c n bs) ++ drop (c.size * n) bs ≡ bs
  rows_back zero bs h bytes v = rw mul-zero
  rows_back (suc n) bs h bytes v =
      let size = c.size in
      let e : size * suc n ≡ size * n + size = mul-suc size n in
      let p = and_parts (c.valid bs) (all_rows c.valid size n (drop size bs)) v in
      let tail = drop size bs in
      let ih = rows_back n tail (rw length-drop (omega arith)) (All-drop (λ b. b < 256) size bs bytes) p.1 in
      let row = c.encode_decode bs (omega arith) bytes p.0 in
      let left : drop (size * suc n) bs ≡ drop (size * n) tail = ap (λ k. drop k bs) (omega arith) ∙ sym (drop-drop (size * n) size bs) in
      rw (left, row) (append_assoc (take size bs) (rows_of c (values_of c n tail)) (drop (size * n) tail) ∙ ap (λ l. take size bs ++ l) ih ∙ take-append-drop size bs)

  pub table_back : (n : ℕ) (bs : List ℕ) → c.size * n ≤ length bs → Bytes bs → all_rows c.valid c.size n bs ≡ true → all_zero (drop (c.size * n) bs) ≡ true → table_of c (length bs) (values_of c n bs) ≡ bs
  table_back n bs h bytes v z =
      let used : length (rows_of c (values_of c n bs)) ≡ c.size * n = length_rows (values_of c n bs) ∙ ap (λ k. c.size * k) (length_values n bs) in
      let left : drop (c.size * n) bs ≡ replicate (length bs - c.size * n) 0 = zeros (drop (c.size * n) bs) (length bs - c.size * n) (length-drop (c.size * n) bs) z in
      ap (λ k. rows_of c (values_of c n bs) ++ replicate (length bs - k) 0) used ∙ ap (λ l. rows_of c (values_of c n bs) ++ l) (sym left) ∙ rows_back n bs h bytes v

  -- values that fit a table fill it just so
  pub length_table : (n : ℕ) (xs : List X) → c.size * length xs ≤ n → length (table_of c n xs) ≡ n
  length_table n xs h = simp (length-append, length-replicate) (omega (arith, length_rows xs))

  -- behind its values a table has zeros
  pub table_end : (n : ℕ) (xs : List X) → all_zero (drop (c.size * length xs) (table_of c n xs)) ≡ true
  table_end n xs = ap all_zero (drop_at (rows_of c xs) (replicate (n - length (rows_of c xs)) 0) (c.size * length xs) (length_rows xs)) ∙ all_zero_zeros (n - length (rows_of c xs))

  -- a test that each encoding passes is passed by each row of a table
  pub all_rows_pass : (test : List ℕ → Bool) → ((x : X) (more : List ℕ) → c.fits x ≡ true → test (c.encode x ++ more) ≡ true) → (xs : List X) (more : List ℕ) → AllByRecursion (λ x. c.fits x ≡ true) xs → all_rows test c.size (length xs) (rows_of c xs ++ more) ≡ true
  all_rows_pass test pass [] more h = refl
  all_rows_pass test pass (x ∷ xs) more h =
      let all = append_assoc (c.encode x) (rows_of c xs) more in
      let left = ap (drop c.size) all ∙ drop_at (c.encode x) (rows_of c xs ++ more) c.size (c.encode_size x) in
      and_from _ _ (ap test all ∙ pass x (rows_of c xs ++ more) h.0) (ap (all_rows test c.size (length xs)) left ∙ all_rows_pass test pass xs more h.1)

  -- the values of rows fit
  pub values_fit : (n : ℕ) (bs : List ℕ) → Bytes bs → AllByRecursion (λ x. c.fits x ≡ true) (values_of c n bs)
  values_fit zero bs bytes = tt
  values_fit (suc n) bs bytes = (c.decode_fits bs bytes, values_fit n (drop c.size bs) (All-drop (λ b. b < 256) c.size bs bytes))

  pub tables_round_trip : TablesRoundTrip c
  tables_round_trip = record { values_back = λ n xs h. values_back xs (replicate (n - length (rows_of c xs)) 0) h; table_back = table_back }
