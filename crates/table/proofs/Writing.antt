-- Records written into an output, one behind the other.
use Rattle.std.proofs.Common.{◌≡◌, ℕ, zero, suc, ◌+◌, ◌*◌, ◌<◌, ◌≤◌, Bool, true, false, cond, List, [], ◌++◌, length, take, drop, sym, refl, ap, ◌∙◌, subst, inl, inr, append_assoc, add-one, arith, length-append, drop-drop, Option}
use Rattle.std.proofs.lemmas.List.{append-nil}
use Rattle.std.proofs.lemmas.Bool.{cases_lt}
use Rattle.blocks.specs.Sums.{sum, bit}
use Rattle.blocks.proofs.Sums.{sum_more}
use Rattle.stores.specs.Meaning.{Meaning, stands, by_post}
use Rattle.stores.specs.declared.pairs.Side.{Side}
use Rattle.stores.specs.declared.pairs.Side.TheVariants.{Bus as bus_side, Post as post_side}
use Rattle.table.specs.Yards.{yard_of}
use Rattle.table.specs.Buses.{on_side}
use Rattle.table.proofs.SettlingBuses.{both_sides}
use Rattle.table.specs.Files.{word, four_bytes, entry, row, rows, pair_file, pair_count, row_count, Wrote}

pub wrote_none : (out : List ℕ) (at : ℕ) → Wrote out at [] out at
wrote_none out at = record { grown = omega arith; front = sym (append-nil (take at out)); behind = refl }

-- one text behind another
pub wrote_then : {a b c : List ℕ} {i j k : ℕ} (xs ys : List ℕ) → Wrote a i xs b j → Wrote b j ys c k → Wrote a i (xs ++ ys) c k
wrote_then {a = a} {b = b} {i = i} {j = j} {k = k} xs ys p q = record {
  grown = omega (arith, p.grown, q.grown, length-append xs ys);
  front = q.front ∙ ap (λ t. t ++ ys) p.front ∙ append_assoc (take i a) xs ys;
  behind = q.behind ∙ subst (λ (n : ℕ). drop n b ≡ drop n a) (sym q.grown) (sym (drop-drop (length ys) j b) ∙ ap (drop (length ys)) p.behind ∙ drop-drop (length ys) j a);
}

-- a sum up to a place, with that place, is no more than the whole
sum_below : (n : ℕ) (f : ℕ → ℕ) (k : ℕ) → k < n → sum k f + f k ≤ sum n f
unfolding sum
sum_below zero f k h = absurd (omega arith)
sum_below (suc n) f k h = elim (cases_lt k n) [
  | inl w ↦ omega (arith, sum_below n f k w)
  | inr w ↦ let e : k ≡ n = omega arith in let x = ap (λ z. sum z f + f z) e in omega arith
]

-- four bytes for each pair that stands
entry_length : (b p : ℕ) (s : Option Side) → length (entry b p s) ≡ 4 * bit (stands s)
entry_length b p s = of_test (stands s)
  where
    of_test : (t : Bool) → length (cond t (four_bytes (word b p (by_post s))) []) ≡ 4 * bit t
    of_test true = refl
    of_test false = refl

row_length : (m : Meaning) (b n : ℕ) → length (row m b n) ≡ 4 * row_count m b n
unfolding row sum
row_length m b zero = refl
row_length m b (suc p) = omega (arith, length-append (row m b p) (entry b p (m.standing b p)), row_length m b p, entry_length b p (m.standing b p))

rows_length : (m : Meaning) (n : ℕ) → length (rows m n) ≡ 4 * sum n (λ b. row_count m b m.posts)
unfolding rows sum
rows_length m zero = refl
rows_length m (suc b) = omega (arith, length-append (rows m b) (row m b m.posts), rows_length m b, row_length m b m.posts)

pub file_length : (m : Meaning) → length (pair_file m) ≡ 4 * pair_count (yard_of m)
file_length m = rows_length m m.buses

-- a row has room for each of its pairs, and the output for each row
pub pair_fits : (m : Meaning) (b p at end size : ℕ) → p < m.posts → end ≡ at + length (row m b p) → at + 4 * row_count m b m.posts ≤ size
    → end + 4 * bit (stands (m.standing b p)) ≤ size
pair_fits m b p at end size h e w = omega (arith, row_length m b p, sum_below m.posts (λ q. bit (stands (m.standing b q))) p h)

pub row_fits : (m : Meaning) (b end size : ℕ) → b < m.buses → end ≡ 0 + length (rows m b) → 4 * pair_count (yard_of m) ≤ size
    → end + 4 * row_count m b m.posts ≤ size
row_fits m b end size h e w = omega (arith, rows_length m b, sum_below m.buses (λ c. row_count m c m.posts) b h)

pub row_more : (m : Meaning) (b p : ℕ) → row m b (p + 1) ≡ row m b p ++ entry b p (m.standing b p)
unfolding row
row_more m b p = ap (row m b) (add-one p)

pub rows_more : (m : Meaning) (b : ℕ) → rows m (b + 1) ≡ rows m b ++ row m b m.posts
unfolding rows
rows_more m b = ap (rows m) (add-one b)

pub no_row : (m : Meaning) (b : ℕ) → row m b 0 ≡ []
unfolding row
no_row m b = refl

pub no_rows : (m : Meaning) → rows m 0 ≡ []
unfolding rows
no_rows m = refl

-- pairs counted bus by bus, on either side
pub counted_more : (m : Meaning) (b own others count : ℕ) → count ≡ sum b (λ c. row_count m c m.posts) → own ≡ on_side m bus_side b → others ≡ on_side m post_side b
    → count + (own + others) ≡ sum (b + 1) (λ c. row_count m c m.posts)
counted_more m b own others count e o t = omega (arith, both_sides m b, sum_more b (λ c. row_count m c m.posts))
