-- A roll has as many entries as pairs stand.
use Rattle.std.proofs.Common.{◌≡◌, ℕ, suc, ◌+◌, ◌<◌, false, List, [], ◌∷◌, length, ap, ◌∙◌, arith}
use Rattle.std.specs.List.{All}
use Rattle.std.proofs.lemmas.Bool.Decides.{nat_tests}
use Rattle.blocks.specs.Sums.{sum, bit}
use Rattle.blocks.proofs.Sums.{sum_one, sum_cong, sum_zero}
use Rattle.rolls.specs.declared.Entry.{Entry}
use Rattle.stores.specs.Meaning.{stands, standing_count}
use Rattle.rolls.specs.Rolls.{Ascending, Inside, names, standing, meaning}
use Rattle.rolls.specs.Entries.{standing_free}
use Rattle.rolls.proofs.Places.{apart}

-- two tables of numbers that differ in one place
grid_one : (m n : ℕ) (f g : ℕ → ℕ → ℕ) (b p : ℕ) → b < m → p < n
    → ((c q : ℕ) → (c ≡ b → ⊥) → f c q ≡ g c q) → ((q : ℕ) → (q ≡ p → ⊥) → f b q ≡ g b q)
    → sum m (λ c. sum n (λ q. f c q)) + g b p ≡ sum m (λ c. sum n (λ q. g c q)) + f b p
grid_one m n f g b p hb hp rows row =
    let outer : sum m (λ c. sum n (λ q. f c q)) + sum n (λ q. g b q) ≡ sum m (λ c. sum n (λ q. g c q)) + sum n (λ q. f b q)
    = sum_one m (λ c. sum n (λ q. f c q)) (λ c. sum n (λ q. g c q)) b hb (λ c w d. sum_cong n (λ q. f c q) (λ q. g c q) (λ q v. rows c q d)) in
    let inner : sum n (λ q. f b q) + g b p ≡ sum n (λ q. g b q) + f b p = sum_one n (λ q. f b q) (λ q. g b q) p hp (λ q w d. row q d) in
    omega arith

mark : List Entry → ℕ → ℕ → ℕ
mark xs b p = bit (stands (standing xs b p))

own : (x : Entry) (xs : List Entry) → mark (x ∷ xs) x.pair.bus x.pair.post ≡ 1
unfolding mark standing
own x xs = grind (arith, nat_tests)

others : (x : Entry) (xs : List Entry) (c q : ℕ) → names x.pair c q ≡ false → mark (x ∷ xs) c q ≡ mark xs c q
unfolding mark standing
others x xs c q f = grind (arith, f)

none : (xs : List Entry) (b p : ℕ) → All (λ e. names e.pair b p ≡ false) xs → mark xs b p ≡ 0
unfolding mark
none xs b p free = ap (λ s. bit (stands s)) (standing_free xs b p free)

blank_grid : (m n : ℕ) → sum m (λ b. sum n (λ p. mark [] b p)) ≡ 0
unfolding mark standing
blank_grid m n = sum_cong m (λ b. sum n (λ p. 0)) (λ _. 0) (λ b w. sum_zero n) ∙ sum_zero m

marks : (xs : List Entry) (buses posts : ℕ) → Ascending xs → Inside xs buses posts → sum buses (λ b. sum posts (λ p. mark xs b p)) ≡ length xs
marks [] buses posts asc inside = blank_grid buses posts
marks (x ∷ xs) buses posts asc inside =
    let rest : sum buses (λ b. sum posts (λ p. mark xs b p)) ≡ length xs
    = marks xs buses posts (λ i j d h w. asc (suc i) (suc j) d (omega arith) (omega arith)) (λ i d h. inside (suc i) d (omega arith)) in
    let free : mark xs x.pair.bus x.pair.post ≡ 0 = none xs x.pair.bus x.pair.post (λ k d h. (apart x.pair _ (asc 0 (suc k) d (omega arith) (omega arith))).1) in
    let here = inside 0 x (omega arith) in
    let one = grid_one buses posts (λ b p. mark (x ∷ xs) b p) (λ b p. mark xs b p) x.pair.bus x.pair.post here.0 here.1
    (λ c q d. others x xs c q (grind (arith, nat_tests))) (λ q d. others x xs x.pair.bus q (grind (arith, nat_tests))) in
    omega (arith, one, own x xs)

pub pairs_counted : (xs : List Entry) (buses posts : ℕ) → Ascending xs → Inside xs buses posts → standing_count (meaning xs buses posts) ≡ length xs
unfolding mark
pairs_counted xs buses posts asc inside = marks xs buses posts asc inside
