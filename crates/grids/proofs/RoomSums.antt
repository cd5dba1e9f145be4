-- Counts of standing pairs.
use Rattle.std.proofs.Common.{◌≡◌, ℕ, zero, suc, ◌+◌, ◌*◌, ◌<◌, ◌≤◌, Bool, true, false, ◌&&◌, eqb, refl, ap, ◌∙◌, suc-mul, add-one, arith, Option}
use Rattle.std.proofs.lemmas.Bool.{eq-eqb, ne_eqb, and_from, and_left, and_right, cond-true, cond-false}
use Rattle.blocks.specs.Sums.{sum, bit}
use Rattle.blocks.proofs.Sums.{sum_le, sum_bound, sum_one, sum_cong}
use Rattle.stores.specs.declared.pairs.Side.{Side}
use Rattle.stores.specs.Meaning.{Meaning, stands, put, standing_count}
use Rattle.grids.specs.Cells.{grid_room}

pub sum_none : (f : ℕ → ℕ) → sum 0 f ≡ 0
unfolding sum
sum_none f = refl

pub sum_more : (n : ℕ) (f : ℕ → ℕ) → sum (n + 1) f ≡ sum n f + f n
unfolding sum
sum_more n f = rw add-one refl

pub bit_small : (t : Bool) → bit t ≤ 1
bit_small true = omega arith
bit_small false = omega arith

sum_const : (n c : ℕ) → sum n (λ _. c) ≡ n * c
unfolding sum
sum_const zero c = omega arith
sum_const (suc n) c = omega (arith, sum_const n c, suc-mul n c)

-- the pairs of one row
abbrev pub row_pairs : Meaning → ℕ → ℕ
row_pairs m b = sum m.posts (λ p. bit (stands (m.standing b p)))

pub row_few : (m : Meaning) (b : ℕ) → row_pairs m b ≤ m.posts
row_few m b = sum_bound m.posts (λ p. bit (stands (m.standing b p))) (λ p _. bit_small _)

-- the first rows
pub rows_few : (m : Meaning) (n : ℕ) → sum n (λ b. row_pairs m b) ≤ n * m.posts
rows_few m n =
    let rows : sum n (λ b. row_pairs m b) ≤ sum n (λ _. m.posts) = sum_le n (λ b. row_pairs m b) (λ _. m.posts) (λ b _. row_few m b) in
    omega (arith, sum_const n m.posts)

-- no more pairs stand than there are
pub pairs_few : (m : Meaning) → standing_count m ≤ m.buses * m.posts
pairs_few m = rows_few m m.buses

-- one pair set anew: the count changes by that pair alone
module _ (m : Meaning) (b p : ℕ) (s : Option Side) (hb : b < m.buses) (hp : p < m.posts) where
  here : (put b p s m).standing b p ≡ s
  here = cond-true (eqb b b && eqb p p) _ _ (and_from (eqb b b) (eqb p p) (eq-eqb b b refl) (eq-eqb p p refl))

  other_post : (q : ℕ) → (q ≡ p → ⊥) → (put b p s m).standing b q ≡ m.standing b q
  other_post q n = cond-false (eqb b b && eqb q p) _ _ (and_right (eqb b b) (eqb q p) (ne_eqb q p n))

  other_bus : (c q : ℕ) → (c ≡ b → ⊥) → (put b p s m).standing c q ≡ m.standing c q
  other_bus c q n = cond-false (eqb c b && eqb q p) _ _ (and_left (eqb c b) (eqb q p) (ne_eqb c b n))

  row_moves : sum m.posts (λ q. bit (stands ((put b p s m).standing b q))) + bit (stands (m.standing b p))
      ≡ sum m.posts (λ q. bit (stands (m.standing b q))) + bit (stands s)
  row_moves =
      sum_one m.posts (λ q. bit (stands ((put b p s m).standing b q))) (λ q. bit (stands (m.standing b q))) p hp
      (λ q _ n. ap (λ t. bit (stands t)) (other_post q n))
      ∙ ap (λ t. sum m.posts (λ q. bit (stands (m.standing b q))) + bit (stands t)) here

  pub pairs_move : standing_count (put b p s m) + bit (stands (m.standing b p)) ≡ standing_count m + bit (stands s)
  pairs_move =
      let rows = sum_one m.buses
      (λ c. sum m.posts (λ q. bit (stands ((put b p s m).standing c q))))
      (λ c. sum m.posts (λ q. bit (stands (m.standing c q)))) b hb
      (λ c _ n. sum_cong m.posts (λ q. bit (stands ((put b p s m).standing c q))) (λ q. bit (stands (m.standing c q)))
      (λ q _. ap (λ t. bit (stands t)) (other_bus c q n))) in
      omega (arith, rows, row_moves)

  -- room and what stood, against room and what stands
  pub room_moves : grid_room (put b p s m) + bit (stands s) ≡ grid_room m + bit (stands (m.standing b p))
  room_moves = omega (arith, pairs_move, pairs_few m, pairs_few (put b p s m))
