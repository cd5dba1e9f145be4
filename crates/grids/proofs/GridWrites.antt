-- What a grid means after one cell is written.
use Rattle.std.proofs.Common.{◌≡◌, ℕ, ◌+◌, ◌*◌, ◌/◌, ◌%◌, ◌<◌, Bool, true, false, cond, ◌&&◌, eqb, ltb, List, sym, refl, ap, ◌∙◌, arith, Some, None, Option}
use Rattle.std.proofs.lemmas.Nat.{div-mul-add, mod-mul-add}
use Rattle.std.proofs.lemmas.Bool.{both_ways, cond-true, and_from, and_parts, eq-eqb, eqb-true, lt-ltb, ltb-true}
use Rattle.blocks.specs.Sums.{bit}
use Rattle.stores.specs.declared.pairs.Side.{Side}
use Rattle.stores.specs.declared.pairs.Side.TheVariants.{Bus, Post}
use Rattle.stores.specs.Meaning.{stands, by_post, put}
use Rattle.grids.specs.Cells.{row, bit_at, cell_at, cell_means, meant, rows_mean, grid_room, CellWritten}
use Rattle.stores.specs.Meanings.{same_meaning}
use Rattle.grids.proofs.CellPlaces.{in_row}
use Rattle.grids.proofs.RoomSums.{room_moves}

-- two cells in one byte lie in one row, and in one byte of it
same_place : (c b w i j : ℕ) → i < w → j < w → c * w + i ≡ b * w + j → (c ≡ b) × (i ≡ j)
same_place c b w i j hi hj e =
    (sym (div-mul-add c w i hi) ∙ (ap (λ n. n / w) e ∙ div-mul-add b w j hj), sym (mod-mul-add c w i hi) ∙ (ap (λ n. n % w) e ∙ mod-mul-add b w j hj))

-- two pairs have two cells
apart : (P b p c q : ℕ) → p < P → q < P → (c ≡ b → q ≡ p → ⊥) → cell_at P c q ≡ cell_at P b p → ⊥
apart P b p c q hp hq n e =
    let bytes : c * row P + q / 4 ≡ b * row P + p / 4 = omega arith in
    let place = same_place c b (row P) (q / 4) (p / 4) (in_row q P hq) (in_row p P hp) bytes in
    let within : q % 4 ≡ p % 4 = omega arith in
    n place.0 (omega (arith, place.1))

-- the two bits of a standing mean it
meant_back : (s : Option Side) → meant (bit (stands s)) (bit (by_post s)) ≡ s
meant_back None = refl
meant_back (Some Bus) = refl
meant_back (Some Post) = refl

where_true : (t : Bool) (x y z : Option Side) → (t ≡ true → x ≡ y) → cond t x z ≡ cond t y z
where_true true x y z h = h refl
where_true false x y z h = refl

module _ (xs ys : List ℕ) (B P b p : ℕ) (s : Option Side) (hb : b < B) (hp : p < P) (w : CellWritten xs ys (cell_at P b p) s) where
  cell_here : cell_means ys (cell_at P b p) ≡ s
  cell_here = ap (λ x. meant x (bit_at ys (cell_at P b p + 1))) w.high ∙ (ap (λ x. meant (bit (stands s)) x) w.low ∙ meant_back s)

  cell_there : (c q : ℕ) → q < P → (c ≡ b → q ≡ p → ⊥) → cell_means ys (cell_at P c q) ≡ cell_means xs (cell_at P c q)
  cell_there c q hq n =
      let far = apart P b p c q hp hq n in
      let high = w.others (cell_at P c q) far (λ e. omega (arith, e)) in
      let low = w.others (cell_at P c q + 1) (λ e. omega (arith, e)) (λ e. far (omega (arith, e))) in
      ap (λ x. meant x (bit_at ys (cell_at P c q + 1))) high ∙ ap (λ x. meant (bit_at xs (cell_at P c q)) x) low

  within : ltb b B && ltb p P ≡ true
  within = and_from (ltb b B) (ltb p P) (lt-ltb b B hb) (lt-ltb p P hp)

  standing_here : (rows_mean ys B P).standing b p ≡ s
  standing_here = cond-true (ltb b B && ltb p P) _ _ within ∙ cell_here

  standing_there : (c q : ℕ) → (c ≡ b → q ≡ p → ⊥) → (rows_mean ys B P).standing c q ≡ (rows_mean xs B P).standing c q
  standing_there c q n =
      where_true (ltb c B && ltb q P) _ _ _ (λ e. cell_there c q (ltb-true q P (and_parts (ltb c B) (ltb q P) e).1) n)

  written_at : (c q : ℕ) (t : Bool) → (eqb c b && eqb q p) ≡ t → (rows_mean ys B P).standing c q ≡ cond t s ((rows_mean xs B P).standing c q)
  written_at c q true e =
      let parts = and_parts (eqb c b) (eqb q p) e in
      let bus : c ≡ b = eqb-true c b parts.0 in
      let post : q ≡ p = eqb-true q p parts.1 in
      ap (λ x. (rows_mean ys B P).standing x q) bus ∙ (ap (λ x. (rows_mean ys B P).standing b x) post ∙ standing_here)
  written_at c q false e =
      standing_there c q (λ bus post. both_ways (eqb c b && eqb q p) e (and_from (eqb c b) (eqb q p) (eq-eqb c b bus) (eq-eqb q p post)))

  pub written_rows : rows_mean ys B P ≡ put b p s (rows_mean xs B P)
  written_rows = same_meaning (rows_mean ys B P) (put b p s (rows_mean xs B P)) refl refl (λ c q. written_at c q (eqb c b && eqb q p) refl)

  -- room and what stands, against room and what stood
  pub written_room : grid_room (rows_mean ys B P) + bit (stands s) ≡ grid_room (rows_mean xs B P) + bit (stands ((rows_mean xs B P).standing b p))
  written_room = ap (λ m. grid_room m + bit (stands s)) written_rows ∙ room_moves (rows_mean xs B P) b p s hb hp
