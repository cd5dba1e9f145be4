-- Counting what passes a test.
use Rattle.std.proofs.Common.{◌≡◌, ℕ, zero, suc, ◌+◌, ◌-◌, ◌^◌, ◌<◌, ◌≤◌, Bool, true, false, cond, ◌&&◌, nat_lt, List, length, map, get_or, take, drop, count_by, slice_range, refl, sym, ap, ◌∙◌, inl, inr, arith, length-append, length-drop, Some, None, Option}
use Rattle.std.proofs.lemmas.Bool.{cases_Bool}
use Rattle.std.proofs.lemmas.List.{get_or-drop, take_all, length-map}
use Rattle.std.proofs.lemmas.List.Sums.{count_by_more_no, count_by_more_yes}
use Rattle.std.proofs.lemmas.List.Sums.{count_by-le-length}
use Rattle.std.proofs.lemmas.List.FromFn.{length-range_with_len, get_or-range_with_len}
use Rattle.std.proofs.lemmas.Iterator.{YieldsList-from_range, items_from_drains}
use Rattle.std.proofs.iter.Yields.{nat_range_steps, gives_left}
use Rattle.std.proofs.iter.runs.Made.{took}
use Rattle.std.specs.Iterator.{ActsAs}
use Rattle.std.specs.Iterator.Runs.{Run, SomeRun, WholeRun, EachRunFrom, IsMapRun}
use Rattle.std.specs.Iterator.Adapters.{map_steps}
use Rattle.std.specs.List.{fold, range_with_len}
use denote.Param.Members.{Mut}
use mathlib.Core.List.{map-id}
use Rattle.blocks.specs.Sums.{sum, bit}
use Rattle.blocks.proofs.Sums.{sum_cong, sum_empty, sum_more}
use Rattle.table.specs.Searches.{marked}
use Rattle.table.specs.Reports.{count_from}
use Rattle.stores.specs.Meaning.{stands, by_post}
use Rattle.stores.specs.declared.pairs.Side.{Side}
use Rattle.stores.specs.declared.pairs.Side.TheVariants.{Bus, Post}

-- a pair that its post carries stands
pub carried_stands : (s : Option Side) (t : Bool) → t ≡ by_post s → t ≡ (stands s && by_post s)
carried_stands None t e = e
carried_stands (Some Bus) t e = e
carried_stands (Some Post) t e = e

-- how many of the first n of a list pass
count_taken : (p : ℕ → Bool) (xs : List ℕ) (n : ℕ) → n ≤ length xs → count_by p (take n xs) ≡ sum n (λ k. bit (p (get_or xs k 0)))
count_taken p xs zero l = sym (sum_empty _)
count_taken p xs (suc n) l =
    let before = count_taken p xs n (omega arith) in
    let more = sum_more n (λ k. bit (p (get_or xs k 0))) in
    let e : suc n ≡ n + 1 = omega arith in
    rw e (elim (cases_Bool (p (get_or xs n 0))) [
      | inl t ↦ omega (arith, before, more, ap bit t, count_by_more_yes p xs n 0 (omega arith) t)
      | inr f ↦ omega (arith, before, more, ap bit f, count_by_more_no p xs n 0 (omega arith) f)
    ])

-- how many marks of a range are set
pub count_range : (marks : List ℕ) (start count : ℕ) → start + count ≤ length marks → count_by (λ m. nat_lt 0 m) (slice_range marks start (start + count)) ≡ count_from (marked marks) start count
count_range marks start count l =
    let e : (start + count) - start ≡ count = omega arith in
    rw e (count_taken (λ m. nat_lt 0 m) (drop start marks) count (omega (arith, length-drop start marks)))
    ∙ sum_cong count _ _ (λ k _. ap (λ m. bit (nat_lt 0 m)) (get_or-drop start marks k 0))

-- what a whole run over the first n numbers gave
items_up : (q : Run nat_range_steps) (n : ℕ) → q.from ≡ record { start = 0; end = n } → q.whole ≡ true → q.items ≡ range_with_len 0 n
items_up q n e w = let d = took q in sym (map-id q.items) ∙ items_from_drains q.items (d.0, d.1, λ _. d.2 w) (YieldsList-from_range 0 n n e (omega arith))

-- how many of the first n numbers pass
count_up : (t : ℕ → Bool) (n : ℕ) → count_by t (range_with_len 0 n) ≡ sum n (λ k. bit (t k))
count_up t n =
    let long = length-range_with_len 0 n in
    let all : take n (range_with_len 0 n) ≡ range_with_len 0 n = take_all n (range_with_len 0 n) (omega (arith, long)) in
    ap (count_by t) (sym all) ∙ count_taken t (range_with_len 0 n) n (omega (arith, long))
    ∙ sum_cong n _ _ (λ k l. let e : get_or (range_with_len 0 n) k 0 ≡ k = omega (arith, get_or-range_with_len 0 n k 0 l) in ap (λ j. bit (t j)) e)

-- a run over the first n numbers gave at most n
no_more : (q : Run nat_range_steps) (n : ℕ) → q.from ≡ record { start = 0; end = n } → length q.items ≤ n
no_more q n e =
    let d = took q in
    let m = gives_left nat_range_steps (λ x. x) q.items (range_with_len 0 n) _ _ (YieldsList-from_range 0 n n e (omega arith)).runs d.1 in
    omega (arith, ap length m.1, length-append (map (λ x. x) q.items) m.0, length-map q.items (λ x. x), length-range_with_len 0 n)

bit_is : (b : Bool) → bit b ≡ cond b 1 0
bit_is true = refl
bit_is false = refl

-- `map` and `sum` over the first numbers, where the closure gives 1 for what passes the test t, and 0 for the rest
module _ {F : Type 0} {g : Mut F (ℕ × Unit {0}) ℕ} {f : F} {r : _} (t : ℕ → Bool) {end : ℕ}
    (runs : EachRunFrom (map_steps nat_range_steps g) r (λ p. SomeRun nat_range_steps (record { start = 0; end = end }) (λ q. IsMapRun p q g f)))
    (acts : ActsAs g f (λ k. bit (t k))) where
  -- what a run adds up to is how many of its source pass
  run_sum : (p : Run (map_steps nat_range_steps g)) → (from : p.from ≡ r) → fold (λ a x. a + x) 0 p.items ≡ count_by t (runs p p.seen from).0.items
  run_sum p from =
      let q = runs p p.seen from in
      q.2.4 (λ a x. a + x) (λ a x. a + cond (t x) 1 0) 0 (λ x y f' a k. let h = acts x y f' k in (h.0, ap (λ m. a + m) (h.1 ∙ bit_is (t x))))

  run_few : (p : Run (map_steps nat_range_steps g)) → p.from ≡ r → fold (λ a x. a + x) 0 p.items ≤ end
  run_few p from =
      let q = runs p p.seen from in
      omega (arith, run_sum p from, count_by-le-length t q.0.items, no_more q.0 end q.1)

  pub sums_fit : end < 2 ^ 16 → EachRunFrom (map_steps nat_range_steps g) r (λ p. fold (λ a x. a + x) 0 p.items < 2 ^ 16)
  sums_fit few p seen from = omega (arith, few, run_few p from)

  pub sum_few : {total : ℕ} → WholeRun (map_steps nat_range_steps g) r (λ p. total ≡ fold (λ a x. a + x) 0 p.items) → total ≤ end
  sum_few whole = omega (arith, whole.3, run_few whole.0 whole.1)

  pub summed : {n total : ℕ} → end ≡ n → WholeRun (map_steps nat_range_steps g) r (λ p. total ≡ fold (λ a x. a + x) 0 p.items) → total ≡ sum n (λ k. bit (t k))
  summed e whole =
      let q = runs whole.0 whole.0.seen whole.1 in
      whole.3 ∙ run_sum whole.0 whole.1 ∙ ap (count_by t) (items_up q.0 end q.1 (q.2.0 ∙ whole.2)) ∙ count_up t end ∙ ap (λ m. sum m (λ k. bit (t k))) e
