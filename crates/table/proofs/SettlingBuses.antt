-- One bus after the other made right.
use Rattle.std.proofs.Common.{◌≡◌, ℕ, ◌+◌, ◌<◌, ◌≤◌, min, sym, refl, ap, ◌∙◌, subst, inl, inr, arith, Some, None, Option}
use Rattle.std.proofs.lemmas.Bool.{cases_eq}
use Rattle.blocks.specs.Sums.{sum, bit}
use Rattle.blocks.specs.Limits.{Limits}
use Rattle.blocks.proofs.Sums.{sum_add, sum_cong}
use Rattle.stores.specs.Meaning.{Meaning, stands}
use Rattle.stores.specs.declared.pairs.Side.{Side}
use Rattle.stores.specs.declared.pairs.Side.TheVariants.{Bus as bus_side, Post as post_side}
use Rattle.table.specs.Buses.{is_on, on_side, pairs_of, SomeTurned, BusSettled, BusesRight, SamePairs, BusesSettled}

one_side : (s : Option Side) → bit (stands s) ≡ bit (is_on bus_side s) + bit (is_on post_side s)
one_side None = refl
one_side (Some bus_side) = refl
one_side (Some post_side) = refl

-- each pair is on one side
pub both_sides : (m : Meaning) (b : ℕ) → pairs_of m b ≡ on_side m bus_side b + on_side m post_side b
both_sides m b =
    sum_cong m.posts _ _ (λ p _. one_side (m.standing b p))
    ∙ sum_add m.posts (λ p. bit (is_on bus_side (m.standing b p))) (λ p. bit (is_on post_side (m.standing b p)))

-- the pairs of a bus, in two meanings of the same pairs
pairs_same : (m n : Meaning) (b : ℕ) → n.posts ≡ m.posts → ((p : ℕ) → stands (n.standing b p) ≡ stands (m.standing b p)) → pairs_of n b ≡ pairs_of m b
pairs_same m n b e h = ap (λ z. sum z (λ p. bit (stands (n.standing b p)))) e ∙ sum_cong m.posts _ _ (λ p _. ap bit (h p))

pub settled_up : (m n : Meaning) (b limit count : ℕ) → on_side m bus_side b + count ≡ min limit (pairs_of m b) → 0 < count → SomeTurned m n b post_side count → BusSettled m n b limit
settled_up m n b limit count aim some t =
    let e = pairs_same m n b t.only.posts (t.only.same_pairs b) in
    record {
      only = t.only;
      carries = omega (arith, both_sides m b, both_sides n b, t.fewer);
      same = λ h. absurd (omega arith);
    }

pub settled_down : (m n : Meaning) (b limit count : ℕ) → on_side m bus_side b ≡ min limit (pairs_of m b) + count → SomeTurned m n b bus_side count → BusSettled m n b limit
settled_down m n b limit count aim t = record {
  only = t.only;
  carries = omega (arith, t.fewer);
  same = λ h. t.none (omega arith);
}

-- the first buses are right
pub record SettlingBuses (m n : Meaning) (L : Limits) (k : ℕ) : Type 0 where
  pub pairs : SamePairs m n
  pub right : (b : ℕ) → b < k → on_side n bus_side b ≡ min (L.bus b) (pairs_of m b)
  pub rest : (b p : ℕ) → k ≤ b → n.standing b p ≡ m.standing b p
  pub same : BusesRight m L → n ≡ m

-- the counts of a bus whose pairs stand alike
on_same : (m n : Meaning) (b : ℕ) → n.posts ≡ m.posts → ((p : ℕ) → n.standing b p ≡ m.standing b p) → on_side n bus_side b ≡ on_side m bus_side b
on_same m n b e h = ap (λ z. sum z (λ p. bit (is_on bus_side (n.standing b p)))) e ∙ sum_cong m.posts _ _ (λ p _. ap (λ s. bit (is_on bus_side s)) (h p))

pub settling_more : (m n k : Meaning) (L : Limits) (b : ℕ) → b < m.buses → SettlingBuses m n L b → BusSettled n k b (L.bus b) → SettlingBuses m k L (b + 1)
settling_more m n k L b lb s t = record {
  pairs = record {
    buses = t.only.buses ∙ s.pairs.buses;
    posts = t.only.posts ∙ s.pairs.posts;
    same = λ c p. t.only.same_pairs c p ∙ s.pairs.same c p;
  };
  right = λ c l. elim (cases_eq c b) [
    | inl e ↦ subst (λ z. on_side k bus_side z ≡ min (L.bus z) (pairs_of m z)) (sym e)
        (t.carries ∙ ap (min (L.bus b)) (pairs_same m n b s.pairs.posts (s.pairs.same b)))
    | inr d ↦ on_same n k c t.only.posts (λ p. t.only.others c p d) ∙ s.right c (omega arith)
  ];
  rest = λ c p h. t.only.others c p (λ e. omega arith) ∙ s.rest c p (omega arith);
  same = λ h.
      let before = s.same h in
      let was = on_same m n b s.pairs.posts (λ p. s.rest b p (omega arith)) in
      t.same (was ∙ h b lb ∙ ap (min (L.bus b)) (sym (pairs_same m n b s.pairs.posts (s.pairs.same b)))) ∙ before;
}

pub settling_end : (m n : Meaning) (L : Limits) (k : ℕ) → m.buses ≤ k → SettlingBuses m n L k → BusesSettled m n L
settling_end m n L k all s = record {
  pairs = s.pairs;
  right = λ b l. s.right b (omega (arith, s.pairs.buses)) ∙ ap (min (L.bus b)) (sym (pairs_same m n b s.pairs.posts (s.pairs.same b)));
  same = s.same;
}
