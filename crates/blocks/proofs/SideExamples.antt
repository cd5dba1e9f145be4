-- The table of sides holds: one computed test, and what it says of each row.
use Rattle.std.proofs.Common.{◌≡◌, ℕ, zero, suc, ◌<◌, ◌≤◌, min, Bool, true, false, cond, ◌&&◌, eqb, ltb, leb, List, [], ◌∷◌, map, get_or, sym, refl, ap, ◌∙◌, subst, inl, inr, arith}
use Rattle.std.specs.List.{AllByRecursion as All}
use Rattle.std.proofs.lemmas.Bool.{cases_eq, cases_lt, and_parts, and_from, eqb-true, eq-eqb, leb-true, ltb-true, or_cases, true≢false}
use Rattle.blocks.specs.Sums.{sum}
use Rattle.blocks.specs.Sets.{largest}
use Rattle.blocks.specs.Limits.{Limits, Rising, limit, limit_at}
use Rattle.blocks.specs.Yards.{Yard, nodes, pairs, exchange}
use Rattle.blocks.specs.Blocks.{excess, shortfall, shortfall_at}
use Rattle.blocks.specs.Networks.{Leads, load, degree, over}
use Rattle.blocks.specs.Sides.{Sides, Sized, Even, pointing, post_load}
use Rattle.blocks.specs.Examples.{Pair, Example, SideExample, listed, listed_yard, yard_of, limits_of, sides_of, RightSides, side_examples}
use Rattle.blocks.proofs.Examples.{from, getD_from, climbing}
use Rattle.blocks.proofs.Evenness.{tight_even}
use Rattle.blocks.proofs.Levels.{at_bus}
use Rattle.blocks.proofs.Tightness.{shortfall_tight}
use Rattle.blocks.proofs.Yards.{levels, net_of, over_shortfall, shortfall_of_leads}

-- every number below n passes
every : ℕ → (ℕ → Bool) → Bool
every zero test = true
every (suc n) test = every n test && test n

every_at : (n : ℕ) (test : ℕ → Bool) → every n test ≡ true → (k : ℕ) → k < n → test k ≡ true
unfolding every
every_at zero test e k w = absurd (omega arith)
every_at (suc n) test e k w =
    let p = and_parts (every n test) (test n) e in
    elim (cases_eq k n) [ inl i ↦ ap test i ∙ p.1 | inr d ↦ every_at n test p.0 k (omega arith) ]

every_from : (n : ℕ) (test : ℕ → Bool) → ((k : ℕ) → k < n → test k ≡ true) → every n test ≡ true
unfolding every
every_from zero test h = refl
every_from (suc n) test h = and_from (every n test) (test n) (every_from n test (λ k w. h k (omega arith))) (h n (omega arith))

-- every pair listed lies within the sizes
inside : ℕ → ℕ → List Pair → Bool
inside B P [] = true
inside B P (x ∷ xs) = (ltb x.bus B && ltb x.post P) && inside B P xs

inside_at : (B P : ℕ) (xs : List Pair) → inside B P xs ≡ true → (b p : ℕ) → listed xs b p ≡ true → (b < B) × (p < P)
unfolding inside
inside_at B P [] e b p h = absurd (true≢false (sym h))
inside_at B P (x ∷ xs) e b p h =
    let q = and_parts (ltb x.bus B && ltb x.post P) (inside B P xs) e in
    let r = and_parts (ltb x.bus B) (ltb x.post P) q.0 in
    elim (or_cases (eqb x.bus b && eqb x.post p) (listed xs b p) h) [
      | inl i ↦
          let j = and_parts (eqb x.bus b) (eqb x.post p) i in
          (omega (arith, eqb-true x.bus b j.0, ltb-true x.bus B r.0), omega (arith, eqb-true x.post p j.1, ltb-true x.post P r.1))
      | inr i ↦ inside_at B P xs q.1 b p i
    ]

module _ (Y : Yard) (L : Limits) (s : Sides) (t : ℕ) where
  leads : Leads
  leads = pointing Y.buses Y.paired s

  -- each bus carries what it must, and at each level below t what is over is the shortfall
  even_test : Bool
  even_test =
      every Y.buses (λ b. eqb (load (nodes Y) leads b) (min (L.bus b) (degree (nodes Y) leads b)))
      && every t (λ a. eqb (over (nodes Y) (load (nodes Y) leads) (limit_at Y.buses L a)) (shortfall_at Y L a))

  -- at level t nobody is over
  calm_test : Bool
  calm_test = every (nodes Y) (λ n. leb (load (nodes Y) leads n) (limit_at Y.buses L t n))

  module _ (rising : Rising L) (sized : Sized Y) (few : t ≤ 256) where
    test_even : even_test ≡ true → calm_test ≡ true → Even Y L s
    unfolding even_test calm_test leads
    test_even e calm =
        let p = and_parts
        (every Y.buses (λ b. eqb (load (nodes Y) leads b) (min (L.bus b) (degree (nodes Y) leads b))))
        (every t (λ a. eqb (over (nodes Y) (load (nodes Y) leads) (limit_at Y.buses L a)) (shortfall_at Y L a))) e in
        tight_even Y.buses (nodes Y) 256 (limit_at Y.buses L) (levels Y L rising) leads
        (λ b w. let h : load (nodes Y) leads b ≡ min (L.bus b) (degree (nodes Y) leads b) = eqb-true _ _ (every_at Y.buses _ p.0 b w) in let q = at_bus Y L 0 b w in omega arith)
        (λ a la. elim (cases_lt a t) [
          | inl w ↦ shortfall_tight (nodes Y) leads (limit_at Y.buses L a) (net_of Y s sized) (shortfall_at Y L a)
              (shortfall_of_leads Y L s a) (eqb-true _ _ (every_at t _ p.1 a w))
          | inr w ↦ λ u o lu lo under above walk.
              let c = leb-true _ _ (every_at (nodes Y) _ calm o lo) in
              let r = (levels Y L rising).rising t a o w la in
              absurd (omega arith)
        ])

    even_tested : Even Y L s → even_test ≡ true
    unfolding even_test leads
    even_tested even =
        and_from _ _
        (every_from Y.buses _ (λ b w. eq-eqb _ _ (let h = even.bus b w in let q = at_bus Y L 0 b w in omega arith)))
        (every_from t _ (λ a w. eq-eqb _ _ (over_shortfall Y L s rising sized even a (omega arith))))

yard_sized : (c : Example) → c.exchanged ≡ false → inside c.buses c.posts c.pairs_of ≡ true → Sized (yard_of c)
yard_sized c e h =
    let plain : yard_of c ≡ listed_yard c = ap (λ t. cond t (exchange (listed_yard c)) (listed_yard c)) e in
    subst Sized (sym plain) (inside_at c.buses c.posts c.pairs_of h)

record Result : Type 0 where
  loads : List ℕ
  in_yard : Bool
  evenly : Bool
  calmly : Bool
  few : Bool
  rises : Bool
  plain : Bool

found : SideExample → Result
found c =
    let Y : Yard = yard_of c.yard in
    let L : Limits = limits_of c.yard in
    record {
      loads = from Y.posts (post_load Y (sides_of c));
      in_yard = inside c.yard.buses c.yard.posts c.yard.pairs_of;
      evenly = even_test Y L (sides_of c) c.calm;
      calmly = calm_test Y L (sides_of c) c.calm;
      few = leb c.calm 256;
      rises = leb 1 c.yard.step;
      plain = c.yard.exchanged;
    }

claimed : SideExample → Result
claimed c = record { loads = c.loads; in_yard = true; evenly = c.even; calmly = true; few = true; rises = true; plain = false }

computed : map found side_examples ≡ map claimed side_examples
unfolding found claimed from inside every even_test calm_test leads side_examples shortfall largest excess pairs limit sum limit_at
computed = refl

right : (c : SideExample) → found c ≡ claimed c → RightSides c
unfolding found claimed
right c e =
    let Y : Yard = yard_of c.yard in
    let L : Limits = limits_of c.yard in
    let rising : Rising L = climbing c.yard (leb-true 1 c.yard.step (ap (λ r. r.rises) e)) in
    let few : c.calm ≤ 256 = leb-true c.calm 256 (ap (λ r. r.few) e) in
    let sized : Sized Y = yard_sized c.yard (ap (λ r. r.plain) e) (ap (λ r. r.in_yard) e) in
    record {
      of_loads = λ p w. sym (getD_from Y.posts (post_load Y (sides_of c)) p 0 w) ∙ ap (λ r. get_or r.loads p 0) e;
      is_even = λ h. test_even Y L (sides_of c) c.calm rising sized few (ap (λ r. r.evenly) e ∙ h) (ap (λ r. r.calmly) e);
      not_even = λ h even. true≢false (sym (even_tested Y L (sides_of c) c.calm rising sized few even) ∙ ap (λ r. r.evenly) e ∙ h);
    }

rights : (cs : List SideExample) → map found cs ≡ map claimed cs → All RightSides cs
rights [] e = tt
rights (c ∷ cs) e = (right c (cc), rights cs (cc))

pub side_examples_right : All RightSides side_examples
side_examples_right = rights side_examples computed
