-- The reach set exists; so a level is tight if and only if some set attains.
use Rattle.std.proofs.Common.{◌≡◌, ℕ, zero, suc, ◌+◌, ◌<◌, ◌≤◌, true, false, cond, ◌||◌, eqb, ltb, ◌⊎◌, refl, inl, inr, arith}
use Rattle.std.proofs.lemmas.Bool.{cases_Bool, cases_eq, both_ways, lt-ltb, ltb-true, or_right}
use Rattle.std.proofs.lemmas.Bool.Decides.{nat_tests}
use Rattle.blocks.specs.Sums.{sum, bit}
use Rattle.blocks.specs.Sets.{Set}
use Rattle.blocks.specs.Networks.{Leads, Network, load, Walk, here, step, Tight, Reach}
use Rattle.blocks.proofs.Sums.{sum_cong, sum_le, sum_add, sum_at}
use Rattle.blocks.proofs.Duality.{Attained, reach_attains}

-- one below n that has P, or all have Q
pub some_or_all : (P Q : ℕ → Type 0) → ((k : ℕ) → P k ⊎ Q k) → (n : ℕ) → ((k : ℕ) × (k < n) × P k) ⊎ ((k : ℕ) → k < n → Q k)
some_or_all P Q d zero = inr (λ k l. absurd (omega arith))
some_or_all P Q d (suc n) = elim (some_or_all P Q d n) [
  | inl s ↦ let l = s.1 in inl (s.0, omega arith, s.2)
  | inr all ↦ elim (d n) [
    | inl p ↦ inl (n, omega arith, p)
    | inr q ↦ inr (λ k l. elim (cases_eq k n) [ inl e ↦ rw e q | inr ne ↦ all k (omega arith) ])
  ]
]

abbrev with_node : ℕ → Set → Set
with_node x D n = eqb n x || D n

size : ℕ → Set → ℕ
size N D = sum N (λ n. bit (D n))

ones : (N : ℕ) → sum N (λ n. 1) ≡ N
unfolding sum
ones zero = refl
ones (suc N) = let e = ones N in omega arith

size_le : (N : ℕ) (D : Set) → size N D ≤ N
unfolding size
size_le N D = let a = sum_le N (λ n. bit (D n)) (λ n. 1) (λ n _. grind arith) in let b = ones N in omega arith

size_with : (N : ℕ) (D : Set) (x : ℕ) → x < N → D x ≡ false → size N (with_node x D) ≡ size N D + 1
unfolding size
size_with N D x l f =
    let a = sum_cong N (λ n. bit (with_node x D n)) (λ n. bit (D n) + cond (eqb n x) 1 0) (λ n _. grind (arith, nat_tests)) in
    let b = sum_add N (λ n. bit (D n)) (λ n. cond (eqb n x) 1 0) in
    let c = sum_at N x 1 l in omega arith

-- the nodes from which a walk leads to one of T
pub record ReachTo (N : ℕ) (leads : Leads) (T : Set) (D : Set) : Type 0 where
  pub holds : (y : ℕ) → y < N → T y ≡ true → D y ≡ true
  pub back : (x y : ℕ) → leads x y ≡ true → D y ≡ true → D x ≡ true
  pub from : (x : ℕ) → x < N → D x ≡ true → (o : ℕ) × (o < N) × (T o ≡ true) × Walk leads x o

module _ (N : ℕ) (leads : Leads) (T : Set) (net : Network N leads) where
  record Started (D : Set) : Type 0 where
    holds : (y : ℕ) → y < N → T y ≡ true → D y ≡ true
    from : (x : ℕ) → x < N → D x ≡ true → (o : ℕ) × (o < N) × (T o ≡ true) × Walk leads x o

  first : Started T
  first = record { holds = λ y _ h. h; from = λ x l h. (x, l, h, here) }

  more : (D : Set) (x y : ℕ) → Started D → y < N → leads x y ≡ true → D y ≡ true → Started (with_node x D)
  more D x y s ly k m = record {
    holds = λ z l h. or_right (eqb z x) (D z) (s.holds z l h);
    from = λ z l h. elim (cases_eq z x) [
      | inl e ↦ let r = s.from y ly m in (r.0, r.1, r.2, step (rw e k) r.3)
      | inr d ↦ s.from z l (grind (arith, nat_tests))
    ];
  }

  Open : Set → ℕ → ℕ → Type 0
  Open D x y = (leads x y ≡ true) × (D y ≡ true) × (D x ≡ false)

  look : (D : Set) (x y : ℕ) → Open D x y ⊎ (leads x y ≡ true → D y ≡ true → D x ≡ true)
  unfolding Open
  look D x y = elim (cases_Bool (D x)) [
    | inl t ↦ inr (λ _ _. t)
    | inr f ↦ elim (cases_Bool (leads x y)) [
      | inr g ↦ inr (λ k _. absurd (both_ways (leads x y) g k))
      | inl k ↦ elim (cases_Bool (D y)) [
        | inl m ↦ inl (k, m, f)
        | inr g ↦ inr (λ _ m. absurd (both_ways (D y) g m))
      ]
    ]
  ]

  close : (fuel : ℕ) (D : Set) → Started D → N < size N D + fuel → (E : Set) × ReachTo N leads T E
  unfolding Open
  close zero D s f = let a = size_le N D in absurd (omega arith)
  close (suc fuel) D s f =
      elim (some_or_all (λ x. (y : ℕ) × (y < N) × Open D x y) (λ x. (y : ℕ) → y < N → leads x y ≡ true → D y ≡ true → D x ≡ true)
      (λ x. some_or_all (Open D x) (λ y. leads x y ≡ true → D y ≡ true → D x ≡ true) (look D x) N) N) [
        | inl t ↦
            let x = t.0 in
            let y = t.2.0 in
            let o = t.2.2 in
            let e = size_with N D x t.1 o.2 in
            close fuel (with_node x D) (more D x y s t.2.1 o.0 o.1) (omega arith)
        | inr c ↦ (
          D,
          record {
            holds = s.holds;
            back = λ x y k m. let w = net.within x y k in c x w.0 y w.1 k m;
            from = s.from;
          },
        )
      ]

  pub reach_to : (D : Set) × ReachTo N leads T D
  reach_to = close (suc N) T first (omega arith)

  pub to_walk : (D : Set) → ReachTo N leads T D → (u o : ℕ) → Walk leads u o → D o ≡ true → D u ≡ true
  to_walk D r u o here m = m
  to_walk D r u o (step {y = y} k t) m = r.back u y k (to_walk D r y o t m)

module _ (N : ℕ) (leads : Leads) (ℓ : ℕ → ℕ) (net : Network N leads) where
  pub reach_set : (D : Set) × Reach N leads ℓ D
  reach_set =
      let r = reach_to N leads (λ n. ltb (ℓ n) (load N leads n)) net in (
        r.0,
        record {
          over_in = λ y l h. r.1.holds y l (lt-ltb (ℓ y) (load N leads y) h);
          back = r.1.back;
          reaches = λ x l h. let f = r.1.from x l h in (f.0, f.1, ltb-true (ℓ f.0) (load N leads f.0) f.2, f.3);
        },
      )

  pub tight_attained : Tight N leads ℓ → Attained N leads ℓ
  tight_attained t = (reach_set.0, reach_attains N leads ℓ reach_set.0 reach_set.1 t)
