-- A network: nodes below N, and which node leads to which. It knows nothing of buses and posts.
use Rattle.std.specs.Prelude.{◌≡◌, ℕ, ◌+◌, ◌-◌, ◌<◌, Bool, true, ◌&&◌, ◌≢◌}
use Rattle.blocks.specs.Sums.{sum, bit}
use Rattle.blocks.specs.Sets.{Set}

-- leads x y: x leads to y
abbrev pub Leads : Type 0
Leads = ℕ → ℕ → Bool

-- leads stay among the nodes, and no two nodes lead to each other
pub record Network (N : ℕ) (leads : Leads) : Type 0 where
  pub within : (x y : ℕ) → leads x y ≡ true → (x < N) × (y < N)
  pub one_way : (x y : ℕ) → leads x y ≡ true → leads y x ≢ true

-- how many nodes lead to y
abbrev pub load : ℕ → Leads → ℕ → ℕ
load N leads y = sum N (λ x. bit (leads x y))

-- how many nodes lead to n or are led to by n
abbrev pub degree : ℕ → Leads → ℕ → ℕ
degree N leads n = sum N (λ m. bit (leads n m) + bit (leads m n))

-- by how much loads stand over limits, in all
abbrev pub over : ℕ → (ℕ → ℕ) → (ℕ → ℕ) → ℕ
over N loads ℓ = sum N (λ y. loads y - ℓ y)

-- the number of leads with both ends in X
abbrev pub leads_in : ℕ → Leads → Set → ℕ
leads_in N leads X = sum N (λ x. sum N (λ y. bit (leads x y && (X x && X y))))

-- from one node to another, lead after lead
pub data Walk (leads : Leads) : ℕ → ℕ → Type 0 where
  here : {x : ℕ} → Walk leads x x
  step : {x y z : ℕ} → leads x y ≡ true → Walk leads y z → Walk leads x z

-- no walk leads from a node under its limit to one over it
abbrev pub Tight : ℕ → Leads → (ℕ → ℕ) → Type 0
Tight N leads ℓ = (u o : ℕ) → u < N → o < N → load N leads u < ℓ u → ℓ o < load N leads o → Walk leads u o → ⊥

-- D is the set of nodes from which a walk leads to one over its limit
pub record Reach (N : ℕ) (leads : Leads) (ℓ : ℕ → ℕ) (D : Set) : Type 0 where
  pub over_in : (y : ℕ) → y < N → ℓ y < load N leads y → D y ≡ true
  pub back : (x y : ℕ) → leads x y ≡ true → D y ≡ true → D x ≡ true
  pub reaches : (x : ℕ) → x < N → D x ≡ true → (o : ℕ) × (o < N) × (ℓ o < load N leads o) × Walk leads x o
