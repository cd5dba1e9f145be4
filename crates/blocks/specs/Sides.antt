-- Sides: each pair is carried by its bus or by its post, and points at the end that carries it. Even sides.
use Rattle.std.specs.Prelude.{◌≡◌, ℕ, ◌+◌, ◌-◌, ◌<◌, ◌≤◌, min, Bool, true, cond, not, ◌&&◌, ◌||◌, ◌⊎◌, List, ◌==◌, nat_le, nat_lt}
use Rattle.blocks.specs.Sums.{sum, bit}
use Rattle.blocks.specs.Limits.{Limits, limit_at}
use Rattle.blocks.specs.Yards.{Yard, nodes}
use Rattle.blocks.specs.Networks.{Leads, load, degree, over}
use Rattle.blocks.specs.Chains.{Chain, end, next_in}

-- by bus, then post: whether the post carries the pair
abbrev pub Sides : Type 0
Sides = ℕ → ℕ → Bool

-- The network of a yard of B buses: a pair leads to the end that carries it. Bus b is node b, post p is node B + p.
abbrev pub pointing : ℕ → (ℕ → ℕ → Bool) → Sides → Leads
pointing B paired by_post x y =
    cond (nat_lt x B) (nat_le B y && (paired x (y - B) && by_post x (y - B))) (nat_lt y B && (paired y (x - B) && not (by_post y (x - B))))

-- one entry set
abbrev pub put : ℕ → ℕ → Bool → Sides → Sides
put b p v s c q = cond (c == b && q == p) v (s c q)

-- whether the pair of bus b and post p is one of a chain's: its two ends follow each other in the chain x, vs
abbrev pub in_chain : ℕ → ℕ → List ℕ → ℕ → ℕ → Bool
in_chain B x vs b p = next_in x vs b (B + p) || next_in x vs (B + p) b

-- every pair of the chain turned, and no other
abbrev pub flipped : ℕ → ℕ → List ℕ → Sides → Sides
flipped B x vs s b p = cond (in_chain B x vs b p) (not (s b p)) (s b p)

-- no pair reaches outside the yard's sizes
abbrev pub Sized : Yard → Type 0
Sized Y = (b p : ℕ) → Y.paired b p ≡ true → (b < Y.buses) × (p < Y.posts)

-- Even, over a network of N nodes of which those below B are buses, with the limits ℓ of the levels below `levels`.
pub record EvenNetwork (B N levels : ℕ) (ℓ : ℕ → ℕ → ℕ) (leads : Leads) : Type 0 where
  -- each bus carries the lesser of its limit and its number of pairs
  pub bus : (b : ℕ) → b < B → load N leads b ≡ min (ℓ 0 b) (degree N leads b)
  -- at no level does a chain lead from a post carrying less than its limit to a post carrying more
  pub post : (a s : ℕ) (vs : List ℕ) → a < levels → B ≤ s → s < N → B ≤ end s vs → end s vs < N → Chain leads s vs
      → load N leads s < ℓ a s → ℓ a (end s vs) < load N leads (end s vs) → ⊥

-- the sides of a yard are even, at the levels 0 to 255
abbrev pub Even : Yard → Limits → Sides → Type 0
Even Y L s = EvenNetwork Y.buses (nodes Y) 256 (limit_at Y.buses L) (pointing Y.buses Y.paired s)

-- what the limits of the levels below `levels` keep to: none falls, and a bus has one limit
pub record Levels (B levels : ℕ) (ℓ : ℕ → ℕ → ℕ) : Type 0 where
  pub rising : (a c n : ℕ) → a ≤ c → c < levels → ℓ a n ≤ ℓ c n
  pub of_bus : (a b : ℕ) → a < levels → b < B → ℓ a b ≡ ℓ 0 b

-- every lead joins a bus and a post
abbrev pub Crossing : ℕ → Leads → Type 0
Crossing B leads = (x y : ℕ) → leads x y ≡ true → ((x < B) × (B ≤ y)) ⊎ ((B ≤ x) × (y < B))

-- what a post carries
abbrev pub post_load : Yard → Sides → ℕ → ℕ
post_load Y s p = sum Y.buses (λ b. bit (Y.paired b p && s b p))

-- a chain that leads from the node n to a post over its limit at the level a
pub record ChainToOver (Y : Yard) (L : Limits) (s : Sides) (a n : ℕ) : Type 0 where
  pub rest : List ℕ
  pub chain : Chain (pointing Y.buses Y.paired s) n rest
  pub post : Y.buses ≤ end n rest
  pub within : end n rest < nodes Y
  pub is_over : limit_at Y.buses L a (end n rest) < load (nodes Y) (pointing Y.buses Y.paired s) (end n rest)

-- what the nodes carry beyond their limits, over the levels 0 to 255
abbrev pub all_over : Yard → Limits → Sides → ℕ
all_over Y L s = sum 256 (λ a. over (nodes Y) (load (nodes Y) (pointing Y.buses Y.paired s)) (limit_at Y.buses L a))

-- From the sides s of the yard Y to the sides t, of the pairs that stay: exactly the pairs of one chain turned, as the sides stood
-- before. A chain of one node turns none.
pub record OneChainTurned (Y : Yard) (stays : ℕ → ℕ → Bool) (s t : Sides) : Type 0 where
  pub first : ℕ
  pub rest : List ℕ
  pub chain : Chain (pointing Y.buses Y.paired s) first rest
  pub exactly : (b p : ℕ) → stays b p ≡ true → t b p ≡ flipped Y.buses first rest s b p
