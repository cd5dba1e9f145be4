-- The table of examples holds: one computed test, and what it says of each case.
use Rattle.std.proofs.Common.{◌≡◌, ℕ, zero, suc, ◌<◌, ◌≤◌, Bool, true, false, leb, List, [], ◌∷◌, ◌++◌, map, length, get_or, ℤ, pos, sym, refl, ap, ◌∙◌, mul-suc, arith}
use Rattle.std.specs.List.{AllByRecursion as All}
use Rattle.blocks.specs.Sums.{sum}
use Rattle.blocks.specs.Sets.{largest}
use Rattle.blocks.specs.Limits.{limit, Rising, limit_at}
use Rattle.blocks.specs.Yards.{Yard, nodes, pairs}
use Rattle.blocks.specs.Blocks.{excess, shortfall, block, block_at, shortfall_at}
use Rattle.blocks.specs.Ranks.{height, minus_one, rank}
use Rattle.blocks.specs.Examples.{Example, yard_of, limits_of, Right, examples}
use Rattle.std.proofs.lemmas.Bool.{leb-true, le-ltb}
use Rattle.std.proofs.lemmas.List.{get_or_append_left, get_or_push}
use Rattle.blocks.proofs.Ranks.{rank_soon}

-- f 0, … , f (n − 1)
unfoldable pub from : {X : Type 0} → ℕ → (ℕ → X) → List X
from zero f = []
from (suc n) f = f 0 ∷ from n (λ k. f (suc k))

record Result : Type 0 where
  ranks : List ℤ
  shortfalls : List ℕ
  few : Bool  -- no more levels than there are
  rises : Bool  -- the step is 1 at least

-- computed: ranks from the levels below the one at which the shortfall is claimed to be 0
found : Example → Result
found c =
    let Y : Yard = yard_of c in
    let t : ℕ = length c.shortfalls in
    record {
      ranks = from (nodes Y) (λ n. minus_one (height t (λ a. block_at Y (limits_of c) a n)));
      shortfalls = from (suc t) (λ a. shortfall_at Y (limits_of c) a);
      few = leb t 256;
      rises = leb 1 c.step;
    }

claimed : Example → Result
claimed c = record { ranks = c.ranks; shortfalls = c.shortfalls ++ (0 ∷ []); few = true; rises = true }

-- the test
computed : map found examples ≡ map claimed examples
unfolding found claimed from examples height block shortfall largest excess pairs limit sum limit_at
computed = refl

pub getD_from : {X : Type 0} (m : ℕ) (f : ℕ → X) (n : ℕ) (d : X) → n < m → get_or (from m f) n d ≡ f n
unfolding from
getD_from zero f n d w = absurd (omega arith)
getD_from (suc m) f zero d w = refl
getD_from (suc m) f (suc n) d w = getD_from m (λ k. f (suc k)) n d (omega arith)

length_from : {X : Type 0} (m : ℕ) (f : ℕ → X) → length (from m f) ≡ m
unfolding from
length_from zero f = refl
length_from (suc m) f = ap suc (length_from m (λ k. f (suc k)))

-- with no shortfall there is no block
nobody_left : (A : Yard) (ℓ : ℕ → ℕ) (n : ℕ) → shortfall A ℓ ≡ 0 → block A ℓ n ≡ false
unfolding block
nobody_left A ℓ n e = le-ltb _ _ (omega arith)

pub climbing : (c : Example) → 1 ≤ c.step → Rising (limits_of c)
climbing c h a p w = omega (arith, mul-suc c.step a)

right : (c : Example) → found c ≡ claimed c → Right c
unfolding found claimed rank
right c e =
    let Y : Yard = yard_of c in
    let t : ℕ = length c.shortfalls in
    let each : (a : ℕ) → a < suc t → shortfall_at Y (limits_of c) a ≡ get_or (c.shortfalls ++ (0 ∷ [])) a 0 =
    λ a w. sym (getD_from (suc t) (λ k. shortfall_at Y (limits_of c) k) a 0 w) ∙ ap (λ r. get_or r.shortfalls a 0) e in
    let last : shortfall_at Y (limits_of c) t ≡ 0 = each t (omega arith) ∙ get_or_push c.shortfalls 0 0 t refl in
    record {
      every_node = sym (ap (λ r. length r.ranks) e) ∙ length_from (nodes Y) (λ n. minus_one (height t (λ a. block_at Y (limits_of c) a n)));
      of_ranks = λ n w.
          ap minus_one (rank_soon Y (limits_of c) (climbing c (leb-true 1 c.step (ap (λ r. r.rises) e))) t n (leb-true t 256 (ap (λ r. r.few) e)) w (nobody_left Y (limit_at Y.buses (limits_of c) t) n last))
          ∙ sym (getD_from (nodes Y) (λ k. minus_one (height t (λ a. block_at Y (limits_of c) a k))) n (pos 0) w) ∙ ap (λ r. get_or r.ranks n (pos 0)) e;
      of_shortfalls = λ a w. each a (omega arith) ∙ get_or_append_left c.shortfalls (0 ∷ []) 0 a w;
      then_none = last;
    }

rights : (cs : List Example) → map found cs ≡ map claimed cs → All Right cs
rights [] e = tt
rights (c ∷ cs) e = (right c (cc), rights cs (cc))

pub examples_right : All Right examples
examples_right = rights examples computed
