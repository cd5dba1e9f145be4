-- Example yards, small enough that their ranks and shortfalls are computed from the definitions alone.
use Rattle.std.specs.Prelude.{◌≡◌, ℕ, ◌*◌, ◌<◌, Bool, true, false, cond, ◌&&◌, ◌||◌, List, [], ◌∷◌, length, ℤ, pos, negsuc, ◌==◌, slice_index, slice_index_or}
use Rattle.blocks.specs.Limits.{Limits}
use Rattle.blocks.specs.Yards.{Yard, nodes, exchange}
use Rattle.blocks.specs.Blocks.{shortfall_at}
use Rattle.blocks.specs.Ranks.{rank}
use Rattle.blocks.specs.Sides.{Sides, Even, post_load}

pub record Pair : Type 0 where
  pub bus : ℕ
  pub post : ℕ

infix 90 ◌⇄◌
abbrev pub ◌⇄◌ : ℕ → ℕ → Pair
b ⇄ p = record { bus = b; post = p }

abbrev pub listed : List Pair → ℕ → ℕ → Bool
listed [] b p = false
listed (x ∷ xs) b p = (x.bus == b && x.post == p) || listed xs b p

-- A yard with its limits (every bus the same; a post's is `step` times the level, so that a step of 1 is the flat rule), and what is
-- claimed of it: the ranks of its nodes, buses first, and the shortfalls from level 0 on, up to the first that is 0 (left out).
pub record Example : Type 0 where
  pub buses : ℕ
  pub posts : ℕ
  pub pairs_of : List Pair
  pub exchanged : Bool  -- seen with buses and posts exchanged: limits, ranks and shortfalls are those of the exchanged yard
  pub bus_limit : ℕ
  pub step : ℕ
  pub ranks : List ℤ
  pub shortfalls : List ℕ

abbrev pub listed_yard : Example → Yard
listed_yard c = record { buses = c.buses; posts = c.posts; paired = listed c.pairs_of }

abbrev pub yard_of : Example → Yard
yard_of c = cond c.exchanged (exchange (listed_yard c)) (listed_yard c)

abbrev pub limits_of : Example → Limits
limits_of c = record { bus = λ _. c.bus_limit; post = λ a _. c.step * a }

-- what an example claims
pub record Right (c : Example) : Type 0 where
  pub every_node : length c.ranks ≡ nodes (yard_of c)
  pub of_ranks : (n : ℕ) → n < nodes (yard_of c) → rank (yard_of c) (limits_of c) n ≡ slice_index_or c.ranks n (pos 0)
  pub of_shortfalls : (a : ℕ) → a < length c.shortfalls → shortfall_at (yard_of c) (limits_of c) a ≡ slice_index c.shortfalls a
  pub then_none : shortfall_at (yard_of c) (limits_of c) (length c.shortfalls) ≡ 0

-- every pair of two buses and two posts, of three and two
abbrev pub two_two : List Pair
two_two = 0 ⇄ 0 ∷ 0 ⇄ 1 ∷ 1 ⇄ 0 ∷ 1 ⇄ 1 ∷ []

abbrev pub three_two_but_one : List Pair
three_two_but_one = 0 ⇄ 0 ∷ 0 ⇄ 1 ∷ 1 ⇄ 0 ∷ 1 ⇄ 1 ∷ 2 ⇄ 0 ∷ []

abbrev pub three_two : List Pair
three_two = 2 ⇄ 1 ∷ three_two_but_one

abbrev pub none : ℤ
none = negsuc 0

-- three and two, every pair
abbrev pub three_two_yard : Example
three_two_yard = record {
  buses = 3;
  posts = 2;
  pairs_of = three_two;
  exchanged = false;
  bus_limit = 1;
  step = 1;
  ranks = pos 1 ∷ pos 1 ∷ pos 1 ∷ pos 1 ∷ pos 1 ∷ [];
  shortfalls = 3 ∷ 1 ∷ [];
}

unfoldable pub examples : List Example
examples =
    -- 1. one bus, one post, no pair
    record { buses = 1; posts = 1; pairs_of = []; exchanged = false; bus_limit = 1; step = 1; ranks = none ∷ none ∷ []; shortfalls = [] }
    -- 2. the same with its pair: the bus takes it
    ∷ record { buses = 1; posts = 1; pairs_of = 0 ⇄ 0 ∷ []; exchanged = false; bus_limit = 1; step = 1; ranks = none ∷ none ∷ []; shortfalls = [] }
    -- 3. the same with bus limit 0
    ∷ record { buses = 1; posts = 1; pairs_of = 0 ⇄ 0 ∷ []; exchanged = false; bus_limit = 0; step = 1; ranks = pos 0 ∷ pos 0 ∷ []; shortfalls = 1 ∷ [] }
    -- 4. two and two, every pair
    ∷ record {
      buses = 2;
      posts = 2;
      pairs_of = two_two;
      exchanged = false;
      bus_limit = 1;
      step = 1;
      ranks = pos 0 ∷ pos 0 ∷ pos 0 ∷ pos 0 ∷ [];
      shortfalls = 2 ∷ [];
    }
    -- 5. the same with bus limit 0
    ∷ record {
      buses = 2;
      posts = 2;
      pairs_of = two_two;
      exchanged = false;
      bus_limit = 0;
      step = 1;
      ranks = pos 1 ∷ pos 1 ∷ pos 1 ∷ pos 1 ∷ [];
      shortfalls = 4 ∷ 2 ∷ [];
    }
    -- 6. three and two, every pair but bus 2 with post 1: bus 2 takes its only pair
    ∷ record {
      buses = 3;
      posts = 2;
      pairs_of = three_two_but_one;
      exchanged = false;
      bus_limit = 1;
      step = 1;
      ranks = pos 0 ∷ pos 0 ∷ none ∷ pos 0 ∷ pos 0 ∷ [];
      shortfalls = 2 ∷ [];
    }
    -- 7. that pair added: bus 2, the named one, went up by two
    ∷ three_two_yard
    -- 8. three buses at one post, bus limit 0; then with post limits of twice the level
    ∷ record {
      buses = 3;
      posts = 1;
      pairs_of = 0 ⇄ 0 ∷ 1 ⇄ 0 ∷ 2 ⇄ 0 ∷ [];
      exchanged = false;
      bus_limit = 0;
      step = 1;
      ranks = pos 2 ∷ pos 2 ∷ pos 2 ∷ pos 2 ∷ [];
      shortfalls = 3 ∷ 2 ∷ 1 ∷ [];
    }
    ∷ record {
      buses = 3;
      posts = 1;
      pairs_of = 0 ⇄ 0 ∷ 1 ⇄ 0 ∷ 2 ⇄ 0 ∷ [];
      exchanged = false;
      bus_limit = 0;
      step = 2;
      ranks = pos 1 ∷ pos 1 ∷ pos 1 ∷ pos 1 ∷ [];
      shortfalls = 3 ∷ 1 ∷ [];
    }
    -- 9. three and two, every pair, seen with buses and posts exchanged
    ∷ record {
      buses = 3;
      posts = 2;
      pairs_of = three_two;
      exchanged = true;
      bus_limit = 1;
      step = 1;
      ranks = pos 1 ∷ pos 1 ∷ pos 1 ∷ pos 1 ∷ pos 1 ∷ [];
      shortfalls = 4 ∷ 1 ∷ [];
    }
    ∷ []

-- Sides of a yard, given by the pairs that the posts carry (its bus carries any other): what each post carries, and whether the sides
-- are even. From the level `calm` on, no post is over its limit.
pub record SideExample : Type 0 where
  pub yard : Example
  pub by_posts : List Pair
  pub loads : List ℕ
  pub calm : ℕ
  pub even : Bool

abbrev pub sides_of : SideExample → Sides
sides_of c = listed c.by_posts

-- what it claims
pub record RightSides (c : SideExample) : Type 0 where
  pub of_loads : (p : ℕ) → p < (yard_of c.yard).posts → post_load (yard_of c.yard) (sides_of c) p ≡ slice_index c.loads p
  pub is_even : c.even ≡ true → Even (yard_of c.yard) (limits_of c.yard) (sides_of c)
  pub not_even : c.even ≡ false → Even (yard_of c.yard) (limits_of c.yard) (sides_of c) → ⊥

-- 10. each bus carries one pair, and the posts carry 2 and 1, or 3 and none
unfoldable pub side_examples : List SideExample
side_examples =
    record { yard = three_two_yard; by_posts = 0 ⇄ 0 ∷ 1 ⇄ 0 ∷ 2 ⇄ 1 ∷ []; loads = 2 ∷ 1 ∷ []; calm = 2; even = true }
    ∷ record { yard = three_two_yard; by_posts = 0 ⇄ 0 ∷ 1 ⇄ 0 ∷ 2 ⇄ 0 ∷ []; loads = 3 ∷ 0 ∷ []; calm = 3; even = false }
    ∷ []
