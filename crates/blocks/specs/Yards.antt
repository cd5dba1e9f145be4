-- A yard: its buses, its posts, and which of them are paired.
use Rattle.std.specs.Prelude.{ℕ, ◌+◌, Bool, not, ◌&&◌, ◌||◌, ◌==◌}
use Rattle.blocks.specs.Sums.{sum, bit}
use Rattle.blocks.specs.Sets.{Set}

pub record Yard : Type 0 where
  pub buses : ℕ
  pub posts : ℕ
  pub paired : ℕ → ℕ → Bool  -- by bus, then post

-- bus b is node b, and post p is node buses + p
abbrev pub nodes : Yard → ℕ
nodes Y = Y.buses + Y.posts

-- the number of pairs with both ends in X
unfoldable pub pairs : Yard → Set → ℕ
pairs Y X = sum Y.buses (λ b. sum Y.posts (λ p. bit (Y.paired b p && (X b && X (Y.buses + p)))))

-- one pair more
abbrev pub add : ℕ → ℕ → Yard → Yard
add b p Y = record { buses = Y.buses; posts = Y.posts; paired = λ x y. Y.paired x y || (x == b && y == p) }

-- one pair less
abbrev pub drop : ℕ → ℕ → Yard → Yard
drop b p Y = record { buses = Y.buses; posts = Y.posts; paired = λ x y. Y.paired x y && not (x == b && y == p) }

-- buses and posts trade places
abbrev pub exchange : Yard → Yard
exchange Y = record { buses = Y.posts; posts = Y.buses; paired = λ x y. Y.paired y x }
