-- What a store means: its sizes, and how each pair stands. Room comes with the full store.
use Rattle.std.specs.Prelude.{◌≡◌, ℕ, ◌≤◌, Bool, true, false, cond, ◌&&◌, Some, None, Option, ◌==◌}
use Rattle.std.specs.Option.{is_some}
use Rattle.blocks.specs.Sums.{sum, bit}
use Rattle.stores.specs.declared.pairs.Pair.{Pair}
use Rattle.stores.specs.declared.pairs.Side.{Side}
use Rattle.stores.specs.declared.pairs.Side.TheVariants.{Bus, Post}

abbrev pub pair : ℕ → ℕ → Pair
pair b p = record { bus = b; post = p }

pub record Meaning : Type 0 where
  pub buses : ℕ
  pub posts : ℕ
  pub standing : ℕ → ℕ → Option Side  -- by bus, then post: the end that carries the pair, none where it is absent

-- sizes of at most 256, and nothing stands outside them
pub record Bounded (m : Meaning) : Type 0 where
  pub few_buses : m.buses ≤ 256
  pub few_posts : m.posts ≤ 256
  pub no_bus : (b p : ℕ) → m.buses ≤ b → m.standing b p ≡ None
  pub no_post : (b p : ℕ) → m.posts ≤ p → m.standing b p ≡ None

-- sizes and no pair; a void store means `empty 0 0`
abbrev pub empty : ℕ → ℕ → Meaning
empty buses posts = record { buses = buses; posts = posts; standing = λ b p. None }

-- how a pair stands that this side carries
abbrev pub carried : Side → Option Side
carried side = Some side

-- the other end carries it
abbrev pub other : Option Side → Option Side
other None = None
other (Some Bus) = Some Post
other (Some Post) = Some Bus

-- the same but for one pair
abbrev pub put : ℕ → ℕ → Option Side → Meaning → Meaning
put b p s m = record {
  buses = m.buses;
  posts = m.posts;
  standing = λ c q. cond (c == b && q == p) s (m.standing c q);
}

-- All that blocks, ranks and sides are told of a store: is the pair there, and does the post carry it.
abbrev pub stands : Option Side → Bool
stands s = is_some s

abbrev pub by_post : Option Side → Bool
by_post None = false
by_post (Some Bus) = false
by_post (Some Post) = true

-- how many pairs stand
abbrev pub standing_count : Meaning → ℕ
standing_count m = sum m.buses (λ b. sum m.posts (λ p. bit (stands (m.standing b p))))
