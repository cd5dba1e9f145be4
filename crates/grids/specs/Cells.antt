-- Where a grid keeps its pairs, and what its bits mean. A row a bus, a cell of two bits a post, the most significant bits first.
use Rattle.std.specs.Prelude.{◌≡◌, ℕ, ◌+◌, ◌-◌, ◌*◌, ◌/◌, ◌%◌, ◌^◌, ◌<◌, ◌≤◌, Bool, cond, ◌&&◌, List, length, take, drop, Ok, Err, Result, ◌==◌, ◌≢◌, nat_le, nat_lt, slice_index, Some, None, Option}
use Rattle.blocks.specs.Sums.{bit}
use Rattle.stores.specs.declared.faults.StoreFault.{StoreFault}
use Rattle.stores.specs.declared.pairs.Side.{Side}
use Rattle.stores.specs.declared.pairs.Side.TheVariants.{Bus, Post}
use Rattle.stores.specs.Meaning.{Meaning, empty, stands, by_post, standing_count}

-- the bytes of a row: four cells to a byte, rounded up
abbrev pub row : ℕ → ℕ
row posts = (posts + 3) / 4

-- a bit of a byte, the most significant first
unfoldable pub byte_bit : ℕ → ℕ → ℕ
byte_bit x j = (x / 2 ^ (7 - j)) % 2

-- a bit of all the bytes, counted from the most significant bit of the first
abbrev pub bit_at : List ℕ → ℕ → ℕ
bit_at bytes n = byte_bit (slice_index bytes (n / 8)) (n % 8)

-- which bit is the high one of a pair's cell; the low one follows it
abbrev pub cell_at : ℕ → ℕ → ℕ → ℕ
cell_at posts b p = 8 * (b * row posts) + 2 * p

-- high: the pair stands; low: the post carries it; the low bit of a pair that does not stand means nothing
abbrev pub meant : ℕ → ℕ → Option Side
meant high low = cond (high == 0) None (cond (low == 0) (Some Bus) (Some Post))

-- what the cell from bit n on means
abbrev pub cell_means : List ℕ → ℕ → Option Side
cell_means bytes n = meant (bit_at bytes n) (bit_at bytes (n + 1))

-- sizes from 1 to 256, and bytes enough for the rows
abbrev pub fitting : ℕ → ℕ → ℕ → Bool
fitting len buses posts = nat_lt 0 buses && (nat_lt buses 257 && (nat_lt 0 posts && (nat_lt posts 257 && nat_le (buses * row posts) len)))

-- what the rows mean, at sizes that fit
abbrev pub rows_mean : List ℕ → ℕ → ℕ → Meaning
rows_mean bytes buses posts = record {
  buses = buses;
  posts = posts;
  standing = λ b p. cond (nat_lt b buses && nat_lt p posts) (cell_means bytes (cell_at posts b p)) None;
}

-- a grid has a place for each pair
abbrev pub grid_room : Meaning → ℕ
grid_room m = m.buses * m.posts - standing_count m

-- the row of a bus
abbrev pub row_part : List ℕ → ℕ → ℕ → List ℕ
row_part bytes posts b = take (row posts) (drop (b * row posts) bytes)

-- one cell of a byte has been written, both its bits, and the other six are as they were
pub record ByteWritten (before after k : ℕ) (s : Option Side) : Type 0 where
  pub high : byte_bit after (2 * k) ≡ bit (stands s)
  pub low : byte_bit after (2 * k + 1) ≡ bit (by_post s)
  pub others : (j : ℕ) → j < 8 → (j ≢ 2 * k) → (j ≢ 2 * k + 1) → byte_bit after j ≡ byte_bit before j

-- one cell has been written, both its bits, and every other bit of all the bytes is as it was
pub record CellWritten (before after : List ℕ) (n : ℕ) (s : Option Side) : Type 0 where
  pub high : bit_at after n ≡ bit (stands s)
  pub low : bit_at after (n + 1) ≡ bit (by_post s)
  pub others : (k : ℕ) → (k ≢ n) → (k ≢ n + 1) → bit_at after k ≡ bit_at before k
  pub length_kept : length after ≡ length before

-- the bytes after a call that sets a pair: its cell has been written, or all is as it was
pub record BytesAfter (before after : List ℕ) (n : ℕ) (s : Option Side) (r : Result (Unit {0}) StoreFault) : Type 0 where
  pub done : r ≡ Ok tt → CellWritten before after n s
  pub refused : (f : StoreFault) → r ≡ Err f → after ≡ before

-- no buses, no posts and no room
pub record Void (m : Meaning) : Type 0 where
  pub nothing : m ≡ empty 0 0
  pub no_room : grid_room m ≡ 0

-- what a grid means that has just been made: the rows, where the sizes are in range and the bytes suffice, else nothing
pub record Opened (bytes : List ℕ) (buses posts : ℕ) (m : Meaning) : Type 0 where
  pub whole : 0 < buses → buses ≤ 256 → 0 < posts → posts ≤ 256 → buses * row posts ≤ length bytes → m ≡ rows_mean bytes buses posts
  pub no_buses : buses ≡ 0 → Void m
  pub many_buses : 256 < buses → Void m
  pub no_posts : posts ≡ 0 → Void m
  pub many_posts : 256 < posts → Void m
  pub few_bytes : length bytes < buses * row posts → Void m
