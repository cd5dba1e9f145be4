-- How a sheet of rates is read: one byte for each bus, its limit; then two bytes for each post, its start and its step.
use Rattle.std.specs.Prelude.{◌≡◌, ℕ, ◌+◌, ◌*◌, ◌/◌, ◌%◌, ◌<◌, ◌≤◌, max, Bool, cond, ◌&&◌, List, length, Some, None, Ok, Err, Option, Result, ◌≢◌, nat_lt, slice_index}
use Rattle.blocks.specs.Limits.{Limits}
use Rattle.rules.specs.declared.SheetFault.{SheetFault}
use Rattle.rules.specs.declared.SheetFault.TheVariants.{WrongLength, NoStep}

-- the byte at a place, 0 to 255
abbrev pub byte : List ℕ → ℕ → ℕ
byte sheet i = slice_index sheet i % 256

-- where a post's two bytes begin
abbrev pub place : ℕ → ℕ → ℕ
place buses p = buses + 2 * p

-- a post's two bytes as one number, the most significant first
abbrev pub word : List ℕ → ℕ → ℕ → ℕ
word sheet buses p = byte sheet (place buses p) * 256 + byte sheet (place buses p + 1)

-- its upper ten bits and its lower six
abbrev pub start : ℕ → ℕ
start w = w / 64

abbrev pub step : ℕ → ℕ
step w = w % 64

-- is the bus one of the rule's, and its byte in the sheet
abbrev pub bus_listed : List ℕ → ℕ → ℕ → Bool
bus_listed sheet buses b = nat_lt b buses && nat_lt b (length sheet)

-- is the post one of the rule's, and are both its bytes in the sheet
abbrev pub post_listed : List ℕ → ℕ → ℕ → ℕ → Bool
post_listed sheet buses posts p = nat_lt p posts && nat_lt (place buses p + 1) (length sheet)

-- a post's start, and its step, where 0 counts as 1; a post that is not listed has start 0 and step 1
abbrev pub post_start : List ℕ → ℕ → ℕ → ℕ → ℕ
post_start sheet buses posts p = cond (post_listed sheet buses posts p) (start (word sheet buses p)) 0

abbrev pub post_step : List ℕ → ℕ → ℕ → ℕ → ℕ
post_step sheet buses posts p = cond (post_listed sheet buses posts p) (max (step (word sheet buses p)) 1) 1

-- A bus that is not listed has limit 0; a post's limit is start + step × level.
abbrev pub rated : List ℕ → ℕ → ℕ → Limits
rated sheet buses posts = record {
  bus = λ b. cond (bus_listed sheet buses b) (byte sheet b) 0;
  post = λ a p. post_start sheet buses posts p + post_step sheet buses posts p * a;
}

-- the answer to what stands at a place of the sheet
pub record ByteAt (sheet : List ℕ) (i : ℕ) (r : Option ℕ) : Type 0 where
  pub inside : i < length sheet → r ≡ Some (byte sheet i)
  pub outside : length sheet ≤ i → r ≡ None

-- the answer to what a post's two bytes are
pub record WordAt (sheet : List ℕ) (buses posts p : ℕ) (r : Option ℕ) : Type 0 where
  pub inside : p < posts → place buses p + 1 < length sheet → r ≡ Some (word sheet buses p)
  pub no_post : posts ≤ p → r ≡ None
  pub outside : length sheet ≤ place buses p + 1 → r ≡ None

-- the number of each fault of a sheet
abbrev pub sheet_number : SheetFault → ℕ
sheet_number (WrongLength n) = 41
sheet_number (NoStep p) = 42

-- A sheet is checked: its length first, then the lowest post whose step is 0.
pub record SheetChecked (sheet : List ℕ) (buses posts : ℕ) (r : Result (Unit {0}) SheetFault) : Type 0 where
  pub wrong_length : (length sheet ≢ buses + 2 * posts) → r ≡ Err (WrongLength (length sheet))
  pub no_step : (p : ℕ) → length sheet ≡ buses + 2 * posts → p < posts → step (word sheet buses p) ≡ 0
      → ((q : ℕ) → q < p → step (word sheet buses q) ≢ 0) → r ≡ Err (NoStep p)
  pub sound : length sheet ≡ buses + 2 * posts → ((p : ℕ) → p < posts → step (word sheet buses p) ≢ 0) → r ≡ Ok tt
