-- The order of pairs, and what a binary search finds among entries that ascend.
use Rattle.std.proofs.Common.{◌≡◌, ℕ, ◌<◌, ◌≤◌, false, List, length, Result, Ok, Err, sym, ◌∙◌, inl, inr, arith}
use Rattle.std.specs.List.{All}
use Rattle.std.specs.List.Sorted.{IsSearchInRange, IsBinarySearchResult, IsNonDecreasingBy}
use Rattle.std.specs.Ordering.{nat_cmp, ordering_index}
use Rattle.std.specs.declared.cmp.Ordering.TheVariants.{Less, Equal, Greater}
use Rattle.std.proofs.lemmas.Bool.{cases_lt}
use Rattle.std.proofs.lemmas.Bool.Decides.{nat_tests}
use Rattle.stores.specs.declared.pairs.Pair.{Pair}
use Rattle.rolls.specs.declared.Entry.{Entry}
use Rattle.rolls.specs.Rolls.{Ascending, Found, key, pair_cmp, names}

-- pairs that ascend are not one another's
pub apart : (x y : Pair) → pair_cmp x y ≡ Less → (names x y.bus y.post ≡ false) × (names y x.bus x.post ≡ false)
apart x y less = (grind (arith, nat_tests), grind (arith, nat_tests))

pub flipped : (x y : Pair) → pair_cmp x y ≡ Greater → pair_cmp y x ≡ Less
flipped x y more = grind (arith, nat_tests)

same_pair : (x y : Pair) → pair_cmp x y ≡ Equal → x ≡ y
same_pair x y e = grind (arith, nat_tests)

rising : (x y q : Pair) → pair_cmp x y ≡ Less → ordering_index (pair_cmp x q) ≤ ordering_index (pair_cmp y q)
rising x y q less = grind (arith, nat_tests)

pub searched : (xs : List Entry) (q : Pair) → Ascending xs → (r : Result ℕ ℕ)
    → IsSearchInRange r (length xs) → IsBinarySearchResult (λ e. pair_cmp e.pair q) xs r → Found xs q r
searched xs q asc (Ok i) within equal = record { within = within; same = λ d. same_pair _ q (equal d) }
searched xs q asc (Err i) within parted = record { within = within; parts = parted rises }
  where
    rises : IsNonDecreasingBy (λ e. ordering_index (pair_cmp e.pair q)) xs
    rises i j d le w = elim (cases_lt i j) [
      | inl lt ↦ rising _ _ q (asc i j d lt w)
      | inr ge ↦ let same : i ≡ j = omega arith in rw same (omega arith)
    ]

-- the keys of two pairs are in the order of the pairs
pub by_key : (x y : Pair) → x.post < 65536 → y.post < 65536 → nat_cmp (key x) (key y) ≡ pair_cmp x y
by_key x y few_x few_y = grind (arith, nat_tests)

-- so a search by keys is one by pairs
pub keys_searched : (xs : List Entry) (q : Pair) → All (λ e. nat_cmp (key e.pair) (key q) ≡ pair_cmp e.pair q) xs → (r : Result ℕ ℕ)
    → IsSearchInRange r (length xs) → IsBinarySearchResult (λ e. nat_cmp (key e.pair) (key q)) xs r → IsBinarySearchResult (λ e. pair_cmp e.pair q) xs r
keys_searched xs q keyed (Ok i) within equal = λ d. sym (keyed i d within) ∙ equal d
keys_searched xs q keyed (Err i) within parted = λ rises.
    let parts = parted (λ i j d le w. rw (keyed i d (omega arith), keyed j d w) (rises i j d le w)) in
    (λ k d low lt. sym (keyed k d (omega arith)) ∙ parts.0 k d low lt, λ k d ge lt. sym (keyed k d lt) ∙ parts.1 k d ge lt)
