-- What an accepted call promises: its sides were made even first, and then it read or changed them.
use Rattle.std.proofs.Common.{◌≡◌, ℕ, ◌+◌, ◌-◌, ◌≤◌, false, List, [], pos, Some, None, Ok, Option, Result, sym, refl, ap, ◌∙◌, subst, ap₂, arith}
use mathlib.Core.Path.{fun_ext}
use Rattle.std.proofs.lemmas.Bool.{both_ways}
use Rattle.blocks.specs.Sums.{bit}
use Rattle.blocks.specs.Limits.{Limits, Rising}
use Rattle.blocks.specs.Yards.{Yard, add, drop}
use Rattle.blocks.specs.Blocks.{block_at, shortfall_at}
use Rattle.blocks.specs.Ranks.{Raised, Lowered}
use Rattle.blocks.specs.Sides.{OneChainTurned}
use Rattle.blocks.proofs.Sums.{sum_cong}
use Rattle.blocks.proofs.Updates.{ranks_added, ranks_dropped, shortfall_added, shortfall_dropped}
use Rattle.stores.specs.Meaning.{Meaning, pair, stands}
use Rattle.stores.specs.Promises.{Told}
use Rattle.stores.specs.declared.pairs.Side.{Side}
use Rattle.table.specs.declared.faults.TableFault.{TableFault}
use Rattle.table.specs.declared.calls.Call.{Call}
use Rattle.table.specs.declared.calls.Call.TheVariants.{Add, Drop}
use Rattle.table.specs.declared.calls.Answer.{Answer}
use Rattle.table.specs.declared.calls.Answer.TheVariants.{Done, Side as the_side, Block as the_block, Member as the_member}
use Rattle.table.specs.Yards.{yard_of, sides_of}
use Rattle.table.specs.Searches.{marked}
use Rattle.table.specs.Levels.{size}
use Rattle.table.specs.Buses.{SamePairs}
use Rattle.table.specs.Evening.{Settled}
use Rattle.table.specs.Updates.{AddedEven, DroppedEven}
use Rattle.table.specs.Reports.{BlockMarked, count_from, FirstMember}
use Rattle.table.specs.Calls.{model_of, reasons, first, after, Right, RanksMove, SidesTurn, SideTold, Accepted, Promised}
use Rattle.table.proofs.Refusing.{some_none, long, add_checked, drop_checked, told_standing, standing_false}

pub same_yard : (m n : Meaning) → SamePairs m n → yard_of n ≡ yard_of m
same_yard m n s i = record { buses = s.buses i; posts = s.posts i; paired = fun_ext (λ b. fun_ext (λ p. s.same b p)) i }

pub same_size : (m n : Meaning) → SamePairs m n → size n ≡ size m
same_size m n s = ap₂ ◌+◌ s.buses s.posts

-- a call to which no reason to refuse applies
accept : {A : Type 0} (reply : A → Answer) (L : Limits) (bytes : ℕ) (c : Call) (m n : Meaning) (room room' : ℕ) (r : Result A TableFault)
    → size m ≤ bytes → first (reasons (model_of m room) c) ≡ None → Accepted reply L c m n room room' r → Promised reply L bytes c m n room room' r
accept reply L bytes c m n room room' r w e a = record {
  refused = λ f h. absurd (some_none f (sym h ∙ long m room bytes c w ∙ e));
  accepted = λ _. a;
}

-- a call that changes no pair: all it does to the store is to make the sides even
pub reported : {A : Type 0} (reply : A → Answer) (L : Limits) (bytes : ℕ) (c : Call) (m n : Meaning) (room room' : ℕ) (answer : A)
    → size m ≤ bytes → first (reasons (model_of m room) c) ≡ None → Settled m n L → room' ≡ room
    → after c (model_of m room) ≡ model_of m room → ((Z : Yard) → Z ≡ yard_of m → RanksMove L c (yard_of m) Z) → (n ≡ m → SidesTurn c m n)
    → Right L (yard_of n) n c (reply answer) → Promised reply L bytes c m n room room' (Ok answer)
reported reply L bytes c m n room room' answer w e s k still ranks sides right =
    let y = same_yard m n s.pairs in
    accept reply L bytes c m n room room' (Ok answer) w e
    (record {
      answer = answer;
      answered = refl;
      right = right;
      model = (λ i. record { yard = y i; room = k i }) ∙ sym still;
      ranks = ranks (yard_of n) y;
      even = s.even;
      sides = λ h. sides (s.same h);
    })

-- an addition and a drop: the sides were made even first, from m to k
module _ (L : Limits) (rising : Rising L) (bytes : ℕ) (m k n : Meaning) (room room₁ room' : ℕ) (s : Settled m k L) (same-room : room₁ ≡ room) (b p : ℕ) where
  pub added : size m ≤ bytes → first (reasons (model_of m room) (Add (pair b p))) ≡ None → AddedEven k n L b p → room' + 1 ≡ room₁
      → Promised (λ (_ : Unit {0}). Done) L bytes (Add (pair b p)) m n room room' (Ok tt)
  added w none a left =
      let fits = add_checked m room b p none in
      let absent : (yard_of m).paired b p ≡ false = ap stands fits.absent in
      let y : yard_of n ≡ add b p (yard_of m) = a.yard ∙ ap (add b p) (same_yard m k s.pairs) in
      let r : room' ≡ room - 1 = omega arith in
      accept (λ (_ : Unit {0}). Done) L bytes (Add (pair b p)) m n room room' (Ok tt) w none
      (record {
        answer = tt;
        answered = refl;
        right = refl;
        model = λ i. record { yard = y i; room = r i };
        ranks = (
          subst (Raised (pos 1) L b (yard_of m)) (sym y) (ranks_added (yard_of m) L rising b p fits.bus fits.post absent),
          λ a. subst (λ Z. shortfall_at Z L a ≤ shortfall_at (yard_of m) L a + 1) (sym y) (shortfall_added (yard_of m) L b p fits.bus fits.post absent a).1,
        );
        even = a.even;
        sides = λ h. subst (λ z. OneChainTurned (yard_of z) (yard_of z).paired (sides_of z) (sides_of n)) (s.same h) a.chain;
      })

  pub dropped : size m ≤ bytes → first (reasons (model_of m room) (Drop (pair b p))) ≡ None → DroppedEven k n L b p → room' ≡ room₁ + 1
      → Promised (λ (_ : Unit {0}). Done) L bytes (Drop (pair b p)) m n room room' (Ok tt)
  dropped w none d more =
      let fits = drop_checked m room b p none in
      let y : yard_of n ≡ drop b p (yard_of m) = d.yard ∙ ap (drop b p) (same_yard m k s.pairs) in
      let r : room' ≡ room + 1 = omega arith in
      accept (λ (_ : Unit {0}). Done) L bytes (Drop (pair b p)) m n room room' (Ok tt) w none
      (record {
        answer = tt;
        answered = refl;
        right = refl;
        model = λ i. record { yard = y i; room = r i };
        ranks = (
          subst (Lowered (pos 1) L b (yard_of m)) (sym y) (ranks_dropped (yard_of m) L rising b p fits.bus fits.post fits.held),
          λ a. subst (λ Z. shortfall_at (yard_of m) L a ≤ shortfall_at Z L a + 1) (sym y) (shortfall_dropped (yard_of m) L b p fits.bus fits.post fits.held a).1,
        );
        even = d.even;
        sides = λ h. subst (λ z. OneChainTurned (yard_of z) (yard_of n).paired (sides_of z) (sides_of n)) (s.same h)
            (subst (λ Z. OneChainTurned (yard_of k) Z.paired (sides_of k) (sides_of n)) (sym d.yard) d.chain);
      })

-- what is read off the marks of a block
module _ (m : Meaning) (L : Limits) (a : ℕ) (marks : List ℕ) (of-block : BlockMarked m L a marks) where
  block_counted : (start count : ℕ) → start + count ≤ size m → count_from (marked marks) start count ≡ count_from (block_at (yard_of m) L a) start count
  block_counted start count h =
      sum_cong count (λ k. bit (marked marks (start + k))) (λ k. bit (block_at (yard_of m) L a (start + k))) (λ k w. ap bit (of-block (start + k) (omega arith)))

  pub block_both : (buses posts x y : ℕ) → buses ≡ m.buses → posts ≡ m.posts → x ≡ count_from (marked marks) 0 buses → y ≡ count_from (marked marks) buses posts
      → the_block x y ≡ the_block (count_from (block_at (yard_of m) L a) 0 m.buses) (count_from (block_at (yard_of m) L a) m.buses m.posts)
  block_both buses posts x y eb ep ex ey =
      ap₂ the_block (ex ∙ ap (count_from (marked marks) 0) eb ∙ block_counted 0 m.buses (omega arith))
      (ey ∙ ap₂ (count_from (marked marks)) eb ep ∙ block_counted m.buses m.posts (omega arith))

  block_first : (start : ℕ) (r : Option ℕ) → FirstMember (marked marks) start (size m) r → FirstMember (block_at (yard_of m) L a) start (size m) r
  block_first start None f = λ k h w. sym (of-block k w) ∙ f k h w
  block_first start (Some n) f = (f.0, f.1, sym (of-block n f.1) ∙ f.2, λ k h w. sym (of-block k (omega (arith, f.1))) ∙ f.3 k h w)

  pub block_member : (start nodes : ℕ) (r : Option ℕ) → nodes ≡ size m → FirstMember (marked marks) start nodes r
      → (k : Option ℕ) × (the_member r ≡ the_member k) × FirstMember (block_at (yard_of m) L a) start (size m) k
  block_member start nodes r e f = (r, refl, block_first start r (subst (λ (n : ℕ). FirstMember (marked marks) start n r) e f))

-- what a store tells of a pair is what side answers
pub side_told : (m : Meaning) (b p : ℕ) (s : Option Side) → Told m b p (Ok s) → (t : Option Side) × (the_side s ≡ the_side t) × SideTold (yard_of m) m b p t
side_told m b p s t =
    let e = (told_standing m b p [] s t).3 in (
      s,
      refl,
      record {
        absent = λ h. standing_false s (sym (ap stands e) ∙ h);
        there = λ h k. both_ways (stands s) (ap stands k) (sym (ap stands e) ∙ h);
        held = sym e;
      },
    )
