-- What the calls of a table promise. The reference model keeps only the pairs and the room; everything a call answers or refuses is
-- told from that, the rule's limits, the call's arguments and the number of its working bytes. Only `side` also asks the store.
use Rattle.std.specs.Prelude.{◌≡◌, ℕ, ◌+◌, ◌-◌, ◌≤◌, Bool, true, false, cond, not, List, [], ◌∷◌, pos, Some, None, Ok, Err, Option, Result, ◌≢◌, nat_eq, nat_le, nat_lt}
use Rattle.blocks.specs.Limits.{Limits}
use Rattle.blocks.specs.Yards.{Yard, nodes, add, drop}
use Rattle.blocks.specs.Blocks.{block_at, shortfall_at}
use Rattle.blocks.specs.Ranks.{rank, Raised, Lowered}
use Rattle.blocks.specs.Sides.{OneChainTurned}
use Rattle.stores.specs.Meaning.{Meaning}
use Rattle.stores.specs.declared.pairs.Side.{Side}
use Rattle.stores.specs.declared.faults.StoreFault.TheVariants.{NoBus, NoPost, Stands, Absent as NotStanding, Full}
use Rattle.table.specs.declared.faults.TableFault.{TableFault}
use Rattle.table.specs.declared.faults.TableFault.TheVariants.{Level, Bytes, Node, Store}
use Rattle.table.specs.declared.calls.Call.{Call}
use Rattle.table.specs.declared.calls.Call.TheVariants.{Settle, Add, Drop, Side as asks_side, Rank, Block, Member, Shortfall}
use Rattle.table.specs.declared.calls.Answer.{Answer}
use Rattle.table.specs.declared.calls.Answer.TheVariants.{Done, Side as the_side, Rank as the_rank, Block as the_block, Member as the_member, Shortfall as the_shortfall}
use Rattle.table.specs.Yards.{yard_of, sides_of}
use Rattle.table.specs.Evening.{EvenSides}
use Rattle.table.specs.Reports.{count_from, FirstMember}

-- the reference model: which pairs stand, and how many places are free
pub record Model : Type 0 where
  pub yard : Yard
  pub room : ℕ

-- what a store tells the model
abbrev pub model_of : Meaning → ℕ → Model
model_of m room = record { yard = yard_of m; room = room }

-- one reason to refuse: when it applies, and the fault
pub record Reason : Type 0 where
  pub applies : Bool
  pub fault : TableFault

infix 90 ◌⇒◌
abbrev pub ◌⇒◌ : Bool → TableFault → Reason
t ⇒ f = record { applies = t; fault = f }

-- the first that applies
abbrev pub first : List Reason → Option TableFault
first [] = None
first (r ∷ rs) = cond r.applies (Some r.fault) (first rs)

-- the reasons to refuse a call that has working bytes enough, in their order
abbrev pub reasons : Model → Call → List Reason
reasons M Settle = []
reasons M (Add q) =
    nat_le M.yard.buses q.bus ⇒ Store (NoBus q)
    ∷ nat_le M.yard.posts q.post ⇒ Store (NoPost q)
    ∷ M.yard.paired q.bus q.post ⇒ Store (Stands q)
    ∷ nat_eq M.room 0 ⇒ Store (Full q)
    ∷ []
reasons M (Drop q) =
    nat_le M.yard.buses q.bus ⇒ Store (NoBus q)
    ∷ nat_le M.yard.posts q.post ⇒ Store (NoPost q)
    ∷ not (M.yard.paired q.bus q.post) ⇒ Store (NotStanding q)
    ∷ []
reasons M (asks_side q) = nat_le M.yard.buses q.bus ⇒ Store (NoBus q) ∷ nat_le M.yard.posts q.post ⇒ Store (NoPost q) ∷ []
reasons M (Rank n) = nat_le (nodes M.yard) n ⇒ Node n ∷ []
reasons M (Block a) = nat_lt 255 a ⇒ Level a ∷ []
reasons M (Member a n) = nat_lt 255 a ⇒ Level a ∷ []
reasons M (Shortfall a) = nat_lt 255 a ⇒ Level a ∷ []

-- the refusal of a call over so many working bytes, if any
abbrev pub refusal : Model → ℕ → Call → Option TableFault
refusal M bytes c = first (nat_lt bytes (nodes M.yard) ⇒ Bytes bytes ∷ reasons M c)

-- the model after an accepted call
abbrev pub after : Call → Model → Model
after Settle M = M
after (Add q) M = record { yard = add q.bus q.post M.yard; room = M.room - 1 }
after (Drop q) M = record { yard = drop q.bus q.post M.yard; room = M.room + 1 }
after (asks_side q) M = M
after (Rank n) M = M
after (Block a) M = M
after (Member a n) M = M
after (Shortfall a) M = M

-- what side answers: absent for a pair that is not in the model, else the side that the store holds
pub record SideTold (Y : Yard) (m : Meaning) (b p : ℕ) (s : Option Side) : Type 0 where
  pub absent : Y.paired b p ≡ false → s ≡ None
  pub there : Y.paired b p ≡ true → s ≢ None
  pub held : s ≡ m.standing b p

-- the right answer of an accepted call, where the store ends with the meaning m
abbrev pub Right : Limits → Yard → Meaning → Call → Answer → Type 0
Right L Y m Settle r = r ≡ Done
Right L Y m (Add q) r = r ≡ Done
Right L Y m (Drop q) r = r ≡ Done
Right L Y m (asks_side q) r = (s : Option Side) × (r ≡ the_side s) × SideTold Y m q.bus q.post s
Right L Y m (Rank n) r = r ≡ the_rank (rank Y L n)
Right L Y m (Block a) r = r ≡ the_block (count_from (block_at Y L a) 0 Y.buses) (count_from (block_at Y L a) Y.buses Y.posts)
Right L Y m (Member a n) r = (k : Option ℕ) × (r ≡ the_member k) × FirstMember (block_at Y L a) n (nodes Y) k
Right L Y m (Shortfall a) r = r ≡ the_shortfall (shortfall_at Y L a)

-- an addition raises only ranks that stood at one common rank, each by one, and no shortfall by more than one; a drop likewise
-- lowers them; the named bus is exempt, and never goes the wrong way; no other call moves any
abbrev pub RanksMove : Limits → Call → Yard → Yard → Type 0
RanksMove L Settle Y Z = Z ≡ Y
RanksMove L (Add q) Y Z = Raised (pos 1) L q.bus Y Z × ((a : ℕ) → shortfall_at Z L a ≤ shortfall_at Y L a + 1)
RanksMove L (Drop q) Y Z = Lowered (pos 1) L q.bus Y Z × ((a : ℕ) → shortfall_at Y L a ≤ shortfall_at Z L a + 1)
RanksMove L (asks_side q) Y Z = Z ≡ Y
RanksMove L (Rank n) Y Z = Z ≡ Y
RanksMove L (Block a) Y Z = Z ≡ Y
RanksMove L (Member a n) Y Z = Z ≡ Y
RanksMove L (Shortfall a) Y Z = Z ≡ Y

-- from m to n: of the pairs that stand before and after an addition or a drop, exactly those of one chain have turned, as the sides
-- stood before; any other call turns none
abbrev pub SidesTurn : Call → Meaning → Meaning → Type 0
SidesTurn Settle m n = n ≡ m
SidesTurn (Add q) m n = OneChainTurned (yard_of m) (yard_of m).paired (sides_of m) (sides_of n)
SidesTurn (Drop q) m n = OneChainTurned (yard_of m) (yard_of n).paired (sides_of m) (sides_of n)
SidesTurn (asks_side q) m n = n ≡ m
SidesTurn (Rank k) m n = n ≡ m
SidesTurn (Block a) m n = n ≡ m
SidesTurn (Member a k) m n = n ≡ m
SidesTurn (Shortfall a) m n = n ≡ m

-- refused: the fault, and nothing has changed
pub record Refused {A : Type 0} (m n : Meaning) (room room' : ℕ) (f : TableFault) (r : Result A TableFault) : Type 0 where
  pub fault : r ≡ Err f
  pub meaning : n ≡ m
  pub room_same : room' ≡ room

-- accepted: the right answer, the model's pairs and room, even sides; `reply` is the answer that it counts as
pub record Accepted {A : Type 0} (reply : A → Answer) (L : Limits) (c : Call) (m n : Meaning) (room room' : ℕ) (r : Result A TableFault) : Type 0 where
  pub answer : A
  pub answered : r ≡ Ok answer
  pub right : Right L (yard_of n) n c (reply answer)
  pub model : model_of n room' ≡ after c (model_of m room)
  pub ranks : RanksMove L c (yard_of m) (yard_of n)
  pub even : EvenSides n L
  pub sides : EvenSides m L → SidesTurn c m n

-- What a call promises, over the store's meaning and room before and after: it is refused exactly if a reason applies, by the first.
pub record Promised {A : Type 0} (reply : A → Answer) (L : Limits) (bytes : ℕ) (c : Call) (m n : Meaning) (room room' : ℕ) (r : Result A TableFault) : Type 0 where
  pub refused : (f : TableFault) → refusal (model_of m room) bytes c ≡ Some f → Refused m n room room' f r
  pub accepted : refusal (model_of m room) bytes c ≡ None → Accepted reply L c m n room room' r
