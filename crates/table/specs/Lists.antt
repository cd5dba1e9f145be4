-- The claim over every list of calls: what the reference model does with the list, and what the store does beside it.
use Rattle.std.specs.Prelude.{◌≡◌, ℕ, List, [], ◌∷◌, Some, None, Ok, Err, Result}
use Rattle.blocks.specs.Limits.{Limits}
use Rattle.stores.specs.Meaning.{Meaning}
use Rattle.table.specs.declared.faults.TableFault.{TableFault}
use Rattle.table.specs.declared.calls.Call.{Call}
use Rattle.table.specs.declared.calls.Answer.{Answer}
use Rattle.table.specs.declared.calls.Entry.{Entry}
use Rattle.table.specs.Evening.{EvenSides}
use Rattle.table.specs.Calls.{Model, model_of, refusal, after, Right, RanksMove, SidesTurn}

-- what a store holds: its meaning and its room
pub record Held : Type 0 where
  pub means : Meaning
  pub room : ℕ

abbrev pub held : Meaning → ℕ → Held
held m room = record { means = m; room = room }

abbrev pub told : Held → Model
told s = model_of s.means s.room

-- What the model does with a call over so many working bytes: refused by the first reason that applies, and left as it is; else
-- answered rightly, and changed by an addition or a drop. Of the store, m, only `side` is told anything.
pub record Modelled (L : Limits) (M N : Model) (m : Meaning) (bytes : ℕ) (c : Call) (r : Result Answer TableFault) : Type 0 where
  pub refused : (f : TableFault) → refusal M bytes c ≡ Some f → (r ≡ Err f) × (N ≡ M)
  pub accepted : refusal M bytes c ≡ None → (N ≡ after c M) × ((a : Answer) × (r ≡ Ok a) × Right L N.yard m c a)

-- one call of a list: from the model M and the store s to the model N and the store t
pub record Step (L : Limits) (M : Model) (s : Held) (asked made : Entry) (N : Model) (t : Held) : Type 0 where
  pub same_call : made.call ≡ asked.call
  pub same_bytes : made.bytes ≡ asked.bytes
  pub result : Result Answer TableFault
  pub written : made.answer ≡ Some result
  -- every answer and every refusal is the model's
  pub model : Modelled L M N t.means asked.bytes asked.call result
  -- the store has the model's pairs and room, and even sides
  pub holds : told t ≡ N
  pub even : EvenSides t.means L
  -- an addition or a drop moves only ranks that stood at one common rank, each by one, but for the named bus
  pub ranks : refusal M asked.bytes asked.call ≡ None → RanksMove L asked.call M.yard N.yard
  -- it turns exactly the pairs of one chain, as the sides stood before; nothing else turns a side
  pub sides : refusal M asked.bytes asked.call ≡ None → SidesTurn asked.call s.means t.means
  pub untouched : (f : TableFault) → refusal M asked.bytes asked.call ≡ Some f → t ≡ s

-- the calls of a list, one after the other
pub data Run (L : Limits) : Model → Held → List Entry → List Entry → Model → Held → Type 0 where
  done : {M : Model} {s : Held} → Run L M s [] [] M s
  call : {M N O : Model} {s t u : Held} {c d : Entry} {cs ds : List Entry} → Step L M s c d N t → Run L N t cs ds O u → Run L M s (c ∷ cs) (d ∷ ds) O u

-- The model is fed the pairs and the room at the beginning. The sides are made even first, which changes no pair and turns none if
-- they are; from there every call is a step, and the store ends with the model's pairs and room, and with even sides.
pub record ListMade (L : Limits) (before end : Held) (asked made : List Entry) : Type 0 where
  pub start : Held
  pub fed : told start ≡ told before
  pub evened : EvenSides start.means L
  pub unturned : EvenSides before.means L → start.means ≡ before.means
  pub last : Model
  pub run : Run L (told before) start asked made last end
  pub holds : told end ≡ last
  pub even : EvenSides end.means L
