-- Which reason to refuse applies first, and what a refused call promises.
use Rattle.std.proofs.Common.{◌≡◌, ℕ, ◌<◌, ◌≤◌, Bool, true, false, not, eqb, ltb, leb, List, [], ◌∷◌, Some, None, Ok, refl, ◌∙◌, inl, inr, arith, Option}
use Rattle.std.proofs.lemmas.Bool.{cases_lt, both_ways, lt-ltb, le-ltb, lt-leb, leb-false, eqb-false, not-false, cond-true, cond-false}
use Rattle.stores.specs.Meaning.{Meaning, pair, stands}
use Rattle.stores.specs.Promises.{Told}
use Rattle.stores.specs.declared.pairs.Side.{Side}
use Rattle.stores.specs.declared.pairs.Side.TheVariants.{Bus, Post}
use Rattle.stores.specs.declared.faults.StoreFault.TheVariants.{NoBus, NoPost, Stands, Absent as NotStanding, Full}
use Rattle.table.specs.declared.faults.TableFault.{TableFault}
use Rattle.table.specs.declared.faults.TableFault.TheVariants.{Level, Bytes, Store}
use Rattle.table.specs.declared.calls.Call.{Call}
use Rattle.table.specs.declared.calls.Call.TheVariants.{Add, Drop}
use Rattle.table.specs.Levels.{size}
use Rattle.table.specs.Updates.{Addable, Droppable}
use Rattle.table.specs.Calls.{model_of, Reason, ◌⇒◌, first, reasons, refusal}

-- a reason that applies is the first; one that does not is passed over
pub applies : (t : Bool) (f : TableFault) (rs : List Reason) → t ≡ true → first (t ⇒ f ∷ rs) ≡ Some f
applies t f rs e = cond-true t (Some f) (first rs) e

pub passes : (t : Bool) (f : TableFault) (rs : List Reason) → t ≡ false → first (t ⇒ f ∷ rs) ≡ first rs
passes t f rs e = cond-false t (Some f) (first rs) e

pub some_none : {A : Type 0} (x : A) → Some x ≡ None → ⊥
some_none x e = let z : ◌≡◌ {A = ℕ} 0 1 = cc in omega arith

-- where no reason applies, the first does not
pub none_applies : (t : Bool) (f : TableFault) (rs : List Reason) → first (t ⇒ f ∷ rs) ≡ None → (t ≡ false) × (first rs ≡ None)
none_applies true f rs e = absurd (some_none f e)
none_applies false f rs e = (refl, e)

module _ (m : Meaning) (room bytes : ℕ) (c : Call) where
  short : bytes < size m → refusal (model_of m room) bytes c ≡ Some (Bytes bytes)
  short h = applies (ltb bytes (size m)) (Bytes bytes) (reasons (model_of m room) c) (lt-ltb bytes (size m) h)

  pub long : size m ≤ bytes → refusal (model_of m room) bytes c ≡ first (reasons (model_of m room) c)
  long h = passes (ltb bytes (size m)) (Bytes bytes) (reasons (model_of m room) c) (le-ltb bytes (size m) h)

-- how a pair stands tells whether it does
pub standing_false : (s : Option Side) → stands s ≡ false → s ≡ None
standing_false None h = refl
standing_false (Some Bus) h = absurd (both_ways true h refl)
standing_false (Some Post) h = absurd (both_ways true h refl)

nonzero : (n : ℕ) → (n ≡ 0 → ⊥) → 0 < n
nonzero n h = elim (cases_lt 0 n) [
  | inl k ↦ k
  | inr k ↦ absurd (h (omega arith))
]

-- the reasons that name a pair, by what a store tells of it
module _ (m : Meaning) (b p : ℕ) (rs : List Reason) where
  bus_in : b < m.buses → first (leb m.buses b ⇒ Store (NoBus (pair b p)) ∷ leb m.posts p ⇒ Store (NoPost (pair b p)) ∷ rs) ≡ first (leb m.posts p ⇒ Store (NoPost (pair b p)) ∷ rs)
  bus_in h = passes (leb m.buses b) (Store (NoBus (pair b p))) (leb m.posts p ⇒ Store (NoPost (pair b p)) ∷ rs) (lt-leb m.buses b h)

  post_in : p < m.posts → first (leb m.posts p ⇒ Store (NoPost (pair b p)) ∷ rs) ≡ first rs
  post_in h = passes (leb m.posts p) (Store (NoPost (pair b p))) rs (lt-leb m.posts p h)

  pub told_standing : (s : Option Side) → Told m b p (Ok s)
      → (first (leb m.buses b ⇒ Store (NoBus (pair b p)) ∷ leb m.posts p ⇒ Store (NoPost (pair b p)) ∷ rs) ≡ first rs) × (b < m.buses) × (p < m.posts) × (m.standing b p ≡ s)
  told_standing s t = elim (cases_lt b m.buses) [
    | inr h ↦ let e = t.no_bus h in let z : ◌≡◌ {A = ℕ} 0 1 = cc in absurd (omega arith)
    | inl h ↦ elim (cases_lt p m.posts) [
      | inr j ↦ let e = t.no_post h j in let z : ◌≡◌ {A = ℕ} 0 1 = cc in absurd (omega arith)
      | inl j ↦ let e = t.tells h j in (bus_in h ∙ post_in j, h, j, cc)
    ]
  ]

  pub pair_named : first (leb m.buses b ⇒ Store (NoBus (pair b p)) ∷ leb m.posts p ⇒ Store (NoPost (pair b p)) ∷ rs) ≡ None → (b < m.buses) × (p < m.posts) × (first rs ≡ None)
  pair_named e =
      let x = none_applies (leb m.buses b) (Store (NoBus (pair b p))) (leb m.posts p ⇒ Store (NoPost (pair b p)) ∷ rs) e in
      let y = none_applies (leb m.posts p) (Store (NoPost (pair b p))) rs x.1 in
      (leb-false m.buses b x.0, leb-false m.posts p y.0, y.1)

module _ (m : Meaning) (room b p : ℕ) where
  pub add_checked : first (reasons (model_of m room) (Add (pair b p))) ≡ None → Addable m room b p
  add_checked e =
      let x = pair_named m b p (stands (m.standing b p) ⇒ Store (Stands (pair b p)) ∷ eqb room 0 ⇒ Store (Full (pair b p)) ∷ []) e in
      let y = none_applies (stands (m.standing b p)) (Store (Stands (pair b p))) (eqb room 0 ⇒ Store (Full (pair b p)) ∷ []) x.2 in
      let z = none_applies (eqb room 0) (Store (Full (pair b p))) [] y.1 in
      record { bus = x.0; post = x.1; absent = standing_false (m.standing b p) y.0; place = nonzero room (eqb-false room 0 z.0) }

  pub drop_checked : first (reasons (model_of m room) (Drop (pair b p))) ≡ None → Droppable m b p
  drop_checked e =
      let x = pair_named m b p (not (stands (m.standing b p)) ⇒ Store (NotStanding (pair b p)) ∷ []) e in
      let y = none_applies (not (stands (m.standing b p))) (Store (NotStanding (pair b p))) [] x.2 in
      record { bus = x.0; post = x.1; held = not-false (stands (m.standing b p)) y.0 }

pub level_passes : (a : ℕ) → a ≤ 255 → first (ltb 255 a ⇒ Level a ∷ []) ≡ None
level_passes a h = passes (ltb 255 a) (Level a) [] (le-ltb 255 a h)
