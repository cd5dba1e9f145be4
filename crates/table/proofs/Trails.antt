-- The way back from a place of the queue, and the pairs on it turned one after the other.
use Rattle.std.proofs.Common.{◌≡◌, ℕ, zero, suc, ◌+◌, ◌-◌, ◌<◌, Bool, true, false, cond, not, ◌&&◌, ◌||◌, eqb, List, [], ◌∷◌, sym, refl, ap, ◌∙◌, subst, ap₂, inl, inr, arith, Some, None, Option}
use mathlib.Core.Path.{fun_ext}
use Rattle.std.proofs.lemmas.Bool.{cases_Bool, cases_eq, cases_lt, both_ways, eqb-true, and_parts}
use Rattle.std.proofs.lemmas.Bool.Decides.{nat_tests}
use Rattle.blocks.specs.Chains.{NoneOf, next_in}
use Rattle.blocks.specs.Sides.{in_chain}
use Rattle.blocks.proofs.Chains.{next_absent}
use Rattle.blocks.proofs.Flips.{low, high, from_bus, from_post}
use Rattle.stores.specs.Meaning.{Meaning, put, other, stands, by_post}
use Rattle.stores.specs.declared.pairs.Side.{Side}
use Rattle.stores.specs.declared.pairs.Side.TheVariants.{Bus, Post}
use Rattle.table.specs.Yards.{leads_of, joined, along, yard_of, sides_of}
use Rattle.table.specs.declared.queues.Queue.{Queue}
use Rattle.table.specs.Searches.{len, node, from, Ends, PairTurned, Trail, at_start, earlier, OverPairs, TurnedBack}

module _ (m : Meaning) (q : Queue) (over : OverPairs m q) where
  -- there is a way back from each place
  pub trail_from : (fuel i : ℕ) → i < fuel → i < len q → (vs : List ℕ) × Trail q i vs
  trail_from zero i f l = absurd (omega arith)
  trail_from (suc fuel) i f l = elim (over.paired i l) [
    | inl e ↦ ([], at_start e)
    | inr h ↦ let k = h.0 in let t = trail_from fuel (from q i) (omega arith) (omega arith) in (node q (from q i) ∷ t.0, earlier k t.1)
  ]

  -- a node found later is not on it
  pub trail_none : {i : ℕ} {vs : List ℕ} → Trail q i vs → (j : ℕ) → i < j → j < len q → NoneOf (node q j) (node q i ∷ vs)
  trail_none {i} (at_start e) j h l = ((λ s. let k = over.once j i l (omega arith) s in omega arith), tt)
  trail_none {i} (earlier k t) j h l = ((λ s. let z = over.once j i l (omega arith) s in omega arith), trail_none t j (omega arith) l)

no_start : (q : Queue) (i : ℕ) (vs : List ℕ) → Trail q i vs → from q i ≡ i → vs ≡ []
no_start q i vs (at_start e) s = refl
no_start q i vs (earlier k t) s = absurd (omega arith)

-- where the way goes on, its next place and the rest
pub goes_on : (q : Queue) (i : ℕ) (vs : List ℕ) → Trail q i vs → (from q i ≡ i → ⊥) → (from q i < i) × ((ws : List ℕ) × Trail q (from q i) ws × (vs ≡ node q (from q i) ∷ ws))
goes_on q i vs (at_start e) s = absurd (s e)
goes_on q i vs (earlier {vs = ws} k t) s = (k, (ws, t, refl))

pub ends_here : (q : Queue) (i : ℕ) (vs : List ℕ) (m : Meaning) → Trail q i vs → from q i ≡ i → along (node q i) vs m ≡ m
ends_here q i vs m t e = ap (λ ws. along (node q i) ws m) (no_start q i vs t e)

-- the pair of x and y turned: what is left to turn of the chain is the rest
module _ (m : Meaning) (x y : ℕ) (ws : List ℕ) (b p : ℕ) (ends : Ends m.buses x y b p) (lb : b < m.buses) (none : NoneOf x (y ∷ ws)) where
  rest_lacks : in_chain m.buses y ws b p ≡ false
  rest_lacks = elim ends [
    | inl e ↦
        let n = next_absent x y ws none (m.buses + p) in
        let i : next_in y ws b (m.buses + p) ≡ false = ap (λ z. next_in y ws z (m.buses + p)) (sym e.0) ∙ n.0 in
        let j : next_in y ws (m.buses + p) b ≡ false = ap (next_in y ws (m.buses + p)) (sym e.0) ∙ n.1 in
        grind arith
    | inr e ↦
        let n = next_absent x y ws none b in
        let i : next_in y ws (m.buses + p) b ≡ false = ap (λ z. next_in y ws z b) (sym e.0) ∙ n.0 in
        let j : next_in y ws b (m.buses + p) ≡ false = ap (next_in y ws b) (sym e.0) ∙ n.1 in
        grind arith
  ]

  whole_has : in_chain m.buses x (y ∷ ws) b p ≡ true
  whole_has = elim ends [
    | inl e ↦ let i = e.0 in let j = e.1 in grind (arith, nat_tests)
    | inr e ↦ let i = e.0 in let j = e.1 in grind (arith, nat_tests)
  ]

  elsewhere : (c q : ℕ) → (c ≡ b → q ≡ p → ⊥) → in_chain m.buses x (y ∷ ws) c q ≡ in_chain m.buses y ws c q
  elsewhere c q d = elim ends [
    | inl e ↦ let i = e.0 in let j = e.1 in grind (arith, nat_tests)
    | inr e ↦ let i = e.0 in let j = e.1 in grind (arith, nat_tests)
  ]

  at_pair : (i j : Bool) (s : Option Side) → i ≡ false → j ≡ true → cond i (other (other s)) (other s) ≡ cond j (other s) s
  at_pair i j s e f = ap (λ t. cond t (other (other s)) (other s)) e ∙ sym (ap (λ t. cond t (other s) s) f)

  hit : eqb b b && eqb p p ≡ true
  hit = grind (arith, nat_tests)

  at : (c q : ℕ) → (along y ws (put b p (other (m.standing b p)) m)).standing c q ≡ (along x (y ∷ ws) m).standing c q
  at c q = elim (cases_eq c b) [
    | inl e ↦ elim (cases_eq q p) [
      | inl f ↦
          let here : (along y ws (put b p (other (m.standing b p)) m)).standing b p ≡ (along x (y ∷ ws) m).standing b p =
          ap (λ t. cond (in_chain m.buses y ws b p) (other (cond t (other (m.standing b p)) (m.standing b p))) (cond t (other (m.standing b p)) (m.standing b p))) hit
          ∙ at_pair (in_chain m.buses y ws b p) (in_chain m.buses x (y ∷ ws) b p) (m.standing b p) rest_lacks whole_has in
          subst (λ c. (along y ws (put b p (other (m.standing b p)) m)).standing c q ≡ (along x (y ∷ ws) m).standing c q) (sym e)
          (subst (λ q. (along y ws (put b p (other (m.standing b p)) m)).standing b q ≡ (along x (y ∷ ws) m).standing b q) (sym f) here)
      | inr f ↦ off (eqb c b && eqb q p) (in_chain m.buses y ws c q) (in_chain m.buses x (y ∷ ws) c q) (other (m.standing b p)) (m.standing c q) (grind (arith, nat_tests)) (elsewhere c q (λ _ g. f g))
    ]
    | inr e ↦ off (eqb c b && eqb q p) (in_chain m.buses y ws c q) (in_chain m.buses x (y ∷ ws) c q) (other (m.standing b p)) (m.standing c q) (grind (arith, nat_tests)) (elsewhere c q (λ g _. e g))
  ]
    where
      off : (t i j : Bool) (r s : Option Side) → t ≡ false → j ≡ i → cond i (other (cond t r s)) (cond t r s) ≡ cond j (other s) s
      off t i j r s e f = ap (λ k. cond i (other (cond k r s)) (cond k r s)) e ∙ sym (ap (λ k. cond k (other s) s) f)

  pub step_turned : along y ws (put b p (other (m.standing b p)) m) ≡ along x (y ∷ ws) m
  step_turned i = record { buses = m.buses; posts = m.posts; standing = fun_ext (λ c. fun_ext (λ q. at c q)) i }

-- two nodes that are paired are a bus and a post of a pair that stands
pub pair_of : (m : Meaning) (x y : ℕ) → joined m x y ≡ true → (b : ℕ) × (p : ℕ) × Ends m.buses x y b p × (b < m.buses) × (m.standing b p ≡ None → ⊥)
pair_of m x y h = elim (cases_lt x m.buses) [
  | inl xb ↦ elim (cases_lt y m.buses) [
    | inl yb ↦ let e = low m.buses (yard_of m).paired (sides_of m) x y xb yb in let f = low m.buses (yard_of m).paired (sides_of m) y x yb xb in absurd (grind arith)
    | inr yb ↦
        let e = from_bus m.buses (yard_of m).paired (sides_of m) x y xb yb in
        let f = from_post m.buses (yard_of m).paired (sides_of m) y x yb xb in
        (x, y - m.buses, inl (refl, omega arith), xb, λ a. absent_not (m.standing x (y - m.buses)) a (stands_by (stands (m.standing x (y - m.buses))) (by_post (m.standing x (y - m.buses))) h e f))
  ]
  | inr xb ↦ elim (cases_lt y m.buses) [
    | inl yb ↦
        let e = from_post m.buses (yard_of m).paired (sides_of m) x y xb yb in
        let f = from_bus m.buses (yard_of m).paired (sides_of m) y x yb xb in
        (y, x - m.buses, inr (omega arith, refl), yb, λ a. absent_not (m.standing y (x - m.buses)) a (stands_by2 (stands (m.standing y (x - m.buses))) (by_post (m.standing y (x - m.buses))) h e f))
    | inr yb ↦ let e = high m.buses (yard_of m).paired (sides_of m) x y xb yb in let f = high m.buses (yard_of m).paired (sides_of m) y x yb xb in absurd (grind arith)
  ]
]
  where
    absent_not : (s : Option Side) → s ≡ None → stands s ≡ true → ⊥
    absent_not s a e = both_ways (stands s) (ap stands a) e

    stands_by : (p t : Bool) → joined m x y ≡ true → leads_of m x y ≡ (p && t) → leads_of m y x ≡ (p && not t) → p ≡ true
    stands_by p t h e f = grind arith

    stands_by2 : (p t : Bool) → joined m x y ≡ true → leads_of m x y ≡ (p && not t) → leads_of m y x ≡ (p && t) → p ≡ true
    stands_by2 p t h e f = grind arith

other_stands : (t : Option Side) → stands (other t) ≡ stands t
other_stands None = refl
other_stands (Some Bus) = refl
other_stands (Some Post) = refl

-- a pair turned is a pair still
pub turned_joined : (n : Meaning) (b p : ℕ) → b < n.buses → (x y : ℕ) → joined (put b p (other (n.standing b p)) n) x y ≡ joined n x y
turned_joined n b p lb x y = elim (cases_lt x n.buses) [
  | inl xb ↦ elim (cases_lt y n.buses) [
    | inl yb ↦ both_off (low B e s x y xb yb) (low B e s y x yb xb) (low B e' s' x y xb yb) (low B e' s' y x yb xb)
    | inr yb ↦ crossed x (y - n.buses) (from_bus B e s x y xb yb) (from_post B e s y x yb xb) (from_bus B e' s' x y xb yb) (from_post B e' s' y x yb xb)
  ]
  | inr xb ↦ elim (cases_lt y n.buses) [
    | inl yb ↦ crossed_back y (x - n.buses) (from_post B e s x y xb yb) (from_bus B e s y x yb xb) (from_post B e' s' x y xb yb) (from_bus B e' s' y x yb xb)
    | inr yb ↦ both_off (high B e s x y xb yb) (high B e s y x yb xb) (high B e' s' x y xb yb) (high B e' s' y x yb xb)
  ]
]
  where
    B : ℕ
    B = n.buses

    n' : Meaning
    n' = put b p (other (n.standing b p)) n

    e : ℕ → ℕ → Bool
    e = (yard_of n).paired

    s : ℕ → ℕ → Bool
    s = sides_of n

    e' : ℕ → ℕ → Bool
    e' = (yard_of n').paired

    s' : ℕ → ℕ → Bool
    s' = sides_of n'

    same_standing : (c q : ℕ) → stands (n'.standing c q) ≡ stands (n.standing c q)
    same_standing c q = elim (cases_Bool (eqb c b && eqb q p)) [
      | inl h ↦
          let i = and_parts (eqb c b) (eqb q p) h in
          ap (λ t. stands (cond t (other (n.standing b p)) (n.standing c q))) h ∙ other_stands (n.standing b p) ∙ ap₂ (λ u v. stands (n.standing u v)) (sym (eqb-true c b i.0)) (sym (eqb-true q p i.1))
      | inr h ↦ ap (λ t. stands (cond t (other (n.standing b p)) (n.standing c q))) h
    ]

    either_way : (a d f g t u : Bool) → (a ≡ (t && u)) → (d ≡ (t && not u)) → (v : Bool) → f ≡ (t && v) → g ≡ (t && not v) → (f || g) ≡ (a || d)
    either_way a d f g t u p q v r w = grind arith

    both_off : {a d f g : Bool} → a ≡ false → d ≡ false → f ≡ false → g ≡ false → (f || g) ≡ (a || d)
    both_off {a} {d} {f} {g} p q r w = grind arith

    crossed : (c q : ℕ) {a d f g : Bool} → a ≡ (e c q && s c q) → d ≡ (e c q && not (s c q)) → f ≡ (e' c q && s' c q) → g ≡ (e' c q && not (s' c q)) → (f || g) ≡ (a || d)
    crossed c q {a} {d} {f} {g} h i j k =
        either_way a d f g (e c q) (s c q) h i (s' c q) (j ∙ ap (λ t. t && s' c q) (same_standing c q)) (k ∙ ap (λ t. t && not (s' c q)) (same_standing c q))

    crossed_back : (c q : ℕ) {a d f g : Bool} → a ≡ (e c q && not (s c q)) → d ≡ (e c q && s c q) → f ≡ (e' c q && not (s' c q)) → g ≡ (e' c q && s' c q) → (f || g) ≡ (a || d)
    crossed_back c q {a} {d} {f} {g} h i j k = let r = crossed c q i h k j in grind arith

-- On the way back: the pairs that still are to be turned, and that turning them gives what turning all of them at the start gives.
pub record TurningBack (m : Meaning) (q : Queue) (place : ℕ) (n : Meaning) (at : ℕ) : Type 0 where
  pub reached : at < len q
  pub same_pairs : (x y : ℕ) → joined n x y ≡ joined m x y
  pub whole : List ℕ
  pub is_whole : Trail q place whole
  pub left : List ℕ
  pub is_left : Trail q at left
  pub agree : along (node q at) left n ≡ along (node q place) whole m

module _ (m : Meaning) (q : Queue) (place : ℕ) (over : OverPairs m q) where
  pub turning_none : place < len q → TurningBack m q place m place
  turning_none l =
      let t = trail_from m q over (suc place) place (omega arith) l in
      record { reached = l; same_pairs = λ x y. refl; whole = t.0; is_whole = t.1; left = t.0; is_left = t.1; agree = refl }

  module _ (n : Meaning) (at : ℕ) (b : TurningBack m q place n at) where
    pub turning_more : (from q at ≡ at → ⊥) → (k : Meaning) → PairTurned n k (node q (from q at)) (node q at) → TurningBack m q place k (from q at)
    turning_more d k t =
        let g = goes_on q at b.left b.is_left d in
        let lo = g.0 in
        let none = trail_none m q over g.1.1 at lo b.reached in
        let ends = other_way n.buses (node q (from q at)) (node q at) t.bus t.post t.ends in
        record {
          reached = omega (arith, b.reached);
          same_pairs = λ x y. ap (λ z. joined z x y) t.changes ∙ turned_joined n t.bus t.post t.within x y ∙ b.same_pairs x y;
          whole = b.whole;
          is_whole = b.is_whole;
          left = g.1.0;
          is_left = g.1.1;
          agree =
              ap (along (node q (from q at)) g.1.0) t.changes
              ∙ step_turned n (node q at) (node q (from q at)) g.1.0 t.bus t.post ends t.within none
              ∙ ap (λ vs. along (node q at) vs n) (sym g.1.2)
              ∙ b.agree;
        }
      where
        other_way : (B x y b p : ℕ) → Ends B x y b p → Ends B y x b p
        other_way B x y b p (inl e) = inr (e.1, e.0)
        other_way B x y b p (inr e) = inl (e.1, e.0)

    pub turning_end : from q at ≡ at → TurnedBack q place m n
    turning_end e = record { trail = b.whole; is_trail = b.is_whole; changes = sym (ends_here q at b.left n b.is_left e) ∙ b.agree }
