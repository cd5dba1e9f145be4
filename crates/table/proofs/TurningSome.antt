-- Pairs of one bus turned from one side to the other, one after the other.
use Rattle.std.proofs.Common.{◌≡◌, ℕ, ◌+◌, ◌-◌, ◌<◌, ◌≤◌, true, false, cond, eqb, sym, refl, ap, ◌∙◌, subst, inl, inr, arith, Some, None, Option}
use Rattle.std.proofs.lemmas.Bool.{cases_eq, both_ways, eq-eqb, ne_eqb, and_from, and_left, and_right}
use Rattle.blocks.specs.Sums.{bit}
use Rattle.blocks.proofs.Sums.{sum_one, sum_none}
use Rattle.stores.specs.Meaning.{Meaning, put, other, stands}
use Rattle.stores.specs.declared.pairs.Side.{Side}
use Rattle.stores.specs.declared.pairs.Side.TheVariants.{Bus as bus_side, Post as post_side}
use Rattle.table.specs.Buses.{is_on, on_side, OnlyBus, SomeTurned}

-- the first posts have been gone through, and so many pairs are left to turn
pub record TurningSome (m n : Meaning) (b : ℕ) (side : Side) (count left post : ℕ) : Type 0 where
  pub only : OnlyBus m n b
  pub few : left ≤ count
  pub fewer : on_side n side b + count ≡ on_side m side b + left
  pub passed : 0 < left → (p : ℕ) → p < post → is_on side (n.standing b p) ≡ false
  pub none : count ≡ 0 → n ≡ m

pub turning_some_none : (m : Meaning) (b : ℕ) (side : Side) (count : ℕ) → TurningSome m m b side count count 0
turning_some_none m b side count = record {
  only = record { buses = refl; posts = refl; same_pairs = λ c p. refl; others = λ c p _. refl };
  few = omega arith;
  fewer = refl;
  passed = λ _ p l. absurd (omega arith);
  none = λ _. refl;
}

-- after turning, the other side has it
turned_away : (side : Side) (s : Option Side) → is_on side s ≡ true → (is_on side (other s) ≡ false) × (s ≡ None → ⊥) × (stands (other s) ≡ stands s)
turned_away bus_side None e = absurd (both_ways false refl e)
turned_away bus_side (Some bus_side) e = (refl, (λ h. both_ways (stands (Some bus_side)) (ap stands h) refl), refl)
turned_away bus_side (Some post_side) e = absurd (both_ways false refl e)
turned_away post_side None e = absurd (both_ways false refl e)
turned_away post_side (Some bus_side) e = absurd (both_ways false refl e)
turned_away post_side (Some post_side) e = (refl, (λ h. both_ways (stands (Some post_side)) (ap stands h) refl), refl)

pub stands_on : (side : Side) (s : Option Side) → is_on side s ≡ true → s ≡ None → ⊥
stands_on side s e = (turned_away side s e).1

module _ (m n : Meaning) (b : ℕ) (side : Side) (count left post : ℕ) (t : TurningSome m n b side count left post) where
  pub turning_some_skip : (0 < left → is_on side (n.standing b post) ≡ false) → TurningSome m n b side count left (post + 1)
  turning_some_skip h = record {
    only = t.only;
    few = t.few;
    fewer = t.fewer;
    passed = λ l p lp. elim (cases_eq p post) [
      | inl e ↦ ap (λ z. is_on side (n.standing b z)) e ∙ h l
      | inr d ↦ t.passed l p (omega arith)
    ];
    none = t.none;
  }

  module _ (more : 0 < left) (lp : post < n.posts) (on : is_on side (n.standing b post) ≡ true) (k : Meaning) (changes : k ≡ put b post (other (n.standing b post)) n) where
    abbrev p' : Meaning
    p' = put b post (other (n.standing b post)) n

    here : p'.standing b post ≡ other (n.standing b post)
    here = ap (λ z. cond z (other (n.standing b post)) (n.standing b post)) (and_from (eqb b b) (eqb post post) (eq-eqb b b refl) (eq-eqb post post refl))

    off_post : (c p : ℕ) → (p ≡ post → ⊥) → p'.standing c p ≡ n.standing c p
    off_post c p d = ap (λ z. cond z (other (n.standing b post)) (n.standing c p)) (and_right (eqb c b) (eqb p post) (ne_eqb p post d))

    off_bus : (c p : ℕ) → (c ≡ b → ⊥) → p'.standing c p ≡ n.standing c p
    off_bus c p d = ap (λ z. cond z (other (n.standing b post)) (n.standing c p)) (and_left (eqb c b) (eqb p post) (ne_eqb c b d))

    still_stands : (c p : ℕ) → stands (p'.standing c p) ≡ stands (n.standing c p)
    still_stands c p = elim (cases_eq c b) [
      | inr d ↦ ap stands (off_bus c p d)
      | inl e ↦ elim (cases_eq p post) [
        | inr d ↦ ap stands (off_post c p d)
        | inl f ↦
            subst (λ z. stands (p'.standing z p) ≡ stands (n.standing z p)) (sym e)
            (subst (λ z. stands (p'.standing b z) ≡ stands (n.standing b z)) (sym f) (ap stands here ∙ (turned_away side (n.standing b post) on).2))
      ]
    ]

    one_fewer : on_side p' side b + 1 ≡ on_side n side b
    one_fewer =
        let s = sum_one n.posts (λ p. bit (is_on side (p'.standing b p))) (λ p. bit (is_on side (n.standing b p))) post lp (λ p _ d. ap (λ z. bit (is_on side z)) (off_post b p d)) in
        let x = ap bit (ap (is_on side) here ∙ (turned_away side (n.standing b post) on).0) in
        let y = ap bit on in
        omega arith

    pub turning_some_more : TurningSome m k b side count (left - 1) (post + 1)
    turning_some_more = subst (λ z. TurningSome m z b side count (left - 1) (post + 1)) (sym changes) (record {
      only = record {
        buses = t.only.buses;
        posts = t.only.posts;
        same_pairs = λ c p. still_stands c p ∙ t.only.same_pairs c p;
        others = λ c p d. off_bus c p d ∙ t.only.others c p d;
      };
      few = omega (arith, t.few);
      fewer = omega (arith, t.fewer, one_fewer);
      passed = λ l p lp. elim (cases_eq p post) [
        | inl e ↦ ap (λ z. is_on side (p'.standing b z)) e ∙ ap (is_on side) here ∙ (turned_away side (n.standing b post) on).0
        | inr d ↦ ap (is_on side) (off_post b p d) ∙ t.passed more p (omega arith)
      ];
      none = λ e. absurd (omega (arith, t.few));
    })

  pub turning_some_end : count ≤ on_side m side b → n.posts ≤ post → SomeTurned m n b side count
  turning_some_end enough all =
      let done : left ≡ 0 = elim (cases_eq left 0) [
        | inl e ↦ e
        | inr d ↦
            let z = sum_none n.posts (λ p. bit (is_on side (n.standing b p))) (λ p l. ap bit (t.passed (omega arith) p (omega arith))) in
            absurd (omega (arith, t.fewer, t.few))
      ] in
      record { only = t.only; fewer = omega (arith, t.fewer); none = t.none }
