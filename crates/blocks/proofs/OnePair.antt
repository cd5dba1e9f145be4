-- One pair more or less in a yard with even sides, and one chain turned after it.
use Rattle.std.proofs.Common.{◌≡◌, ℕ, ◌+◌, ◌-◌, ◌<◌, ◌≤◌, Bool, true, false, cond, not, ◌&&◌, ◌||◌, List, [], sym, ap, ◌∙◌, subst, inl, inr, arith}
use mathlib.Core.Path.{fun_ext}
use Rattle.std.proofs.lemmas.Bool.{cases_eq, both_ways}
use Rattle.std.proofs.lemmas.Bool.Decides.{nat_tests}
use Rattle.blocks.specs.Limits.{Limits, Rising, limit_at}
use Rattle.blocks.specs.Yards.{Yard, nodes, add, drop}
use Rattle.blocks.specs.Networks.{Leads, load, degree, Walk}
use Rattle.blocks.specs.Chains.{Chain, end, next_in, turned, with_lead, without_lead}
use Rattle.blocks.specs.Sides.{Sides, Sized, Even, EvenNetwork, pointing, put, flipped, OneChainTurned}
use Rattle.blocks.proofs.Evenness.{even_added_to_bus, even_added_to_post, even_dropped, even_dropped_light}
use Rattle.blocks.proofs.OldChains.{one_old_chain, chain_narrower}
use Rattle.blocks.proofs.Pointing.{added_to_post, added_to_bus, dropped_from_post, dropped_from_bus}
use Rattle.blocks.proofs.Flips.{from_bus, flip_turns}
use Rattle.blocks.proofs.Levels.{at_bus}
use Rattle.blocks.proofs.Yards.{levels, net_of}

-- a side, read off the network
pub side_of : (B : ℕ) (paired : ℕ → ℕ → Bool) (t : Sides) (c q : ℕ) → c < B → paired c q ≡ true → t c q ≡ pointing B paired t c (B + q)
side_of B paired t c q lc h =
    let e : (B + q) - B ≡ q = omega arith in
    sym (from_bus B paired t c (B + q) lc (omega arith) ∙ ap (λ z. paired c z && t c z) e ∙ ap (λ z. z && t c q) h)

module _ (Y : Yard) (L : Limits) (s : Sides) (rising : Rising L) (sized : Sized Y) (even : Even Y L s) (b p : ℕ) (lb : b < Y.buses) (lp : p < Y.posts) where
  abbrev leads : Leads
  leads = pointing Y.buses Y.paired s

  abbrev N : ℕ
  N = nodes Y

  abbrev P : ℕ
  P = Y.buses + p

  module _ (fresh : Y.paired b p ≡ false) where
    pub no_lead : leads b P ≡ false
    no_lead = let e : P - Y.buses ≡ p = omega arith in grind (arith, nat_tests)

    pub no_back : leads P b ≡ false
    no_back = let e : P - Y.buses ≡ p = omega arith in grind (arith, nat_tests)

    -- the bus is below its limit and carries the new pair: nothing else turns
    pub add_to_bus : load N leads b < L.bus b → Even (add b p Y) L (put b p false s)
    add_to_bus under =
        let e : pointing Y.buses (add b p Y).paired (put b p false s) ≡ with_lead P b leads = fun_ext (λ x. fun_ext (λ y. added_to_bus Y s b p lb fresh x y)) in
        subst (λ g. EvenNetwork Y.buses N 256 (limit_at Y.buses L) g) (sym e)
        (even_added_to_bus Y.buses N 256 (limit_at Y.buses L) (levels Y L rising) leads (net_of Y s sized) even b P lb (omega arith) (omega arith) (omega arith) no_lead no_back
        (let q = at_bus Y L 0 b lb in omega arith))

    pub add_to_bus_chain : OneChainTurned Y Y.paired s (put b p false s)
    add_to_bus_chain = record {
      first = b;
      rest = [];
      chain = tt;
      exactly = λ c q h. kept c q h;
    }
      where
        kept : (c q : ℕ) → Y.paired c q ≡ true → put b p false s c q ≡ s c q
        kept c q h = elim (cases_eq c b) [
          | inl e ↦ elim (cases_eq q p) [
            | inl f ↦ absurd (both_ways (Y.paired b p) fresh (subst (λ z. Y.paired z p ≡ true) e (subst (λ z. Y.paired c z ≡ true) f h)))
            | inr d ↦ grind (arith, nat_tests)
          ]
          | inr d ↦ grind (arith, nat_tests)
        ]

    abbrev more : Leads
    more = pointing Y.buses (add b p Y).paired (put b p true s)

    pub more_is : more ≡ with_lead b P leads
    more_is = fun_ext (λ x. fun_ext (λ y. added_to_post Y s b p lb fresh x y))

    -- the post carries it, and a chain to the post is turned
    module _ (x : ℕ) (vs : List ℕ) (chain : Chain more x vs) (ends : end x vs ≡ P) where
      chain_of : Chain (with_lead b P leads) x vs
      chain_of = subst (λ g. Chain g x vs) more_is chain

      pub added_is : pointing Y.buses (add b p Y).paired (flipped Y.buses x vs (put b p true s)) ≡ turned x vs (with_lead b P leads)
      added_is = flip_turns Y.buses (add b p Y).paired (put b p true s) x vs chain ∙ ap (turned x vs) more_is

      -- from a post that is under its limit wherever any post that leads there is: the sides are even again
      pub add_to_post : L.bus b ≤ load N leads b → Y.buses ≤ x → x < N
          → ((n a : ℕ) → Y.buses ≤ n → n < N → a < 256 → Walk more n P → load N leads n < limit_at Y.buses L a n → load N leads x < limit_at Y.buses L a x)
          → Even (add b p Y) L (flipped Y.buses x vs (put b p true s))
      add_to_post full bx lx choice =
          subst (λ g. EvenNetwork Y.buses N 256 (limit_at Y.buses L) g) (sym added_is)
          (even_added_to_post Y.buses N 256 (limit_at Y.buses L) (levels Y L rising) leads (net_of Y s sized) even b P lb (omega arith) (omega arith) (omega arith) no_lead no_back
          (let q = at_bus Y L 0 b lb in omega arith) x bx lx vs chain_of ends
          (λ n a bn ln la w u. choice n a bn ln la (subst (λ g. Walk g n P) (sym more_is) w) u))

      -- and of the pairs that stood, exactly those of one chain of the old sides have turned
      pub add_to_post_chain : OneChainTurned Y Y.paired s (flipped Y.buses x vs (put b p true s))
      add_to_post_chain =
          let o = one_old_chain leads b P x no_lead no_back (omega arith) vs chain_of ends in
          record {
            first = x;
            rest = o.0;
            chain = o.1;
            exactly = λ c q h.
                let lc = (sized c q h).0 in
                let lq = (sized c q h).1 in
                let h2 : (add b p Y).paired c q ≡ true = grind arith in
                let now = side_of Y.buses (add b p Y).paired (flipped Y.buses x vs (put b p true s)) c q lc h2 ∙ ap (λ g. g c (Y.buses + q)) added_is in
                let old = side_of Y.buses Y.paired (flipped Y.buses x o.0 s) c q lc h ∙ ap (λ g. g c (Y.buses + q)) (flip_turns Y.buses Y.paired s x o.0 o.1) in
                now ∙ elim o.2 [
                  | inl r ↦ r.1 c (Y.buses + q) ∙ off_pair (turned x o.0 leads) c q h
                  | inr r ↦ r.1 c (Y.buses + q) ∙ off_back (turned x o.0 leads) c q lc
                ] ∙ sym old;
          }
        where
          off_pair : (g : Leads) (c q : ℕ) → Y.paired c q ≡ true → with_lead b P g c (Y.buses + q) ≡ g c (Y.buses + q)
          off_pair g c q h = elim (cases_eq c b) [
            | inl e ↦ elim (cases_eq q p) [
              | inl f ↦ absurd (both_ways (Y.paired b p) fresh (subst (λ z. Y.paired z p ≡ true) e (subst (λ z. Y.paired c z ≡ true) f h)))
              | inr d ↦ grind (arith, nat_tests)
            ]
            | inr d ↦ grind (arith, nat_tests)
          ]

          off_back : (g : Leads) (c q : ℕ) → c < Y.buses → with_lead P b g c (Y.buses + q) ≡ g c (Y.buses + q)
          off_back g c q h = grind (arith, nat_tests)

  -- The pair is dropped. x is the end that did not carry it, y the end that did; what the pair's own entry of the sides then holds, v, is open.
  module _ (held : Y.paired b p ≡ true) (v : Bool) where
    abbrev fewer : Leads
    fewer = pointing Y.buses (drop b p Y).paired (put b p v s)

    -- pairs that stay are not the dropped one
    kept : (c q : ℕ) → (drop b p Y).paired c q ≡ true → (Y.paired c q ≡ true) × (put b p v s c q ≡ s c q)
    kept c q h = (grind (arith, nat_tests), grind (arith, nat_tests))

    pub drop_light_chain : OneChainTurned Y (drop b p Y).paired s (put b p v s)
    drop_light_chain = record { first = b; rest = []; chain = tt; exactly = λ c q h. (kept c q h).1 }

    module _ (x y : ℕ) (link : leads x y ≡ true) (fewer-is : fewer ≡ without_lead x y leads) where
      module _ (vs : List ℕ) (chain : Chain fewer y vs) where
        pub dropped_is : pointing Y.buses (drop b p Y).paired (flipped Y.buses y vs (put b p v s)) ≡ turned y vs (without_lead x y leads)
        dropped_is = flip_turns Y.buses (drop b p Y).paired (put b p v s) y vs chain ∙ ap (turned y vs) fewer-is

        -- to a post that is over its limit wherever any post that y leads to is: the sides are even again
        pub drop_even : (y < Y.buses → L.bus y < degree N leads y) → Y.buses ≤ end y vs → end y vs < N
            → ((n a : ℕ) → Y.buses ≤ n → n < N → a < 256 → Walk fewer y n → limit_at Y.buses L a n < load N leads n
            → limit_at Y.buses L a (end y vs) < load N leads (end y vs))
            → Even (drop b p Y) L (flipped Y.buses y vs (put b p v s))
        drop_even heavy be le choice =
            subst (λ g. EvenNetwork Y.buses N 256 (limit_at Y.buses L) g) (sym dropped_is)
            (even_dropped Y.buses N 256 (limit_at Y.buses L) (levels Y L rising) leads (net_of Y s sized) even x y link
            (λ h. let q = at_bus Y L 0 y h in let k = heavy h in omega arith) vs (subst (λ g. Chain g y vs) fewer-is chain) be le
            (λ n a bn ln la w u. choice n a bn ln la (subst (λ g. Walk g y n) (sym fewer-is) w) u))

        pub drop_chain : OneChainTurned Y (drop b p Y).paired s (flipped Y.buses y vs (put b p v s))
        drop_chain = record {
          first = y;
          rest = vs;
          chain = chain_narrower leads x y y vs (subst (λ g. Chain g y vs) fewer-is chain);
          exactly = λ c q h. ap (λ z. cond (next_in y vs c (Y.buses + q) || next_in y vs (Y.buses + q) c) (not z) z) (kept c q h).1;
        }

      -- a bus with no more pairs than its limit carried it: nothing turns
      pub drop_light : y < Y.buses → degree N leads y ≤ L.bus y → Even (drop b p Y) L (put b p v s)
      drop_light yb light =
          subst (λ g. EvenNetwork Y.buses N 256 (limit_at Y.buses L) g) (sym fewer-is)
          (even_dropped_light Y.buses N 256 (limit_at Y.buses L) (levels Y L rising) leads (net_of Y s sized) even x y link yb
          (let q = at_bus Y L 0 y yb in omega arith))

    pub from_post_is : s b p ≡ true → fewer ≡ without_lead b P leads
    from_post_is h = fun_ext (λ i. fun_ext (λ j. dropped_from_post Y s b p lb v h i j))

    pub from_bus_is : s b p ≡ false → fewer ≡ without_lead P b leads
    from_bus_is h = fun_ext (λ i. fun_ext (λ j. dropped_from_bus Y s b p lb v h i j))

    pub post_link : s b p ≡ true → leads b P ≡ true
    post_link h = let e : P - Y.buses ≡ p = omega arith in grind (arith, nat_tests)

    pub bus_link : s b p ≡ false → leads P b ≡ true
    bus_link h = let e : P - Y.buses ≡ p = omega arith in grind (arith, nat_tests)
