-- The theory of sides, brought to yards: what even sides tell, and what one pair more or less turns.
use Rattle.std.proofs.Common.{◌≡◌, ℕ, suc, ◌-◌, ◌<◌, ◌≤◌, true, cond, eqb, sym, ap, ◌∙◌, subst, inl, inr, arith}
use Rattle.std.proofs.lemmas.Bool.{cases_lt, cases_eq}
use Rattle.blocks.specs.Sums.{sum, bit}
use Rattle.blocks.specs.Sets.{Set}
use Rattle.blocks.specs.Limits.{Limits, Rising, limit_at}
use Rattle.blocks.specs.Yards.{Yard, nodes, pairs}
use Rattle.blocks.specs.Blocks.{Shortfall, block_at, shortfall_at}
use Rattle.blocks.specs.Networks.{Network, load, over, leads_in, Walk, here, step, Reach}
use Rattle.blocks.specs.Chains.{end}
use Rattle.blocks.specs.Sides.{Sides, Sized, Even, Levels, pointing, post_load, ChainToOver, all_over}
use Rattle.blocks.specs.Theorems.{SidesTellBlock, SidesTellShortfall, ChainMoves, SettlingEnds}
use Rattle.blocks.proofs.Sums.{sum_cong}
use Rattle.blocks.proofs.Pairs.{yard}
use Rattle.blocks.proofs.Levels.{at_bus, at_post, level_rise, rise_le}
use Rattle.blocks.proofs.Alike.{block_is}
use Rattle.blocks.proofs.Shortfalls.{is_shortfall}
use Rattle.blocks.proofs.Reaching.{reach_set}
use Rattle.blocks.proofs.Chains.{chain_load, chain_walk, walk_chain}
use Rattle.blocks.proofs.Changes.{settling}
use Rattle.blocks.proofs.Pointing.{yard_net, yard_pairs}
use Rattle.blocks.proofs.Exists.{shortfall_is}
use Rattle.blocks.proofs.Evenness.{even_tight}
use Rattle.blocks.proofs.Tightness.{tight_shortfall}
use Rattle.blocks.proofs.Reading.{read_shortfall, read_block, shortfall_count}
use Rattle.blocks.proofs.Reading as reading
use Rattle.blocks.proofs.Flips.{flip_turns}

-- limits that rise keep to what the theory asks of levels
pub levels : (Y : Yard) (L : Limits) → Rising L → Levels Y.buses 256 (limit_at Y.buses L)
levels Y L rising = record {
  rising = λ a c n h w. elim (cases_eq a c) [
    | inl e ↦ let q = ap (λ z. limit_at Y.buses L z n) e in omega arith
    | inr d ↦ rise_le Y.buses (suc n) (limit_at Y.buses L a) (limit_at Y.buses L c)
        (level_rise (yard Y.buses (suc n) Y.paired) L rising a c (omega arith) (omega arith)) n (omega arith)
  ];
  of_bus = λ a b w v. at_bus Y L a b v ∙ sym (at_bus Y L 0 b v);
}

pub net_of : (Y : Yard) (s : Sides) → Sized Y → Network (nodes Y) (pointing Y.buses Y.paired s)
net_of Y s sized = yard_net Y.buses Y.posts Y.paired s sized

module _ (Y : Yard) (L : Limits) (s : Sides) (rising : Rising L) (sized : Sized Y) (even : Even Y L s) (a : ℕ) (la : a < 256) where
  -- a set of the nodes from which a walk leads to one over its limit is the block
  pub reach_is_block : (D : Set) → Reach (nodes Y) (pointing Y.buses Y.paired s) (limit_at Y.buses L a) D → (n : ℕ) → n < nodes Y → D n ≡ block_at Y L a n
  reach_is_block D r =
      block_is Y (limit_at Y.buses L a) D
      (read_block Y.buses Y.posts 256 (limit_at Y.buses L) (levels Y L rising) Y.paired s sized even a la D r)

  pub block_chain : (n : ℕ) → n < nodes Y → block_at Y L a n ≡ true → ChainToOver Y L s a n
  block_chain n w d =
      let r = reach_set (nodes Y) (pointing Y.buses Y.paired s) (limit_at Y.buses L a) (net_of Y s sized) in
      let m = r.1.reaches n w (reach_is_block r.0 r.1 n w ∙ d) in
      let c = walk_chain m.3 in
      let e = c.2 in
      let o : limit_at Y.buses L a (end n c.0) < load (nodes Y) (pointing Y.buses Y.paired s) (end n c.0) = rw e m.2 in
      let w : end n c.0 < nodes Y = rw e m.1 in
      record {
        rest = c.0;
        chain = c.1;
        post = not_bus (end n c.0) o;
        within = w;
        is_over = o;
      }
    where
      -- no bus is over its limit
      not_bus : (o : ℕ) → limit_at Y.buses L a o < load (nodes Y) (pointing Y.buses Y.paired s) o → Y.buses ≤ o
      not_bus o h = elim (cases_lt o Y.buses) [
        | inr k ↦ k
        | inl k ↦ let e = even.bus o k in let q = (levels Y L rising).of_bus a o la k in absurd (omega arith)
      ]

  pub chain_block : (n : ℕ) → n < nodes Y → ChainToOver Y L s a n → block_at Y L a n ≡ true
  chain_block n w c =
      let r = reach_set (nodes Y) (pointing Y.buses Y.paired s) (limit_at Y.buses L a) (net_of Y s sized) in
      let in_reach = walked r.0 r.1 n (end n c.rest) (chain_walk (pointing Y.buses Y.paired s) n c.rest c.chain) (r.1.over_in (end n c.rest) c.within c.is_over) in
      sym (reach_is_block r.0 r.1 n w) ∙ in_reach
    where
      walked : (D : Set) → Reach (nodes Y) (pointing Y.buses Y.paired s) (limit_at Y.buses L a) D
          → (u o : ℕ) → Walk (pointing Y.buses Y.paired s) u o → D o ≡ true → D u ≡ true
      walked D r u o here m = m
      walked D r u o (step {y = y} k t) m = r.back u y k (walked D r y o t m)

  pub shortfall_loads : shortfall_at Y L a ≡ sum Y.posts (λ p. post_load Y s p - L.post a p)
  shortfall_loads =
      let f = read_shortfall Y.buses Y.posts 256 (limit_at Y.buses L) (levels Y L rising) Y.paired s sized even a la in
      sym (is_shortfall Y (limit_at Y.buses L a) _ f)
      ∙ sum_cong Y.posts _ _ (λ p w. let e = reading.post_load Y.buses Y.posts Y.paired s p w in let q = at_post Y L a p in omega arith)

pub sides_tell_block : SidesTellBlock 255
sides_tell_block Y L s rising sized even a n la w = (block_chain Y L s rising sized even a (omega arith) n w, chain_block Y L s rising sized even a (omega arith) n w)

pub sides_tell_shortfall : SidesTellShortfall 255
sides_tell_shortfall Y L s rising sized even a la = shortfall_loads Y L s rising sized even a (omega arith)

pub chain_moves : ChainMoves 1
chain_moves N leads net x vs c z =
    let e = chain_load N x vs leads net c z in
    let p : bit (eqb z (end x vs)) ≡ cond (eqb z (end x vs)) 1 0 = grind arith in
    let q : bit (eqb z x) ≡ cond (eqb z x) 1 0 = grind arith in
    omega arith

pub settling_ends_lem : SettlingEnds 255
settling_ends_lem Y L s rising sized a x vs la c lx le under above =
    let f = settling (nodes Y) (pointing Y.buses Y.paired s) (net_of Y s sized) x vs c lx le (limit_at Y.buses L) 256 (levels Y L rising).rising a (omega arith) under above in
    subst (λ g. sum 256 (λ k. over (nodes Y) (load (nodes Y) g) (limit_at Y.buses L k)) < all_over Y L s) (sym (flip_turns Y.buses Y.paired s x vs c)) f

-- what stands over the limits is the shortfall
pub over_shortfall : (Y : Yard) (L : Limits) (s : Sides) → Rising L → Sized Y → Even Y L s → (a : ℕ) → a < 256
    → over (nodes Y) (load (nodes Y) (pointing Y.buses Y.paired s)) (limit_at Y.buses L a) ≡ shortfall_at Y L a
over_shortfall Y L s rising sized even a la =
    let t = even_tight Y.buses (nodes Y) 256 (limit_at Y.buses L) (levels Y L rising) (pointing Y.buses Y.paired s) (net_of Y s sized) even a la in
    let f = tight_shortfall (nodes Y) (pointing Y.buses Y.paired s) (limit_at Y.buses L a) (net_of Y s sized) t in
    is_shortfall Y (limit_at Y.buses L a) _ (shortfall_count (nodes Y) (leads_in (nodes Y) (pointing Y.buses Y.paired s)) (pairs Y) (limit_at Y.buses L a) _ (yard_pairs Y.buses Y.posts Y.paired s) f)

-- the shortfall of the yard is that of its network
pub shortfall_of_leads : (Y : Yard) (L : Limits) (s : Sides) (a : ℕ)
    → Shortfall (nodes Y) (leads_in (nodes Y) (pointing Y.buses Y.paired s)) (limit_at Y.buses L a) (shortfall_at Y L a)
shortfall_of_leads Y L s a =
    shortfall_count (nodes Y) (pairs Y) (leads_in (nodes Y) (pointing Y.buses Y.paired s)) (limit_at Y.buses L a) (shortfall_at Y L a)
    (λ X. sym (yard_pairs Y.buses Y.posts Y.paired s X)) (shortfall_is Y (limit_at Y.buses L a))
