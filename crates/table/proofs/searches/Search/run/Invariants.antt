use Rattle.std.proofs.Common.{◌≡◌, ◌-◌}
use Rattle.table.proofs.Searching.{Seeking}
use Rattle.table.proofs.searches.Search.run.Given as goal

abbrev pub invariant-loop-self : goal.invariant-loop-self
invariant-loop-self g l =
    (l.self.net.now ≡ l.initial.self.net.now) × (l.self.marks.ghost_name ≡ l.initial.self.marks.ghost_name) ×
    Seeking (g.N.Network.leads l.initial.self.net.now) (g.N.Network.nodes l.initial.self.net.now) (g.G.Goal.wanted l.goal) l.initial.self.queue l.self.queue l.self.marks.now

abbrev pub decreases-loop-self : goal.decreases-loop-self
decreases-loop-self g l = g.N.Network.nodes l.initial.self.net.now - l.self.queue.next
