use Rattle.std.proofs.Common.{◌≡◌}
use Rattle.table.proofs.Searching.{Following}
use Rattle.table.proofs.searches.Search.follow.Given as goal

abbrev pub invariant-loop-to : goal.invariant-loop-to
invariant-loop-to g l =
    (l.self.net.now ≡ l.initial.self.net.now) × (l.self.marks.ghost_name ≡ l.initial.self.marks.ghost_name) ×
    Following (g.N.Network.leads l.initial.self.net.now) (g.N.Network.nodes l.initial.self.net.now) (g.G.Goal.wanted l.goal) l.initial.self.queue l.self.queue l.self.marks.now l.to
