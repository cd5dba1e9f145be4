use Rattle.std.proofs.Common.{◌≡◌}
use Rattle.table.proofs.Searching.{Starting}
use Rattle.table.proofs.searches.Search.start_all.Given as goal

abbrev pub invariant-loop-first : goal.invariant-loop-first
invariant-loop-first g l =
    (l.self.net.now ≡ l.initial.self.net.now) × (l.self.marks.ghost_name ≡ l.initial.self.marks.ghost_name) ×
    Starting (g.N.Network.leads l.initial.self.net.now) (g.N.Network.nodes l.initial.self.net.now) (g.G.Goal.wanted l.goal) l.starts l.first-index l.self.queue l.self.marks.now
