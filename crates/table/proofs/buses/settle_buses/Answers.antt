use Rattle.std.proofs.Common.{ℕ, ◌∙◌, subst, arith}
use Rattle.table.specs.Buses.{BusSettled}
use Rattle.table.proofs.SettlingBuses.{settling_more, settling_end}
use Rattle.table.proofs.buses.settle_buses.Goals as goal

pub loop-bus-preserved : goal.loop-bus-preserved
loop-bus-preserved g c =
    let t = subst (λ (l : ℕ). BusSettled (g.S.View.means c.loop-bus.store) (g.S.View.means c.settle_bus.new.store) c.loop-bus.bus l) c.bus_limit.ensures c.settle_bus.ensures.settled in
    (c.settle_bus.ensures.room ∙ c.loop-bus.invariant.0, settling_more _ _ _ _ _ (omega (arith, c.buses-bus-end.ensures)) c.loop-bus.invariant.1 t)

pub returns : goal.returns
returns g c = record { room = c.loop-bus.invariant.0; settled = settling_end _ _ _ _ (omega (arith, c.buses-bus-end.ensures)) c.loop-bus.invariant.1 }
