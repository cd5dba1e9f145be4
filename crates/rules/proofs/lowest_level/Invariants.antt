use Rattle.std.proofs.Common.{ℕ, ◌-◌, ◌<◌, ◌≤◌}
use Rattle.rules.proofs.lowest_level.Given as goal

abbrev pub invariant-loop-low : goal.invariant-loop-low
invariant-loop-low g l =
    (l.low ≤ l.high) × (l.high ≤ 256) × (l.need ≤ (g.R.Rule.limits l.rule).post l.high l.post) ×
    ((b : ℕ) → b < l.low → (g.R.Rule.limits l.rule).post b l.post < l.need)

abbrev pub decreases-loop-low : goal.decreases-loop-low
decreases-loop-low g l = l.high - l.low
