use Rattle.std.proofs.Common.{◌-◌, vec_len}
use Rattle.depot.proofs.main.Given as goal

abbrev pub decreases-loop-line : goal.decreases-loop-line
decreases-loop-line l = vec_len l.input - l.from
