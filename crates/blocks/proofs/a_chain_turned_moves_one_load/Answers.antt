use Rattle.blocks.proofs.Yards.{chain_moves}
use Rattle.blocks.proofs.Chains.{chain_exactly}
use Rattle.blocks.proofs.a_chain_turned_moves_one_load.Goals as goal

pub returns : goal.returns
returns c = record { loads = chain_moves; exactly = λ leads x vs. chain_exactly x vs leads }
