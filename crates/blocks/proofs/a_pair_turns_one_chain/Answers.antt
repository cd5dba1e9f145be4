use Rattle.blocks.proofs.Turning.{addition_turns_one_chain, drop_turns_one_chain}
use Rattle.blocks.proofs.a_pair_turns_one_chain.Goals as goal

pub returns : goal.returns
returns c = record { added = addition_turns_one_chain; dropped = drop_turns_one_chain }
