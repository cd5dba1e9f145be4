use Rattle.blocks.proofs.Examples.{examples_right}
use Rattle.blocks.proofs.SideExamples.{side_examples_right}
use Rattle.blocks.proofs.example_yards.Goals as goal

pub returns : goal.returns
returns c = record { ranks = examples_right; sides = side_examples_right }
