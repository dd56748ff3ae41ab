use Rattle.std.proofs.Common.{◌∙◌, List, subst}
use Rattle.go_bodies.specs.Reads.{HasRead}
use Rattle.go_file_blocks.specs.FileReading.{blocks_of}
use Rattle.go_file_blocks.proofs.blocks.read_blocks.Goals as goal
use Rattle.go_function_literals.specs.declared.place.LiteralPlace.{LiteralPlace}
use Rattle.go_syntax.specs.grammar.Terminals.{terminals}

pub returns : goal.returns
returns c = subst (λ (places : List LiteralPlace). HasRead (blocks_of 257 places (terminals c.args.tokens.now)) c.blocks_of.result) (c.items.ensures ∙ c.in_ok-places.ensures) c.blocks_of.ensures
