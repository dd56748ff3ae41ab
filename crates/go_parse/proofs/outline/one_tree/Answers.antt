use Rattle.std.proofs.Common.{refl}
use Rattle.go_syntax.specs.grammar.Terminals.{terminals}
use Rattle.go_parse.proofs.Files.{one_outline}
use Rattle.go_parse.proofs.outline.one_tree.Goals as goal

pub returns : goal.returns
returns c = record { same = λ tokens f g d e. one_outline 256 257 refl (terminals tokens) f g d e }
