use Rattle.std.proofs.Common.{◌∙◌, ◌++◌, ◌∷◌, [], List, ap, subst}
use Rattle.go_syntax.specs.declared.name.Name.{Name}
use Rattle.go_syntax.specs.grammar.Terminals.{terminals}
use Rattle.go_cursor.specs.Reading.{Found}
use Rattle.go_cursor.specs.Reads.{Reads}
use Rattle.go_cursor.proofs.NameLists.{names_from}
use Rattle.go_cursor.proofs.names.names.Goals as goal

pub returns : goal.returns
returns c =
    subst (λ (found : Found (List Name)). Reads found c.more_names.result c.more_names.new.tokens)
    (names_from (terminals c.args.tokens.now) (terminals c.name.new.self) c.in_ok-name.field-0 c.push.new.self c.in_ok-name.ensures (c.in_ok-push.ensures.ok ∙ ap (λ (ns : List Name). ns ++ c.in_ok-name.field-0 ∷ []) c.new-first.ensures))
    c.more_names.ensures
