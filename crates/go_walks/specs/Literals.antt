-- The function literals that stand in trees of a statement.
-- Public source: Go specification, "Function literals".
use Rattle.std.specs.Prelude.{List}
use Rattle.go_base.specs.Lists.{Has as In}
use Rattle.go_literal_blocks.specs.declared.literals.Literal.{Literal}
use Rattle.go_rules.specs.Environments.{Env}
use Rattle.go_rules.specs.Nodes.{Node}
use Rattle.go_statement_rules.specs.Functions.{Enclosing, EntersFunction, Run}
use Rattle.go_statement_rules.specs.Scopes.{Scopes}
use Rattle.go_statement_rules.specs.Statements.{IsTypedFunction, LiteralsAreTyped}
use Rattle.go_syntax.specs.declared.statement.LiteralBlock.{LiteralBlock}

module _ (E : Env) (blocks : List LiteralBlock) (r : Enclosing) (s : Scopes) where
  -- the blocks of the function literals in these trees are typed
  abbrev pub LiteralsTyped : List Node → Type 0
  LiteralsTyped ns = (n : Node) → In ns n → LiteralsAreTyped E blocks r s n

  -- the block of a function literal is typed
  abbrev pub IsTypedLiteral : Literal → Type 0
  IsTypedLiteral l = IsTypedFunction E blocks r s l.signature.now l.body.now

  -- its run
  abbrev pub EntersLiteral : Literal → Run → Type 0
  EntersLiteral l v = EntersFunction E blocks r s l.signature.now l.body.now v
