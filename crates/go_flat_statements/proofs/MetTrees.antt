-- What is asked in trees is met, and the blocks of the function literals in them are typed.
use Rattle.std.proofs.Common.{inl, inr, List, [], ◌∷◌, map, refl, subst}
use Rattle.go_base.specs.Lists.{Each}
use Rattle.go_rules.specs.Asks.{Meets}
use Rattle.go_rules.specs.Environments.{Env}
use Rattle.go_rules.specs.Nodes.{Node, expression}
use Rattle.go_statement_rules.specs.Functions.{Enclosing}
use Rattle.go_statement_rules.specs.Scopes.{Scopes}
use Rattle.go_statement_rules.specs.Statements.{AreMet, LiteralsAreTyped, met_more, met_none}
use Rattle.go_syntax.specs.declared.expression.Expr.{Expr}
use Rattle.go_syntax.specs.declared.statement.LiteralBlock.{LiteralBlock}
use Rattle.go_walks.specs.Literals.{LiteralsTyped}

module _ (E : Env) (blocks : List LiteralBlock) (r : Enclosing) (F : Env) (s : Scopes) where
  none_typed : LiteralsTyped E blocks r s []
  none_typed n h = absurd h

  more_typed : (n : Node) (ns : List Node) → LiteralsAreTyped E blocks r s n → LiteralsTyped E blocks r s ns → LiteralsTyped E blocks r s (n ∷ ns)
  more_typed n ns l h m (inl e) = subst (LiteralsAreTyped E blocks r s) e l
  more_typed n ns l h m (inr k) = h m k

  pub met_parts : (ns : List Node) → AreMet E blocks r F s ns → Each (Meets F) ns × LiteralsTyped E blocks r s ns
  met_parts [] met_none = (tt, none_typed)
  met_parts (n ∷ ns) (met_more a b c) = let k = met_parts ns c in ((a, k.0), more_typed n ns b k.1)

  pub met_whole : (ns : List Node) → Each (Meets F) ns → LiteralsTyped E blocks r s ns → AreMet E blocks r F s ns
  met_whole [] h l = met_none
  met_whole (n ∷ ns) h l = met_more h.0 (l n (inl refl)) (met_whole ns h.1 (λ m k. l m (inr k)))

module _ (F : Env) where
  pub met_own : (es : List Expr) → Each (λ e. Meets F (expression e)) es → Each (Meets F) (map expression es)
  met_own [] h = tt
  met_own (e ∷ es) h = (h.0, met_own es h.1)

  pub own_met : (es : List Expr) → Each (Meets F) (map expression es) → Each (λ e. Meets F (expression e)) es
  own_met [] h = tt
  own_met (e ∷ es) h = (h.0, own_met es h.1)
