-- Keys of elements of composite literals that are names of fields.
-- Public source: Go specification, "Composite literals".
use Rattle.std.specs.Prelude.{◌≡◌, ℕ, List, [], ◌∷◌}
use Rattle.go_base.specs.Lists.{Has as In, Each, Once}
use Rattle.go_rules.specs.Expressions.{HasFieldKey}
use Rattle.go_syntax.specs.declared.expression.Element.{Element}
use Rattle.go_syntax.specs.declared.name.Name.{Name}

-- the names that elements have as keys
pub data KeysAre : List Element → List (List ℕ) → Type 0 where
  keys_none : KeysAre [] []
  keys_more : {x : Element} {xs : List Element} {n : Name} {ns : List (List ℕ)} → HasFieldKey x n → KeysAre xs ns → KeysAre (x ∷ xs) (n.text ∷ ns)

-- each element has a name as its key, no name stands twice, and none of them is among others
pub record KeyedOnce (others : List (List ℕ)) (xs : List Element) : Type 0 where
  pub names : List (List ℕ)
  pub keys : KeysAre xs names
  pub once : Once names
  pub apart : Each (λ n. In others n → ⊥) names
