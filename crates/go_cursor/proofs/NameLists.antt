-- A list of names, from its first on.
use Rattle.std.proofs.Common.{◌≡◌, List, [], ◌∷◌, Some, sym, ap, ◌∙◌}
use Rattle.go_syntax.specs.declared.name.Name.{Name}
use Rattle.go_syntax.specs.grammar.Terminals.{Terminal}
use Rattle.go_cursor.specs.Names.{name_item, names}
use Rattle.go_cursor.specs.Reading.{Found, bind, run, step_of, name}

-- the first name, and then the others
pub names_from : (ts us : List Terminal) (n : Name) (first : List Name) → name ts ≡ Some (n, us) → first ≡ n ∷ [] → run (step_of name_item) first us ≡ names ts
unfolding names
names_from ts us n first e q = ap (λ (ns : List Name). run (step_of name_item) ns us) q ∙ sym (ap (λ (r : Found Name). bind r (λ (m : Name). run (step_of name_item) (m ∷ []))) e)
