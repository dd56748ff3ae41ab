-- How large a type is, and how large it may be.
-- Own: a name is one node, fields are free, and a method counts as the type of its function.
use Rattle.std.specs.Prelude.{◌≡◌, ◌<◌, ◌≤◌, ◌+◌, ◌++◌, ◌⊎◌, ℕ, zero, suc, max, sum, List, [], ◌∷◌, Option, None, Some}
use Rattle.go_model.specs.declared.types.term.Term.{Term, Term-F, fold-Term}
use Rattle.go_model.specs.declared.types.term.Field.{Field, Field-F, fold-Field}
use Rattle.go_model.specs.declared.types.term.Method.{Method, Method-F, fold-Method}
use Rattle.go_model.specs.declared.types.term.Signature.{Signature, Signature-F, fold-Signature}

abbrev pub field_size : Field-F ℕ ℕ ℕ ℕ → ℕ
field_size f = f.term

abbrev pub method_size : Method-F ℕ ℕ ℕ ℕ → ℕ
method_size m = m.signature

abbrev pub signature_nodes : Signature-F ℕ ℕ ℕ ℕ → ℕ
signature_nodes g = suc (sum g.params + sum g.results)

abbrev pub node_step : Term-F ℕ ℕ ℕ ℕ → ℕ
node_step (Term-F.Plain b) = 1
node_step (Term-F.Named n) = 1
node_step (Term-F.Pointer e) = suc e
node_step (Term-F.Slice e) = suc e
node_step (Term-F.Array n e) = suc e
node_step (Term-F.Map k e) = suc (k + e)
node_step (Term-F.Chan d e) = suc e
node_step (Term-F.Func g) = g
node_step (Term-F.Struct fs) = suc (sum fs)
node_step (Term-F.Interface ms) = suc (sum ms)

-- how many types stand in a type, itself among them
abbrev pub nodes : Term → ℕ
nodes = fold-Term ℕ ℕ ℕ ℕ node_step field_size method_size signature_nodes

-- the same of a field, a method and a signature
abbrev pub nodes_of_field : Field → ℕ
nodes_of_field = fold-Field ℕ ℕ ℕ ℕ node_step field_size method_size signature_nodes

abbrev pub nodes_of_method : Method → ℕ
nodes_of_method = fold-Method ℕ ℕ ℕ ℕ node_step field_size method_size signature_nodes

abbrev pub nodes_of_signature : Signature → ℕ
nodes_of_signature = fold-Signature ℕ ℕ ℕ ℕ node_step field_size method_size signature_nodes

abbrev pub greatest : List ℕ → ℕ
greatest [] = zero
greatest (h ∷ hs) = max h (greatest hs)

-- one more than the greatest height of the parts; what has no parts is a leaf
abbrev pub above : List ℕ → ℕ
above [] = zero
above (h ∷ hs) = suc (max h (greatest hs))

abbrev pub signature_height : Signature-F ℕ ℕ ℕ ℕ → ℕ
signature_height g = above (g.params ++ g.results)

abbrev pub height_step : Term-F ℕ ℕ ℕ ℕ → ℕ
height_step (Term-F.Plain b) = zero
height_step (Term-F.Named n) = zero
height_step (Term-F.Pointer e) = suc e
height_step (Term-F.Slice e) = suc e
height_step (Term-F.Array n e) = suc e
height_step (Term-F.Map k e) = suc (max k e)
height_step (Term-F.Chan d e) = suc e
height_step (Term-F.Func g) = g
height_step (Term-F.Struct fs) = above fs
height_step (Term-F.Interface ms) = above ms

-- how many types stand in one another, but for the innermost
abbrev pub height : Term → ℕ
height = fold-Term ℕ ℕ ℕ ℕ height_step field_size method_size signature_height

-- the same of a field, a method and a signature
abbrev pub height_of_field : Field → ℕ
height_of_field = fold-Field ℕ ℕ ℕ ℕ height_step field_size method_size signature_height

abbrev pub height_of_method : Method → ℕ
height_of_method = fold-Method ℕ ℕ ℕ ℕ height_step field_size method_size signature_height

abbrev pub height_of_signature : Signature → ℕ
height_of_signature = fold-Signature ℕ ℕ ℕ ℕ height_step field_size method_size signature_height

-- what is left of so much room after so many nodes of such a height; none exactly where they are more, or higher than the limit
abbrev pub Leaves : ℕ → ℕ → ℕ → ℕ → Option ℕ → Type 0
Leaves room limit size tall (Some left) = (left + size ≡ room) × (tall ≤ limit)
Leaves room limit size tall None = (room < size) ⊎ (limit < tall)

-- a type that is neither too large nor too high
pub record IsWithinBounds (t : Term) : Type 0 where
  pub small : nodes t ≤ 100000
  pub low : height t ≤ 256
