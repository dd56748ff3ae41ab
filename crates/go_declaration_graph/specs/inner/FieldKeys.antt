-- The names in a declaration that are keys of struct literals, as a set.
-- Public source: Go specification, "Composite literals".
use Rattle.std.specs.Prelude.{◌≡◌, ◌↔◌, Bool, ◌&&◌, nat_eq, List}
use denote.Ref.{Bor}
use Rattle.std.specs.List.{list_any}
use Rattle.std.specs.Str.{bytes_eq}
use Rattle.go_base.specs.Lists.{Has}
use Rattle.go_nodes.specs.Trees.{node_of}
use Rattle.go_nodes.specs.declared.tree.Tree.{Tree}
use Rattle.go_rules.specs.Environments.{Env}
use Rattle.go_rules.specs.Nodes.{Node}
use Rattle.go_syntax.specs.declared.name.Name.{Name}
use Rattle.go_typings.specs.DeclarationNodes.{nodes}
use Rattle.go_typings.specs.Declarations.{Form}
use Rattle.go_typings.specs.References.{IsFieldKey}
use Rattle.go_declaration_graph.specs.declared.field_keys.FieldKey.{FieldKey}

abbrev pub key_of : Name → FieldKey
key_of n = record { place = n.place; text = n.text }

abbrev pub name_of : FieldKey → Name
name_of k = record { text = k.text; place = k.place }

abbrev pub is_key_of : Name → FieldKey → Bool
is_key_of n k = nat_eq n.place k.place && bytes_eq n.text k.text

-- the name is among these keys
abbrev pub is_among : Name → List FieldKey → Bool
is_among n keys = list_any (is_key_of n) keys

-- the key is that of the name
abbrev pub IsKeyOf : Bor Name → FieldKey → Type 0
IsKeyOf n k = key_of n.now ≡ k

-- the key is that of a field in the tree
abbrev pub KeysField : Env → Tree → FieldKey → Type 0
KeysField E t k = IsFieldKey E (node_of t) (name_of k)

-- the name is the key of a field in a tree of the declaration
abbrev pub IsFieldKeyIn : Env → Form → Name → Type 0
IsFieldKeyIn E f name = (at : Node) × Has (nodes f) at × IsFieldKey E at name

-- the keys are those of the fields in the trees of the declaration
abbrev pub AreFieldKeys : Env → Form → List FieldKey → Type 0
AreFieldKeys E f keys = (k : FieldKey) → Has keys k ↔ IsFieldKeyIn E f (name_of k)
