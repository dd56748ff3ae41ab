-- The new names that pairs of types give to defined types.
-- Own: what a client of the old packages names in the new ones.
use Rattle.std.specs.Prelude.{List, [], ◌∷◌, if◌then◌else◌, ◌&&◌, Bool}
use Rattle.std.specs.Str.{bytes_eq}
use Rattle.go_model.specs.types.Terms.{Layer}
use Rattle.go_model.specs.declared.types.names.TypeName.{TypeName}
use Rattle.go_model.specs.declared.types.term.Term.{Term-F, out-Term}
use Rattle.go_type_images.specs.Images.{Naming}
use Rattle.go_type_images.specs.declared.pair.TypePair.{TypePair}

abbrev pub same_name : TypeName → TypeName → Bool
same_name a b = bytes_eq a.path b.path && bytes_eq a.name b.name

abbrev pub new_name_by : Layer → Layer → TypeName → TypeName → TypeName
new_name_by (Term-F.Named a) (Term-F.Named b) n other = if same_name a n then b else other
new_name_by k l n other = other

-- the new name of a defined type: that of the first pair of names with it, else its own
abbrev pub new_name : List TypePair → Naming
new_name [] n = n
new_name (p ∷ ps) n = new_name_by (out-Term p.old) (out-Term p.new) n (new_name ps n)
