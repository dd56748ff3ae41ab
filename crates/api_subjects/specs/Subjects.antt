-- The subjects of what is broken.
-- Own: this project's reports; constants are written as Go's cmd/api writes them.
use Rattle.std.specs.Prelude.{◌≡◌, ℕ, List, [], ◌++◌, codes}
use Rattle.go_model.specs.declared.types.names.Sel.{Sel}
use Rattle.go_model.specs.declared.types.package.Entity.{Entity}
use Rattle.go_model.specs.declared.types.package.Entity.TheVariants as entity
use Rattle.go_model.specs.declared.types.package.Package.{Package}
use Rattle.go_model.specs.worlds.Worlds.{Packages}
use Rattle.api_features.specs.ConstantTexts.{IsValueText}
use Rattle.api_features.specs.TypeTexts.{constant_type}
use Rattle.api_breaks.specs.declared.broken.Sort.{Sort}
use Rattle.api_breaks.specs.declared.broken.Sort.TheVariants as sort
use Rattle.api_breaks.specs.declared.broken.Lost.{Lost}
use Rattle.api_breaks.specs.declared.broken.Lost.TheVariants as lost
use Rattle.api_subjects.specs.TypeTexts.{IsTypeText, name_at}

-- what an object is
abbrev pub sort_text : Sort → List ℕ
sort_text sort.Constant = codes "const"
sort_text sort.Variable = codes "var"
sort_text sort.Function = codes "func"
sort_text sort.Type = codes "type"

-- a method by its name, behind the path of its package where it isn't exported
abbrev pub sel_text : Sel → List ℕ
sel_text s = name_at s.«package» s.name

-- a constant of the package of a path: its type or kind, and its value; of what is no constant there is nothing to say
abbrev pub IsConstantText : List Package → List ℕ → Entity → List ℕ → Type 0
IsConstantText packages path (entity.Const t v) text = (value : List ℕ) × IsValueText v value × (text ≡ constant_type packages path t ++ codes " " ++ value)
IsConstantText packages path e text = text ≡ []

abbrev pub change_text : List ℕ → List ℕ → List ℕ
change_text before after = before ++ codes " to " ++ after

-- what was, and what is now
abbrev pub IsChange : (List ℕ → Type 0) → (List ℕ → Type 0) → List ℕ → Type 0
IsChange Before After text = (before after : List ℕ) × Before before × After after × (text ≡ change_text before after)

-- the subject of a loss: what there is to say beside the rule
abbrev pub IsSubject : Packages → Packages → Lost → List ℕ → Type 0
IsSubject old new lost.Package text = text ≡ codes "-"
IsSubject old new (lost.Name name) text = text ≡ name
IsSubject old new lost.Removed text = text ≡ codes "-"
IsSubject old new (lost.Kind a b) text = text ≡ change_text (sort_text a) (sort_text b)
IsSubject old new (lost.Constant path a b) text = IsChange (IsConstantText old.packages path a) (IsConstantText new.packages path b) text
IsSubject old new (lost.Type a b) text = IsChange (IsTypeText a) (IsTypeText b) text
IsSubject old new (lost.Underlying a b) text = IsChange (IsTypeText a) (IsTypeText b) text
IsSubject old new (lost.Field name) text = text ≡ name
IsSubject old new (lost.Selectable name) text = text ≡ name
IsSubject old new lost.Comparable text = text ≡ codes "-"
IsSubject old new lost.Sealing text = text ≡ codes "unexported methods"
IsSubject old new (lost.InterfaceMethod sel) text = text ≡ sel_text sel
IsSubject old new (lost.Method sel) text = text ≡ sel_text sel
IsSubject old new (lost.Implements interface) text = IsTypeText interface text
IsSubject old new (lost.OneToOne a b) text = IsChange (IsTypeText a) (IsTypeText b) text
