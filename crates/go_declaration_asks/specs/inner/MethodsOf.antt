-- What a method is asked, by what is told of its receiver.
use Rattle.std.specs.Prelude.{◌≡◌, ◌≢◌, ℕ, true, false, List, ◌++◌, Some}
use Rattle.go_model.specs.declared.types.package.Defined.{Defined}
use Rattle.go_model.specs.declared.types.term.Field.{Field, out-Field}
use Rattle.go_model.specs.declared.types.term.Term.{out-Term}
use Rattle.go_model.specs.types.Terms.{Layer}
use Rattle.go_model.specs.worlds.Worlds.{bars_methods}
use Rattle.go_rules.specs.Asks.{AreDistinctNames, signature_names, texts}
use Rattle.go_rules.specs.Environments.{Env}
use Rattle.go_rules.specs.Expressions.{is_blank}
use Rattle.go_syntax.specs.declared.declaration.Func.{Func}
use Rattle.go_syntax.specs.declared.types.ParameterDecl.{ParameterDecl, out-ParameterDecl}
use Rattle.go_typings.specs.DeclarationAsks.{IsApart}
use Rattle.go_declaration_asks.specs.declared.base.Base.{Base}

-- the field has another name
abbrev pub HasOtherName : List ℕ → Field → Type 0
HasOtherName name x = (out-Field x).sel.name ≢ name

-- a name that isn't blank is that of no other method and of no field of the level
abbrev pub IsFreeIn : Base → Layer → List ℕ → Type 0
IsFreeIn b l name = (is_blank name ≡ false → b.is_only ≡ true) × (is_blank name ≡ false → IsApart l name)

-- methods may be declared of a type of this level, and the name is free there
abbrev pub PermitsMethod : Base → Layer → List ℕ → Type 0
PermitsMethod b l name = (bars_methods l ≡ false) × IsFreeIn b l name

abbrev pub HasDistinctNames : ParameterDecl → Func → Type 0
HasDistinctNames receiver f = AreDistinctNames (texts (out-ParameterDecl receiver).names ++ signature_names f.signature)

-- what a method of this type is asked
pub record IsMethodOf (E : Env) (b : Base) (receiver : ParameterDecl) (f : Func) : Type 0 where
  pub defined : Defined
  pub entry : E.table (record { path = E.path; name = b.name.now }) ≡ Some defined
  pub permits : PermitsMethod b (out-Term defined.underlying) f.name.text
  pub distinct : HasDistinctNames receiver f
