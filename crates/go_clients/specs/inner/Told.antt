-- What is told of the bodies in declarations.
use Rattle.std.specs.Prelude.{◌≡◌, ◌≤◌, ℕ, Bool, true, false, nat_eq, nat_le, nat_lt, if◌then◌else◌, List, map, Option, None, Some}
use denote.Ref.{Bor}
use Rattle.go_base.specs.Lists.{Has}
use Rattle.go_check.specs.declared.error.CheckError.{CheckError}
use Rattle.go_check.specs.declared.error.CheckError.TheVariants as error
use Rattle.go_client_typings.specs.Bodies.{AreTypedBodies, HasUntyped}
use Rattle.go_client_typings.specs.Clients.{Blocks, BodiesAreTyped, ComesFirst, IsFirstUntyped, blocks_in}
use Rattle.go_client_typings.specs.declared.vetted.Vetted.{Vetted}
use Rattle.go_client_typings.specs.declared.vetted.Vetted.TheVariants as vetted
use Rattle.go_judged.specs.declared.judged.Judged.{Judged}
use Rattle.go_literal_blocks.specs.declared.blocks.Blocks.{Blocks as Found}
use Rattle.go_local_scopes.specs.States.{around}
use Rattle.go_model.specs.declared.types.package.Package.{Package}
use Rattle.go_rules.specs.Environments.{Env}
use Rattle.go_rules.specs.Scopes.{Scopes as Known}
use Rattle.go_statement_rules.specs.Functions.{EntersBody, Run}
use Rattle.go_syntax.specs.declared.declaration.Func.{Func}
use Rattle.go_syntax.specs.declared.name.Place.{Place}
use Rattle.go_syntax.specs.declared.statement.LiteralBlock.{LiteralBlock}
use Rattle.go_typings.specs.Declarations.{Declaration}
use Rattle.go_typings.specs.PackageEnvironments.{Entries, iota_of}
use Rattle.go_typings.specs.Refusals.{place_of}
use Rattle.go_typings.specs.Sources.{PackageSource, Setting}
use Rattle.go_typings.specs.TypedPackages.{IsTypedAs}
use Rattle.go_typings.specs.Typings.{IsTyping}

-- ---- one declaration

abbrev pub func_of : Option (Bor Func) → Option Func
func_of None = None
func_of (Some f) = Some f.now

-- the run of the body of what is declared
abbrev pub HasOwnRun : Env → List LiteralBlock → Option Func → Run → Type 0
HasOwnRun E blocks None w = ⊥
HasOwnRun E blocks (Some f) w = EntersBody E blocks f w

-- the scopes where a declaration stands
abbrev pub turned : Known → Declaration → Known
turned c d = record c { file = d.file; iota = iota_of d.form }

-- the place that is told, by what is found in the bodies
abbrev pub own_place : Declaration → Bool → Option Place
own_place d true = None
own_place d false = Some (place_of d)

abbrev pub told_in : Declaration → Bool → Option ℕ → Option Place
told_in d typed None = own_place d typed
told_in d typed (Some p) = Some (record { file = d.file; offset = p })

abbrev pub told_by : Declaration → Judged → Option Place
told_by d j = told_in d j.typed j.place

-- the bodies in the declaration are typed, or this is the first place of one that isn't
pub record IsFirstIn (E : Env) (blocks : List LiteralBlock) (d : Declaration) (p : Place) : Type 0 where
  pub file : d.file ≡ p.file
  pub untyped : HasUntyped E blocks d.form p.offset
  pub first : (q : ℕ) → HasUntyped E blocks d.form q → p.offset ≤ q

abbrev pub TellsDeclaration : Env → List LiteralBlock → Declaration → Option Place → Type 0
TellsDeclaration E blocks d None = AreTypedBodies E blocks d.form
TellsDeclaration E blocks d (Some p) = IsFirstIn E blocks d p

-- ---- all declarations

abbrev pub list_of : Found → List LiteralBlock
list_of b = b.list.now

abbrev pub lists_of : List Found → Blocks
lists_of bs = map list_of bs

abbrev pub comes_first : Place → Place → Bool
comes_first p q = if nat_eq p.file q.file then nat_le p.offset q.offset else nat_lt p.file q.file

abbrev pub earlier : Place → Place → Place
earlier p q = if comes_first p q then p else q

abbrev pub lesser : Option Place → Option Place → Option Place
lesser None r = r
lesser (Some p) None = Some p
lesser (Some p) (Some q) = Some (earlier p q)

-- in these scopes, moved to each of the declarations in turn
module _ (c : Known) (blocks : Blocks) where
  abbrev pub At : Declaration → Env
  At d = around (turned c d)

  pub record IsFirstAmong (ds : List Declaration) (p : Place) : Type 0 where
    pub declaration : Declaration
    pub has : Has ds declaration
    pub file : declaration.file ≡ p.file
    pub untyped : HasUntyped (At declaration) (blocks_in blocks declaration.file) declaration.form p.offset
    pub first : (d : Declaration) (q : ℕ) → Has ds d → HasUntyped (At d) (blocks_in blocks d.file) d.form q → ComesFirst p (record { file = d.file; offset = q })

  abbrev pub FindsIn : List Declaration → Option Place → Type 0
  FindsIn ds None = (d : Declaration) → Has ds d → AreTypedBodies (At d) (blocks_in blocks d.file) d.form
  FindsIn ds (Some p) = IsFirstAmong ds p

-- where the declarations have a typing, their bodies are typed, or this is the first place of one that isn't
abbrev pub FindsUnder : Setting → PackageSource → Blocks → Entries → Option Place → Type 0
FindsUnder s u blocks a None = BodiesAreTyped s u blocks a
FindsUnder s u blocks a (Some p) = IsFirstUntyped s u blocks a p

abbrev pub Finds : Setting → PackageSource → Blocks → Option Place → Type 0
Finds s u blocks r = (a : Entries) → IsTyping s u a → FindsUnder s u blocks a r

-- the declarations are typed
abbrev pub HasPackage : Setting → PackageSource → Type 0
HasPackage s u = (p : Package) × IsTypedAs s u p

-- what is told where they aren't, for this
abbrev pub TellsError : CheckError → Vetted → Type 0
TellsError (error.Redeclared p) v = v ≡ vetted.Untyped p
TellsError (error.MissingImport p) v = v ≡ vetted.Untyped p
TellsError (error.Unsound p) v = v ≡ vetted.Untyped p
TellsError error.NoMemory v = ⊥
