-- What a run tells of a client on platforms, over the packages of a module's tree and of the standard library's; or the first refusal with its fault line.
-- Own: the order of refusals, platform by platform. All packages and the client are taken before the first declaration is.
use Rattle.std.specs.Prelude.{◌≡◌, ◌≢◌, ℕ, Option, Some, None, List, [], ◌∷◌, slice_get, Result, Ok, Err}
use Rattle.api_refusals.specs.Places.{client_place}
use Rattle.api_refusals.specs.Refusals.{package_text, refusal_line, unit_text}
use Rattle.api_reports.specs.declared.clients.ClientAnswer.{ClientAnswer}
use Rattle.api_reports.specs.declared.clients.ClientAnswer.TheVariants as answer
use Rattle.api_texts.specs.declared.lines.Side.TheVariants as side
use Rattle.api_worlds.specs.PlatformWorlds.{sources_of}
use Rattle.api_worlds.specs.declared.error.PlatformError.{PlatformError}
use Rattle.api_worlds.specs.declared.error.PlatformError.TheVariants as error
use Rattle.go_client_typings.specs.declared.vetted.Vetted.{Vetted}
use Rattle.go_client_typings.specs.declared.vetted.Vetted.TheVariants as vetted
use Rattle.go_client_unit_laws.specs.go_client_units.ClientUnits.{AreClientUnits}
use Rattle.go_client_unit_laws.specs.go_client_units.declared.units.ClientUnit.{ClientUnit}
use Rattle.go_client_unit_laws.specs.go_client_units.declared.units.ClientUnits.{ClientUnits}
use Rattle.go_clients.specs.Vetting.{IsVettedAs}
use Rattle.go_exposed.specs.OfferedWorlds.{IsFirstRefused, IsWorldOf}
use Rattle.go_model.specs.declared.files.platform.Platform.{Platform}
use Rattle.go_model.specs.declared.files.tree.Tree.{Tree}
use Rattle.go_model.specs.declared.files.tree.TreeFile.{TreeFile}
use Rattle.go_model.specs.files.Platforms.{bits_of}
use Rattle.go_model.specs.worlds.Worlds.{Packages}
use Rattle.go_syntax.specs.declared.name.Place.{Place}
use Rattle.go_typings.specs.Refusals.{Refusal}
use Rattle.go_units.specs.declared.unit.UnitFile.{UnitFile}
use Rattle.go_units.specs.declared.unit_error.UnitError.{UnitError}
use Rattle.go_units.specs.declared.unit_error.UnitError.TheVariants as unit

-- ---- what is told of a client, with its place as reports print it

-- a place in a file of the client
abbrev pub file_place : List TreeFile → Option UnitFile → ℕ → List ℕ
file_place files None offset = []
file_place files (Some f) offset = client_place files f.path offset

abbrev pub unit_place : List TreeFile → Option ClientUnit → Place → List ℕ
unit_place files None place = []
unit_place files (Some c) place = file_place files (slice_get c.unit.files place.file) place.offset

abbrev pub told_as : List TreeFile → Option ClientUnit → Vetted → ClientAnswer
told_as files c vetted.InProfile = answer.InProfile
told_as files c vetted.TypedOutsideProfile = answer.OutsideProfile
told_as files c (vetted.Untyped place) = answer.UntypedAt (unit_place files c place)

module _ (barred : List (List ℕ)) (tree std_tree client : Tree) where
  -- ---- on one platform

  -- the units of the module with the client
  abbrev pub AreUnitsOn : Platform → ClientUnits → Type 0
  AreUnitsOn p units = AreClientUnits p barred tree std_tree client (Ok units)

  -- this is told of the client over the world of the units
  pub record IsAnsweredOn (p : Platform) (a : ClientAnswer) : Type 0 where
    pub units : ClientUnits
    pub are : AreUnitsOn p units
    pub world : Packages
    pub is : IsWorldOf (bits_of p) (sources_of units.packages) world
    pub vetted : Vetted
    pub told : IsVettedAs world (bits_of p) units.client vetted
    pub answer : a ≡ told_as client.files units.client vetted

  -- the fault line of the first refusal of packages and client, or else of the first package that is refused
  pub data IsRefusedOn (p : Platform) : List ℕ → Type 0 where
    packages_refused : (e : UnitError) → e ≢ unit.NoMemory → AreClientUnits p barred tree std_tree client (Err e) → IsRefusedOn p (refusal_line side.New p (unit_text tree std_tree client.files e))
    package_refused : (units : ClientUnits) (n : ℕ) (r : Refusal) → AreUnitsOn p units → IsFirstRefused (bits_of p) (sources_of units.packages) n r
        → IsRefusedOn p (refusal_line side.New p (package_text tree std_tree client.files units.packages.packages n r))

  -- ---- on platforms

  abbrev pub AreAnswers : List Platform → List ClientAnswer → Type 0
  AreAnswers [] [] = Unit {0}
  AreAnswers [] (a ∷ given) = ⊥
  AreAnswers (p ∷ ps) [] = ⊥
  AreAnswers (p ∷ ps) (a ∷ given) = IsAnsweredOn p a × AreAnswers ps given

  -- the fault line of the first platform on which something is refused
  pub data IsFirstRefusal : List Platform → List ℕ → Type 0 where
    refused_here : {p : Platform} {ps : List Platform} {line : List ℕ} → IsRefusedOn p line → IsFirstRefusal (p ∷ ps) line
    refused_later : {p : Platform} {ps : List Platform} {line : List ℕ} (a : ClientAnswer) → IsAnsweredOn p a → IsFirstRefusal ps line → IsFirstRefusal (p ∷ ps) line

  -- what is told on the platforms, or that fault line; want of memory may come at any time
  abbrev pub Answers : List Platform → Result (List ClientAnswer) PlatformError → Type 0
  Answers ps (Ok given) = AreAnswers ps given
  Answers ps (Err (error.Refused line)) = IsFirstRefusal ps line
  Answers ps (Err error.NoMemory) = Unit {0}
