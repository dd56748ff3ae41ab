-- What is told of a client on a platform, by what is answered of the packages.
use Rattle.std.proofs.Common.{◌≡◌, ◌+◌, ◌≤◌, ℕ, Option, Some, None, List, [], ◌∷◌, length, Result, Ok, Err, ap, ◌∙◌, sym, subst, arith}
use Rattle.std.specs.Option.{option_copied}
use denote.Ref.{Bor}
use Rattle.api_clients.specs.ClientAnswers.{AreUnitsOn, IsRefusedOn, packages_refused, package_refused}
use Rattle.api_clients.specs.ClientChecks.{CountsAtMost, all_packages, count_more, count_none, no_package}
use Rattle.api_clients.specs.inner.ClientSteps.{AnswersOfUnits, AnswersOn, IsErrorOn, IsTold, IsToldOf}
use Rattle.api_refusals.specs.Refusals.{refusal_line, unit_text}
use Rattle.api_reports.specs.declared.clients.ClientAnswer.{ClientAnswer}
use Rattle.api_texts.specs.declared.lines.Side.TheVariants as side
use Rattle.api_worlds.specs.PlatformWorlds.{sources_of}
use Rattle.api_worlds.specs.Refused.{IsUnitRefusal}
use Rattle.api_worlds.specs.declared.error.PlatformError.{PlatformError}
use Rattle.api_worlds.specs.declared.error.PlatformError.TheVariants as error
use Rattle.go_client_unit_laws.specs.go_client_units.ClientUnits.{AreClientUnits, IsClientOf}
use Rattle.go_client_unit_laws.specs.go_client_units.declared.units.ClientUnit.{ClientUnit}
use Rattle.go_client_unit_laws.specs.go_client_units.declared.units.ClientUnits.{ClientUnits}
use Rattle.go_clients.specs.Vetting.{IsClientPath, client_in}
use Rattle.go_exposed.specs.OfferedWorlds.{IsWorldOf}
use Rattle.go_model.specs.declared.files.platform.Platform.{Platform}
use Rattle.go_model.specs.declared.files.tree.Tree.{Tree}
use Rattle.go_model.specs.declared.files.tree.TreeFile.{TreeFile}
use Rattle.go_model.specs.files.Platforms.{bits_of}
use Rattle.go_model.specs.worlds.Worlds.{Packages}
use Rattle.go_syntax.specs.declared.statement.LiteralBlock.{LiteralBlock}
use Rattle.go_units.specs.declared.unit.UnitFile.{UnitFile}
use Rattle.go_units.specs.declared.unit.«Unit».{«Unit» as PackageUnit}
use Rattle.go_units.specs.declared.unit_error.UnitError.{UnitError}
use Rattle.api_worlds.specs.go_work.Answers.{sources}
use Rattle.api_worlds.specs.go_work.TypedUnits.{AreTypedUnits}
use Rattle.api_worlds.specs.go_work.declared.typed.TypedUnits.{TypedUnits}

pathed : (files : List UnitFile) (blocks : List (List LiteralBlock)) (c : Option ClientUnit) → IsClientOf files blocks c → IsClientPath c
pathed files blocks None h = tt
pathed files blocks (Some c) h = h.path

-- a client that is borrowed
pub borrowed : (o : Option (Bor ClientUnit)) (c : Option ClientUnit) → option_copied o ≡ c → client_in o ≡ c
borrowed None c e = e
borrowed (Some b) c e = e

-- what is told over the world of units, where the bits are those of the platform
pub told_kept : (tree std_tree client : Tree) (p : Platform) (units : ClientUnits) (bits : ℕ) (w : Packages) (files : List TreeFile) (o : Option (Bor ClientUnit)) (a : ClientAnswer) → bits ≡ bits_of p → files ≡ client.files → option_copied o ≡ units.client
    → IsWorldOf bits (sources_of units.packages) w → IsTold files w bits (client_in o) a → IsToldOf tree std_tree client p units a
told_kept tree std_tree client p units bits w files o a e f b i t = record {
  world = w;
  is = subst (λ (n : ℕ). IsWorldOf n (sources_of units.packages) w) e i;
  told = subst (λ (x : ℕ × List TreeFile × Option ClientUnit). IsTold x.1 w x.0 x.2 a) (λ j. (e j, f j, borrowed o units.client b j)) t;
}

-- the same, where the packages were typed for so many bits
pub told_typed : (tree std_tree client : Tree) (p : Platform) (units : ClientUnits) (bits : ℕ) (t : TypedUnits) (files : List TreeFile) (o : Option (Bor ClientUnit)) (a : ClientAnswer) → bits ≡ bits_of p → files ≡ client.files → option_copied o ≡ units.client
    → t.bits ≡ bits → t.units ≡ units.packages.packages → AreTypedUnits t → IsTold files t.world bits (client_in o) a → IsToldOf tree std_tree client p units a
told_typed tree std_tree client p units bits t files o a e f b wide same typed told =
    told_kept tree std_tree client p units bits t.world files o a e f b
    (subst (λ (n : ℕ). IsWorldOf n (sources_of units.packages) t.world) wide (subst (λ (us : List PackageUnit). IsWorldOf t.bits (sources us) t.world) same typed.world)) told

module _ (barred : List (List ℕ)) (tree std_tree client : Tree) (p : Platform) where
  pub client_pathed : (units : ClientUnits) → AreUnitsOn barred tree std_tree client p units → IsClientPath units.client
  client_pathed units a = let w = a.2.2 in pathed w.files a.2.0.blocks units.client w.client

  pub units_error : (files : List TreeFile) (e : UnitError) (x : PlatformError) → files ≡ client.files → AreClientUnits p barred tree std_tree client (Err e) → IsUnitRefusal tree std_tree files side.New p e x → IsErrorOn barred tree std_tree client p x
  units_error files e (error.Refused line) f a h =
      subst (IsRefusedOn barred tree std_tree client p) (sym (h.1 ∙ ap (λ (fs : List TreeFile). refusal_line side.New p (unit_text tree std_tree fs e)) f)) (packages_refused e h.0 a)
  units_error files e error.NoMemory f a h = tt

  pub units_answer : (units : ClientUnits) (r : Result ClientAnswer PlatformError) → AreUnitsOn barred tree std_tree client p units → AnswersOfUnits tree std_tree client p units r → AnswersOn barred tree std_tree client p r
  units_answer units (Ok a) k h = record { units = units; are = k; world = h.world; is = h.is; vetted = h.told.vetted; told = h.told.told; answer = h.told.answer }
  units_answer units (Err (error.Refused line)) k h = subst (IsRefusedOn barred tree std_tree client p) (sym h.3) (package_refused units h.0 h.1 k h.2)
  units_answer units (Err error.NoMemory) k h = tt

  pub no_count : (before : ℕ) → CountsAtMost barred tree std_tree client (p ∷ []) before before
  no_count before = (0 + 0, count_more 0 no_package count_none, omega arith)

  pub units_count : (units : ClientUnits) (before now : ℕ) → AreUnitsOn barred tree std_tree client p units → now ≤ before + length units.packages.packages → CountsAtMost barred tree std_tree client (p ∷ []) before now
  units_count units before now a h = (length units.packages.packages + 0, count_more (length units.packages.packages) (all_packages units a) count_none, omega (arith, h))
