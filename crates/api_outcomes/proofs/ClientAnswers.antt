-- Something is told of a client on platforms, or there is a first refusal.
use Rattle.std.proofs.Common.{◌≡◌, ◌≢◌, ◌⊎◌, ℕ, List, [], ◌∷◌, map, Option, Some, None, Result, Ok, Err, refl, ap, subst, inl, inr}
use Rattle.api_clients.specs.ClientAnswers.{AreAnswers, IsAnsweredOn, IsFirstRefusal, IsRefusedOn, package_refused, packages_refused, refused_here, refused_later, told_as}
use Rattle.api_outcomes.proofs.WorldsOn.{IsRead}
use Rattle.api_refusals.specs.Refusals.{package_text, refusal_line, unit_text}
use Rattle.api_reports.specs.declared.clients.ClientAnswer.{ClientAnswer}
use Rattle.api_texts.specs.declared.lines.Side.TheVariants as side
use Rattle.api_worlds.specs.PlatformWorlds.{sources_of}
use Rattle.go_base.specs.Lists.{Has}
use Rattle.go_client_typings.specs.Clients.{Blocks, IsVetted}
use Rattle.go_client_typings.specs.declared.vetted.Vetted.{Vetted}
use Rattle.go_client_typings.specs.declared.vetted.Vetted.TheVariants as vetted
use Rattle.go_client_units.specs.ClientUnits.{AreClientUnits, IsClientOf}
use Rattle.go_client_units.specs.declared.units.ClientUnit.{ClientUnit}
use Rattle.go_client_units.specs.declared.units.ClientUnits.{ClientUnits}
use Rattle.go_clients.specs.Vetting.{IsClientPath, IsVettedAs}
use Rattle.go_existence.specs.Existence.{NotNone}
use Rattle.go_existence.proofs.DoubleNegation.{bind, so, sure}
use Rattle.go_exposed.specs.OfferedWorlds.{IsFirstRefused, IsWorldOf}
use Rattle.go_model.specs.declared.files.platform.Platform.{Platform}
use Rattle.go_model.specs.declared.files.tree.Tree.{Tree}
use Rattle.go_model.specs.files.Platforms.{bits_of}
use Rattle.go_model.specs.files.Trees.{IsTree}
use Rattle.go_model.specs.types.Terms.{client_path}
use Rattle.go_model.specs.worlds.Worlds.{IsWorld, Packages}
use Rattle.go_sources.specs.UnitSources.{source_of}
use Rattle.go_std_worlds.proofs.OwnPaths.{own_paths}
use Rattle.go_std_worlds.specs.StdSources.{HaveOwnPaths}
use Rattle.go_syntax.specs.declared.statement.LiteralBlock.{LiteralBlock}
use Rattle.go_typings.specs.Refusals.{Refusal}
use Rattle.go_typings.specs.Sources.{PackageSource}
use Rattle.go_units.specs.declared.unit.UnitFile.{UnitFile}
use Rattle.go_units.specs.declared.unit.«Unit».{«Unit» as PackageUnit}
use Rattle.go_units.specs.declared.unit_error.UnitError.{UnitError}
use Rattle.go_units.specs.declared.unit_error.UnitError.TheVariants as unit
use Rattle.go_units.specs.declared.unit_list.Units.{Units}
use Rattle.go_work.specs.Answers.{sources}
use Rattle.go_work.specs.Paths.{AreOfPackages}

-- the laws of the layers below
pub record ClientsBelow : Type 0 where
  pub units : (p : Platform) (barred : List (List ℕ)) (tree std_tree client : Tree) → Has barred tree.«module» → IsTree tree → IsTree std_tree → IsTree client
      → NotNone ((r : Result ClientUnits UnitError) × (r ≢ Err unit.NoMemory) × AreClientUnits p barred tree std_tree client r)
  pub paths : (p : Platform) (barred : List (List ℕ)) (tree std_tree client : Tree) (r : ClientUnits) → IsTree tree → IsTree std_tree → tree.«module» ≢ [] → AreClientUnits p barred tree std_tree client (Ok r)
      → AreOfPackages r.packages.packages
  pub worlds : (bits : ℕ) (units : Units) → AreOfPackages units.packages
      → NotNone (((w : Packages) × IsWorldOf bits (sources units.packages) w) ⊎ ((n : ℕ) × (r : Refusal) × IsFirstRefused bits (sources units.packages) n r))
  pub made : (bits : ℕ) (us : List PackageSource) (w : Packages) → HaveOwnPaths us → ((u : PackageSource) → Has us u → (u.path ≢ []) × (u.path ≢ client_path)) → IsWorldOf bits us w → IsWorld w
  pub vetted : (world : Packages) (bits : ℕ) (u : PackageSource) (blocks : Blocks) → IsWorld world → u.path ≡ client_path → NotNone ((v : Vetted) × IsVetted world bits u blocks v)

mapped : {A B : Type 0} (f : A → B) (xs : List A) (y : B) → Has (map f xs) y → (x : A) × Has xs x × (f x ≡ y)
mapped f [] y h = absurd h
mapped f (x ∷ xs) y (inl e) = (x, inl refl, e)
mapped f (x ∷ xs) y (inr h) = let k = mapped f xs y h in (k.0, inr k.1, k.2)

pathed : (files : List UnitFile) (blocks : List (List LiteralBlock)) (c : Option ClientUnit) → IsClientOf files blocks c → IsClientPath c
pathed files blocks None h = tt
pathed files blocks (Some c) h = h.path

module _ (below : ClientsBelow) (barred : List (List ℕ)) (tree std_tree client : Tree) (read : IsRead barred tree) (std : IsTree std_tree) (folder : IsTree client) where
  told : (w : Packages) (bits : ℕ) (c : Option ClientUnit) → IsWorld w → IsClientPath c → NotNone ((v : Vetted) × IsVettedAs w bits c v)
  told w bits None is path = sure (vetted.InProfile, refl)
  told w bits (Some c) is path = below.vetted w bits (source_of c.unit) c.blocks is path

  abbrev PlatformEnds : Platform → Type 0
  PlatformEnds p = ((a : ClientAnswer) × IsAnsweredOn barred tree std_tree client p a) ⊎ ((line : List ℕ) × IsRefusedOn barred tree std_tree client p line)

  module _ (p : Platform) (units : ClientUnits) (are : AreClientUnits p barred tree std_tree client (Ok units)) where
    paths : AreOfPackages units.packages.packages
    paths = below.paths p barred tree std_tree client units read.is std read.named are

    of_source : (u : PackageSource) → Has (sources_of units.packages) u → (u.path ≢ []) × (u.path ≢ client_path)
    of_source u h =
        let k = mapped source_of units.packages.packages u h in
        let path = paths k.0 k.1 in
        subst (λ (x : PackageSource). (x.path ≢ []) × (x.path ≢ client_path)) k.2 (path.pathed, path.foreign)

    over_world : (w : Packages) → IsWorldOf (bits_of p) (sources_of units.packages) w → NotNone (PlatformEnds p)
    over_world w is =
        let world = below.made (bits_of p) (sources_of units.packages) w (own_paths units.packages) of_source is in
        let files = are.2.2 in
        so (told w (bits_of p) units.client world (pathed files.files are.2.0.blocks units.client files.client)) (λ v. inl (
          told_as client.files units.client v.0,
          record { units = units; are = are; world = w; is = is; vetted = v.0; told = v.1; answer = refl },
        ))

    with_units : NotNone (PlatformEnds p)
    with_units = bind (below.worlds (bits_of p) units.packages paths) (λ k. elim k [
      | inl w ↦ over_world w.0 w.1
      | inr r ↦ sure (inr (refusal_line side.New p (package_text tree std_tree client.files units.packages.packages r.0 r.1), package_refused units r.0 r.1 are r.2))
    ])

  of_answer : (p : Platform) (r : Result ClientUnits UnitError) → (r ≢ Err unit.NoMemory) → AreClientUnits p barred tree std_tree client r → NotNone (PlatformEnds p)
  of_answer p (Ok units) n are = with_units p units are
  of_answer p (Err e) n are = sure (inr (refusal_line side.New p (unit_text tree std_tree client.files e), packages_refused e (λ k. n (ap Err k)) are))

  platform_ends : (p : Platform) → NotNone (PlatformEnds p)
  platform_ends p = bind (below.units p barred tree std_tree client read.bars read.is std folder) (λ r. of_answer p r.0 r.1 r.2)

  on_more : (p : Platform) (ps : List Platform) (a : ClientAnswer) → IsAnsweredOn barred tree std_tree client p a
      → ((given : List ClientAnswer) × AreAnswers barred tree std_tree client ps given) ⊎ ((line : List ℕ) × IsFirstRefusal barred tree std_tree client ps line)
      → ((given : List ClientAnswer) × AreAnswers barred tree std_tree client (p ∷ ps) given) ⊎ ((line : List ℕ) × IsFirstRefusal barred tree std_tree client (p ∷ ps) line)
  on_more p ps a h (inl more) = inl (a ∷ more.0, (h, more.1))
  on_more p ps a h (inr r) = inr (r.0, refused_later a h r.1)

  pub answers_end : (ps : List Platform) → NotNone (((given : List ClientAnswer) × AreAnswers barred tree std_tree client ps given) ⊎ ((line : List ℕ) × IsFirstRefusal barred tree std_tree client ps line))
  answers_end [] = sure (inl ([], tt))
  answers_end (p ∷ ps) = bind (platform_ends p) (λ k. elim k [
    | inl a ↦ so (answers_end ps) (on_more p ps a.0 a.1)
    | inr r ↦ sure (inr (r.0, refused_here r.1))
  ])
