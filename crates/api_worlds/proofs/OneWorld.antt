-- On a platform trees have one world or one refusal.
use Rattle.std.proofs.Common.{◌≡◌, ◌≢◌, ℕ, zero, suc, Option, None, Some, List, [], ◌∷◌, ◌++◌, map, Ok, Err, refl, sym, ap, ◌∙◌, subst}
use Rattle.std.specs.Prelude.{codes, slice_get}
use Rattle.api_refusals.specs.Roots.{root_by}
use Rattle.api_refusals.specs.SkippedTexts.{listed_names, skipped_texts, why}
use Rattle.api_refusals.specs.Refusals.{cause_text, file_place, package_text, place_of, refusal_line, unit_text}
use Rattle.api_texts.specs.declared.lines.Side.{Side}
use Rattle.api_worlds.specs.LeftOut.{AreLeftOutOn, all_lines, lines_with, with_lines}
use Rattle.api_worlds.specs.declared.left_out.PackageLines.{PackageLines}
use Rattle.go_exposed.specs.SkippedDeclarations.{Skipped}
use Rattle.go_exposed.specs.SkippedWorlds.{AreSkipped}
use Rattle.api_worlds.specs.PlatformWorlds.{AreUnitsOn, IsRefusedOn, packages_refused, package_refused, IsWorldOn, sources_of}
use Rattle.go_model.specs.declared.files.platform.Platform.{Platform}
use Rattle.go_model.specs.declared.files.tree.Tree.{Tree}
use Rattle.go_model.specs.files.Platforms.{bits_of}
use Rattle.go_model.specs.worlds.Worlds.{Packages}
use Rattle.go_reading.specs.TreeUnits.{AreUnitsOfTrees}
use Rattle.go_sources.specs.UnitSources.{file_of, source_of}
use Rattle.go_exposed.specs.OfferedWorlds.{IsFirstRefused, IsWorldOf}
use Rattle.go_typings.specs.Refusals.{Refusal}
use Rattle.go_typings.specs.Sources.{PackageSource}
use Rattle.go_unit_laws.specs.WrittenUnits.{Written, written}
use Rattle.go_units.specs.declared.unit.«Unit».{«Unit» as PackageUnit}
use Rattle.go_units.specs.declared.unit_error.UnitError.{UnitError}
use Rattle.go_units.specs.declared.unit_error.UnitError.TheVariants as error
use Rattle.go_units.specs.declared.unit_list.Units.{Units}

-- ---- what depends on what is written of units alone

source_by : Written → PackageSource
source_by w = record { path = w.path; name = w.name; from_std = w.from_std; files = map file_of w.files }

sources_by : (us : List PackageUnit) → map source_of us ≡ map source_by (map written us)
unfolding source_by
sources_by [] = refl
sources_by (u ∷ us) = ap (λ (ss : List PackageSource). source_of u ∷ ss) (sources_by us)

pub same_sources : (us vs : List PackageUnit) → map written us ≡ map written vs → map source_of us ≡ map source_of vs
same_sources us vs e = sources_by us ∙ ap (map source_by) e ∙ sym (sources_by vs)

module _ (tree std_tree : Tree) where
  text_by : Option Written → Refusal → List ℕ
  text_by None r = cause_text r
  text_by (Some w) r = file_place tree std_tree [] (root_by w.from_std w.path) (slice_get w.files (place_of r).file) (place_of r).offset ++ cause_text r

  package_text_by : (us : List PackageUnit) (n : ℕ) (r : Refusal) → package_text tree std_tree [] us n r ≡ text_by (slice_get (map written us) n) r
  unfolding text_by
  package_text_by [] n r = refl
  package_text_by (u ∷ us) zero r = refl
  package_text_by (u ∷ us) (suc n) r = package_text_by us n r

  pub same_text : (us vs : List PackageUnit) (n : ℕ) (r : Refusal) → map written us ≡ map written vs → package_text tree std_tree [] us n r ≡ package_text tree std_tree [] vs n r
  same_text us vs n r e = package_text_by us n r ∙ ap (λ (ws : List Written). text_by (slice_get ws n) r) e ∙ sym (package_text_by vs n r)

-- ---- worlds and refusals

module _ (one_units : (p : Platform) (barred : List (List ℕ)) (tree std_tree : Tree) (a b : Units) → AreUnitsOfTrees p barred tree std_tree (Ok a) → AreUnitsOfTrees p barred tree std_tree (Ok b) → map written a.packages ≡ map written b.packages)
    (one_error : (p : Platform) (barred : List (List ℕ)) (tree std_tree : Tree) (d e : UnitError) → d ≢ error.NoMemory → e ≢ error.NoMemory → AreUnitsOfTrees p barred tree std_tree (Err d) → AreUnitsOfTrees p barred tree std_tree (Err e) → d ≡ e)
    (apart : (p : Platform) (barred : List (List ℕ)) (tree std_tree : Tree) (a : Units) (e : UnitError) → e ≢ error.NoMemory → AreUnitsOfTrees p barred tree std_tree (Ok a) → AreUnitsOfTrees p barred tree std_tree (Err e) → ⊥)
    (one_world : (bits : ℕ) (us : List PackageSource) (v w : Packages) → IsWorldOf bits us v → IsWorldOf bits us w → v ≡ w)
    (one_refusal : (bits : ℕ) (us : List PackageSource) (m n : ℕ) (q r : Refusal) → IsFirstRefused bits us m q → IsFirstRefused bits us n r → (m ≡ n) × (q ≡ r))
    (world_or : (bits : ℕ) (us : List PackageSource) (w : Packages) (n : ℕ) (r : Refusal) → IsWorldOf bits us w → IsFirstRefused bits us n r → ⊥)
    (barred : List (List ℕ)) (tree std_tree : Tree) (p : Platform) where
  shared : (a b : Units) → AreUnitsOn barred tree std_tree p a → AreUnitsOn barred tree std_tree p b → sources_of a ≡ sources_of b
  shared a b s t = same_sources a.packages b.packages (one_units p barred tree std_tree a b s t)

  pub same_world : (v w : Packages) → IsWorldOn barred tree std_tree p v → IsWorldOn barred tree std_tree p w → v ≡ w
  same_world v w a b = one_world (bits_of p) (sources_of b.0) v w (subst (λ (us : List PackageSource). IsWorldOf (bits_of p) us v) (shared a.0 b.0 a.1 b.1) a.2) b.2

  pub same_refusal : (s : Side) (x y : List ℕ) → IsRefusedOn barred tree std_tree s p x → IsRefusedOn barred tree std_tree s p y → x ≡ y
  same_refusal s x y (packages_refused d n a) (packages_refused e m b) = ap (λ (f : UnitError). refusal_line s p (unit_text tree std_tree [] f)) (one_error p barred tree std_tree d e n m a b)
  same_refusal s x y (packages_refused d n a) (package_refused units k r b f) = absurd (apart p barred tree std_tree units d n b a)
  same_refusal s x y (package_refused units k r a f) (packages_refused e m b) = absurd (apart p barred tree std_tree units e m a b)
  same_refusal s x y (package_refused units k r a f) (package_refused others l q b g) =
      let same = one_refusal (bits_of p) (sources_of others) k l r q (subst (λ (us : List PackageSource). IsFirstRefused (bits_of p) us k r) (shared units others a b) f) g in
      ap (refusal_line s p) (same_text tree std_tree units.packages others.packages k r (one_units p barred tree std_tree units others a b) ∙ (λ i. package_text tree std_tree [] others.packages (same.0 i) (same.1 i)))

  pub world_or_refusal : (s : Side) (w : Packages) (line : List ℕ) → IsWorldOn barred tree std_tree p w → IsRefusedOn barred tree std_tree s p line → ⊥
  world_or_refusal s w line a (packages_refused e n b) = apart p barred tree std_tree a.0 e n a.1 b
  world_or_refusal s w line a (package_refused units n r b f) = world_or (bits_of p) (sources_of units) w n r (subst (λ (us : List PackageSource). IsWorldOf (bits_of p) us w) (shared a.0 units a.1 b) a.2) f

-- ---- what is left out

module _ (tree std_tree : Tree) where
  -- the lines by what is written of the units
  text_of : Written → Skipped → List ℕ
  text_of w x = file_place tree std_tree [] (root_by w.from_std w.path) (slice_get w.files x.place.file) x.place.offset ++ codes " " ++ listed_names x.names ++ codes ": " ++ why x.cause

  lines_by : List PackageLines → List Written → List (List Skipped) → List PackageLines
  lines_by ps [] xss = ps
  lines_by ps (w ∷ ws) [] = ps
  lines_by ps (w ∷ ws) (xs ∷ xss) = lines_by (with_lines w.path (map (text_of w) xs) ps) ws xss

  written_lines : (us : List PackageUnit) (xss : List (List Skipped)) (ps : List PackageLines) → lines_with tree std_tree ps us xss ≡ lines_by ps (map written us) xss
  unfolding text_of lines_by
  written_lines [] xss ps = refl
  written_lines (u ∷ us) [] ps = refl
  written_lines (u ∷ us) (xs ∷ xss) ps = written_lines us xss (with_lines u.path (skipped_texts tree std_tree u xs) ps)

module _ (one_units : (p : Platform) (barred : List (List ℕ)) (tree std_tree : Tree) (a b : Units) → AreUnitsOfTrees p barred tree std_tree (Ok a) → AreUnitsOfTrees p barred tree std_tree (Ok b) → map written a.packages ≡ map written b.packages)
    (one_list : (bits : ℕ) (us : List PackageSource) (xs ys : List (List Skipped)) → AreSkipped bits us xs → AreSkipped bits us ys → xs ≡ ys)
    (barred : List (List ℕ)) (tree std_tree : Tree) (p : Platform) where
  pub same_left_out : (x y : List (List ℕ)) → AreLeftOutOn barred tree std_tree p x → AreLeftOutOn barred tree std_tree p y → x ≡ y
  same_left_out x y a b =
      let same : map written a.units.packages ≡ map written b.units.packages = one_units p barred tree std_tree a.units b.units a.are b.are in
      let skipped : a.skipped ≡ b.skipped = one_list (bits_of p) (sources_of b.units) a.skipped b.skipped (subst (λ (us : List PackageSource). AreSkipped (bits_of p) us a.skipped) (same_sources a.units.packages b.units.packages same) a.skips) b.skips in
      a.«is» ∙ ap all_lines (written_lines tree std_tree a.units.packages a.skipped [] ∙ (λ i. lines_by tree std_tree [] (same i) (skipped i)) ∙ sym (written_lines tree std_tree b.units.packages b.skipped [])) ∙ sym b.«is»
