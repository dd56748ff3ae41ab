-- What is told of a client on platforms is one list, or one refusal.
use Rattle.std.proofs.Common.{◌≡◌, ◌≢◌, ℕ, zero, suc, Option, Some, None, List, [], ◌∷◌, ◌++◌, map, slice_get, Ok, Err, refl, sym, ap, ◌∙◌, subst}
use Rattle.api_clients.specs.ClientAnswers.{AreAnswers, AreUnitsOn, IsAnsweredOn, IsFirstRefusal, IsRefusedOn, file_place, packages_refused, package_refused, refused_here, refused_later, told_as, unit_place}
use Rattle.api_refusals.specs.Refusals.{cause_text, file_place as refused_place, package_text, place_of, refusal_line, unit_text}
use Rattle.api_refusals.specs.Roots.{root_by}
use Rattle.api_reports.specs.declared.clients.ClientAnswer.{ClientAnswer}
use Rattle.api_reports.specs.declared.clients.ClientAnswer.TheVariants as answer
use Rattle.api_texts.specs.declared.lines.Side.TheVariants as side
use Rattle.api_worlds.proofs.OneWorld.{same_sources}
use Rattle.api_worlds.specs.PlatformWorlds.{sources_of}
use Rattle.go_client_typings.specs.Clients.{Blocks, IsVetted}
use Rattle.go_client_typings.specs.declared.vetted.Vetted.{Vetted}
use Rattle.go_client_typings.specs.declared.vetted.Vetted.TheVariants as vetted
use Rattle.go_client_unit_laws.specs.WrittenClients.{AreWrittenAlike}
use Rattle.go_client_unit_laws.specs.go_client_units.ClientUnits.{AreClientUnits}
use Rattle.go_client_unit_laws.specs.go_client_units.declared.units.ClientUnit.{ClientUnit}
use Rattle.go_client_unit_laws.specs.go_client_units.declared.units.ClientUnits.{ClientUnits}
use Rattle.go_clients.specs.Vetting.{IsVettedAs}
use Rattle.go_exposed.specs.OfferedWorlds.{IsFirstRefused, IsWorldOf}
use Rattle.go_model.specs.declared.files.platform.Platform.{Platform}
use Rattle.go_model.specs.declared.files.tree.Tree.{Tree}
use Rattle.go_model.specs.declared.files.tree.TreeFile.{TreeFile}
use Rattle.go_model.specs.files.Platforms.{bits_of}
use Rattle.go_model.specs.worlds.Worlds.{Packages}
use Rattle.go_sources.specs.UnitSources.{file_of, source_of}
use Rattle.go_syntax.specs.declared.name.Place.{Place}
use Rattle.go_typings.specs.Refusals.{Refusal}
use Rattle.go_typings.specs.Sources.{PackageSource}
use Rattle.go_unit_laws.specs.WrittenUnits.{Written, written}
use Rattle.go_units.specs.declared.unit.«Unit».{«Unit» as PackageUnit}
use Rattle.go_units.specs.declared.unit_error.UnitError.{UnitError}
use Rattle.go_units.specs.declared.unit_error.UnitError.TheVariants as error

-- ---- by what is written of units

source_by : Written → PackageSource
source_by w = record { path = w.path; name = w.name; from_std = w.from_std; files = map file_of w.files }

one_source : (c d : PackageUnit) → written c ≡ written d → source_of c ≡ source_of d
unfolding source_by
one_source c d e = ap source_by e

module _ (files : List TreeFile) where
  same_place : (c d : Option ClientUnit) → AreWrittenAlike c d → (p : Place) → unit_place files c p ≡ unit_place files d p
  same_place None None a p = refl
  same_place None (Some d) a p = absurd a
  same_place (Some c) None a p = absurd a
  same_place (Some c) (Some d) a p = ap (λ (w : Written). file_place files (slice_get w.files p.file) p.offset) a.0

  same_told : (c d : Option ClientUnit) → AreWrittenAlike c d → (v : Vetted) → told_as files c v ≡ told_as files d v
  same_told c d a vetted.InProfile = refl
  same_told c d a vetted.TypedOutsideProfile = refl
  same_told c d a (vetted.Untyped place) = ap answer.UntypedAt (same_place c d a place)

module _ (tree std_tree : Tree) (files : List TreeFile) where
  text_by : Option Written → Refusal → List ℕ
  text_by None r = cause_text r
  text_by (Some w) r = refused_place tree std_tree files (root_by w.from_std w.path) (slice_get w.files (place_of r).file) (place_of r).offset ++ cause_text r

  package_text_by : (us : List PackageUnit) (n : ℕ) (r : Refusal) → package_text tree std_tree files us n r ≡ text_by (slice_get (map written us) n) r
  unfolding text_by
  package_text_by [] n r = refl
  package_text_by (u ∷ us) zero r = refl
  package_text_by (u ∷ us) (suc n) r = package_text_by us n r

  same_text : (us vs : List PackageUnit) (n : ℕ) (r : Refusal) → map written us ≡ map written vs → package_text tree std_tree files us n r ≡ package_text tree std_tree files vs n r
  same_text us vs n r e = package_text_by us n r ∙ ap (λ (ws : List Written). text_by (slice_get ws n) r) e ∙ sym (package_text_by vs n r)

-- ---- what is told, and refusals

-- the laws of the layers below
pub record Below : Type 0 where
  pub units : (p : Platform) (barred : List (List ℕ)) (tree std_tree client : Tree) (a b : ClientUnits) → AreClientUnits p barred tree std_tree client (Ok a) → AreClientUnits p barred tree std_tree client (Ok b)
      → (map written a.packages.packages ≡ map written b.packages.packages) × AreWrittenAlike a.client b.client
  pub units_refusal : (p : Platform) (barred : List (List ℕ)) (tree std_tree client : Tree) (d e : UnitError) → d ≢ error.NoMemory → e ≢ error.NoMemory → AreClientUnits p barred tree std_tree client (Err d) → AreClientUnits p barred tree std_tree client (Err e)
      → d ≡ e
  pub apart : (p : Platform) (barred : List (List ℕ)) (tree std_tree client : Tree) (a : ClientUnits) (e : UnitError) → e ≢ error.NoMemory → AreClientUnits p barred tree std_tree client (Ok a) → AreClientUnits p barred tree std_tree client (Err e) → ⊥
  pub vetted : (world : Packages) (bits : ℕ) (u : PackageSource) (blocks : Blocks) (v w : Vetted) → IsVetted world bits u blocks v → IsVetted world bits u blocks w → v ≡ w
  pub world : (bits : ℕ) (us : List PackageSource) (v w : Packages) → IsWorldOf bits us v → IsWorldOf bits us w → v ≡ w
  pub refusal : (bits : ℕ) (us : List PackageSource) (m n : ℕ) (q r : Refusal) → IsFirstRefused bits us m q → IsFirstRefused bits us n r → (m ≡ n) × (q ≡ r)
  pub world_or : (bits : ℕ) (us : List PackageSource) (w : Packages) (n : ℕ) (r : Refusal) → IsWorldOf bits us w → IsFirstRefused bits us n r → ⊥

module _ (below : Below) (barred : List (List ℕ)) (tree std_tree client : Tree) where
  module _ (p : Platform) where
    abbrev Units : ClientUnits → Type 0
    Units u = AreUnitsOn barred tree std_tree client p u

    one_units : (a b : ClientUnits) → Units a → Units b → (map written a.packages.packages ≡ map written b.packages.packages) × AreWrittenAlike a.client b.client
    one_units a b s t = below.units p barred tree std_tree client a b s t

    shared : (a b : ClientUnits) → Units a → Units b → sources_of a.packages ≡ sources_of b.packages
    shared a b s t = same_sources a.packages.packages b.packages.packages (one_units a b s t).0

    same_vetted : (v w : Packages) (bits : ℕ) (c d : Option ClientUnit) → AreWrittenAlike c d → v ≡ w → (x y : Vetted) → IsVettedAs v bits c x → IsVettedAs w bits d y → x ≡ y
    same_vetted v w bits None None a e x y h k = h ∙ sym k
    same_vetted v w bits None (Some d) a e x y h k = absurd a
    same_vetted v w bits (Some c) None a e x y h k = absurd a
    same_vetted v w bits (Some c) (Some d) a e x y h k =
        let there : IsVetted w bits (source_of c.unit) c.blocks x = subst (λ (z : Packages). IsVetted z bits (source_of c.unit) c.blocks x) e h in
        let source : IsVetted w bits (source_of d.unit) c.blocks x = subst (λ (u : PackageSource). IsVetted w bits u c.blocks x) (one_source c.unit d.unit a.0) there in
        below.vetted w bits (source_of d.unit) d.blocks x y (subst (λ (bs : Blocks). IsVetted w bits (source_of d.unit) bs x) a.1 source) k

    one_answer : (a b : ClientAnswer) → IsAnsweredOn barred tree std_tree client p a → IsAnsweredOn barred tree std_tree client p b → a ≡ b
    one_answer a b s t =
        let same = one_units s.units t.units s.are t.are in
        let world : s.world ≡ t.world = below.world (bits_of p) (sources_of t.units.packages) s.world t.world (subst (λ (us : List PackageSource). IsWorldOf (bits_of p) us s.world) (shared s.units t.units s.are t.are) s.is) t.is in
        let vetted : s.vetted ≡ t.vetted = same_vetted s.world t.world (bits_of p) s.units.client t.units.client same.1 world s.vetted t.vetted s.told t.told in
        s.answer ∙ same_told client.files s.units.client t.units.client same.1 s.vetted ∙ ap (told_as client.files t.units.client) vetted ∙ sym t.answer

    one_refusal : (x y : List ℕ) → IsRefusedOn barred tree std_tree client p x → IsRefusedOn barred tree std_tree client p y → x ≡ y
    one_refusal x y (packages_refused d n a) (packages_refused e m b) = ap (λ (f : UnitError). refusal_line side.New p (unit_text tree std_tree client.files f)) (below.units_refusal p barred tree std_tree client d e n m a b)
    one_refusal x y (packages_refused d n a) (package_refused units k r b f) = absurd (below.apart p barred tree std_tree client units d n b a)
    one_refusal x y (package_refused units k r a f) (packages_refused e m b) = absurd (below.apart p barred tree std_tree client units e m a b)
    one_refusal x y (package_refused units k r a f) (package_refused others l q b g) =
        let same = below.refusal (bits_of p) (sources_of others.packages) k l r q (subst (λ (us : List PackageSource). IsFirstRefused (bits_of p) us k r) (shared units others a b) f) g in
        ap (refusal_line side.New p)
        (same_text tree std_tree client.files units.packages.packages others.packages.packages k r (one_units units others a b).0 ∙ (λ i. package_text tree std_tree client.files others.packages.packages (same.0 i) (same.1 i)))

    answer_or_refusal : (a : ClientAnswer) (line : List ℕ) → IsAnsweredOn barred tree std_tree client p a → IsRefusedOn barred tree std_tree client p line → ⊥
    answer_or_refusal a line s (packages_refused e n b) = below.apart p barred tree std_tree client s.units e n s.are b
    answer_or_refusal a line s (package_refused units n r b f) =
        below.world_or (bits_of p) (sources_of units.packages) s.world n r (subst (λ (us : List PackageSource). IsWorldOf (bits_of p) us s.world) (shared s.units units s.are b) s.is) f

  -- ---- on platforms

  pub one_list : (ps : List Platform) (given bs : List ClientAnswer) → AreAnswers barred tree std_tree client ps given → AreAnswers barred tree std_tree client ps bs → given ≡ bs
  one_list [] [] [] s t = refl
  one_list [] [] (b ∷ bs) s t = absurd t
  one_list [] (a ∷ given) bs s t = absurd s
  one_list (p ∷ ps) [] bs s t = absurd s
  one_list (p ∷ ps) (a ∷ given) [] s t = absurd t
  one_list (p ∷ ps) (a ∷ given) (b ∷ bs) s t =
      let first : a ≡ b = one_answer p a b s.0 t.0 in
      let rest : given ≡ bs = one_list ps given bs s.1 t.1 in
      (λ i. first i ∷ rest i)

  pub one_first : {ps : List Platform} {x y : List ℕ} → IsFirstRefusal barred tree std_tree client ps x → IsFirstRefusal barred tree std_tree client ps y → x ≡ y
  one_first (refused_here {p = p} {line = x} a) (refused_here {line = y} b) = one_refusal p x y a b
  one_first (refused_here {p = p} {line = x} a) (refused_later m s b) = absurd (answer_or_refusal p m x s a)
  one_first (refused_later m s a) (refused_here {p = p} {line = y} b) = absurd (answer_or_refusal p m y s b)
  one_first (refused_later m s a) (refused_later n t b) = one_first a b

  pub list_or_first : {ps : List Platform} {line : List ℕ} (given : List ClientAnswer) → AreAnswers barred tree std_tree client ps given → IsFirstRefusal barred tree std_tree client ps line → ⊥
  list_or_first [] t (refused_here b) = t
  list_or_first [] t (refused_later m s b) = t
  list_or_first (a ∷ given) t (refused_here {p = p} {line = x} b) = answer_or_refusal p a x t.0 b
  list_or_first (a ∷ given) t (refused_later m s b) = list_or_first given t.1 b
