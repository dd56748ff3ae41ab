-- On platforms trees have one list of features and one list of verdicts, or one refusal.
use Rattle.std.proofs.Common.{◌≡◌, ℕ, true, Option, List, [], ◌∷◌, ◌++◌, map, refl, sym, ap, ◌∙◌, subst}
use Rattle.std.proofs.lemmas.List.{map-append}
use Rattle.api_features.specs.Features.{IsFeature}
use Rattle.api_findings.proofs.OneListing.{same_lines, same_texts}
use Rattle.api_findings.proofs.PlainPaths.{IsPlain, elements_plain, package_of}
use Rattle.api_shared_features.proofs.PlainLines.{IsSimple}
use Rattle.api_findings.proofs.PlatformFindings.{IsFeatured, featured, old_stands}
use Rattle.api_findings.specs.Findings.{AreFindings, find_none, find_more, Finds, features_alone, with_verdict, IsRefusal, old_refused, new_refused, IsFirstRefusal, refused_here, refused_later, OldStands, shown}
use Rattle.api_judge.specs.Verdicts.{IsVerdict}
use Rattle.api_judge.specs.declared.verdict.Verdict.{Verdict}
use Rattle.api_lines.proofs.OrderedTexts.{map_has}
use Rattle.api_lines.specs.Lines.{IsListing, printed}
use Rattle.api_lines.specs.Merging.{IsMerged}
use Rattle.api_lines.specs.declared.line.Line.{Line}
use Rattle.api_subjects.specs.Told.{printed as told_text}
use Rattle.api_texts.specs.declared.lines.Side.{Side}
use Rattle.api_texts.specs.declared.lines.Side.TheVariants as side
use Rattle.api_worlds.specs.PlatformWorlds.{AreUnitsOn, IsRefusedOn, IsWorldOn, sources_of}
use Rattle.go_base.specs.Lists.{Has}
use Rattle.go_model.specs.declared.files.platform.Platform.{Platform}
use Rattle.go_model.specs.declared.files.tree.Tree.{Tree}
use Rattle.go_model.specs.files.Platforms.{bits_of}
use Rattle.go_model.specs.files.Trees.{are_elements}
use Rattle.go_model.specs.worlds.Worlds.{Packages}
use Rattle.go_sources.specs.UnitSources.{source_of}
use Rattle.go_typings.specs.Sources.{PackageSource}
use Rattle.go_units.specs.declared.unit.«Unit».{«Unit» as PackageUnit}
use Rattle.go_units.specs.declared.unit_list.Units.{Units}

module _ (barred : List (List ℕ)) (old : Option Tree) (tree std_tree : Tree)
    (same_world : (t : Tree) (p : Platform) (v w : Packages) → IsWorldOn barred t std_tree p v → IsWorldOn barred t std_tree p w → v ≡ w)
    (same_refusal : (t : Tree) (s : Side) (p : Platform) (x y : List ℕ) → IsRefusedOn barred t std_tree s p x → IsRefusedOn barred t std_tree s p y → x ≡ y)
    (world_or : (t : Tree) (s : Side) (p : Platform) (w : Packages) (line : List ℕ) → IsWorldOn barred t std_tree p w → IsRefusedOn barred t std_tree s p line → ⊥) where
  -- ---- refusals

  stands_or : {p : Platform} {line : List ℕ} (w : Packages) → OldStands barred old tree std_tree p → IsWorldOn barred tree std_tree p w → IsRefusal barred old tree std_tree p line → ⊥
  stands_or {p = p} {line = line} w s i (old_refused o e r) = let k = s o e in world_or o side.Old p k.0 line k.1 r
  stands_or {p = p} {line = line} w s i (new_refused t r) = world_or tree side.New p w line i r

  one_refusal : {p : Platform} {a b : List ℕ} → IsRefusal barred old tree std_tree p a → IsRefusal barred old tree std_tree p b → a ≡ b
  one_refusal {p = p} {a = a} {b = b} (old_refused o e r) (old_refused t f q) =
      let same : o ≡ t = cc in
      same_refusal t side.Old p a b (subst (λ (s : Tree). IsRefusedOn barred s std_tree side.Old p a) same r) q
  one_refusal {p = p} {a = a} (old_refused o e r) (new_refused s q) = let k = s o e in absurd (world_or o side.Old p k.0 a k.1 r)
  one_refusal {p = p} {b = b} (new_refused s r) (old_refused o e q) = let k = s o e in absurd (world_or o side.Old p k.0 b k.1 q)
  one_refusal {p = p} {a = a} {b = b} (new_refused s r) (new_refused t q) = same_refusal tree side.New p a b r q

  pub one_first : {ps : List Platform} {a b : List ℕ} → IsFirstRefusal barred old tree std_tree ps a → IsFirstRefusal barred old tree std_tree ps b → a ≡ b
  one_first (refused_here r) (refused_here q) = one_refusal r q
  one_first (refused_here r) (refused_later w s i q) = absurd (stands_or w s i r)
  one_first (refused_later w s i r) (refused_here q) = absurd (stands_or w s i q)
  one_first (refused_later w s i r) (refused_later v t j q) = one_first r q

  pub found_or_refusal : {ps : List Platform} {lists : List (List Line)} {vs : List Verdict} {line : List ℕ} → AreFindings barred old tree std_tree ps lists vs → IsFirstRefusal barred old tree std_tree ps line → ⊥
  found_or_refusal find_none r = elim r [ ]
  found_or_refusal (find_more f a) (refused_here r) = let k = featured barred old tree std_tree f in stands_or k.world (old_stands barred old tree std_tree f) k.is r
  found_or_refusal (find_more f a) (refused_later w s i r) = found_or_refusal a r

  -- ---- features

  module _ (paths : (p : Platform) (units : Units) → AreUnitsOn barred tree std_tree p units → (u : PackageUnit) → Has units.packages u → are_elements u.path ≡ true) where
    simple : (p : Platform) (w : Packages) → IsWorldOn barred tree std_tree p w → (l : Line) → IsFeature w l → IsSimple l
    simple p w i l f =
        let k = package_of (bits_of p) (sources_of i.0) w i.2 f.of f.here in
        let u = map_has source_of i.0.packages k.0 k.1 in
        let same : u.0.path ≡ l.path = ap (λ (s : PackageSource). s.path) u.2 ∙ sym k.2 ∙ f.path in
        record { context = f.context; path = subst IsPlain same (elements_plain u.0.path (paths p i.0 i.1 u.0 u.1)) }

    one_list : (p : Platform) (xs ys : List Line) → IsFeatured barred old tree std_tree p xs → IsFeatured barred old tree std_tree p ys → xs ≡ ys
    one_list p xs ys a b =
        same_lines (IsFeature b.world) (simple p b.world b.is) xs ys (subst (λ (w : Packages). IsListing (IsFeature w) xs) (same_world tree p a.world b.world a.is b.is) a.features) b.features

    one_lists : {ps : List Platform} {xs ys : List (List Line)} {vs ws : List Verdict} → AreFindings barred old tree std_tree ps xs vs → AreFindings barred old tree std_tree ps ys ws → xs ≡ ys
    one_lists find_none find_none = refl
    one_lists (find_more {p = p} {lines = x} {lists = xs} f a) (find_more {lines = y} {lists = ys} g b) =
        let first : x ≡ y = one_list p x y (featured barred old tree std_tree f) (featured barred old tree std_tree g) in
        let rest : xs ≡ ys = one_lists a b in
        (λ i. first i ∷ rest i)

    pub one_features : {ps : List Platform} {xs ys : List (List Line)} {vs ws : List Verdict} (a b : List Line) → AreFindings barred old tree std_tree ps xs vs → AreFindings barred old tree std_tree ps ys ws
        → IsListing (IsMerged xs ps) a → IsListing (IsMerged ys ps) b → map printed a ≡ map printed b
    one_features {ps = ps} {ys = ys} a b f g h k = same_texts (IsMerged ys ps) a b (subst (λ (lists : List (List Line)). IsListing (IsMerged lists ps) a) (one_lists f g) h) k

  -- ---- verdicts

  module _ (one_verdict : (before now : Packages) (v w : Verdict) → IsVerdict before now v → IsVerdict before now w → (map told_text v.breaks ≡ map told_text w.breaks) × (v.changed ≡ w.changed)) where
    shown_once : {p : Platform} {xs ys : List Line} {vs ws : List Verdict} → Finds barred old tree std_tree p xs vs → Finds barred old tree std_tree p ys ws → map shown vs ≡ map shown ws
    shown_once (features_alone w e i f) (features_alone v g j h) = refl
    shown_once (features_alone w e i f) (with_verdict o v z g j k h l) = absurd (cc)
    shown_once (with_verdict o v z g j k h l) (features_alone w e i f) = absurd (cc)
    shown_once {p = p} (with_verdict {v = a} o before now e i j f k) (with_verdict {v = b} t was is g l m h n) =
        let same : o ≡ t = cc in
        let olds : before ≡ was = same_world t p before was (subst (λ (s : Tree). IsWorldOn barred s std_tree p before) same i) l in
        let news : now ≡ is = same_world tree p now is j m in
        let both = one_verdict was is a b (subst (λ (w : Packages). IsVerdict was w a) news (subst (λ (w : Packages). IsVerdict w now a) olds k)) n in
        (λ z. record { breaks = both.0 z; changed = both.1 z } ∷ [])

    pub one_verdicts : {ps : List Platform} {xs ys : List (List Line)} {vs ws : List Verdict} → AreFindings barred old tree std_tree ps xs vs → AreFindings barred old tree std_tree ps ys ws → map shown vs ≡ map shown ws
    one_verdicts find_none find_none = refl
    one_verdicts (find_more {vs = vs} {ws = rest} f a) (find_more {vs = ws} {ws = others} g b) =
        let first : map shown vs ≡ map shown ws = shown_once f g in
        let more : map shown rest ≡ map shown others = one_verdicts a b in
        map-append shown vs rest ∙ ap (λ w. w ++ map shown rest) first ∙ ap (λ w. map shown ws ++ w) more ∙ sym (map-append shown ws others)
