-- Trees have findings on platforms, or a first refusal.
use Rattle.std.proofs.Common.{◌≡◌, ◌≢◌, ◌⊎◌, ℕ, List, [], ◌∷◌, ◌++◌, length, Option, Some, None, refl, sym, ◌∙◌, subst, inl, inr}
use Rattle.api_features.specs.Features.{IsFeature}
use Rattle.api_findings.specs.Findings.{AreFindings, AreLeftOut, CountsLeftOut, Finds, IsFirstRefusal, IsLeftOut, IsRefusal, OldStands, features_alone, find_more, find_none, new_refused, old_refused, refused_here, refused_later, with_verdict}
use Rattle.api_judge.specs.Verdicts.{IsVerdict}
use Rattle.api_judge.specs.declared.verdict.Verdict.{Verdict}
use Rattle.api_line_outcomes.proofs.LineLists.{features_listed}
use Rattle.api_lines.specs.declared.line.Line.{Line}
use Rattle.api_outcomes.proofs.WorldsOn.{Below, IsRead, left_out_there, world_ends}
use Rattle.api_texts.specs.declared.left_out.LeftOut.{LeftOut}
use Rattle.api_texts.specs.declared.lines.Side.TheVariants as side
use Rattle.api_worlds.specs.PlatformWorlds.{IsRefusedOn, IsWorldOn}
use Rattle.go_base.specs.Lists.{Has}
use Rattle.go_existence.specs.Existence.{NotNone}
use Rattle.go_existence.proofs.DoubleNegation.{bind, so, sure}
use Rattle.go_model.specs.declared.files.platform.Platform.{Platform}
use Rattle.go_model.specs.declared.files.tree.Tree.{Tree}
use Rattle.go_model.specs.files.Trees.{IsTree}
use Rattle.go_model.specs.worlds.Worlds.{Packages}

none_some : {A : Type 0} (x : A) → ◌≡◌ {A = Option A} None (Some x) → ⊥
none_some x e = absurd (cc)

some_same : {A : Type 0} (x y : A) → ◌≡◌ {A = Option A} (Some x) (Some y) → x ≡ y
some_same x y e = cc

module _ (below : Below) (barred : List (List ℕ)) (old : Option Tree) (tree std_tree : Tree) (read : IsRead barred tree) (std : IsTree std_tree) (old_read : (o : Tree) → old ≡ Some o → IsRead barred o)
    (judged : (o : Tree) → old ≡ Some o → (before now : Packages) → NotNone ((v : Verdict) × IsVerdict before now v)) where
  pub record IsFound (p : Platform) (lines : List Line) (vs : List Verdict) (l : LeftOut) : Type 0 where
    pub world : Packages
    pub left_out : IsLeftOut barred std_tree old tree p l
    pub stands : OldStands barred old tree std_tree p
    pub is : IsWorldOn barred tree std_tree p world
    pub finds : Finds barred old tree std_tree p lines vs

  abbrev PlatformEnds : Platform → Type 0
  PlatformEnds p = ((lines : List Line) × (vs : List Verdict) × (l : LeftOut) × IsFound p lines vs l) ⊎ ((line : List ℕ) × IsRefusal barred old tree std_tree p line)

  alone : (p : Platform) → old ≡ None → NotNone (PlatformEnds p)
  alone p e =
      let stands : OldStands barred old tree std_tree p = λ o f. absurd (none_some o (sym e ∙ f)) in
      bind (world_ends below barred tree std_tree read std p) (λ k. elim k [
        | inr r ↦ sure (inr (let l = r side.New in (l.0, new_refused stands l.1)))
        | inl w ↦ bind (features_listed w.0) (λ l. so (left_out_there below barred tree std_tree read std p w.0 w.1) (λ k.
            inl (
              l.0,
              [],
              record { old = 0; new = k.0 },
              record {
                world = w.0;
                left_out = record { of_old = subst (λ (t : Option Tree). CountsLeftOut barred std_tree t p 0) (sym e) refl; of_new = k.1 };
                stands = stands;
                is = w.1;
                finds = features_alone w.0 e w.1 l.1;
              },
            )))
      ])

  beside : (p : Platform) (o : Tree) → old ≡ Some o → NotNone (PlatformEnds p)
  beside p o e = bind (world_ends below barred o std_tree (old_read o e) std p) (λ b. elim b [
    | inr r ↦ sure (inr (let l = r side.Old in (l.0, old_refused o e l.1)))
    | inl before ↦ (
        let stands : OldStands barred old tree std_tree p = λ q f. (before.0, subst (λ (t : Tree). IsWorldOn barred t std_tree p before.0) (some_same o q (sym e ∙ f)) before.1) in
        bind (world_ends below barred tree std_tree read std p) (λ k. elim k [
          | inr r ↦ sure (inr (let l = r side.New in (l.0, new_refused stands l.1)))
          | inl w ↦ bind (features_listed w.0) (λ l. bind (judged o e before.0 w.0) (λ v. bind (left_out_there below barred o std_tree (old_read o e) std p before.0 before.1) (λ m. so (left_out_there below barred tree std_tree read std p w.0 w.1) (λ n.
              inl (
                l.0,
                v.0 ∷ [],
                record { old = length m.0; new = n.0 },
                record {
                  world = w.0;
                  left_out = record { of_old = subst (λ (t : Option Tree). CountsLeftOut barred std_tree t p (length m.0)) (sym e) (m.0, m.1, refl); of_new = n.1 };
                  stands = stands;
                  is = w.1;
                  finds = with_verdict o before.0 w.0 e before.1 w.1 l.1 v.1;
                },
              )))))
        ])
        )
  ])

  by_old : (p : Platform) (o : Option Tree) → old ≡ o → NotNone (PlatformEnds p)
  by_old p None e = alone p e
  by_old p (Some o) e = beside p o e

  abbrev FindingsEnd : List Platform → Type 0
  FindingsEnd ps = ((lists : List (List Line)) × (vs : List Verdict) × (ls : List LeftOut) × AreFindings barred old tree std_tree ps lists vs × AreLeftOut barred std_tree old tree ps ls) ⊎ ((line : List ℕ) × IsFirstRefusal barred old tree std_tree ps line)

  on_more : (p : Platform) (ps : List Platform) (lines : List Line) (vs : List Verdict) (l : LeftOut) → IsFound p lines vs l → FindingsEnd ps → FindingsEnd (p ∷ ps)
  on_more p ps lines vs l f (inl more) = inl (lines ∷ more.0, vs ++ more.1, l ∷ more.2, find_more f.finds more.3, (f.left_out, more.4))
  on_more p ps lines vs l f (inr r) = inr (r.0, refused_later f.world f.stands f.is r.1)

  pub findings_end : (ps : List Platform) → NotNone (((lists : List (List Line)) × (vs : List Verdict) × (ls : List LeftOut) × AreFindings barred old tree std_tree ps lists vs × AreLeftOut barred std_tree old tree ps ls) ⊎ ((line : List ℕ) × IsFirstRefusal barred old tree std_tree ps line))
  findings_end [] = sure (inl ([], [], [], find_none, tt))
  findings_end (p ∷ ps) = bind (by_old p old refl) (λ k. elim k [
    | inl f ↦ so (findings_end ps) (on_more p ps f.0 f.1 f.2 f.3)
    | inr r ↦ sure (inr (r.0, refused_here r.1))
  ])
