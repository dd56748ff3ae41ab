-- What is found on a platform, by the worlds of its trees.
use Rattle.std.proofs.Common.{◌≡◌, ◌≤◌, ◌+◌, ℕ, Option, Some, None, List, [], ◌∷◌, refl, sym, subst, arith}
use Rattle.api_features.specs.Features.{IsFeature}
use Rattle.api_findings.specs.Checks.{CountsAtMost, count_more, count_none}
use Rattle.api_findings.specs.Findings.{Finds, features_alone, with_verdict, OldStands, old_refused, new_refused}
use Rattle.api_findings.specs.declared.found.Found.{Found}
use Rattle.api_findings.specs.inner.Found.{IsCompared, IsError, listed, verdicts_of}
use Rattle.api_judge.specs.declared.verdict.Verdict.{Verdict}
use Rattle.api_lines.specs.Lines.{IsListing}
use Rattle.api_texts.specs.declared.lines.Side.TheVariants as side
use Rattle.api_worlds.specs.PlatformWorlds.{CountsAtMost as CountsAtMostOn, no_package, IsErrorOn, IsWorldOn}
use Rattle.api_worlds.specs.declared.error.PlatformError.{PlatformError}
use Rattle.api_worlds.specs.declared.error.PlatformError.TheVariants as error
use Rattle.go_model.specs.declared.files.platform.Platform.{Platform}
use Rattle.go_model.specs.declared.files.tree.Tree.{Tree}
use Rattle.go_model.specs.worlds.Worlds.{Packages}

module _ (barred : List (List ℕ)) (tree std_tree : Tree) (p : Platform) where
  -- ---- where there is no old tree

  no_old : OldStands barred None tree std_tree p
  no_old o e = absurd (cc)

  pub alone_error : (e : PlatformError) → IsErrorOn barred tree std_tree side.New p e → IsError barred None tree std_tree p e
  alone_error (error.Refused line) h = new_refused no_old h
  alone_error error.NoMemory h = tt

  pub alone_found : (w : Packages) (found : Found) → IsWorldOn barred tree std_tree p w → found.verdict ≡ None → IsListing (IsFeature w) found.lines
      → Finds barred None tree std_tree p found.lines (verdicts_of found)
  alone_found w found i e f = subst (λ (v : Option Verdict). Finds barred None tree std_tree p found.lines (listed v)) (sym e) (features_alone w refl i f)

  pub alone_count : (before now : ℕ) → CountsAtMostOn barred tree std_tree p before now → CountsAtMost barred None tree std_tree (p ∷ []) before now
  alone_count before now k = (0 + k.0 + 0, count_more 0 k.0 refl k.1 count_none, omega (arith, k.2))

  -- ---- where there is one

  module _ (old : Tree) where
    pub old_error : (e : PlatformError) → IsErrorOn barred old std_tree side.Old p e → IsError barred (Some old) tree std_tree p e
    old_error (error.Refused line) h = old_refused old refl h
    old_error error.NoMemory h = tt

    pub old_count : (before now : ℕ) → CountsAtMostOn barred old std_tree p before now → CountsAtMost barred (Some old) tree std_tree (p ∷ []) before now
    old_count before now k = (k.0 + 0 + 0, count_more k.0 0 k.1 no_package count_none, omega (arith, k.2))

    pub both_count : (before mid now : ℕ) → CountsAtMostOn barred old std_tree p before mid → CountsAtMostOn barred tree std_tree p mid now → CountsAtMost barred (Some old) tree std_tree (p ∷ []) before now
    both_count before mid now k l = (k.0 + l.0 + 0, count_more k.0 l.0 k.1 l.1 count_none, omega (arith, k.2, l.2))

    pub pair_count : (before now k l : ℕ) → CountsAtMostOn barred old std_tree p 0 k → CountsAtMostOn barred tree std_tree p 0 l → now ≤ before + k + l → CountsAtMost barred (Some old) tree std_tree (p ∷ []) before now
    pair_count before now k l a b h = (a.0 + b.0 + 0, count_more a.0 b.0 a.1 b.1 count_none, omega (arith, a.2, b.2, h))

    module _ (w : Packages) (i : IsWorldOn barred old std_tree p w) where
      stands : OldStands barred (Some old) tree std_tree p
      stands o e = (w, subst (λ (t : Tree). IsWorldOn barred t std_tree p w) (let same : old ≡ o = cc in same) i)

      pub new_error : (e : PlatformError) → IsErrorOn barred tree std_tree side.New p e → IsError barred (Some old) tree std_tree p e
      new_error (error.Refused line) h = new_refused stands h
      new_error error.NoMemory h = tt

      pub both_found : (v : Packages) (found : Found) → IsWorldOn barred tree std_tree p v → IsCompared w v found → Finds barred (Some old) tree std_tree p found.lines (verdicts_of found)
      both_found v found j c = subst (λ (o : Option Verdict). Finds barred (Some old) tree std_tree p found.lines (listed o)) (sym c.is) (with_verdict old w v refl i j c.features c.judged)
