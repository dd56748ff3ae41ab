-- A verdict on a platform is that on the worlds of both trees there, so that what it promises of clients holds of the trees.
use Rattle.std.proofs.Common.{◌≡◌, ◌⊎◌, ℕ, Option, Some, None, List, [], ◌∷◌, ◌++◌, refl, sym, ◌∙◌, subst, inl, inr}
use Rattle.api_correspond.specs.OwnedPairs.{HoldsOwned}
use Rattle.api_correspond.specs.Rules.{Compatible}
use Rattle.api_findings.specs.Findings.{AreFindings, Finds, IsOldTree, features_alone, find_more, find_none, with_verdict}
use Rattle.api_inputs.specs.declared.inputs.Inputs.{Inputs}
use Rattle.api_judge.specs.Verdicts.{IsVerdict}
use Rattle.api_judge.specs.declared.verdict.Verdict.{Verdict}
use Rattle.api_lines.specs.declared.line.Line.{Line}
use Rattle.api_preservation.specs.JudgedTrees.{AreJudged}
use Rattle.api_words.specs.declared.request.Request.{Request}
use Rattle.api_findings.specs.api_worlds.PlatformWorlds.{IsWorldOn}
use Rattle.api_clients.specs.go_clients.ProfileClients.{IsProfileTyped}
use Rattle.go_model.specs.declared.files.platform.Platform.{Platform}
use Rattle.go_model.specs.declared.files.tree.Tree.{Tree}
use Rattle.go_model.specs.files.Platforms.{bits_of}
use Rattle.go_model.specs.worlds.Worlds.{Packages}
use Rattle.go_outside.specs.Stores.{Contents}
use Rattle.go_type_images.specs.declared.pair.TypePair.{TypePair}
use Rattle.api_gate.proofs.RequestFacts.{named_module, old_tree, std_tree}
use Rattle.api_gate.specs.runs.Clients.{IsVerdictOf, KeepsClients}
use Rattle.api_gate.specs.runs.Outcomes.{Asks, files_of, modules_of}

same_tree : (o : Option Tree) (a b : Tree) → o ≡ Some a → o ≡ Some b → a ≡ b
same_tree o a b e f = let k : ◌≡◌ {A = Option Tree} (Some a) (Some b) = sym e ∙ f in cc

none_or_some : (o : Option Tree) (a : Tree) → o ≡ None → o ≡ Some a → ⊥
none_or_some o a e f = let k : ◌≡◌ {A = Option Tree} None (Some a) = sym e ∙ f in cc

module _ (barred : List (List ℕ)) (o : Option Tree) (old tree std : Tree) (is : o ≡ Some old) where
  -- the worlds of both trees, and that the verdict is the one on them
  record Judges (p : Platform) (v : Verdict) : Type 0 where
    before : Packages
    now : Packages
    of_old : IsWorldOn barred old std p before
    of_new : IsWorldOn barred tree std p now
    verdict : IsVerdict before now v

  -- where there is an old tree there is one verdict on a platform, on both worlds
  one_verdict : {p : Platform} {lines : List Line} {vs : List Verdict} → Finds barred o tree std p lines vs → (v : Verdict) × Judges p v × (vs ≡ v ∷ [])
  one_verdict (features_alone w none a l) = absurd (none_or_some o old none is)
  one_verdict {p = p} (with_verdict {v = v} t before now e a b l k) = (
    v,
    record {
      before = before;
      now = now;
      of_old = subst (λ (x : Tree). IsWorldOn barred x std p before) (same_tree o t old e is) a;
      of_new = b;
      verdict = k;
    },
    refl,
  )

  judges : {ps : List Platform} {lists : List (List Line)} {vs : List Verdict} → AreFindings barred o tree std ps lists vs → (q : Platform) (v : Verdict) → IsVerdictOf ps vs q v → Judges q v
  judges find_none q v h = absurd h
  judges (find_more {p = p} {ps = ps} {vs = vs} {ws = ws} f rest) q v h =
      let one = one_verdict f in
      let parted : ((p ≡ q) × (one.0 ≡ v)) ⊎ IsVerdictOf ps ws q v = subst (λ (us : List Verdict). IsVerdictOf (p ∷ ps) (us ++ ws) q v) one.2 h in
      elim parted [
        | inl s ↦ subst (λ (x : Platform × Verdict). Judges x.0 x.1) (λ i. (s.0 i, s.1 i)) one.1
        | inr k ↦ judges rest q v k
      ]

abbrev Preserves : Type 0
Preserves = (p : Platform) (barred : List (List ℕ)) (old_tree new_tree std_tree client : Tree) (old new : Packages) (pairs : List TypePair) → AreJudged barred old_tree new_tree std_tree
    → IsWorldOn barred old_tree std_tree p old → IsWorldOn barred new_tree std_tree p new → HoldsOwned old new pairs → Compatible old new
    → IsProfileTyped p (bits_of p) barred old_tree std_tree client → IsProfileTyped p (bits_of p) barred new_tree std_tree client

module _ (preserves : Preserves) (words : List (List ℕ)) (told : Option Contents) where
  trees : (r : Request) (i : Inputs) (old : Tree) → Asks words told r i → i.old_tree ≡ Some old → AreJudged (modules_of i) old i.tree i.std_tree
  trees r i old asks e =
      let files = files_of told r.made in
      let k : IsOldTree (modules_of i) (Some old) = subst (IsOldTree (modules_of i)) e (old_tree files r.old i asks.inputs.old_tree) in
      record {
        old_tree = k.0;
        new_tree = asks.inputs.tree.tree;
        std = std_tree files r.std i.std_tree asks.inputs.std_tree;
        old_named = k.1;
        new_named = named_module i.tree.«module» asks.inputs.tree.module_path;
        old_barred = k.2;
        new_barred = inl refl;
      }

  pub clients_kept : KeepsClients words told
  clients_kept r i old lists vs ls asks e found p v is none client typed =
      let j = judges (modules_of i) i.old_tree old i.tree i.std_tree e found.findings p v is in
      preserves p (modules_of i) old i.tree i.std_tree client j.before j.now j.verdict.held.0 (trees r i old asks e) j.of_old j.of_new j.verdict.held.1 (j.verdict.compatible.0 none) typed
