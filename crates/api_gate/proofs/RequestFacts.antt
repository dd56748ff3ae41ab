-- What good words ask for, and what the inputs of a request keep.
use Rattle.std.proofs.Common.{◌≡◌, ◌≤◌, ◌<◌, ◌+◌, ℕ, Bool, true, false, ◌||◌, List, [], ◌∷◌, length, map, Option, Some, None, refl, sym, ap, ◌∙◌, subst, ◌⊎◌, inl, inr, Ok, Err, arith}
use Rattle.std.specs.Prelude.{Result}
use Rattle.std.proofs.lemmas.List.{length-map}
use Rattle.std.specs.List.{slice_split}
use Rattle.std.proofs.lemmas.List.Splits.{length-slice_split}
use mathlib.Core.Bool.{true≢false}
use Rattle.api_findings.specs.Findings.{IsOldTree}
use Rattle.api_inputs.specs.Inputs.{AreInputs, MayHaveClient, MayHaveOld}
use Rattle.api_inputs.specs.Reads.{MayHaveStd, MayLoad, no_tree}
use Rattle.api_inputs.specs.declared.inputs.Inputs.{Inputs}
use Rattle.api_words.specs.Options.{needs, permits}
use Rattle.api_words.proofs.Searches.{map_has}
use Rattle.api_words.specs.Words.{ArePlatforms, IsGiven, IsMade, IsRequest, IsVersion, is_comma, option_in}
use Rattle.api_words.specs.declared.option_name.Mode.{Mode}
use Rattle.api_words.specs.declared.option_name.Mode.TheVariants as mode
use Rattle.api_words.specs.declared.option_name.OptionName.{OptionName}
use Rattle.api_words.specs.declared.option_name.OptionName.TheVariants as option
use Rattle.api_words.specs.declared.request.AskedVersion.{AskedVersion}
use Rattle.api_words.specs.declared.request.Request.{Request}
use Rattle.api_words.specs.declared.settings.Setting.{Setting}
use Rattle.go_base.specs.Lists.{Has}
use Rattle.go_load.specs.declared.error.LoadError.{LoadError}
use Rattle.go_model.specs.declared.files.platform.Platform.{Platform}
use Rattle.go_model.specs.declared.files.tree.Tree.{Tree}
use Rattle.go_model.specs.files.Platforms.{name_of}
use Rattle.go_model.specs.files.Trees.{IsModulePath, IsTree, are_elements, begins_element, is_element}
use Rattle.go_outside.specs.Stores.{Contents}
use Rattle.api_gate.specs.inner.Decisions.{IsClientTree, IsFew, IsFinding}
use Rattle.api_gate.specs.runs.Outcomes.{module_of_old, modules_of}

-- ---- requests

-- a request has a platform
pub some_platform : (words : List (List ℕ)) (r : Request) → IsRequest words r → 0 < length r.platforms
some_platform words r i = by i.asked.platforms.0 i.asked.platforms.2
  where
    by : (given : Option (List ℕ)) → ArePlatforms given r.platforms → 0 < length r.platforms
    by None e = subst (λ (ps : List Platform). 0 < length ps) (sym e) (omega arith)
    by (Some value) h = omega (arith, ap length h.0, length-slice_split is_comma value, length-map r.platforms name_of)

-- the generator is asked for few packages
pub few_made : (words : List (List ℕ)) (r : Request) → IsRequest words r → IsFew r.made
few_made words r i = by i.asked.seed i.asked.size i.asked.made
  where
    by : (seed size : Option (List ℕ)) → IsMade seed size r.made → IsFew r.made
    by None size e = subst IsFew (sym e) tt
    by (Some seed) None e = subst IsFew (sym e) tt
    by (Some seed) (Some size) h = subst IsFew (sym h.2) (h.1.some, h.1.few)

abbrev is_version : OptionName → Bool
is_version option.Version = true
is_version _ = false

abbrev any_version : List OptionName → Bool
any_version [] = false
any_version (x ∷ xs) = is_version x || any_version xs

or_true : (a b : Bool) → b ≡ true → a || b ≡ true
or_true true b e = refl
or_true false b e = e

version_there : (xs : List OptionName) → Has xs option.Version → any_version xs ≡ true
version_there [] h = absurd h
version_there (x ∷ xs) (inl e) = subst (λ (o : OptionName). is_version o || any_version xs ≡ true) (sym e) refl
version_there (x ∷ xs) (inr h) = or_true (is_version x) (any_version xs) (version_there xs h)

-- whether a version may be given in a mode
abbrev pub takes_version : Mode → Bool
takes_version m = any_version (needs m) || any_version (permits m)

version_taken : (m : Mode) → Has (needs m) option.Version ⊎ Has (permits m) option.Version → takes_version m ≡ true
version_taken m (inl h) = subst (λ (b : Bool). b || any_version (permits m) ≡ true) (sym (version_there (needs m) h)) refl
version_taken m (inr h) = or_true (any_version (needs m)) (any_version (permits m)) (version_there (permits m) h)

-- a version is given in these modes alone
pub version_in : (words : List (List ℕ)) (r : Request) (v : AskedVersion) → IsRequest words r → r.version ≡ Some v → takes_version r.mode ≡ true
version_in words r v i e = by i.asked.version.0 i.asked.version.1 i.asked.version.2
  where
    by : (given : Option (List ℕ)) → IsGiven i.settings option.Version given → IsVersion given r.version → takes_version r.mode ≡ true
    by None g h = absurd (let k : ◌≡◌ {A = Option AskedVersion} None (Some v) = sym h ∙ e in cc)
    by (Some value) g h = version_taken r.mode (i.asked.of_mode.own (record { name = option.Version; value = value }) g)

-- a client is given where the mode asks for it
pub client_given : (words : List (List ℕ)) (r : Request) → IsRequest words r → IsFinding r.mode r.client
client_given words r i e m =
    let needed : Has (needs r.mode) option.Client = subst (λ (x : Mode). Has (needs x) option.Client) (sym m) (inr (inl refl)) in
    let there = map_has option_in i.settings option.Client (i.asked.of_mode.given option.Client needed) in
    let none : IsGiven i.settings option.Client None = subst (IsGiven i.settings option.Client) e i.asked.client in
    let same : there.0 ≡ record { name = option.Client; value = there.0.value } = (λ n. record { name = there.2 n; value = there.0.value }) in
    none there.0.value (subst (Has i.settings) same there.1)

-- ---- inputs

-- the trees of inputs keep what they have to
pub std_tree : (told : Option Contents) (root : Option (List ℕ)) (t : Tree) → MayHaveStd told root (Ok t) → IsTree t
std_tree told None t e = subst IsTree (sym (same e)) (record { named = inl refl; few = omega arith; held = tt })
  where
    same : ◌≡◌ {A = Result Tree LoadError} (Ok t) (Ok no_tree) → t ≡ no_tree
    same e = cc
std_tree told (Some root) t h = h.tree

pub named_module : (path : List ℕ) → IsModulePath path → path ≡ [] → ⊥
unfolding is_element begins_element
named_module path m e = true≢false (sym (subst (λ (w : List ℕ). are_elements w ≡ true) e m.0))

-- the old tree is one, and its path is among those of the run
loaded_old : (told : Option Contents) (root : List ℕ) (path : List ℕ) (t : Tree) → MayLoad told root (Ok t) → IsOldTree (path ∷ t.«module» ∷ []) (Some t)
loaded_old told root path t h = (h.tree, named_module t.«module» h.module_path, inr (inl refl))

abbrev IsOldIn : List ℕ → Option Tree → Type 0
IsOldIn path old = IsOldTree (path ∷ module_of_old old) old

old_in : (told : Option Contents) (root : Option (List ℕ)) (path : List ℕ) (old : Option Tree) → MayHaveOld told root old → IsOldIn path old
old_in told None path old e = subst (IsOldIn path) (sym e) tt
old_in told (Some root) path old h = subst (IsOldIn path) (sym h.2) (loaded_old told root path h.0 h.1)

pub old_tree : (told : Option Contents) (root : Option (List ℕ)) (i : Inputs) → MayHaveOld told root i.old_tree → IsOldTree (modules_of i) i.old_tree
old_tree told root i h = old_in told root i.tree.«module» i.old_tree h

-- a client that is read keeps the facts of trees, and there is none only where none is given
pub client_tree : (told : Option Contents) (root : Option (List ℕ)) (c : Option Tree) → MayHaveClient told root c → IsClientTree c
client_tree told None c e = subst IsClientTree (sym e) tt
client_tree told (Some root) c h = subst IsClientTree (sym h.2) h.1.tree

no_client : (told : Option Contents) (root : Option (List ℕ)) (c : Option Tree) → MayHaveClient told root c → c ≡ None → root ≡ None
no_client told None c e n = refl
no_client told (Some root) c h n = absurd (let k : ◌≡◌ {A = Option Tree} (Some h.0) None = sym h.2 ∙ n in cc)

pub finding_kept : (told : Option Contents) (m : Mode) (root : Option (List ℕ)) (c : Option Tree) → MayHaveClient told root c → IsFinding m root → IsFinding m c
finding_kept told m root c h f n = f (no_client told root c h n)
