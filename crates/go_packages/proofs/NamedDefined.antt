-- The defined types of names in order are found by the names.
use Rattle.std.proofs.Common.{◌≡◌, ◌+◌, ◌<◌, ◌≤◌, ℕ, Bool, true, false, List, [], ◌∷◌, ◌++◌, append_assoc, append-nil, add-one, drop, drop-cons, get_or, length, map, Option, Some, None, refl, sym, ap, ◌∙◌, subst, inl, inr}
use mathlib.Core.Bool.{true≢false}
use Rattle.std.specs.Prelude.{if◌then◌else◌}
use Rattle.std.specs.Cmp.Lexicographic.{bytes_decides}
use Rattle.std.specs.Str.{bytes_eq}
use Rattle.go_base.proofs.Lists.{drop_past}
use Rattle.go_base.specs.Keys.{first_with}
use Rattle.go_base.specs.Lists.{Ascending, Before, Each, Has}
use Rattle.go_declared.specs.NameTables.{texts_of}
use Rattle.go_declared.specs.declared.names.ListedName.{ListedName}
use Rattle.go_model.specs.declared.types.package.Defined.{Defined}
use Rattle.go_model.specs.worlds.Worlds.{name_of}
use Rattle.go_typings.specs.TypedPackages.{AreOrdered, IsOrdered}
use Rattle.go_packages.specs.inner.DefinedTypes.{Adds, AreDefined, IsSorted, defined_none, defined_without, defined_more}

-- ---- in turn

module _ (own : List ℕ → Option Defined) where
  abbrev Goes : List (List ℕ) → List (List ℕ) → List Defined → Type 0
  Goes all rest ds = (more : List Defined) → AreDefined own rest more → AreDefined own all (ds ++ more)

  -- one name more
  next_name : (all rest : List (List ℕ)) (n : List ℕ) (old new : List Defined) (o : Option Defined) → own n ≡ o → Adds o old new → Goes all (n ∷ rest) old → Goes all rest new
  next_name all rest n old new None e a before more k = subst (λ (ds : List Defined). AreDefined own all (ds ++ more)) (sym a) (before more (defined_without e k))
  next_name all rest n old new (Some had) e (d, s, a) before more k =
      subst (AreDefined own all) (sym (ap (λ ds. ds ++ more) a ∙ append_assoc old (d ∷ []) more)) (before (d ∷ more) (defined_more e s k))

  pub defined_next : (listed : List ListedName) (at : ℕ) (d : ListedName) (old new : List Defined) → at < length listed → d ≡ get_or listed at d → Adds (own d.name.now) old new
      → Goes (texts_of listed) (texts_of (drop at listed)) old → Goes (texts_of listed) (texts_of (drop (at + 1) listed)) new
  defined_next listed at d old new within e a before =
      let x = get_or listed at d in
      let split : drop at listed ≡ x ∷ drop (at + 1) listed = drop-cons listed at d within ∙ ap (λ k. x ∷ drop k listed) (sym (add-one at)) in
      next_name (texts_of listed) (texts_of (drop (at + 1) listed)) x.name.now old new (own x.name.now) refl (subst (λ (z : ListedName). Adds (own z.name.now) old new) e a) (subst (λ (xs : List ListedName). Goes (texts_of listed) (texts_of xs) old) split before)

  pub defined_whole : (listed : List ListedName) (at : ℕ) (ds : List Defined) → length listed ≤ at → Goes (texts_of listed) (texts_of (drop at listed)) ds → AreDefined own (texts_of listed) ds
  defined_whole listed at ds within before =
      subst (AreDefined own (texts_of listed)) (append-nil ds) (before [] (subst (λ (xs : List ListedName). AreDefined own (texts_of xs) []) (sym (drop_past at listed within)) defined_none))

-- ---- all

module _ (own : List ℕ → Option Defined) (named : (n : List ℕ) (d : Defined) → own n ≡ Some d → d.name ≡ n) where
  -- ---- order

  each_defined : (x : List ℕ) (ns : List (List ℕ)) (ds : List Defined) → AreDefined own ns ds → Each (Before x) ns → Each (Before x) (map name_of ds)
  each_defined x [] ds defined_none h = tt
  each_defined x (n ∷ ns) ds (defined_without e k) h = each_defined x ns ds k h.1
  each_defined x (n ∷ ns) (d ∷ ds) (defined_more {had = had} e s k) h = (subst (Before x) (sym (s.name ∙ named n had e)) h.0, each_defined x ns ds k h.1)

  pub defined_ascend : (ns : List (List ℕ)) (ds : List Defined) → AreDefined own ns ds → Ascending ns → Ascending (map name_of ds)
  defined_ascend [] ds defined_none a = tt
  defined_ascend (n ∷ ns) ds (defined_without e k) a = defined_ascend ns ds k a.1
  defined_ascend (n ∷ ns) (d ∷ ds) (defined_more {had = had} e s k) a =
      (each_defined d.name ns ds k (subst (λ (x : List ℕ). Each (Before x) ns) (sym (s.name ∙ named n had e)) a.0), defined_ascend ns ds k a.1)

  -- ---- look-ups

  module _ (name : List ℕ) (ordered : (had d : Defined) → own name ≡ Some had → IsSorted had d → IsOrdered d had) where
    -- a name that isn't among these is no type's
    abbrev pub IsLeft : List (List ℕ) → Type 0
    IsLeft ns = (Has ns name → ⊥) → own name ≡ None

    abbrev Finds : List Defined → Type 0
    Finds ds = AreOrdered (first_with name_of ds name) (own name)

    none_found : own name ≡ None → Finds []
    none_found e = subst (AreOrdered None) (sym e) tt

    found_without : (n : List ℕ) (ds : List Defined) (b : Bool) → own n ≡ None → bytes_eq n name ≡ b → ((own name ≡ None → Finds ds) × ((n ≡ name → ⊥) → Finds ds)) → Finds ds
    found_without n ds true e h rest = rest.0 (sym (ap own ((bytes_decides n name).0 h)) ∙ e)
    found_without n ds false e h rest = rest.1 (λ s. true≢false (sym ((bytes_decides n name).1 s) ∙ h))

    found_more : (n : List ℕ) (had d : Defined) (ds : List Defined) (b : Bool) → own n ≡ Some had → IsSorted had d → bytes_eq d.name name ≡ b → ((n ≡ name → ⊥) → Finds ds) → AreOrdered (if b then Some d else first_with name_of ds name) (own name)
    found_more n had d ds true e s h rest =
        let same : own name ≡ Some had = ap own (sym ((bytes_decides d.name name).0 h) ∙ s.name ∙ named n had e) ∙ e in
        subst (AreOrdered (Some d)) (sym same) (ordered had d same s)
    found_more n had d ds false e s h rest = rest (λ k. true≢false (sym ((bytes_decides d.name name).1 (s.name ∙ named n had e ∙ k)) ∙ h))

    pub defined_found : (ns : List (List ℕ)) (ds : List Defined) → AreDefined own ns ds → IsLeft ns → AreOrdered (first_with name_of ds name) (own name)
    defined_found [] ds defined_none h = none_found (h (λ k. k))
    defined_found (n ∷ ns) ds (defined_without e k) h =
        found_without n ds (bytes_eq n name) e refl
        (λ f. defined_found ns ds k (λ j. f), λ other. defined_found ns ds k (λ j. h (λ i. elim i [ inl s ↦ other s | inr m ↦ j m ])))
    defined_found (n ∷ ns) (d ∷ ds) (defined_more {had = had} e s k) h =
        found_more n had d ds (bytes_eq d.name name) e s refl (λ other. defined_found ns ds k (λ j. h (λ i. elim i [ inl g ↦ other g | inr m ↦ j m ])))
