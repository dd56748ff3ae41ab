-- The used imports of a file, one import after another.
use Rattle.std.proofs.Common.{◌≡◌, ◌⊎◌, ℕ, ◌+◌, ◌<◌, ◌≤◌, Option, Some, None, List, [], ◌∷◌, ◌++◌, length, take, get_or, refl, sym, ap, ◌∙◌, subst, inl, inr, append-nil}
use Rattle.std.proofs.lemmas.List.{take_more}
use Rattle.go_base.specs.Lists.{Has}
use Rattle.go_base.specs.Growing.{Grows}
use Rattle.go_base.proofs.Lists.{take_past}
use Rattle.go_imports.specs.Gives.{optional}
use Rattle.go_imports.specs.UsedImports.{IsScopeName, IsAssumed, IsScopeNameIn, IsAssumedIn, IsNamed, IsUse, AreUsed, none, used, unused, named_as}
use Rattle.go_imports.specs.inner.Uses.{ByName, ByPath, Uses, Using}
use Rattle.go_imports.specs.declared.used_imports.Import.{Import}
use Rattle.go_imports.specs.declared.used_imports.NamedImport.{NamedImport}
use Rattle.go_imports.proofs.Members.{has_left, has_last, has_back}

some_same : (a b : List ℕ) → ◌≡◌ {A = Option (List ℕ)} (Some a) (Some b) → a ≡ b
some_same a b e = cc

none_some : (a : List ℕ) → ◌≡◌ {A = Option (List ℕ)} None (Some a) → ⊥
none_some a e = cc

assumed_more : (before : List Import) (i : Import) (text : List ℕ) → IsAssumedIn (before ++ i ∷ []) text → IsAssumedIn before text ⊎ IsAssumed i text
assumed_more before i text p = elim (has_back before i p.0 p.1) [ inl h ↦ inl (p.0, h, p.2) | inr e ↦ inr (subst (λ (j : Import). IsAssumed j text) (sym e) p.2) ]

assumed_later : (before : List Import) (i : Import) (text : List ℕ) → IsAssumedIn before text → IsAssumedIn (before ++ i ∷ []) text
assumed_later before i text p = (p.0, has_left before (i ∷ []) p.0 p.1, p.2)

assumed_here : (before : List Import) (i : Import) (text : List ℕ) → IsAssumed i text → IsAssumedIn (before ++ i ∷ []) text
assumed_here before i text a = (i, has_last before i, a)

module _ (imports : List Import) (qualifiers : List (List ℕ)) where
  module _ {before : List Import} {taken : List (List ℕ)} {uses : List NamedImport} (u : Using imports qualifiers before taken uses) (i : Import) where
    -- an import with a name in the file's scope takes no other
    by_name_only : (text : List ℕ) → IsScopeName i text → (other : List ℕ) → IsNamed imports before i other → text ≡ other
    by_name_only text s other (inl t) = some_same text other (sym s ∙ t)
    by_name_only text s other (inr p) = absurd (none_some text (sym p.0.0 ∙ s))

    by_path_only : (text : List ℕ) → IsAssumed i text → (other : List ℕ) → IsNamed imports before i other → (text ≡ other) × (IsScopeNameIn imports other → ⊥) × (IsAssumedIn before other → ⊥)
    by_path_only text a other (inl t) = absurd (none_some other (sym a.0 ∙ t))
    by_path_only text a other (inr p) = (sym a.1 ∙ p.0.1, p.1, p.2)

    same_taken : (text : List ℕ) → IsScopeName i text → (uses2 : List NamedImport) → AreUsed imports qualifiers (before ++ i ∷ []) uses2 → Using imports qualifiers (before ++ i ∷ []) taken uses2
    same_taken text s uses2 told = record {
      told = told;
      known = λ t h. elim (u.known t h) [ inl k ↦ inl k | inr k ↦ inr (assumed_later before i t k) ];
      scope = u.scope;
      path = λ t p. elim (assumed_more before i t p) [ inl k ↦ u.path t k | inr a ↦ absurd (none_some text (sym a.0 ∙ s)) ];
    }

    more_taken : (text : List ℕ) (taken2 : List (List ℕ)) → IsAssumed i text → Grows (λ x. text ≡ x) taken taken2 → (uses2 : List NamedImport) → AreUsed imports qualifiers (before ++ i ∷ []) uses2 → Using imports qualifiers (before ++ i ∷ []) taken2 uses2
    more_taken text taken2 a g uses2 told = record {
      told = told;
      known = λ t h. elim (g.sound t h) [
        | inl o ↦ elim (u.known t o) [ inl k ↦ inl k | inr k ↦ inr (assumed_later before i t k) ]
        | inr e ↦ inr (assumed_here before i t (a.0, a.1 ∙ e))
      ];
      scope = λ t s. g.kept t (u.scope t s);
      path = λ t p. elim (assumed_more before i t p) [ inl k ↦ g.kept t (u.path t k) | inr b ↦ g.complete t (sym a.1 ∙ b.1) ];
    }

    nothing_more : (uses2 : List NamedImport) → uses2 ≡ uses ++ [] → AreUsed imports qualifiers (before ++ i ∷ []) uses → AreUsed imports qualifiers (before ++ i ∷ []) uses2
    nothing_more uses2 e told = subst (AreUsed imports qualifiers (before ++ i ∷ [])) (sym (e ∙ append-nil uses)) told

    use_more : (text : List ℕ) (n : NamedImport) (uses2 : List NamedImport) → uses2 ≡ uses ++ n ∷ [] → n ≡ named_as text i → IsUse imports qualifiers before i text → AreUsed imports qualifiers (before ++ i ∷ []) uses2
    use_more text n uses2 e is by = subst (AreUsed imports qualifiers (before ++ i ∷ [])) (sym (e ∙ ap (λ (m : NamedImport). uses ++ m ∷ []) is)) (used i text u.told by)

    by_name : (r : Option NamedImport) (uses2 : List NamedImport) → uses2 ≡ uses ++ optional r → ByName qualifiers i r → Using imports qualifiers (before ++ i ∷ []) taken uses2
    by_name None uses2 e b = same_taken b.0 b.1 uses2 (nothing_more uses2 e (unused i u.told (λ t by. b.2 (subst (Has qualifiers) (sym (by_name_only b.0 b.1 t by.1)) by.0))))
    by_name (Some n) uses2 e b = same_taken b.0 b.1 uses2 (use_more b.0 n uses2 e b.3 (b.2, inl b.1))

    by_path : (r : Option NamedImport) (taken2 : List (List ℕ)) (uses2 : List NamedImport) → uses2 ≡ uses ++ optional r → ByPath qualifiers taken taken2 i r → Using imports qualifiers (before ++ i ∷ []) taken2 uses2
    by_path None taken2 uses2 e b = more_taken b.0 taken2 b.1 b.2 uses2 (nothing_more uses2 e (unused i u.told (λ t by.
        let only = by_path_only b.0 b.1 t by.1 in
        elim b.3 [
          | inl h ↦ elim (u.known t (subst (Has taken) only.0 h)) [ inl s ↦ only.1 s | inr a ↦ only.2 a ]
          | inr lacks ↦ lacks (subst (Has qualifiers) (sym only.0) by.0)
        ])))
    by_path (Some n) taken2 uses2 e b = more_taken b.0 taken2 b.1 b.2 uses2 (use_more b.0 n uses2 e b.5 (b.4, inr (b.1, (λ s. b.3 (u.scope b.0 s)), (λ a. b.3 (u.path b.0 a)))))

    pub using_more : (r : Option NamedImport) (taken2 : List (List ℕ)) (uses2 : List NamedImport) → uses2 ≡ uses ++ optional r → Uses qualifiers taken taken2 i r → Using imports qualifiers (before ++ i ∷ []) taken2 uses2
    using_more r taken2 uses2 e (inl b) = subst (λ (ts : List (List ℕ)). Using imports qualifiers (before ++ i ∷ []) ts uses2) (sym b.1) (by_name r uses2 e b.0)
    using_more r taken2 uses2 e (inr b) = by_path r taken2 uses2 e b

  pub using_next : (i : ℕ) (item : Import) (taken taken2 : List (List ℕ)) (uses uses2 : List NamedImport) (r : Option NamedImport) → i < length imports → item ≡ get_or imports i item → Using imports qualifiers (take i imports) taken uses
      → Uses qualifiers taken taken2 item r → uses2 ≡ uses ++ optional r → Using imports qualifiers (take (i + 1) imports) taken2 uses2
  using_next i item taken taken2 uses uses2 r h is u step e =
      subst (λ (xs : List Import). Using imports qualifiers xs taken2 uses2) (sym (take_more imports i item h ∙ ap (λ (y : Import). take i imports ++ y ∷ []) (sym is))) (using_more u item r taken2 uses2 e step)

  pub using_first : (taken : List (List ℕ)) (uses : List NamedImport) → uses ≡ [] → Grows (IsScopeNameIn imports) [] taken → Using imports qualifiers [] taken uses
  using_first taken uses e g = record {
    told = subst (AreUsed imports qualifiers []) (sym e) none;
    known = λ t h. elim (g.sound t h) [ inl o ↦ absurd o | inr s ↦ inl s ];
    scope = λ t s. g.complete t s;
    path = λ t p. absurd p.1;
  }

  pub using_all : (i : ℕ) (taken : List (List ℕ)) (uses : List NamedImport) → length imports ≤ i → Using imports qualifiers (take i imports) taken uses → AreUsed imports qualifiers imports uses
  using_all i taken uses h u = subst (λ (xs : List Import). AreUsed imports qualifiers xs uses) (take_past i imports h) u.told
