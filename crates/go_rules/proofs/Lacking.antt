-- Selectors of methods that aren't had.
use Rattle.std.proofs.Common.{◌≡◌, List, [], ◌∷◌, refl, sym, ap, ◌∙◌, subst, Bool, true, false, not, ◌&&◌, ◌||◌, if◌then◌else◌}
use Rattle.std.specs.Cmp.Lexicographic.{same_text}
use Rattle.std.specs.Str.{bytes_eq}
use Rattle.go_model.specs.declared.types.names.Sel.{Sel}
use Rattle.go_model.specs.declared.types.package.MethodOf.{MethodOf}
use Rattle.go_model.specs.types.Terms.{same_sel}
use Rattle.go_rules.specs.Environments.{is_among}
use Rattle.go_rules.specs.Scopes.{is_had, lacking}

both : (a b : Bool) → (a && b) ≡ true → (a ≡ true) × (b ≡ true)
both true true h = (refl, refl)
both true false h = absurd cc
both false b h = absurd cc

pub sel_is : (a b : Sel) → same_sel a b ≡ true → a ≡ b
sel_is a b h =
    let parts = both (bytes_eq a.name b.name) (bytes_eq a.«package» b.«package») h in
    let first = same_text a.name b.name (sym parts.0) in
    let second = same_text a.«package» b.«package» (sym parts.1) in
    λ i. record { name = first i; «package» = second i }

none : (b : Bool) → (b && false) ≡ false
none true = refl
none false = refl

module _ (s : Sel) (ms : List MethodOf) where
  step : (other : Sel) (rest : List Sel) (same had : Bool) → same_sel other s ≡ same → is_had other ms ≡ had
      → is_among s (lacking rest ms) ≡ (is_among s rest && not (is_had s ms))
      → is_among s (if had then lacking rest ms else other ∷ lacking rest ms) ≡ ((same || is_among s rest) && not (is_had s ms))
  step other rest true true e h more =
      let had : is_had s ms ≡ true = subst (λ (x : Sel). is_had x ms ≡ true) (sel_is other s e) h in
      more ∙ ap (λ b. is_among s rest && not b) had ∙ none (is_among s rest) ∙ sym (ap not had)
  step other rest true false e h more =
      let lacks : is_had s ms ≡ false = subst (λ (x : Sel). is_had x ms ≡ false) (sel_is other s e) h in
      ap (λ b. b || is_among s (lacking rest ms)) e ∙ sym (ap not lacks)
  step other rest false true e h more = more
  step other rest false false e h more = ap (λ b. b || is_among s (lacking rest ms)) e ∙ more

  -- the selector is among those that no method has
  pub among_lacking : (known : List Sel) → is_among s (lacking known ms) ≡ (is_among s known && not (is_had s ms))
  among_lacking [] = refl
  among_lacking (other ∷ rest) = step other rest (same_sel other s) (is_had other ms) refl refl (among_lacking rest)
