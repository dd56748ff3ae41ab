-- The objects of names in order are found by the names.
use Rattle.std.proofs.Common.{◌≡◌, ℕ, Bool, true, false, List, [], ◌∷◌, ◌++◌, map, Option, Some, None, refl, sym, ap, ◌∙◌, inl, inr}
use mathlib.Core.Bool.{true≢false}
use Rattle.std.specs.Prelude.{if◌then◌else◌}
use Rattle.std.specs.Cmp.Lexicographic.{bytes_decides}
use Rattle.std.specs.Str.{bytes_eq}
use Rattle.go_base.specs.Keys.{first_with}
use Rattle.go_base.specs.Lists.{Ascending, Before, Each, Has}
use Rattle.go_model.specs.declared.types.package.Entity.{Entity}
use Rattle.go_model.specs.declared.types.package.Object.{Object}
use Rattle.go_model.specs.worlds.Worlds.{object_name}
use Rattle.go_rules.specs.Scopes.{entity_of}
use Rattle.go_packages.specs.inner.NamedObjects.{object_named, objects_named}

module _ (denotes : List ℕ → Option Entity) where
  -- ---- order

  each_more : (x n : List ℕ) (o : Option Entity) (os : List Object) → Before x n → Each (Before x) (map object_name os) → Each (Before x) (map object_name (object_named n o ++ os))
  each_more x n None os b h = h
  each_more x n (Some e) os b h = (b, h)

  each_named : (x : List ℕ) (ns : List (List ℕ)) → Each (Before x) ns → Each (Before x) (map object_name (objects_named denotes ns))
  each_named x [] h = tt
  each_named x (n ∷ ns) h = each_more x n (denotes n) (objects_named denotes ns) h.0 (each_named x ns h.1)

  ascending_more : (n : List ℕ) (o : Option Entity) (os : List Object) → Each (Before n) (map object_name os) → Ascending (map object_name os) → Ascending (map object_name (object_named n o ++ os))
  ascending_more n None os h a = a
  ascending_more n (Some e) os h a = (h, a)

  pub objects_ascend : (ns : List (List ℕ)) → Ascending ns → Ascending (map object_name (objects_named denotes ns))
  objects_ascend [] a = tt
  objects_ascend (n ∷ ns) a = ascending_more n (denotes n) (objects_named denotes ns) (each_named n ns a.0) (objects_ascend ns a.1)

  -- ---- look-ups

  module _ (name : List ℕ) where
    -- a name that isn't among these denotes nothing
    abbrev pub IsLeft : List (List ℕ) → Type 0
    IsLeft ns = (Has ns name → ⊥) → denotes name ≡ None

    abbrev Finds : List Object → Type 0
    Finds os = entity_of (first_with object_name os name) ≡ denotes name

    found_more : (n : List ℕ) (os : List Object) (o : Option Entity) (b : Bool) → denotes n ≡ o → bytes_eq n name ≡ b → ((denotes name ≡ None → Finds os) × ((n ≡ name → ⊥) → Finds os)) → Finds (object_named n o ++ os)
    found_more n os None true e d rest = rest.0 (sym (ap denotes ((bytes_decides n name).0 d)) ∙ e)
    found_more n os None false e d rest = rest.1 (λ s. true≢false (sym ((bytes_decides n name).1 s) ∙ d))
    found_more n os (Some x) true e d rest =
        ap (λ b. entity_of (if b then Some (record { name = n; entity = x }) else first_with object_name os name)) d
        ∙ sym e ∙ ap denotes ((bytes_decides n name).0 d)
    found_more n os (Some x) false e d rest =
        ap (λ b. entity_of (if b then Some (record { name = n; entity = x }) else first_with object_name os name)) d
        ∙ rest.1 (λ s. true≢false (sym ((bytes_decides n name).1 s) ∙ d))

    pub object_found : (ns : List (List ℕ)) → IsLeft ns → entity_of (first_with object_name (objects_named denotes ns) name) ≡ denotes name
    object_found [] h = sym (h (λ k. k))
    object_found (n ∷ ns) h =
        found_more n (objects_named denotes ns) (denotes n) (bytes_eq n name) refl refl
        (λ e. object_found ns (λ k. e), λ other. object_found ns (λ k. h (λ i. elim i [ inl s ↦ other s | inr j ↦ k j ])))
