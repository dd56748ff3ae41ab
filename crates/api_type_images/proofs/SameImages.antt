-- A type whose names stay is its own image.
use Rattle.std.proofs.Common.{◌≡◌, inl, inr, Bool, true, false, List, [], ◌∷◌, map, refl, sym, ap, ◌∙◌}
use Rattle.go_base.specs.Lists.{Has}
use Rattle.go_model.specs.declared.types.names.TypeName.{TypeName}
use Rattle.go_model.specs.declared.types.term.Term.{Term, Term-F, out-Term}
use Rattle.go_model.specs.worlds.Worlds.{Packages}
use Rattle.go_type_images.specs.Images.{Naming, image, image_of_layer, same_sels}
use Rattle.go_type_images.specs.Leaves.{Leaves}
use Rattle.go_type_images.specs.Parts.{parts}
use Rattle.go_type_images.proofs.ByParts.{by_parts}
use Rattle.go_type_images.proofs.ImageLevels.{is_image, is_name, is_name_of}
use Rattle.go_type_images.proofs.Leaves.{leaf, part_leaves}
use Rattle.api_type_images.proofs.Rebuilt.{image_rebuilt, rebuild, rebuilt}

no_packages : Packages
no_packages = record { packages = []; publics = [] }

-- a type is its own image where the names in it stay
module _ (r : Naming) (F : TypeName → Bool) (stays : (n : TypeName) → F n ≡ true → r n ≡ n) where
  abbrev IsSame : Term → Type 0
  IsSame t = Leaves F t → image r same_sels t ≡ t

  all_same : (ts : List Term) → ((u : Term) → Has ts u → IsSame u) → ((u : Term) → Has ts u → Leaves F u) → map (image r same_sels) ts ≡ ts
  all_same [] h k = refl
  all_same (t ∷ ts) h k = λ i. h t (inl refl) (k t (inl refl)) i ∷ all_same ts (λ u j. h u (inr j)) (λ u j. k u (inr j)) i

  level_same : (t : Term) → ((u : Term) → Has (parts (out-Term t)) u → IsSame u) → Leaves F t → (b : Bool) → is_name (out-Term t) ≡ b → image_of_layer r same_sels (out-Term t) ≡ out-Term t
  level_same t h k true e = let n = is_name_of (out-Term t) e in ap (image_of_layer r same_sels) n.1 ∙ ap Term-F.Named (stays n.0 (leaf k n.0 n.1)) ∙ sym n.1
  level_same t h k false e = sym (image_rebuilt r no_packages (out-Term t) e) ∙ ap (rebuild _) (all_same (parts (out-Term t)) h (part_leaves k)) ∙ rebuilt no_packages (out-Term t) e

  pub same_image : (t : Term) → Leaves F t → image r same_sels t ≡ t
  same_image = by_parts IsSame (λ t h k. sym (is_image r same_sels t t (sym (level_same t h k (is_name (out-Term t)) refl))))
