-- Names of owned types have different new names, and what isn't of the module stays.
use Rattle.std.proofs.Common.{◌≡◌, Bool, true, false, List, refl, sym, ap, ◌∙◌}
use Rattle.std.specs.Prelude.{not}
use Rattle.go_base.specs.Lists.{Has}
use Rattle.go_model.specs.declared.types.names.TypeName.{TypeName}
use Rattle.go_model.specs.declared.types.term.Term.{Term-F, out-Term}
use Rattle.go_model.specs.worlds.Worlds.{Packages}
use Rattle.go_type_images.specs.Leaves.{Leaves}
use Rattle.go_type_images.specs.NewNames.{new_name}
use Rattle.go_type_images.specs.declared.pair.TypePair.{TypePair}
use Rattle.go_type_images.proofs.ImageLevels.{is_name, is_name_of}
use Rattle.api_correspond.specs.OwnedPairs.{HoldsOwned}
use Rattle.api_correspond.specs.Publics.{of_module, package_at}
use Rattle.api_correspond.specs.Rules.{Compatible}
use Rattle.api_type_images.specs.OwnedNames.{IsOwnedName, is_foreign}
use Rattle.api_type_images.proofs.Paired as P
use Rattle.api_type_images.proofs.Rebuilt.{names_match}
use Rattle.api_type_images.proofs.SameImages.{same_image}

not_true : (b : Bool) → not b ≡ true → b ≡ false
not_true true e = absurd (cc)
not_true false e = refl

module _ (old new : Packages) (pairs : List TypePair) (H : HoldsOwned old new pairs) (C : Compatible old new) where
  abbrev Renames : TypePair → TypeName → TypeName → Type 0
  Renames = P.Renames old new pairs H C

  -- the new name of the old type of a pair
  new_of : (p : TypePair) (m : TypeName) → Has pairs p → out-Term p.old ≡ Term-F.Named m → (n : TypeName) × Renames p m n
  new_of p m i e =
      let a = is_name_of (out-Term p.new) (sym (names_match old new (out-Term p.old) (out-Term p.new) (P.keeps old new pairs H C p i).0.types) ∙ ap is_name e) in
      (a.0, record { before = e; after = a.1 })

  renamed_to : (p q : TypePair) (m n : TypeName) (i : Has pairs p) (j : Has pairs q) (a : (k : TypeName) × Renames p m k) (b : (k : TypeName) × Renames q n k) → new_name pairs m ≡ new_name pairs n → Renames q n a.0
  renamed_to p q m n i j a b e = record {
    before = b.1.before;
    after = b.1.after ∙ ap Term-F.Named (sym (P.renamed_as old new pairs H C q n b.0 j b.1) ∙ sym e ∙ P.renamed_as old new pairs H C p m a.0 i a.1);
  }

  by_sides : (b c : Bool) (p q : TypePair) (m n : TypeName) → of_module (package_at old m.path) ≡ b → of_module (package_at old n.path) ≡ c → (i : Has pairs p) (j : Has pairs q) (x : (k : TypeName) × Renames p m k) (y : (k : TypeName) × Renames q n k) → new_name pairs m ≡ new_name pairs n → m ≡ n
  by_sides true c p q m n f g i j x y e = sym (P.one_old old new pairs H C p q m n x.0 f i j x.1 (renamed_to p q m n i j x y e))
  by_sides false true p q m n f g i j x y e = P.one_old old new pairs H C q p n m y.0 g j i y.1 (renamed_to q p n m j i y x (sym e))
  by_sides false false p q m n f g i j x y e = sym (P.stays old new pairs H C m f) ∙ e ∙ P.stays old new pairs H C n g

  pub one_old : (m n : TypeName) → IsOwnedName pairs m → IsOwnedName pairs n → new_name pairs m ≡ new_name pairs n → m ≡ n
  one_old m n a b e = by_sides (of_module (package_at old m.path)) (of_module (package_at old n.path)) a.0 b.0 m n refl refl a.1 b.1 (new_of a.0 m a.1 a.2) (new_of b.0 n b.1 b.2) e

  -- a type without names of the module is as it was
  pub foreign : (p : TypePair) → Has pairs p → Leaves (is_foreign old) p.old → p.new ≡ p.old
  foreign p i h = P.paired old new pairs H C p i ∙ same_image (new_name pairs) (is_foreign old) (λ n e. P.stays old new pairs H C n (not_true (of_module (package_at old n.path)) e)) p.old h
