-- Types of the standard library in the pairs of two worlds that share it: they stay, and what they are.
use Rattle.std.proofs.Common.{◌≡◌, Bool, true, false, List, refl, sym, ap, ◌∙◌, Option, Some, None}
use Rattle.std.specs.Prelude.{if◌then◌else◌, is_some, not}
use Rattle.go_base.specs.Lists.{Has}
use Rattle.go_model.specs.declared.types.names.TypeName.{TypeName}
use Rattle.go_model.specs.declared.types.package.Package.{Package}
use Rattle.go_model.specs.declared.types.term.Term.{Term-F, out-Term, roll-Term, roll-out-Term}
use Rattle.go_model.specs.types.Terms.{error_type, is_error}
use Rattle.go_model.specs.types.Underlying.{entry}
use Rattle.go_model.specs.worlds.Worlds.{IsWorld, Packages, defined_in}
use Rattle.go_type_images.specs.Images.{same_sels}
use Rattle.go_type_images.specs.declared.pair.TypePair.{TypePair}
use Rattle.go_type_images.proofs.ImageLevels.{image_of}
use Rattle.go_type_images.proofs.Leaves.{leaf}
use Rattle.api_correspond.specs.OwnedPairs.{HoldsOwned}
use Rattle.api_correspond.specs.Publics.{of_module, package_at, types_of}
use Rattle.api_correspond.specs.Rules.{Compatible}
use Rattle.api_correspond.specs.SharedStd.{ShareStd}
use Rattle.api_type_images.proofs.Paired as P
use Rattle.api_kept_members.specs.inner.Entries.{had}
use Rattle.api_kept_members.proofs.ResolvingPairs.{pair_resolves}

not_module : (p : Package) → not p.from_std ≡ false → p.from_std ≡ true
not_module p e = by p.from_std e
  where
    by : (b : Bool) → not b ≡ false → b ≡ true
    by true f = refl
    by false f = absurd (cc)

module _ (old new : Packages) (S : ShareStd old new) where
  -- where both worlds have an entry of a package of the standard library, it is one
  one_entry : (n : TypeName) (x y : Option Package) → package_at old n.path ≡ x → package_at new n.path ≡ y → of_module x ≡ false → is_some (defined_in x n.name) ≡ true → is_some (defined_in y n.name) ≡ true → defined_in y n.name ≡ defined_in x n.name
  one_entry n (Some p) (Some q) e f m a b = ap (λ r. defined_in (Some r) n.name) (sym (S.same n.path p q e f (not_module p m)))
  one_entry n (Some p) None e f m a b = absurd (cc)
  one_entry n None y e f m a b = absurd (cc)

  by_error : (n : TypeName) (c : Bool) → is_error n ≡ c → of_module (package_at old n.path) ≡ false → had (types_of old) n ≡ true → had (types_of new) n ≡ true → entry (types_of new) n ≡ entry (types_of old) n
  by_error n true c m a b = ap (λ d. if d then Some error_type else types_of new n) c ∙ sym (ap (λ d. if d then Some error_type else types_of old n) c)
  by_error n false c m a b =
      ap (λ d. if d then Some error_type else types_of new n) c
      ∙ one_entry n (package_at old n.path) (package_at new n.path) refl refl m
      (sym (ap (λ d. is_some (if d then Some error_type else types_of old n)) c) ∙ a)
      (sym (ap (λ d. is_some (if d then Some error_type else types_of new n)) c) ∙ b)
      ∙ sym (ap (λ d. if d then Some error_type else types_of old n) c)

  pub same_entry : (n : TypeName) → of_module (package_at old n.path) ≡ false → had (types_of old) n ≡ true → had (types_of new) n ≡ true → entry (types_of new) n ≡ entry (types_of old) n
  same_entry n m a b = by_error n (is_error n) refl m a b

module _ (old new : Packages) (pairs : List TypePair) (H : HoldsOwned old new pairs) (C : Compatible old new) (i : IsWorld old) (j : IsWorld new) (S : ShareStd old new) where
  stays : (p : TypePair) → Has pairs p → (n : TypeName) → out-Term p.old ≡ Term-F.Named n → of_module (package_at old n.path) ≡ false → p.new ≡ p.old
  stays p k n e m =
      P.paired old new pairs H C p k
      ∙ image_of (P.renamed old new pairs H C) same_sels p.old (Term-F.Named n) e
      ∙ ap (λ x. roll-Term (Term-F.Named x)) (P.stays old new pairs H C n m)
      ∙ ap roll-Term (sym e) ∙ roll-out-Term p.old

  pub foreign_pair : (p : TypePair) → Has pairs p → (n : TypeName) → out-Term p.old ≡ Term-F.Named n → of_module (package_at old n.path) ≡ false → (p.new ≡ p.old) × (entry (types_of new) n ≡ entry (types_of old) n)
  foreign_pair p k n e m =
      let s = stays p k n e m in
      let h = pair_resolves old new i j (H.owned p k).1 in
      (s, same_entry old new S n m (leaf h.0 n e) (leaf h.1 n (ap out-Term s ∙ e)))
