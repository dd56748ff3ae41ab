-- The elements of a literal, by what is underneath its type.
use Rattle.std.proofs.Common.{◌≡◌, ℕ, List, refl, sym, ap, ◌∙◌, subst, ◌⊎◌, inl, inr, Option, Some, None}
use Rattle.go_model.specs.declared.types.term.Field.{Field}
use Rattle.go_model.specs.declared.types.term.Term.{Term, Term-F}
use Rattle.go_model.specs.types.Terms.{Layer}
use Rattle.go_model.specs.types.Underlying.{under}
use Rattle.go_rules.specs.Environments.{Env}
use Rattle.go_rules.specs.Expressions.{HasElements, elements_keyed, elements_unkeyed, elements_array, elements_slice, elements_map, HasPairs}
use Rattle.go_syntax.specs.declared.expression.Element.{Element}
use Rattle.go_literals.specs.Elements.{AreIndexed}
use Rattle.go_literals.specs.Structs.{StructFits}

-- the elements of a literal of a type with this level underneath
abbrev Fits : Env → Term → Layer → List Element → Type 0
Fits E t (Term-F.Struct fs) xs = StructFits E t fs xs
Fits E t (Term-F.Array n e) xs = AreIndexed E e (Some n) xs
Fits E t (Term-F.Slice e) xs = AreIndexed E e None xs
Fits E t (Term-F.Map k e) xs = HasPairs E k e xs
Fits E t l xs = ⊥

module _ (E : Env) (t : Term) (xs : List Element) where
  to_elements : (l : Layer) → under E.table t ≡ l → Fits E t l xs → HasElements E t xs
  to_elements (Term-F.Struct fs) u (inl a) = elements_keyed u a.1 a.2
  to_elements (Term-F.Struct fs) u (inr a) = elements_unkeyed u a.0.0 a.0.1 a.1
  to_elements (Term-F.Array n e) u f = elements_array u f.1
  to_elements (Term-F.Slice e) u f = elements_slice u f.1
  to_elements (Term-F.Map k e) u f = elements_map u f
  to_elements (Term-F.Plain b) u f = absurd f
  to_elements (Term-F.Named n) u f = absurd f
  to_elements (Term-F.Pointer e) u f = absurd f
  to_elements (Term-F.Chan d e) u f = absurd f
  to_elements (Term-F.Func g) u f = absurd f
  to_elements (Term-F.Interface ms) u f = absurd f

  fits_in : HasElements E t xs → Fits E t (under E.table t) xs
  fits_in (elements_keyed u k o) = subst (λ (l : Layer). Fits E t l xs) (sym u) (inl (_, k, o))
  fits_in (elements_unkeyed u e p k) = subst (λ (l : Layer). Fits E t l xs) (sym u) (inr ((e, p), k))
  fits_in (elements_array u h) = subst (λ (l : Layer). Fits E t l xs) (sym u) (_, h)
  fits_in (elements_slice u h) = subst (λ (l : Layer). Fits E t l xs) (sym u) (_, h)
  fits_in (elements_map u h) = subst (λ (l : Layer). Fits E t l xs) (sym u) h

  from_elements : (l : Layer) → under E.table t ≡ l → HasElements E t xs → Fits E t l xs
  from_elements l u h = subst (λ (k : Layer). Fits E t k xs) u (fits_in h)

  pub struct_elements : (fs : List Field) → under E.table t ≡ Term-F.Struct fs → StructFits E t fs xs → HasElements E t xs
  struct_elements fs u f = to_elements (Term-F.Struct fs) u f

  pub in_struct : (fs : List Field) → under E.table t ≡ Term-F.Struct fs → HasElements E t xs → StructFits E t fs xs
  in_struct fs u h = from_elements (Term-F.Struct fs) u h

  pub array_elements : (n : ℕ) (e : Term) → under E.table t ≡ Term-F.Array n e → AreIndexed E e (Some n) xs → HasElements E t xs
  array_elements n e u f = to_elements (Term-F.Array n e) u f

  pub in_array : (n : ℕ) (e : Term) → under E.table t ≡ Term-F.Array n e → HasElements E t xs → AreIndexed E e (Some n) xs
  in_array n e u h = from_elements (Term-F.Array n e) u h

  pub slice_elements : (e : Term) → under E.table t ≡ Term-F.Slice e → AreIndexed E e None xs → HasElements E t xs
  slice_elements e u f = to_elements (Term-F.Slice e) u f

  pub in_slice : (e : Term) → under E.table t ≡ Term-F.Slice e → HasElements E t xs → AreIndexed E e None xs
  in_slice e u h = from_elements (Term-F.Slice e) u h

  pub map_elements : (k e : Term) → under E.table t ≡ Term-F.Map k e → HasPairs E k e xs → HasElements E t xs
  map_elements k e u f = to_elements (Term-F.Map k e) u f

  pub in_map : (k e : Term) → under E.table t ≡ Term-F.Map k e → HasElements E t xs → HasPairs E k e xs
  in_map k e u h = from_elements (Term-F.Map k e) u h
