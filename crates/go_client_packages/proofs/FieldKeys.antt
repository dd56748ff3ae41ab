-- Keys of struct literals on both sides, and the declarations that references name.
use Rattle.std.proofs.Common.{◌≡◌, inl, inr, ℕ, Bool, false, List, [], ◌∷◌, refl, sym, subst}
use Rattle.go_base.proofs.Members.{each_has}
use Rattle.go_base.specs.Lists.{Each, Has as HasItem}
use Rattle.go_model.specs.declared.types.names.Sel.{Sel}
use Rattle.go_model.specs.declared.types.names.TypeName.{TypeName}
use Rattle.go_model.specs.declared.types.term.Term.{Term, Term-F, out-roll-Term}
use Rattle.go_model.specs.types.Terms.{Layer}
use Rattle.go_model.specs.types.Underlying.{under}
use Rattle.go_references.specs.declared.references.Reference.{Reference}
use Rattle.go_rules.specs.Asks.{Meets}
use Rattle.go_rules.specs.Environments.{Env}
use Rattle.go_rules.specs.Expressions.{array_of}
use Rattle.go_rules.specs.Nodes.{Node, expression, expression_parts}
use Rattle.go_syntax.specs.declared.expression.Element.{Element}
use Rattle.go_syntax.specs.declared.name.Name.{Name}
use Rattle.go_type_images.specs.Images.{Naming, image, image_of_layer, same_sels}
use Rattle.go_type_images.specs.Levels.{is_structured}
use Rattle.go_type_images.specs.Parts.{parts}
use Rattle.go_type_images.specs.declared.pair.TypePair.{TypePair}
use Rattle.go_type_images.proofs.ImageLevels.{image_roll}
use Rattle.go_typings.specs.DeclarationNodes.{nodes}
use Rattle.go_typings.specs.Declarations.{Form}
use Rattle.go_typings.specs.References.{HasLiteral, literal, literal_array, literal_key, literal_value, HoldsValues, holds_item, holds_map_item, holds_slice_item, IsFieldKey, IsOmitted, omitted_base, omitted_itself, NamesDeclaration}
use Rattle.go_typings.specs.Sources.{PackageSource}
use Rattle.go_client_types.specs.Keeping.{Keeps}
use Rattle.go_client_types.specs.Reached.{IsMade, IsReached, reach_made}
use Rattle.go_client_types.proofs.TypeForms.{meets_parts}
use Rattle.go_client_types.proofs.Views as V
use Rattle.go_client_expressions.proofs.Expressions as expressions
use Rattle.go_client_expressions.proofs.Fields.{struct_kept}
use Rattle.go_client_expressions.proofs.MetParts as met

module _ (E F : Env) (r : Naming) (pairs : List TypePair) (std : TypeName → Bool) (is_open : Sel → Bool) (K : Keeps E F r pairs std is_open) where
  abbrev to : Term → Term
  to = image r same_sels

  abbrev R : Term → Type 0
  R = IsReached pairs std is_open

  form : (t : Term) (l : Layer) → R t → is_structured l ≡ false → under E.table t ≡ l → (under F.table (to t) ≡ image_of_layer r same_sels l) × ((u : Term) → HasItem (parts l) u → R u)
  form t l h n e = V.form_kept E F r pairs std is_open K t l h n e

  -- ---- literals

  array_reached : (n : ℕ) (t : Term) → R t → R (array_of n t)
  array_reached n t h = reach_made (subst IsMade (sym (out-roll-Term (Term-F.Array n t))) tt) (λ u k. of_one u (subst (λ l. HasItem (parts l) u) (out-roll-Term (Term-F.Array n t)) k))
    where
      of_one : (u : Term) → HasItem (t ∷ []) u → R u
      of_one u (inl e) = subst R e h
      of_one u (inr k) = absurd k

  holds_kept : {t e : Term} → R t → HoldsValues E t e → HoldsValues F (to t) (to e) × R e
  holds_kept {t = t} {e = e} h (holds_item {n = n} d) = let f = form t (Term-F.Array n e) h refl d in (holds_item f.0, f.1 e (inl refl))
  holds_kept {t = t} {e = e} h (holds_slice_item d) = let f = form t (Term-F.Slice e) h refl d in (holds_slice_item f.0, f.1 e (inl refl))
  holds_kept {t = t} {e = e} h (holds_map_item {k = k} d) = let f = form t (Term-F.Map k e) h refl d in (holds_map_item f.0, f.1 e (inr (inl refl)))

  omitted_kept : {t v : Term} → R t → IsOmitted E t v → IsOmitted F (to t) (to v) × R v
  omitted_kept h omitted_itself = (omitted_itself, h)
  omitted_kept {t = t} h (omitted_base {base = base} d) = let f = form t (Term-F.Pointer base) h refl d in (omitted_base f.0, f.1 base (inl refl))

  literal_kept : {at : Node} {t : Term} {xs : List Element} → Meets E at → HasLiteral E at t xs → HasLiteral F at (to t) xs × R t
  literal_kept m (literal {e = e} s i a) =
      let parts_met = subst (λ l. Each (Meets E) (expression_parts l)) i (meets_parts E (expression e) (met.within E m s)) in
      let f = expressions.type_kept E F E r pairs std is_open K (λ q t n. n) K.barred a parts_met.0 in
      (literal s i f.0, f.1)
  literal_kept {at = at} {xs = xs} m (literal_array {e = e} {v = v} n s i a) =
      let parts_met = subst (λ l. Each (Meets E) (expression_parts l)) i (meets_parts E (expression e) (met.within E m s)) in
      let f = expressions.type_kept E F E r pairs std is_open K (λ q t n. n) K.barred a parts_met.0 in
      (subst (λ t. HasLiteral F at t xs) (sym (image_roll r same_sels (Term-F.Array n v))) (literal_array n s i f.0), array_reached n v f.1)
  literal_kept m (literal_key {t = t} {k = k} {e = e} x h i a b d o) =
      let g = literal_kept m h in
      let f = form t (Term-F.Map k e) g.1 refl d in
      let q = omitted_kept (f.1 k (inl refl)) o in
      (literal_key x g.0 i a b f.0 q.0, q.1)
  literal_kept m (literal_value x h i b d o) =
      let g = literal_kept m h in
      let f = holds_kept g.1 d in
      let q = omitted_kept f.1 o in
      (literal_value x g.0 i b f.0 q.0, q.1)

  -- a key of a struct's literal stays one
  key_kept : (at : Node) (name : Name) → Meets E at → IsFieldKey E at name → IsFieldKey F at name
  key_kept at name m k =
      let l = literal_kept m k.stands in
      let g = struct_kept E F r pairs std is_open K k.type k.fields l.1 k.struct in
      record { type = to k.type; fields = g.0; elements = k.elements; element = k.element; stands = l.0; struct = g.1; has = k.has; key = k.key }

  -- a reference that names a declaration on the new side names it on the old one
  pub names_back : (u : PackageSource) (f : Form) (rs : List Reference) (n : ℕ) → Each (Meets E) (nodes f) → NamesDeclaration F u f rs n → NamesDeclaration E u f rs n
  names_back u f rs n m d = record {
    reference = d.reference;
    has = d.has;
    names = d.names;
    counts = λ e at i k. d.counts e at i (key_kept at d.reference.name (each_has (Meets E) (nodes f) at m i) k);
  }
