-- What a client selects from operands, on both sides.
use Rattle.std.proofs.Common.{◌≡◌, ◌⊎◌, inl, inr, Bool, true, false, List, [], refl, sym, ap, subst, if◌then◌else◌, ℕ, ◌∙◌}
use Rattle.std.proofs.lemmas.Slice.Eq.{bytes_eq-Decides}
use Rattle.go_model.specs.declared.types.names.Sel.{Sel}
use Rattle.go_model.specs.declared.types.names.TypeName.{TypeName}
use Rattle.go_model.specs.declared.types.term.Signature.{Signature}
use Rattle.go_model.specs.declared.types.term.Term.{Term}
use Rattle.go_model.specs.types.MethodSets.{Reaches}
use Rattle.go_model.specs.types.Selectors.{Ending, field}
use Rattle.go_model.specs.types.Terms.{IsBlank, blank, client_path}
use Rattle.go_rules.specs.Environments.{Env, Found, HasMethod, is_exported, selector_of}
use Rattle.go_rules.specs.Expressions.{is_blank}
use Rattle.go_syntax.specs.declared.name.Name.{Name}
use Rattle.go_type_images.specs.Images.{Naming, image, image_of_signature, same_sels}
use Rattle.go_type_images.specs.Parts.{function_type}
use Rattle.go_type_images.specs.declared.pair.TypePair.{TypePair}
use Rattle.go_client_types.specs.Endings.{IsKeptEnding, end_at, kept_field}
use Rattle.go_client_types.specs.Keeping.{Keeps}
use Rattle.go_client_types.specs.Reached.{IsClientSel, IsReached}
use Rattle.go_client_types.proofs.Conversions.{true_false}
use Rattle.go_client_types.proofs.FoundTypes as found
use Rattle.go_client_types.proofs.FoundTypes.{found_kept}

-- the selector of a name in a package
abbrev sel_in : List ℕ → List ℕ → Sel
sel_in name path = record { name = name; «package» = if is_exported name then [] else path }

raised_reach : (q a x y : Bool) → (x ≡ true → y ≡ true) → Reaches a (if q then true else x) → Reaches a (if q then true else y)
raised_reach true a x y h w = w
raised_reach false a x y h (inl e) = inl e
raised_reach false a x y h (inr e) = inr (h e)

-- a method that can be called on a value can be called on an addressable one
pub raised : (F : Env) (x y : Bool) (t : Term) (s : Sel) (g : Signature) → (x ≡ true → y ≡ true) → HasMethod F x t s g → HasMethod F y t s g
raised F x y t s g h m = record { through = m.through; owner = m.owner; pointer = m.pointer; found = m.found; counts = m.counts; reaches = raised_reach m.through m.pointer x y h m.reaches }

module _ (E F : Env) (r : Naming) (pairs : List TypePair) (std : TypeName → Bool) (is_open : Sel → Bool) (K : Keeps E F r pairs std is_open) where
  abbrev to : Term → Term
  to = image r same_sels

  abbrev R : Term → Type 0
  R = IsReached pairs std is_open

  pub sel_same : (n : Name) → selector_of E n.text ≡ selector_of F n.text
  sel_same n = ap (sel_in n.text) (sym K.path)

  sel_by : (n : Name) (b : Bool) → is_exported n.text ≡ b → IsClientSel (selector_of E n.text)
  sel_by n true e = inl (ap (λ b. if b then [] else E.path) e)
  sel_by n false e = inr (ap (λ b. if b then [] else E.path) e ∙ K.client)

  pub client_sel : (n : Name) → IsClientSel (selector_of E n.text)
  client_sel n = sel_by n (is_exported n.text) refl

  not_blank : (n : Name) → is_blank n.text ≡ false → IsBlank (selector_of E n.text) → ⊥
  not_blank n b e = true_false ((bytes_eq-Decides n.text blank).1 e) b

  is_called : (s : Sel) → IsClientSel s → (is_open s ≡ true) ⊎ (s.«package» ≡ client_path)
  is_called s (inl e) = inl (K.types.exported_open s e)
  is_called s (inr e) = inr e

  -- a field, through a pointer where it was
  abbrev pub KeepsField : Name → Term → Bool → Term → Type 0
  KeepsField n t q u = (k : Bool) × Found F (selector_of F n.text) (to t) (end_at k (field (to u))) × (q ≡ true → k ≡ true) × R u

  kept_as : (n : Name) (t : Term) (q : Bool) (u : Term) (e : Ending) → Found F (selector_of E n.text) (to t) e → IsKeptEnding r (end_at q (field u)) e → R u → KeepsField n t q u
  kept_as n t q u e f (kept_field {k = k} w) h = (k, subst (λ s. Found F s (to t) (end_at k (field (to u)))) (sel_same n) f, w, h)

  pub field_kept : (n : Name) (t : Term) (q : Bool) (u : Term) → R t → is_blank n.text ≡ false → Found E (selector_of E n.text) t (end_at q (field u)) → KeepsField n t q u
  field_kept n t q u h b x =
      let f = found_kept E F r pairs std is_open K t (selector_of E n.text) q (field u) h (client_sel n) (not_blank n b) x in
      kept_as n t q u f.0 f.1 f.2 f.3

  -- a method that can be called
  pub called_kept : (n : Name) (x : Bool) (t : Term) (g : Signature) → R t → HasMethod E x t (selector_of E n.text) g → HasMethod F x (to t) (selector_of F n.text) (image_of_signature r same_sels g) × R (function_type g)
  called_kept n x t g h m =
      let f = found.method_kept E F r pairs std is_open K x t (selector_of E n.text) g h (is_called (selector_of E n.text) (client_sel n)) m in
      (subst (λ s. HasMethod F x (to t) s (image_of_signature r same_sels g)) (sel_same n) f.0, f.1)
