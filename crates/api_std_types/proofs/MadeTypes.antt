-- Types that are made of names, labels of fields and methods which are as is said.
use Rattle.std.proofs.Common.{◌≡◌, inl, inr, ℕ, zero, suc, Bool, List, [], ◌∷◌, ◌++◌, length, map, replicate, refl, sym, subst, Some}
use Rattle.go_base.proofs.Members.{each_has, has_split}
use Rattle.go_base.specs.Lists.{Each, Has}
use Rattle.go_model.specs.declared.constants.value.Basic.{Basic}
use Rattle.go_model.specs.declared.types.names.Sel.{Sel}
use Rattle.go_model.specs.declared.types.names.TypeName.{TypeName}
use Rattle.go_model.specs.declared.types.package.Defined.{Defined}
use Rattle.go_model.specs.declared.types.package.MethodOf.{MethodOf}
use Rattle.go_model.specs.declared.types.term.Field.{Field, roll-Field, out-roll-Field}
use Rattle.go_model.specs.declared.types.term.Method.{Method, out-Method, roll-Method, out-roll-Method}
use Rattle.go_model.specs.declared.types.term.Signature.{Signature, out-Signature, out-roll-Signature}
use Rattle.go_model.specs.declared.types.term.Term.{Term, Term-F, out-Term, roll-Term, out-roll-Term}
use Rattle.go_model.specs.types.Members.{field_sel}
use Rattle.go_model.specs.types.MethodSets.{method_sel}
use Rattle.go_model.specs.types.Terms.{Layer, pointer_to, slice_of}
use Rattle.go_model.specs.types.Underlying.{entry, fields_of, methods_of}
use Rattle.go_rules.proofs.LocalTypes.{each_made}
use Rattle.go_rules.specs.Environments.{Env}
use Rattle.go_rules.specs.Expressions.{for_names, signature}
use Rattle.go_rules.specs.Operands.{any_term, basic_term}
use Rattle.go_selectors.proofs.Lists.{has-left, has-right}
use Rattle.go_syntax.specs.declared.name.Name.{Name}
use Rattle.go_type_images.specs.Parts.{field_type, function_type, method_type, parts}
use Rattle.go_shared_types.proofs.Regions.{Closed}

module _ (N : TypeName → Type 0) (Q : Sel → Type 0) (M : Sel → Signature → Type 0) where
  -- the name, the labels of the fields and the methods of a level are so
  abbrev pub IsLevel : Layer → Type 0
  IsLevel (Term-F.Named n) = N n
  IsLevel (Term-F.Struct fs) = Each (λ f. Q (field_sel f)) fs
  IsLevel (Term-F.Interface ms) = Each (λ m. M (method_sel m) (out-Method m).signature) ms
  IsLevel l = Unit {0}

  -- those of the type, and of the types in it
  pub data Made : Term → Type 0 where
    made : {t : Term} → IsLevel (out-Term t) → ((u : Term) → Has (parts (out-Term t)) u → Made u) → Made t

  pub level_of : (t : Term) → Made t → IsLevel (out-Term t)
  level_of t (made l h) = l

  pub part_of : (t u : Term) → Made t → Has (parts (out-Term t)) u → Made u
  part_of t u (made l h) k = h u k

  -- ---- what is made

  pub rolled : (l : Layer) → IsLevel l → ((u : Term) → Has (parts l) u → Made u) → Made (roll-Term l)
  rolled l i h = made (subst IsLevel (sym (out-roll-Term l)) i) (λ u k. h u (subst (λ x. Has (parts x) u) (out-roll-Term l) k))

  pub one : (t : Term) → Made t → (u : Term) → Has (t ∷ []) u → Made u
  one t h u (inl e) = subst Made e h
  one t h u (inr k) = absurd k

  pub two : (s t : Term) → Made s → Made t → (u : Term) → Has (s ∷ t ∷ []) u → Made u
  two s t h k u (inl e) = subst Made e h
  two s t h k u (inr j) = one t k u j

  pub many : (ts : List Term) → Each Made ts → (u : Term) → Has ts u → Made u
  many ts h u k = each_has Made ts u h k

  pub basic_made : (b : Basic) → Made (basic_term b)
  basic_made b = rolled (Term-F.Plain b) tt (λ u k. absurd k)

  pub any_made : Made any_term
  any_made = rolled (Term-F.Interface []) tt (λ u k. absurd k)

  pub pointer_made : (t : Term) → Made t → Made (pointer_to t)
  pointer_made t h = rolled (Term-F.Pointer t) tt (one t h)

  pub slice_made : (t : Term) → Made t → Made (slice_of t)
  slice_made t h = rolled (Term-F.Slice t) tt (one t h)

  -- ---- signatures

  both : (ts us : List Term) → Each Made ts → Each Made us → (u : Term) → Has (ts ++ us) u → Made u
  both ts us h k u i = elim (has_split ts us u i) [ inl a ↦ many ts h u a | inr b ↦ many us k u b ]

  pub signature_made : (ts us : List Term) (variadic : Bool) → Each Made ts → Each Made us → Made (function_type (signature ts variadic us))
  signature_made ts us variadic h k =
      rolled (Term-F.Func (signature ts variadic us)) tt (λ u i. both ts us h k u (subst (λ (x : _). Has (x.params ++ x.results) u) (out-roll-Signature (record { params = ts; variadic = variadic; results = us })) i))

  in_function : (g : Signature) → Made (function_type g) → (u : Term) → Has ((out-Signature g).params ++ (out-Signature g).results) u → Made u
  in_function g h u k = part_of (function_type g) u h (subst (λ l. Has (parts l) u) (sym (out-roll-Term (Term-F.Func g))) k)

  pub parameters_of : (g : Signature) → Made (function_type g) → Each Made (out-Signature g).params
  parameters_of g h = each_made (out-Signature g).params (λ u k. in_function g h u (has-left (out-Signature g).params (out-Signature g).results u k))

  pub results_of_function : (g : Signature) → Made (function_type g) → Each Made (out-Signature g).results
  results_of_function g h = each_made (out-Signature g).results (λ u k. in_function g h u (has-right (out-Signature g).params (out-Signature g).results u k))

  replicated : (n : ℕ) (t : Term) → Made t → Each Made (replicate n t)
  replicated zero t h = tt
  replicated (suc n) t h = (h, replicated n t h)

  pub for_names_made : (ns : List Name) (t : Term) → Made t → Each Made (for_names ns t)
  for_names_made [] t h = (h, tt)
  for_names_made (n ∷ ns) t h = replicated (length (n ∷ ns)) t h

  -- ---- fields and methods

  pub record FieldMade (f : Field) : Type 0 where
    pub sel : Q (field_sel f)
    pub term : Made (field_type f)

  pub record MethodMade (m : Method) : Type 0 where
    pub sel : M (method_sel m) (out-Method m).signature
    pub type : Made (method_type m)

  pub field_made : (s : Sel) (embedded : Bool) (t : Term) (tag : List ℕ) → Q s → Made t → FieldMade (roll-Field (record { sel = s; embedded = embedded; term = t; tag = tag }))
  field_made s embedded t tag q h =
      let e = out-roll-Field (record { sel = s; embedded = embedded; term = t; tag = tag }) in
      record { sel = subst (λ (x : _). Q x.sel) (sym e) q; term = subst (λ (x : _). Made x.term) (sym e) h }

  pub method_made : (s : Sel) (g : Signature) → M s g → Made (function_type g) → MethodMade (roll-Method (record { sel = s; signature = g }))
  method_made s g m h =
      let e = out-roll-Method (record { sel = s; signature = g }) in
      record { sel = subst (λ (x : _). M x.sel x.signature) (sym e) m; type = subst (λ (x : _). Made (function_type x.signature)) (sym e) h }

  field_labels : (fs : List Field) → Each FieldMade fs → Each (λ f. Q (field_sel f)) fs
  field_labels [] h = tt
  field_labels (f ∷ fs) h = (h.0.sel, field_labels fs h.1)

  field_types : (fs : List Field) → Each FieldMade fs → (u : Term) → Has (map field_type fs) u → Made u
  field_types [] h u k = absurd k
  field_types (f ∷ fs) h u (inl e) = subst Made e h.0.term
  field_types (f ∷ fs) h u (inr k) = field_types fs h.1 u k

  pub struct_made : (fs : List Field) → Each FieldMade fs → Made (roll-Term (Term-F.Struct fs))
  struct_made fs h = rolled (Term-F.Struct fs) (field_labels fs h) (field_types fs h)

  method_labels : (ms : List Method) → Each MethodMade ms → Each (λ m. M (method_sel m) (out-Method m).signature) ms
  method_labels [] h = tt
  method_labels (m ∷ ms) h = (h.0.sel, method_labels ms h.1)

  method_types : (ms : List Method) → Each MethodMade ms → (u : Term) → Has (map method_type ms) u → Made u
  method_types [] h u k = absurd k
  method_types (m ∷ ms) h u (inl e) = subst Made e h.0.type
  method_types (m ∷ ms) h u (inr k) = method_types ms h.1 u k

  pub interface_made : (ms : List Method) → Each MethodMade ms → Made (roll-Term (Term-F.Interface ms))
  interface_made ms h = rolled (Term-F.Interface ms) (method_labels ms h) (method_types ms h)

  -- the methods of an interface
  methods_by : (ms : List Method) → Each (λ m. M (method_sel m) (out-Method m).signature) ms → ((u : Term) → Has (map method_type ms) u → Made u) → Each MethodMade ms
  methods_by [] l h = tt
  methods_by (m ∷ ms) l h = (record { sel = l.0; type = h (method_type m) (inl refl) }, methods_by ms l.1 (λ u k. h u (inr k)))

  pub methods_within : (t : Term) (ms : List Method) → Made t → out-Term t ≡ Term-F.Interface ms → Each MethodMade ms
  methods_within t ms h e = methods_by ms (subst IsLevel e (level_of t h)) (λ u k. part_of t u h (subst (λ l. Has (parts l) u) (sym e) k))

  -- ---- a table of such types

  pub record DefinedMade (d : Defined) : Type 0 where
    pub beneath : Made d.underlying
    pub methods : (m : MethodOf) → Has d.methods m → Made (function_type m.signature) × M m.sel m.signature

  level_field : (l : Layer) (f : Field) → IsLevel l → Has (fields_of l) f → Q (field_sel f)
  level_field (Term-F.Struct fs) f h k = each_has (λ x. Q (field_sel x)) fs f h k
  level_field l f h k = absurd k

  level_method : (l : Layer) (m : Method) → IsLevel l → Has (methods_of l) m → M (method_sel m) (out-Method m).signature
  level_method (Term-F.Interface ms) m h k = each_has (λ x. M (method_sel x) (out-Method x).signature) ms m h k
  level_method l m h k = absurd k

  pub region : (E : Env) → ((n : TypeName) (d : Defined) → N n → entry E.table n ≡ Some d → DefinedMade d) → Closed E.table Made Q M
  region E had = record {
    inside = part_of;
    fields = λ t f h k. level_field (out-Term t) f (level_of t h) k;
    methods = λ t m h k. level_method (out-Term t) m (level_of t h) k;
    beneath = λ t n d h e f. (had n d (subst IsLevel e (level_of t h)) f).beneath;
    declared = λ t n d m h e f k. (had n d (subst IsLevel e (level_of t h)) f).methods m k;
  }
