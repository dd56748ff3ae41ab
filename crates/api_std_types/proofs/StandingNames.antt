-- All names and all selectors in a made type are as is said.
use Rattle.std.proofs.Common.{◌≡◌, inl, inr, Bool, true, List, [], ◌∷◌, ◌++◌, map, refl, sym, ap, ◌∙◌, subst}
use Rattle.go_base.specs.Gathered.{gather}
use Rattle.go_base.specs.Lists.{Each, Has, Passes}
use Rattle.go_model.specs.declared.types.names.Sel.{Sel}
use Rattle.go_model.specs.declared.types.names.TypeName.{TypeName}
use Rattle.go_model.specs.declared.types.term.Field.{Field, fold-Field, fold_out-Field}
use Rattle.go_model.specs.declared.types.term.Method.{Method, out-Method, fold-Method, fold_out-Method}
use Rattle.go_model.specs.declared.types.term.Signature.{Signature, out-Signature, fold_out-Signature}
use Rattle.go_model.specs.declared.types.term.Term.{Term, Term-F, out-Term, roll-Term, fold-roll-Term, roll-out-Term}
use Rattle.go_model.specs.types.Members.{field_sel}
use Rattle.go_model.specs.types.MethodSets.{method_sel}
use Rattle.go_model.specs.types.Terms.{Layer}
use Rattle.go_model.specs.types.TypeNames.{Names, field_names, method_names, name_step, names, parameter_names, signature_names}
use Rattle.go_model.specs.types.TypeSelectors.{Sels, field_sels, method_sels, parameter_sels, sel_step, selectors, signature_selectors}
use Rattle.go_rules.proofs.LocalTerms.{each_passes, passes_both}
use Rattle.go_rules.proofs.LocalTypes.{each_made}
use Rattle.go_selectors.proofs.Lists.{gather-append}
use Rattle.go_type_images.specs.Parts.{field_type, method_type, parts}
use Rattle.go_shared_types.proofs.Items.{in_map}
use Rattle.go_shared_types.proofs.PartNames.{names_of_function, selectors_of_function}
use Rattle.api_std_types.proofs.MadeTypes.{IsLevel, Made, made}

gathered : {A B : Type 0} (f g : A → List B) (xs : List A) → ((x : A) → f x ≡ g x) → gather (λ x. x) (map f xs) ≡ gather g xs
gathered f g [] h = refl
gathered f g (x ∷ xs) h = let p = h x in let q = gathered f g xs h in λ i. p i ++ q i

-- ---- names

function_names : (g : Signature) → signature_names g ≡ gather names ((out-Signature g).params ++ (out-Signature g).results)
function_names g =
    fold_out-Signature Names Names Names Names name_step field_names method_names parameter_names g
    ∙ (λ i. gathered names names (out-Signature g).params (λ t. refl) i ++ gathered names names (out-Signature g).results (λ t. refl) i)
    ∙ sym (gather-append names (out-Signature g).params (out-Signature g).results)

struct_names : (fs : List Field) → names (roll-Term (Term-F.Struct fs)) ≡ gather (λ x. names (field_type x)) fs
struct_names fs =
    fold-roll-Term Names Names Names Names name_step field_names method_names parameter_names (Term-F.Struct fs)
    ∙ gathered (fold-Field Names Names Names Names name_step field_names method_names parameter_names) (λ x. names (field_type x)) fs (λ f. fold_out-Field Names Names Names Names name_step field_names method_names parameter_names f)

interface_names : (ms : List Method) → names (roll-Term (Term-F.Interface ms)) ≡ gather (λ x. names (method_type x)) ms
interface_names ms =
    fold-roll-Term Names Names Names Names name_step field_names method_names parameter_names (Term-F.Interface ms)
    ∙ gathered (fold-Method Names Names Names Names name_step field_names method_names parameter_names) (λ x. names (method_type x)) ms
    (λ m. fold_out-Method Names Names Names Names name_step field_names method_names parameter_names m ∙ sym (names_of_function (out-Method m).signature))

-- ---- selectors

function_sels : (g : Signature) → signature_selectors g ≡ gather selectors ((out-Signature g).params ++ (out-Signature g).results)
function_sels g =
    fold_out-Signature Sels Sels Sels Sels sel_step field_sels method_sels parameter_sels g
    ∙ (λ i. gathered selectors selectors (out-Signature g).params (λ t. refl) i ++ gathered selectors selectors (out-Signature g).results (λ t. refl) i)
    ∙ sym (gather-append selectors (out-Signature g).params (out-Signature g).results)

abbrev of_field : Field → Sels
of_field f = field_sel f ∷ selectors (field_type f)

abbrev of_method : Method → Sels
of_method m = method_sel m ∷ selectors (method_type m)

struct_sels : (fs : List Field) → selectors (roll-Term (Term-F.Struct fs)) ≡ gather of_field fs
struct_sels fs =
    fold-roll-Term Sels Sels Sels Sels sel_step field_sels method_sels parameter_sels (Term-F.Struct fs)
    ∙ gathered (fold-Field Sels Sels Sels Sels sel_step field_sels method_sels parameter_sels) of_field fs (λ f. fold_out-Field Sels Sels Sels Sels sel_step field_sels method_sels parameter_sels f)

interface_sels : (ms : List Method) → selectors (roll-Term (Term-F.Interface ms)) ≡ gather of_method ms
interface_sels ms =
    fold-roll-Term Sels Sels Sels Sels sel_step field_sels method_sels parameter_sels (Term-F.Interface ms)
    ∙ gathered (fold-Method Sels Sels Sels Sels sel_step field_sels method_sels parameter_sels) of_method ms
    (λ m. fold_out-Method Sels Sels Sels Sels sel_step field_sels method_sels parameter_sels m ∙ ap (λ xs. method_sel m ∷ xs) (sym (selectors_of_function (out-Method m).signature)))

module _ (N : TypeName → Type 0) (Q : Sel → Type 0) (M : Sel → Signature → Type 0) where
  module _ (P : TypeName → Bool) (named : (n : TypeName) → N n → P n ≡ true) where
    abbrev NamesPass : Term → Type 0
    NamesPass t = Passes P (names t)

    level_names : (l : Layer) → IsLevel N Q M l → ((u : Term) → Has (parts l) u → NamesPass u) → NamesPass (roll-Term l)
    level_names (Term-F.Plain b) i h = subst (λ (xs : Names). Passes P xs) (sym (fold-roll-Term Names Names Names Names name_step field_names method_names parameter_names (Term-F.Plain b))) tt
    level_names (Term-F.Named n) i h = subst (λ (xs : Names). Passes P xs) (sym (fold-roll-Term Names Names Names Names name_step field_names method_names parameter_names (Term-F.Named n))) (named n i, tt)
    level_names (Term-F.Pointer e) i h = subst (λ (xs : Names). Passes P xs) (sym (fold-roll-Term Names Names Names Names name_step field_names method_names parameter_names (Term-F.Pointer e))) (h e (inl refl))
    level_names (Term-F.Slice e) i h = subst (λ (xs : Names). Passes P xs) (sym (fold-roll-Term Names Names Names Names name_step field_names method_names parameter_names (Term-F.Slice e))) (h e (inl refl))
    level_names (Term-F.Array n e) i h = subst (λ (xs : Names). Passes P xs) (sym (fold-roll-Term Names Names Names Names name_step field_names method_names parameter_names (Term-F.Array n e))) (h e (inl refl))
    level_names (Term-F.Map k e) i h = subst (λ (xs : Names). Passes P xs) (sym (fold-roll-Term Names Names Names Names name_step field_names method_names parameter_names (Term-F.Map k e))) (passes_both P (names k) (names e) (h k (inl refl)) (h e (inr (inl refl))))
    level_names (Term-F.Chan d e) i h = subst (λ (xs : Names). Passes P xs) (sym (fold-roll-Term Names Names Names Names name_step field_names method_names parameter_names (Term-F.Chan d e))) (h e (inl refl))
    level_names (Term-F.Func g) i h =
        let ts = (out-Signature g).params ++ (out-Signature g).results in
        subst (λ (xs : Names). Passes P xs) (sym (names_of_function g ∙ function_names g)) (each_passes P names ts (each_made ts h))
    level_names (Term-F.Struct fs) i h = subst (λ (xs : Names). Passes P xs) (sym (struct_names fs)) (each_passes P (λ x. names (field_type x)) fs (each_made fs (λ f k. h (field_type f) (in_map field_type fs f k))))
    level_names (Term-F.Interface ms) i h = subst (λ (xs : Names). Passes P xs) (sym (interface_names ms)) (each_passes P (λ x. names (method_type x)) ms (each_made ms (λ m k. h (method_type m) (in_map method_type ms m k))))

    pub all_names : (t : Term) → Made N Q M t → Passes P (names t)
    all_names t (made i h) = subst (λ (x : Term). Passes P (names x)) (roll-out-Term t) (level_names (out-Term t) i (λ u k. all_names u (h u k)))

  module _ (P : Sel → Bool) (labelled : (s : Sel) → Q s → P s ≡ true) (declared : (s : Sel) (g : Signature) → M s g → P s ≡ true) where
    abbrev SelsPass : Term → Type 0
    SelsPass t = Passes P (selectors t)

    fields_pass : (fs : List Field) → Each (λ f. Q (field_sel f)) fs → ((u : Term) → Has (map field_type fs) u → SelsPass u) → Each (λ f. Passes P (of_field f)) fs
    fields_pass [] i h = tt
    fields_pass (f ∷ fs) i h = ((labelled (field_sel f) i.0, h (field_type f) (inl refl)), fields_pass fs i.1 (λ u k. h u (inr k)))

    methods_pass : (ms : List Method) → Each (λ m. M (method_sel m) (out-Method m).signature) ms → ((u : Term) → Has (map method_type ms) u → SelsPass u) → Each (λ m. Passes P (of_method m)) ms
    methods_pass [] i h = tt
    methods_pass (m ∷ ms) i h = ((declared (method_sel m) (out-Method m).signature i.0, h (method_type m) (inl refl)), methods_pass ms i.1 (λ u k. h u (inr k)))

    level_sels : (l : Layer) → IsLevel N Q M l → ((u : Term) → Has (parts l) u → SelsPass u) → SelsPass (roll-Term l)
    level_sels (Term-F.Plain b) i h = subst (λ (xs : Sels). Passes P xs) (sym (fold-roll-Term Sels Sels Sels Sels sel_step field_sels method_sels parameter_sels (Term-F.Plain b))) tt
    level_sels (Term-F.Named n) i h = subst (λ (xs : Sels). Passes P xs) (sym (fold-roll-Term Sels Sels Sels Sels sel_step field_sels method_sels parameter_sels (Term-F.Named n))) tt
    level_sels (Term-F.Pointer e) i h = subst (λ (xs : Sels). Passes P xs) (sym (fold-roll-Term Sels Sels Sels Sels sel_step field_sels method_sels parameter_sels (Term-F.Pointer e))) (h e (inl refl))
    level_sels (Term-F.Slice e) i h = subst (λ (xs : Sels). Passes P xs) (sym (fold-roll-Term Sels Sels Sels Sels sel_step field_sels method_sels parameter_sels (Term-F.Slice e))) (h e (inl refl))
    level_sels (Term-F.Array n e) i h = subst (λ (xs : Sels). Passes P xs) (sym (fold-roll-Term Sels Sels Sels Sels sel_step field_sels method_sels parameter_sels (Term-F.Array n e))) (h e (inl refl))
    level_sels (Term-F.Map k e) i h = subst (λ (xs : Sels). Passes P xs) (sym (fold-roll-Term Sels Sels Sels Sels sel_step field_sels method_sels parameter_sels (Term-F.Map k e))) (passes_both P (selectors k) (selectors e) (h k (inl refl)) (h e (inr (inl refl))))
    level_sels (Term-F.Chan d e) i h = subst (λ (xs : Sels). Passes P xs) (sym (fold-roll-Term Sels Sels Sels Sels sel_step field_sels method_sels parameter_sels (Term-F.Chan d e))) (h e (inl refl))
    level_sels (Term-F.Func g) i h =
        let ts = (out-Signature g).params ++ (out-Signature g).results in
        subst (λ (xs : Sels). Passes P xs) (sym (selectors_of_function g ∙ function_sels g)) (each_passes P selectors ts (each_made ts h))
    level_sels (Term-F.Struct fs) i h = subst (λ (xs : Sels). Passes P xs) (sym (struct_sels fs)) (each_passes P of_field fs (fields_pass fs i h))
    level_sels (Term-F.Interface ms) i h = subst (λ (xs : Sels). Passes P xs) (sym (interface_sels ms)) (each_passes P of_method ms (methods_pass ms i h))

    pub all_selectors : (t : Term) → Made N Q M t → Passes P (selectors t)
    all_selectors t (made i h) = subst (λ (x : Term). Passes P (selectors x)) (roll-out-Term t) (level_sels (out-Term t) i (λ u k. all_selectors u (h u k)))
