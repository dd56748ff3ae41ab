-- The names and the selectors in a type, by its parts: what stands in a part stands in the type.
use Rattle.std.proofs.Common.{◌≡◌, ◌⊎◌, inl, inr, false, List, [], ◌∷◌, ◌++◌, map, refl, sym, ap, ◌∙◌, subst}
use Rattle.std.specs.Prelude.{codes}
use Rattle.go_base.specs.Gathered.{gather}
use Rattle.go_base.specs.Lists.{Has}
use Rattle.go_selectors.proofs.Lists.{gather-append, has-left, has-right, has-split}
use Rattle.go_model.specs.declared.constants.value.Basic.TheVariants as basic
use Rattle.go_model.specs.declared.types.names.Sel.{Sel}
use Rattle.go_model.specs.declared.types.names.TypeName.{TypeName}
use Rattle.go_model.specs.declared.types.term.Field.{Field, out-Field, fold-Field, fold_out-Field}
use Rattle.go_model.specs.declared.types.term.Method.{Method, out-Method, fold-Method, fold_out-Method, out-roll-Method}
use Rattle.go_model.specs.declared.types.term.Signature.{Signature, out-Signature, fold_out-Signature, out-roll-Signature, roll-Signature}
use Rattle.go_model.specs.declared.types.term.Term.{Term, Term-F, out-Term, roll-Term, fold-roll-Term, roll-out-Term}
use Rattle.go_model.specs.types.Members.{field_sel}
use Rattle.go_model.specs.types.MethodSets.{method_sel}
use Rattle.go_model.specs.types.Terms.{Layer, error_method, error_type, pointer_to}
use Rattle.go_model.specs.types.TypeNames.{Names, all_of, field_names, method_names, name_step, names, parameter_names, signature_names}
use Rattle.go_model.specs.types.TypeSelectors.{Sels, field_sels, method_sels, parameter_sels, sel_step, selectors, sels_of, signature_selectors}
use Rattle.go_model.specs.types.Underlying.{fields_of, methods_of}
use Rattle.go_type_images.specs.Parts.{field_type, function_type, method_type, parts}
use Rattle.go_shared_types.proofs.Items.{either, in_gather, of_map}

gathered : {A B : Type 0} (f g : A → List B) (xs : List A) → ((x : A) → f x ≡ g x) → gather (λ x. x) (map f xs) ≡ gather g xs
gathered f g [] h = refl
gathered f g (x ∷ xs) h = let p = h x in let q = gathered f g xs h in λ i. p i ++ q i

one_of : {B : Type 0} (f : Term → List B) (e u : Term) (n : B) → Has (e ∷ []) u → Has (f u) n → Has (f e) n
one_of f e u n (inl q) k = subst (λ t. Has (f t) n) (sym q) k
one_of f e u n (inr i) k = absurd i

two_of : {B : Type 0} (f : Term → List B) (m e u : Term) (n : B) → Has (m ∷ e ∷ []) u → Has (f u) n → Has (f m ++ f e) n
two_of f m e u n (inl q) k = has-left (f m) (f e) n (subst (λ t. Has (f t) n) (sym q) k)
two_of f m e u n (inr i) k = has-right (f m) (f e) n (one_of f e u n i k)

-- ---- names

function_names : (g : Signature) → signature_names g ≡ gather names ((out-Signature g).params ++ (out-Signature g).results)
function_names g =
    fold_out-Signature Names Names Names Names name_step field_names method_names parameter_names g
    ∙ (λ i. gathered names names (out-Signature g).params (λ t. refl) i ++ gathered names names (out-Signature g).results (λ t. refl) i)
    ∙ sym (gather-append names (out-Signature g).params (out-Signature g).results)

pub names_of_function : (g : Signature) → names (function_type g) ≡ signature_names g
names_of_function g = fold-roll-Term Names Names Names Names name_step field_names method_names parameter_names (Term-F.Func g)

field_named : (f : Field) → fold-Field Names Names Names Names name_step field_names method_names parameter_names f ≡ names (field_type f)
field_named f = fold_out-Field Names Names Names Names name_step field_names method_names parameter_names f

method_named : (m : Method) → fold-Method Names Names Names Names name_step field_names method_names parameter_names m ≡ names (method_type m)
method_named m = fold_out-Method Names Names Names Names name_step field_names method_names parameter_names m ∙ sym (names_of_function (out-Method m).signature)

level_names : (l : Layer) (u : Term) (n : TypeName) → Has (parts l) u → Has (names u) n → Has (names (roll-Term l)) n
level_names (Term-F.Plain b) u n h k = absurd h
level_names (Term-F.Named m) u n h k = absurd h
level_names (Term-F.Pointer e) u n h k = subst (λ (xs : Names). Has xs n) (sym (fold-roll-Term Names Names Names Names name_step field_names method_names parameter_names (Term-F.Pointer e))) (one_of names e u n h k)
level_names (Term-F.Slice e) u n h k = subst (λ (xs : Names). Has xs n) (sym (fold-roll-Term Names Names Names Names name_step field_names method_names parameter_names (Term-F.Slice e))) (one_of names e u n h k)
level_names (Term-F.Array m e) u n h k = subst (λ (xs : Names). Has xs n) (sym (fold-roll-Term Names Names Names Names name_step field_names method_names parameter_names (Term-F.Array m e))) (one_of names e u n h k)
level_names (Term-F.Map m e) u n h k = subst (λ (xs : Names). Has xs n) (sym (fold-roll-Term Names Names Names Names name_step field_names method_names parameter_names (Term-F.Map m e))) (two_of names m e u n h k)
level_names (Term-F.Chan d e) u n h k = subst (λ (xs : Names). Has xs n) (sym (fold-roll-Term Names Names Names Names name_step field_names method_names parameter_names (Term-F.Chan d e))) (one_of names e u n h k)
level_names (Term-F.Func g) u n h k = subst (λ (xs : Names). Has xs n) (sym (names_of_function g ∙ function_names g)) (in_gather names ((out-Signature g).params ++ (out-Signature g).results) u n h k)
level_names (Term-F.Struct fs) u n h k =
    let f = of_map field_type fs u h in
    let e = fold-roll-Term Names Names Names Names name_step field_names method_names parameter_names (Term-F.Struct fs) ∙ gathered (fold-Field Names Names Names Names name_step field_names method_names parameter_names) (λ x. names (field_type x)) fs field_named in
    subst (λ (xs : Names). Has xs n) (sym e) (in_gather (λ x. names (field_type x)) fs f.0 n f.1 (subst (λ t. Has (names t) n) (sym f.2) k))
level_names (Term-F.Interface ms) u n h k =
    let m = of_map method_type ms u h in
    let e = fold-roll-Term Names Names Names Names name_step field_names method_names parameter_names (Term-F.Interface ms) ∙ gathered (fold-Method Names Names Names Names name_step field_names method_names parameter_names) (λ x. names (method_type x)) ms method_named in
    subst (λ (xs : Names). Has xs n) (sym e) (in_gather (λ x. names (method_type x)) ms m.0 n m.1 (subst (λ t. Has (names t) n) (sym m.2) k))

pub part_names : (t u : Term) (n : TypeName) → Has (parts (out-Term t)) u → Has (names u) n → Has (names t) n
part_names t u n h k = subst (λ (x : Term). Has (names x) n) (roll-out-Term t) (level_names (out-Term t) u n h k)

pub own_name : (t : Term) (n : TypeName) → out-Term t ≡ Term-F.Named n → Has (names t) n
own_name t n e =
    subst (λ (x : Term). Has (names x) n) (ap roll-Term (sym e) ∙ roll-out-Term t)
    (subst (λ (xs : Names). Has xs n) (sym (fold-roll-Term Names Names Names Names name_step field_names method_names parameter_names (Term-F.Named n))) (inl refl))

-- ---- selectors

function_sels : (g : Signature) → signature_selectors g ≡ gather selectors ((out-Signature g).params ++ (out-Signature g).results)
function_sels g =
    fold_out-Signature Sels Sels Sels Sels sel_step field_sels method_sels parameter_sels g
    ∙ (λ i. gathered selectors selectors (out-Signature g).params (λ t. refl) i ++ gathered selectors selectors (out-Signature g).results (λ t. refl) i)
    ∙ sym (gather-append selectors (out-Signature g).params (out-Signature g).results)

pub selectors_of_function : (g : Signature) → selectors (function_type g) ≡ signature_selectors g
selectors_of_function g = fold-roll-Term Sels Sels Sels Sels sel_step field_sels method_sels parameter_sels (Term-F.Func g)

abbrev of_field : Field → Sels
of_field f = field_sel f ∷ selectors (field_type f)

abbrev of_method : Method → Sels
of_method m = method_sel m ∷ selectors (method_type m)

field_selected : (f : Field) → fold-Field Sels Sels Sels Sels sel_step field_sels method_sels parameter_sels f ≡ of_field f
field_selected f = fold_out-Field Sels Sels Sels Sels sel_step field_sels method_sels parameter_sels f

method_selected : (m : Method) → fold-Method Sels Sels Sels Sels sel_step field_sels method_sels parameter_sels m ≡ of_method m
method_selected m = fold_out-Method Sels Sels Sels Sels sel_step field_sels method_sels parameter_sels m ∙ ap (λ xs. method_sel m ∷ xs) (sym (selectors_of_function (out-Method m).signature))

struct_sels : (fs : List Field) → selectors (roll-Term (Term-F.Struct fs)) ≡ gather of_field fs
struct_sels fs = fold-roll-Term Sels Sels Sels Sels sel_step field_sels method_sels parameter_sels (Term-F.Struct fs) ∙ gathered (fold-Field Sels Sels Sels Sels sel_step field_sels method_sels parameter_sels) of_field fs field_selected

interface_sels : (ms : List Method) → selectors (roll-Term (Term-F.Interface ms)) ≡ gather of_method ms
interface_sels ms = fold-roll-Term Sels Sels Sels Sels sel_step field_sels method_sels parameter_sels (Term-F.Interface ms) ∙ gathered (fold-Method Sels Sels Sels Sels sel_step field_sels method_sels parameter_sels) of_method ms method_selected

level_sels : (l : Layer) (u : Term) (s : Sel) → Has (parts l) u → Has (selectors u) s → Has (selectors (roll-Term l)) s
level_sels (Term-F.Plain b) u s h k = absurd h
level_sels (Term-F.Named m) u s h k = absurd h
level_sels (Term-F.Pointer e) u s h k = subst (λ (xs : Sels). Has xs s) (sym (fold-roll-Term Sels Sels Sels Sels sel_step field_sels method_sels parameter_sels (Term-F.Pointer e))) (one_of selectors e u s h k)
level_sels (Term-F.Slice e) u s h k = subst (λ (xs : Sels). Has xs s) (sym (fold-roll-Term Sels Sels Sels Sels sel_step field_sels method_sels parameter_sels (Term-F.Slice e))) (one_of selectors e u s h k)
level_sels (Term-F.Array m e) u s h k = subst (λ (xs : Sels). Has xs s) (sym (fold-roll-Term Sels Sels Sels Sels sel_step field_sels method_sels parameter_sels (Term-F.Array m e))) (one_of selectors e u s h k)
level_sels (Term-F.Map m e) u s h k = subst (λ (xs : Sels). Has xs s) (sym (fold-roll-Term Sels Sels Sels Sels sel_step field_sels method_sels parameter_sels (Term-F.Map m e))) (two_of selectors m e u s h k)
level_sels (Term-F.Chan d e) u s h k = subst (λ (xs : Sels). Has xs s) (sym (fold-roll-Term Sels Sels Sels Sels sel_step field_sels method_sels parameter_sels (Term-F.Chan d e))) (one_of selectors e u s h k)
level_sels (Term-F.Func g) u s h k = subst (λ (xs : Sels). Has xs s) (sym (selectors_of_function g ∙ function_sels g)) (in_gather selectors ((out-Signature g).params ++ (out-Signature g).results) u s h k)
level_sels (Term-F.Struct fs) u s h k =
    let f = of_map field_type fs u h in
    subst (λ (xs : Sels). Has xs s) (sym (struct_sels fs)) (in_gather of_field fs f.0 s f.1 (inr (subst (λ t. Has (selectors t) s) (sym f.2) k)))
level_sels (Term-F.Interface ms) u s h k =
    let m = of_map method_type ms u h in
    subst (λ (xs : Sels). Has xs s) (sym (interface_sels ms)) (in_gather of_method ms m.0 s m.1 (inr (subst (λ t. Has (selectors t) s) (sym m.2) k)))

pub part_selectors : (t u : Term) (s : Sel) → Has (parts (out-Term t)) u → Has (selectors u) s → Has (selectors t) s
part_selectors t u s h k = subst (λ (x : Term). Has (selectors x) s) (roll-out-Term t) (level_sels (out-Term t) u s h k)

field_label : (l : Layer) (f : Field) → Has (fields_of l) f → Has (selectors (roll-Term l)) (field_sel f)
field_label (Term-F.Struct fs) f h = subst (λ (xs : Sels). Has xs (field_sel f)) (sym (struct_sels fs)) (in_gather of_field fs f (field_sel f) h (inl refl))
field_label l f h = absurd h

method_label : (l : Layer) (m : Method) → Has (methods_of l) m → Has (selectors (roll-Term l)) (method_sel m)
method_label (Term-F.Interface ms) m h = subst (λ (xs : Sels). Has xs (method_sel m)) (sym (interface_sels ms)) (in_gather of_method ms m (method_sel m) h (inl refl))
method_label l m h = absurd h

pub own_field : (t : Term) (f : Field) → Has (fields_of (out-Term t)) f → Has (selectors t) (field_sel f)
own_field t f h = subst (λ (x : Term). Has (selectors x) (field_sel f)) (roll-out-Term t) (field_label (out-Term t) f h)

pub own_method : (t : Term) (m : Method) → Has (methods_of (out-Term t)) m → Has (selectors t) (method_sel m)
own_method t m h = subst (λ (x : Term). Has (selectors x) (method_sel m)) (roll-out-Term t) (method_label (out-Term t) m h)

-- ---- names alone, and pointers

pub named_names : (t : Term) (n : TypeName) → out-Term t ≡ Term-F.Named n → names t ≡ n ∷ []
named_names t n e = ap names (sym (roll-out-Term t) ∙ ap roll-Term e) ∙ fold-roll-Term Names Names Names Names name_step field_names method_names parameter_names (Term-F.Named n)

pub named_selectors : (t : Term) (n : TypeName) → out-Term t ≡ Term-F.Named n → selectors t ≡ []
named_selectors t n e = ap selectors (sym (roll-out-Term t) ∙ ap roll-Term e) ∙ fold-roll-Term Sels Sels Sels Sels sel_step field_sels method_sels parameter_sels (Term-F.Named n)

pub pointer_names : (t : Term) → names (pointer_to t) ≡ names t
pointer_names t = fold-roll-Term Names Names Names Names name_step field_names method_names parameter_names (Term-F.Pointer t)

pub pointer_selectors : (t : Term) → selectors (pointer_to t) ≡ selectors t
pointer_selectors t = fold-roll-Term Sels Sels Sels Sels sel_step field_sels method_sels parameter_sels (Term-F.Pointer t)

-- ---- the predeclared `error`

pub error_signature : (out-Method error_method).signature ≡ roll-Signature (record { params = []; variadic = false; results = roll-Term (Term-F.Plain basic.Str) ∷ [] })
error_signature = ap (λ m. m.signature) (out-roll-Method (record { sel = record { name = codes "Error"; «package» = [] }; signature = roll-Signature (record { params = []; variadic = false; results = roll-Term (Term-F.Plain basic.Str) ∷ [] }) }))

pub error_sel : (method_sel error_method).«package» ≡ []
error_sel = ap (λ m. (m.sel).«package») (out-roll-Method (record { sel = record { name = codes "Error"; «package» = [] }; signature = roll-Signature (record { params = []; variadic = false; results = roll-Term (Term-F.Plain basic.Str) ∷ [] }) }))

no_sels : (g : Signature) → g ≡ roll-Signature (record { params = []; variadic = false; results = roll-Term (Term-F.Plain basic.Str) ∷ [] }) → (s : Sel) → Has (selectors (function_type g)) s → ⊥
no_sels g e s h =
    let k : Has (gather selectors ((out-Signature g).params ++ (out-Signature g).results)) s = subst (λ (xs : Sels). Has xs s) (selectors_of_function g ∙ function_sels g) h in
    let j = subst (λ x. Has (gather selectors (x.params ++ x.results)) s) (ap out-Signature e ∙ out-roll-Signature (record { params = []; variadic = false; results = roll-Term (Term-F.Plain basic.Str) ∷ [] })) k in
    plain (has-split (selectors (roll-Term (Term-F.Plain basic.Str))) [] s j)
  where
    plain : Has (selectors (roll-Term (Term-F.Plain basic.Str))) s ⊎ Has [] s → ⊥
    plain (inl i) = subst (λ (xs : Sels). Has xs s) (fold-roll-Term Sels Sels Sels Sels sel_step field_sels method_sels parameter_sels (Term-F.Plain basic.Str)) i
    plain (inr i) = i

-- its one selector is exported
pub error_selectors : (s : Sel) → Has (selectors error_type.underlying) s → s.«package» ≡ []
error_selectors s h = by (subst (λ (xs : Sels). Has xs s) (interface_sels (error_method ∷ [])) h)
  where
    of_one : Has (selectors (method_type error_method) ++ []) s → s.«package» ≡ []
    of_one k = absurd (either (has-split (selectors (method_type error_method)) [] s k) (λ i. no_sels (out-Method error_method).signature error_signature s i) (λ i. i))

    by : Has (method_sel error_method ∷ (selectors (method_type error_method) ++ [])) s → s.«package» ≡ []
    by (inl e) = sym (ap (λ (x : Sel). x.«package») e) ∙ error_sel
    by (inr k) = of_one k

no_names : (g : Signature) → g ≡ roll-Signature (record { params = []; variadic = false; results = roll-Term (Term-F.Plain basic.Str) ∷ [] }) → (n : TypeName) → Has (names (function_type g)) n → ⊥
no_names g e n h =
    let k : Has (gather names ((out-Signature g).params ++ (out-Signature g).results)) n = subst (λ (xs : Names). Has xs n) (names_of_function g ∙ function_names g) h in
    let j = subst (λ x. Has (gather names (x.params ++ x.results)) n) (ap out-Signature e ∙ out-roll-Signature (record { params = []; variadic = false; results = roll-Term (Term-F.Plain basic.Str) ∷ [] })) k in
    plain (has-split (names (roll-Term (Term-F.Plain basic.Str))) [] n j)
  where
    plain : Has (names (roll-Term (Term-F.Plain basic.Str))) n ⊎ Has [] n → ⊥
    plain (inl i) = subst (λ (xs : Names). Has xs n) (fold-roll-Term Names Names Names Names name_step field_names method_names parameter_names (Term-F.Plain basic.Str)) i
    plain (inr i) = i

-- and no type stands in it
pub error_names : (n : TypeName) → Has (names error_type.underlying) n → ⊥
error_names n h =
    let e = fold-roll-Term Names Names Names Names name_step field_names method_names parameter_names (Term-F.Interface (error_method ∷ [])) ∙ gathered (fold-Method Names Names Names Names name_step field_names method_names parameter_names) (λ x. names (method_type x)) (error_method ∷ []) method_named in
    let k : Has (names (method_type error_method) ++ []) n = subst (λ (xs : Names). Has xs n) e h in
    either (has-split (names (method_type error_method)) [] n k) (λ i. no_names (out-Method error_method).signature error_signature n i) (λ i. i)
