-- What stands in a type of a region is of the region, and what is underneath it too.
use Rattle.std.proofs.Common.{◌≡◌, Bool, true, List, [], ◌∷◌, ◌++◌, Option, Some, None, refl, sym, ap, ◌∙◌, subst, inl, inr}
use Rattle.std.specs.Prelude.{map}
use Rattle.go_syntax.specs.go_base.Gathered.{gather}
use Rattle.go_syntax.specs.go_base.Lists.{Each, Has, Passes}
use Rattle.go_model.specs.declared.types.names.TypeName.{TypeName}
use Rattle.go_model.specs.declared.types.package.Defined.{Defined}
use Rattle.go_model.specs.declared.types.term.Field.{Field, out-Field, roll-out-Field, fold-Field, fold-roll-Field}
use Rattle.go_model.specs.declared.types.term.Method.{Method, out-Method, roll-out-Method, fold-Method, fold-roll-Method}
use Rattle.go_model.specs.declared.types.term.Signature.{Signature, out-Signature, roll-out-Signature, fold-roll-Signature}
use Rattle.go_model.specs.declared.types.term.Term.{Term, Term-F, out-Term, roll-Term, roll-out-Term, fold-roll-Term}
use Rattle.go_model.specs.types.TypeNames.{Names, all_of, field_names, method_names, name_step, names, parameter_names, signature_names}
use Rattle.go_model.specs.types.Terms.{Layer}
use Rattle.go_model.specs.types.Underlying.{entry, under, under_entry, under_layer}
use Rattle.go_rules.specs.Environments.{Env}
use Rattle.go_rules.specs.Regions.{Region, IsClosed, SignatureIn, TermIn}

-- ---- lists

pub passes_left : {A : Type 0} (p : A → Bool) (xs ys : List A) → Passes p (xs ++ ys) → Passes p xs
passes_left p [] ys h = tt
passes_left p (x ∷ xs) ys h = (h.0, passes_left p xs ys h.1)

pub passes_right : {A : Type 0} (p : A → Bool) (xs ys : List A) → Passes p (xs ++ ys) → Passes p ys
passes_right p [] ys h = h
passes_right p (x ∷ xs) ys h = passes_right p xs ys h.1

pub passes_both : {A : Type 0} (p : A → Bool) (xs ys : List A) → Passes p xs → Passes p ys → Passes p (xs ++ ys)
passes_both p [] ys h k = k
passes_both p (x ∷ xs) ys h k = (h.0, passes_both p xs ys h.1 k)

pub passes_each : {A B : Type 0} (p : B → Bool) (f : A → List B) (xs : List A) → Passes p (gather f xs) → Each (λ x. Passes p (f x)) xs
passes_each p f [] h = tt
passes_each p f (x ∷ xs) h = (passes_left p (f x) (gather f xs) h, passes_each p f xs (passes_right p (f x) (gather f xs) h))

pub each_passes : {A B : Type 0} (p : B → Bool) (f : A → List B) (xs : List A) → Each (λ x. Passes p (f x)) xs → Passes p (gather f xs)
each_passes p f [] h = tt
each_passes p f (x ∷ xs) h = passes_both p (f x) (gather f xs) h.0 (each_passes p f xs h.1)

pub each_has : {A : Type 0} (P : A → Type 0) (xs : List A) (x : A) → Each P xs → Has xs x → P x
each_has P [] x h k = absurd k
each_has P (y ∷ xs) x h (inl e) = subst P e h.0
each_has P (y ∷ xs) x h (inr k) = each_has P xs x h.1 k

-- ---- a level at a time

gathered : {A : Type 0} (f g : A → Names) (xs : List A) → ((x : A) → f x ≡ g x) → all_of (map f xs) ≡ gather g xs
gathered f g [] h = refl
gathered f g (x ∷ xs) h = let p = h x in let q = gathered f g xs h in λ i. p i ++ q i

field_is : (f : Field) → fold-Field Names Names Names Names name_step field_names method_names parameter_names f ≡ names (out-Field f).term
field_is f = ap (fold-Field Names Names Names Names name_step field_names method_names parameter_names) (sym (roll-out-Field f)) ∙ fold-roll-Field Names Names Names Names name_step field_names method_names parameter_names (out-Field f)

method_is : (m : Method) → fold-Method Names Names Names Names name_step field_names method_names parameter_names m ≡ signature_names (out-Method m).signature
method_is m = ap (fold-Method Names Names Names Names name_step field_names method_names parameter_names) (sym (roll-out-Method m)) ∙ fold-roll-Method Names Names Names Names name_step field_names method_names parameter_names (out-Method m)

abbrev pub names_of_fields : List Field → Names
names_of_fields fs = gather (λ f. names (out-Field f).term) fs

abbrev pub names_of_methods : List Method → Names
names_of_methods ms = gather (λ m. signature_names (out-Method m).signature) ms

-- the names in a level
abbrev pub names_of : Layer → Names
names_of (Term-F.Plain b) = []
names_of (Term-F.Named n) = n ∷ []
names_of (Term-F.Pointer e) = names e
names_of (Term-F.Slice e) = names e
names_of (Term-F.Array n e) = names e
names_of (Term-F.Map k e) = names k ++ names e
names_of (Term-F.Chan d e) = names e
names_of (Term-F.Func g) = signature_names g
names_of (Term-F.Struct fs) = names_of_fields fs
names_of (Term-F.Interface ms) = names_of_methods ms

names_rolled : (l : Layer) → names (roll-Term l) ≡ names_of l
names_rolled (Term-F.Struct fs) = fold-roll-Term Names Names Names Names name_step field_names method_names parameter_names (Term-F.Struct fs) ∙ gathered (fold-Field Names Names Names Names name_step field_names method_names parameter_names) (λ f. names (out-Field f).term) fs field_is
names_rolled (Term-F.Interface ms) = fold-roll-Term Names Names Names Names name_step field_names method_names parameter_names (Term-F.Interface ms) ∙ gathered (fold-Method Names Names Names Names name_step field_names method_names parameter_names) (λ m. signature_names (out-Method m).signature) ms method_is
names_rolled l = fold-roll-Term Names Names Names Names name_step field_names method_names parameter_names l

names_out : (t : Term) → names t ≡ names_of (out-Term t)
names_out t = ap names (sym (roll-out-Term t)) ∙ names_rolled (out-Term t)

-- the names in a signature
names_in_signature : (g : Signature) → signature_names g ≡ gather names (out-Signature g).params ++ gather names (out-Signature g).results
names_in_signature g =
    let p = gathered names names (out-Signature g).params (λ t. refl) in let q = gathered names names (out-Signature g).results (λ t. refl) in
    ap signature_names (sym (roll-out-Signature g)) ∙ fold-roll-Signature Names Names Names Names name_step field_names method_names parameter_names (out-Signature g) ∙ (λ i. p i ++ q i)

-- a level whose names are of the region
abbrev pub LayerIn : Region → Layer → Type 0
LayerIn R l = Passes R.types (names_of l)

pub open_in : (R : Region) (t : Term) → TermIn R t → LayerIn R (out-Term t)
open_in R t h = subst (Passes R.types) (names_out t) h

pub close_in : (R : Region) (l : Layer) → LayerIn R l → TermIn R (roll-Term l)
close_in R l h = subst (Passes R.types) (sym (names_rolled l)) h

pub open_signature : (R : Region) (g : Signature) → SignatureIn R g → Each (TermIn R) (out-Signature g).params × Each (TermIn R) (out-Signature g).results
open_signature R g h =
    let k = subst (Passes R.types) (names_in_signature g) h in
    (passes_each R.types names (out-Signature g).params (passes_left R.types (gather names (out-Signature g).params) (gather names (out-Signature g).results) k), passes_each R.types names (out-Signature g).results (passes_right R.types (gather names (out-Signature g).params) (gather names (out-Signature g).results) k))

pub close_signature : (R : Region) (g : Signature) → Each (TermIn R) (out-Signature g).params → Each (TermIn R) (out-Signature g).results → SignatureIn R g
close_signature R g h k = subst (Passes R.types) (sym (names_in_signature g)) (passes_both R.types (gather names (out-Signature g).params) (gather names (out-Signature g).results) (each_passes R.types names (out-Signature g).params h) (each_passes R.types names (out-Signature g).results k))

pub fields_in : (R : Region) (fs : List Field) → LayerIn R (Term-F.Struct fs) → Each (λ f. TermIn R (out-Field f).term) fs
fields_in R fs h = passes_each R.types (λ f. names (out-Field f).term) fs h

pub methods_in : (R : Region) (ms : List Method) → LayerIn R (Term-F.Interface ms) → Each (λ m. SignatureIn R (out-Method m).signature) ms
methods_in R ms h = passes_each R.types (λ m. signature_names (out-Method m).signature) ms h

pub field_in : (R : Region) (fs : List Field) (f : Field) → LayerIn R (Term-F.Struct fs) → Has fs f → TermIn R (out-Field f).term
field_in R fs f h k = each_has (λ f. TermIn R (out-Field f).term) fs f (fields_in R fs h) k

pub method_in : (R : Region) (ms : List Method) (m : Method) → LayerIn R (Term-F.Interface ms) → Has ms m → SignatureIn R (out-Method m).signature
method_in R ms m h k = each_has (λ m. SignatureIn R (out-Method m).signature) ms m (methods_in R ms h) k

-- ---- what is underneath

module _ (E : Env) (R : Region) (w : IsClosed E R) where
  entry_in : (n : TypeName) (c : Option Defined) → R.types n ≡ true → entry E.table n ≡ c → LayerIn R (under_entry n c)
  entry_in n None h e = (h, tt)
  entry_in n (Some d) h e = open_in R d.underlying (w.underlying n d h e)

  under_layer_in : (l : Layer) → LayerIn R l → LayerIn R (under_layer E.table l)
  under_layer_in (Term-F.Named n) h = entry_in n (entry E.table n) h.0 refl
  under_layer_in l h = h

  pub under_in : (t : Term) → TermIn R t → LayerIn R (under E.table t)
  under_in t h = under_layer_in (out-Term t) (open_in R t h)

  -- the parts of what is underneath
  pub form_in : (t : Term) (l : Layer) → TermIn R t → under E.table t ≡ l → LayerIn R l
  form_in t l h e = subst (LayerIn R) e (under_in t h)
