-- In a region a type has the same underneath and a selector finds the same as in the whole environment, and what is
-- found is of the region.
use Rattle.std.proofs.Common.{◌≡◌, ℕ, zero, suc, Bool, true, false, List, [], ◌∷◌, ◌++◌, Option, Some, None, refl, sym, ap, ◌∙◌, subst, ◌⊎◌, inl, inr}
use Rattle.std.specs.Prelude.{if◌then◌else◌}
use Rattle.go_syntax.specs.go_base.Gathered.{gather}
use Rattle.go_syntax.specs.go_base.Lists.{Each, Has}
use Rattle.go_model.specs.declared.types.names.Sel.{Sel}
use Rattle.go_model.specs.declared.types.names.TypeName.{TypeName}
use Rattle.go_model.specs.declared.types.package.Defined.{Defined}
use Rattle.go_model.specs.declared.types.package.MethodOf.{MethodOf}
use Rattle.go_model.specs.declared.types.term.Field.{out-Field}
use Rattle.go_model.specs.declared.types.term.Method.{out-Method}
use Rattle.go_model.specs.declared.types.term.Signature.{Signature}
use Rattle.go_model.specs.declared.types.term.Term.{Term, Term-F, out-Term}
use Rattle.go_model.specs.types.Selectors.{Spot, Target, field, method, Ending, base_layer, base_of, declared_ending, endings, ends, field_ending, is_defined_layer, method_ending, name_of, start, start_layer, start_named, start_pointer, step, steps}
use Rattle.go_model.specs.types.Terms.{Layer, error_type, is_error, same_sel}
use Rattle.go_model.specs.types.Underlying.{declared_methods, entry, fields_of, methods_of, methods_of_entry, under, under_entry, under_layer}
use Rattle.go_rules.specs.Environments.{Begins, BeginsLayer, Entered, EnteredLayer, Env, Found, HasMethod, Told, ToldLayer, ToldTo}
use Rattle.go_rules.specs.Regions.{Region, IsClosed, SignatureIn, TermIn, cut}
use Rattle.go_rules.proofs.LocalTerms.{LayerIn, each_has, fields_in, methods_in, open_in, under_in}

-- ---- lists

pub each_made : {A : Type 0} {P : A → Type 0} (xs : List A) → ((x : A) → Has xs x → P x) → Each P xs
each_made [] f = tt
each_made (x ∷ xs) f = (f x (inl refl), each_made xs (λ y k. f y (inr k)))

has_append : {A : Type 0} (xs ys : List A) (x : A) → Has (xs ++ ys) x → Has xs x ⊎ Has ys x
has_append [] ys x h = inr h
has_append (y ∷ xs) ys x (inl e) = inl (inl e)
has_append (y ∷ xs) ys x (inr k) = elim (has_append xs ys x k) [ inl j ↦ inl (inr j) | inr j ↦ inr j ]

has_gather : {A B : Type 0} (f : A → List B) (xs : List A) (y : B) → Has (gather f xs) y → (x : A) × Has xs x × Has (f x) y
has_gather f [] y h = absurd h
has_gather f (x ∷ xs) y h = elim (has_append (f x) (gather f xs) y h) [ inl j ↦ (x, inl refl, j) | inr j ↦ (let k = has_gather f xs y j in (k.0, inr k.1, k.2)) ]

gather_same : {A B : Type 0} (f g : A → List B) (xs : List A) → ((x : A) → Has xs x → f x ≡ g x) → gather f xs ≡ gather g xs
gather_same f g [] h = refl
gather_same f g (x ∷ xs) h = let p = h x (inl refl) in let q = gather_same f g xs (λ y i. h y (inr i)) in λ i. p i ++ q i

only_if : {A : Type 0} (b : Bool) (x y : A) → Has (if b then x ∷ [] else []) y → x ≡ y
only_if true x y (inl e) = e
only_if true x y (inr k) = absurd k
only_if false x y k = absurd k

-- ---- what paths end in

abbrev pub TargetIn : Region → Target → Type 0
TargetIn R (field t) = TermIn R t
TargetIn R (method owner pointer g) = SignatureIn R g

abbrev pub EndingIn : Region → Ending → Type 0
EndingIn R e = TargetIn R e.target

base_layer_in : (R : Region) (t : Term) (l : Layer) → TermIn R t → LayerIn R l → TermIn R (base_layer t l)
base_layer_in R t (Term-F.Pointer base) h k = k
base_layer_in R t l h k = h

base_in : (R : Region) (t : Term) → TermIn R t → TermIn R (base_of t)
base_in R t h = base_layer_in R t (out-Term t) h (open_in R t h)

fields_of_in : (R : Region) (l : Layer) → LayerIn R l → Each (λ f. TermIn R (out-Field f).term) (fields_of l)
fields_of_in R (Term-F.Struct fs) h = fields_in R fs h
fields_of_in R l h = tt

methods_of_in : (R : Region) (l : Layer) → LayerIn R l → Each (λ m. SignatureIn R (out-Method m).signature) (methods_of l)
methods_of_in R (Term-F.Interface ms) h = methods_in R ms h
methods_of_in R l h = tt

module _ (E : Env) (R : Region) (w : IsClosed E R) where
  abbrev C : Env
  C = cut R E

  entry_same : (n : TypeName) → R.types n ≡ true → entry C.table n ≡ entry E.table n
  entry_same n h = λ i. if is_error n then Some error_type else (if h i then E.table n else None)

  under_layer_same : (l : Layer) → LayerIn R l → under_layer C.table l ≡ under_layer E.table l
  under_layer_same (Term-F.Named n) h = ap (under_entry n) (entry_same n h.0)
  under_layer_same l h = refl

  pub under_same : (t : Term) → TermIn R t → under C.table t ≡ under E.table t
  under_same t h = under_layer_same (out-Term t) (open_in R t h)

  pub form_same : (t : Term) (l : Layer) → TermIn R t → under E.table t ≡ l → under C.table t ≡ l
  form_same t l h e = under_same t h ∙ e

  entered_layer : (l : Layer) → LayerIn R l → EnteredLayer E l → EnteredLayer C l
  entered_layer (Term-F.Named n) h (d, e) = (d, entry_same n h.0 ∙ e)
  entered_layer l h k = tt

  pub entered_same : (t : Term) → TermIn R t → Entered E t → Entered C t
  entered_same t h k = entered_layer (out-Term t) (open_in R t h) k

  told_layer : (s : Sel) (l : Layer) → LayerIn R l → ToldLayer E s l → ToldLayer C s l
  told_layer s (Term-F.Named n) h (d, e, f) = (d, entry_same n h.0 ∙ e, f)
  told_layer s l h k = tt

  told_same : (s : Sel) (t : Term) → TermIn R t → Told E s t → Told C s t
  told_same s t h k = told_layer s (out-Term t) (open_in R t h) k

  declared_layer : (l : Layer) → LayerIn R l → declared_methods C.table l ≡ declared_methods E.table l
  declared_layer (Term-F.Named n) h = ap methods_of_entry (entry_same n h.0)
  declared_layer l h = refl

  steps_same : (at : Spot) → TermIn R at.term → steps C.table at ≡ steps E.table at
  steps_same at h = ap (λ l. gather (step at.through) (fields_of l)) (under_same at.term h)

  endings_same : (s : Sel) (at : Spot) → TermIn R at.term → endings C.table s at ≡ endings E.table s at
  endings_same s at h =
      let u = under_same at.term h in let d = declared_layer (out-Term at.term) (open_in R at.term h) in
      λ i. gather (field_ending s at.through) (fields_of (u i)) ++ gather (declared_ending (name_of (out-Term at.term)) s at.through) (d i) ++ gather (method_ending s at.through) (methods_of (u i))

  steps_in : (at x : Spot) → TermIn R at.term → Has (steps E.table at) x → TermIn R x.term
  steps_in at x h k =
      let g = has_gather (step at.through) (fields_of (under E.table at.term)) x k in
      let f = each_has (λ f. TermIn R (out-Field f).term) (fields_of (under E.table at.term)) g.0 (fields_of_in R (under E.table at.term) (under_in E R w at.term h)) g.1 in
      subst (λ (y : Spot). TermIn R y.term) (only_if (out-Field g.0).embedded _ x g.2) (base_in R (out-Field g.0).term f)

  ends_same : (s : Sel) (k : ℕ) (at : Spot) → TermIn R at.term → ends C.table s k at ≡ ends E.table s k at
  unfolding ends
  ends_same s zero at h = endings_same s at h
  ends_same s (suc k) at h = ap (gather (ends C.table s k)) (steps_same at h) ∙ gather_same (ends C.table s k) (ends E.table s k) (steps E.table at) (λ x i. ends_same s k x (steps_in at x h i))

  -- ---- what is found is of the region

  entry_methods : (n : TypeName) (c : Option Defined) → R.types n ≡ true → entry E.table n ≡ c → Each (λ m. SignatureIn R m.signature) (methods_of_entry c)
  entry_methods n None h e = tt
  entry_methods n (Some d) h e = each_made d.methods (λ m k. w.methods n d m h e k)

  declared_in : (l : Layer) → LayerIn R l → Each (λ m. SignatureIn R m.signature) (declared_methods E.table l)
  declared_in (Term-F.Named n) h = entry_methods n (entry E.table n) h.0 refl
  declared_in l h = tt

  field_ending_in : (s : Sel) (at : Spot) (e : Ending) → TermIn R at.term → Has (gather (field_ending s at.through) (fields_of (under E.table at.term))) e → EndingIn R e
  field_ending_in s at e h k =
      let g = has_gather (field_ending s at.through) (fields_of (under E.table at.term)) e k in
      subst (EndingIn R) (only_if (same_sel (out-Field g.0).sel s) _ e g.2) (each_has (λ f. TermIn R (out-Field f).term) (fields_of (under E.table at.term)) g.0 (fields_of_in R (under E.table at.term) (under_in E R w at.term h)) g.1)

  declared_ending_in : (s : Sel) (at : Spot) (e : Ending) → TermIn R at.term → Has (gather (declared_ending (name_of (out-Term at.term)) s at.through) (declared_methods E.table (out-Term at.term))) e → EndingIn R e
  declared_ending_in s at e h k =
      let g = has_gather (declared_ending (name_of (out-Term at.term)) s at.through) (declared_methods E.table (out-Term at.term)) e k in
      subst (EndingIn R) (only_if (same_sel g.0.sel s) _ e g.2) (each_has (λ (m : MethodOf). SignatureIn R m.signature) (declared_methods E.table (out-Term at.term)) g.0 (declared_in (out-Term at.term) (open_in R at.term h)) g.1)

  method_ending_in : (s : Sel) (at : Spot) (e : Ending) → TermIn R at.term → Has (gather (method_ending s at.through) (methods_of (under E.table at.term))) e → EndingIn R e
  method_ending_in s at e h k =
      let g = has_gather (method_ending s at.through) (methods_of (under E.table at.term)) e k in
      subst (EndingIn R) (only_if (same_sel (out-Method g.0).sel s) _ e g.2) (each_has (λ m. SignatureIn R (out-Method m).signature) (methods_of (under E.table at.term)) g.0 (methods_of_in R (under E.table at.term) (under_in E R w at.term h)) g.1)

  endings_in : (s : Sel) (at : Spot) (e : Ending) → TermIn R at.term → Has (endings E.table s at) e → EndingIn R e
  endings_in s at e h k =
      let fs = gather (field_ending s at.through) (fields_of (under E.table at.term)) in
      let ds = gather (declared_ending (name_of (out-Term at.term)) s at.through) (declared_methods E.table (out-Term at.term)) in
      let ms = gather (method_ending s at.through) (methods_of (under E.table at.term)) in
      elim (has_append (fs ++ ds) ms e k) [
        | inl j ↦ elim (has_append fs ds e j) [ inl i ↦ field_ending_in s at e h i | inr i ↦ declared_ending_in s at e h i ]
        | inr j ↦ method_ending_in s at e h j
      ]

  ends_in : (s : Sel) (k : ℕ) (at : Spot) (e : Ending) → TermIn R at.term → Has (ends E.table s k at) e → EndingIn R e
  unfolding ends
  ends_in s zero at e h i = endings_in s at e h i
  ends_in s (suc k) at e h i = let g = has_gather (ends E.table s k) (steps E.table at) e i in ends_in s k g.0 e (steps_in at g.0 h g.1) g.2

  -- ---- where paths begin

  start_pointer_in : (t base : Term) (l : Layer) → TermIn R t → TermIn R base → TermIn R (start_pointer t base l).term
  start_pointer_in t base (Term-F.Pointer u) h k = h
  start_pointer_in t base (Term-F.Interface ms) h k = h
  start_pointer_in t base l h k = k

  start_named_in : (t : Term) (l : Layer) → TermIn R t → LayerIn R l → TermIn R (start_named t l).term
  start_named_in t (Term-F.Pointer base) h k = k
  start_named_in t l h k = h

  start_layer_in : (t : Term) (l : Layer) → TermIn R t → LayerIn R l → TermIn R (start_layer E.table t l).term
  start_layer_in t (Term-F.Pointer base) h k = start_pointer_in t base (under E.table base) h k
  start_layer_in t (Term-F.Named n) h k = start_named_in t (under E.table t) h (under_in E R w t h)
  start_layer_in t l h k = h

  start_in : (t : Term) → TermIn R t → TermIn R (start E.table t).term
  start_in t h = start_layer_in t (out-Term t) h (open_in R t h)

  start_layer_same : (t : Term) (l : Layer) → TermIn R t → LayerIn R l → start_layer C.table t l ≡ start_layer E.table t l
  start_layer_same t (Term-F.Pointer base) h k = ap (start_pointer t base) (under_same base k)
  start_layer_same t (Term-F.Named n) h k = ap (start_named t) (under_same t h)
  start_layer_same t l h k = refl

  start_same : (t : Term) → TermIn R t → start C.table t ≡ start E.table t
  start_same t h = start_layer_same t (out-Term t) h (open_in R t h)

  begins_layer : (t : Term) (l : Layer) → TermIn R t → LayerIn R l → BeginsLayer E t l → BeginsLayer C t l
  begins_layer t (Term-F.Pointer base) h k b = entered_same base k b
  begins_layer t l h k b = entered_same t h b

  begins_same : (t : Term) → TermIn R t → Begins E t → Begins C t
  begins_same t h b = begins_layer t (out-Term t) h (open_in R t h) b

  defined_layer : (t : Term) (l : Layer) → TermIn R t → is_defined_layer l (under C.table t) ≡ is_defined_layer l (under E.table t)
  defined_layer t l h = ap (is_defined_layer l) (under_same t h)

  told_to_same : (s : Sel) (k : ℕ) (at : Spot) → TermIn R at.term → ToldTo E s k at → ToldTo C s k at
  told_to_same s zero at h t = told_same s at.term h t
  told_to_same s (suc k) at h t = (
    told_same s at.term h t.0,
    λ x i. let j = subst (λ xs. Has xs x) (steps_same at h) i in told_to_same s k x (steps_in at x h j) (t.1 x j),
  )

  pub found_local : {s : Sel} {t : Term} {e : Ending} → TermIn R t → Found E s t e → Found C s t e
  found_local {s = s} {t = t} {e = e} h f =
      let p = start_same t h in
      let same : (k : ℕ) → ends C.table s k (start C.table t) ≡ ends E.table s k (start E.table t) = λ k. ap (ends C.table s k) p ∙ ends_same s k (start E.table t) (start_in t h) in
      record {
        depth = f.depth;
        only = record { none = λ k l. same k ∙ f.only.none k l; only = same f.depth ∙ f.only.only };
        begins = begins_same t h f.begins;
        told = subst (ToldTo C s f.depth) (sym p) (told_to_same s f.depth (start E.table t) (start_in t h) f.told);
      }

  pub found_in : {s : Sel} {t : Term} {e : Ending} → TermIn R t → Found E s t e → EndingIn R e
  found_in {s = s} {t = t} {e = e} h f = ends_in s f.depth (start E.table t) e (start_in t h) (subst (λ xs. Has xs e) (sym f.only.only) (inl refl))

  pub method_local : {a : Bool} {t : Term} {s : Sel} {g : Signature} → TermIn R t → HasMethod E a t s g → HasMethod C a t s g
  method_local {t = t} h m = record { through = m.through; owner = m.owner; pointer = m.pointer; found = found_local h m.found; counts = defined_layer t (out-Term t) h ∙ m.counts; reaches = m.reaches }

  pub method_found_in : {a : Bool} {t : Term} {s : Sel} {g : Signature} → TermIn R t → HasMethod E a t s g → SignatureIn R g
  method_found_in h m = found_in h m.found
