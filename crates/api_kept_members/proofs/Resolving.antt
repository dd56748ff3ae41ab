-- The names in the types of owned pairs have their entries, each type's in its world.
use Rattle.std.proofs.Common.{◌≡◌, ◌≢◌, ◌⊎◌, inl, inr, ℕ, zero, suc, Bool, true, false, List, [], ◌∷◌, ◌++◌, map, refl, sym, ap, ◌∙◌, subst, append-nil, Option, Some, None}
use Rattle.std.specs.Prelude.{if◌then◌else◌, is_some}
use Rattle.go_base.specs.Gathered.{gather}
use Rattle.go_base.specs.Lists.{Has}
use Rattle.go_base.proofs.Members.{gather_of, has_split}
use Rattle.go_selectors.proofs.Lists.{gather-append, has-left, has-right}
use Rattle.go_model.specs.declared.types.names.Sel.{Sel}
use Rattle.go_model.specs.declared.types.names.TypeName.{TypeName}
use Rattle.go_model.specs.declared.types.package.Defined.{Defined}
use Rattle.go_model.specs.declared.types.package.MethodOf.{MethodOf}
use Rattle.go_model.specs.declared.types.term.Field.{Field, out-Field, fold-Field, fold_out-Field}
use Rattle.go_model.specs.declared.types.term.Method.{Method, out-Method, fold-Method, fold_out-Method}
use Rattle.go_model.specs.declared.types.term.Signature.{Signature, out-Signature, fold_out-Signature}
use Rattle.go_model.specs.declared.types.term.Term.{Term, Term-F, out-Term, roll-Term, fold-roll-Term, out-roll-Term, roll-out-Term}
use Rattle.go_model.specs.types.Selectors.{Ending, Spot, Target, base_layer, base_of, declared_ending, ends, field, field_ending, method, method_ending, name_of, step, steps}
use Rattle.go_model.specs.types.Tables.{Table}
use Rattle.go_model.specs.types.Terms.{Layer, same_sel}
use Rattle.go_model.specs.types.TypeNames.{Names, all_of, field_names, method_names, name_step, names, parameter_names, signature_names}
use Rattle.go_model.specs.types.Underlying.{declared_methods, entry, fields_of, methods_of, methods_of_entry, under, under_entry, under_layer}
use Rattle.go_model.specs.worlds.Worlds.{Resolves, SignatureResolves}
use Rattle.go_type_images.specs.Parts.{field_type, function_type, method_type, parts}
use Rattle.api_kept_members.specs.inner.Entries.{had}
use Rattle.api_kept_members.proofs.Alternatives.{either, only_if}
use Rattle.go_type_images.specs.Leaves.{Leaves, leaves}
use Rattle.go_type_images.proofs.Leaves.{leaf, part_leaves}
use Rattle.go_type_images.proofs.ByParts.{by_parts}

-- ---- the names in a type, by its parts

abbrev leaf_names : Layer → Names
leaf_names (Term-F.Named n) = n ∷ []
leaf_names l = []

gathered : {A : Type 0} (f g : A → Names) (xs : List A) → ((x : A) → f x ≡ g x) → all_of (map f xs) ≡ gather g xs
gathered f g [] h = refl
gathered f g (x ∷ xs) h = let p = h x in let q = gathered f g xs h in λ i. p i ++ q i

gather_map : {A B : Type 0} (f : B → Names) (g : A → B) (xs : List A) → gather f (map g xs) ≡ gather (λ x. f (g x)) xs
gather_map f g [] = refl
gather_map f g (x ∷ xs) = ap (λ ys. f (g x) ++ ys) (gather_map f g xs)

rolled : (l : Layer) → Names
rolled l = names (roll-Term l)

function_names : (g : Signature) → signature_names g ≡ gather names ((out-Signature g).params ++ (out-Signature g).results)
function_names g =
    fold_out-Signature Names Names Names Names name_step field_names method_names parameter_names g
    ∙ (λ i. gathered names names (out-Signature g).params (λ t. refl) i ++ gathered names names (out-Signature g).results (λ t. refl) i)
    ∙ sym (gather-append names (out-Signature g).params (out-Signature g).results)

pub names_of_function : (g : Signature) → names (function_type g) ≡ signature_names g
names_of_function g = fold-roll-Term Names Names Names Names name_step field_names method_names parameter_names (Term-F.Func g)

field_is : (f : Field) → fold-Field Names Names Names Names name_step field_names method_names parameter_names f ≡ names (field_type f)
field_is f = fold_out-Field Names Names Names Names name_step field_names method_names parameter_names f

method_is : (m : Method) → fold-Method Names Names Names Names name_step field_names method_names parameter_names m ≡ names (method_type m)
method_is m = fold_out-Method Names Names Names Names name_step field_names method_names parameter_names m ∙ sym (names_of_function (out-Method m).signature)

names_level : (l : Layer) → names (roll-Term l) ≡ leaf_names l ++ gather names (parts l)
names_level (Term-F.Plain b) = fold-roll-Term Names Names Names Names name_step field_names method_names parameter_names (Term-F.Plain b)
names_level (Term-F.Named n) = fold-roll-Term Names Names Names Names name_step field_names method_names parameter_names (Term-F.Named n)
names_level (Term-F.Pointer e) = fold-roll-Term Names Names Names Names name_step field_names method_names parameter_names (Term-F.Pointer e) ∙ sym (append-nil (names e))
names_level (Term-F.Slice e) = fold-roll-Term Names Names Names Names name_step field_names method_names parameter_names (Term-F.Slice e) ∙ sym (append-nil (names e))
names_level (Term-F.Array n e) = fold-roll-Term Names Names Names Names name_step field_names method_names parameter_names (Term-F.Array n e) ∙ sym (append-nil (names e))
names_level (Term-F.Map k e) = fold-roll-Term Names Names Names Names name_step field_names method_names parameter_names (Term-F.Map k e) ∙ ap (λ ys. names k ++ ys) (sym (append-nil (names e)))
names_level (Term-F.Chan d e) = fold-roll-Term Names Names Names Names name_step field_names method_names parameter_names (Term-F.Chan d e) ∙ sym (append-nil (names e))
names_level (Term-F.Func g) = names_of_function g ∙ function_names g
names_level (Term-F.Struct fs) = fold-roll-Term Names Names Names Names name_step field_names method_names parameter_names (Term-F.Struct fs) ∙ gathered (fold-Field Names Names Names Names name_step field_names method_names parameter_names) (λ f. names (field_type f)) fs field_is ∙ sym (gather_map names field_type fs)
names_level (Term-F.Interface ms) = fold-roll-Term Names Names Names Names name_step field_names method_names parameter_names (Term-F.Interface ms) ∙ gathered (fold-Method Names Names Names Names name_step field_names method_names parameter_names) (λ m. names (method_type m)) ms method_is ∙ sym (gather_map names method_type ms)

names_out : (t : Term) → names t ≡ leaf_names (out-Term t) ++ gather names (parts (out-Term t))
names_out t = ap names (sym (roll-out-Term t)) ∙ names_level (out-Term t)

given : {A : Type 0} (f : A → Names) (xs : List A) (x : A) (n : TypeName) → Has xs x → Has (f x) n → Has (gather f xs) n
given f [] x n h k = absurd h
given f (y ∷ xs) x n (inl e) k = has-left (f y) (gather f xs) n (subst (λ z. Has (f z) n) (sym e) k)
given f (y ∷ xs) x n (inr h) k = has-right (f y) (gather f xs) n (given f xs x n h k)

name_stands : (t : Term) (n : TypeName) → out-Term t ≡ Term-F.Named n → Has (names t) n
name_stands t n e = subst (λ (ns : Names). Has ns n) (sym (names_out t)) (has-left (leaf_names (out-Term t)) (gather names (parts (out-Term t))) n (subst (λ l. Has (leaf_names l) n) (sym e) (inl refl)))

part_stands : (t u : Term) (n : TypeName) → Has (parts (out-Term t)) u → Has (names u) n → Has (names t) n
part_stands t u n h k = subst (λ (ns : Names). Has ns n) (sym (names_out t)) (has-right (leaf_names (out-Term t)) (gather names (parts (out-Term t))) n (given names (parts (out-Term t)) u n h k))

-- ---- names with entries

some_had : (o : Option Defined) → o ≢ None → is_some o ≡ true
some_had (Some d) h = refl
some_had None h = absurd (h refl)

had_some : (o : Option Defined) → is_some o ≡ true → (d : Defined) × (o ≡ Some d)
had_some (Some d) h = (d, refl)
had_some None h = absurd (cc)

pub resolved_leaves : (T : Table) (t : Term) → Resolves T t → Leaves (had T) t
resolved_leaves T = by_parts (λ t. Resolves T t → Leaves (had T) t) (λ t h w. leaves (λ n e. some_had (entry T n) (w n (name_stands t n e))) (λ u k. h u k (λ n i. w n (part_stands t u n k i))))

pub resolved_function : (T : Table) (g : Signature) → SignatureResolves T g → Leaves (had T) (function_type g)
resolved_function T g w = resolved_leaves T (function_type g) (λ n i. w n (subst (λ (ns : Names). Has ns n) (names_of_function g) i))

-- ---- what is underneath and what is found

-- what the table has of each name that has an entry has entries for its names too
pub record EntriesResolve (T : Table) : Type 0 where
  pub beneath : (n : TypeName) (d : Defined) → entry T n ≡ Some d → Leaves (had T) d.underlying
  pub methods : (n : TypeName) (d : Defined) (m : MethodOf) → entry T n ≡ Some d → Has d.methods m → Leaves (had T) (function_type m.signature)

abbrev pub LayerResolves : Table → Layer → Type 0
LayerResolves T l = Leaves (had T) (roll-Term l)

module _ (T : Table) (H : EntriesResolve T) where
  pub out_resolves : (t : Term) → Leaves (had T) t → LayerResolves T (out-Term t)
  out_resolves t h = subst (Leaves (had T)) (sym (roll-out-Term t)) h

  pub level_parts : (l : Layer) → LayerResolves T l → (u : Term) → Has (parts l) u → Leaves (had T) u
  level_parts l h u k = part_leaves h u (subst (λ x. Has (parts x) u) (sym (out-roll-Term l)) k)

  entry_resolves : (n : TypeName) (o : Option Defined) → entry T n ≡ o → is_some o ≡ true → LayerResolves T (under_entry n o)
  entry_resolves n (Some d) e h = out_resolves d.underlying (H.beneath n d e)
  entry_resolves n None e h = absurd (cc)

  layer_resolves : (l : Layer) → LayerResolves T l → LayerResolves T (under_layer T l)
  layer_resolves (Term-F.Named n) h = entry_resolves n (entry T n) refl (leaf h n (out-roll-Term (Term-F.Named n)))
  layer_resolves l h = h

  pub under_resolves : (t : Term) → Leaves (had T) t → LayerResolves T (under T t)
  under_resolves t h = layer_resolves (out-Term t) (out_resolves t h)

  pub field_resolves : (l : Layer) (f : Field) → LayerResolves T l → Has (fields_of l) f → Leaves (had T) (field_type f)
  field_resolves (Term-F.Struct fs) f h k = level_parts (Term-F.Struct fs) h (field_type f) (in_map fs k)
    where
      in_map : (gs : List Field) → Has gs f → Has (map field_type gs) (field_type f)
      in_map [] i = absurd i
      in_map (g ∷ gs) (inl e) = inl (ap field_type e)
      in_map (g ∷ gs) (inr i) = inr (in_map gs i)
  field_resolves l f h k = absurd k

  method_resolves : (l : Layer) (m : Method) → LayerResolves T l → Has (methods_of l) m → Leaves (had T) (method_type m)
  method_resolves (Term-F.Interface ms) m h k = level_parts (Term-F.Interface ms) h (method_type m) (in_map ms k)
    where
      in_map : (ns : List Method) → Has ns m → Has (map method_type ns) (method_type m)
      in_map [] i = absurd i
      in_map (n ∷ ns) (inl e) = inl (ap method_type e)
      in_map (n ∷ ns) (inr i) = inr (in_map ns i)
  method_resolves l m h k = absurd k

  base_resolves : (t : Term) (l : Layer) → Leaves (had T) t → LayerResolves T l → Leaves (had T) (base_layer t l)
  base_resolves t (Term-F.Pointer b) h k = level_parts (Term-F.Pointer b) k b (inl refl)
  base_resolves t l h k = h

  pub base_of_resolves : (t : Term) → Leaves (had T) t → Leaves (had T) (base_of t)
  base_of_resolves t h = base_resolves t (out-Term t) h (out_resolves t h)

  abbrev pub TargetResolves : Target → Type 0
  TargetResolves (field t) = Leaves (had T) t
  TargetResolves (method o p g) = Leaves (had T) (function_type g)

  entry_methods : (n : TypeName) (o : Option Defined) (m : MethodOf) → entry T n ≡ o → Has (methods_of_entry o) m → Leaves (had T) (function_type m.signature)
  entry_methods n (Some d) m e k = H.methods n d m e k
  entry_methods n None m e k = absurd k

  declared_resolves : (l : Layer) (m : MethodOf) → Has (declared_methods T l) m → Leaves (had T) (function_type m.signature)
  declared_resolves (Term-F.Named n) m k = entry_methods n (entry T n) m refl k
  declared_resolves l m k = absurd k

  end_resolves : (s : Sel) (at : Spot) (e : Ending) → Leaves (had T) at.term → Has (ends T s 0 at) e → TargetResolves e.target
  unfolding ends
  end_resolves s at e h k =
      let fs = gather (field_ending s at.through) (fields_of (under T at.term)) in
      let ds = gather (declared_ending (name_of (out-Term at.term)) s at.through) (declared_methods T (out-Term at.term)) in
      let ms = gather (method_ending s at.through) (methods_of (under T at.term)) in
      either (has_split (fs ++ ds) ms e k)
      (λ j. either (has_split fs ds e j)
      (λ i. let g = gather_of (field_ending s at.through) (fields_of (under T at.term)) e i in subst (λ (x : Ending). TargetResolves x.target) (only_if (same_sel (out-Field g.0).sel s) _ e g.2).1 (field_resolves (under T at.term) g.0 (under_resolves at.term h) g.1))
      (λ i. let g = gather_of (declared_ending (name_of (out-Term at.term)) s at.through) (declared_methods T (out-Term at.term)) e i in subst (λ (x : Ending). TargetResolves x.target) (only_if (same_sel (g.0).sel s) _ e g.2).1 (declared_resolves (out-Term at.term) g.0 g.1)))
      (λ i. let g = gather_of (method_ending s at.through) (methods_of (under T at.term)) e i in subst (λ (x : Ending). TargetResolves x.target) (only_if (same_sel (out-Method g.0).sel s) _ e g.2).1 (method_resolves (under T at.term) g.0 (under_resolves at.term h) g.1))

  step_resolves : (at x : Spot) → Leaves (had T) at.term → Has (steps T at) x → Leaves (had T) x.term
  step_resolves at x h k =
      let g = gather_of (step at.through) (fields_of (under T at.term)) x k in
      subst (λ (y : Spot). Leaves (had T) y.term) (only_if (out-Field g.0).embedded _ x g.2).1 (base_of_resolves (out-Field g.0).term (field_resolves (under T at.term) g.0 (under_resolves at.term h) g.1))

  -- what is found from a spot has entries for its names
  pub found_resolves : (s : Sel) (k : ℕ) (at : Spot) (e : Ending) → Leaves (had T) at.term → Has (ends T s k at) e → TargetResolves e.target
  unfolding ends
  found_resolves s zero at e h i = end_resolves s at e h i
  found_resolves s (suc k) at e h i = let g = gather_of (ends T s k) (steps T at) e i in found_resolves s k g.0 e (step_resolves at g.0 h g.1) g.2

-- ---- back

module _ (T : Table) where
  had_not_none : (o : Option Defined) → is_some o ≡ true → o ≢ None
  had_not_none (Some d) h e = absurd (cc)
  had_not_none None h e = absurd (cc)

  of_gather : (ts : List Term) (n : TypeName) → Has (gather names ts) n → (u : Term) × Has ts u × Has (names u) n
  of_gather ts n k = let g = gather_of names ts n k in (g.0, g.1, g.2)

  of_leaf : (l : Layer) (n : TypeName) → Has (leaf_names l) n → l ≡ Term-F.Named n
  of_leaf (Term-F.Named m) n (inl e) = ap Term-F.Named e
  of_leaf (Term-F.Named m) n (inr k) = absurd k
  of_leaf (Term-F.Plain b) n k = absurd k
  of_leaf (Term-F.Pointer e) n k = absurd k
  of_leaf (Term-F.Slice e) n k = absurd k
  of_leaf (Term-F.Array m e) n k = absurd k
  of_leaf (Term-F.Map m e) n k = absurd k
  of_leaf (Term-F.Chan d e) n k = absurd k
  of_leaf (Term-F.Func g) n k = absurd k
  of_leaf (Term-F.Struct fs) n k = absurd k
  of_leaf (Term-F.Interface ms) n k = absurd k

  by_place : (t : Term) (n : TypeName) → Leaves (had T) t → ((u : Term) → Has (parts (out-Term t)) u → Leaves (had T) u → Resolves T u) → Has (leaf_names (out-Term t)) n ⊎ Has (gather names (parts (out-Term t))) n → entry T n ≢ None
  by_place t n h f (inl k) = had_not_none (entry T n) (leaf h n (of_leaf (out-Term t) n k))
  by_place t n h f (inr k) = let g = of_gather (parts (out-Term t)) n k in f g.0 g.1 (part_leaves h g.0 g.1) n g.2

  pub leaves_resolve : (t : Term) → Leaves (had T) t → Resolves T t
  leaves_resolve = by_parts (λ t. Leaves (had T) t → Resolves T t) (λ t f h n k. by_place t n h f (has_split (leaf_names (out-Term t)) (gather names (parts (out-Term t))) n (subst (λ (ns : Names). Has ns n) (names_out t) k)))
