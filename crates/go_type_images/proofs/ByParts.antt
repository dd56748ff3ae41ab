-- Induction on types by the parts under their outermost constructors.
use Rattle.std.proofs.Common.{◌≡◌, ◌⊎◌, inl, inr, List, [], ◌∷◌, map, subst}
use Rattle.go_base.specs.Lists.{Has}
use Rattle.go_base.proofs.Members.{has_split}
use Rattle.go_model.specs.declared.types.term.Term.{Term, Term-F, out-Term, out-roll-Term}
use Rattle.go_model.specs.declared.types.term.Field.{Field}
use Rattle.go_model.specs.declared.types.term.Method.{Method, out-Method}
use Rattle.go_model.specs.declared.types.term.Signature.{Signature, out-Signature}
use Rattle.go_model.specs.types.Terms.{Layer}
use Rattle.go_type_images.specs.Parts.{field_type, method_type, parts}
use Rattle.go_type_images.proofs.Trees.{Tree, tree_plain, tree_named, tree_pointer, tree_slice, tree_array, tree_map, tree_chan, tree_func, tree_struct, tree_interface, SignatureTree, signature_tree, Trees, trees_none, trees_more, FieldTrees, fields_none, fields_more, MethodTrees, methods_none, methods_more, grown}

either : {A B C : Type 0} → A ⊎ B → (A → C) → (B → C) → C
either (inl a) f g = f a
either (inr b) f g = g b

module _ (P : Term → Type 0) (step : (t : Term) → ((u : Term) → Has (parts (out-Term t)) u → P u) → P t) where
  -- the parts of a level are those of the type that has it
  abbrev Below : Layer → Type 0
  Below l = (u : Term) → Has (parts l) u → P u

  of_level : (t : Term) (l : Layer) → out-Term t ≡ l → Below l → P t
  of_level t l e h = step t (λ u k. h u (subst (λ (x : Layer). Has (parts x) u) e k))

  one : (e : Term) → P e → (u : Term) → Has (e ∷ []) u → P u
  one e h u (inl q) = subst P q h
  one e h u (inr k) = absurd k

  two : (k e : Term) → P k → P e → (u : Term) → Has (k ∷ e ∷ []) u → P u
  two k e h i u (inl q) = subst P q h
  two k e h i u (inr j) = one e i u j

  none : (u : Term) → Has [] u → P u
  none u k = absurd k

  mutual
    on_tree : {t : Term} → Tree t → P t
    on_tree {t = t} (tree_plain {b = b} e) = of_level t (Term-F.Plain b) e none
    on_tree {t = t} (tree_named {n = n} e) = of_level t (Term-F.Named n) e none
    on_tree {t = t} (tree_pointer {e = u} e h) = of_level t (Term-F.Pointer u) e (one u (on_tree h))
    on_tree {t = t} (tree_slice {e = u} e h) = of_level t (Term-F.Slice u) e (one u (on_tree h))
    on_tree {t = t} (tree_array {e = u} {n = n} e h) = of_level t (Term-F.Array n u) e (one u (on_tree h))
    on_tree {t = t} (tree_map {k = k} {e = u} e h i) = of_level t (Term-F.Map k u) e (two k u (on_tree h) (on_tree i))
    on_tree {t = t} (tree_chan {e = u} {d = d} e h) = of_level t (Term-F.Chan d u) e (one u (on_tree h))
    on_tree {t = t} (tree_func {g = g} e h) = of_level t (Term-F.Func g) e (on_signature h)
    on_tree {t = t} (tree_struct {fs = fs} e h) = of_level t (Term-F.Struct fs) e (on_fields h)
    on_tree {t = t} (tree_interface {ms = ms} e h) = of_level t (Term-F.Interface ms) e (on_methods h)

    on_signature : {g : Signature} → SignatureTree g → Below (Term-F.Func g)
    on_signature {g = g} (signature_tree a b) u k = either (has_split (out-Signature g).params (out-Signature g).results u k) (on_list a u) (on_list b u)

    on_list : {ts : List Term} → Trees ts → (u : Term) → Has ts u → P u
    on_list trees_none u k = absurd k
    on_list (trees_more h hs) u (inl q) = subst P q (on_tree h)
    on_list (trees_more h hs) u (inr k) = on_list hs u k

    on_fields : {fs : List Field} → FieldTrees fs → (u : Term) → Has (map field_type fs) u → P u
    on_fields fields_none u k = absurd k
    on_fields (fields_more h hs) u (inl q) = subst P q (on_tree h)
    on_fields (fields_more h hs) u (inr k) = on_fields hs u k

    on_methods : {ms : List Method} → MethodTrees ms → (u : Term) → Has (map method_type ms) u → P u
    on_methods methods_none u k = absurd k
    on_methods (methods_more {m = m} h hs) u (inl q) = subst P q (of_level (method_type m) (Term-F.Func (out-Method m).signature) (out-roll-Term _) (on_signature h))
    on_methods (methods_more h hs) u (inr k) = on_methods hs u k

  -- what holds of a type where it holds of its parts holds of all
  pub by_parts : (t : Term) → P t
  by_parts t = on_tree (grown t)
