-- Every type is a finite tree: the form in which other files recurse on types.
use Rattle.std.proofs.Common.{◌≡◌, ℕ, List, [], ◌∷◌, map, sym, ap, subst}
use Rattle.go_model.specs.declared.constants.value.Basic.{Basic}
use Rattle.go_model.specs.declared.types.names.TypeName.{TypeName}
use Rattle.go_model.specs.declared.types.term.Direction.{Direction}
use Rattle.go_model.specs.declared.types.term.Term.{Term, Term-F, out-Term, roll-Term, out-roll-Term, ind-Term, map-Term}
use Rattle.go_model.specs.declared.types.term.Field.{Field, Field-F, out-Field, roll-Field, out-roll-Field}
use Rattle.go_model.specs.declared.types.term.Method.{Method, Method-F, out-Method, roll-Method, out-roll-Method}
use Rattle.go_model.specs.declared.types.term.Signature.{Signature, Signature-F, out-Signature, roll-Signature, out-roll-Signature}
use Rattle.go_model.specs.types.Terms.{Layer}

mutual
  pub data Tree : Term → Type 0 where
    tree_plain : {t : Term} {b : Basic} → out-Term t ≡ Term-F.Plain b → Tree t
    tree_named : {t : Term} {n : TypeName} → out-Term t ≡ Term-F.Named n → Tree t
    tree_pointer : {t e : Term} → out-Term t ≡ Term-F.Pointer e → Tree e → Tree t
    tree_slice : {t e : Term} → out-Term t ≡ Term-F.Slice e → Tree e → Tree t
    tree_array : {t e : Term} {n : ℕ} → out-Term t ≡ Term-F.Array n e → Tree e → Tree t
    tree_map : {t k e : Term} → out-Term t ≡ Term-F.Map k e → Tree k → Tree e → Tree t
    tree_chan : {t e : Term} {d : Direction} → out-Term t ≡ Term-F.Chan d e → Tree e → Tree t
    tree_func : {t : Term} {g : Signature} → out-Term t ≡ Term-F.Func g → SignatureTree g → Tree t
    tree_struct : {t : Term} {fs : List Field} → out-Term t ≡ Term-F.Struct fs → FieldTrees fs → Tree t
    tree_interface : {t : Term} {ms : List Method} → out-Term t ≡ Term-F.Interface ms → MethodTrees ms → Tree t

  pub data SignatureTree : Signature → Type 0 where
    signature_tree : {g : Signature} → Trees (out-Signature g).params → Trees (out-Signature g).results → SignatureTree g

  pub data Trees : List Term → Type 0 where
    trees_none : Trees []
    trees_more : {t : Term} {ts : List Term} → Tree t → Trees ts → Trees (t ∷ ts)

  pub data FieldTrees : List Field → Type 0 where
    fields_none : FieldTrees []
    fields_more : {f : Field} {fs : List Field} → Tree (out-Field f).term → FieldTrees fs → FieldTrees (f ∷ fs)

  pub data MethodTrees : List Method → Type 0 where
    methods_none : MethodTrees []
    methods_more : {m : Method} {ms : List Method} → SignatureTree (out-Method m).signature → MethodTrees ms → MethodTrees (m ∷ ms)

abbrev OfField : Field → Type 0
OfField f = Tree (out-Field f).term

abbrev OfMethod : Method → Type 0
OfMethod m = SignatureTree (out-Method m).signature

abbrev A : Type 0
A = (t : Term) × Tree t

abbrev B : Type 0
B = (f : Field) × OfField f

abbrev C : Type 0
C = (m : Method) × OfMethod m

abbrev D : Type 0
D = (g : Signature) × SignatureTree g

trees : (ts : List A) → Trees (map (λ (a : A). a.0) ts)
trees [] = trees_none
trees (a ∷ ts) = trees_more a.1 (trees ts)

field_trees : (fs : List B) → FieldTrees (map (λ (a : B). a.0) fs)
field_trees [] = fields_none
field_trees (a ∷ fs) = fields_more a.1 (field_trees fs)

method_trees : (ms : List C) → MethodTrees (map (λ (a : C). a.0) ms)
method_trees [] = methods_none
method_trees (a ∷ ms) = methods_more a.1 (method_trees ms)

abbrev forget : Term-F A B C D → Layer
forget y = map-Term A B C D Term Field Method Signature (λ (a : A). a.0) (λ (a : B). a.0) (λ (a : C). a.0) (λ (a : D). a.0) y

layer_tree : (y : Term-F A B C D) → Tree (roll-Term (forget y))
layer_tree (Term-F.Plain b) = tree_plain (out-roll-Term _)
layer_tree (Term-F.Named n) = tree_named (out-roll-Term _)
layer_tree (Term-F.Pointer a) = tree_pointer (out-roll-Term _) a.1
layer_tree (Term-F.Slice a) = tree_slice (out-roll-Term _) a.1
layer_tree (Term-F.Array n a) = tree_array (out-roll-Term _) a.1
layer_tree (Term-F.Map k a) = tree_map (out-roll-Term _) k.1 a.1
layer_tree (Term-F.Chan d a) = tree_chan (out-roll-Term _) a.1
layer_tree (Term-F.Func a) = tree_func (out-roll-Term _) a.1
layer_tree (Term-F.Struct fs) = tree_struct (out-roll-Term _) (field_trees fs)
layer_tree (Term-F.Interface ms) = tree_interface (out-roll-Term _) (method_trees ms)

term_step : (x : Layer) (y : Term-F A B C D) → forget y ≡ x → Tree (roll-Term x)
term_step x y e = subst (λ z. Tree (roll-Term z)) e (layer_tree y)

field_step : (x : Field-F Term Field Method Signature) (u : A) → u.0 ≡ x.term → OfField (roll-Field x)
field_step x u e = subst (λ (y : Field-F Term Field Method Signature). Tree y.term) (sym (out-roll-Field x)) (subst Tree e u.1)

method_step : (x : Method-F Term Field Method Signature) (u : D) → u.0 ≡ x.signature → OfMethod (roll-Method x)
method_step x u e = subst (λ (y : Method-F Term Field Method Signature). SignatureTree y.signature) (sym (out-roll-Method x)) (subst SignatureTree e u.1)

signature_step : (x : Signature-F Term Field Method Signature) (ps rs : List A) → map (λ (a : A). a.0) ps ≡ x.params → map (λ (a : A). a.0) rs ≡ x.results → SignatureTree (roll-Signature x)
signature_step x ps rs e f = signature_tree
    (subst (λ (y : Signature-F Term Field Method Signature). Trees y.params) (sym (out-roll-Signature x)) (subst Trees e (trees ps)))
    (subst (λ (y : Signature-F Term Field Method Signature). Trees y.results) (sym (out-roll-Signature x)) (subst Trees f (trees rs)))

pub grown : (t : Term) → Tree t
grown = ind-Term Tree OfField OfMethod SignatureTree
    (λ x y e. term_step x y e)
    (λ x y e. field_step x y.term (ap (λ z. z.term) e))
    (λ x y e. method_step x y.signature (ap (λ z. z.signature) e))
    (λ x y e. signature_step x y.params y.results (ap (λ z. z.params) e) (ap (λ z. z.results) e))
