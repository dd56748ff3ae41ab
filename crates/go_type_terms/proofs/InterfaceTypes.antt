-- Interface types, by their methods.
use Rattle.std.proofs.Common.{◌≡◌, ◌<◌, ◌≤◌, ◌+◌, inl, inr, ℕ, List, [], ◌∷◌, ◌++◌, length, get_or, drop, refl, sym, ap, ◌∙◌, subst, Bool, false, ◌||◌, Result, Ok, Err}
use Rattle.std.specs.Prelude.{◌↔◌}
use Rattle.std.specs.List.Sorted.{IsStrictlySortedBy}
use Rattle.std.specs.Map.{keys_of, values_of}
use Rattle.std.specs.Result.{IsErrAnd}
use Rattle.go_base.specs.Lists.{Has as In}
use Rattle.go_model.specs.declared.types.names.TypeName.{TypeName}
use Rattle.go_model.specs.declared.types.term.Method.{Method}
use Rattle.go_model.specs.declared.types.term.Signature.{Signature}
use Rattle.go_model.specs.declared.types.term.Term.{Term, roll-Term, roll-out-Term}
use Rattle.go_model.specs.declared.types.term.Term.TheVariants as term
use Rattle.go_model.specs.declared.types.term.Term.TheVariants.{outs-Interface}
use Rattle.go_model.specs.types.MethodSets.{sel_order}
use Rattle.go_usability.proofs.go_selectors_proofs.Lists.{has-left, has-right, has-split}
use Rattle.go_syntax.specs.declared.name.Name.{Name}
use Rattle.go_syntax.specs.declared.types.InterfaceElem.{InterfaceElem, InterfaceElem-F, out-InterfaceElem}
use Rattle.go_syntax.specs.declared.types.Signature.{Signature as Sig, out-Signature as out-Sig}
use Rattle.go_syntax.specs.declared.types.«Type».{«Type-F» as Typ-F}
use Rattle.go_rules.specs.Environments.{Env}
use Rattle.go_rules.specs.Expressions.{OfForm, OfMethods, OfSignature, of_interface, methods_none}
use Rattle.go_rules.specs.Nodes.{ElemLayer, Node, elem_parts, elems_parts}
use Rattle.go_rules.proofs.OneOperand.{methods_once, signature_once}
use Rattle.go_type_terms.specs.Answers.{Types}
use Rattle.go_type_terms.specs.Loudness.{AreLoud}
use Rattle.go_type_terms.specs.Members.{OfElement, method_of}
use Rattle.go_type_terms.specs.inner.Gathered.{AreGathered, AreKeyed, AreMethods, Clashes, Entries, Gathers, GathersOf, Takes}
use Rattle.go_type_terms.specs.declared.error.ExprError.{ExprError}
use Rattle.go_type_terms.specs.declared.error.ExprError.TheVariants.{NoMemory, Untyped}
use Rattle.go_type_terms.proofs.Fields.{first_methods, joined_methods, later_methods}
use Rattle.go_type_terms.proofs.Gathering.{one_of}
use Rattle.go_type_terms.proofs.Gone.{Gone, gone_begins, gone_ends, gone_on, next_of}
use Rattle.go_type_terms.proofs.LoudTrees.{none_loud}

-- ---- answers that are handed on

-- the methods can't stand among the others
pub gathers_of : (E : Env) (P Q : List Method → Type 0) (ns : List Node) (old new : Entries) (e : ExprError) (r : Result Bool ExprError)
    → IsErrAnd r (λ x. x ≡ e) → Gathers P old new (Err e) → ((ms : List Method) → Q ms → P ms) → GathersOf E Q ns old new r
gathers_of E P Q ns old new e (Ok a) h g f = absurd h
gathers_of E P Q ns old new e (Err NoMemory) h g f = tt
gathers_of E P Q ns old new Untyped (Err Untyped) h g f = λ ms q. g ms (f ms q)
gathers_of E P Q ns old new NoMemory (Err Untyped) h g f = absurd (cc)

-- an element, by its form
pub by_element : (E : Env) (l k : ElemLayer) (old new : Entries) (r : Result Bool ExprError) → l ≡ k → GathersOf E (OfElement E k) (elem_parts k) old new r → GathersOf E (OfElement E l) (elem_parts l) old new r
by_element E l k old new r e g = subst (λ (f : ElemLayer). GathersOf E (OfElement E f) (elem_parts f) old new r) (sym e) g

-- the methods of an element are those that its signature gave
pub of_signature : (E : Env) (n : Name) (g : Sig) (h : Signature) (all : List Method) → OfSignature E (out-Sig g).parameters (out-Sig g).result h → all ≡ method_of E n h ∷ [] → (ms : List Method) → OfElement E (InterfaceElem-F.Method n g) ms → ms ≡ all
of_signature E n g h all o e ms k = k.2 ∙ ap (λ (s : Signature). method_of E n s ∷ []) (signature_once E k.1 o) ∙ sym e

-- ---- elements, one after another

-- the methods of the first elements stand there, and those of embedded types that have these names
pub record Gathering (E : Env) (xs rest : List InterfaceElem) (names : List TypeName) (es : Entries) (loud : Bool) : Type 0 where
  pub items : List Method
  pub gone : Gone E elems_parts (OfMethods E) xs rest items loud
  pub keyed : AreKeyed es
  pub same : (m : Method) → In (values_of es) m ↔ In items m
  pub gathered : AreGathered E.table names es

module _ (E : Env) (xs : List InterfaceElem) where
  pub none_gathered : (names : List TypeName) (es : Entries) → names ≡ [] → es ≡ [] → Gathering E xs xs names es false
  none_gathered names es e f =
      subst (λ (ns : List TypeName). Gathering E xs xs ns es false) (sym e) (subst (λ (w : Entries). Gathering E xs xs [] w false) (sym f) (record {
        items = [];
        gone = gone_begins E elems_parts (OfMethods E) xs [] refl;
        keyed = refl;
        same = λ m. (λ h. h, λ h. h);
        gathered = λ n i. absurd i;
      }))

  joined : (items ms : List Method) (old new : Entries) → ((m : Method) → In (values_of old) m ↔ In items m) → Takes old new ms → (m : Method) → In (values_of new) m ↔ In (items ++ ms) m
  joined items ms old new s k m = (
    λ h. elim ((k.1 m).0 h) [ inl i ↦ has-right items ms m i | inr j ↦ has-left items ms m ((s m).0 j) ],
    λ h. elim (has-split items ms m h) [ inl i ↦ (k.1 m).1 (inr ((s m).1 i)) | inr j ↦ (k.1 m).1 (inl j) ],
  )

  pub gathering_on : (at : ℕ) (d : InterfaceElem) (names more : List TypeName) (old new : Entries) (loud b c : Bool) → at < length xs → d ≡ get_or xs at d → c ≡ (loud || b)
      → ((ms : List Method) × OfElement E (out-InterfaceElem d) ms × Takes old new ms) × AreLoud E (elem_parts (out-InterfaceElem d)) b → AreGathered E.table more new
      → Gathering E xs (drop at xs) names old loud → Gathering E xs (drop (at + 1) xs) more new c
  gathering_on at d names more old new loud b c h e f t a g = record {
    items = g.items ++ t.0.0;
    gone = gone_on E elems_parts (OfMethods E) xs at d g.items t.0.0 (g.items ++ t.0.0) loud b c (elem_parts (out-InterfaceElem d)) h e refl f
        (λ rest. refl) t.1 (λ rest more k. joined_methods d rest t.0.0 more t.0.1 k) (λ rest all k. later_methods d rest all k) g.gone;
    keyed = t.0.2.0;
    same = joined g.items t.0.0 old new g.same t.0.2;
    gathered = a;
  }

  -- two methods of one selector stand in no order
  no_order : (d : InterfaceElem) (rest : List InterfaceElem) (names : List TypeName) (es : Entries) (loud : Bool) → Gathering E xs (d ∷ rest) names es loud
      → ((ms : List Method) → OfElement E (out-InterfaceElem d) ms → Clashes es ms) → (ms : List Method) → AreMethods E xs ms → ⊥
  no_order d rest names es loud g clash ms a =
      let left = g.gone.from a.0 a.1 in
      let now = first_methods d rest left.0 left.1 in
      let later = later_methods d rest left.0 left.1 in
      let whole = g.items ++ (now.0 ++ later.0) in
      let same : a.0 ≡ whole = methods_once E a.1 (g.gone.to (now.0 ++ later.0) (joined_methods d rest now.0 later.0 now.1 later.1)) in
      let in_now : (m : Method) → In now.0 m → In ms m = λ m i. a.2.each m (subst (λ (all : List Method). In all m) (sym same) (has-right g.items (now.0 ++ later.0) m (has-left now.0 later.0 m i))) in
      let in_items : (m : Method) → In (values_of es) m → In ms m = λ m i. a.2.each m (subst (λ (all : List Method). In all m) (sym same) (has-left g.items (now.0 ++ later.0) m ((g.same m).0 i))) in
      let c = clash now.0 now.1 in
      c.5 (one_of ms c.0 c.1 a.2.sorted (elim c.2 [ inl i ↦ in_now c.0 i | inr j ↦ in_items c.0 j ]) (in_now c.1 c.3) c.4)

  ungathered : (P : List Method → Type 0) (ns ms : List Node) (es new : Entries) (e : ExprError) (r : Result (List Method × Bool) ExprError)
      → IsErrAnd r (λ x. x ≡ e) → GathersOf E P ns es new (Err e) → (((xs : List Method) → P xs → Clashes es xs) → (all : List Method) → AreMethods E xs all → ⊥) → Types {A = List Method} E (AreMethods E xs) ms r
  ungathered P ns ms es new e (Ok a) h g f = absurd h
  ungathered P ns ms es new e (Err NoMemory) h g f = tt
  ungathered P ns ms es new Untyped (Err Untyped) h g f = f g
  ungathered P ns ms es new NoMemory (Err Untyped) h g f = absurd (cc)

  pub gathering_fails : (at : ℕ) (d : InterfaceElem) (names : List TypeName) (es new : Entries) (loud : Bool) (e : ExprError) (r : Result (List Method × Bool) ExprError) → at < length xs → d ≡ get_or xs at d
      → IsErrAnd r (λ x. x ≡ e) → GathersOf E (OfElement E (out-InterfaceElem d)) (elem_parts (out-InterfaceElem d)) es new (Err e) → Gathering E xs (drop at xs) names es loud → Types {A = List Method} E (AreMethods E xs) (elems_parts xs) r
  gathering_fails at d names es new loud e r h i k t g =
      ungathered (OfElement E (out-InterfaceElem d)) (elem_parts (out-InterfaceElem d)) (elems_parts xs) es new e r k t
      (no_order d (drop (at + 1) xs) names es loud (subst (λ (rest : List InterfaceElem). Gathering E xs rest names es loud) (next_of xs at d h i) g))

  pub gathering_ends : (at : ℕ) (names : List TypeName) (es : Entries) (loud : Bool) (ms : List Method) → length xs ≤ at → IsStrictlySortedBy sel_order (keys_of es) → ms ≡ values_of es → Gathering E xs (drop at xs) names es loud
      → AreMethods E xs ms × AreLoud E (elems_parts xs) loud
  gathering_ends at names es loud ms h s e g =
      let whole = gone_ends E elems_parts (OfMethods E) xs at g.items loud h methods_none (none_loud E) g.gone in (
        subst (AreMethods E xs) (sym e) (
          g.items,
          whole.0,
          record {
            sorted = subst (IsStrictlySortedBy sel_order) (sym g.keyed) s;
            among = λ m i. (g.same m).0 i;
            each = λ m i. (g.same m).1 i;
          },
        ),
        whole.1,
      )

  -- ---- the interface type of the methods of elements

  pub to_interface : (ms : List Method) → AreMethods E xs ms → OfForm E (Typ-F.Interface xs) (term.Interface ms)
  to_interface ms a = subst (λ (u : Term). OfForm E (Typ-F.Interface xs) u) (ap roll-Term (sym (outs-Interface ms)) ∙ roll-out-Term (term.Interface ms)) (of_interface ms a.0 a.1 a.2.sorted a.2.among a.2.each)

  pub in_interface : (u : Term) → OfForm E (Typ-F.Interface xs) u → (ms : List Method) × AreMethods E xs ms
  in_interface u (of_interface ms all h s f g) = (ms, (all, h, record { sorted = s; among = f; each = g }))
