-- What a search over a table finds, where the levels down to its depth are told.
use Rattle.std.proofs.Common.{◌≡◌, ◌<◌, ◌&&◌, not, ℕ, Bool, true, false, if◌then◌else◌, inl, inr, Option, Some, None, List, refl, sym, ap, ◌∙◌, subst, arith}
use mathlib.Core.Bool.{true≢false}
use Rattle.go_model.specs.declared.types.found.Found.TheVariants as find
use Rattle.go_model.specs.declared.types.found.Found.{Found as Find}
use Rattle.go_model.specs.declared.types.found.MethodFound.{MethodFound}
use Rattle.go_model.specs.declared.types.names.Sel.{Sel}
use Rattle.go_model.specs.declared.types.names.TypeName.{TypeName}
use Rattle.go_model.specs.declared.types.term.Method.{Method}
use Rattle.go_model.specs.declared.types.term.Signature.{Signature}
use Rattle.go_model.specs.declared.types.term.Term.TheVariants as term
use Rattle.go_model.specs.declared.types.term.Term.TheVariants.{outs-Interface}
use Rattle.go_model.specs.declared.types.term.Term.{Term, Term-F, out-Term}
use Rattle.go_model.specs.types.MethodSets.{InSet, Reaches}
use Rattle.go_model.specs.types.Selectors.{Spot, Ending, field, method, IsOnly, Finds, bounded_depth, start}
use Rattle.go_model.specs.types.Tables.{Table}
use Rattle.go_model.specs.types.Terms.{Layer}
use Rattle.go_model.specs.types.Underlying.{under}
use Rattle.go_rules.specs.Environments.{Env, Found, HasMethod, ToldTo}
use Rattle.go_rules.specs.Usability.{Implements}
use Rattle.go_types.proofs.go_selectors_proofs.UniqueFind.{compared, one_some, no_many, same_ending, signature_once}
use Rattle.go_types.specs.go_selectors.Answers.{Decides}
use Rattle.go_usability.specs.Answers.{FindsIn, Gives}
use Rattle.go_usability.specs.inner.Methods.{HoldsEach, called_in}
use Rattle.go_usability.specs.inner.Levels.{ToldFrom, depth_of}

same_depth : (T : Table) (s : Sel) (at : Spot) (d e : ℕ) (x y : Ending) → IsOnly T s at d x → IsOnly T s at e y → d ≡ e
same_depth T s at d e x y a b = elim (compared d e) [
  | inl h ↦ absurd (one_some _ x (b.none d h) a.only)
  | inr k ↦ elim k [ inl h ↦ absurd (one_some _ y (a.none e h) b.only) | inr i ↦ i ]
]

unbounded : (d n : ℕ) → n ≡ bounded_depth d → n < 4294967295 → d ≡ n
unbounded d n e h = omega arith

no_both : (through other : Bool) (v : Term) (o : Option TypeName) (p : Bool) (g : Signature) → ◌≡◌ {A = Ending} (record { through = through; target = field v }) (record { through = other; target = method o p g }) → ⊥
no_both through other v o p g e = let k : field v ≡ method o p g = ap (λ (x : Ending). x.target) e in absurd (cc)

some_same : {A : Type 0} (x y : A) → ◌≡◌ {A = Option A} (Some x) (Some y) → x ≡ y
some_same x y e = cc

module _ (E : Env) (s : Sel) (t : Term) where
  abbrev from : Spot
  from = start E.table t

  made : (depth n d : ℕ) (e : Ending) → IsOnly E.table s from depth e → n ≡ bounded_depth depth → Some n ≡ Some d → d < 4294967295 → ToldFrom E s d t → (x : Found E s t e) × (n ≡ x.depth)
  made depth n d e o b i l h = (record { depth = d; only = subst (λ (k : ℕ). IsOnly E.table s from k e) (unbounded depth d (sym (some_same n d i) ∙ b) l) o; begins = h.0; told = h.1 }, some_same n d i)

  untold : (depth n d : ℕ) (e x : Ending) → IsOnly E.table s from depth e → n ≡ bounded_depth depth → Some n ≡ Some d → d < 4294967295 → (ToldFrom E s d t → ⊥) → Found E s t x → ⊥
  untold depth n d e x o b i l h f = h (f.begins, subst (λ (k : ℕ). ToldTo E s k from) (same_depth E.table s from f.depth depth x e f.only o ∙ unbounded depth d (sym (some_same n d i) ∙ b) l) f.told)

  -- where the levels are told, it is found
  pub answered : (r : Find) (d : ℕ) → Finds E.table s t r → depth_of r ≡ Some d → d < 4294967295 → ToldFrom E s d t → FindsIn E s t (Some r)
  answered (find.FieldAt f) d (k, o, b) i l h = made k f.depth d _ o b i l h
  answered (find.MethodAt m) d (k, o, b, c) i l h = (let x = made k m.depth d _ o b i l h in (x.0, x.1, c))
  answered find.Ambiguous d f i l h = absurd (cc)
  answered find.Nothing d f i l h = absurd (cc)

  -- where they aren't, nothing is
  pub unanswered : (r : Find) (d : ℕ) → Finds E.table s t r → depth_of r ≡ Some d → d < 4294967295 → (ToldFrom E s d t → ⊥) → FindsIn E s t None
  unanswered (find.FieldAt f) d (k, o, b) i l h = record { no_field = λ through u y. untold k f.depth d _ _ o b i l h y; no_method = λ through owner pointer g y c. untold k f.depth d _ _ o b i l h y }
  unanswered (find.MethodAt m) d (k, o, b, c) i l h = record { no_field = λ through u y. untold k m.depth d _ _ o b i l h y; no_method = λ through owner pointer g y q. untold k m.depth d _ _ o b i l h y }
  unanswered find.Ambiguous d f i l h = absurd (cc)
  unanswered find.Nothing d f i l h = absurd (cc)

  -- where a search finds neither field nor method, nothing is
  pub nothing : (r : Find) → Finds E.table s t r → depth_of r ≡ None → FindsIn E s t None
  nothing (find.FieldAt f) h i = absurd (cc)
  nothing (find.MethodAt m) h i = absurd (cc)
  nothing find.Ambiguous h i = record {
    no_field = λ through u y. no_many E.table s from y.depth h.0 _ y.only h.1 h.2;
    no_method = λ through owner pointer g y c. no_many E.table s from y.depth h.0 _ y.only h.1 h.2;
  }
  nothing find.Nothing (inl h) i = record {
    no_field = λ through u y. one_some _ _ (h y.depth) y.only.only;
    no_method = λ through owner pointer g y c. one_some _ _ (h y.depth) y.only.only;
  }
  nothing find.Nothing (inr h) i = record {
    no_field = λ through u y. no_both through h.1 u h.2 h.3 h.4 (same_ending E.table s from y.depth h.0 _ _ y.only h.5);
    no_method = λ through owner pointer g y c. true≢false (sym h.6 ∙ c);
  }

  -- ---- methods

  same_method : (m : MethodFound) (g : Signature) (addressable : Bool) → FindsIn E s t (Some (find.MethodAt m)) → (x : HasMethod E addressable t s g) → ◌≡◌ {A = Ending} (record { through = m.through_pointer; target = method m.owner m.pointer_receiver m.signature }) (record { through = x.through; target = method x.owner x.pointer g })
  same_method m g addressable f x = same_ending E.table s from f.0.depth x.found.depth _ _ f.0.only x.found.only

  by_flags : (m : MethodFound) (addressable answer : Bool) → (m.pointer_receiver && not m.through_pointer && not addressable) ≡ answer → FindsIn E s t (Some (find.MethodAt m)) → Gives (HasMethod E addressable t s) (if answer then None else Some m.signature)
  by_flags m addressable false h f = record { through = m.through_pointer; owner = m.owner; pointer = m.pointer_receiver; found = f.0; counts = f.2; reaches = by m.pointer_receiver m.through_pointer addressable h }
    where
      by : (pointer through address : Bool) → (pointer && not through && not address) ≡ false → Reaches pointer (if through then true else address)
      by false through address n = inl refl
      by true true address n = inr refl
      by true false true n = inr refl
      by true false false n = absurd (true≢false n)
  by_flags m addressable true h f = λ g x. by m.pointer_receiver m.through_pointer addressable h (reached g x)
    where
      reached : (g : Signature) → HasMethod E addressable t s g → Reaches m.pointer_receiver (if m.through_pointer then true else addressable)
      reached g x =
          let e = same_method m g addressable f x in
          let k : method m.owner m.pointer_receiver m.signature ≡ method x.owner x.pointer g = ap (λ (y : Ending). y.target) e in
          let p : x.pointer ≡ m.pointer_receiver = cc in
          subst (λ (b : Bool). Reaches b (if m.through_pointer then true else addressable)) p (subst (λ (b : Bool). Reaches x.pointer (if b then true else addressable)) (sym (ap (λ (y : Ending). y.through) e)) x.reaches)

      by : (pointer through address : Bool) → (pointer && not through && not address) ≡ true → Reaches pointer (if through then true else address) → ⊥
      by false through address n i = true≢false (sym n)
      by true true address n i = true≢false (sym n)
      by true false true n i = true≢false (sym n)
      by true false false n (inl i) = true≢false i
      by true false false n (inr i) = true≢false (sym i)

  -- what was found gives the method that can be called so
  pub calls : (addressable : Bool) (r : Option Find) → FindsIn E s t r → Gives (HasMethod E addressable t s) (called_in addressable r)
  calls addressable (Some (find.MethodAt m)) f = by_flags m addressable (m.pointer_receiver && not m.through_pointer && not addressable) refl f
  calls addressable (Some (find.FieldAt a)) f = λ g x. no_both _ _ _ _ _ _ (same_ending E.table s from f.0.depth x.found.depth _ _ f.0.only x.found.only)
  calls addressable (Some find.Ambiguous) f = absurd f
  calls addressable (Some find.Nothing) f = absurd f
  calls addressable None f = λ g x. f.no_method x.through x.owner x.pointer g x.found x.counts

pub gives_so : {A : Type 0} (P : A → Type 0) (r q : Option A) → r ≡ q → Gives P q → Gives P r
gives_so P r q e g = subst (Gives P) (sym e) g

-- ---- an interface's method

-- a method of a value that isn't addressable is in the method set
pub in_set : (E : Env) (t : Term) (s : Sel) (g : Signature) → HasMethod E false t s g → InSet E.table t s g
in_set E t s g h = record { depth = h.found.depth; through = h.through; owner = h.owner; pointer = h.pointer; only = h.found.only; counts = h.counts; reaches = by h.through h.reaches }
  where
    by : (through : Bool) → Reaches h.pointer (if through then true else false) → Reaches h.pointer through
    by true r = r
    by false r = r

pub held : (E : Env) (t : Term) (s : Sel) (g : Signature) (r : Option Find) (answer : Bool) → FindsIn E s t r → Decides answer (called_in false r ≡ Some g) → Decides answer (HasMethod E false t s g)
held E t s g r true f d = subst (Gives (HasMethod E false t s)) d (calls E s t false r f)
held E t s g r false f d = λ m. by m (called_in false r) refl (calls E s t false r f)
  where
    by : HasMethod E false t s g → (q : Option Signature) → called_in false r ≡ q → Gives (HasMethod E false t s) q → ⊥
    by m None e n = n g m
    by m (Some h) e n = d (e ∙ ap Some (signature_once E.table s t h g (in_set E t s h n) (in_set E t s g m)))

-- ---- an interface

under_interface : (T : Table) (u v : Term) → out-Term v ≡ under T u → (ms : List Method) → v ≡ term.Interface ms → under T u ≡ Term-F.Interface ms
under_interface T u v is ms s = sym is ∙ ap out-Term s ∙ outs-Interface ms

pub implements_decides : (E : Env) (t i v : Term) (ms gs : List Method) (answer : Bool) → out-Term v ≡ under E.table i → v ≡ term.Interface ms → gs ≡ ms → Decides answer (HoldsEach E t gs) → Decides answer (Implements E t i)
implements_decides E t i v ms gs true u s q d = (ms, under_interface E.table i v u ms s, subst (HoldsEach E t) q d)
implements_decides E t i v ms gs false u s q d = λ n. d (subst (HoldsEach E t) (same n.0 ms (sym n.1 ∙ under_interface E.table i v u ms s) ∙ sym q) n.2)
  where
    same : (xs ys : List Method) → ◌≡◌ {A = Layer} (Term-F.Interface xs) (Term-F.Interface ys) → xs ≡ ys
    same xs ys e = cc
