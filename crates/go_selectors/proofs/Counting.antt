-- What a search for all selectors at once knows at each depth, and that its candidates hold the method set.
use Rattle.std.proofs.Common.{◌≡◌, ◌≤◌, ◌<◌, ◌+◌, ℕ, zero, suc, Bool, true, false, not, ◌⊎◌, inl, inr, ◌↔◌, List, [], ◌∷◌, length, refl, sym, ap, ◌∙◌, subst, arith, Option, Some, None, if◌then◌else◌, nat_eq}
use mathlib.Core.Bool.{true≢false}
use Rattle.go_base.specs.Gathered.{gather}
use Rattle.go_model.specs.types.Tables.{Table}
use Rattle.go_model.specs.types.Selectors.{Spot, Ending, Target, field, method, steps, endings, ends, NoneBelow, start, is_defined_pointer}
use Rattle.go_model.specs.types.MethodSets.{Reaches, InSet, IsMethodSet}
use Rattle.go_model.specs.declared.types.names.Sel.{Sel}
use Rattle.go_model.specs.declared.types.names.TypeName.{TypeName}
use Rattle.go_model.specs.declared.types.term.Term.{Term}
use Rattle.go_model.specs.declared.types.term.Method.{Method, out-Method}
use Rattle.go_model.specs.declared.types.term.Signature.{Signature}
use Rattle.go_selectors.specs.Search.{Consolidates}
use Rattle.go_selectors.specs.Candidates.{Candidate, Candidates, candidate_at, called_of, called_at, called_method, called_target, all_noted, Notes, HoldMethodSet, Lists}
use Rattle.go_selectors.specs.declared.seen.Key.{Key}
use Rattle.go_selectors.proofs.Layers.{none_left, none_here, one_here, many_here, below_next, gather_none}
use Rattle.go_selectors.proofs.Searching.{Layers, first_layers, next_layers}
use Rattle.go_selectors.proofs.Noting.{nat_same, nat_other, no_candidate}

-- the method where just one path ends
abbrev pub sole : List Ending → Option Signature
sole [] = None
sole (e ∷ []) = called_target e.through e.target
sole (e ∷ (f ∷ es)) = None

-- a selector is settled at the least depth at which paths end, or none ended yet
abbrev pub Stands : Table → Term → Sel → ℕ → Option Candidate → Type 0
Stands T t s depth None = NoneBelow T s (start T t) depth
Stands T t s depth (Some x) = (x.depth < depth) × NoneBelow T s (start T t) x.depth × (ends T s x.depth (start T t) ≡ [] → ⊥) × (x.called ≡ sole (ends T s x.depth (start T t)))

pub record Counted (T : Table) (t : Term) (depth : ℕ) (layer : List Spot) (once twice : List Key) (candidates : Candidates) : Type 0 where
  pub layers : (s : Sel) → Layers T s (start T t) depth layer once twice
  pub stands : (s : Sel) → Stands T t s depth (candidate_at candidates s)

settled_stays : (depth : ℕ) (x : Candidate) (es : List Ending) → (x.depth ≡ depth → ⊥) → all_noted depth es (Some x) ≡ Some x
settled_stays depth x [] n = refl
settled_stays depth x (e ∷ es) n = ap (λ b. all_noted depth es (if b then Some (record { depth = depth; called = None }) else Some x)) (nat_other x.depth depth n) ∙ settled_stays depth x es n

many_stay : (depth : ℕ) (es : List Ending) → all_noted depth es (Some (record { depth = depth; called = None })) ≡ Some (record { depth = depth; called = None })
many_stay depth [] = refl
many_stay depth (e ∷ es) = both (many_stay depth es) (nat_eq depth depth)
  where
    both : all_noted depth es (Some (record { depth = depth; called = None })) ≡ Some (record { depth = depth; called = None }) → (b : Bool) → all_noted depth es (if b then Some (record { depth = depth; called = None }) else Some (record { depth = depth; called = None })) ≡ Some (record { depth = depth; called = None })
    both h true = h
    both h false = h

pub two_noted : (depth : ℕ) (called : Option Signature) (es : List Ending) → (b : Bool) → nat_eq depth depth ≡ b → all_noted depth es (if b then Some (record { depth = depth; called = None }) else Some (record { depth = depth; called = called })) ≡ Some (record { depth = depth; called = None })
two_noted depth called es true e = many_stay depth es
two_noted depth called es false e = absurd (true≢false (sym (nat_same depth depth refl) ∙ e))

sole_many : (es : List Ending) → 2 ≤ length es → sole es ≡ None
sole_many [] h = refl
sole_many (e ∷ []) h = absurd (omega arith)
sole_many (e ∷ (f ∷ es)) h = refl

some_many : (es : List Ending) → 2 ≤ length es → es ≡ [] → ⊥
some_many [] h e = absurd (omega arith)
some_many (x ∷ es) h e = absurd (cc)

pub one_some : {A : Type 0} (xs : List A) (x : A) → xs ≡ x ∷ [] → xs ≡ [] → ⊥
one_some xs x e f = absurd (cc)

module _ (T : Table) (t : Term) where
  pub first_count : (layer : List Spot) (once twice : List Key) (candidates : Candidates) → layer ≡ start T t ∷ [] → once ≡ [] → twice ≡ [] → ((s : Sel) → candidate_at candidates s ≡ None) → Counted T t 0 layer once twice candidates
  first_count layer once twice candidates e o w n = record {
    layers = λ s. first_layers T s (start T t) layer once twice e o w;
    stands = λ s. subst (Stands T t s 0) (sym (n s)) (λ k h. absurd (omega arith));
  }

  module _ (depth : ℕ) (layer : List Spot) (once twice : List Key) (s : Sel) (l : Layers T s (start T t) depth layer once twice) where
    -- nothing was known, and these paths end in the layer
    fresh : (es : List Ending) → gather (endings T s) layer ≡ es → NoneBelow T s (start T t) depth → Stands T t s (depth + 1) (all_noted depth es None)
    fresh [] e z = below_next T s (start T t) depth z (none_here T s (start T t) l.layered z (sym (gather_none T s layer) ∙ e))
    fresh (x ∷ []) e z =
        let h = one_here T s (start T t) x l.layered z (sym (gather_none T s layer) ∙ e) in
        (omega arith, z, one_some _ x h, sym (ap sole h))
    fresh (x ∷ (y ∷ es)) e z =
        let h = many_here T s (start T t) l.layered z (subst (λ (w : List Ending). 2 ≤ length w) (sym e ∙ gather_none T s layer) (two es)) in
        subst (Stands T t s (depth + 1)) (sym (two_noted depth (called_target x.through x.target) es (nat_eq depth depth) refl)) (omega arith, z, some_many _ h, sym (sole_many _ h))
      where
        two : (zs : List Ending) → 2 ≤ length (x ∷ (y ∷ zs))
        two zs = omega arith

    standing : (o : Option Candidate) → Stands T t s depth o → Stands T t s (depth + 1) (all_noted depth (gather (endings T s) layer) o)
    standing None z = fresh (gather (endings T s) layer) refl z
    standing (Some x) z = subst (Stands T t s (depth + 1)) (sym (settled_stays depth x (gather (endings T s) layer) (λ e. absurd (less e z.0)))) (omega (arith, z.0), z.1, z.2, z.3)
      where
        less : x.depth ≡ depth → x.depth < depth → ⊥
        less e h = omega arith

  pub next_count : (depth : ℕ) (layer new : List Spot) (once twice newer again : List Key) (candidates more : Candidates) → Counted T t depth layer once twice candidates → Notes depth candidates more (λ s. gather (endings T s) layer) → Consolidates once twice newer again (gather (steps T) layer) new → Counted T t (depth + 1) new newer again more
  next_count depth layer new once twice newer again candidates more l n f = record {
    layers = λ s. next_layers T s (start T t) depth layer new once twice newer again (l.layers s) f;
    stands = λ s. subst (Stands T t s (depth + 1)) (sym (n s)) (standing depth layer once twice s (l.layers s) (candidate_at candidates s) (l.stands s));
  }

  -- a method that a path alone ends in is called
  pub called_alone : (e : Ending) (g : Signature) → called_target e.through e.target ≡ Some g → (owner : Option TypeName) × (pointer : Bool) × (e.target ≡ method owner pointer g) × Reaches pointer e.through
  called_alone e g h = by e.target refl h
    where
      reach : (pointer through : Bool) (f : Signature) → called_method pointer through f ≡ Some g → (f ≡ g) × Reaches pointer through
      reach true true f i = (cc, inr refl)
      reach true false f i = absurd (cc)
      reach false through f i = (cc, inl refl)

      by : (target : Target) → e.target ≡ target → called_target e.through target ≡ Some g → (owner : Option TypeName) × (pointer : Bool) × (e.target ≡ method owner pointer g) × Reaches pointer e.through
      by (field u) i k = absurd (cc)
      by (method owner pointer f) i k = let r = reach pointer e.through f k in (owner, pointer, i ∙ ap (method owner pointer) r.0, r.1)

  pub alone : (es : List Ending) (g : Signature) → sole es ≡ Some g → (e : Ending) × (es ≡ e ∷ []) × (called_target e.through e.target ≡ Some g)
  alone [] g h = absurd (cc)
  alone (e ∷ []) g h = (e, refl, h)
  alone (e ∷ (f ∷ es)) g h = absurd (cc)

  pub called_so : (pointer through : Bool) (g : Signature) → Reaches pointer through → called_method pointer through g ≡ Some g
  called_so true through g (inl e) = absurd (true≢false e)
  called_so false through g (inl e) = refl
  called_so true through g (inr e) = ap (λ b. if not b then None else Some g) e
  called_so false through g (inr e) = refl

  compared : (a b : ℕ) → (a < b) ⊎ ((b < a) ⊎ (a ≡ b))
  compared zero zero = inr (inr refl)
  compared zero (suc b) = inl (omega arith)
  compared (suc a) zero = inr (inl (omega arith))
  compared (suc a) (suc b) = elim (compared a b) [ inl h ↦ inl (omega arith) | inr k ↦ elim k [ inl h ↦ inr (inl (omega arith)) | inr e ↦ inr (inr (ap suc e)) ] ]

  module _ (depth : ℕ) (layer : List Spot) (once twice : List Key) (candidates : Candidates) (l : Counted T t depth layer once twice candidates) (done : layer ≡ []) (counts : is_defined_pointer T t ≡ false) (s : Sel) (g : Signature) where
    sound : (o : Option Candidate) → Stands T t s depth o → called_of o ≡ Some g → InSet T t s g
    sound None z e = absurd (cc)
    sound (Some x) z e =
        let a = alone (ends T s x.depth (start T t)) g (sym z.3 ∙ e) in
        let c = called_alone a.0 g a.2 in
        record { depth = x.depth; through = a.0.through; owner = c.0; pointer = c.1; only = record { none = z.1; only = a.1 ∙ ap (λ (w : Target). record { through = a.0.through; target = w } ∷ []) c.2 }; counts = counts; reaches = c.3 }

    complete : (o : Option Candidate) → Stands T t s depth o → InSet T t s g → called_of o ≡ Some g
    complete None z i = absurd (one_some _ _ i.only.only (none_left T s (start T t) depth layer (l.layers s).seen (l.layers s).layered z done i.depth))
    complete (Some x) z i = elim (compared x.depth i.depth) [
      | inl h ↦ absurd (z.2 (i.only.none x.depth h))
      | inr k ↦ elim k [
        | inl h ↦ absurd (one_some _ _ i.only.only (z.1 i.depth h))
        | inr e ↦ z.3 ∙ ap (λ n. sole (ends T s n (start T t))) e ∙ ap sole i.only.only ∙ called_so i.pointer i.through g i.reaches
      ]
    ]

    pub counted : (called_at candidates s ≡ Some g) ↔ InSet T t s g
    counted = (λ e. sound (candidate_at candidates s) (l.stands s) e, λ i. complete (candidate_at candidates s) (l.stands s) i)

  -- a type that is defined over a pointer has no candidates
  pub none_held : (candidates : Candidates) → candidates.entries ≡ [] → is_defined_pointer T t ≡ true → HoldMethodSet T t candidates
  none_held candidates e d s g = (λ h. absurd (none_called (ap called_of (no_candidate candidates s e)) h), λ i. absurd (true≢false (sym d ∙ i.counts)))
    where
      none_called : called_at candidates s ≡ None → called_at candidates s ≡ Some g → ⊥
      none_called f h = absurd (cc)

  pub set_listed : (candidates : Candidates) (ms : List Method) → HoldMethodSet T t candidates → Lists candidates ms → IsMethodSet T t ms
  set_listed candidates ms holds l = record {
    ordered = l.ordered;
    sound = λ m h. (holds (out-Method m).sel (out-Method m).signature).0 ((l.exact m).0 h);
    complete = λ m h. (l.exact m).1 ((holds (out-Method m).sel (out-Method m).signature).1 h);
  }
