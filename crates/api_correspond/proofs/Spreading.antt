-- A walk over embedded types comes past each field below the top level.
use Rattle.std.proofs.Common.{◌≡◌, ◌≤◌, ◌<◌, ◌+◌, ℕ, zero, suc, Bool, true, false, ◌⊎◌, inl, inr, List, [], ◌∷◌, ◌++◌, length, take, get_or, refl, sym, ap, ◌∙◌, subst, arith, length-append, append_assoc, append-nil}
use mathlib.Core.Bool.{true≢false}
use Rattle.std.specs.Prelude.{if◌then◌else◌, ◌||◌, Option, None}
use Rattle.go_base.specs.Gathered.{gather}
use Rattle.std.proofs.lemmas.List.{take_more}
use Rattle.go_base.specs.Lists.{Has}
use Rattle.go_base.specs.Growing.{Grows}
use Rattle.go_base.proofs.Lists.{take_past}
use Rattle.go_model.specs.types.Tables.{Table}
use Rattle.go_model.specs.types.Terms.{same_sel}
use Rattle.go_model.specs.types.Underlying.{under, fields_of, methods_of, declared_methods}
use Rattle.go_model.specs.types.Selectors.{Spot, Ending, Target, field, method, name_of, base_of, is_pointer, field_ending, declared_ending, method_ending, step, steps, endings, ends, start, Finds, bounded_depth}
use Rattle.go_model.specs.types.Members.{field_sel}
use Rattle.go_model.specs.declared.types.found.Found.TheVariants.{FieldAt}
use Rattle.go_model.specs.declared.types.found.FieldFound.{FieldFound}
use Rattle.go_model.specs.declared.types.names.Sel.{Sel}
use Rattle.go_model.specs.declared.types.names.TypeName.{TypeName}
use Rattle.go_model.specs.declared.types.package.MethodOf.{MethodOf}
use Rattle.go_model.specs.declared.types.term.Term.{Term, Term-F, out-Term, roll-Term}
use Rattle.go_model.specs.declared.types.term.Field.{Field, out-Field}
use Rattle.go_model.specs.declared.types.term.Method.{Method, out-Method}
use Rattle.go_selectors.proofs.Lists.{has-left, has-split, has-last, has-back, gather_of, drop_all}
use Rattle.go_selectors.proofs.Noting.{sel_is}
use Rattle.api_correspond.specs.Publics.{IsExported}
use Rattle.api_correspond.specs.inner.Leading.{HoldDeepFields}
use Rattle.api_correspond.specs.inner.Spreading.{Known, Pushed, SeesTerm, Pushes, HasEmbedded, PushesOne, PushesEmbedded, IsFieldSel}

take_append : {A : Type 0} (n : ℕ) (xs ys : List A) → n ≤ length xs → take n (xs ++ ys) ≡ take n xs
take_append zero xs ys h = refl
take_append (suc n) [] ys h = absurd (omega arith)
take_append (suc n) (x ∷ xs) ys h = ap (λ zs. x ∷ zs) (take_append n xs ys (omega arith))

-- nothing was added
pushed_none : (all : List Term) (seen : List TypeName) → Pushed all seen all seen
pushed_none all seen = record { more = []; is = sym (append-nil all); known = λ k. k }

pushed_more : (a b c : List Term) (m n o : List TypeName) → Pushed a m b n → Pushed b n c o → Pushed a m c o
pushed_more a b c m n o p q = record { more = p.more ++ q.more; is = q.is ∙ ap (λ w. w ++ q.more) p.is ∙ append_assoc a p.more q.more; known = λ k. q.known (p.known k) }

pushed_has : (a b : List Term) (m n : List TypeName) (t : Term) → Pushed a m b n → Has a t → Has b t
pushed_has a b m n t p h = subst (λ (w : List Term). Has w t) (sym p.is) (has-left a p.more t h)

pub push_met : (all : List Term) (seen newer : List TypeName) (t : Term) → SeesTerm seen newer t true → Pushes all seen all newer t
push_met all seen newer t m = subst (λ (w : List TypeName). Pushes all seen all w t) (sym m.1) (pushed_none all seen, λ k. subst (Has all) m.0.2 (k m.0.0 m.0.1))

sees_had : (seen newer : List TypeName) (t : Term) → SeesTerm seen newer t false → (n : TypeName) → Has newer n → Has seen n ⊎ (roll-Term (Term-F.Named n) ≡ t)
sees_had seen newer t (inl m) n h = elim (has-back seen m.0 n (subst (λ (w : List TypeName). Has w n) m.1 h)) [ inl a ↦ inl a | inr e ↦ inr (ap (λ k. roll-Term (Term-F.Named k)) (sym e) ∙ m.2) ]
sees_had seen newer t (inr e) n h = inl (subst (λ (w : List TypeName). Has w n) e h)

push_new : (all : List Term) (seen newer : List TypeName) (t : Term) → SeesTerm seen newer t false → Pushes all seen (all ++ t ∷ []) newer t
push_new all seen newer t m = (
  record {
    more = t ∷ [];
    is = refl;
    known = λ k n h. elim (sees_had seen newer t m n h) [ inl a ↦ has-left all (t ∷ []) (roll-Term (Term-F.Named n)) (k n a) | inr e ↦ subst (Has (all ++ t ∷ [])) (sym e) (has-last all t) ];
  },
  λ k. has-last all t,
)

pub push_as : (all new : List Term) (seen newer : List TypeName) (t p : Term) (seen_before : Bool) → new ≡ all ++ p ∷ [] → p ≡ t → seen_before ≡ false → SeesTerm seen newer t seen_before → Pushes all seen new newer t
push_as all new seen newer t p b e s f m = subst (λ (w : List Term). Pushes all seen w newer t) (sym (e ∙ ap (λ x. all ++ x ∷ []) s)) (push_new all seen newer t (subst (SeesTerm seen newer t) f m))

-- the embedded fields among more fields
pub none_embedded : (all : List Term) (seen : List TypeName) → PushesEmbedded all seen all seen []
none_embedded all seen = (pushed_none all seen, λ k f h. absurd h)

pub embedded_more : (a b c : List Term) (m n o : List TypeName) (fs gs : List Field) (f : Field) → gs ≡ fs ++ f ∷ [] → PushesEmbedded a m b n fs → PushesOne b n c o f → PushesEmbedded a m c o gs
embedded_more a b c m n o fs gs f e p q = (
  pushed_more a b c m n o p.0 q.0,
  λ k g h i. elim (has-back fs f g (subst (λ (w : List Field). Has w g) e h)) [
    | inl x ↦ pushed_has b c n o (base_of (out-Field g).term) q.0 (p.1 k g x i)
    | inr s ↦ subst (λ (w : Field). Has c (base_of (out-Field w).term)) s (q.1 (p.0.known k) (subst (λ (w : Field). (out-Field w).embedded ≡ true) (sym s) i))
  ],
)

pub one_not : (a : List Term) (m : List TypeName) (f : Field) → (out-Field f).embedded ≡ false → PushesOne a m a m f
one_not a m f d = (pushed_none a m, λ k i. absurd (true≢false (sym i ∙ d)))

pub one_pushed : (a b : List Term) (m n : List TypeName) (f : Field) (t : Term) → t ≡ base_of (out-Field f).term → Pushes a m b n t → PushesOne a m b n f
one_pushed a b m n f t e p = (p.0, λ k i. subst (Has b) e (p.1 k))

module _ (T : Table) (top : Term) where
  -- the types that are embedded at the top are there, those in the types looked at too, and the selectors of the latter
  pub record Spreads (at : ℕ) (all : List Term) (seen : List TypeName) (sels : List Sel) : Type 0 where
    pub known : Known all seen
    pub within : at ≤ length all
    pub first : HasEmbedded all (fields_of (under T top))
    pub closed : (u : Term) → Has (take at all) u → HasEmbedded all (fields_of (under T u))
    pub told : (u : Term) → Has (take at all) u → (f : Field) → Has (fields_of (under T u)) f → IsExported (field_sel f) → Has sels (field_sel f)

  pub spreads_first : (fs : List Field) (all : List Term) (seen : List TypeName) (none : List Sel) → fs ≡ fields_of (under T top) → PushesEmbedded [] [] all seen fs → Spreads 0 all seen none
  spreads_first fs all seen none e p = record {
    known = p.0.known (λ n h. absurd h);
    within = omega arith;
    first = subst (HasEmbedded all) e (p.1 (λ n h. absurd h));
    closed = λ u h. absurd h;
    told = λ u h. absurd h;
  }

  pub spreads_more : (at : ℕ) (all new : List Term) (seen newer : List TypeName) (sels longer : List Sel) (u : Term) (fs : List Field) → fs ≡ fields_of (under T u) → Spreads at all seen sels → at < length all → u ≡ get_or all at u → Grows (IsFieldSel fs) sels longer → PushesEmbedded all seen new newer fs → Spreads (at + 1) new newer longer
  spreads_more at all new seen newer sels longer u fs e w h i g p = record {
    known = p.0.known w.known;
    within = (let k = ap length p.0.is in let j = length-append all p.0.more in omega (arith, k, j, h));
    first = λ f m d. pushed_has all new seen newer (base_of (out-Field f).term) p.0 (w.first f m d);
    closed = λ v m. elim (has-back (take at all) u v (subst (λ (z : List Term). Has z v) taken m)) [
      | inl a ↦ λ f n d. pushed_has all new seen newer (base_of (out-Field f).term) p.0 (w.closed v a f n d)
      | inr s ↦ subst (λ (z : Term). HasEmbedded new (fields_of (under T z))) s (subst (HasEmbedded new) e (p.1 w.known))
    ];
    told = λ v m f n x. elim (has-back (take at all) u v (subst (λ (z : List Term). Has z v) taken m)) [
      | inl a ↦ g.kept (field_sel f) (w.told v a f n x)
      | inr s ↦ g.complete (field_sel f) (f, subst (λ (z : List Field). Has z f) (sym e) (subst (λ (z : Term). Has (fields_of (under T z)) f) (sym s) n), (x, refl))
    ];
  }
    where
      taken : take (at + 1) new ≡ take at all ++ u ∷ []
      taken = ap (take (at + 1)) p.0.is ∙ take_append (at + 1) all p.0.more (omega arith) ∙ take_more all at u h ∙ ap (λ x. take at all ++ x ∷ []) (sym i)

-- the end of a path is a field
abbrev IsField : Target → Type 0
IsField (field t) = Unit {0}
IsField (method owner pointer g) = ⊥

field_end : (s : Sel) (through : Bool) (f : Field) (e : Ending) (b : Bool) → same_sel (field_sel f) s ≡ b → Has (if b then record { through = through; target = field (out-Field f).term } ∷ [] else []) e → field_sel f ≡ s
field_end s through f e true i h = sel_is (field_sel f) s i
field_end s through f e false i h = absurd h

declared_end : (owner : Option TypeName) (through : Bool) (m : MethodOf) (e : Ending) (b : Bool) → Has (if b then record { through = through; target = method owner m.pointer m.signature } ∷ [] else []) e → IsField e.target → ⊥
declared_end owner through m e true (inl q) f = subst (λ (x : Ending). IsField x.target) (sym q) f
declared_end owner through m e true (inr q) f = q
declared_end owner through m e false q f = q

method_end : (through : Bool) (m : Method) (e : Ending) (b : Bool) → Has (if b then record { through = through; target = method None false (out-Method m).signature } ∷ [] else []) e → IsField e.target → ⊥
method_end through m e true (inl q) f = subst (λ (x : Ending). IsField x.target) (sym q) f
method_end through m e true (inr q) f = q
method_end through m e false q f = q

-- a step goes to what an embedded field has, or points to
stepped : (through : Bool) (f : Field) (z : Spot) (b : Bool) → (out-Field f).embedded ≡ b → Has (if b then record { through = through || is_pointer (out-Field f).term; term = base_of (out-Field f).term } ∷ [] else []) z → ((out-Field f).embedded ≡ true) × (base_of (out-Field f).term ≡ z.term)
stepped through f z true i (inl q) = (i, ap (λ (x : Spot). x.term) q)
stepped through f z true i (inr q) = absurd q
stepped through f z false i q = absurd q

module _ (T : Table) where
  end_is : (s : Sel) (at : Spot) (e : Ending) → Has (endings T s at) e → IsField e.target → (f : Field) × Has (fields_of (under T at.term)) f × (field_sel f ≡ s)
  end_is s at e h f =
      let fs = gather (field_ending s at.through) (fields_of (under T at.term)) in
      let ds = gather (declared_ending (name_of (out-Term at.term)) s at.through) (declared_methods T (out-Term at.term)) in
      let ms = gather (method_ending s at.through) (methods_of (under T at.term)) in
      elim (has-split (fs ++ ds) ms e h) [
        | inl a ↦ elim (has-split fs ds e a) [
          | inl b ↦ (let k = gather_of (field_ending s at.through) (fields_of (under T at.term)) e b in (k.0, k.1, field_end s at.through k.0 e (same_sel (field_sel k.0) s) refl k.2))
          | inr b ↦ (let k = gather_of (declared_ending (name_of (out-Term at.term)) s at.through) (declared_methods T (out-Term at.term)) e b in absurd (declared_end (name_of (out-Term at.term)) at.through k.0 e (same_sel k.0.sel s) k.2 f))
        ]
        | inr a ↦ (let k = gather_of (method_ending s at.through) (methods_of (under T at.term)) e a in absurd (method_end at.through k.0 e (same_sel (out-Method k.0).sel s) k.2 f))
      ]

  step_in : (all : List Term) (y z : Spot) → HasEmbedded all (fields_of (under T y.term)) → Has (steps T y) z → Has all z.term
  step_in all y z h i =
      let k = gather_of (step y.through) (fields_of (under T y.term)) z i in
      let j = stepped y.through k.0 z (out-Field k.0).embedded refl k.2 in
      subst (Has all) j.1 (h k.0 k.1 j.0)

  module _ (all : List Term) (sels : List Sel) (closed : (u : Term) → Has all u → HasEmbedded all (fields_of (under T u))) (told : (u : Term) → Has all u → (f : Field) → Has (fields_of (under T u)) f → IsExported (field_sel f) → Has sels (field_sel f)) where
    ends_told : (s : Sel) → IsExported s → (d : ℕ) (y : Spot) (e : Ending) → Has all y.term → Has (ends T s d y) e → IsField e.target → Has sels s
    unfolding ends
    ends_told s x zero y e h i f = let k = end_is s y e i f in subst (Has sels) k.2 (told y.term h k.0 k.1 (subst IsExported (sym k.2) x))
    ends_told s x (suc d) y e h i f = let k = gather_of (ends T s d) (steps T y) e i in ends_told s x d k.0 e (step_in all y k.0 (closed y.term h) k.1) k.2 f

    found_told : (s : Sel) → IsExported s → (t : Term) (e : Ending) (d : ℕ) → HasEmbedded all (fields_of (under T (start T t).term)) → ends T s (suc d) (start T t) ≡ e ∷ [] → IsField e.target → Has sels s
    unfolding ends
    found_told s x t e d h o f =
        let k = gather_of (ends T s d) (steps T (start T t)) e (subst (λ (w : List Ending). Has w e) (sym o) (inl refl)) in
        ends_told s x d k.0 e (step_in all (start T t) k.0 h k.1) k.2 f

    found_deep : (s : Sel) → IsExported s → (t : Term) (f : FieldFound) (d : ℕ) → HasEmbedded all (fields_of (under T (start T t).term)) → ends T s d (start T t) ≡ record { through = f.through_pointer; target = field f.term } ∷ [] → f.depth ≡ bounded_depth d → 1 ≤ f.depth → Has sels s
    found_deep s x t f zero h o b l = absurd (omega arith)
    found_deep s x t f (suc d) h o b l = found_told s x t (record { through = f.through_pointer; target = field f.term }) d h o tt

  pub spread : (t top : Term) (at : ℕ) (all : List Term) (seen : List TypeName) (sels : List Sel) → top ≡ (start T t).term → Spreads T top at all seen sels → length all ≤ at → HoldDeepFields T t sels
  spread t top at all seen sels e w h s f x i l =
      found_deep all sels
      (λ u m. w.closed u (subst (λ (z : List Term). Has z u) (sym (take_past at all h)) m))
      (λ u m. w.told u (subst (λ (z : List Term). Has z u) (sym (take_past at all h)) m))
      s x t f i.0 (subst (λ (z : Term). HasEmbedded all (fields_of (under T z))) e w.first) i.1.only i.2 l
