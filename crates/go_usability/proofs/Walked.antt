-- A walk over the levels of a search decides whether each type on them is told.
use Rattle.std.proofs.Common.{◌≡◌, ◌≤◌, ◌<◌, ◌+◌, ℕ, zero, suc, Bool, true, false, ◌⊎◌, inl, inr, List, [], ◌∷◌, ◌++◌, length, take, drop, get_or, refl, sym, ap, ◌∙◌, subst, arith, length-append, append-nil}
use Rattle.std.proofs.lemmas.List.{take-append-drop}
use Rattle.go_base.specs.Gathered.{gather}
use Rattle.go_base.specs.Lists.{Has}
use Rattle.go_model.specs.declared.types.names.Sel.{Sel}
use Rattle.go_model.specs.declared.types.names.TypeName.{TypeName}
use Rattle.go_model.specs.declared.types.term.Field.{Field}
use Rattle.go_model.specs.declared.types.term.Term.{Term, Term-F}
use Rattle.go_model.specs.types.Selectors.{start}
use Rattle.go_model.specs.types.Tables.{Table}
use Rattle.go_model.specs.types.Terms.{Layer}
use Rattle.go_model.specs.types.Underlying.{under, fields_of}
use Rattle.go_rules.specs.Environments.{Env, Begins, Told}
use Rattle.go_types.proofs.go_selectors_proofs.Lists.{gather-append, gather_of, gather_has, has-back, has-left, has-right, has-split, item_has, taken_next}
use Rattle.go_types.specs.go_selectors.Answers.{Decides}
use Rattle.go_types.proofs.Walks.{pushed_none, pushed_more, pushed_as, pushed_has}
use Rattle.go_types.specs.Parts.{Known, Pushed, Pushes}
use Rattle.go_usability.proofs.Levels.{down_to, to_down}
use Rattle.go_usability.specs.inner.Levels.{embedded, further, level, PushesAll, ToldDown, ToldFrom, Visits}

-- ---- what was added

pub all_none : (all : List Term) (met : List TypeName) → PushesAll all met all met []
all_none all met = (pushed_none all met, λ k u h. absurd h)

pub all_one : (all new : List Term) (met newer : List TypeName) (t : Term) → Pushes all met new newer t → PushesAll all met new newer (t ∷ [])
all_one all new met newer t p = (
  pushed_as all new met newer (λ u e. inl e) p.0,
  λ k u h. elim h [ inl e ↦ subst (Has new) e (p.1 k) | inr n ↦ absurd n ],
)

pub all_more : (a b c : List Term) (m n o : List TypeName) (ts us : List Term) → PushesAll a m b n ts → PushesAll b n c o us → PushesAll a m c o (ts ++ us)
all_more a b c m n o ts us p q = (
  pushed_more a b c m n o (pushed_as a b m n (λ t h. has-left ts us t h) p.0) (pushed_as b c n o (λ t h. has-right ts us t h) q.0),
  λ k u h. elim (has-split ts us u h) [ inl x ↦ pushed_has b c n o u q.0 (p.1 k u x) | inr y ↦ q.1 (p.0.known k) u y ],
)

-- one more item of a list was gathered
pub gathered_more : {A : Type 0} (f : A → List Term) (a b c : List Term) (m n o : List TypeName) (xs ys : List A) (x : A) → ys ≡ xs ++ x ∷ [] → PushesAll a m b n (gather f xs) → PushesAll b n c o (f x) → PushesAll a m c o (gather f ys)
gathered_more f a b c m n o xs ys x e p q = subst (PushesAll a m c o) (sym joined) (all_more a b c m n o (gather f xs) (f x) p q)
  where
    joined : gather f ys ≡ gather f xs ++ f x
    joined = ap (gather f) e ∙ gather-append f xs (x ∷ []) ∙ ap (λ w. gather f xs ++ w) (append-nil (f x))

-- ---- lists

take_all : {A : Type 0} (xs ys : List A) → take (length xs) (xs ++ ys) ≡ xs
take_all [] ys = refl
take_all (x ∷ xs) ys = ap (λ zs. x ∷ zs) (take_all xs ys)

drop_front : {A : Type 0} (xs ys : List A) → drop (length xs) (xs ++ ys) ≡ ys
drop_front [] ys = refl
drop_front (x ∷ xs) ys = drop_front xs ys

-- an item stands before a place or from it on
parted : (from : ℕ) (all : List Term) (u : Term) → Has all u → Has (take from all) u ⊎ Has (drop from all) u
parted from all u h = has-split (take from all) (drop from all) u (subst (λ (w : List Term). Has w u) (sym (take-append-drop from all)) h)

from_take : (from : ℕ) (all : List Term) (u : Term) → Has (take from all) u → Has all u
from_take from all u h = subst (λ (w : List Term). Has w u) (take-append-drop from all) (has-left (take from all) (drop from all) u h)

from_drop : (from : ℕ) (all : List Term) (u : Term) → Has (drop from all) u → Has all u
from_drop from all u h = subst (λ (w : List Term). Has w u) (take-append-drop from all) (has-right (take from all) (drop from all) u h)

-- ---- the walk

module _ (E : Env) (s : Sel) (t : Term) where
  -- the types before a place are told, and those of each level so far are among them; from the place on stand those of the next
  pub record Walked (k from : ℕ) (all : List Term) (met : List TypeName) : Type 0 where
    pub within : from ≤ length all
    pub known : Known all met
    pub sub : (u : Term) → Has (drop from all) u → Has (level E.table k t) u
    pub covers : (m : ℕ) → m < k → (u : Term) → Has (level E.table m t) u → Has (take from all) u
    pub reach : (u : Term) → Has (level E.table k t) u → Has all u
    pub told : (u : Term) → Has (take from all) u → Told E s u
    pub closed : (u : Term) → Has (take from all) u → (v : Term) → Has (further E.table u) v → Has all v

  pub first_walked : (none all : List Term) (fresh met : List TypeName) → none ≡ [] → fresh ≡ [] → Pushes none fresh all met t → Walked 0 0 all met
  first_walked none all fresh met e f p = record {
    within = omega arith;
    known = p.0.known known_none;
    sub = λ u h. elim (has-split none p.0.more u (subst (λ (w : List Term). Has w u) p.0.is h)) [ inl a ↦ absurd (subst (λ (w : List Term). Has w u) e a) | inr b ↦ inl (p.0.each u b) ];
    covers = λ m l u h. absurd (omega arith);
    reach = λ u h. elim h [ inl i ↦ subst (Has all) i (p.1 known_none) | inr n ↦ absurd n ];
    told = λ u h. absurd h;
    closed = λ u h. absurd h;
  }
    where
      known_none : Known none fresh
      known_none n h = absurd (subst (λ (w : List TypeName). Has w n) f h)

  -- a level was visited
  pub next_walked : (k from : ℕ) (all new layer : List Term) (met newer : List TypeName) → Walked k from all met → layer ≡ drop from all → Visits E s layer all met new newer true → Walked (k + 1) (length all) new newer
  next_walked k from all new layer met newer w e v = record {
    within = (let a = ap length p.is in let b = length-append all p.more in omega (arith, a, b));
    known = p.known w.known;
    sub = λ u h. let a = gather_of (further E.table) (drop from all) u (pushed u (subst (λ (z : List Term). Has z u) (ap (drop (length all)) p.is ∙ drop_front all p.more) h)) in subst (λ (n : ℕ). Has (level E.table n t) u) (sym next) (gather_has (further E.table) (level E.table k t) a.0 u (w.sub a.0 a.1) a.2);
    covers = λ m l u h. taken u (elim (compared m k l) [ inl a ↦ from_take from all u (w.covers m a u h) | inr i ↦ w.reach u (subst (λ (n : ℕ). Has (level E.table n t) u) i h) ]);
    reach = λ u h. let a = gather_of (further E.table) (level E.table k t) u (subst (λ (n : ℕ). Has (level E.table n t) u) next h) in stays a.0 u (w.reach a.0 a.1) a.2;
    told = λ u h. elim (parted from all u (untaken u h)) [ inl a ↦ w.told u a | inr b ↦ v.0 u (subst (λ (z : List Term). Has z u) (sym e) b) ];
    closed = λ u h x i. stays u x (untaken u h) i;
  }
    where
      p : Pushed (Has (gather (further E.table) layer)) all met new newer
      p = v.1.0

      next : k + 1 ≡ suc k
      next = omega arith

      front : take (length all) new ≡ all
      front = ap (take (length all)) p.is ∙ take_all all p.more

      taken : (u : Term) → Has all u → Has (take (length all) new) u
      taken u h = subst (λ (z : List Term). Has z u) (sym front) h

      untaken : (u : Term) → Has (take (length all) new) u → Has all u
      untaken u h = subst (λ (z : List Term). Has z u) front h

      pushed : (u : Term) → Has p.more u → Has (gather (further E.table) (drop from all)) u
      pushed u h = subst (λ (z : List Term). Has (gather (further E.table) z) u) e (p.each u h)

      compared : (m n : ℕ) → m < n + 1 → (m < n) ⊎ (m ≡ n)
      compared zero zero l = inr refl
      compared zero (suc n) l = inl (omega arith)
      compared (suc m) zero l = absurd (omega arith)
      compared (suc m) (suc n) l = elim (compared m n (omega arith)) [ inl a ↦ inl (omega arith) | inr i ↦ inr (ap suc i) ]

      stays : (u x : Term) → Has all u → Has (further E.table u) x → Has new x
      stays u x h i = elim (parted from all u h) [
        | inl a ↦ pushed_has all new met newer x p (w.closed u a x i)
        | inr b ↦ v.1.1 w.known x (subst (λ (z : List Term). Has (gather (further E.table) z) x) (sym e) (gather_has (further E.table) (drop from all) u x b i))
      ]

  pub next_walked_at : (k from n : ℕ) (all new layer : List Term) (met newer : List TypeName) → n ≡ length all → Walked k from all met → layer ≡ drop from all → Visits E s layer all met new newer true → Walked (k + 1) n new newer
  next_walked_at k from n all new layer met newer q w e v = subst (λ (m : ℕ). Walked (k + 1) m new newer) (sym q) (next_walked k from all new layer met newer w e v)

  -- each level was visited
  pub all_walked : (depth n from : ℕ) (all : List Term) (met : List TypeName) → Walked n from all met → depth < n → ToldDown E s depth t
  all_walked depth n from all met w more k l u h = w.told u (w.covers k (omega arith) u h)

  -- a type of a level isn't told
  pub not_walked : (depth k from : ℕ) (all new layer : List Term) (met newer : List TypeName) → Walked k from all met → k ≤ depth → layer ≡ drop from all → Visits E s layer all met new newer false → ToldDown E s depth t → ⊥
  not_walked depth k from all new layer met newer w l e v d = v.2 (d k (omega arith) v.0 (w.sub v.0 (subst (λ (z : List Term). Has z v.0) e v.1)))

pub visits_so : (E : Env) (s : Sel) (layer old : List Term) (seen : List TypeName) (new : List Term) (newer : List TypeName) (answer told : Bool) → answer ≡ told → Visits E s layer old seen new newer answer → Visits E s layer old seen new newer told
visits_so E s layer old seen new newer answer told e v = subst (Visits E s layer old seen new newer) e v

-- ---- from where paths begin

pub told_decides : (E : Env) (s : Sel) (depth : ℕ) (t at : Term) (begun told : Bool) → at ≡ (start E.table t).term → begun ≡ true → Decides begun (Begins E t) → Decides told (ToldDown E s depth at) → Decides told (ToldFrom E s depth t)
told_decides E s depth t at begun true e f b d = (subst (λ b. Decides b (Begins E t)) f b, down_to E s depth (start E.table t) (subst (ToldDown E s depth) e d))
told_decides E s depth t at begun false e f b d = λ h. d (subst (ToldDown E s depth) (sym e) (to_down E s depth (start E.table t) h.1))

pub not_begun : (E : Env) (s : Sel) (depth : ℕ) (t : Term) (begun : Bool) → begun ≡ false → Decides begun (Begins E t) → ToldFrom E s depth t → ⊥
not_begun E s depth t begun f b h = (subst (λ b. Decides b (Begins E t)) f b) h.0

-- ---- a level, type by type

module _ (E : Env) (s : Sel) (layer : List Term) (i : ℕ) (x t : Term) (answer : Bool) (h : i < length layer) (e : x ≡ get_or layer i x) (q : t ≡ x) where
  -- one isn't told
  pub untold_level : answer ≡ false → Decides answer (Told E s t) → (u : Term) × Has layer u × (Told E s u → ⊥)
  untold_level f d = (x, item_has layer i x h e, λ k. (subst (λ b. Decides b (Told E s t)) f d) (subst (Told E s) (sym q) k))

  -- one more is, and the types one field further were added
  pub told_more : (a b c : List Term) (m n o : List TypeName) → answer ≡ true → Decides answer (Told E s t) → Visits E s (take i layer) a m b n true → PushesAll b n c o (further E.table t) → Visits E s (take (i + 1) layer) a m c o true
  told_more a b c m n o f d v p = (
    λ u j. elim (has-back (take i layer) x u (subst (λ (w : List Term). Has w u) taken j)) [ inl k ↦ v.0 u k | inr k ↦ subst (Told E s) (q ∙ k) (subst (λ b. Decides b (Told E s t)) f d) ],
    gathered_more (further E.table) a b c m n o (take i layer) (take (i + 1) layer) x taken v.1 (subst (λ (w : Term). PushesAll b n c o (further E.table w)) q p),
  )
    where
      taken : take (i + 1) layer ≡ take i layer ++ x ∷ []
      taken = taken_next layer i x h e

pub none_visited : (E : Env) (s : Sel) (old : List Term) (seen : List TypeName) → Visits E s [] old seen old seen true
none_visited E s old seen = (λ u h. absurd h, all_none old seen)

-- ---- the types one field further

pub further_struct : (T : Table) (t : Term) (fs gs : List Field) (a b : List Term) (m n : List TypeName) → under T t ≡ Term-F.Struct fs → gs ≡ fs → PushesAll a m b n (gather embedded gs) → PushesAll a m b n (further T t)
further_struct T t fs gs a b m n e q p = subst (λ (l : Layer). PushesAll a m b n (gather embedded (fields_of l))) (sym e) (subst (λ (w : List Field). PushesAll a m b n (gather embedded w)) q p)
