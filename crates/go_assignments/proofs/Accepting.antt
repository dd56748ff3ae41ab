-- Names that accept what is offered to them, one after another.
use Rattle.std.proofs.Common.{◌≡◌, ◌∙◌, ◌<◌, ◌≤◌, ◌+◌, ◌||◌, ℕ, Bool, true, false, List, [], ◌∷◌, None, Result, Ok, Err, length, get_or, drop, refl, sym, ap, subst}
use Rattle.std.specs.Result.{IsErrAnd}
use Rattle.go_model.specs.declared.types.term.Term.{Term}
use Rattle.go_rules.specs.Expressions.{is_blank}
use Rattle.go_rules.specs.Names.{Named, with_value}
use Rattle.go_rules.specs.Scopes.{Scopes as Names, declared_in, is_declared, with_meaning}
use Rattle.go_rules.specs.declared.seen.Seen.{Seen}
use Rattle.go_rules.specs.declared.seen.Seen.TheVariants as seen
use Rattle.go_rules.proofs.OneKind.{no_truth}
use Rattle.go_rules.proofs.OneName.{none_some, one_some}
use Rattle.go_selectors.proofs.Lists.{drop_all, drop_next}
use Rattle.go_type_terms.specs.declared.error.ExprError.{ExprError}
use Rattle.go_type_terms.specs.declared.error.ExprError.TheVariants.{NoMemory, Untyped}
use Rattle.go_assignments.specs.Definitions.{AddsName, KeepsOuter}
use Rattle.go_assignments.specs.declared.defined.Offer.{Offer}
use Rattle.go_assignments.specs.inner.Definitions.{Accepts, accepts_blank, accepts_new, accepts_old, AcceptsAll, AcceptsEach, AcceptsOne}

-- ---- the outer scopes

kept_front : (s : Names) (o : List (Named Seen)) → (o ≡ [] → ⊥) → (scope : Named Seen) × (record s { opened = o } ≡ record s { opened = scope ∷ drop 1 o })
kept_front s [] n = absurd (n refl)
kept_front s (scope ∷ outer) n = (scope, refl)

declared_front : (s : Names) (o : List (Named Seen)) (name : List ℕ) (m : Seen) → (o ≡ [] → ⊥) → (scope : Named Seen) × (declared_in s o name m ≡ record s { opened = scope ∷ drop 1 o })
declared_front s [] name m n = absurd (n refl)
declared_front s (scope ∷ outer) name m n = (with_value scope name m, refl)

pub outer_same : (s t : Names) → (s.opened ≡ [] → ⊥) → t ≡ s → KeepsOuter s t
outer_same s t n e = let f = kept_front s s.opened n in (f.0, e ∙ f.1)

pub outer_added : (s t : Names) (name : List ℕ) (m : Seen) → (s.opened ≡ [] → ⊥) → t ≡ with_meaning s name m → KeepsOuter s t
outer_added s t name m n e = let f = declared_front s s.opened name m n in (f.0, e ∙ f.1)

pub outer_next : (s t u : Names) → KeepsOuter s t → KeepsOuter t u → KeepsOuter s u
outer_next s t u h k = (k.0, k.1 ∙ ap (λ (z : Names). record z { opened = k.0 ∷ drop 1 z.opened }) h.1)

nothing_before : {A : Type 0} {x : A} {xs : List A} → x ∷ xs ≡ [] → ⊥
nothing_before e = absurd (cc)

pub still_opened : (s t : Names) → KeepsOuter s t → t.opened ≡ [] → ⊥
still_opened s t h e = nothing_before (sym (ap (λ (z : Names). z.opened) h.1) ∙ e)

-- ---- one name

module _ (old new : Names) (name : List ℕ) (m : Seen) where
  -- a name that was new
  pub added_new : (b : Bool) → b ≡ true → AddsName old name m new b → (is_declared old name ≡ false) × (new ≡ with_meaning old name m)
  added_new true e h = h
  added_new false e h = absurd (cc)

  -- one that was there
  pub added_none : (b : Bool) → b ≡ false → AddsName old name m new b → (is_declared old name ≡ true) × (new ≡ old)
  added_none true e h = absurd (cc)
  added_none false e h = h

pub accepted_once : {old : Names} {x : Offer} {t u : Names} {a b : Bool} → Accepts old x t a → Accepts old x u b → (t ≡ u) × (a ≡ b)
accepted_once (accepts_blank i k e) (accepts_blank j l f) = (e ∙ sym f, refl)
accepted_once (accepts_blank i k e) (accepts_old j l f) = (e ∙ sym f, refl)
accepted_once (accepts_blank i k e) (accepts_new j d l f) = absurd (no_truth (sym i ∙ j))
accepted_once (accepts_old i k e) (accepts_blank j l f) = (e ∙ sym f, refl)
accepted_once (accepts_old i k e) (accepts_old j l f) = (e ∙ sym f, refl)
accepted_once (accepts_old i k e) (accepts_new j d l f) = absurd (no_truth (sym i ∙ d))
accepted_once (accepts_new i c k e) (accepts_blank j l f) = absurd (no_truth (sym j ∙ i))
accepted_once (accepts_new i c k e) (accepts_old j l f) = absurd (no_truth (sym j ∙ c))
accepted_once {old = old} {x = x} (accepts_new i c k e) (accepts_new j d l f) = (e ∙ ap (λ (t : Term). with_meaning old x.name.now.text (seen.Local t)) (one_some (sym k ∙ l)) ∙ sym f, refl)

-- a typed value isn't accepted: the scope has the name, and its variable may not be given it
pub typed_refused : (old : Names) (x : Offer) → is_blank x.name.now.text ≡ false → is_declared old x.name.now.text ≡ true → x.fits ≡ false → (t : Names) (any : Bool) → Accepts old x t any → ⊥
typed_refused old x b d f t any (accepts_blank i k e) = no_truth (sym i ∙ b)
typed_refused old x b d f t any (accepts_old i k e) = no_truth (sym k ∙ f)
typed_refused old x b d f t any (accepts_new i j k e) = no_truth (sym d ∙ j)

-- one without a type isn't: the scope hasn't the name
pub new_refused : (old : Names) (x : Offer) → x.term ≡ None → is_declared old x.name.now.text ≡ false → (t : Names) (any : Bool) → Accepts old x t any → ⊥
new_refused old x n d t any (accepts_blank i k e) = none_some (sym n ∙ k)
new_refused old x n d t any (accepts_old i k e) = no_truth (sym i ∙ d)
new_refused old x n d t any (accepts_new i j k e) = none_some (sym n ∙ k)

-- or its variable may not be given it
pub old_refused : (old : Names) (x : Offer) → x.term ≡ None → x.fits ≡ false → (t : Names) (any : Bool) → Accepts old x t any → ⊥
old_refused old x n f t any (accepts_blank i k e) = none_some (sym n ∙ k)
old_refused old x n f t any (accepts_old i k e) = no_truth (sym k ∙ f)
old_refused old x n f t any (accepts_new i j k e) = none_some (sym n ∙ k)

-- ---- all names

or_assoc : (a b c : Bool) → ((a || b) || c) ≡ (a || (b || c))
or_assoc true b c = refl
or_assoc false b c = refl

or_false : (a : Bool) → (a || false) ≡ a
or_false true = refl
or_false false = refl

pub all_once : (xs : List Offer) (old t u : Names) (a b : Bool) → AcceptsAll old xs t a → AcceptsAll old xs u b → (t ≡ u) × (a ≡ b)
all_once [] old t u a b h k = (h.0 ∙ sym k.0, h.1 ∙ sym k.1)
all_once (x ∷ xs) old t u a b (m, p, q, h, r, e) (n, c, d, k, s, f) =
    let one = accepted_once k h in
    let rest = all_once xs m t u q d r (subst (λ (z : Names). AcceptsAll z xs u d) one.0 s) in
    (rest.0, e ∙ ap (λ (z : Bool). z || q) (sym one.1) ∙ ap (λ (z : Bool). c || z) rest.1 ∙ sym f)

-- what the names that are left accept is what all do, behind those before
pub record Goes (old : Names) (whole : List Offer) (at : Names) (rest : List Offer) (any : Bool) : Type 0 where
  pub to : (new : Names) (others : Bool) → AcceptsAll at rest new others → AcceptsAll old whole new (any || others)
  pub from : (new : Names) (all : Bool) → AcceptsAll old whole new all → (others : Bool) × AcceptsAll at rest new others × (all ≡ (any || others))

pub goes_begin : (old : Names) (whole : List Offer) → Goes old whole old whole false
goes_begin old whole = record { to = λ new others h. h; from = λ new all h. (all, h, refl) }

goes_on : (old : Names) (whole : List Offer) (at : Names) (x : Offer) (rest : List Offer) (any : Bool) (mid : Names) (first : Bool) → Accepts at x mid first → Goes old whole at (x ∷ rest) any → Goes old whole mid rest (any || first)
goes_on old whole at x rest any mid first k g = record {
  to = λ new others h. subst (λ (b : Bool). AcceptsAll old whole new b) (sym (or_assoc any first others)) (g.to new (first || others) (mid, first, others, k, h, refl));
  from = λ new all h. behind new all (g.from new all h);
}
  where
    behind : (new : Names) (all : Bool) → (others : Bool) × AcceptsAll at (x ∷ rest) new others × (all ≡ (any || others)) → (others : Bool) × AcceptsAll mid rest new others × (all ≡ ((any || first) || others))
    behind new all (b, (n, p, q, l, r, f), e) =
        let one = accepted_once l k in
        (q, subst (λ (z : Names). AcceptsAll z rest new q) one.0 r, e ∙ ap (λ (z : Bool). any || z) (f ∙ ap (λ (z : Bool). z || q) one.1) ∙ sym (or_assoc any first q))

module _ (old : Names) (whole : List Offer) (i : ℕ) (at : Names) (any : Bool) (g : Goes old whole at (drop i whole) any) where
  pub goes_whole : length whole ≤ i → AcceptsAll old whole at any
  goes_whole h =
      let ended = subst (λ (xs : List Offer). Goes old whole at xs any) (drop_all i whole h) g in
      subst (λ (b : Bool). AcceptsAll old whole at b) (or_false any) (ended.to at false (refl, refl))

  module _ (x : Offer) (h : i < length whole) (e : x ≡ get_or whole i x) where
    there : Goes old whole at (x ∷ drop (i + 1) whole) any
    there = subst (λ (xs : List Offer). Goes old whole at xs any) (drop_next i whole x h e) g

    pub goes_next : (mid : Names) (first all : Bool) → Accepts at x mid first → all ≡ (any || first) → Goes old whole mid (drop (i + 1) whole) all
    goes_next mid first all k f = subst (λ (b : Bool). Goes old whole mid (drop (i + 1) whole) b) (sym f) (goes_on old whole at x (drop (i + 1) whole) any mid first k there)

    first_of : (new : Names) (all : Bool) → AcceptsAll old whole new all → (mid : Names) × (first : Bool) × Accepts at x mid first
    first_of new all k = let w = (there.from new all k).1 in (w.0, w.1, w.3)

    -- where the next one accepts nothing
    pub goes_no_further : (mid new : Names) (f : ExprError) (r : Result Bool ExprError) → IsErrAnd r (λ y. y ≡ f) → AcceptsOne at x mid (Err f) → AcceptsEach old whole new r
    goes_no_further mid new f (Ok a) k w = absurd k
    goes_no_further mid new f (Err NoMemory) k w = tt
    goes_no_further mid new Untyped (Err Untyped) k w = λ t all l. let b = first_of t all l in w b.0 b.1 b.2
    goes_no_further mid new NoMemory (Err Untyped) k w = absurd (cc)
