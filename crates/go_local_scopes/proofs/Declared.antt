-- What a name declares in the innermost scope, and names one after another.
use Rattle.std.proofs.Common.{◌≡◌, ℕ, zero, suc, Bool, true, false, List, [], ◌∷◌, ◌<◌, ◌≤◌, ◌+◌, length, drop, get_or, Option, None, Some, Result, Ok, Err, refl, sym, ap, ◌∙◌, subst, is_some, arith}
use Rattle.std.specs.Prelude.{IfOk}
use denote.Ref.{Bor}
use Rattle.go_base.specs.declared.memory.NoMemory.{NoMemory}
use Rattle.go_local_scopes.specs.Slots.{name_in, names_in}
use Rattle.go_local_scopes.specs.States.{Kept, Reaches}
use Rattle.go_local_scopes.proofs.Standing.{some_scope}
use Rattle.go_rules.specs.Expressions.{is_blank}
use Rattle.go_rules.specs.Names.{Named, value_at, with_value}
use Rattle.go_rules.specs.Scopes.{Scopes as Known, declared_in, is_declared, scope_in, with_meaning}
use Rattle.go_rules.specs.declared.env.DeclareError.{DeclareError}
use Rattle.go_rules.specs.declared.env.DeclareError.TheVariants.{Already}
use Rattle.go_rules.specs.declared.seen.Seen.{Seen}
use Rattle.go_rules.proofs.OneKind.{no_truth}
use Rattle.go_rules.proofs.OneName.{none_some}
use Rattle.go_selectors.proofs.Lists.{drop_all, drop_next}
use Rattle.go_statement_rules.specs.Scopes.{Scopes, Declares, declares_blank, declares_name, declares_none, declares_nothing}
use Rattle.go_syntax.specs.declared.name.Name.{Name}

-- ---- answers

pub ok_already : {A : Type 0} {x : A} → ◌≡◌ {A = Result A DeclareError} (Ok x) (Err Already) → ⊥
ok_already e = absurd (cc)

-- ---- one name

same_name : {p q : Name} → Some p ≡ Some q → p ≡ q
same_name e = cc

same_scope : {p q : Named Seen} {a c : Scopes} → p ∷ a ≡ q ∷ c → p ≡ q
same_scope e = cc

no_value : {A : Type 0} (x : Option A) → is_some x ≡ false → x ≡ None
no_value None e = refl
no_value (Some v) e = absurd (no_truth e)

some_value : {A : Type 0} (x : Option A) → is_some x ≡ true → x ≡ None → ⊥
some_value None e n = no_truth (sym e)
some_value (Some v) e n = none_some (sym n)

module _ (e : Known) (some : e.opened ≡ [] → ⊥) (n : Name) (x : Seen) where
  scope : Named Seen
  scope = (some_scope e.opened some).0

  m : e.opened ≡ scope ∷ drop 1 e.opened
  unfolding scope
  m = (some_scope e.opened some).1

  -- the innermost scope
  scope_is : scope_in e e.opened ≡ scope
  scope_is = ap (scope_in e) m

  named : with_meaning e n.text x ≡ record e { opened = with_value scope n.text x ∷ drop 1 e.opened }
  named = ap (λ (t : Scopes). declared_in e t n.text x) m

  declared_here : (t : Scopes) → t ≡ scope ∷ drop 1 e.opened → is_blank n.text ≡ false → value_at scope n.text ≡ None → Declares t (Some n ∷ []) (x ∷ []) (with_value scope n.text x ∷ drop 1 e.opened)
  declared_here t i b v = subst (λ (z : Scopes). Declares z (Some n ∷ []) (x ∷ []) (with_value scope n.text x ∷ drop 1 e.opened)) (sym i) (declares_name b v declares_none)

  -- the scope hadn't it
  module _ (f : Known) (d : f ≡ with_meaning e n.text x) where
    pub name_kept : Kept e f
    name_kept = (with_value scope n.text x, d ∙ named)

    opened_is : f.opened ≡ with_value scope n.text x ∷ drop 1 e.opened
    opened_is = ap (λ (g : Known). g.opened) (d ∙ named)

    pub name_declared : is_blank n.text ≡ false → (is_declared e n.text ≡ true → ⊥) → Declares e.opened (Some n ∷ []) (x ∷ []) f.opened
    name_declared b free =
        let v : value_at scope n.text ≡ None = no_value (value_at scope n.text) (untrue (is_some (value_at scope n.text)) (λ h. free (ap (λ (z : Named Seen). is_some (value_at z n.text)) scope_is ∙ h))) in
        subst (Declares e.opened (Some n ∷ []) (x ∷ [])) (sym opened_is) (declared_here e.opened m b v)
      where
        untrue : (b : Bool) → (b ≡ true → ⊥) → b ≡ false
        untrue true h = absurd (h refl)
        untrue false h = refl

  -- the scope has it
  barred : (s t u : Scopes) (k : Option Name) → k ≡ Some n → s ≡ scope ∷ t → is_blank n.text ≡ false → is_some (value_at scope n.text) ≡ true → Declares s (k ∷ []) (x ∷ []) u → ⊥
  barred s t u k i j b v (declares_nothing d) = none_some i
  barred s t u k i j b v (declares_blank {n = o} w d) = no_truth (sym w ∙ ap (λ (z : Name). is_blank z.text) (same_name i) ∙ b)
  barred s t u k i j b v (declares_name {scope = inner} {n = o} w free d) =
      some_value (value_at scope n.text) v (ap (λ (z : Named Seen). value_at z n.text) (sym (same_scope j)) ∙ ap (λ (z : Name). value_at inner z.text) (sym (same_name i)) ∙ free)

  pub name_barred : is_blank n.text ≡ false → is_declared e n.text ≡ true → (u : Scopes) → Declares e.opened (Some n ∷ []) (x ∷ []) u → ⊥
  name_barred b h u d = barred e.opened (drop 1 e.opened) u (Some n) refl m b (ap (λ (z : Named Seen). is_some (value_at z n.text)) (sym scope_is) ∙ h) d

pub blank_declared : (s : Scopes) (n : Name) (x : Seen) → is_blank n.text ≡ true → Declares s (Some n ∷ []) (x ∷ []) s
blank_declared s n x b = declares_blank b declares_none

pub nothing_declared : (s : Scopes) (x : Seen) → Declares s (None ∷ []) (x ∷ []) s
nothing_declared s x = declares_nothing declares_none

-- ---- names one after another

-- what these declare is what those declare
pub record Onwards (s : Scopes) (ns : List (Option Name)) (ms : List Seen) (t : Scopes) (os : List (Option Name)) (ls : List Seen) : Type 0 where
  pub to : (u : Scopes) → Declares t os ls u → Declares s ns ms u
  pub from : (u : Scopes) → Declares s ns ms u → Declares t os ls u

pub lengths_declared : {s u : Scopes} {ns : List (Option Name)} {ms : List Seen} → Declares s ns ms u → length ns ≡ length ms
lengths_declared declares_none = refl
lengths_declared (declares_nothing d) = ap suc (lengths_declared d)
lengths_declared (declares_blank b d) = ap suc (lengths_declared d)
lengths_declared (declares_name b v d) = ap suc (lengths_declared d)

first_and : {s t : Scopes} (k : Option Name) (x : Seen) {ns : List (Option Name)} {ms : List Seen} {u : Scopes} → Declares s (k ∷ []) (x ∷ []) t → Declares t ns ms u → Declares s (k ∷ ns) (x ∷ ms) u
first_and None x (declares_nothing declares_none) d = declares_nothing d
first_and (Some n) x (declares_blank b declares_none) d = declares_blank b d
first_and (Some n) x (declares_name b v declares_none) d = declares_name b v d

parted : {s u : Scopes} (k : Option Name) (x : Seen) {ns : List (Option Name)} {ms : List Seen} → Declares s (k ∷ ns) (x ∷ ms) u → (t : Scopes) × Declares s (k ∷ []) (x ∷ []) t × Declares t ns ms u
parted None x (declares_nothing d) = (_, declares_nothing declares_none, d)
parted (Some n) x (declares_blank b d) = (_, declares_blank b declares_none, d)
parted (Some n) x (declares_name b v d) = (_, declares_name b v declares_none, d)

-- one name leaves one list of scopes
one_declared : {s t u : Scopes} (k : Option Name) (x : Seen) → Declares s (k ∷ []) (x ∷ []) t → Declares s (k ∷ []) (x ∷ []) u → t ≡ u
one_declared None x (declares_nothing declares_none) (declares_nothing declares_none) = refl
one_declared (Some n) x (declares_blank b declares_none) (declares_blank c declares_none) = refl
one_declared (Some n) x (declares_blank b declares_none) (declares_name c v declares_none) = absurd (no_truth (sym b ∙ c))
one_declared (Some n) x (declares_name c v declares_none) (declares_blank b declares_none) = absurd (no_truth (sym b ∙ c))
one_declared (Some n) x (declares_name b v declares_none) (declares_name c w declares_none) = refl

module _ (s : Scopes) (ns : List (Option Name)) (ms : List Seen) where
  pub onwards_begin : Onwards s ns ms s ns ms
  onwards_begin = record { to = λ u d. d; from = λ u d. d }

  pub onwards_done : (t : Scopes) (i : ℕ) → length ns ≡ length ms → length ns ≤ i → Onwards s ns ms t (drop i ns) (drop i ms) → Declares s ns ms t
  onwards_done t i h l o = o.to t (subst (λ (xs : List (Option Name)). Declares t xs (drop i ms) t) (sym (drop_all i ns l)) (subst (λ (xs : List Seen). Declares t [] xs t) (sym (drop_all i ms (omega (arith, h, l)))) declares_none))

  module _ (t : Scopes) (i : ℕ) (k : Option Name) (x : Seen) (h : i < length ns) (same : length ns ≡ length ms) (e : k ≡ get_or ns i k) (f : x ≡ get_or ms i x) (o : Onwards s ns ms t (drop i ns) (drop i ms)) where
    here : Onwards s ns ms t (k ∷ drop (i + 1) ns) (x ∷ drop (i + 1) ms)
    here = subst (λ (xs : List (Option Name)). Onwards s ns ms t xs (x ∷ drop (i + 1) ms)) (drop_next i ns k h e) (subst (λ (xs : List Seen). Onwards s ns ms t (drop i ns) xs) (drop_next i ms x (omega (arith, h, same)) f) o)

    pub onwards_next : (u : Scopes) → Declares t (k ∷ []) (x ∷ []) u → Onwards s ns ms u (drop (i + 1) ns) (drop (i + 1) ms)
    onwards_next u d = record {
      to = λ v g. here.to v (first_and k x d g);
      from = λ v g. let p = parted k x (here.from v g) in subst (λ (z : Scopes). Declares z (drop (i + 1) ns) (drop (i + 1) ms) v) (one_declared k x p.1 d) p.2;
    }

    pub onwards_not : ((u : Scopes) → Declares t (k ∷ []) (x ∷ []) u → ⊥) → (u : Scopes) → Declares s ns ms u → ⊥
    onwards_not none u g = let p = parted k x (here.from u g) in none p.0 p.1

-- ---- borrowed names

pub named_at : (ns : List (Option (Bor Name))) (i : ℕ) (n : Option (Bor Name)) → n ≡ get_or ns i n → name_in n ≡ get_or (names_in ns) i (name_in n)
named_at [] i n e = refl
named_at (m ∷ ns) zero n e = ap name_in e
named_at (m ∷ ns) (suc i) n e = named_at ns i n e

pub named_length : (ns : List (Option (Bor Name))) → length (names_in ns) ≡ length ns
named_length [] = refl
named_length (n ∷ ns) = ap suc (named_length ns)

-- the same names and meanings
pub declared_as : (o t : Scopes) (ns ms : List (Option Name)) (xs ys : List Seen) (r : Result Bool NoMemory) → ns ≡ ms → xs ≡ ys → IfOk r (λ b. Reaches b (Declares o ns xs) t) → IfOk r (λ b. Reaches b (Declares o ms ys) t)
declared_as o t ns ms xs ys r e i h = subst (λ (zs : List Seen). IfOk r (λ b. Reaches b (Declares o ms zs) t)) i (subst (λ (zs : List (Option Name)). IfOk r (λ b. Reaches b (Declares o zs xs) t)) e h)

pub err_same : {x y : DeclareError} → x ≡ y → ◌≡◌ {A = Result (Unit {0}) DeclareError} (Err x) (Err y)
err_same e = ap Err e
