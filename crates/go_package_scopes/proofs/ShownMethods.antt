-- The methods of a selector that are had, and shown where none with it is missing.
use Rattle.std.proofs.Common.{◌≡◌, Bool, true, false, ◌&&◌, ◌||◌, List, [], ◌∷◌, ◌++◌, map, Option, Some, None, refl, sym, ap, ◌∙◌, subst, inl, inr, append_assoc}
use Rattle.std.specs.Prelude.{if◌then◌else◌}
use Rattle.std.specs.Cmp.Lexicographic.{bytes_decides}
use Rattle.std.specs.Str.{bytes_eq}
use mathlib.Core.Bool.{true≢false}
use Rattle.go_base.specs.Lists.{Has}
use Rattle.go_model.specs.declared.types.names.Sel.{Sel}
use Rattle.go_model.specs.declared.types.package.MethodOf.{MethodOf}
use Rattle.go_model.specs.declared.types.term.Signature.{Signature}
use Rattle.go_model.specs.types.Terms.{same_sel}
use Rattle.go_rules.specs.Environments.{is_among}
use Rattle.go_rules.specs.Growth.{if_named, methods_named}
use Rattle.go_rules.specs.Scopes.{is_had}
use Rattle.go_typings.specs.PackageEnvironments.{Entries, had, had_of, missing, missing_of, signature_of}
use Rattle.go_typings.specs.Receivers.{DeclaredMethod}
use Rattle.go_typings.proofs.Cells.{if_false, if_true, or_false}
use Rattle.go_package_scopes.specs.KeptScopes.{selector_of, shown}

-- ---- selectors

both : (a b : Bool) → (a && b) ≡ true → (a ≡ true) × (b ≡ true)
both true b e = (refl, e)
both false b e = absurd (true≢false (sym e))

pub sel_is : (a b : Sel) → same_sel a b ≡ true → a ≡ b
sel_is a b e =
    let k = both (bytes_eq a.name b.name) (bytes_eq a.«package» b.«package») e in
    let p = (bytes_decides a.name b.name).0 k.0 in
    let q = (bytes_decides a.«package» b.«package»).0 k.1 in
    λ i. record { name = p i; «package» = q i }

pub sel_self : (s : Sel) → same_sel s s ≡ true
sel_self s = ap (λ b. b && bytes_eq s.«package» s.«package») ((bytes_decides s.name s.name).1 refl) ∙ (bytes_decides s.«package» s.«package»).1 refl

-- ---- methods of a selector

module _ (s : Sel) where
  named_same : (m : MethodOf) → same_sel m.sel s ≡ true → if_named s m ≡ m ∷ []
  named_same m e = let x : List MethodOf = m ∷ [] in let none : List MethodOf = [] in if_true (same_sel m.sel s) x none e

  named_other : (m : MethodOf) → same_sel m.sel s ≡ false → if_named s m ≡ []
  named_other m e = let x : List MethodOf = m ∷ [] in let none : List MethodOf = [] in if_false (same_sel m.sel s) x none e

  pub named_both : (ms ns : List MethodOf) → methods_named s (ms ++ ns) ≡ methods_named s ms ++ methods_named s ns
  named_both [] ns = refl
  named_both (m ∷ ms) ns = ap (λ z. if_named s m ++ z) (named_both ms ns) ∙ sym (append_assoc (if_named s m) (methods_named s ms) (methods_named s ns))

  named_twice : (ms : List MethodOf) → methods_named s (methods_named s ms) ≡ methods_named s ms
  named_twice [] = refl
  named_twice (m ∷ ms) = by (same_sel m.sel s) refl (named_twice ms)
    where
      by : (b : Bool) → same_sel m.sel s ≡ b → methods_named s (methods_named s ms) ≡ methods_named s ms → methods_named s ((if b then m ∷ [] else []) ++ methods_named s ms) ≡ (if b then m ∷ [] else []) ++ methods_named s ms
      by true e rest = ap (λ z. z ++ methods_named s (methods_named s ms)) (named_same m e) ∙ ap (λ z. m ∷ z) rest
      by false e rest = rest

  -- of another selector
  named_apart : (t : Sel) → same_sel t s ≡ false → (ms : List MethodOf) → methods_named s (methods_named t ms) ≡ []
  named_apart t apart [] = refl
  named_apart t apart (m ∷ ms) = by (same_sel m.sel t) refl (named_apart t apart ms)
    where
      by : (b : Bool) → same_sel m.sel t ≡ b → methods_named s (methods_named t ms) ≡ [] → methods_named s ((if b then m ∷ [] else []) ++ methods_named t ms) ≡ []
      by true e rest = ap (λ z. z ++ methods_named s (methods_named t ms)) (named_other m (ap (λ z. same_sel z s) (sel_is m.sel t e) ∙ apart)) ∙ rest
      by false e rest = rest

  pub named_none : (ms : List MethodOf) → is_had s ms ≡ false → methods_named s ms ≡ []
  named_none [] e = refl
  named_none (m ∷ ms) e =
      let k = or_false (same_sel m.sel s) (is_had s ms) e in
      ap (λ z. z ++ methods_named s ms) (named_other m k.0) ∙ named_none ms k.1

  pub none_named : (ms : List MethodOf) → methods_named s ms ≡ [] → is_had s ms ≡ false
  none_named [] e = refl
  none_named (m ∷ ms) e = by (same_sel m.sel s) refl e (none_named ms)
    where
      by : (b : Bool) → same_sel m.sel s ≡ b → (if b then m ∷ [] else []) ++ methods_named s ms ≡ [] → (methods_named s ms ≡ [] → is_had s ms ≡ false) → (b || is_had s ms) ≡ false
      by true f g rest = absurd cc
      by false f g rest = rest g

  -- ---- what is shown

  pub hidden : (a : Entries) (ms : List DeclaredMethod) → is_among s (missing a ms) ≡ true → shown a ms s ≡ []
  hidden a ms e = if_true (is_among s (missing a ms)) [] (methods_named s (had a ms)) e

  pub shown_all : (a : Entries) (ms : List DeclaredMethod) → is_among s (missing a ms) ≡ false → shown a ms s ≡ methods_named s (had a ms)
  shown_all a ms e = if_false (is_among s (missing a ms)) [] (methods_named s (had a ms)) e

  -- what is shown by the selector has it
  pub shown_named : (a : Entries) (ms : List DeclaredMethod) → methods_named s (shown a ms s) ≡ shown a ms s
  shown_named a ms = by (is_among s (missing a ms))
    where
      by : (b : Bool) → methods_named s (if b then [] else methods_named s (had a ms)) ≡ (if b then [] else methods_named s (had a ms))
      by true = refl
      by false = named_twice (had a ms)

  pub shown_apart : (t : Sel) → same_sel t s ≡ false → (a : Entries) (ms : List DeclaredMethod) → methods_named s (shown a ms t) ≡ []
  shown_apart t apart a ms = by (is_among t (missing a ms))
    where
      by : (b : Bool) → methods_named s (if b then [] else methods_named t (had a ms)) ≡ []
      by true = refl
      by false = named_apart t apart (had a ms)

  -- ---- a method more

  -- the same is had, and missing, of the selector
  abbrev SameOf : List MethodOf → List MethodOf → List Sel → List Sel → Type 0
  SameOf ms ns ls ks = (methods_named s ms ≡ methods_named s ns) × (is_among s ls ≡ is_among s ks)

  module _ (m : DeclaredMethod) where
    with_same : (c : Option Signature) (ms ns : List MethodOf) (ls ks : List Sel) → SameOf ms ns ls ks → SameOf (had_of m c ++ ms) (had_of m c ++ ns) (missing_of m c ++ ls) (missing_of m c ++ ks)
    with_same None ms ns ls ks k = (k.0, ap (λ b. same_sel m.sel s || b) k.1)
    with_same (Some g) ms ns ls ks k = (ap (λ z. if_named s (record { sel = m.sel; pointer = m.pointer; signature = g }) ++ z) k.0, k.1)

    -- a method of another selector changes nothing
    with_other : same_sel m.sel s ≡ false → (c : Option Signature) (ms : List MethodOf) (ls : List Sel) → SameOf (had_of m c ++ ms) ms (missing_of m c ++ ls) ls
    with_other e None ms ls = (refl, ap (λ b. b || is_among s ls) e)
    with_other e (Some g) ms ls = (ap (λ z. z ++ methods_named s ms) (named_other (record { sel = m.sel; pointer = m.pointer; signature = g }) e), refl)

    with_one : (c d : Option Signature) → (m.sel ≡ s → c ≡ d) → (ms ns : List MethodOf) (ls ks : List Sel) → SameOf ms ns ls ks → SameOf (had_of m c ++ ms) (had_of m d ++ ns) (missing_of m c ++ ls) (missing_of m d ++ ks)
    with_one c d h ms ns ls ks k = by (same_sel m.sel s) refl
      where
        by : (b : Bool) → same_sel m.sel s ≡ b → SameOf (had_of m c ++ ms) (had_of m d ++ ns) (missing_of m c ++ ls) (missing_of m d ++ ks)
        by true e = subst (λ (z : Option Signature). SameOf (had_of m c ++ ms) (had_of m z ++ ns) (missing_of m c ++ ls) (missing_of m z ++ ks)) (h (sel_is m.sel s e)) (with_same c ms ns ls ks k)
        by false e = let p = with_other e c ms ls in let q = with_other e d ns ks in (p.0 ∙ k.0 ∙ sym q.0, p.1 ∙ k.1 ∙ sym q.1)

  module _ (a b : Entries) where
    same_of : (ms : List DeclaredMethod) → ((m : DeclaredMethod) → Has ms m → m.sel ≡ s → signature_of (a m.number) ≡ signature_of (b m.number)) → SameOf (had a ms) (had b ms) (missing a ms) (missing b ms)
    same_of [] h = (refl, refl)
    same_of (m ∷ ms) h = with_one m (signature_of (a m.number)) (signature_of (b m.number)) (h m (inl refl)) (had a ms) (had b ms) (missing a ms) (missing b ms) (same_of ms (λ n k. h n (inr k)))

    -- where the same signatures are had of the methods of a selector, the same is shown by it
    pub shown_same : (ms : List DeclaredMethod) → ((m : DeclaredMethod) → Has ms m → m.sel ≡ s → signature_of (a m.number) ≡ signature_of (b m.number)) → shown a ms s ≡ shown b ms s
    shown_same ms h = let k = same_of ms h in let p = k.0 in let q = k.1 in λ i. if q i then [] else p i

  -- ---- methods that are missing

  or_right : (c d : Bool) → d ≡ true → (c || d) ≡ true
  or_right true d e = refl
  or_right false d e = e

  module _ (a : Entries) where
    misses_one : (m : DeclaredMethod) (c : Option Signature) (ls : List Sel) → c ≡ None → m.sel ≡ s → is_among s (missing_of m c ++ ls) ≡ true
    misses_one m c ls e same = ap (λ z. is_among s (missing_of m z ++ ls)) e ∙ ap (λ b. b || is_among s ls) (ap (λ z. same_sel z s) same ∙ sel_self s)

    misses_more : (m : DeclaredMethod) (c : Option Signature) (ls : List Sel) → is_among s ls ≡ true → is_among s (missing_of m c ++ ls) ≡ true
    misses_more m None ls e = or_right (same_sel m.sel s) (is_among s ls) e
    misses_more m (Some g) ls e = e

    -- a method with the selector whose signature isn't had
    pub misses : (ms : List DeclaredMethod) (m : DeclaredMethod) → Has ms m → signature_of (a m.number) ≡ None → m.sel ≡ s → is_among s (missing a ms) ≡ true
    misses [] m h e same = absurd h
    misses (n ∷ ms) m (inl is) e same =
        misses_one n (signature_of (a n.number)) (missing a ms) (ap (λ (z : DeclaredMethod). signature_of (a z.number)) is ∙ e) (ap (λ (z : DeclaredMethod). z.sel) is ∙ same)
    misses (n ∷ ms) m (inr k) e same = misses_more n (signature_of (a n.number)) (missing a ms) (misses ms m k e same)

    known_one : (m : DeclaredMethod) (c : Option Signature) (ls ks : List Sel) → (is_among s ls ≡ true → is_among s ks ≡ true) → is_among s (missing_of m c ++ ls) ≡ true → (same_sel m.sel s || is_among s ks) ≡ true
    known_one m None ls ks h e = by (same_sel m.sel s) e
      where
        by : (b : Bool) → (b || is_among s ls) ≡ true → (b || is_among s ks) ≡ true
        by true f = refl
        by false f = h f
    known_one m (Some g) ls ks h e = or_right (same_sel m.sel s) (is_among s ks) (h e)

    -- a missing selector is that of a method
    pub missing_known : (ms : List DeclaredMethod) → is_among s (missing a ms) ≡ true → is_among s (map selector_of ms) ≡ true
    missing_known [] e = e
    missing_known (m ∷ ms) e = known_one m (signature_of (a m.number)) (missing a ms) (map selector_of ms) (missing_known ms) e

    told_one : (m : DeclaredMethod) (c : Option Signature) (ms : List MethodOf) (ls ks : List Sel) → (is_among s ks ≡ true → is_among s ls ≡ false → is_had s ms ≡ true)
        → (same_sel m.sel s || is_among s ks) ≡ true → is_among s (missing_of m c ++ ls) ≡ false → is_had s (had_of m c ++ ms) ≡ true
    told_one m None ms ls ks h e f =
        let k = or_false (same_sel m.sel s) (is_among s ls) f in
        h (sym (ap (λ b. b || is_among s ks) k.0) ∙ e) k.1
    told_one m (Some g) ms ls ks h e f = by (same_sel m.sel s) e
      where
        by : (b : Bool) → (b || is_among s ks) ≡ true → (b || is_had s ms) ≡ true
        by true i = refl
        by false i = h i f

    -- a method has the selector, where one is known and none is missing
    pub told_had : (ms : List DeclaredMethod) → is_among s (map selector_of ms) ≡ true → is_among s (missing a ms) ≡ false → is_had s (had a ms) ≡ true
    told_had [] e f = e
    told_had (m ∷ ms) e f = told_one m (signature_of (a m.number)) (had a ms) (missing a ms) (map selector_of ms) (told_had ms) e f
