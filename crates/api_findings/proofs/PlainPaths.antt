-- The paths of packages have no comma, so that a feature line has one path and one rest.
use Rattle.std.proofs.Common.{◌≡◌, ◌≢◌, ℕ, Bool, true, false, ◌&&◌, nat_eq, cond, List, [], ◌∷◌, refl, sym, ap, ◌∙◌, subst, ◌⊎◌, inl, inr, arith, eqb-true}
use mathlib.Core.Bool.{true≢false}
use Rattle.std.specs.Prelude.{if◌then◌else◌}
use Rattle.std.specs.Cmp.Lexicographic.{slice_cmp}
use Rattle.std.specs.List.{list_all, onto_first, slice_split}
use Rattle.std.specs.Ordering.{is_lt, nat_cmp}
use Rattle.go_base.specs.Keys.{placed}
use Rattle.go_base.specs.Lists.{Each, Has}
use Rattle.go_model.specs.declared.types.package.Package.{Package}
use Rattle.go_model.specs.files.Trees.{are_elements, begins_element, is_element, is_element_byte, is_within}
use Rattle.go_model.specs.worlds.Worlds.{Packages, path_of}
use Rattle.go_exposed.specs.OfferedWorlds.{Become, become_none, become_more, Becomes, IsWorldOf}
use Rattle.go_typings.specs.PackageWorlds.{Outcome, blocked, over, refused, typed, with_outcome}
use Rattle.go_typings.specs.Sources.{PackageSource}

-- ---- paths of elements

abbrev pub IsPlain : List ℕ → Type 0
IsPlain path = Each (λ b. b ≢ 44) path

abbrev parts : List ℕ → List (List ℕ)
parts path = slice_split (λ b. nat_eq b 47) path

and_first : (a b : Bool) → (a && b) ≡ true → a ≡ true
and_first true b e = refl
and_first false b e = e

and_second : (a b : Bool) → (a && b) ≡ true → b ≡ true
and_second true b e = e
and_second false b e = absurd (true≢false (sym e))

-- an element has element bytes alone
element_bytes : (name : List ℕ) → is_element name ≡ true → list_all is_element_byte name ≡ true
unfolding is_element
element_bytes name e = and_second (begins_element name) (list_all is_element_byte name) e

all_bytes : (ps : List (List ℕ)) → list_all is_element ps ≡ true → list_all (list_all is_element_byte) ps ≡ true
all_bytes [] e = refl
all_bytes (p ∷ ps) e = ap (λ b. b && list_all (list_all is_element_byte) ps) (element_bytes p (and_first (is_element p) (list_all is_element ps) e)) ∙ all_bytes ps (and_second (is_element p) (list_all is_element ps) e)

no_comma : (b : ℕ) → is_element_byte b ≡ true → b ≢ 44
unfolding is_element_byte is_within
no_comma b e f = true≢false (sym (subst (λ (n : ℕ). is_element_byte n ≡ true) f e))

first_byte : (b : ℕ) (ps : List (List ℕ)) → ps ≢ [] → list_all (list_all is_element_byte) (onto_first b ps) ≡ true → (is_element_byte b ≡ true) × (list_all (list_all is_element_byte) ps ≡ true)
first_byte b [] n e = absurd (n refl)
first_byte b (p ∷ ps) n e =
    let front : (is_element_byte b && list_all is_element_byte p) ≡ true = and_first (is_element_byte b && list_all is_element_byte p) (list_all (list_all is_element_byte) ps) e in
    let rest : list_all (list_all is_element_byte) ps ≡ true = and_second (is_element_byte b && list_all is_element_byte p) (list_all (list_all is_element_byte) ps) e in
    (and_first (is_element_byte b) (list_all is_element_byte p) front, ap (λ c. c && list_all (list_all is_element_byte) ps) (and_second (is_element_byte b) (list_all is_element_byte p) front) ∙ rest)

some_onto : (b : ℕ) (ps : List (List ℕ)) → ps ≢ [] → onto_first b ps ≢ []
some_onto b [] n e = n refl
some_onto b (p ∷ ps) n e = absurd (cc)

some_by : (b : ℕ) (bs : List ℕ) (t : Bool) → parts bs ≢ [] → cond t ([] ∷ parts bs) (onto_first b (parts bs)) ≢ []
some_by b bs true n e = absurd (cc)
some_by b bs false n e = some_onto b (parts bs) n e

some_part : (path : List ℕ) → parts path ≢ []
some_part [] e = absurd (cc)
some_part (b ∷ bs) e = some_by b bs (nat_eq b 47) (some_part bs) e

plain_by : (b : ℕ) (bs : List ℕ) (t : Bool) → nat_eq b 47 ≡ t → list_all (list_all is_element_byte) (cond t ([] ∷ parts bs) (onto_first b (parts bs))) ≡ true → (list_all (list_all is_element_byte) (parts bs) ≡ true → IsPlain bs) → IsPlain (b ∷ bs)
plain_by b bs true e h rest = ((λ f. let s : b ≡ 47 = eqb-true b 47 e in absurd (omega (arith, s, f))), rest h)
plain_by b bs false e h rest = let k = first_byte b (parts bs) (some_part bs) h in (no_comma b k.0, rest k.1)

plain_parts : (path : List ℕ) → list_all (list_all is_element_byte) (parts path) ≡ true → IsPlain path
plain_parts [] e = tt
plain_parts (b ∷ bs) e = plain_by b bs (nat_eq b 47) refl e (plain_parts bs)

pub elements_plain : (path : List ℕ) → are_elements path ≡ true → IsPlain path
elements_plain path e = plain_parts path (all_bytes (parts path) e)

-- ---- the packages of a world

placed_by : {A : Type 0} (key : A → List ℕ) (y x : A) (xs : List A) (z : A) (b : Bool) → Has (if b then y ∷ x ∷ xs else x ∷ placed key y xs) z → (Has (placed key y xs) z → (y ≡ z) ⊎ Has xs z) → (y ≡ z) ⊎ Has (x ∷ xs) z
placed_by key y x xs z true (inl e) rest = inl e
placed_by key y x xs z true (inr h) rest = inr h
placed_by key y x xs z false (inl e) rest = inr (inl e)
placed_by key y x xs z false (inr h) rest = elim (rest h) [ inl e ↦ inl e | inr k ↦ inr (inr k) ]

has_placed : {A : Type 0} (key : A → List ℕ) (y : A) (xs : List A) (z : A) → Has (placed key y xs) z → (y ≡ z) ⊎ Has xs z
has_placed key y [] z (inl e) = inl e
has_placed key y [] z (inr h) = absurd h
has_placed key y (x ∷ xs) z h = placed_by key y x xs z (is_lt (slice_cmp nat_cmp (key y) (key x))) h (has_placed key y xs z)

IsOf : List PackageSource → Package → Type 0
IsOf us p = (u : PackageSource) × Has us u × (p.path ≡ u.path)

with_as : (bits : ℕ) (w : Packages) (u : PackageSource) (us : List PackageSource) (x : Outcome) (p : Package) → Becomes (over bits w) u x → Has (with_outcome w u x).packages p → Has w.packages p ⊎ IsOf (u ∷ us) p
unfolding IsOf
with_as bits w u us (typed q) p b h = elim (has_placed path_of q w.packages p h) [
  | inl e ↦ inr (u, inl refl, ap (λ (k : Package). k.path) (sym e) ∙ b.1.«package».path)
  | inr k ↦ inl k
]
with_as bits w u us (refused r) p b h = inl h
with_as bits w u us blocked p b h = inl h

become_of : (bits : ℕ) {w v : Packages} {us : List PackageSource} {xs : List Outcome} → Become bits w us xs v → (p : Package) → Has v.packages p → Has w.packages p ⊎ IsOf us p
unfolding IsOf
become_of bits become_none p h = inl h
become_of bits (become_more {w = w} {u = u} {us = us} {x = x} b d) p h = elim (become_of bits d p h) [
  | inl k ↦ with_as bits w u us x p b k
  | inr k ↦ inr (k.0, inr k.1, k.2)
]

-- each package of a world is one of those that it is made of
pub package_of : (bits : ℕ) (us : List PackageSource) (w : Packages) → IsWorldOf bits us w → (p : Package) → Has w.packages p → (u : PackageSource) × Has us u × (p.path ≡ u.path)
unfolding IsOf
package_of bits us w i p h = elim (become_of bits i.become p h) [ inl none ↦ absurd none | inr k ↦ k ]
