-- Sets of field keys: equal keys are the same, and a set has what was put into it.
use Rattle.std.proofs.Common.{◌≡◌, ◌↔◌, ℕ, Bool, true, false, ◌&&◌, ◌||◌, arith, List, [], ◌∷◌, map, refl, sym, ap, ◌∙◌, subst, inl, inr, nat_eq}
use mathlib.Core.Bool.{true≢false}
use Rattle.std.specs.List.{list_any}
use Rattle.std.specs.BTreeMap.{is_at}
use Rattle.std.specs.BTreeSet.{insert_key}
use Rattle.std.specs.Cmp.{unsigned_ties}
use Rattle.std.specs.Cmp.Lexicographic.{slice_cmp, bytes_decides}
use Rattle.std.specs.FinMap.{IsAntisymmetric}
use Rattle.std.specs.Ordering.{is_eq, nat_cmp, ordering_then}
use Rattle.std.specs.Str.{bytes_eq}
use Rattle.std.specs.declared.cmp.Ordering.{Ordering}
use Rattle.std.specs.declared.cmp.Ordering.TheVariants.{Less, Equal, Greater}
use Rattle.std.proofs.lemmas.Bool.Decides.{nat_tests}
use Rattle.std.proofs.lemmas.Map.Text.{is_eq-slice_cmp}
use denote.Ref.{Bor}
use Rattle.go_base.specs.Growing.{Grows}
use Rattle.go_base.specs.Lists.{Has}
use Rattle.go_base.proofs.Members.{found_has, has_found}
use Rattle.go_imports.proofs.GrowingSets.{grows_as, grows_inserted}
use Rattle.go_leads.specs.Listed.{Lists, names_of}
use Rattle.go_leads.specs.inner.Some.{SomeIn}
use Rattle.go_nodes.specs.Trees.{node_of}
use Rattle.go_nodes.specs.declared.tree.Tree.{Tree}
use Rattle.go_rules.specs.Environments.{Env}
use Rattle.go_rules.specs.Nodes.{Node}
use Rattle.go_syntax.specs.declared.name.Name.{Name}
use Rattle.go_typings.specs.DeclarationNodes.{nodes}
use Rattle.go_typings.specs.Declarations.{Form}
use Rattle.go_typings.specs.References.{IsFieldKey}
use Rattle.go_declaration_graph.specs.contracts.field_keys.FieldKeyOrd.TheImpl as KeyOrder
use Rattle.go_declaration_graph.specs.declared.field_keys.FieldKey.{FieldKey}
use Rattle.go_declaration_graph.specs.inner.FieldKeys.{AreFieldKeys, IsFieldKeyIn, IsKeyOf, KeysField, is_among, is_key_of, key_of, name_of}
use Rattle.go_declaration_graph.proofs.Mapped.{has_map, map_has}

-- ---- the order

abbrev pub order : FieldKey → FieldKey → Ordering
order = KeyOrder.cmp-value.it

then_eq : (x y : Ordering) → is_eq (ordering_then x y) ≡ (is_eq x && is_eq y)
then_eq Less y = refl
then_eq Equal y = refl
then_eq Greater y = refl

order_tells : (a b : FieldKey) → is_eq (order a b) ≡ is_key_of (name_of a) b
order_tells a b =
    then_eq (nat_cmp a.place b.place) (slice_cmp nat_cmp a.text b.text)
    ∙ ap (λ x. x && is_eq (slice_cmp nat_cmp a.text b.text)) (sym (unsigned_ties a.place b.place))
    ∙ ap (λ y. nat_eq a.place b.place && y) (is_eq-slice_cmp a.text b.text)

abbrev same : FieldKey → FieldKey → Bool
same a b = is_key_of (name_of a) b

pub both_true : (x y : Bool) → (x && y) ≡ true → (x ≡ true) × (y ≡ true)
both_true true y e = (refl, e)
both_true false y e = absurd (true≢false (sym e))

places_same : (m n : ℕ) → nat_eq m n ≡ true → m ≡ n
places_same m n e = grind (arith, nat_tests, e)

place_itself : (n : ℕ) → nat_eq n n ≡ true
place_itself n = grind (arith, nat_tests)

keys_same : (a b : FieldKey) → same a b ≡ true → a ≡ b
keys_same a b e =
    let both = both_true (nat_eq a.place b.place) (bytes_eq a.text b.text) e in
    let f : a.place ≡ b.place = places_same a.place b.place both.0 in
    let g : a.text ≡ b.text = (bytes_decides a.text b.text).0 both.1 in
    (λ i. record { place = f i; text = g i })

key_itself : (a : FieldKey) → same a a ≡ true
key_itself a = ap (λ x. x && bytes_eq a.text a.text) (place_itself a.place) ∙ (bytes_decides a.text a.text).1 refl

keys_tie : IsAntisymmetric order
keys_tie a b e = keys_same a b (sym (order_tells a b) ∙ ap is_eq e)

-- ---- look-ups

pub among : (n : Name) (keys : List FieldKey) → list_any (is_at (order (key_of n))) keys ≡ is_among n keys
among n [] = refl
among n (k ∷ keys) = ap₂ (order_tells (key_of n) k) (among n keys)
  where
    ap₂ : {x y : Bool} {v w : Bool} → x ≡ y → v ≡ w → (x || v) ≡ (y || w)
    ap₂ e f = λ i. e i || f i

pub among_has : (n : Name) (keys : List FieldKey) → is_among n keys ≡ true → Has keys (key_of n)
among_has n keys e = found_has same keys_same keys (key_of n) e

pub has_among : (n : Name) (keys : List FieldKey) → Has keys (key_of n) → is_among n keys ≡ true
has_among n keys h = has_found same key_itself keys (key_of n) h

-- ---- what is put into a set

pub key_added : (old new : List FieldKey) (k : FieldKey) → new ≡ insert_key order old k → Grows (λ x. k ≡ x) old new
key_added old new k e = grows_inserted order keys_tie old new k e

-- the names that a tree has as keys of fields
pub tree_keys : (E : Env) (t : Tree) (names added : List (Bor Name)) (old new : List FieldKey) → added ≡ names → Lists (IsFieldKey E (node_of t)) (names_of names) → Grows (SomeIn IsKeyOf added) old new
    → Grows (KeysField E t) old new
tree_keys E t names added old new e are g = grows_as (SomeIn IsKeyOf names) (KeysField E t) old new
    (λ k s. subst (IsFieldKey E (node_of t)) (ap name_of s.2) ((are s.0.now).0 (has_map (λ (b : Bor Name). b.now) names s.0 s.1)))
    (λ k f. let m = map_has (λ (b : Bor Name). b.now) names (name_of k) ((are (name_of k)).1 f) in (m.0, m.1, ap key_of m.2)) (subst (λ (ns : List (Bor Name)). Grows (SomeIn IsKeyOf ns) old new) e g)

pub declaration_keys : (E : Env) (f : Form) (trees : List Tree) (old new : List FieldKey) → map node_of trees ≡ nodes f → old ≡ [] → Grows (SomeIn (KeysField E) trees) old new → AreFieldKeys E f new
declaration_keys E f trees old new e none g k = (
  (λ h. elim (g.sound k h) [ inl o ↦ absurd (subst (λ (xs : List FieldKey). Has xs k) none o) | inr s ↦ (node_of s.0, subst (λ (xs : List Node). Has xs (node_of s.0)) e (has_map node_of trees s.0 s.1), s.2) ]),
  (λ h. let m = map_has node_of trees h.0 (subst (λ (xs : List Node). Has xs h.0) (sym e) h.1) in g.complete k (m.0, m.1, subst (λ (at : Node). IsFieldKey E at (name_of k)) (sym m.2) h.2)),
)

-- a name is found among the keys where it is a field's
pub among_tells : (E : Env) (f : Form) (keys : List FieldKey) (n : Name) → AreFieldKeys E f keys → (is_among n keys ≡ true) ↔ IsFieldKeyIn E f n
among_tells E f keys n are = ((λ e. (are (key_of n)).0 (among_has n keys e)), (λ h. has_among n keys ((are (key_of n)).1 h)))
