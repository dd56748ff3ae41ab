-- Names of types in order, each once.
use Rattle.std.proofs.Common.{◌≡◌, Bool, true, ◌&&◌, ◌⊎◌, inl, inr, List, [], ◌∷◌, refl, sym, ap, ◌∙◌}
use Rattle.std.specs.BTreeSet.{insert_key}
use Rattle.std.specs.Cmp.Lexicographic.{slice_cmp}
use Rattle.std.specs.List.{list_any}
use Rattle.std.specs.Ordering.{is_eq, match_ordering, nat_cmp, ordering_then}
use Rattle.std.specs.Str.{bytes_eq}
use Rattle.std.specs.declared.cmp.Ordering.{Ordering}
use Rattle.std.specs.declared.cmp.Ordering.TheVariants.{Less, Equal, Greater}
use Rattle.std.proofs.lemmas.Map.Text.{is_eq-slice_cmp}
use Rattle.go_base.specs.Lists.{Has as In}
use Rattle.go_base.proofs.Members.{found_has}
use Rattle.go_model.specs.declared.types.names.TypeName.{TypeName}
use Rattle.go_usability.specs.go_selectors.Names.{same_name, same_name_is}

-- names in order, by package and then by name
abbrev pub name_order : TypeName → TypeName → Ordering
name_order a b = ordering_then (slice_cmp nat_cmp a.path b.path) (slice_cmp nat_cmp a.name b.name)

abbrev same_place : TypeName → TypeName → Bool
same_place a b = is_eq (name_order a b)

then_is_eq : (o p : Ordering) → is_eq (ordering_then o p) ≡ (is_eq o && is_eq p)
then_is_eq Less p = refl
then_is_eq Equal p = refl
then_is_eq Greater p = refl

eq_same : (a b : TypeName) → same_place a b ≡ same_name a b
eq_same a b = then_is_eq (slice_cmp nat_cmp a.path b.path) (slice_cmp nat_cmp a.name b.name) ∙ ap (λ x. x && is_eq (slice_cmp nat_cmp a.name b.name)) (is_eq-slice_cmp a.path b.path) ∙ ap (λ x. bytes_eq a.path b.path && x) (is_eq-slice_cmp a.name b.name)

-- a name that is found is among the others
pub found : (ns : List TypeName) (n : TypeName) → list_any (same_place n) ns ≡ true → In ns n
found ns n h = found_has same_place (λ a b e. same_name_is a b (sym (eq_same a b) ∙ e)) ns n h

put_by : (n x m : TypeName) (ns more : List TypeName) (o : Ordering) → (In more m → (n ≡ m) ⊎ In ns m) → In (match_ordering o (n ∷ x ∷ ns) (x ∷ ns) (x ∷ more)) m → (n ≡ m) ⊎ In (x ∷ ns) m
put_by n x m ns more Less rest h = h
put_by n x m ns more Equal rest h = inr h
put_by n x m ns more Greater rest (inl e) = inr (inl e)
put_by n x m ns more Greater rest (inr i) = elim (rest i) [ inl e ↦ inl e | inr j ↦ inr (inr j) ]

-- a name is put among the others
pub put_among : (ns : List TypeName) (n m : TypeName) → In (insert_key name_order ns n) m → (n ≡ m) ⊎ In ns m
put_among [] n m h = h
put_among (x ∷ ns) n m h = put_by n x m ns (insert_key name_order ns n) (name_order n x) (put_among ns n m) h
