-- A pair of types loses finitely much by the rules on one pair.
use Rattle.std.proofs.Common.{◌≡◌, ◌⊎◌, ℕ, List, [], ◌∷◌, ◌++◌, map, Some, refl, sym, subst, inl, inr}
use Rattle.api_breaks.specs.Breaks.{IsLoss, types_apart, underlying_apart, field_gone, not_selectable, not_comparable, sealing_apart, interface_method_gone, interface_method_new, method_gone, pointer_method_gone}
use Rattle.api_breaks.specs.declared.broken.Lost.{Lost}
use Rattle.api_breaks.specs.declared.broken.Lost.TheVariants as lost
use Rattle.api_correspond.specs.Publics.{types_of}
use Rattle.go_type_images.specs.declared.pair.TypePair.{TypePair}
use Rattle.api_line_outcomes.proofs.NamedSelectors.{IsNamed, all_selectors, find_kept, in_set_kept, known}
use Rattle.go_base.specs.Lists.{Each, Has}
use Rattle.go_existence.proofs.FiniteSets.{has_left, has_map, has_right}
use Rattle.go_model.specs.declared.types.found.FieldFound.{FieldFound}
use Rattle.go_model.specs.declared.types.found.Found.TheVariants.{FieldAt}
use Rattle.go_model.specs.declared.types.names.Sel.{Sel}
use Rattle.go_model.specs.declared.types.names.TypeName.{TypeName}
use Rattle.go_model.specs.declared.types.package.Defined.{Defined}
use Rattle.go_model.specs.declared.types.package.MethodOf.{MethodOf}
use Rattle.go_model.specs.declared.types.term.Field.{Field}
use Rattle.go_model.specs.declared.types.term.Method.{Method}
use Rattle.go_model.specs.declared.types.term.Signature.{Signature}
use Rattle.go_model.specs.declared.types.term.Term.{Term, roll-Term}
use Rattle.go_model.specs.types.Members.{field_sel}
use Rattle.go_model.specs.types.MethodSets.{InSet, method_sel}
use Rattle.go_model.specs.types.Selectors.{Finds}
use Rattle.go_model.specs.types.Terms.{pointer_to}
use Rattle.go_model.specs.types.TypeSelectors.{selectors}
use Rattle.go_model.specs.types.Underlying.{entry, fields_of, methods_of, under}
use Rattle.go_model.specs.worlds.Worlds.{Packages}

each_more : {A : Type 0} (P Q : A → Type 0) → ((x : A) → P x → Q x) → (xs : List A) → Each P xs → Each Q xs
each_more P Q f [] h = tt
each_more P Q f (x ∷ xs) h = (f x h.0, each_more P Q f xs h.1)

each_has : {A : Type 0} (P : A → Type 0) (xs : List A) → ((x : A) → Has xs x → P x) → Each P xs
each_has P [] f = tt
each_has P (x ∷ xs) f = (f x (inl refl), each_has P xs (λ y h. f y (inr h)))

-- ---- the selectors that find something in a type

module _ (w : Packages) (t : Term) where
  pub sels : List Sel
  sels = selectors t ++ all_selectors w.packages

  abbrev pub IsSel : Sel → Type 0
  IsSel s = Has sels s

  own : Each IsSel (selectors t)
  unfolding sels
  own = each_has IsSel (selectors t) (λ s h. has_left (selectors t) (all_selectors w.packages) s h)

  others : (s : Sel) → IsNamed w.packages s → IsSel s
  unfolding sels
  others s h = has_right (selectors t) (all_selectors w.packages) s h

  of_entries : (n : TypeName) (d : Defined) → entry (types_of w) n ≡ Some d → Each IsSel (selectors d.underlying) × ((m : MethodOf) → Has d.methods m → IsSel m.sel)
  of_entries n d e = let k = known w.packages n d e in (each_more (IsNamed w.packages) IsSel others (selectors d.underlying) k.0, λ m h. others m.sel (k.1 m h))

  pub in_set : (s : Sel) (g : Signature) → InSet (types_of w) t s g → IsSel s
  in_set s g i = in_set_kept IsSel (types_of w) of_entries t s g own i

  pub finds : (s : Sel) (f : FieldFound) → Finds (types_of w) s t (FieldAt f) → IsSel s
  finds s f h = find_kept IsSel (types_of w) of_entries t s f own h

-- ---- losses

module _ (old new : Packages) (p : TypePair) where
  abbrev of_field : Field → Lost
  of_field f = lost.Field (field_sel f).name

  abbrev of_selectable : Sel → Lost
  of_selectable s = lost.Selectable s.name

  abbrev of_method : Method → Lost
  of_method m = lost.InterfaceMethod (method_sel m)

  abbrev single : List Lost
  single = lost.Type p.old p.new ∷ lost.Underlying (roll-Term (under (types_of old) p.old)) (roll-Term (under (types_of new) p.new)) ∷ lost.Comparable ∷ lost.Sealing ∷ []

  abbrev members : List Lost
  members = map of_field (fields_of (under (types_of old) p.old)) ++ (map of_method (methods_of (under (types_of old) p.old)) ++ map of_method (methods_of (under (types_of new) p.new)))

  selected : List Lost
  selected = map of_selectable (sels old p.old) ++ (map lost.Method (sels old p.old) ++ map lost.Method (sels old (pointer_to p.old)))

  pub losses : List Lost
  losses = single ++ (members ++ selected)

  in_single : (l : Lost) → Has single l → Has losses l
  unfolding losses
  in_single l h = has_left single (members ++ selected) l h

  in_members : (l : Lost) → Has members l → Has losses l
  unfolding losses
  in_members l h = has_right single (members ++ selected) l (has_left members selected l h)

  in_selected : (l : Lost) → Has selected l → Has losses l
  unfolding losses
  in_selected l h = has_right single (members ++ selected) l (has_right members selected l h)

  pub loss_listed : (l : Lost) → IsLoss old new p l → Has losses l
  unfolding selected
  loss_listed l (types_apart n e) = in_single l (inl e)
  loss_listed l (underlying_apart o n e) = in_single l (inr (inl e))
  loss_listed l (not_comparable c n e) = in_single l (inr (inr (inl e)))
  loss_listed l (sealing_apart o n e) = in_single l (inr (inr (inr (inl e))))
  loss_listed l (field_gone f c n e) = in_members l (subst (Has members) e (has_left (map of_field (fields_of (under (types_of old) p.old))) _ (of_field f) (has_map of_field (fields_of (under (types_of old) p.old)) f c.there)))
  loss_listed l (interface_method_gone m c n e) =
      in_members l (subst (Has members) e (has_right (map of_field (fields_of (under (types_of old) p.old))) _ (of_method m) (has_left (map of_method (methods_of (under (types_of old) p.old))) _ (of_method m) (has_map of_method (methods_of (under (types_of old) p.old)) m c.there))))
  loss_listed l (interface_method_new m c n e) =
      in_members l (subst (Has members) e (has_right (map of_field (fields_of (under (types_of old) p.old))) _ (of_method m) (has_right (map of_method (methods_of (under (types_of old) p.old))) _ (of_method m) (has_map of_method (methods_of (under (types_of new) p.new)) m c.there))))
  loss_listed l (not_selectable s f c n e) = in_selected l (subst (Has selected) e (has_left (map of_selectable (sels old p.old)) _ (of_selectable s) (has_map of_selectable (sels old p.old) s (finds old p.old s f c.found))))
  loss_listed l (method_gone s g c n e) =
      in_selected l (subst (Has selected) e (has_right (map of_selectable (sels old p.old)) _ (lost.Method s) (has_left (map lost.Method (sels old p.old)) _ (lost.Method s) (has_map lost.Method (sels old p.old) s (in_set old p.old s g c.there)))))
  loss_listed l (pointer_method_gone s g c n e) =
      in_selected l (subst (Has selected) e (has_right (map of_selectable (sels old p.old)) _ (lost.Method s) (has_right (map lost.Method (sels old p.old)) _ (lost.Method s) (has_map lost.Method (sels old (pointer_to p.old)) s (in_set old (pointer_to p.old) s g c.there)))))
