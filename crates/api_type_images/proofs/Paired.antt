-- The new type of an owned pair is the image of the old one.
use Rattle.std.proofs.Common.{◌≡◌, inl, inr, Bool, true, false, List, [], ◌∷◌, length, refl, sym, ap, ◌∙◌, subst, arith, ◌&&◌}
use Rattle.go_base.specs.Lists.{Has}
use Rattle.go_model.specs.declared.types.names.TypeName.{TypeName}
use Rattle.go_model.specs.declared.types.term.Term.{Term, Term-F, out-Term}
use Rattle.go_model.specs.types.Terms.{Layer}
use Rattle.go_model.specs.worlds.Worlds.{Packages}
use Rattle.go_type_images.specs.Images.{image, image_of_layer, same_sels}
use Rattle.go_type_images.specs.NewNames.{new_name}
use Rattle.api_correspond.specs.Outermost.{SameOutermost, outermost, pair, side_by_side}
use Rattle.go_type_images.specs.Parts.{parts}
use Rattle.api_correspond.specs.OwnedPairs.{to_part, are_of_module, HoldsOwned}
use Rattle.api_correspond.specs.Publics.{is_of_module, module_layer, of_module, package_at}
use Rattle.api_correspond.specs.Rules.{Compatible, KeepsPair, KeepsAmong}
use Rattle.go_type_images.specs.declared.pair.TypePair.{TypePair}
use Rattle.go_type_images.proofs.ImageLevels.{is_image, is_name, is_name_of, one_type}
use Rattle.go_type_images.proofs.NewNames.{named_named, new_name_in, new_name_same}
use Rattle.go_type_images.proofs.ByParts.{by_parts}
use Rattle.api_type_images.proofs.Rebuilt.{head, heads, level_image, names_match, parts_match}

both_true : (a b : Bool) → a ≡ true → b ≡ true → (a && b) ≡ true
both_true a b e f = ap (λ x. x && b) e ∙ f

at_left : (us ts : List Term) → length us ≡ length ts → (u : Term) → Has us u → (t : Term) × Has (side_by_side us ts) (pair u t)
at_left [] ts e u k = absurd k
at_left (v ∷ us) [] e u k = absurd (omega (arith, e))
at_left (v ∷ us) (t ∷ ts) e u (inl x) = (t, inl (ap (λ z. pair z t) x))
at_left (v ∷ us) (t ∷ ts) e u (inr k) = let a = at_left us ts (omega (arith, e)) u k in (a.0, inr a.1)

module _ (old new : Packages) (pairs : List TypePair) (H : HoldsOwned old new pairs) (C : Compatible old new) where
  pub keeps : (p : TypePair) → Has pairs p → KeepsPair old new p × KeepsAmong old new p
  keeps p i = C.pairs p (H.owned p i)

  -- the levels of a pair whose old type is a name
  pub record Renames (p : TypePair) (n m : TypeName) : Type 0 where
    pub before : out-Term p.old ≡ Term-F.Named n
    pub after : out-Term p.new ≡ Term-F.Named m

  match_names : (p : TypePair) (n m : TypeName) → Has pairs p → Renames p n m → head (of_module (package_at old n.path)) n ≡ head (of_module (package_at new m.path)) m
  match_names p n m i r = ap (outermost old) (sym r.before) ∙ (keeps p i).0.types ∙ ap (outermost new) r.after

  -- it is of the module in both or in neither, where it stays
  pub same_side : (p : TypePair) (n m : TypeName) → Has pairs p → Renames p n m → (of_module (package_at old n.path) ≡ of_module (package_at new m.path)) × (of_module (package_at old n.path) ≡ false → n ≡ m)
  same_side p n m i r = heads (of_module (package_at old n.path)) (of_module (package_at new m.path)) n m (match_names p n m i r)

  pub module_pair : (p : TypePair) (n m : TypeName) → Has pairs p → Renames p n m → of_module (package_at old n.path) ≡ true → are_of_module old new p ≡ true
  module_pair p n m i r e =
      both_true (is_of_module old p.old) (is_of_module new p.new)
      (ap (module_layer old) r.before ∙ e)
      (ap (module_layer new) r.after ∙ sym (same_side p n m i r).0 ∙ e)

  one_new_by : (b : Bool) (p q : TypePair) (n m k : TypeName) → of_module (package_at old n.path) ≡ b → Has pairs p → Has pairs q → Renames p n m → Renames q n k → k ≡ m
  one_new_by true p q n m k e i j r s =
      let o = (keeps p i).1.one_to_one q (record { in_module = module_pair p n m i r e; owned = H.owned q j }) in
      let same : q.new ≡ p.new = o.same_old (one_type q.old p.old (Term-F.Named n) s.before r.before) in
      named_named (sym s.after ∙ ap out-Term same ∙ r.after)
  one_new_by false p q n m k e i j r s = sym ((same_side q n k j s).1 e) ∙ (same_side p n m i r).1 e

  -- a name has one new name
  pub one_new : (p q : TypePair) (n m k : TypeName) → Has pairs p → Has pairs q → Renames p n m → Renames q n k → k ≡ m
  one_new p q n m k i j r s = one_new_by (of_module (package_at old n.path)) p q n m k refl i j r s

  -- and is the new name of one name of the module
  pub one_old : (p q : TypePair) (n k m : TypeName) → of_module (package_at old n.path) ≡ true → Has pairs p → Has pairs q → Renames p n m → Renames q k m → k ≡ n
  one_old p q n k m e i j r s =
      let o = (keeps p i).1.one_to_one q (record { in_module = module_pair p n m i r e; owned = H.owned q j }) in
      let same : q.old ≡ p.old = o.same_new (one_type q.new p.new (Term-F.Named m) s.after r.after) in
      named_named (sym s.before ∙ ap out-Term same ∙ r.before)

  abbrev pub renamed : TypeName → TypeName
  renamed = new_name pairs

  pub renamed_as : (p : TypePair) (n m : TypeName) → Has pairs p → Renames p n m → renamed n ≡ m
  renamed_as p n m i r = new_name_in pairs n m (λ q b j x y. one_new p q n m b i j r (record { before = x; after = y })) p i r.before r.after

  -- what isn't of the module stays
  pub stays : (n : TypeName) → of_module (package_at old n.path) ≡ false → renamed n ≡ n
  stays n e = new_name_same pairs n (λ q b j x y. sym ((same_side q n b j (record { before = x; after = y })).1 e))

  abbrev pub to : Term → Term
  to = image renamed same_sels

  -- the new type of each pair with this old type is its image
  abbrev Follows : Term → Type 0
  Follows s = (t : Term) → Has pairs (pair s t) → t ≡ to s

  by_name : (s t : Term) → Has pairs (pair s t) → (n : TypeName) → out-Term s ≡ Term-F.Named n → (m : TypeName) → out-Term t ≡ Term-F.Named m → t ≡ to s
  by_name s t i n a m b = is_image renamed same_sels s t (b ∙ ap Term-F.Named (sym (renamed_as (pair s t) n m i (record { before = a; after = b }))) ∙ ap (image_of_layer renamed same_sels) (sym a))

  cases : (s : Term) → ((u : Term) → Has (parts (out-Term s)) u → Follows u) → (t : Term) → Has pairs (pair s t) → (b : Bool) → is_name (out-Term s) ≡ b → t ≡ to s
  cases s h t i true e =
      let n = is_name_of (out-Term s) e in
      let m = is_name_of (out-Term t) (sym (names_match old new (out-Term s) (out-Term t) (keeps (pair s t) i).0.types) ∙ e) in
      by_name s t i n.0 n.1 m.0 m.1
  cases s h t i false e =
      let k = (keeps (pair s t) i).0.types in
      is_image renamed same_sels s t (level_image renamed old new (out-Term s) (out-Term t) k e
      (λ q j. h q.old (old_part (parts (out-Term s)) (parts (out-Term t)) q j) q.new (H.followed (pair s t) q i (to_part k j))))
    where
      old_part : (us ts : List Term) (q : TypePair) → Has (side_by_side us ts) q → Has us q.old
      old_part [] ts q j = absurd j
      old_part (u ∷ us) [] q j = absurd j
      old_part (u ∷ us) (v ∷ ts) q (inl x) = inl (ap (λ (z : TypePair). z.old) x)
      old_part (u ∷ us) (v ∷ ts) q (inr j) = inr (old_part us ts q j)

  follows : (s : Term) → Follows s
  follows = by_parts Follows (λ s h t i. cases s h t i (is_name (out-Term s)) refl)

  pub paired : (p : TypePair) → Has pairs p → p.new ≡ to p.old
  paired p i = follows p.old p.new i

  -- so the types at the same places of levels whose types are paired are a pair with the image
  pub placed : (k l : Layer) → SameOutermost old new k l → ((q : TypePair) → Has (side_by_side (parts k) (parts l)) q → Has pairs q) → (u : Term) → Has (parts k) u → Has pairs (pair u (to u))
  placed k l m h u i =
      let a = at_left (parts k) (parts l) (parts_match old new k l m) u i in
      let b : Has pairs (pair u a.0) = h (pair u a.0) a.1 in
      subst (λ t. Has pairs (pair u t)) (paired (pair u a.0) b) b

  pub part_of : (p : TypePair) → Has pairs p → (u : Term) → Has (parts (out-Term p.old)) u → Has pairs (pair u (to u))
  part_of p i u k = let m = (keeps p i).0.types in placed (out-Term p.old) (out-Term p.new) m (λ q j. H.followed p q i (to_part m j)) u k
