-- The entries of a client's declarations: the images of those of a typing are had from below on the new side.
use Rattle.std.proofs.Common.{◌≡◌, ◌⊎◌, inl, inr, ℕ, zero, suc, ◌<◌, Bool, true, false, List, length, refl, sym, ap, ◌∙◌, subst, Option, Some, None, if◌then◌else◌, arith}
use Rattle.std.specs.Prelude.{nat_lt, slice_get}
use Rattle.std.proofs.lemmas.Option.{slice_get_within}
use Rattle.go_model.specs.declared.types.names.Sel.{Sel}
use Rattle.go_model.specs.declared.types.names.TypeName.{TypeName}
use Rattle.go_model.specs.declared.types.package.Entity.{Entity}
use Rattle.go_model.specs.declared.types.package.Entity.TheVariants as entity
use Rattle.go_model.specs.declared.types.term.Term.{Term, Term-F, out-roll-Term}
use Rattle.go_rules.proofs.OneName.{one_some}
use Rattle.go_soundness.proofs.DeclaredForms.{is_at}
use Rattle.go_syntax.specs.declared.declaration.TypeSpec.{TypeSpec}
use Rattle.go_syntax.specs.declared.name.Name.{Name}
use Rattle.go_syntax.specs.declared.name.QualifiedName.{QualifiedName}
use Rattle.go_type_images.specs.Images.{Naming}
use Rattle.go_type_images.specs.declared.pair.TypePair.{TypePair}
use Rattle.go_typed_packages.proofs.OwnDeclarations.{asked_at, had_within}
use Rattle.go_typings.proofs.Cells.{before_has, before_within, some_once}
use Rattle.go_typings.proofs.GrowEnvironments.{environment_more, object_back}
use Rattle.go_typings.specs.Assignments.{Below, before}
use Rattle.go_typings.specs.DeclarationRules.{Gives}
use Rattle.go_typings.specs.Declarations.{Form, alias, constants, definition, function, method, variables, Declaration, Declared, declarations, declared}
use Rattle.go_typings.specs.PackageEnvironments.{Entries, Entry, entity_by, environment, object_of, objects, own_type}
use Rattle.go_typings.specs.Receivers.{aliased, aliased_by, name_form, own_aliased, written_name}
use Rattle.go_typings.specs.Sources.{PackageSource, Setting}
use Rattle.go_typings.specs.Typings.{Typing, given}
use Rattle.go_client_expressions.proofs.Expressions.{names_grow}
use Rattle.go_client_packages.specs.ClientEntries.{EntriesReached, EntryReached, entries_image, entry_image, if_had}
use Rattle.go_client_packages.specs.ClientSettings.{KeepsSettings}
use Rattle.go_client_packages.proofs.AliasEnds.{Ends, EndsBy, ends_sooner}
use Rattle.go_client_packages.proofs.Counts.{before_count, bound, counted}
use Rattle.go_client_packages.proofs.DefinedImages.{NoType, SettledAs, all_kept, one_type}
use Rattle.go_client_packages.proofs.EntryImages.{is_own}
use Rattle.go_client_packages.proofs.Environments.{environment_kept}
use Rattle.go_client_packages.proofs.WrittenTypes.{DeclaredAs, Written}

cell : (r : Naming) (b : Bool) (c : Option Entry) → if_had (entry_image r) (if b then c else None) ≡ (if b then if_had (entry_image r) c else None)
cell r true c = refl
cell r false c = refl

-- to cut and to take images is the same in both orders
cut_image : (r : Naming) (order : ℕ → ℕ) (k : ℕ) (a : Entries) → entries_image r (before order k a) ≡ before order k (entries_image r a)
cut_image r order k a = λ i n. cell r (nat_lt (order n) k) (a n) i

module _ (s t : Setting) (u : PackageSource) (r : Naming) (pairs : List TypePair) (std : TypeName → Bool) (is_open : Sel → Bool) (K : KeepsSettings s t u r pairs std is_open) (within : ℕ → Bool) (a : Entries) (typing : Typing s u within a) where
  abbrev ds : List Declaration
  ds = declarations u

  abbrev order : ℕ → ℕ
  order = typing.had.order

  abbrev part : ℕ → Entries
  part n = before order (order n) a

  -- how many declarations come before this one
  abbrev rank_of : ℕ → ℕ
  rank_of n = before_count order (order n) (length ds)

  -- a declaration is given the image of its entry, which is made of types that the client reaches
  record KeptAt (n : ℕ) : Type 0 where
    pub declaration : Declaration
    pub is : slice_get ds n ≡ Some declaration
    pub entry : Entry
    pub had : a n ≡ Some entry
    pub image : Gives (environment t u (entries_image r (part n)) declaration) ds declaration.form (entry_image r entry)
    pub reached : EntryReached pairs std is_open entry
    pub settled : SettledAs ds pairs std is_open (rank_of n) declaration.form entry

  -- ---- the names of types

  alias_ends : (m : ℕ) (name : Name) (o : Option QualifiedName) → own_aliased ds None name ≡ o → EndsBy ds m o → Ends ds (suc m) (record { qualifier = None; name = name })
  alias_ends m name None e h = absurd h
  alias_ends m name (Some q) e h = inr (q, e, h)

  module _ (n : ℕ) (lower : (j : ℕ) → within j ≡ true → order j < order n → KeptAt j) where
    abbrev Settled : Name → Term → Type 0
    Settled name v = Written pairs std is_open v ⊎ Ends ds (rank_of n) (record { qualifier = None; name = name })

    -- the objects of a declaration before this one
    record Before (w : Declared) (x : Entity) (f : Form) : Type 0 where
      pub items : List Entity
      pub there : slice_get items w.place ≡ Some x
      pub earlier : order w.number < order n
      pub within_all : w.number < length ds
      pub known : SettledAs ds pairs std is_open (rank_of w.number) f (objects items)

    object_before : (name : List ℕ) (w : Declared) (x : Entity) (f : Form) → declared ds name ≡ Some w → w.form ≡ f → object_of (part n w.number) w.place ≡ Some x → Before w x f
    object_before name w x f e g h =
        let q = object_back (part n w.number) w.place x h in
        let l = before_has order (order n) a w.number (objects q.0) q.1 in
        let k = lower w.number (had_within s u within a typing w.number (objects q.0) l.1) l.0 in
        let at = is_at ds name w e in
        let form : k.declaration.form ≡ f = ap (λ (z : Declaration). z.form) (some_once k.declaration at.declaration (sym k.is ∙ at.is)) ∙ at.form ∙ g in
        let entry : k.entry ≡ objects q.0 = some_once k.entry (objects q.0) (sym k.had ∙ l.1) in
        record {
          items = q.0;
          there = q.2;
          earlier = l.0;
          within_all = slice_get_within ds w.number k.declaration k.is;
          known = subst (SettledAs ds pairs std is_open (rank_of w.number) f) entry (subst (λ z. SettledAs ds pairs std is_open (rank_of w.number) z k.entry) form k.settled);
        }

    none_there : (w : Declared) (v : Term) (xs : List Entity) → slice_get xs w.place ≡ Some (entity.TypeOf v) → ((ys : List Entity) → objects xs ≡ objects ys → NoType ys) → ⊥
    none_there w v xs e h = h xs refl w.place v e

    through_alias : (name : Name) (w : Declared) (v : Term) (c : TypeSpec) → declared ds name.text ≡ Some w → w.form ≡ alias c → Before w (entity.TypeOf v) (alias c) → Settled name v
    through_alias name w v c e g k = elim (k.known k.items refl w.place v k.there) [
      | inl z ↦ inl z
      | inr z ↦ (
          let aliases : own_aliased ds None name ≡ written_name (name_form c.type_) = ap aliased e ∙ ap aliased_by g in
          inr (ends_sooner ds (suc (rank_of w.number)) (rank_of n) (record { qualifier = None; name = name }) (counted order w.number (order n) (length ds) k.earlier k.within_all) (alias_ends (rank_of w.number) name (written_name (name_form c.type_)) aliases z))
          )
    ]

    own_settled : (name : Name) (v : Term) → DeclaredAs u (part n) name.text (entity.TypeOf v) → Settled name v
    own_settled name v (w, e, f) = by w.form refl f
      where
        by : (z : Form) → w.form ≡ z → entity_by u.path (part n) w.number w.place z ≡ Some (entity.TypeOf v) → Settled name v
        by (definition c) g h =
            let named : own_type u.path c.name.text ≡ v = one_type (own_type u.path c.name.text) v (one_some h) in
            inl (subst (Written pairs std is_open) named (inl (record { path = u.path; name = c.name.text }, out-roll-Term (Term-F.Named (record { path = u.path; name = c.name.text })), is_own u.path c.name.text K.client)))
        by (alias c) g h = through_alias name w v c e g (object_before name.text w (entity.TypeOf v) (alias c) e g h)
        by (constants c p) g h = let k = object_before name.text w (entity.TypeOf v) (constants c p) e g h in absurd (none_there w v k.items k.there k.known)
        by (variables c) g h = let k = object_before name.text w (entity.TypeOf v) (variables c) e g h in absurd (none_there w v k.items k.there k.known)
        by (function c) g h = let k = object_before name.text w (entity.TypeOf v) (function c) e g h in absurd (none_there w v k.items k.there k.known)
        by (method p c) g h = let k = object_before name.text w (entity.TypeOf v) (method p c) e g h in absurd (none_there w v k.items k.there k.known)

    -- ---- one declaration

    part_reached : EntriesReached pairs std is_open (part n)
    part_reached j y f =
        let p = before_has order (order n) a j y f in
        let k = lower j (had_within s u within a typing j y p.1) p.0 in
        subst (EntryReached pairs std is_open) (some_once k.entry y (sym k.had ∙ p.1)) k.reached

    kept_here : within n ≡ true → KeptAt n
    kept_here w =
        let g = typing.had.below n w in
        let d = g.0 in
        let E = environment s u (part n) d in
        let G = environment s u a d in
        let D = environment_kept s t u r pairs std is_open K (part n) part_reached d in
        let more = names_grow E G (environment_more (part n) a (before_within order (order n) a) s u d) in
        let asked = asked_at s u within a typing n d w g.1 in
        let k = all_kept s u (part n) d (environment t u (entries_image r (part n)) d) G r pairs std is_open D more K.barred (rank_of n) (bound order (order n) (length ds)) own_settled g.2.2 asked.meets in
        record { declaration = d; is = g.1; entry = g.2.0; had = g.2.1; image = k.0; reached = k.1; settled = k.2 }

  -- ---- all of them

  all_below : (k n : ℕ) → order n < k → within n ≡ true → KeptAt n
  all_below zero n l w = absurd (omega (arith, l))
  all_below (suc k) n l w = kept_here n (λ j i m. all_below k j (omega (arith, m, l)) i) w

  kept_at : (n : ℕ) → within n ≡ true → KeptAt n
  kept_at n w = all_below (suc (order n)) n (omega arith) w

  pub entries_reached : EntriesReached pairs std is_open a
  entries_reached n x e = let k = kept_at n (had_within s u within a typing n x e) in subst (EntryReached pairs std is_open) (some_once k.entry x (sym k.had ∙ e)) k.reached

  pub images_had : Below (given t u) ds within (entries_image r a)
  images_had = record {
    only = λ n e. ap (if_had (entry_image r)) (typing.had.only n e);
    order = order;
    below = λ n w. (let k = kept_at n w in (
      k.declaration,
      k.is,
      (
        entry_image r k.entry,
        ap (if_had (entry_image r)) k.had,
        subst (λ (b : Entries). Gives (environment t u b k.declaration) ds k.declaration.form (entry_image r k.entry)) (cut_image r order (order n) a) k.image,
      ),
    ));
  }
