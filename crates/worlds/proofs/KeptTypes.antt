-- The types of a package that a world takes, part by part.
use Rattle.std.proofs.Common.{◌≡◌, ℕ, List, [], ◌∷◌, ◌++◌, map, refl, sym, ap, ◌∙◌, subst}
use Rattle.go_base.specs.Gathered.{gather}
use Rattle.go_base.specs.Lists.{Each}
use Rattle.go_model.specs.declared.types.names.Sel.{Sel}
use Rattle.go_model.specs.declared.types.names.TypeName.{TypeName}
use Rattle.go_model.specs.declared.types.package.Package.{Package}
use Rattle.go_model.specs.declared.types.term.Field.{Field, fold-Field, fold_out-Field}
use Rattle.go_model.specs.declared.types.term.Method.{Method, fold-Method, fold_out-Method}
use Rattle.go_model.specs.declared.types.term.Signature.{Signature, out-Signature, fold-Signature, fold_out-Signature}
use Rattle.go_model.specs.declared.types.term.Term.{Term, Term-F, out-Term, roll-Term, roll-out-Term, fold-roll-Term}
use Rattle.go_model.specs.types.Members.{AreDistinct, AreOrdered, IsWellFormed, Member, Members, field_member, field_sel, member_step, members, method_member, parameter_members, sel_of, signature_members, within_of}
use Rattle.go_model.specs.types.MethodSets.{method_sel}
use Rattle.go_model.specs.types.TypeNames.{Names, all_of, field_names, method_names, name_step, names, parameter_names, signature_names}
use Rattle.go_model.specs.types.TypeSelectors.{Sels, field_sels, method_sels, parameter_sels, sel_step, selectors, sels_of, signature_selectors}
use Rattle.go_model.specs.worlds.Worlds.{IsOwned, Packages}
use Rattle.worlds.proofs.Lists.{each_joined}
use Rattle.worlds.specs.inner.Admission.{FieldKept, IsThere, Kept, MethodKept, SignatureKept, TermKept, joint_paths}

abbrev Sets : Type 0
Sets = List Members

abbrev names_of_field : Field → Names
names_of_field = fold-Field Names Names Names Names name_step field_names method_names parameter_names

abbrev sels_of_field : Field → Sels
sels_of_field = fold-Field Sels Sels Sels Sels sel_step field_sels method_sels parameter_sels

abbrev member_of_field : Field → Member
member_of_field = fold-Field Sets Member Member Sets member_step field_member method_member parameter_members

abbrev names_of_method : Method → Names
names_of_method = fold-Method Names Names Names Names name_step field_names method_names parameter_names

abbrev sels_of_method : Method → Sels
sels_of_method = fold-Method Sels Sels Sels Sels sel_step field_sels method_sels parameter_sels

abbrev member_of_method : Method → Member
member_of_method = fold-Method Sets Member Member Sets member_step field_member method_member parameter_members

field_sels_of : (fs : List Field) → map sel_of (map member_of_field fs) ≡ map field_sel fs
field_sels_of [] = refl
field_sels_of (f ∷ fs) = λ i. ap sel_of (fold_out-Field Sets Member Member Sets member_step field_member method_member parameter_members f) i ∷ field_sels_of fs i

method_sels_of : (ms : List Method) → map sel_of (map member_of_method ms) ≡ map method_sel ms
method_sels_of [] = refl
method_sels_of (m ∷ ms) = λ i. ap sel_of (fold_out-Method Sets Member Member Sets member_step field_member method_member parameter_members m) i ∷ method_sels_of ms i

module _ (w : Packages) (p : Package) where
  abbrev There : List TypeName → Type 0
  There = Each (IsThere w p)

  abbrev Owned : List Sel → Type 0
  Owned = Each (IsOwned (joint_paths w p))

  abbrev Formed : List Members → Type 0
  Formed = Each IsWellFormed

  kept_as : (ns ns' : List TypeName) (ss ss' : List Sel) (ms ms' : List Members) → ns ≡ ns' → ss ≡ ss' → ms ≡ ms' → Kept w p ns ss ms → Kept w p ns' ss' ms'
  kept_as ns ns' ss ss' ms ms' a b c h = record { there = subst There a h.there; owned = subst Owned b h.owned; formed = subst Formed c h.formed }

  kept_none : Kept w p [] [] []
  kept_none = record { there = tt; owned = tt; formed = tt }

  kept_both : (ns ns' : List TypeName) (ss ss' : List Sel) (ms ms' : List Members) → Kept w p ns ss ms → Kept w p ns' ss' ms' → Kept w p (ns ++ ns') (ss ++ ss') (ms ++ ms')
  kept_both ns ns' ss ss' ms ms' h k = record {
    there = each_joined (IsThere w p) ns ns' h.there k.there;
    owned = each_joined (IsOwned (joint_paths w p)) ss ss' h.owned k.owned;
    formed = each_joined IsWellFormed ms ms' h.formed k.formed;
  }

  kept_terms : (ts : List Term) → Each (TermKept w p) ts → Kept w p (all_of (map names ts)) (sels_of (map selectors ts)) (gather (λ x. x) (map members ts))
  kept_terms [] h = kept_none
  kept_terms (t ∷ ts) h = kept_both (names t) (all_of (map names ts)) (selectors t) (sels_of (map selectors ts)) (members t) (gather (λ x. x) (map members ts)) h.0 (kept_terms ts h.1)

  pub kept_signature : (g : Signature) (ps rs : List Term) → ps ≡ (out-Signature g).params → rs ≡ (out-Signature g).results → Each (TermKept w p) ps → Each (TermKept w p) rs → SignatureKept w p g
  kept_signature g ps rs e f h k =
      kept_as (all_of (map names ps) ++ all_of (map names rs)) (signature_names g) (sels_of (map selectors ps) ++ sels_of (map selectors rs)) (signature_selectors g)
      (gather (λ x. x) (map members ps) ++ gather (λ x. x) (map members rs)) (signature_members g)
      ((λ i. all_of (map names (e i)) ++ all_of (map names (f i))) ∙ sym (fold_out-Signature Names Names Names Names name_step field_names method_names parameter_names g))
      ((λ i. sels_of (map selectors (e i)) ++ sels_of (map selectors (f i))) ∙ sym (fold_out-Signature Sels Sels Sels Sels sel_step field_sels method_sels parameter_sels g))
      ((λ i. gather (λ x. x) (map members (e i)) ++ gather (λ x. x) (map members (f i))) ∙ sym (fold_out-Signature Sets Member Member Sets member_step field_member method_member parameter_members g))
      (kept_both (all_of (map names ps)) (all_of (map names rs)) (sels_of (map selectors ps)) (sels_of (map selectors rs)) (gather (λ x. x) (map members ps)) (gather (λ x. x) (map members rs)) (kept_terms ps h) (kept_terms rs k))

  kept_field : (f : Field) → FieldKept w p f → Kept w p (names_of_field f) (sels_of_field f) (within_of (member_of_field f))
  kept_field f h = record {
    there = subst There (sym (fold_out-Field Names Names Names Names name_step field_names method_names parameter_names f)) h.term.there;
    owned = subst Owned (sym (fold_out-Field Sels Sels Sels Sels sel_step field_sels method_sels parameter_sels f)) (h.sel, h.term.owned);
    formed = subst Formed (sym (ap within_of (fold_out-Field Sets Member Member Sets member_step field_member method_member parameter_members f))) h.term.formed;
  }

  kept_fields : (fs : List Field) → Each (FieldKept w p) fs → Kept w p (all_of (map names_of_field fs)) (sels_of (map sels_of_field fs)) (gather within_of (map member_of_field fs))
  kept_fields [] h = kept_none
  kept_fields (f ∷ fs) h = kept_both (names_of_field f) (all_of (map names_of_field fs)) (sels_of_field f) (sels_of (map sels_of_field fs)) (within_of (member_of_field f)) (gather within_of (map member_of_field fs)) (kept_field f h.0) (kept_fields fs h.1)

  kept_method : (m : Method) → MethodKept w p m → Kept w p (names_of_method m) (sels_of_method m) (within_of (member_of_method m))
  kept_method m h = record {
    there = subst There (sym (fold_out-Method Names Names Names Names name_step field_names method_names parameter_names m)) h.signature.there;
    owned = subst Owned (sym (fold_out-Method Sels Sels Sels Sels sel_step field_sels method_sels parameter_sels m)) (h.sel, h.signature.owned);
    formed = subst Formed (sym (ap within_of (fold_out-Method Sets Member Member Sets member_step field_member method_member parameter_members m))) h.signature.formed;
  }

  kept_methods : (ms : List Method) → Each (MethodKept w p) ms → Kept w p (all_of (map names_of_method ms)) (sels_of (map sels_of_method ms)) (gather within_of (map member_of_method ms))
  kept_methods [] h = kept_none
  kept_methods (m ∷ ms) h = kept_both (names_of_method m) (all_of (map names_of_method ms)) (sels_of_method m) (sels_of (map sels_of_method ms)) (within_of (member_of_method m)) (gather within_of (map member_of_method ms)) (kept_method m h.0) (kept_methods ms h.1)

  made_of : (t : Term) (l : Term-F Term Field Method Signature) → out-Term t ≡ l → TermKept w p (roll-Term l) → TermKept w p t
  made_of t l e h = subst (TermKept w p) (ap roll-Term (sym e) ∙ roll-out-Term t) h

  struct_kept : (fs : List Field) → AreDistinct (map field_sel fs) → Each (FieldKept w p) fs → TermKept w p (roll-Term (Term-F.Struct fs))
  struct_kept fs d h =
      let parts : Kept w p (all_of (map names_of_field fs)) (sels_of (map sels_of_field fs)) (gather within_of (map member_of_field fs)) = kept_fields fs h in
      record {
        there = subst There (sym (fold-roll-Term Names Names Names Names name_step field_names method_names parameter_names (Term-F.Struct fs))) parts.there;
        owned = subst Owned (sym (fold-roll-Term Sels Sels Sels Sels sel_step field_sels method_sels parameter_sels (Term-F.Struct fs))) parts.owned;
        formed = subst Formed (sym (fold-roll-Term Sets Member Member Sets member_step field_member method_member parameter_members (Term-F.Struct fs))) (subst AreDistinct (sym (field_sels_of fs)) d, parts.formed);
      }

  pub kept_struct : (t : Term) (fs : List Field) → out-Term t ≡ Term-F.Struct fs → AreDistinct (map field_sel fs) → Each (FieldKept w p) fs → TermKept w p t
  kept_struct t fs e d h = made_of t (Term-F.Struct fs) e (struct_kept fs d h)

  interface_kept : (ms : List Method) → AreOrdered (map method_sel ms) → Each (MethodKept w p) ms → TermKept w p (roll-Term (Term-F.Interface ms))
  interface_kept ms d h =
      let parts : Kept w p (all_of (map names_of_method ms)) (sels_of (map sels_of_method ms)) (gather within_of (map member_of_method ms)) = kept_methods ms h in
      record {
        there = subst There (sym (fold-roll-Term Names Names Names Names name_step field_names method_names parameter_names (Term-F.Interface ms))) parts.there;
        owned = subst Owned (sym (fold-roll-Term Sels Sels Sels Sels sel_step field_sels method_sels parameter_sels (Term-F.Interface ms))) parts.owned;
        formed = subst Formed (sym (fold-roll-Term Sets Member Member Sets member_step field_member method_member parameter_members (Term-F.Interface ms))) (subst AreOrdered (sym (method_sels_of ms)) d, parts.formed);
      }

  pub kept_interface : (t : Term) (ms : List Method) → out-Term t ≡ Term-F.Interface ms → AreOrdered (map method_sel ms) → Each (MethodKept w p) ms → TermKept w p t
  kept_interface t ms e d h = made_of t (Term-F.Interface ms) e (interface_kept ms d h)
