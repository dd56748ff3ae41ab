-- What is kept of a type is kept of each type on its level, and the other way round.
use Rattle.std.proofs.Common.{◌≡◌, List, [], ◌∷◌, ◌++◌, map, refl, sym, ap, subst}
use Rattle.go_base.specs.Gathered.{gather}
use Rattle.go_base.specs.Lists.{Each}
use Rattle.go_model.proofs.WorldTypes.{each_behind, each_front}
use Rattle.go_model.specs.declared.types.names.Sel.{Sel}
use Rattle.go_model.specs.declared.types.names.TypeName.{TypeName}
use Rattle.go_model.specs.declared.types.term.Field.{Field, fold-Field, fold_out-Field}
use Rattle.go_model.specs.declared.types.term.Method.{Method, fold-Method, fold_out-Method}
use Rattle.go_model.specs.declared.types.term.Signature.{Signature, out-Signature, fold_out-Signature}
use Rattle.go_model.specs.declared.types.term.Term.{Term, Term-F, out-Term, roll-Term, fold-roll-Term, fold_out-Term, map-Term}
use Rattle.go_model.specs.types.Members.{AreDistinct, AreOrdered, IsWellFormed, Member, Members, field_member, field_sel, member_step, members, method_member, parameter_members, sel_of, signature_members, within_of}
use Rattle.go_model.specs.types.MethodSets.{method_sel}
use Rattle.go_model.specs.types.Terms.{Layer}
use Rattle.go_model.specs.types.TypeNames.{Names, all_of, field_names, method_names, name_step, names, parameter_names, signature_names}
use Rattle.go_model.specs.types.TypeSelectors.{Sels, field_sels, method_sels, parameter_sels, sel_step, selectors, sels_of, signature_selectors}
use Rattle.go_rules.proofs.LocalParts.{each_both}
use Rattle.go_typed_packages.specs.inner.KeptTypes.{FieldKept, Kept, LayerKept, MethodKept, SignatureKept, TermKept}

abbrev Sets : Type 0
Sets = List Members

abbrev names_of_field : Field → Names
names_of_field = fold-Field Names Names Names Names name_step field_names method_names parameter_names

abbrev sels_of_field : Field → Sels
sels_of_field = fold-Field Sels Sels Sels Sels sel_step field_sels method_sels parameter_sels

abbrev member_of_field : Field → Member
member_of_field = fold-Field Sets Member Member Sets member_step field_member method_member parameter_members

abbrev names_of_method : Method → Names
names_of_method = fold-Method Names Names Names Names name_step field_names method_names parameter_names

abbrev sels_of_method : Method → Sels
sels_of_method = fold-Method Sels Sels Sels Sels sel_step field_sels method_sels parameter_sels

abbrev member_of_method : Method → Member
member_of_method = fold-Method Sets Member Member Sets member_step field_member method_member parameter_members

-- the names, the selectors, and the struct and interface types on a level
abbrev names_in : Layer → Names
names_in l = name_step (map-Term Term Field Method Signature Names Names Names Names names names_of_field names_of_method signature_names l)

abbrev sels_in : Layer → Sels
sels_in l = sel_step (map-Term Term Field Method Signature Sels Sels Sels Sels selectors sels_of_field sels_of_method signature_selectors l)

abbrev members_in : Layer → Sets
members_in l = member_step (map-Term Term Field Method Signature Sets Member Member Sets members member_of_field member_of_method signature_members l)

field_sels_of : (fs : List Field) → map sel_of (map member_of_field fs) ≡ map field_sel fs
field_sels_of [] = refl
field_sels_of (f ∷ fs) = λ i. ap sel_of (fold_out-Field Sets Member Member Sets member_step field_member method_member parameter_members f) i ∷ field_sels_of fs i

method_sels_of : (ms : List Method) → map sel_of (map member_of_method ms) ≡ map method_sel ms
method_sels_of [] = refl
method_sels_of (m ∷ ms) = λ i. ap sel_of (fold_out-Method Sets Member Member Sets member_step field_member method_member parameter_members m) i ∷ method_sels_of ms i

module _ (N : TypeName → Type 0) (S : Sel → Type 0) where
  kept_as : {ns ns' : List TypeName} {ss ss' : List Sel} {ms ms' : List Members} → ns ≡ ns' → ss ≡ ss' → ms ≡ ms' → Kept N S ns ss ms → Kept N S ns' ss' ms'
  kept_as a b c h = record { named = subst (Each N) a h.named; owned = subst (Each S) b h.owned; formed = subst (Each IsWellFormed) c h.formed }

  pub kept_none : Kept N S [] [] []
  kept_none = record { named = tt; owned = tt; formed = tt }

  pub kept_both : {ns ns' : List TypeName} {ss ss' : List Sel} {ms ms' : List Members} → Kept N S ns ss ms → Kept N S ns' ss' ms' → Kept N S (ns ++ ns') (ss ++ ss') (ms ++ ms')
  kept_both h k = record { named = each_both N _ _ h.named k.named; owned = each_both S _ _ h.owned k.owned; formed = each_both IsWellFormed _ _ h.formed k.formed }

  pub kept_front : (ns ns' : List TypeName) (ss ss' : List Sel) (ms ms' : List Members) → Kept N S (ns ++ ns') (ss ++ ss') (ms ++ ms') → Kept N S ns ss ms
  kept_front ns ns' ss ss' ms ms' h = record { named = each_front N ns ns' h.named; owned = each_front S ss ss' h.owned; formed = each_front IsWellFormed ms ms' h.formed }

  pub kept_behind : (ns ns' : List TypeName) (ss ss' : List Sel) (ms ms' : List Members) → Kept N S (ns ++ ns') (ss ++ ss') (ms ++ ms') → Kept N S ns' ss' ms'
  kept_behind ns ns' ss ss' ms ms' h = record { named = each_behind N ns ns' h.named; owned = each_behind S ss ss' h.owned; formed = each_behind IsWellFormed ms ms' h.formed }

  -- ---- signatures

  opened_terms : (ts : List Term) → Kept N S (all_of (map names ts)) (sels_of (map selectors ts)) (gather (λ x. x) (map members ts)) → Each (TermKept N S) ts
  opened_terms [] h = tt
  opened_terms (t ∷ ts) h = (
    kept_front (names t) (all_of (map names ts)) (selectors t) (sels_of (map selectors ts)) (members t) (gather (λ x. x) (map members ts)) h,
    opened_terms ts (kept_behind (names t) (all_of (map names ts)) (selectors t) (sels_of (map selectors ts)) (members t) (gather (λ x. x) (map members ts)) h),
  )

  closed_terms : (ts : List Term) → Each (TermKept N S) ts → Kept N S (all_of (map names ts)) (sels_of (map selectors ts)) (gather (λ x. x) (map members ts))
  closed_terms [] h = kept_none
  closed_terms (t ∷ ts) h = kept_both h.0 (closed_terms ts h.1)

  pub open_signature : (g : Signature) → SignatureKept N S g → Each (TermKept N S) (out-Signature g).params × Each (TermKept N S) (out-Signature g).results
  open_signature g h =
      let ps = (out-Signature g).params in let rs = (out-Signature g).results in
      let k : Kept N S (all_of (map names ps) ++ all_of (map names rs)) (sels_of (map selectors ps) ++ sels_of (map selectors rs)) (gather (λ x. x) (map members ps) ++ gather (λ x. x) (map members rs)) =
      kept_as (fold_out-Signature Names Names Names Names name_step field_names method_names parameter_names g) (fold_out-Signature Sels Sels Sels Sels sel_step field_sels method_sels parameter_sels g) (fold_out-Signature Sets Member Member Sets member_step field_member method_member parameter_members g) h in (
        opened_terms ps (kept_front (all_of (map names ps)) (all_of (map names rs)) (sels_of (map selectors ps)) (sels_of (map selectors rs)) (gather (λ x. x) (map members ps)) (gather (λ x. x) (map members rs)) k),
        opened_terms rs (kept_behind (all_of (map names ps)) (all_of (map names rs)) (sels_of (map selectors ps)) (sels_of (map selectors rs)) (gather (λ x. x) (map members ps)) (gather (λ x. x) (map members rs)) k),
      )

  pub close_signature : (g : Signature) → Each (TermKept N S) (out-Signature g).params → Each (TermKept N S) (out-Signature g).results → SignatureKept N S g
  close_signature g h k =
      kept_as (sym (fold_out-Signature Names Names Names Names name_step field_names method_names parameter_names g)) (sym (fold_out-Signature Sels Sels Sels Sels sel_step field_sels method_sels parameter_sels g)) (sym (fold_out-Signature Sets Member Member Sets member_step field_member method_member parameter_members g))
      (kept_both (closed_terms (out-Signature g).params h) (closed_terms (out-Signature g).results k))

  -- ---- fields and methods

  abbrev FieldParts : Field → Type 0
  FieldParts f = Kept N S (names_of_field f) (sels_of_field f) (within_of (member_of_field f))

  abbrev MethodParts : Method → Type 0
  MethodParts m = Kept N S (names_of_method m) (sels_of_method m) (within_of (member_of_method m))

  open_field : (f : Field) → FieldParts f → FieldKept N S f
  open_field f h =
      let owned = subst (Each S) (fold_out-Field Sels Sels Sels Sels sel_step field_sels method_sels parameter_sels f) h.owned in
      record {
        sel = owned.0;
        term = record {
          named = subst (Each N) (fold_out-Field Names Names Names Names name_step field_names method_names parameter_names f) h.named;
          owned = owned.1;
          formed = subst (Each IsWellFormed) (ap within_of (fold_out-Field Sets Member Member Sets member_step field_member method_member parameter_members f)) h.formed;
        };
      }

  close_field : (f : Field) → FieldKept N S f → FieldParts f
  close_field f h = record {
    named = subst (Each N) (sym (fold_out-Field Names Names Names Names name_step field_names method_names parameter_names f)) h.term.named;
    owned = subst (Each S) (sym (fold_out-Field Sels Sels Sels Sels sel_step field_sels method_sels parameter_sels f)) (h.sel, h.term.owned);
    formed = subst (Each IsWellFormed) (sym (ap within_of (fold_out-Field Sets Member Member Sets member_step field_member method_member parameter_members f))) h.term.formed;
  }

  open_method : (m : Method) → MethodParts m → MethodKept N S m
  open_method m h =
      let owned = subst (Each S) (fold_out-Method Sels Sels Sels Sels sel_step field_sels method_sels parameter_sels m) h.owned in
      record {
        sel = owned.0;
        signature = record {
          named = subst (Each N) (fold_out-Method Names Names Names Names name_step field_names method_names parameter_names m) h.named;
          owned = owned.1;
          formed = subst (Each IsWellFormed) (ap within_of (fold_out-Method Sets Member Member Sets member_step field_member method_member parameter_members m)) h.formed;
        };
      }

  close_method : (m : Method) → MethodKept N S m → MethodParts m
  close_method m h = record {
    named = subst (Each N) (sym (fold_out-Method Names Names Names Names name_step field_names method_names parameter_names m)) h.signature.named;
    owned = subst (Each S) (sym (fold_out-Method Sels Sels Sels Sels sel_step field_sels method_sels parameter_sels m)) (h.sel, h.signature.owned);
    formed = subst (Each IsWellFormed) (sym (ap within_of (fold_out-Method Sets Member Member Sets member_step field_member method_member parameter_members m))) h.signature.formed;
  }

  open_fields : (fs : List Field) → Kept N S (all_of (map names_of_field fs)) (sels_of (map sels_of_field fs)) (gather within_of (map member_of_field fs)) → Each (FieldKept N S) fs
  open_fields [] h = tt
  open_fields (f ∷ fs) h = (
    open_field f (kept_front (names_of_field f) (all_of (map names_of_field fs)) (sels_of_field f) (sels_of (map sels_of_field fs)) (within_of (member_of_field f)) (gather within_of (map member_of_field fs)) h),
    open_fields fs (kept_behind (names_of_field f) (all_of (map names_of_field fs)) (sels_of_field f) (sels_of (map sels_of_field fs)) (within_of (member_of_field f)) (gather within_of (map member_of_field fs)) h),
  )

  close_fields : (fs : List Field) → Each (FieldKept N S) fs → Kept N S (all_of (map names_of_field fs)) (sels_of (map sels_of_field fs)) (gather within_of (map member_of_field fs))
  close_fields [] h = kept_none
  close_fields (f ∷ fs) h = kept_both (close_field f h.0) (close_fields fs h.1)

  open_methods : (ms : List Method) → Kept N S (all_of (map names_of_method ms)) (sels_of (map sels_of_method ms)) (gather within_of (map member_of_method ms)) → Each (MethodKept N S) ms
  open_methods [] h = tt
  open_methods (m ∷ ms) h = (
    open_method m (kept_front (names_of_method m) (all_of (map names_of_method ms)) (sels_of_method m) (sels_of (map sels_of_method ms)) (within_of (member_of_method m)) (gather within_of (map member_of_method ms)) h),
    open_methods ms (kept_behind (names_of_method m) (all_of (map names_of_method ms)) (sels_of_method m) (sels_of (map sels_of_method ms)) (within_of (member_of_method m)) (gather within_of (map member_of_method ms)) h),
  )

  close_methods : (ms : List Method) → Each (MethodKept N S) ms → Kept N S (all_of (map names_of_method ms)) (sels_of (map sels_of_method ms)) (gather within_of (map member_of_method ms))
  close_methods [] h = kept_none
  close_methods (m ∷ ms) h = kept_both (close_method m h.0) (close_methods ms h.1)

  -- ---- levels

  open_layer : (l : Layer) → Kept N S (names_in l) (sels_in l) (members_in l) → LayerKept N S l
  open_layer (Term-F.Plain b) h = tt
  open_layer (Term-F.Named n) h = h.named.0
  open_layer (Term-F.Pointer e) h = h
  open_layer (Term-F.Slice e) h = h
  open_layer (Term-F.Array n e) h = h
  open_layer (Term-F.Map k e) h = (kept_front (names k) (names e) (selectors k) (selectors e) (members k) (members e) h, kept_behind (names k) (names e) (selectors k) (selectors e) (members k) (members e) h)
  open_layer (Term-F.Chan d e) h = h
  open_layer (Term-F.Func g) h = h
  open_layer (Term-F.Struct fs) h = (subst AreDistinct (field_sels_of fs) h.formed.0, open_fields fs (record { named = h.named; owned = h.owned; formed = h.formed.1 }))
  open_layer (Term-F.Interface ms) h = (subst AreOrdered (method_sels_of ms) h.formed.0, open_methods ms (record { named = h.named; owned = h.owned; formed = h.formed.1 }))

  close_layer : (l : Layer) → LayerKept N S l → Kept N S (names_in l) (sels_in l) (members_in l)
  close_layer (Term-F.Plain b) h = kept_none
  close_layer (Term-F.Named n) h = record { named = (h, tt); owned = tt; formed = tt }
  close_layer (Term-F.Pointer e) h = h
  close_layer (Term-F.Slice e) h = h
  close_layer (Term-F.Array n e) h = h
  close_layer (Term-F.Map k e) h = kept_both h.0 h.1
  close_layer (Term-F.Chan d e) h = h
  close_layer (Term-F.Func g) h = h
  close_layer (Term-F.Struct fs) h = let k = close_fields fs h.1 in record { named = k.named; owned = k.owned; formed = (subst AreDistinct (sym (field_sels_of fs)) h.0, k.formed) }
  close_layer (Term-F.Interface ms) h = let k = close_methods ms h.1 in record { named = k.named; owned = k.owned; formed = (subst AreOrdered (sym (method_sels_of ms)) h.0, k.formed) }

  pub open_term : (t : Term) → TermKept N S t → LayerKept N S (out-Term t)
  open_term t h =
      open_layer (out-Term t)
      (kept_as (fold_out-Term Names Names Names Names name_step field_names method_names parameter_names t) (fold_out-Term Sels Sels Sels Sels sel_step field_sels method_sels parameter_sels t) (fold_out-Term Sets Member Member Sets member_step field_member method_member parameter_members t) h)

  pub close_term : (l : Layer) → LayerKept N S l → TermKept N S (roll-Term l)
  close_term l h =
      kept_as (sym (fold-roll-Term Names Names Names Names name_step field_names method_names parameter_names l)) (sym (fold-roll-Term Sels Sels Sels Sels sel_step field_sels method_sels parameter_sels l)) (sym (fold-roll-Term Sets Member Member Sets member_step field_member method_member parameter_members l))
      (close_layer l h)
