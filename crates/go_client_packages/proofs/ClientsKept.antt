-- A client's package that is typed with its bodies on the old side is so on the new one.
use Rattle.std.proofs.Common.{◌≡◌, inl, inr, ℕ, zero, suc, Bool, true, false, List, [], ◌∷◌, map, refl, sym, ap, ◌∙◌, subst, Option, Some, None}
use Rattle.std.specs.Prelude.{if◌then◌else◌, slice_get}
use Rattle.go_base.proofs.Members.{gather_of, has_split}
use Rattle.go_base.specs.Gathered.{gather}
use Rattle.go_base.specs.Lists.{Each, Has as HasItem}
use Rattle.go_model.specs.declared.types.names.Sel.{Sel}
use Rattle.go_model.specs.declared.types.names.TypeName.{TypeName}
use Rattle.go_rules.specs.Asks.{Meets}
use Rattle.go_rules.specs.Environments.{Env}
use Rattle.go_rules.specs.Nodes.{Node, type}
use Rattle.go_rules.proofs.OneName.{none_some, one_some}
use Rattle.go_statement_rules.specs.Bodies.{AreTypedOutside}
use Rattle.go_syntax.specs.declared.declaration.ConstSpec.{ConstSpec}
use Rattle.go_syntax.specs.declared.declaration.Decl.{Decl}
use Rattle.go_syntax.specs.declared.declaration.Decl.TheVariants as decl
use Rattle.go_syntax.specs.declared.declaration.Func.{Func}
use Rattle.go_syntax.specs.declared.declaration.TypeSpec.{TypeSpec}
use Rattle.go_syntax.specs.declared.statement.LiteralBlock.{LiteralBlock}
use Rattle.go_syntax.specs.declared.types.ParameterDecl.{ParameterDecl, out-ParameterDecl}
use Rattle.go_type_images.specs.Images.{Naming}
use Rattle.go_type_images.specs.declared.pair.TypePair.{TypePair}
use Rattle.go_typed_packages.proofs.OwnDeclarations.{asked_at}
use Rattle.go_typings.proofs.SoundDeclarations.{within}
use Rattle.go_typings.specs.Assignments.{all_of}
use Rattle.go_typings.specs.DeclarationNodes.{nodes}
use Rattle.go_typings.specs.Declarations.{Declaration, Form, alias, constants, constants_from, declarations, declarations_from, definition, forms, func_form, function, in_file, method, no_spec, repeated, type_form, variables}
use Rattle.go_typings.specs.PackageEnvironments.{environment}
use Rattle.go_typings.specs.Sources.{PackageSource, Setting, SourceFile}
use Rattle.go_client_types.specs.Keeping.{Keeps}
use Rattle.go_client_types.proofs.FoundTypes.{in_map}
use Rattle.go_client_statements.proofs.Bodies.{body_kept, outside_kept}
use Rattle.go_client_typings.specs.Bodies.{AreTypedBodies, IsTypedFunc, func_in}
use Rattle.go_client_typings.specs.Clients.{Blocks, IsTypedClient, blocks_in}
use Rattle.go_client_packages.specs.ClientEntries.{entries_image}
use Rattle.go_client_packages.specs.ClientSettings.{KeepsSettings}
use Rattle.go_client_packages.proofs.EntriesKept.{entries_reached}
use Rattle.go_client_packages.proofs.Environments.{environment_kept}
use Rattle.go_client_packages.proofs.Lengths.{below_length}
use Rattle.go_client_packages.proofs.TypingsKept.{typing_kept}

-- ---- functions have no receiver, and methods their own

abbrev Receives : Form → Type 0
Receives (function f) = f.receiver ≡ None
Receives (method r f) = f.receiver ≡ Some r
Receives f = Unit {0}

in_constants : (before : ConstSpec) (place : ℕ) (ss : List ConstSpec) (f : Form) → HasItem (constants_from before place ss) f → Receives f
in_constants before place [] f h = absurd h
in_constants before place (s ∷ ss) f (inl e) = subst Receives e tt
in_constants before place (s ∷ ss) f (inr h) = in_constants (repeated before s) (suc place) ss f h

in_type : (s : TypeSpec) (b : Bool) → Receives (if b then alias s else definition s)
in_type s true = tt
in_type s false = tt

in_function : (o : Option ParameterDecl) (f : Func) → f.receiver ≡ o → Receives (func_form o f)
in_function None f e = e
in_function (Some r) f e = e

in_forms : (d : Decl) (f : Form) → HasItem (forms d) f → Receives f
in_forms (decl.ConstGroup specs) f h = in_constants no_spec 0 specs f h
in_forms (decl.VarGroup specs) f h = let g = in_map variables specs f h in subst Receives g.2 tt
in_forms (decl.TypeGroup specs) f h = let g = in_map type_form specs f h in subst Receives g.2 (in_type g.0 g.0.alias)
in_forms (decl.FuncDecl x) f (inl e) = subst Receives e (in_function x.receiver x refl)
in_forms (decl.FuncDecl x) f (inr h) = absurd h

in_files : (file : ℕ) (fs : List SourceFile) (d : Declaration) → HasItem (declarations_from file fs) d → Receives d.form
in_files file [] d h = absurd h
in_files file (x ∷ xs) d h = elim (has_split (map (in_file file) (gather forms x.declarations)) (declarations_from (suc file) xs) d h) [
  | inl k ↦ (
      let g = in_map (in_file file) (gather forms x.declarations) d k in
      let w = gather_of forms x.declarations g.0 g.1 in
      subst (λ (z : Declaration). Receives z.form) g.2 (in_forms w.0 g.0 w.2))
  | inr k ↦ in_files (suc file) xs d k
]

numbered : {A : Type 0} (xs : List A) (x : A) → HasItem xs x → (n : ℕ) × (slice_get xs n ≡ Some x)
numbered [] x h = absurd h
numbered (y ∷ ys) x (inl e) = (zero, ap Some e)
numbered (y ∷ ys) x (inr h) = let g = numbered ys x h in (suc g.0, g.1)

-- ---- statements

module _ (E F : Env) (r : Naming) (pairs : List TypePair) (std : TypeName → Bool) (is_open : Sel → Bool) (K : Keeps E F r pairs std is_open) (blocks : List LiteralBlock) where
  own_receiver : (p : ParameterDecl) (f : Func) → f.receiver ≡ Some p → Meets E (type (out-ParameterDecl p).type_) → (d : ParameterDecl) → f.receiver ≡ Some d → Meets E (type (out-ParameterDecl d).type_)
  own_receiver p f i m d e = subst (λ (z : ParameterDecl). Meets E (type (out-ParameterDecl z).type_)) (one_some (sym i ∙ e)) m

  body_stays : (f : Form) → Receives f → Each (Meets E) (nodes f) → IsTypedFunc E blocks (func_in f) → IsTypedFunc F blocks (func_in f)
  body_stays (function f) i m h = body_kept E F r pairs std is_open K blocks f (λ d e. absurd (none_some (sym i ∙ e))) m.0 h
  body_stays (method p f) i m h = body_kept E F r pairs std is_open K blocks f (own_receiver p f i m.0) m.1.0 h
  body_stays (constants s place) i m h = h
  body_stays (variables s) i m h = h
  body_stays (alias s) i m h = h
  body_stays (definition s) i m h = h

  outside_stays : (ns : List Node) → Each (Meets E) ns → Each (AreTypedOutside E blocks) ns → Each (AreTypedOutside F blocks) ns
  outside_stays [] m h = tt
  outside_stays (n ∷ ns) m h = (outside_kept E F r pairs std is_open K blocks n m.0 h.0, outside_stays ns m.1 h.1)

  bodies_kept : (f : Form) → Receives f → Each (Meets E) (nodes f) → AreTypedBodies E blocks f → AreTypedBodies F blocks f
  bodies_kept f i m h = record { body = body_stays f i m h.body; literals = outside_stays (nodes f) m h.literals }

-- ---- the package

module _ (s t : Setting) (u : PackageSource) (r : Naming) (pairs : List TypePair) (std : TypeName → Bool) (is_open : Sel → Bool) (K : KeepsSettings s t u r pairs std is_open) (blocks : Blocks) where
  pub client_kept : IsTypedClient s u blocks → IsTypedClient t u blocks
  client_kept c =
      let a = c.entries in
      let all = all_of (declarations u) in
      let h = entries_reached s t u r pairs std is_open K all a c.typing in
      record {
        once = c.once;
        found = c.found;
        entries = entries_image r a;
        typing = typing_kept s t u r pairs std is_open K a c.typing;
        bodies = λ d has. (
            let n = numbered (declarations u) d has in
            let met = (asked_at s u all a c.typing n.0 d (within n.0 _ (below_length (declarations u) n.0 d n.1)) n.1).meets in
            bodies_kept (environment s u a d) (environment t u (entries_image r a) d) r pairs std is_open (environment_kept s t u r pairs std is_open K a h d) (blocks_in blocks d.file) d.form (in_files 0 u.files d has) met (c.bodies d has));
      }
