-- A declaration of a client that defines no type is given on the new side the image of what it is given on the old one.
use Rattle.std.proofs.Common.{◌≡◌, Bool, true, List, subst}
use Rattle.go_base.specs.Lists.{Each}
use Rattle.go_model.specs.declared.types.names.Sel.{Sel}
use Rattle.go_model.specs.declared.types.names.TypeName.{TypeName}
use Rattle.go_model.specs.declared.types.term.Signature.{Signature}
use Rattle.go_model.specs.declared.types.term.Term.{Term, Term-F}
use Rattle.go_model.specs.types.Bounds.{IsWithinBounds}
use Rattle.go_rules.specs.Asks.{Meets}
use Rattle.go_rules.specs.Environments.{Env}
use Rattle.go_rules.specs.Expressions.{IsTypeName, OfSignature}
use Rattle.go_rules.specs.Nodes.{Node, optional_result_parts, parameter_parts, signature as at_signature}
use Rattle.go_rules.specs.Operands.{function_of}
use Rattle.go_rules.proofs.LocalParts.{each_left, each_right}
use Rattle.go_syntax.specs.declared.name.QualifiedName.{QualifiedName}
use Rattle.go_syntax.specs.declared.types.Signature.{Signature as Sig, out-Signature as out-Sig}
use Rattle.go_type_images.specs.Images.{Naming, image_of_signature, same_sels}
use Rattle.go_type_images.specs.declared.pair.TypePair.{TypePair}
use Rattle.go_type_images.proofs.ImageLevels.{image_roll}
use Rattle.go_typings.specs.DeclarationNodes.{nodes}
use Rattle.go_typings.specs.DeclarationRules.{Gives, gives_alias, gives_constants, gives_definition, gives_function, gives_method, gives_typed_variables, gives_variables}
use Rattle.go_typings.specs.Declarations.{Declaration, Form}
use Rattle.go_typings.specs.PackageEnvironments.{Entry, signed}
use Rattle.go_client_types.specs.Keeping.{Keeps}
use Rattle.go_client_types.proofs.Operands.{bounded}
use Rattle.go_client_types.proofs.TypeForms.{meets_parts}
use Rattle.go_client_expressions.proofs.Expressions as expressions
use Rattle.go_client_statements.proofs.LocalDeclarations as local
use Rattle.go_client_packages.specs.ClientEntries.{DefinesNone, EntryReached, entry_image}

module _ (E F G : Env) (r : Naming) (pairs : List TypePair) (std : TypeName → Bool) (is_open : Sel → Bool) (K : Keeps E F r pairs std is_open) (more : (q : QualifiedName) (t : Term) → IsTypeName E q t → IsTypeName G q t) (barred : G.profile ≡ true) where
  abbrev Met : List Node → Type 0
  Met bs = Each (Meets G) bs

  -- the image is given, and what is given is made of types that the client reaches
  abbrev pub KeepsGiven : List Declaration → Form → Entry → Type 0
  KeepsGiven ds f x = Gives F ds f (entry_image r x) × EntryReached pairs std is_open x

  whole : (g : Sig) (h : Signature) → OfSignature E (out-Sig g).parameters (out-Sig g).result h → Meets G (at_signature g) → OfSignature F (out-Sig g).parameters (out-Sig g).result (image_of_signature r same_sels h) × EntryReached pairs std is_open (signed h)
  whole g h a m =
      let p = meets_parts G (at_signature g) m in
      expressions.signature_kept E F G r pairs std is_open K more barred a (each_left (Meets G) (parameter_parts (out-Sig g).parameters) (optional_result_parts (out-Sig g).result) p) (each_right (Meets G) (parameter_parts (out-Sig g).parameters) (optional_result_parts (out-Sig g).result) p)

  within_bounds : (h : Signature) → IsWithinBounds (function_of h) → IsWithinBounds (function_of (image_of_signature r same_sels h))
  within_bounds h b = subst IsWithinBounds (image_roll r same_sels (Term-F.Func h)) (bounded r pairs std is_open (function_of h) b)

  pub given_kept : {ds : List Declaration} {f : Form} {x : Entry} → DefinesNone f → Gives E ds f x → Met (nodes f) → KeepsGiven ds f x
  given_kept {ds = ds} n (gives_constants {s = s} {place = place} {xs = xs} a e) m = local.constants_given E F G r pairs std is_open K more barred ds s place xs (gives_constants a e) m
  given_kept {ds = ds} n (gives_typed_variables {s = s} e a) m = local.variables_given E F G r pairs std is_open K more barred ds s _ (gives_typed_variables e a) m
  given_kept {ds = ds} n (gives_variables {s = s} e a h) m = local.variables_given E F G r pairs std is_open K more barred ds s _ (gives_variables e a h) m
  given_kept n (gives_alias a) m = let f = expressions.type_kept E F G r pairs std is_open K more barred a m.0 in (gives_alias f.0, (f.1, tt))
  given_kept n (gives_definition a e i h) m = absurd n
  given_kept n (gives_function {f = f} {g = g} a b) m = let k = whole f.signature g a m.0 in (gives_function k.0 (within_bounds g b), (k.1, tt))
  given_kept n (gives_method {f = f} {g = g} a b) m = let k = whole f.signature g a m.1.0 in (gives_method k.0 (within_bounds g b), k.1)
