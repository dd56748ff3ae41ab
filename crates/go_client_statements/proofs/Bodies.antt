-- The bodies of functions and methods of a client, and the function literals outside of bodies, on both sides.
use Rattle.std.proofs.Common.{◌≡◌, ℕ, zero, suc, Bool, List, [], ◌∷◌, ◌++◌, length, map, replicate, refl, sym, ap, ◌∙◌, subst, Option, Some}
use Rattle.go_base.specs.Lists.{Each}
use Rattle.go_model.specs.declared.types.names.Sel.{Sel}
use Rattle.go_model.specs.declared.types.names.TypeName.{TypeName}
use Rattle.go_model.specs.declared.types.term.Signature.{Signature, out-Signature}
use Rattle.go_model.specs.declared.types.term.Term.{Term}
use Rattle.go_rules.specs.Asks.{Meets}
use Rattle.go_rules.specs.Environments.{Env}
use Rattle.go_rules.specs.Expressions.{IsTypeName, for_names}
use Rattle.go_rules.specs.Nodes.{Node, optional_result_parts, parameter_parts, signature as at_signature, type}
use Rattle.go_rules.proofs.LocalParts.{each_both, each_left, each_right}
use Rattle.go_statement_rules.specs.Bodies.{AreTypedOutside, IsTypedBody, no_body, typed_body}
use Rattle.go_statement_rules.specs.Functions.{OfReceiver, enclosing, enters_body, no_receiver, receiver, receiver_slots}
use Rattle.go_statement_rules.specs.Scopes.{Declares, locals, opened, parameter_slots, result_slots, within}
use Rattle.go_statement_rules.specs.Statements.{AreTyped}
use Rattle.go_syntax.specs.declared.declaration.Func.{Func}
use Rattle.go_syntax.specs.declared.name.Name.{Name}
use Rattle.go_syntax.specs.declared.name.QualifiedName.{QualifiedName}
use Rattle.go_syntax.specs.declared.statement.LiteralBlock.{LiteralBlock}
use Rattle.go_syntax.specs.declared.types.ParameterDecl.{ParameterDecl, out-ParameterDecl}
use Rattle.go_syntax.specs.declared.types.Signature.{out-Signature as out-Sig}
use Rattle.go_type_images.specs.Images.{Naming, image, image_of_signature, same_sels}
use Rattle.go_type_images.specs.declared.pair.TypePair.{TypePair}
use Rattle.go_type_images.proofs.ImageLevels.{out_image_signature}
use Rattle.go_type_images.proofs.ImageParts.{map_append}
use Rattle.go_client_types.specs.Keeping.{Keeps, seen_to}
use Rattle.go_client_types.specs.Reached.{IsReached}
use Rattle.go_client_types.proofs.TypeForms.{meets_parts}
use Rattle.go_client_expressions.proofs.Expressions as expressions
use Rattle.go_client_statements.specs.LocalScopes.{scopes_to}
use Rattle.go_client_statements.proofs.ScopeImages.{declares_local, declares_to, locals_local, locals_to}
use Rattle.go_client_statements.proofs.Statements as statements
use Rattle.go_client_statements.proofs.Within.{same_names, within_kept}

module _ (E F : Env) (r : Naming) (pairs : List TypePair) (std : TypeName → Bool) (is_open : Sel → Bool) (K : Keeps E F r pairs std is_open) (blocks : List LiteralBlock) where
  abbrev to : Term → Term
  to = image r same_sels

  abbrev R : Term → Type 0
  R = IsReached pairs std is_open

  -- what stands around the functions
  abbrev around : Env
  around = within E []

  abbrev around_too : Env
  around_too = within F []

  deep : Keeps around around_too r pairs std is_open
  deep = within_kept E F r pairs std is_open K [] tt

  names : (q : QualifiedName) (t : Term) → IsTypeName around q t → IsTypeName E q t
  names q t d = same_names around E (λ name m e. e) (λ path name x e. e) q t d

  like_names : (n : ℕ) (t : Term) → map to (replicate n t) ≡ replicate n (to t)
  like_names zero t = refl
  like_names (suc n) t = ap (λ ts. to t ∷ ts) (like_names n t)

  map_names : (ns : List Name) (t : Term) → map to (for_names ns t) ≡ for_names ns (to t)
  map_names [] t = refl
  map_names (n ∷ ns) t = like_names (length (n ∷ ns)) t

  each_like : (n : ℕ) (t : Term) → R t → Each R (replicate n t)
  each_like zero t h = tt
  each_like (suc n) t h = (h, each_like n t h)

  each_names : (ns : List Name) (t : Term) → R t → Each R (for_names ns t)
  each_names [] t h = (h, tt)
  each_names (n ∷ ns) t h = each_like (length (n ∷ ns)) t h

  receiver_kept : {p : Option ParameterDecl} {ts : List Term} → ((d : ParameterDecl) → p ≡ Some d → Meets E (type (out-ParameterDecl d).type_)) → OfReceiver around p ts → OfReceiver around_too p (map to ts) × Each R ts
  receiver_kept m no_receiver = (no_receiver, tt)
  receiver_kept m (receiver {r = d} {t = t} a) =
      let f = expressions.type_kept around around_too E r pairs std is_open deep names K.barred a (m d refl) in
      let ns = (out-ParameterDecl d).names in
      (subst (OfReceiver around_too (Some d)) (sym (map_names ns t)) (receiver f.0), each_names ns t f.1)

  all_to : (ts : List Term) (h : Signature) → map (seen_to r) (locals (ts ++ (out-Signature h).params ++ (out-Signature h).results)) ≡ locals (map to ts ++ (out-Signature (image_of_signature r same_sels h)).params ++ (out-Signature (image_of_signature r same_sels h)).results)
  all_to ts h =
      let ps = (out-Signature h).params in
      let rs = (out-Signature h).results in
      locals_to r ((ts ++ ps) ++ rs)
      ∙ ap locals (map_append to (ts ++ ps) rs ∙ ap (λ us. us ++ map to rs) (map_append to ts ps))
      ∙ ap (λ (x : _). locals ((map to ts ++ x.params) ++ x.results)) (sym (out_image_signature r same_sels h))

  pub body_kept : (f : Func) → ((d : ParameterDecl) → f.receiver ≡ Some d → Meets E (type (out-ParameterDecl d).type_)) → Meets E (at_signature f.signature) → IsTypedBody E blocks f → IsTypedBody F blocks f
  body_kept f m n (no_body e) = no_body e
  body_kept f m n (typed_body (enters_body {b = b} {h = h} {ts = ts} {inner = inner} {ss = ss} e a o d k) t) =
      let p = meets_parts E (at_signature f.signature) n in
      let q = expressions.signature_kept around around_too E r pairs std is_open deep names K.barred o (each_left (Meets E) (parameter_parts (out-Sig f.signature).parameters) (optional_result_parts (out-Sig f.signature).result) p) (each_right (Meets E) (parameter_parts (out-Sig f.signature).parameters) (optional_result_parts (out-Sig f.signature).result) p) in
      let g = receiver_kept m a in
      let parts = statements.signature_parts E F r pairs std is_open K blocks h q.1 in
      let reached = each_both R (ts ++ (out-Signature h).params) (out-Signature h).results (each_both R ts (out-Signature h).params g.1 parts.0) parts.1 in
      let inside = declares_local pairs std is_open (tt, tt) (locals_local pairs std is_open (ts ++ (out-Signature h).params ++ (out-Signature h).results) reached) d in
      let declared = subst (λ ms. Declares (opened []) (receiver_slots f.receiver ++ parameter_slots (out-Sig f.signature).parameters ++ result_slots (out-Sig f.signature).result) ms (scopes_to r inner)) (all_to ts h) (declares_to r d) in
      let s = statements.typed_kept E F r pairs std is_open K blocks parts.1 inside t.1 in
      typed_body (enters_body e g.0 q.0 declared k) (scopes_to r t.0, subst (λ (x : _). AreTyped F blocks (enclosing x.results b.start) (scopes_to r inner) ss (scopes_to r t.0)) (sym (out_image_signature r same_sels h)) s.0)

  pub outside_kept : (at : Node) → Meets E at → AreTypedOutside E blocks at → AreTypedOutside F blocks at
  outside_kept at m w = statements.literals_kept E F r pairs std is_open K blocks tt E names K.barred m w
