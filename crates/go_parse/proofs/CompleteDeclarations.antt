-- Each declaration, each import and each file is found.
use Rattle.std.specs.Str.{bytes_eq}
use Rattle.std.specs.Bool.{Decides}
use Rattle.std.specs.Prelude.{codes}
use Rattle.std.proofs.Common.{◌≡◌, ◌≢◌, ℕ, zero, suc, ◌≤◌, ◌<◌, List, [], ◌∷◌, ◌++◌, length, Bool, true, false, Option, Some, None, refl, sym, ap, ◌∙◌, append_assoc, append-nil, arith}
use Rattle.std.proofs.lemmas.Slice.Eq.{bytes_eq-Decides}
use Rattle.go_syntax.specs.declared.declaration.ConstSpec.{ConstSpec}
use Rattle.go_syntax.specs.declared.declaration.Decl.{Decl}
use Rattle.go_syntax.specs.declared.declaration.Decl.TheVariants as decl
use Rattle.go_syntax.specs.declared.declaration.File.{File}
use Rattle.go_syntax.specs.declared.declaration.Func.{Func}
use Rattle.go_syntax.specs.declared.declaration.ImportSpec.{ImportSpec}
use Rattle.go_syntax.specs.declared.declaration.TypeSpec.{TypeSpec}
use Rattle.go_syntax.specs.declared.declaration.VarSpec.{VarSpec}
use Rattle.go_syntax.specs.declared.expression.Expr.{Expr}
use Rattle.go_syntax.specs.declared.name.Name.{Name}
use Rattle.go_syntax.specs.declared.body.BodyRange.{BodyRange}
use Rattle.go_syntax.specs.declared.types.ParameterDecl.{ParameterDecl}
use Rattle.go_syntax.specs.declared.token.TokenKind.TheVariants as kind
use Rattle.go_syntax.specs.grammar.Declarations.{constants, variables, IsSpecs, specs_none, specs_more, IsGroup, group_one, group_specs, IsConstSpec, const_names, const_values, const_typed, IsVarSpec, var_type, var_values, var_typed, IsTypeSpec, type_definition, type_alias, IsReceiver, receiver_none, receiver_some, IsOptionalBody, body_none, body_some, IsFunc, IsDecl, decl_const, decl_var, decl_type, decl_func}
use Rattle.go_syntax.specs.grammar.Declarations as d
use Rattle.go_syntax.specs.grammar.Grammar as g
use Rattle.go_syntax.specs.grammar.Grammar.{IsNames, IsType, IsExprs, IsParameters, IsSignature, is_variadic, at_most_one}
use Rattle.go_syntax.specs.grammar.SourceFiles.{source_file, IsImportSpec, import_plain, import_named, IsImports, imports_none, imports_more, IsDecls, decls_none, decls_more, IsSourceFile}
use Rattle.go_syntax.specs.grammar.SourceFiles as f
use Rattle.go_syntax.specs.grammar.Symbols.{Rule, Takes, takes, TakesName, takes_name, takes_string, Ends, ends_semicolon, ends_closing, begins, begins_type, closes}
use Rattle.go_syntax.specs.grammar.Terminals.{Terminal, Sign, Identifier}
use Rattle.go_cursor.specs.Names.{names}
use Rattle.go_parse.specs.Declarations.{specs, alone, group, values, typed_const, const_end, const_spec, typed_var, var_end, var_spec, type_end, type_spec, only_receiver, receiver, optional_body, func_end, func, with_semicolon, decl_item, decls, import_path, import_spec, import_item, imports, package_name, package_clause, file}
use Rattle.go_cursor.specs.Reading.{Found, Reader, Next, Stop, More, bind, after, turn, loop, step_of, expect, close, ended, spec_item, put_all, step_all}
use Rattle.go_descent.specs.Rules.{Parts, exprs, parameters}
use Rattle.go_descent.proofs.Begins.{read, if_so, if_not, Gives, gives_stop, gives_more, runs, ends_comma, ends_type, ends_here, ends_stops, type_begins, parameters_begin, type_not_comma}
use Rattle.go_descent.proofs.CompleteNames.{names_read}
use Rattle.go_descent.specs.Follow.{OverExpr}
use Rattle.go_descent.proofs.CompleteParts.{CompleteParts, KnownBodies, over_semicolon, over_right_paren, over_right_brace}
use Rattle.go_descent.proofs.CompletePosts.{exprs_read}
use Rattle.go_descent.proofs.CompleteSignatures.{parameters_read}
use Rattle.go_descent.proofs.Shorter.{ends_shorter, more_names_shorter, type_shorter, exprs_shorter, parameters_shorter, signature_shorter}

-- What follows an item

closes_over : (ts : List Terminal) → closes ts ≡ true → OverExpr true ts
closes_over [] e = absurd (cc)
closes_over (Sign kind.RightParen at ∷ ts) e = over_right_paren true at ts
closes_over (Sign kind.RightBrace at ∷ ts) e = over_right_brace true at ts
closes_over (_ ∷ ts) e = absurd (cc)

pub ends_over : {ts rest : List Terminal} → Ends ts rest → OverExpr true ts
ends_over (ends_semicolon {rest = rest} (takes at)) = over_semicolon true at rest
ends_over {ts} (ends_closing e) = closes_over ts e

closes_assign : (ts : List Terminal) → closes ts ≡ true → begins kind.Assign ts ≡ false
closes_assign [] e = refl
closes_assign (Sign kind.Assign at ∷ ts) e = absurd (cc)
closes_assign (_ ∷ ts) e = refl

ends_assign : {ts rest : List Terminal} → Ends ts rest → begins kind.Assign ts ≡ false
ends_assign (ends_semicolon (takes at)) = refl
ends_assign {ts} (ends_closing e) = closes_assign ts e

closes_brace : (ts : List Terminal) → closes ts ≡ true → begins kind.LeftBrace ts ≡ false
closes_brace [] e = refl
closes_brace (Sign kind.LeftBrace at ∷ ts) e = absurd (cc)
closes_brace (_ ∷ ts) e = refl

ends_brace : {ts rest : List Terminal} → Ends ts rest → begins kind.LeftBrace ts ≡ false
ends_brace (ends_semicolon (takes at)) = refl
ends_brace {ts} (ends_closing e) = closes_brace ts e

type_not_assign : (ts : List Terminal) → begins_type ts ≡ true → begins kind.Assign ts ≡ false
type_not_assign [] e = refl
type_not_assign (Sign kind.Assign at ∷ ts) e = absurd (cc)
type_not_assign (_ ∷ ts) e = refl

semicolon_closes : {A : Type 0} (a : A) {ts rest : List Terminal} → Takes kind.Semicolon ts rest → close kind.Semicolon a ts ≡ Some (a, rest)
unfolding close
semicolon_closes a (takes at) = refl

paren_closes : {A : Type 0} (a : A) {ts rest : List Terminal} → Takes kind.RightParen ts rest → close kind.RightParen a ts ≡ Some (a, rest)
unfolding close
paren_closes a (takes at) = refl

-- Groups

-- the reader finds each item that ends, and an item begins with neither `(` nor what closes
pub record Item {A : Type 0} (X : Rule A) (reader : Reader A) : Type 0 where
  pub found : (ts : List Terminal) (x : A) (rest more : List Terminal) → X ts x rest → Ends rest more → reader ts ≡ Some (x, rest)
  pub not_closing : (ts : List Terminal) (x : A) (rest : List Terminal) → X ts x rest → closes ts ≡ false
  pub not_paren : (ts : List Terminal) (x : A) (rest : List Terminal) → X ts x rest → begins kind.LeftParen ts ≡ false
  pub shorter : (ts : List Terminal) (x : A) (rest : List Terminal) → X ts x rest → length rest < length ts

module _ {A : Type 0} {X : Rule A} {reader : Reader A} (item : Item X reader) where
  specs_give : {ts rest : List Terminal} {xs : List A} → IsSpecs X ts xs rest → closes rest ≡ true → (acc : List A) → Gives (step_of (spec_item reader)) acc ts (Some (acc ++ xs, rest))
  specs_give {ts} specs_none e acc = gives_stop (spec_item reader) acc ts (if_so _ _ _ e refl)
  specs_give {ts} {rest} (specs_more {u = u} {v = v} {x = x} {xs = xs} d end ds) e acc =
      gives_more (spec_item reader) acc x xs ts v rest (if_not _ _ _ (item.not_closing ts x u d) (ap after (read (reader ts) ended (item.found ts x u v d end) (ends_here x end))))
      (omega (arith, item.shorter ts x u d, ends_shorter end)) (specs_give ds e (acc ++ x ∷ []))

  specs_read : {ts rest : List Terminal} {xs : List A} → IsSpecs X ts xs rest → closes rest ≡ true → specs reader ts ≡ Some (xs, rest)
  unfolding specs
  specs_read {ts} {rest} {xs} d e = runs (step_of (spec_item reader)) [] ts (Some (xs, rest)) (specs_give d e [])

  closed_specs : {ts u rest : List Terminal} {xs : List A} → IsSpecs X ts xs u → Takes kind.RightParen u rest → bind (specs reader ts) (close kind.RightParen) ≡ Some (xs, rest)
  closed_specs {ts} {xs = xs} d (takes {ts = rest} end) = read (specs reader ts) (close kind.RightParen) (specs_read d refl) (paren_closes xs (takes end))

  pub group_read : {ts rest more : List Terminal} {xs : List A} → IsGroup X ts xs rest → Ends rest more → group reader ts ≡ Some (xs, rest)
  unfolding group
  group_read {ts} {rest} {more} (group_one {x = x} d) end = if_not _ _ _ (item.not_paren ts x rest d) (read (reader ts) alone (item.found ts x rest more d end) refl)
  group_read (group_specs (takes at) d c) end = closed_specs d c

  specs_shorter : {ts rest : List Terminal} {xs : List A} → IsSpecs X ts xs rest → length rest ≤ length ts
  specs_shorter specs_none = omega arith
  specs_shorter {ts} (specs_more {u = u} {x = x} d end ds) = omega (arith, item.shorter ts x u d, ends_shorter end, specs_shorter ds)

  pub group_shorter : {ts rest : List Terminal} {xs : List A} → IsGroup X ts xs rest → length rest ≤ length ts
  group_shorter {ts} {rest} (group_one {x = x} d) = omega (arith, item.shorter ts x rest d)
  group_shorter (group_specs (takes at) d (takes end)) = omega (arith, specs_shorter d)

-- Specs and functions, above the readers of their parts

names_open : {ts rest : List Terminal} {ns : List Name} → IsNames ts ns rest → (closes ts ≡ false) × (begins kind.LeftParen ts ≡ false) × (length rest < length ts)
names_open (g.names takes_name m) = (refl, refl, omega (arith, more_names_shorter m))

module _ {Body : ℕ → Rule BodyRange} (known : KnownBodies Body) {h : ℕ} {l : Parts} (p : CompleteParts Body l (suc h)) where
  values_read : {A : Type 0} (made : List Expr → A) {ts rest more : List Terminal} {xs : List Expr} → IsExprs Body true h ts xs rest → Ends rest more → values made l ts ≡ Some (made xs, rest)
  unfolding values
  values_read made {ts} {rest} {xs = xs} d end = read (exprs l.expr ts) _ (exprs_read known.body_shorter l.expr p.reads_expr d (ends_over end) (ends_stops end)) refl

  const_found : {ts rest more : List Terminal} {x : ConstSpec} → IsConstSpec Body h ts x rest → Ends rest more → const_spec l ts ≡ Some (x, rest)
  unfolding const_spec const_end typed_const expect
  const_found {ts} {rest} (const_names ns) end = read (names ts) (const_end l) (names_read ns (ends_comma end)) (if_not _ _ _ (ends_assign end) (if_not _ _ _ (ends_type end) refl))
  const_found {ts} (const_values {ns = ns} is (takes at) xs) end = read (names ts) (const_end l) (names_read is refl) (values_read (constants ns None) xs end)
  const_found {ts} (const_typed {u = u} {v = v} {ns = ns} {t = t} is d (takes at) xs) end =
      read (names ts) (const_end l) (names_read is (type_not_comma u (type_begins d)))
      (if_not _ _ _ (type_not_assign u (type_begins d)) (if_so _ _ _ (type_begins d) (read (l.typ u) _ (p.reads_typ u t v d) (values_read (constants ns (Some t)) xs end))))

  pub const_item : Item (IsConstSpec Body h) (const_spec l)
  const_item = record { found = λ ts x rest more d end. const_found d end; not_closing = λ ts x rest d. (opens d).0; not_paren = λ ts x rest d. (opens d).1; shorter = λ ts x rest d. (opens d).2 }
    where
      opens : {ts rest : List Terminal} {x : ConstSpec} → IsConstSpec Body h ts x rest → (closes ts ≡ false) × (begins kind.LeftParen ts ≡ false) × (length rest < length ts)
      opens (const_names ns) = names_open ns
      opens (const_values is (takes at) xs) = let o = names_open is in (o.0, o.1, omega (arith, o.2, exprs_shorter Body known.body_shorter xs))
      opens (const_typed is d (takes at) xs) = let o = names_open is in (o.0, o.1, omega (arith, o.2, type_shorter Body known.body_shorter d, exprs_shorter Body known.body_shorter xs))

  var_found : {ts rest more : List Terminal} {x : VarSpec} → IsVarSpec Body h ts x rest → Ends rest more → var_spec l ts ≡ Some (x, rest)
  unfolding var_spec var_end typed_var
  var_found {ts} {rest} (var_type {u = u} {ns = ns} {t = t} is d) end =
      read (names ts) (var_end l) (names_read is (type_not_comma u (type_begins d)))
      (if_not _ _ _ (type_not_assign u (type_begins d)) (read (l.typ u) (typed_var l ns) (p.reads_typ u t rest d) (if_not _ _ _ (ends_assign end) refl)))
  var_found {ts} (var_values {ns = ns} is (takes at) xs) end = read (names ts) (var_end l) (names_read is refl) (values_read (variables ns None) xs end)
  var_found {ts} (var_typed {u = u} {v = v} {ns = ns} {t = t} is d (takes at) xs) end =
      read (names ts) (var_end l) (names_read is (type_not_comma u (type_begins d)))
      (if_not _ _ _ (type_not_assign u (type_begins d)) (read (l.typ u) (typed_var l ns) (p.reads_typ u t v d) (values_read (variables ns (Some t)) xs end)))

  pub var_item : Item (IsVarSpec Body h) (var_spec l)
  var_item = record { found = λ ts x rest more d end. var_found d end; not_closing = λ ts x rest d. (opens d).0; not_paren = λ ts x rest d. (opens d).1; shorter = λ ts x rest d. (opens d).2 }
    where
      opens : {ts rest : List Terminal} {x : VarSpec} → IsVarSpec Body h ts x rest → (closes ts ≡ false) × (begins kind.LeftParen ts ≡ false) × (length rest < length ts)
      opens (var_type is d) = let o = names_open is in (o.0, o.1, omega (arith, o.2, type_shorter Body known.body_shorter d))
      opens (var_values is (takes at) xs) = let o = names_open is in (o.0, o.1, omega (arith, o.2, exprs_shorter Body known.body_shorter xs))
      opens (var_typed is d (takes at) xs) = let o = names_open is in (o.0, o.1, omega (arith, o.2, type_shorter Body known.body_shorter d, exprs_shorter Body known.body_shorter xs))

  type_found : {ts rest : List Terminal} {x : TypeSpec} → IsTypeSpec Body h ts x rest → type_spec l ts ≡ Some (x, rest)
  unfolding type_spec type_end
  type_found {rest = rest} (type_definition {u = u} {t = t} takes_name d) = if_not _ _ _ (type_not_assign u (type_begins d)) (read (l.typ u) _ (p.reads_typ u t rest d) refl)
  type_found {rest = rest} (type_alias {v = v} {t = t} takes_name (takes at) d) = read (l.typ v) _ (p.reads_typ v t rest d) refl

  pub type_item : Item (IsTypeSpec Body h) (type_spec l)
  type_item = record { found = λ ts x rest more d end. type_found d; not_closing = λ ts x rest d. (opens d).0; not_paren = λ ts x rest d. (opens d).1; shorter = λ ts x rest d. (opens d).2 }
    where
      opens : {ts rest : List Terminal} {x : TypeSpec} → IsTypeSpec Body h ts x rest → (closes ts ≡ false) × (begins kind.LeftParen ts ≡ false) × (length rest < length ts)
      opens (type_definition takes_name d) = (refl, refl, omega (arith, type_shorter Body known.body_shorter d))
      opens (type_alias takes_name (takes at) d) = (refl, refl, omega (arith, type_shorter Body known.body_shorter d))

  receiver_read : {ts u rest : List Terminal} {r : Option ParameterDecl} {n : Name} → IsReceiver Body h ts r u → TakesName n u rest → receiver l ts ≡ Some (r, u)
  unfolding receiver
  receiver_read receiver_none takes_name = refl
  receiver_read {ts} {u} (receiver_some {d = d} ds o v) n =
      if_so _ _ _ (parameters_begin ds) (read (parameters l.typ ts) only_receiver (parameters_read known.body_shorter l.typ p.reads_typ ds) (if_not _ _ _ v (if_so _ _ _ o refl)))

  optional_read : {ts rest more : List Terminal} {b : Option BodyRange} → IsOptionalBody Body h ts b rest → Ends rest more → optional_body l ts ≡ Some (b, rest)
  unfolding optional_body
  optional_read body_none end = if_not _ _ _ (ends_brace end) refl
  optional_read {ts} {rest} (body_some {b = b} d) end = if_so _ _ _ (known.body_begins h ts b rest d) (read (l.body ts) _ (p.reads_body ts b rest d) refl)

  func_read : {ts u rest more : List Terminal} {f : Func} → IsFunc Body h ts f rest → Takes kind.FuncWord ts u → Ends rest more → func l u ≡ Some (f, rest)
  unfolding func func_end
  func_read {rest = rest} (d.func {u = u} {w = w} {y = y} {receiver = r} {n = n} {s = s} (takes at) is takes_name sig body) (takes again) end =
      read (receiver l u) (func_end l) (receiver_read is takes_name) (read (l.signature w) _ (p.reads_signature w s y sig) (read (optional_body l y) _ (optional_read body end) refl))

  receiver_shorter : {ts rest : List Terminal} {r : Option ParameterDecl} → IsReceiver Body h ts r rest → length rest ≤ length ts
  receiver_shorter receiver_none = omega arith
  receiver_shorter (receiver_some ds o v) = parameters_shorter Body known.body_shorter ds

  optional_shorter : {ts rest : List Terminal} {b : Option BodyRange} → IsOptionalBody Body h ts b rest → length rest ≤ length ts
  optional_shorter body_none = omega arith
  optional_shorter {ts} {rest} (body_some {b = b} d) = known.body_shorter h ts b rest d

  decl_shorter : {ts rest : List Terminal} {x : Decl} → IsDecl Body h ts x rest → length rest < length ts
  decl_shorter (decl_const (takes at) d) = omega (arith, group_shorter const_item d)
  decl_shorter (decl_var (takes at) d) = omega (arith, group_shorter var_item d)
  decl_shorter (decl_type (takes at) d) = omega (arith, group_shorter type_item d)
  decl_shorter (decl_func (d.func (takes at) r takes_name s b)) = omega (arith, receiver_shorter r, signature_shorter Body known.body_shorter s, optional_shorter b)

  with_end : {A : Type 0} (made : A → Decl) (r : Found A) {a : A} {u rest : List Terminal} → r ≡ Some (a, u) → Takes kind.Semicolon u rest → with_semicolon made r ≡ More (made a) rest
  with_end made r {a = a} e t = ap after (read r _ e (semicolon_closes (made a) t))

  decl_read : {ts u rest : List Terminal} {x : Decl} → IsDecl Body h ts x u → Takes kind.Semicolon u rest → decl_item l ts ≡ More x rest
  unfolding decl_item
  decl_read (decl_const {u = u} (takes at) d) t = with_end decl.ConstGroup (group (const_spec l) u) (group_read const_item d (ends_semicolon t)) t
  decl_read (decl_var {u = u} (takes at) d) t = with_end decl.VarGroup (group (var_spec l) u) (group_read var_item d (ends_semicolon t)) t
  decl_read (decl_type {u = u} (takes at) d) t = with_end decl.TypeGroup (group (type_spec l) u) (group_read type_item d (ends_semicolon t)) t
  decl_read (decl_func (d.func {u = u} (takes at) r n s b)) t = with_end decl.FuncDecl (func l u) (func_read (d.func (takes at) r n s b) (takes at) (ends_semicolon t)) t

  decls_give : {ts rest : List Terminal} {xs : List Decl} → IsDecls Body h ts xs rest → decl_item l rest ≡ Stop → (acc : List Decl) → Gives (step_of (decl_item l)) acc ts (Some (acc ++ xs, rest))
  decls_give {ts} decls_none e acc = gives_stop (decl_item l) acc ts e
  decls_give {ts} {rest} (decls_more {u = u} {v = v} {d = x} {ds = xs} d (takes at) ds) e acc =
      gives_more (decl_item l) acc x xs ts v rest (decl_read d (takes at)) (omega (arith, decl_shorter d)) (decls_give ds e (acc ++ x ∷ []))

  decls_read : {ts : List Terminal} {xs : List Decl} → IsDecls Body h ts xs [] → decls l ts ≡ Some (xs, [])
  unfolding decls decl_item
  decls_read {ts} {xs} d = runs (step_of (decl_item l)) [] ts (Some (xs, [])) (decls_give d refl [])

-- Imports

import_found : {ts rest : List Terminal} {x : ImportSpec} → IsImportSpec ts x rest → import_spec ts ≡ Some (x, rest)
unfolding import_spec import_path
import_found (import_plain takes_string) = refl
import_found (import_named takes_name takes_string) = refl

import_opens : {ts rest : List Terminal} {x : ImportSpec} → IsImportSpec ts x rest → (closes ts ≡ false) × (begins kind.LeftParen ts ≡ false) × (length rest < length ts)
import_opens (import_plain takes_string) = (refl, refl, omega arith)
import_opens (import_named takes_name takes_string) = (refl, refl, omega arith)

one_import : Item IsImportSpec import_spec
one_import = record { found = λ ts x rest more d end. import_found d; not_closing = λ ts x rest d. (import_opens d).0; not_paren = λ ts x rest d. (import_opens d).1; shorter = λ ts x rest d. (import_opens d).2 }

all_stop : {A : Type 0} (item : List Terminal → Next (List A)) (a : List A) (ts : List Terminal) → item ts ≡ Stop → Gives (step_all item) a ts (Some (a ++ [], ts))
unfolding loop
all_stop {A} item a ts e zero h = ap (λ b. Some (b, ts)) (sym (append-nil a))
all_stop {A} item a ts e (suc n) h = ap (λ (w : Next (List A)). turn (loop (step_all item) n) a ts (put_all a w)) e ∙ ap (λ b. Some (b, ts)) (sym (append-nil a))

all_more : {A : Type 0} (item : List Terminal → Next (List A)) (a b bs : List A) (ts u rest : List Terminal) → item ts ≡ More b u → length u < length ts
    → Gives (step_all item) (a ++ b) u (Some ((a ++ b) ++ bs, rest)) → Gives (step_all item) a ts (Some (a ++ (b ++ bs), rest))
unfolding loop
all_more {A} item a b bs ts u rest e shorter go zero h = absurd (omega arith)
all_more {A} item a b bs ts u rest e shorter go (suc n) h = ap (λ (w : Next (List A)). turn (loop (step_all item) n) a ts (put_all a w)) e ∙ go n (omega arith) ∙ ap (λ c. Some (c, rest)) (append_assoc a b bs)

import_read : {ts u v rest : List Terminal} {xs : List ImportSpec} → Takes kind.ImportWord ts u → IsGroup IsImportSpec u xs v → Takes kind.Semicolon v rest → import_item ts ≡ More xs rest
unfolding import_item
import_read {xs = xs} (takes {ts = u} at) d t = ap after (read (group import_spec u) _ (group_read one_import d (ends_semicolon t)) (semicolon_closes xs t))

imports_give : {ts rest : List Terminal} {xs : List ImportSpec} → IsImports ts xs rest → import_item rest ≡ Stop → (acc : List ImportSpec) → Gives (step_all import_item) acc ts (Some (acc ++ xs, rest))
imports_give {ts} imports_none e acc = all_stop import_item acc ts e
imports_give {ts} {rest} (imports_more {w = w} {xs = xs} {ys = ys} (takes at) d (takes end) ds) e acc =
    all_more import_item acc xs ys ts w rest (import_read (takes at) d (takes end)) (omega (arith, group_shorter one_import d)) (imports_give ds e (acc ++ xs))

imports_read : {ts rest : List Terminal} {xs : List ImportSpec} → IsImports ts xs rest → begins kind.ImportWord rest ≡ false → imports ts ≡ Some (xs, rest)
unfolding imports import_item
imports_read {ts} {rest} {xs} d e = runs (step_all import_item) [] ts (Some (xs, rest)) (imports_give d (if_not _ _ _ e refl) [])

-- Files

not_blank : (n : Name) → n.text ≢ codes "_" → (b : Bool) → Decides b (n.text ≡ codes "_") → b ≡ false
not_blank n h true d = absurd (h (d.0 refl))
not_blank n h false d = refl

package_read : (n : Name) → n.text ≢ codes "_" → (u : List Terminal) → package_name (Identifier n ∷ u) ≡ Some (n, u)
unfolding package_name
package_read n h u = if_not _ _ _ (not_blank n h (bytes_eq n.text (codes "_")) (bytes_eq-Decides n.text (codes "_"))) refl

clause_read : {ts u v rest : List Terminal} {n : Name} → Takes kind.PackageWord ts u → TakesName n u v → n.text ≢ codes "_" → Takes kind.Semicolon v rest → package_clause ts ≡ Some (n, rest)
unfolding package_clause expect
clause_read {n = n} (takes at) (takes_name {ts = v}) h t = read (package_name (Identifier n ∷ v)) (close kind.Semicolon) (package_read n h v) (semicolon_closes n t)

no_import : {Body : ℕ → Rule BodyRange} {h : ℕ} {ts rest : List Terminal} {xs : List Decl} → IsDecls Body h ts xs rest → rest ≡ [] → begins kind.ImportWord ts ≡ false
no_import decls_none e = ap (begins kind.ImportWord) e
no_import (decls_more (decl_const (takes at) d) t ds) e = refl
no_import (decls_more (decl_var (takes at) d) t ds) e = refl
no_import (decls_more (decl_type (takes at) d) t ds) e = refl
no_import (decls_more (decl_func (d.func (takes at) r n s b)) t ds) e = refl

-- each source file is found, with nothing left
pub file_read : {Body : ℕ → Rule BodyRange} (known : KnownBodies Body) {h : ℕ} {l : Parts} (p : CompleteParts Body l (suc h)) {ts : List Terminal} {x : File} → IsSourceFile Body h ts x → file l ts ≡ Some (x, [])
unfolding file
file_read known {l = l} p {ts} (f.file {w = w} {y = y} {n = n} {imports = xs} {decls = ds} k is h t i d) =
    read (package_clause ts) _ (clause_read k is h t) (read (imports w) _ (imports_read i (no_import d refl)) (read (decls l y) _ (decls_read known p d) refl))
