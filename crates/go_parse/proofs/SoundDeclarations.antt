-- What the readers of declarations and of a file find is in the grammar.
use Rattle.std.specs.Str.{bytes_eq}
use Rattle.std.proofs.Common.{◌≡◌, ◌≢◌, ℕ, zero, suc, List, [], ◌∷◌, ◌++◌, length, drop, true, Option, Some, None, refl, sym, ap, ◌∙◌, subst, append_assoc, append-nil}
use Rattle.std.specs.Prelude.{codes}
use Rattle.std.proofs.lemmas.Slice.Eq.{bytes_eq-Decides}
use Rattle.std.proofs.lemmas.Bool.Decides.{not_from_Decides}
use Rattle.go_syntax.specs.declared.declaration.Decl.{Decl}
use Rattle.go_syntax.specs.declared.declaration.Decl.TheVariants as decl
use Rattle.go_syntax.specs.declared.declaration.File.{File}
use Rattle.go_syntax.specs.declared.declaration.Func.{Func}
use Rattle.go_syntax.specs.declared.declaration.ImportSpec.{ImportSpec}
use Rattle.go_syntax.specs.declared.expression.Expr.{Expr}
use Rattle.go_syntax.specs.declared.name.Name.{Name}
use Rattle.go_syntax.specs.declared.body.BodyRange.{BodyRange}
use Rattle.go_syntax.specs.declared.types.ParameterDecl.{ParameterDecl, out-ParameterDecl}
use Rattle.go_syntax.specs.declared.token.TokenKind.TheVariants as kind
use Rattle.go_syntax.specs.grammar.Declarations.{constants, variables, IsSpecs, specs_none, specs_more, IsGroup, group_one, group_specs, IsConstSpec, const_names, const_values, const_typed, IsVarSpec, var_type, var_values, var_typed, IsTypeSpec, type_definition, type_alias, IsReceiver, receiver_none, receiver_some, IsOptionalBody, body_none, body_some, IsFunc, func as is_func, IsDecl, decl_const, decl_var, decl_type, decl_func}
use Rattle.go_syntax.specs.grammar.Grammar.{is_variadic, at_most_one, IsExprs, IsParameters}
use Rattle.go_syntax.specs.grammar.SourceFiles.{IsImportSpec, import_plain, import_named, IsImports, imports_none, imports_more, IsDecls, decls_none, decls_more, IsSourceFile, file as is_file}
use Rattle.go_syntax.specs.grammar.Symbols.{Rule, Takes, TakesName, begins, begins_type}
use Rattle.go_syntax.specs.grammar.Terminals.{Terminal}
use Rattle.go_cursor.specs.Names.{names}
use Rattle.go_parse.specs.Declarations.{specs, group, values, typed_const, const_end, const_spec, typed_var, var_end, var_spec, type_end, type_spec, only_receiver, receiver, optional_body, func_end, func, with_semicolon, decl_item, decls, import_at, import_path, import_spec, import_item, imports, package_name, package_clause, file}
use Rattle.go_cursor.specs.Reading.{Found, Reader, Next, Stop, Fail, More, bind, turn, loop, run, expect, close, name, begins_name, string_at, spec_item, put_all, step_all}
use Rattle.go_descent.specs.Rules.{Parts, exprs, parameters}
use Rattle.go_descent.proofs.SoundParts.{SoundParts}
use Rattle.go_descent.proofs.SoundPosts.{exprs_sound}
use Rattle.go_descent.proofs.SoundSignatures.{parameters_sound}
use Rattle.go_cursor.proofs.Steps.{Sound, SoundTurn, with_bind, branch, same, taken, expected, closed, named_by, string_taken, after_more, item_if, Adds, run_sound, from_none, Ending, ending_item_sound, names_sound}

-- Groups

module _ {A : Type 0} (X : Rule A) (read : Reader A) (sound : Sound X read) where
  specs_sound : Sound (IsSpecs X) (specs read)
  unfolding specs
  specs_sound ts xs rest e = from_none (IsSpecs X) ts xs rest
      (run_sound (Ending X) (IsSpecs X) (λ w. specs_none) (λ w v y x xs k c. specs_more k.1 k.2 c) (spec_item read) (ending_item_sound X read sound) [] ts xs rest e)

  pub group_sound : Sound (IsGroup X) (group read)
  unfolding group
  group_sound ts xs rest e = branch (begins kind.LeftParen ts) e
      (λ c es. with_bind (specs read (drop 1 ts)) _ es (λ ys u ey ec. closed (IsGroup X) kind.RightParen ts u (λ w t. group_specs (taken kind.LeftParen ts c) (specs_sound (drop 1 ts) ys u ey) t) ec))
      (λ c ex. with_bind (read ts) _ ex (λ x u ey s. same (IsGroup X) ts (group_one (sound ts x u ey)) s))

-- Specs and functions, above the readers of their parts

module _ (Body : ℕ → Rule BodyRange) (h : ℕ) (l : Parts) (s : SoundParts Body l (suc h)) where
  values_sound : {A : Type 0} (D : Rule A) (made : List Expr → A) (ts u : List Terminal) → ((xs : List Expr) (w : List Terminal) → IsExprs Body true h u xs w → D ts (made xs) w)
      → (a : A) (rest : List Terminal) → values made l u ≡ Some (a, rest) → D ts a rest
  unfolding values
  values_sound D made ts u d a rest e = with_bind (exprs l.expr u) _ e (λ xs w ex q. same D ts (d xs w (exprs_sound Body true h l.expr s.expr u xs w ex)) q)

  pub const_spec_sound : Sound (IsConstSpec Body h) (const_spec l)
  unfolding const_spec const_end typed_const
  const_spec_sound ts a rest e = with_bind (names ts) _ e (λ ns u en ee. branch (begins kind.Assign u) ee
      (λ c ev. values_sound (IsConstSpec Body h) (constants ns None) ts (drop 1 u) (λ xs w. const_values (names_sound ts ns u en) (taken kind.Assign u c)) a rest ev)
      (λ c eb. branch (begins_type u) eb
      (λ b et. with_bind (l.typ u) _ et (λ t v ey ea. with_bind (expect kind.Assign v) _ ea (λ _ w ew ev.
      values_sound (IsConstSpec Body h) (constants ns (Some t)) ts w (λ xs y. const_typed (names_sound ts ns u en) (s.typ u t v ey) (expected kind.Assign v ew)) a rest ev)))
      (λ b q. same (IsConstSpec Body h) ts (const_names (names_sound ts ns u en)) q)))

  pub var_spec_sound : Sound (IsVarSpec Body h) (var_spec l)
  unfolding var_spec var_end typed_var
  var_spec_sound ts a rest e = with_bind (names ts) _ e (λ ns u en ee. branch (begins kind.Assign u) ee
      (λ c ev. values_sound (IsVarSpec Body h) (variables ns None) ts (drop 1 u) (λ xs w. var_values (names_sound ts ns u en) (taken kind.Assign u c)) a rest ev)
      (λ c et. with_bind (l.typ u) _ et (λ t v ey ea. branch (begins kind.Assign v) ea
      (λ d ev. values_sound (IsVarSpec Body h) (variables ns (Some t)) ts (drop 1 v) (λ xs y. var_typed (names_sound ts ns u en) (s.typ u t v ey) (taken kind.Assign v d)) a rest ev)
      (λ d q. same (IsVarSpec Body h) ts (var_type (names_sound ts ns u en) (s.typ u t v ey)) q))))

  pub type_spec_sound : Sound (IsTypeSpec Body h) (type_spec l)
  unfolding type_spec type_end
  type_spec_sound ts a rest e = with_bind (name ts) _ e (λ n u en ee. branch (begins kind.Assign u) ee
      (λ c et. with_bind (l.typ (drop 1 u)) _ et (λ t v ey q. same (IsTypeSpec Body h) ts (type_alias (named_by ts en) (taken kind.Assign u c) (s.typ (drop 1 u) t v ey)) q))
      (λ c et. with_bind (l.typ u) _ et (λ t v ey q. same (IsTypeSpec Body h) ts (type_definition (named_by ts en) (s.typ u t v ey)) q)))

  only_sound : (ts u : List Terminal) (ds : List ParameterDecl) → IsParameters Body h ts ds u → (r : Option ParameterDecl) (rest : List Terminal) → only_receiver ds u ≡ Some (r, rest) → IsReceiver Body h ts r rest
  only_sound ts u [] d r rest e = absurd (cc)
  only_sound ts u (p ∷ []) d r rest e = branch (is_variadic p) e (λ c q. absurd (cc))
      (λ c eo. branch (at_most_one (out-ParameterDecl p).names) eo (λ o q. same (IsReceiver Body h) ts (receiver_some d o c) q) (λ o q. absurd (cc)))
  only_sound ts u (p ∷ q ∷ ds) d r rest e = absurd (cc)

  pub receiver_sound : Sound (IsReceiver Body h) (receiver l)
  unfolding receiver
  receiver_sound ts r rest e = branch (begins kind.LeftParen ts) e
      (λ c ep. with_bind (parameters l.typ ts) _ ep (λ ds u ed eo. only_sound ts u ds (parameters_sound Body h l.typ s.typ ts ds u ed) r rest eo))
      (λ c q. same (IsReceiver Body h) ts receiver_none q)

  optional_body_sound : Sound (IsOptionalBody Body h) (optional_body l)
  unfolding optional_body
  optional_body_sound ts b rest e = branch (begins kind.LeftBrace ts) e
      (λ c eb. with_bind (l.body ts) _ eb (λ x u ex q. same (IsOptionalBody Body h) ts (body_some (s.body ts x u ex)) q))
      (λ c q. same (IsOptionalBody Body h) ts body_none q)

  func_sound : (ts u : List Terminal) → Takes kind.FuncWord ts u → (f : Func) (rest : List Terminal) → func l u ≡ Some (f, rest) → IsFunc Body h ts f rest
  unfolding func func_end
  func_sound ts u k f rest e = with_bind (receiver l u) _ e (λ r v er en. with_bind (name v) _ en (λ n w ew es. with_bind (l.signature w) _ es (λ g y eg eb. with_bind (optional_body l y) _ eb (λ b z ez q.
      same (IsFunc Body h) ts (is_func k (receiver_sound u r v er) (named_by v ew) (s.signature w g y eg) (optional_body_sound y b z ez)) q))))

  -- a declaration, and the semicolon after it
  abbrev EndingDecl : Rule Decl
  EndingDecl ts d rest = (u : List Terminal) × IsDecl Body h ts d u × Takes kind.Semicolon u rest

  semicolon_sound : {A : Type 0} (made : A → Decl) (r : Found A) (ts : List Terminal) → ((a : A) (u : List Terminal) → r ≡ Some (a, u) → IsDecl Body h ts (made a) u)
      → (d : Decl) (rest : List Terminal) → with_semicolon made r ≡ More d rest → EndingDecl ts d rest
  semicolon_sound made r ts derives d rest e = with_bind r _ (after_more (bind r (λ a. close kind.Semicolon (made a))) e) (λ a u er ec. closed EndingDecl kind.Semicolon ts u (λ v t. (u, derives a u er, t)) ec)

  decl_item_sound : SoundTurn EndingDecl (decl_item l)
  unfolding decl_item
  decl_item_sound ts d rest e = branch (begins kind.ConstWord ts) e
      (λ c g. semicolon_sound decl.ConstGroup (group (const_spec l) (drop 1 ts)) ts (λ xs u q. decl_const (taken kind.ConstWord ts c) (group_sound (IsConstSpec Body h) (const_spec l) const_spec_sound (drop 1 ts) xs u q)) d rest g)
      (λ _ e. branch (begins kind.VarWord ts) e
      (λ c g. semicolon_sound decl.VarGroup (group (var_spec l) (drop 1 ts)) ts (λ xs u q. decl_var (taken kind.VarWord ts c) (group_sound (IsVarSpec Body h) (var_spec l) var_spec_sound (drop 1 ts) xs u q)) d rest g)
      (λ _ e. branch (begins kind.TypeWord ts) e
      (λ c g. semicolon_sound decl.TypeGroup (group (type_spec l) (drop 1 ts)) ts (λ xs u q. decl_type (taken kind.TypeWord ts c) (group_sound (IsTypeSpec Body h) (type_spec l) type_spec_sound (drop 1 ts) xs u q)) d rest g)
      (λ _ e. item_if (begins kind.FuncWord ts) _ e
      (λ c g. semicolon_sound decl.FuncDecl (func l (drop 1 ts)) ts (λ f u q. decl_func (func_sound ts (drop 1 ts) (taken kind.FuncWord ts c) f u q)) d rest g))))

  pub decls_sound : Sound (IsDecls Body h) (decls l)
  unfolding decls
  decls_sound ts ds rest e = from_none (IsDecls Body h) ts ds rest
      (run_sound EndingDecl (IsDecls Body h) (λ w. decls_none) (λ w v y x xs k c. decls_more k.1 k.2 c) (decl_item l) decl_item_sound [] ts ds rest e)

-- Imports

path_by : (n : Option Name) (ts u : List Terminal) → ((path : List ℕ) (place : ℕ) (rest : List Terminal) → string_at u ≡ Some (path, place) → rest ≡ drop 1 u → IsImportSpec ts (record { name = n; path = path; place = place }) rest)
    → (found : Option (List ℕ × ℕ)) → string_at u ≡ found → (a : ImportSpec) (rest : List Terminal) → import_at n found u ≡ Some (a, rest) → IsImportSpec ts a rest
path_by n ts u d None is a rest e = absurd (cc)
path_by n ts u d (Some p) is a rest e = same IsImportSpec ts (d p.0 p.1 (drop 1 u) is refl) e

pub import_spec_sound : Sound IsImportSpec import_spec
unfolding import_spec import_path
import_spec_sound ts a rest e = branch (begins_name ts) e
    (λ c en. with_bind (name ts) _ en (λ n u em ep. path_by (Some n) ts u (λ path place w q r. subst (IsImportSpec ts (record { name = Some n; path = path; place = place })) (sym r) (import_named (named_by ts em) (string_taken u (path, place) q))) (string_at u) refl a rest ep))
    (λ c ep. path_by None ts ts (λ path place w q r. subst (IsImportSpec ts (record { name = None; path = path; place = place })) (sym r) (import_plain (string_taken ts (path, place) q))) (string_at ts) refl a rest ep)

-- an import declaration, and the semicolon after it
abbrev EndingImport : Rule (List ImportSpec)
EndingImport ts xs rest = (u : List Terminal) × (v : List Terminal) × Takes kind.ImportWord ts u × IsGroup IsImportSpec u xs v × Takes kind.Semicolon v rest

import_item_sound : SoundTurn EndingImport import_item
unfolding import_item
import_item_sound ts xs rest e = item_if (begins kind.ImportWord ts) _ e (λ c g. with_bind (group import_spec (drop 1 ts)) _ (after_more (bind (group import_spec (drop 1 ts)) (λ a. close kind.Semicolon a)) g) (λ ys u er ec.
    closed EndingImport kind.Semicolon ts u (λ v t. (drop 1 ts, u, taken kind.ImportWord ts c, group_sound IsImportSpec import_spec import_spec_sound (drop 1 ts) ys u er, t)) ec))

all_more : (acc : List ImportSpec) (next : Next (List ImportSpec)) {b : List ImportSpec} {rest : List Terminal} → put_all acc next ≡ More b rest → (xs : List ImportSpec) × (next ≡ More xs rest) × (acc ++ xs ≡ b)
all_more acc Stop e = absurd (cc)
all_more acc Fail e = absurd (cc)
all_more acc (More xs ts) e = (xs, (cc), (cc))

turn_sound : (go : List ImportSpec → Reader (List ImportSpec)) → ((acc : List ImportSpec) → Sound (Adds IsImports acc) (go acc)) → (acc : List ImportSpec) (ts : List Terminal) (next : Next (List ImportSpec)) → step_all import_item acc ts ≡ next
    → (all : List ImportSpec) (rest : List Terminal) → turn go acc ts next ≡ Some (all, rest) → Adds IsImports acc ts all rest
turn_sound go ih acc ts Stop is all rest e = same (Adds IsImports acc) ts ([], sym (append-nil acc), imports_none) e
turn_sound go ih acc ts Fail is all rest e = absurd (cc)
turn_sound go ih acc ts (More more_items u) is all rest e =
    let p = all_more acc (import_item ts) is in
    let i = ih more_items u all rest e in
    let k = import_item_sound ts p.0 u p.1 in
    (p.0 ++ i.0, i.1 ∙ ap (λ w. w ++ i.0) (sym p.2) ∙ append_assoc acc p.0 i.0, imports_more k.2 k.3 k.4 i.2)

loop_sound : (n : ℕ) (acc : List ImportSpec) → Sound (Adds IsImports acc) (loop (step_all import_item) n acc)
unfolding loop
loop_sound zero acc ts all rest e = same (Adds IsImports acc) ts ([], sym (append-nil acc), imports_none) e
loop_sound (suc n) acc ts all rest e = turn_sound (loop (step_all import_item) n) (loop_sound n) acc ts (step_all import_item acc ts) refl all rest e

pub imports_sound : Sound IsImports imports
unfolding imports run
imports_sound ts xs rest e = from_none IsImports ts xs rest (loop_sound (length ts) [] ts xs rest e)

-- Files

abbrev IsPackageName : Rule Name
IsPackageName ts n rest = TakesName n ts rest × (n.text ≢ codes "_")

package_name_sound : Sound IsPackageName package_name
unfolding package_name
package_name_sound ts n rest e = with_bind (name ts) _ e (λ m u em eb. branch (bytes_eq m.text (codes "_")) eb
    (λ c q. absurd (cc))
    (λ c q. same IsPackageName ts (named_by ts em, not_from_Decides (bytes_eq m.text (codes "_")) (bytes_eq-Decides m.text (codes "_")) c) q))

abbrev IsPackageClause : Rule Name
IsPackageClause ts n rest = (u : List Terminal) × (v : List Terminal) × Takes kind.PackageWord ts u × IsPackageName u n v × Takes kind.Semicolon v rest

package_clause_sound : Sound IsPackageClause package_clause
unfolding package_clause
package_clause_sound ts n rest e = with_bind (expect kind.PackageWord ts) _ e (λ _ u ep en. with_bind (package_name u) _ en (λ m v em ec.
    closed IsPackageClause kind.Semicolon ts v (λ w t. (u, v, expected kind.PackageWord ts ep, package_name_sound u m v em, t)) ec))

module _ (Body : ℕ → Rule BodyRange) (h : ℕ) (l : Parts) (s : SoundParts Body l (suc h)) where
  -- what the reader of files finds, where nothing is left, is a source file
  pub file_sound : (ts : List Terminal) (f : File) → file l ts ≡ Some (f, []) → IsSourceFile Body h ts f
  unfolding file
  file_sound ts f e = with_bind (package_clause ts) _ e (λ n u en ei. with_bind (imports u) _ ei (λ xs v ex ed. with_bind (decls l v) _ ed (λ ds w ew q.
      let k = package_clause_sound ts n u en in
      let same_file : ◌≡◌ {A = File × List Terminal} (record { «package» = n; imports = xs; decls = ds }, w) (f, []) = cc in
      subst (IsSourceFile Body h ts) (ap (λ p. p.0) same_file) (is_file k.2 k.3.0 k.3.1 k.4 (imports_sound u xs v ex) (subst (IsDecls Body h v ds) (ap (λ p. p.1) same_file) (decls_sound Body h l s v ds w ew))))))
