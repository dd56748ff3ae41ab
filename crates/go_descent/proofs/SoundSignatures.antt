-- What the readers of parameters and signatures find is in the grammar.
use Rattle.std.proofs.Common.{◌≡◌, ℕ, zero, suc, List, [], ◌∷◌, drop, true, if◌then◌else◌, Some}
use Rattle.go_syntax.specs.declared.name.Name.{Name}
use Rattle.go_syntax.specs.declared.body.BodyRange.{BodyRange}
use Rattle.go_syntax.specs.declared.types.ParameterDecl.{ParameterDecl}
use Rattle.go_syntax.specs.declared.types.Signature.{Signature}
use Rattle.go_syntax.specs.declared.types.«Type».{«Type» as Typ}
use Rattle.go_syntax.specs.declared.token.TokenKind.TheVariants as kind
use Rattle.go_syntax.specs.grammar.Grammar.{last_variadic, none_variadic, IsNames, IsType, IsSignature, signature_alone, signature_parameters, signature_type, IsParameters, parameters_none, parameters_unnamed, parameters_named, IsParameter, parameter_one, parameter_variadic, IsUnnamed, unnamed as is_unnamed, IsMoreUnnamed, unnamed_none, unnamed_more, IsNamed, named as is_named_list, IsMoreNamed, named_none, named_more}
use Rattle.go_syntax.specs.grammar.Symbols.{Rule, Takes, begins, begins_type}
use Rattle.go_syntax.specs.grammar.Terminals.{Terminal}
use Rattle.go_cursor.specs.Names.{names}
use Rattle.go_cursor.specs.LookAheads.{is_named}
use Rattle.go_cursor.specs.Reading.{Reader, expect, past}
use Rattle.go_descent.specs.Rules.{Parts, parameter_of, unnamed_item, unnamed, named_parameter, named_item, named, some_parameters, parameters, result_parameters, signature_end, signature_of}
use Rattle.go_descent.proofs.SoundParts.{SoundParts, no_level}
use Rattle.go_cursor.proofs.Steps.{Sound, with_bind, branch, same, taken, expected, closed, pasts, run_sound, first_sound, AfterComma, comma_item_sound, names_sound}

module _ (Body : ℕ → Rule BodyRange) (h : ℕ) (typ : Reader Typ) (typ_sound : Sound (IsType Body h) typ) where
  parameter_sound : (ns : List Name) → Sound (IsParameter Body h ns) (parameter_of typ ns)
  unfolding parameter_of
  parameter_sound ns ts d rest e = branch (begins kind.Ellipsis ts) e
      (λ c eb. with_bind (typ (drop 1 ts)) _ eb (λ t u et s. same (IsParameter Body h ns) ts (parameter_variadic (taken kind.Ellipsis ts c) (typ_sound (drop 1 ts) t u et)) s))
      (λ c eb. with_bind (typ ts) _ eb (λ t u et s. same (IsParameter Body h ns) ts (parameter_one (typ_sound ts t u et)) s))

  unnamed_sound : Sound (IsUnnamed Body h) (unnamed typ)
  unfolding unnamed
  unnamed_sound ts ds rest e = with_bind (parameter_of typ [] ts) _ e (λ d u ed er. first_sound (IsMoreUnnamed Body h) (IsUnnamed Body h) ts u d (λ xs w c. is_unnamed (parameter_sound [] ts d u ed) c) ds rest
      (run_sound (AfterComma (IsParameter Body h [])) (IsMoreUnnamed Body h) (λ w. unnamed_none) (λ w v y x xs k c. unnamed_more k.0 k.1 c) (unnamed_item typ)
      (comma_item_sound (IsParameter Body h []) (parameter_of typ []) (parameter_sound [])) (d ∷ []) u ds rest er))

  -- names, and the parameter that they name
  IsNamedOne : Rule ParameterDecl
  IsNamedOne ts d rest = (ns : List Name) × (u : List Terminal) × IsNames ts ns u × IsParameter Body h ns u d rest

  named_one_sound : Sound IsNamedOne (named_parameter typ)
  unfolding named_parameter IsNamedOne
  named_one_sound ts d rest e = with_bind (names ts) _ e (λ ns u en ed. (ns, u, names_sound ts ns u en, parameter_sound ns u d rest ed))

  named_sound : Sound (IsNamed Body h) (named typ)
  unfolding named IsNamedOne
  named_sound ts ds rest e = with_bind (named_parameter typ ts) _ e (λ d u ed er. first_sound (IsMoreNamed Body h) (IsNamed Body h) ts u d (λ xs w c. let k = named_one_sound ts d u ed in is_named_list k.2 k.3 c) ds rest
      (run_sound (AfterComma IsNamedOne) (IsMoreNamed Body h) (λ w. named_none) (λ w v y x xs k c. named_more k.0 k.1.2 k.1.3 c) (named_item typ)
      (comma_item_sound IsNamedOne (named_parameter typ) named_one_sound) (d ∷ []) u ds rest er))

  some_parameters_sound : (ts u : List Terminal) → Takes kind.LeftParen ts u → (ds : List ParameterDecl) (rest : List Terminal) → some_parameters typ u ≡ Some (ds, rest) → IsParameters Body h ts ds rest
  unfolding some_parameters
  some_parameters_sound ts u k ds rest e = with_bind (if is_named u then named typ u else unnamed typ u) _ e (λ xs v ed ec. branch (is_named u) ed
      (λ c en. closed (IsParameters Body h) kind.RightParen ts (past kind.Comma v) (λ w t. parameters_named k (named_sound u xs v en) (pasts kind.Comma v) t) ec)
      (λ c en. closed (IsParameters Body h) kind.RightParen ts (past kind.Comma v) (λ w t. parameters_unnamed k (unnamed_sound u xs v en) (pasts kind.Comma v) t) ec))

  pub parameters_sound : Sound (IsParameters Body h) (parameters typ)
  unfolding parameters
  parameters_sound ts ds rest e = with_bind (expect kind.LeftParen ts) _ e (λ x u eo eb. branch (begins kind.RightParen u) eb
      (λ c s. same (IsParameters Body h) ts (parameters_none (expected kind.LeftParen ts eo) (taken kind.RightParen u c)) s)
      (λ c es. some_parameters_sound ts u (expected kind.LeftParen ts eo) ds rest es))

  signature_end_sound : (ts u : List Terminal) (ds : List ParameterDecl) → IsParameters Body h ts ds u → last_variadic ds ≡ true → (s : Signature) (rest : List Terminal) → signature_end typ ds u ≡ Some (s, rest) → IsSignature Body (suc h) ts s rest
  unfolding signature_end result_parameters
  signature_end_sound ts u ds d v s rest e = branch (begins kind.LeftParen u) e
      (λ c er. with_bind (parameters typ u) _ er (λ rs w ep en. branch (none_variadic rs) en (λ n q. same (IsSignature Body (suc h)) ts (signature_parameters d v (parameters_sound u rs w ep) n) q) (λ n q. absurd (cc))))
      (λ c eb. branch (begins_type u) eb
      (λ b et. with_bind (typ u) _ et (λ t w ey q. same (IsSignature Body (suc h)) ts (signature_type d v c (typ_sound u t w ey)) q))
      (λ b q. same (IsSignature Body (suc h)) ts (signature_alone d v b) q))

-- a signature, which is above its parameters
pub signature_sound : (Body : ℕ → Rule BodyRange) (l : Parts) (n : ℕ) → SoundParts Body l n → Sound (IsSignature Body n) (signature_of l)
unfolding signature_of
signature_sound Body l zero s ts a rest e = branch l.deep e (λ c q. absurd (no_level (s.deep c))) (λ c q. absurd (cc))
signature_sound Body l (suc h) s ts a rest e = branch l.deep e
    (λ c ep. with_bind (parameters l.typ ts) _ ep (λ ds u ed ei. branch (last_variadic ds) ei (λ v ex. signature_end_sound Body h l.typ s.typ ts u ds (parameters_sound Body h l.typ s.typ ts ds u ed) v a rest ex) (λ v q. absurd (cc))))
    (λ c q. absurd (cc))
