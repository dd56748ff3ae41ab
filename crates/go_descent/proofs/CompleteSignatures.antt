-- Each list of parameters and each signature is found.
use Rattle.std.proofs.Common.{◌≡◌, ℕ, List, [], ◌∷◌, ◌++◌, true, false, not, if◌then◌else◌, Some, refl, ap, ◌∙◌, arith}
use Rattle.go_syntax.specs.declared.name.Name.{Name}
use Rattle.go_syntax.specs.declared.body.BodyRange.{BodyRange}
use Rattle.go_syntax.specs.declared.types.ParameterDecl.{ParameterDecl}
use Rattle.go_syntax.specs.declared.types.Signature.{Signature}
use Rattle.go_syntax.specs.declared.types.«Type».{«Type» as Typ}
use Rattle.go_syntax.specs.declared.token.TokenKind.TheVariants as kind
use Rattle.go_syntax.specs.grammar.Grammar as grammar
use Rattle.go_syntax.specs.grammar.Grammar.{last_variadic}
use Rattle.go_syntax.specs.grammar.Symbols.{Rule, Takes, takes, MayTake, takes_none, takes_one, takes_name, begins, begins_type, closes}
use Rattle.go_syntax.specs.grammar.Terminals.{Terminal, Sign, Identifier, Extent}
use Rattle.go_cursor.specs.LookAheads.{is_named}
use Rattle.go_cursor.specs.Reading.{Reader, after, step_of, expect, goes_on}
use Rattle.go_descent.specs.Rules.{Parts, parameter_of, unnamed_item, unnamed, named_parameter, named_item, named, some_parameters, parameters, result_parameters, signature_end, signature_of}
use Rattle.go_descent.proofs.Begins.{read, if_so, if_not, Gives, gives_stop, gives_more, runs, comma_stops, closing_comma_paren, type_begins, parameters_begin, type_not_ellipsis, type_not_comma, type_not_closing, no_type_no_paren, not_closing_right_paren}
use Rattle.go_descent.proofs.CompleteNames.{names_read}
use Rattle.go_descent.proofs.CompleteParts.{CompleteParts}
use Rattle.go_descent.proofs.Shorter.{Shortens, names_shorter, parameter_shorter}

-- What a parameter begins with, and the look-ahead for names

named_here : (n : Name) (ts : List Terminal) → begins kind.Comma ts ≡ false → is_named (Identifier n ∷ ts) ≡ (if begins kind.Ellipsis ts then true else begins_type ts)
unfolding is_named
named_here n [] e = refl
named_here n (Sign kind.Comma at ∷ ts) e = absurd (cc)
named_here n (_ ∷ ts) e = refl

named_comma : (n : Name) (ts : List Terminal) (at : Extent) → is_named (Identifier n ∷ (Sign kind.Comma at ∷ ts)) ≡ is_named ts
unfolding is_named
named_comma n ts at = refl

module _ {Body : ℕ → Rule BodyRange} where
  parameter_open : {h : ℕ} {ns : List Name} {ts rest : List Terminal} {d : ParameterDecl} → grammar.IsParameter Body h ns ts d rest → closes ts ≡ false
  parameter_open {ts = ts} (grammar.parameter_one d) = type_not_closing ts (type_begins d)
  parameter_open (grammar.parameter_variadic (takes at) d) = refl

  parameter_not_comma : {h : ℕ} {ns : List Name} {ts rest : List Terminal} {d : ParameterDecl} → grammar.IsParameter Body h ns ts d rest → begins kind.Comma ts ≡ false
  parameter_not_comma {ts = ts} (grammar.parameter_one d) = type_not_comma ts (type_begins d)
  parameter_not_comma (grammar.parameter_variadic (takes at) d) = refl

  parameter_or_ellipsis : {h : ℕ} {ns : List Name} {ts rest : List Terminal} {d : ParameterDecl} → grammar.IsParameter Body h ns ts d rest → (if begins kind.Ellipsis ts then true else begins_type ts) ≡ true
  parameter_or_ellipsis {ts = ts} (grammar.parameter_one d) = if_not _ _ _ (type_not_ellipsis ts (type_begins d)) (type_begins d)
  parameter_or_ellipsis (grammar.parameter_variadic (takes at) d) = refl

  sees_more_names : {h : ℕ} {ns more : List Name} {ts u rest : List Terminal} {d : ParameterDecl} (n : Name) → grammar.IsMoreNames ts more u → grammar.IsParameter Body h ns u d rest → is_named (Identifier n ∷ ts) ≡ true
  sees_more_names {ts = ts} n grammar.names_none p = named_here n ts (parameter_not_comma p) ∙ parameter_or_ellipsis p
  sees_more_names n (grammar.names_more {v = v} {n = m} (takes at) takes_name d) p = named_comma n (Identifier m ∷ v) at ∙ sees_more_names m d p

  sees_names : {h : ℕ} {ns more : List Name} {ts u rest : List Terminal} {d : ParameterDecl} → grammar.IsNames ts more u → grammar.IsParameter Body h ns u d rest → is_named ts ≡ true
  sees_names (grammar.names {n = n} takes_name d) p = sees_more_names n d p

  sees_no_names : {h : ℕ} {ns : List Name} {ts u v w rest : List Terminal} {d : ParameterDecl} {ds : List ParameterDecl} → grammar.IsMoreUnnamed Body h u ds v → grammar.IsParameter Body h ns ts d u → MayTake kind.Comma v w → Takes kind.RightParen w rest → is_named ts ≡ false
  unfolding is_named
  sees_no_names ds (grammar.parameter_variadic (takes at) d) m c = refl
  sees_no_names grammar.unnamed_none (grammar.parameter_one (grammar.type_name (grammar.type_name_alone takes_name e))) takes_none (takes at) = refl
  sees_no_names grammar.unnamed_none (grammar.parameter_one (grammar.type_name (grammar.type_name_alone takes_name e))) (takes_one (takes a)) (takes at) = refl
  sees_no_names (grammar.unnamed_more (takes a) p ds) (grammar.parameter_one (grammar.type_name (grammar.type_name_alone takes_name e))) m c = sees_no_names ds p m c
  sees_no_names ds (grammar.parameter_one (grammar.type_name (grammar.type_name_qualified takes_name (takes a) takes_name))) m c = refl
  sees_no_names ds (grammar.parameter_one (grammar.type_paren (takes at) d e)) m c = refl
  sees_no_names ds (grammar.parameter_one (grammar.type_pointer (takes at) d)) m c = refl
  sees_no_names ds (grammar.parameter_one (grammar.type_receive (takes at) b d)) m c = refl
  sees_no_names ds (grammar.parameter_one (grammar.type_func (takes at) d)) m c = refl
  sees_no_names ds (grammar.parameter_one (grammar.type_composite (grammar.type_slice (takes at) b d))) m c = refl
  sees_no_names ds (grammar.parameter_one (grammar.type_composite (grammar.type_array (takes at) x b d))) m c = refl
  sees_no_names ds (grammar.parameter_one (grammar.type_composite (grammar.type_map (takes at) b k e d))) m c = refl
  sees_no_names ds (grammar.parameter_one (grammar.type_composite (grammar.type_struct_empty (takes at) b e))) m c = refl
  sees_no_names ds (grammar.parameter_one (grammar.type_composite (grammar.type_struct (takes at) b d e))) m c = refl
  sees_no_names ds (grammar.parameter_one (grammar.type_other (grammar.type_chan (takes at) e d))) m c = refl
  sees_no_names ds (grammar.parameter_one (grammar.type_other (grammar.type_send (takes at) b d))) m c = refl
  sees_no_names ds (grammar.parameter_one (grammar.type_other (grammar.type_interface_empty (takes at) b e))) m c = refl
  sees_no_names ds (grammar.parameter_one (grammar.type_other (grammar.type_interface (takes at) b d e))) m c = refl

-- Parameters

module _ {Body : ℕ → Rule BodyRange} (shorter : Shortens Body) {h : ℕ} (typ : Reader Typ)
    (typ_read : (ts : List Terminal) (t : Typ) (rest : List Terminal) → grammar.IsType Body h ts t rest → typ ts ≡ Some (t, rest)) where
  parameter_read : {ns : List Name} {ts rest : List Terminal} {d : ParameterDecl} → grammar.IsParameter Body h ns ts d rest → parameter_of typ ns ts ≡ Some (d, rest)
  unfolding parameter_of
  parameter_read {ts = ts} (grammar.parameter_one d) = if_not _ _ _ (type_not_ellipsis ts (type_begins d)) (read _ _ (typ_read _ _ _ d) refl)
  parameter_read (grammar.parameter_variadic (takes at) d) = read _ _ (typ_read _ _ _ d) refl

  more_unnamed_read : {ts rest : List Terminal} {ds : List ParameterDecl} → grammar.IsMoreUnnamed Body h ts ds rest → goes_on rest ≡ false → (acc : List ParameterDecl) → Gives (step_of (unnamed_item typ)) acc ts (Some (acc ++ ds, rest))
  more_unnamed_read {ts} grammar.unnamed_none e acc = gives_stop (unnamed_item typ) acc ts (if_not _ _ _ e refl)
  more_unnamed_read {ts} {rest} (grammar.unnamed_more {u = u} {v = v} {d = d} {ds = ds} (takes at) p more) e acc =
      gives_more (unnamed_item typ) acc d ds (Sign kind.Comma at ∷ u) v rest (if_so _ _ _ (ap not (parameter_open p)) (ap after (parameter_read p)))
      (omega (arith, parameter_shorter Body shorter p)) (more_unnamed_read more e (acc ++ d ∷ []))

  unnamed_read : {ts rest : List Terminal} {ds : List ParameterDecl} → grammar.IsUnnamed Body h ts ds rest → goes_on rest ≡ false → unnamed typ ts ≡ Some (ds, rest)
  unfolding unnamed
  unnamed_read {rest = rest} {ds = ds} (grammar.unnamed {u = u} {d = d} p more) e = read _ _ (parameter_read p) (runs (step_of (unnamed_item typ)) (d ∷ []) u (Some (ds, rest)) (more_unnamed_read more e (d ∷ [])))

  named_parameter_read : {ts u rest : List Terminal} {ns : List Name} {d : ParameterDecl} → grammar.IsNames ts ns u → grammar.IsParameter Body h ns u d rest → named_parameter typ ts ≡ Some (d, rest)
  unfolding named_parameter
  named_parameter_read ns p = read _ _ (names_read ns (parameter_not_comma p)) (parameter_read p)

  names_open : {ts u : List Terminal} {ns : List Name} → grammar.IsNames ts ns u → closes ts ≡ false
  names_open (grammar.names takes_name d) = refl

  more_named_read : {ts rest : List Terminal} {ds : List ParameterDecl} → grammar.IsMoreNamed Body h ts ds rest → goes_on rest ≡ false → (acc : List ParameterDecl) → Gives (step_of (named_item typ)) acc ts (Some (acc ++ ds, rest))
  more_named_read {ts} grammar.named_none e acc = gives_stop (named_item typ) acc ts (if_not _ _ _ e refl)
  more_named_read {ts} {rest} (grammar.named_more {u = u} {v = v} {w = w} {d = d} {ds = ds} (takes at) ns p more) e acc =
      gives_more (named_item typ) acc d ds (Sign kind.Comma at ∷ u) w rest (if_so _ _ _ (ap not (names_open ns)) (ap after (named_parameter_read ns p)))
      (omega (arith, names_shorter ns, parameter_shorter Body shorter p)) (more_named_read more e (acc ++ d ∷ []))

  named_read : {ts rest : List Terminal} {ds : List ParameterDecl} → grammar.IsNamed Body h ts ds rest → goes_on rest ≡ false → named typ ts ≡ Some (ds, rest)
  unfolding named
  named_read {rest = rest} {ds = ds} (grammar.named {v = v} {d = d} ns p more) e = read _ _ (named_parameter_read ns p) (runs (step_of (named_item typ)) (d ∷ []) v (Some (ds, rest)) (more_named_read more e (d ∷ [])))

  unnamed_open : {ts rest : List Terminal} {ds : List ParameterDecl} → grammar.IsUnnamed Body h ts ds rest → closes ts ≡ false
  unnamed_open (grammar.unnamed p more) = parameter_open p

  named_open : {ts rest : List Terminal} {ds : List ParameterDecl} → grammar.IsNamed Body h ts ds rest → closes ts ≡ false
  named_open (grammar.named ns p more) = names_open ns

  unnamed_ahead : {ts v w rest : List Terminal} {ds : List ParameterDecl} → grammar.IsUnnamed Body h ts ds v → MayTake kind.Comma v w → Takes kind.RightParen w rest → is_named ts ≡ false
  unnamed_ahead (grammar.unnamed p more) m c = sees_no_names more p m c

  named_ahead : {ts rest : List Terminal} {ds : List ParameterDecl} → grammar.IsNamed Body h ts ds rest → is_named ts ≡ true
  named_ahead (grammar.named ns p more) = sees_names ns p

  pub parameters_read : {ts rest : List Terminal} {ds : List ParameterDecl} → grammar.IsParameters Body h ts ds rest → parameters typ ts ≡ Some (ds, rest)
  unfolding parameters some_parameters expect
  parameters_read (grammar.parameters_none (takes at) (takes a)) = refl
  parameters_read {ds = ds} (grammar.parameters_unnamed {u = u} (takes at) d m c) =
      if_not _ _ _ (not_closing_right_paren u (unnamed_open d)) (read _ _ (if_not _ _ _ (unnamed_ahead d m c) (unnamed_read d (comma_stops m c))) (closing_comma_paren ds m c))
  parameters_read {ds = ds} (grammar.parameters_named {u = u} (takes at) d m c) =
      if_not _ _ _ (not_closing_right_paren u (named_open d)) (read _ _ (if_so _ _ _ (named_ahead d) (named_read d (comma_stops m c))) (closing_comma_paren ds m c))

-- Signatures

pub signature_read : {Body : ℕ → Rule BodyRange} (shorter : Shortens Body) {l : Parts} {n : ℕ} (p : CompleteParts Body l n)
    {ts rest : List Terminal} {s : Signature} (d : grammar.IsSignature Body n ts s rest) → signature_of l ts ≡ Some (s, rest)
unfolding signature_of signature_end result_parameters
signature_read shorter {l} p {rest = rest} (grammar.signature_alone {h = h} d e f) = if_so _ _ _ (p.is_deep h refl) (read _ _ (parameters_read shorter l.typ p.reads_typ d) (if_so _ _ _ e (if_not _ _ _ (no_type_no_paren rest f) (if_not _ _ _ f refl))))
signature_read shorter {l} p (grammar.signature_parameters {h = h} d e q f) = if_so _ _ _ (p.is_deep h refl) (read _ _ (parameters_read shorter l.typ p.reads_typ d) (if_so _ _ _ e (if_so _ _ _ (parameters_begin q) (read _ _ (parameters_read shorter l.typ p.reads_typ q) (if_so _ _ _ f refl)))))
signature_read shorter {l} p (grammar.signature_type {h = h} d e f t) = if_so _ _ _ (p.is_deep h refl) (read _ _ (parameters_read shorter l.typ p.reads_typ d) (if_so _ _ _ e (if_not _ _ _ f (if_so _ _ _ (type_begins t) (read _ _ (p.reads_typ _ _ _ t) refl)))))
