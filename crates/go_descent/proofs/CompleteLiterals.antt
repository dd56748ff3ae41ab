-- Each composite literal's braces, with the elements in them, are found.
use Rattle.std.proofs.Common.{◌≡◌, ℕ, suc, List, [], ◌∷◌, ◌++◌, true, false, not, Some, refl, ap, arith}
use Rattle.go_syntax.specs.declared.expression.Element.{Element}
use Rattle.go_syntax.specs.declared.expression.ElementValue.{ElementValue}
use Rattle.go_syntax.specs.declared.body.BodyRange.{BodyRange}
use Rattle.go_syntax.specs.declared.token.TokenKind.TheVariants as kind
use Rattle.go_syntax.specs.grammar.Grammar as grammar
use Rattle.go_syntax.specs.grammar.Symbols.{Rule, Takes, takes, MayTake, takes_none, takes_one, begins}
use Rattle.go_syntax.specs.grammar.Terminals.{Terminal, Sign}
use Rattle.go_cursor.specs.Reading.{after, step_of, expect}
use Rattle.go_descent.specs.Rules.{Parts, element_value, element_of, element_item, elements, literal_value_of}
use Rattle.go_descent.proofs.Begins.{read, if_so, if_not, Gives, gives_stop, gives_more, runs, comma_stops_brace, closing_comma_brace}
use Rattle.go_descent.proofs.BeginsExpr.{expr_begins, expr_not_left_brace, literal_begins, element_begins, value_not_right_brace, value_not_closing}
use Rattle.go_descent.specs.Follow.{OverExpr}
use Rattle.go_descent.proofs.CompleteParts.{CompleteParts, over_colon, over_comma, over_right_brace}
use Rattle.go_descent.proofs.Shorter.{Shortens, element_shorter}

-- what follows the elements before the closing brace
over_end : {v w rest : List Terminal} → MayTake kind.Comma v w → Takes kind.RightBrace w rest → OverExpr true v
over_end takes_none (takes at) = over_right_brace true at _
over_end (takes_one (takes a)) (takes at) = over_comma true a _

no_colon : {v w rest : List Terminal} → MayTake kind.Comma v w → Takes kind.RightBrace w rest → begins kind.Colon v ≡ false
no_colon takes_none (takes at) = refl
no_colon (takes_one (takes a)) (takes at) = refl

module _ {Body : ℕ → Rule BodyRange} (shorter : Shortens Body) {l : Parts} {h : ℕ} (p : CompleteParts Body l (suc h)) where
  value_read : {ts rest : List Terminal} {v : ElementValue} → grammar.IsElementValue Body h ts v rest → OverExpr true rest → element_value l ts ≡ Some (v, rest)
  unfolding element_value
  value_read {ts} (grammar.value_expr d) o = if_not _ _ _ (expr_not_left_brace ts (expr_begins d)) (read _ _ (p.reads_expr _ _ _ d o) refl)
  value_read (grammar.value_literal d) o = if_so _ _ _ (literal_begins d) (read _ _ (p.reads_literal _ _ _ d) refl)

  element_read : {ts rest : List Terminal} {e : Element} → grammar.IsElement Body h ts e rest → OverExpr true rest → begins kind.Colon rest ≡ false → element_of l ts ≡ Some (e, rest)
  unfolding element_of
  element_read (grammar.element_alone d) o c = read _ _ (value_read d o) (if_not _ _ _ c refl)
  element_read (grammar.element_keyed {w = w} d (takes at) v) o c = read _ _ (value_read d (over_colon true at w)) (read _ _ (value_read v o) refl)

  more_elements_over : {ts v w rest : List Terminal} {es : List Element} → grammar.IsMoreElements Body h ts es v → MayTake kind.Comma v w → Takes kind.RightBrace w rest → OverExpr true ts
  more_elements_over grammar.elements_none m c = over_end m c
  more_elements_over (grammar.elements_more {u = u} (takes at) d more) m c = over_comma true at u

  more_elements_no_colon : {ts v w rest : List Terminal} {es : List Element} → grammar.IsMoreElements Body h ts es v → MayTake kind.Comma v w → Takes kind.RightBrace w rest → begins kind.Colon ts ≡ false
  more_elements_no_colon grammar.elements_none m c = no_colon m c
  more_elements_no_colon (grammar.elements_more (takes at) d more) m c = refl

  more_elements_read : {ts v w rest : List Terminal} {es : List Element} → grammar.IsMoreElements Body h ts es v → MayTake kind.Comma v w → Takes kind.RightBrace w rest → (acc : List Element)
      → Gives (step_of (element_item l)) acc ts (Some (acc ++ es, v))
  more_elements_read {ts} grammar.elements_none m c acc = gives_stop (element_item l) acc ts (if_not _ _ _ (comma_stops_brace m c) refl)
  more_elements_read {ts} {rest} (grammar.elements_more {u = u} {v = v} {e = e} {es = es} (takes at) d more) m c acc =
      gives_more (element_item l) acc e es (Sign kind.Comma at ∷ u) v _ (if_so _ _ _ (ap not (value_not_closing u (element_begins d))) (ap after (element_read d (more_elements_over more m c) (more_elements_no_colon more m c))))
      (omega (arith, element_shorter Body shorter d)) (more_elements_read more m c (acc ++ e ∷ []))

pub literal_read : {Body : ℕ → Rule BodyRange} (shorter : Shortens Body) {l : Parts} {n : ℕ} (p : CompleteParts Body l n)
    {ts rest : List Terminal} {es : List Element} → grammar.IsLiteralValue Body n ts es rest → literal_value_of l ts ≡ Some (es, rest)
unfolding literal_value_of elements expect
literal_read shorter p (grammar.literal_none {h = h} (takes at) (takes b)) = if_so _ _ _ (p.is_deep h refl) refl
literal_read shorter {l} p (grammar.literal_some {h = h} {u = u} {v = v} {w = w} {e = e} {es = es} (takes at) d more m c) =
    if_so _ _ _ (p.is_deep h refl) (if_not _ _ _ (value_not_right_brace u (element_begins d))
    (read _ _ (read _ _ (element_read shorter p d (more_elements_over shorter p more m c) (more_elements_no_colon shorter p more m c)) (runs (step_of (element_item l)) (e ∷ []) v (Some (e ∷ es, w)) (more_elements_read shorter p more m c (e ∷ [])))) (closing_comma_brace (e ∷ es) m c)))
