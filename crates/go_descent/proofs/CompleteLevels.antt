-- The readers of trees of a height below a number find each of them.
use Rattle.std.proofs.Common.{◌≡◌, ℕ, zero, suc, List, Some, refl}
use Rattle.go_syntax.specs.declared.body.BodyRange.{BodyRange}
use Rattle.go_syntax.specs.grammar.Symbols.{Rule}
use Rattle.go_syntax.specs.grammar.Terminals.{Terminal}
use Rattle.go_cursor.specs.Reading.{Reader}
use Rattle.go_descent.specs.Rules.{parts}
use Rattle.go_descent.proofs.CompleteLiterals.{literal_read}
use Rattle.go_descent.proofs.CompleteOperators.{unary_read, expr_read}
use Rattle.go_descent.proofs.CompleteParts.{CompleteParts, KnownBodies}
use Rattle.go_descent.proofs.CompleteSignatures.{signature_read}
use Rattle.go_descent.proofs.CompleteTypes.{composite_read, typ_read}

module _ {Body : ℕ → Rule BodyRange} (known : KnownBodies Body) (body : ℕ → Reader BodyRange)
    (body_read : (h : ℕ) (ts : List Terminal) (b : BodyRange) (rest : List Terminal) → Body h ts b rest → body h ts ≡ Some (b, rest)) where
  pub complete_parts : (n : ℕ) → CompleteParts Body (parts body n) n
  unfolding parts
  complete_parts zero = record {
    is_deep = λ h e. absurd (cc);
    reads_expr = λ ts x rest d o. absurd d;
    reads_unary = λ b ts x rest d o. absurd d;
    reads_typ = λ ts t rest d. absurd d;
    reads_composite = λ ts t rest d. absurd d;
    reads_signature = λ ts s rest d. absurd d;
    reads_literal = λ ts es rest d. absurd d;
    reads_body = λ ts b rest d. absurd d;
  }
  complete_parts (suc h) = record {
    is_deep = λ j e. refl;
    reads_expr = λ ts x rest d o. expr_read known (complete_parts h) d o;
    reads_unary = λ b ts x rest d o. unary_read known (complete_parts h) d o;
    reads_typ = λ ts t rest d. typ_read known.body_shorter (complete_parts h) d;
    reads_composite = λ ts t rest d. composite_read known.body_shorter (complete_parts h) d;
    reads_signature = λ ts s rest d. signature_read known.body_shorter (complete_parts h) d;
    reads_literal = λ ts es rest d. literal_read known.body_shorter (complete_parts h) d;
    reads_body = λ ts b rest d. body_read h ts b rest d;
  }
