-- The readers of each level are sound: what they find is in the grammar, below their height.
use Rattle.std.proofs.Common.{ℕ, zero, suc, true, refl}
use Rattle.go_syntax.specs.declared.body.BodyRange.{BodyRange}
use Rattle.go_syntax.specs.grammar.Symbols.{Rule}
use Rattle.go_cursor.specs.Reading.{Reader}
use Rattle.go_descent.specs.Rules.{Parts, no_parts, whole_parts, parts}
use Rattle.go_descent.proofs.SoundOperands.{literal_value_sound}
use Rattle.go_descent.proofs.SoundOperators.{unary_sound, expr_sound}
use Rattle.go_descent.proofs.SoundParts.{SoundParts}
use Rattle.go_descent.proofs.SoundSignatures.{signature_sound}
use Rattle.go_descent.proofs.SoundTypes.{type_sound, composite_type_sound}
use Rattle.go_cursor.proofs.Steps.{Sound}

module _ (Body : ℕ → Rule BodyRange) (body : ℕ → Reader BodyRange) (body_sound : (h : ℕ) → Sound (Body h) (body h)) where
  bottom_sound : SoundParts Body no_parts zero
  bottom_sound = record {
    deep = λ e. absurd (cc);
    expr = λ ts a rest e. absurd (cc);
    unary = λ b ts a rest e. absurd (cc);
    typ = λ ts a rest e. absurd (cc);
    composite_type = λ ts a rest e. absurd (cc);
    signature = λ ts a rest e. absurd (cc);
    literal_value = λ ts a rest e. absurd (cc);
    body = λ ts a rest e. absurd (cc);
  }

  level_sound : (h : ℕ) (l : Parts) → SoundParts Body l h → SoundParts Body (whole_parts (body h) l) (suc h)
  level_sound h l s = record {
    deep = λ e. (h, refl);
    expr = expr_sound Body l h s true;
    unary = unary_sound Body l h s;
    typ = type_sound Body l h s;
    composite_type = composite_type_sound Body l h s;
    signature = signature_sound Body l h s;
    literal_value = literal_value_sound Body l h s;
    body = body_sound h;
  }

  pub parts_sound : (n : ℕ) → SoundParts Body (parts body n) n
  unfolding parts
  parts_sound zero = bottom_sound
  parts_sound (suc h) = level_sound h (parts body h) (parts_sound h)
