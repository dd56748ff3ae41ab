use Rattle.std.proofs.Common.{ℕ, List, [], ◌∷◌, ◌++◌, get_or, refl, ap, ◌∙◌, append_assoc}
use Rattle.api_features.specs.ConstantTexts.{hex_2}
use Rattle.api_features.proofs.QuotedPieces.{piece_of_char, piece_of_byte}
use Rattle.api_features.proofs.constants.push_piece.Goals as goal

pub returns-in_ok-push_char-in-Some : goal.returns-in_ok-push_char-in-Some
returns-in_ok-push_char-in-Some c = piece_of_char c.args.bytes.now c.args.out.now.items c.push_char.new.out.items c.in-Some.c c.len_utf8.result c.in-Some.ensures.some.0 c.in-Some.ensures.some.1 c.len_utf8.ensures.value c.in_ok-push_char-in-Some.ensures

pub returns-in_ok-push_hex_2-in-None : goal.returns-in_ok-push_hex_2-in-None
returns-in_ok-push_hex_2-in-None c =
    piece_of_byte c.args.bytes.now c.args.out.now.items c.push_hex_2.new.out.items (get_or c.args.bytes.now 0 0) c.requires refl (c.in-None.ensures.none refl)
    (c.in_ok-push_hex_2-in-None.ensures ∙ ap (λ (w : List ℕ). w ++ hex_2 (get_or c.args.bytes.now 0 0)) c.in_ok-extend_from_slice-in-None.ensures.items ∙ append_assoc c.args.out.now.items (92 ∷ 120 ∷ []) (hex_2 (get_or c.args.bytes.now 0 0)))
