use Rattle.std.proofs.Common.{◌∙◌, sym, subst}
use Rattle.api_frozen.specs.LineShapes.{IsFeatureLine}
use Rattle.api_frozen.proofs.Cutting.{cut_once}
use Rattle.api_frozen.proofs.file.read_line.Goals as goal

pub returns : goal.returns
returns c = record {
  counts = sym c.is_skipped.ensures ∙ c.if-is_skipped.false;
  other = λ text k f. c.parts_of.ensures.none (sym c.is_some.ensures ∙ c.if-is_some.false) (subst IsFeatureLine (cut_once c.args.line.now text c.cut-text.result.now k c.cut-text.ensures) f);
}
