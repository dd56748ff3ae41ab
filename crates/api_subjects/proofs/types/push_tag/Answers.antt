use Rattle.std.proofs.Common.{sym, ◌∙◌}
use Rattle.api_subjects.proofs.TypeParts.{tag_appended}
use Rattle.api_subjects.proofs.types.push_tag.Goals as goal

pub returns : goal.returns
returns c = tag_appended c.args.tag.now c.args.out.now.items c.extend_from_slice.new.self.items c.push_quoted.new.out.items c.push.new.self.items (sym c.is_empty.ensures ∙ c.if-is_empty.false) c.in_ok-extend_from_slice.ensures.items c.in_ok-push_quoted.ensures c.in_ok-push.ensures.items
