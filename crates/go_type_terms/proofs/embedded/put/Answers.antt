use Rattle.std.proofs.Common.{subst, List}
use Rattle.go_base.specs.Lists.{Has as In}
use Rattle.go_model.specs.declared.types.names.TypeName.{TypeName}
use Rattle.go_type_terms.proofs.EmbeddedNames.{put_among}
use Rattle.go_type_terms.proofs.embedded.put.Goals as goal

pub returns : goal.returns
returns c = λ n h. put_among c.args.names.now.keys c.args.name n (subst (λ (ns : List TypeName). In ns n) c.in_ok-_added.ensures.keys h)
