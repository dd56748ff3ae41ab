-- What the store tells are the made files, and none of their paths clashes.
use Rattle.std.proofs.Common.{◌∙◌, ap, subst}
use Rattle.go_outside.specs.MemoryFiles.{contents_of, ClashCause}
use Rattle.api_generator.specs.MadeTrees.{made_contents}
use Rattle.api_generator.proofs.Clear.{no_clash}
use Rattle.api_generator.proofs.ToldContents.{contents_alike}
use Rattle.api_generator.proofs.make.make.Goals as goal

pub returns-in-Ok : goal.returns-in-Ok
unfolding made_contents
returns-in-Ok c = contents_alike c.in-Ok.store c.in_ok-files.files c.in-Ok.ensures.told ∙ ap contents_of c.in_ok-files.ensures

pub unreachable-requires : goal.unreachable-requires
unreachable-requires c = no_clash c.args.seed c.args.size c.in_ok-files.files c.in-Err-Clash.field-0-0 c.requires.few c.in_ok-files.ensures
    (subst (ClashCause c.in_ok-files.files) c.in-Err-Clash.field-0-is c.in-Err-Clash.ensures.clash)
