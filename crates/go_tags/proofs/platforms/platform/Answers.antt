use Rattle.go_tags.proofs.PlatformSearch.{through_all}
use Rattle.go_tags.proofs.platforms.platform.Goals as goal

pub returns : goal.returns
returns c = through_all _ _ c.find_named.ensures
