use Rattle.go_type_images.proofs.Sizes.{same_height, same_nodes}
use Rattle.go_type_images.proofs.Untagged.{swapped}
use Rattle.api_type_images.proofs.Apart.{apart}
use Rattle.api_type_images.proofs.SameImages.{same_image}
use Rattle.api_type_images.proofs.laws.images.Goals as goal

pub returns-clause-apart : goal.returns-clause-apart
returns-clause-apart c = λ r P h s t a b e. apart r P h s t a b e

pub returns-clause-same : goal.returns-clause-same
returns-clause-same c = λ r P h t k. same_image r P h t k

pub returns-clause-nodes : goal.returns-clause-nodes
returns-clause-nodes c = λ r s t. same_nodes r s t

pub returns-clause-height : goal.returns-clause-height
returns-clause-height c = λ r s t. same_height r s t

pub returns-clause-untagged : goal.returns-clause-untagged
returns-clause-untagged c = λ r s t. swapped r s t
