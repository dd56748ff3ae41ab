use Rattle.api_type_images.proofs.OwnedNames.{foreign, one_old}
use Rattle.api_type_images.proofs.Paired.{paired, part_of, stays}
use Rattle.api_type_images.proofs.laws.images_of_pairs.Goals as goal

pub returns-clause-image : goal.returns-clause-image
returns-clause-image c = λ old new pairs H C p i. paired old new pairs H C p i

pub returns-clause-parts : goal.returns-clause-parts
returns-clause-parts c = λ old new pairs H C p i t k. part_of old new pairs H C p i t k

pub returns-clause-stays : goal.returns-clause-stays
returns-clause-stays c = λ old new pairs H C n e. stays old new pairs H C n e

pub returns-clause-foreign : goal.returns-clause-foreign
returns-clause-foreign c = λ old new pairs H C p i h. foreign old new pairs H C p i h

pub returns-clause-one_old : goal.returns-clause-one_old
returns-clause-one_old c = λ old new pairs H C m n a b e. one_old old new pairs H C m n a b e
