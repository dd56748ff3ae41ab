use Rattle.api_shared_features.proofs.SharedFeatures.{shared_feature, turned}
use Rattle.api_shared_features.proofs.laws.shared_features.Goals as goal

pub returns-clause-there : goal.returns-clause-there
returns-clause-there c = λ shared w v l i j both s public f. shared_feature shared w v both i l s public f

pub returns-clause-turned : goal.returns-clause-turned
returns-clause-turned c = λ shared w v both. turned shared w v both
