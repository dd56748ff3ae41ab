use Rattle.api_words.proofs.OneRequest.{same_request}
use Rattle.api_words.proofs.laws.one_request.Goals as goal

pub returns : goal.returns
returns c = same_request c.one_platform.ensures
