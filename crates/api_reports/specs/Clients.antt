-- The lines of a client: what is told of it on each platform.
-- Own: this project's reports.
use Rattle.std.specs.Prelude.{ℕ, Bool, true, false, List, [], ◌∷◌, ◌++◌, codes}
use Rattle.std.specs.List.{list_any}
use Rattle.go_model.specs.declared.files.platform.Platform.{Platform}
use Rattle.go_model.specs.files.Platforms.{name_of}
use Rattle.api_reports.specs.Reports.{by_platform, unlines}
use Rattle.api_reports.specs.declared.clients.ClientAnswer.{ClientAnswer}
use Rattle.api_reports.specs.declared.clients.ClientAnswer.TheVariants as answer

-- what is told of a client
abbrev pub answer_text : ClientAnswer → List ℕ
answer_text answer.InProfile = codes "in profile"
answer_text answer.OutsideProfile = codes "typed outside the profile"
answer_text (answer.UntypedAt place) = codes "untyped at " ++ place

-- its line on a platform
abbrev pub client_line : Platform → ClientAnswer → List ℕ
client_line p a = codes "client " ++ name_of p ++ codes ": " ++ answer_text a

abbrev pub client_lines : Platform → ClientAnswer → List (List ℕ)
client_lines p a = client_line p a ∷ []

-- those of all platforms
abbrev pub clients_text : List Platform → List ClientAnswer → List ℕ
clients_text ps given = unlines (by_platform client_lines ps given)

abbrev pub is_untyped : ClientAnswer → Bool
is_untyped answer.InProfile = false
is_untyped answer.OutsideProfile = false
is_untyped (answer.UntypedAt place) = true

-- the client is untyped on one of the platforms
abbrev pub has_untyped : List ClientAnswer → Bool
has_untyped given = list_any is_untyped given
