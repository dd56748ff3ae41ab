-- What settings ask for in a mode.
use Rattle.std.specs.Prelude.{◌≡◌, List}
use Rattle.api_words.specs.Words.{AsksFor}
use Rattle.api_words.specs.declared.option_name.Mode.{Mode}
use Rattle.api_words.specs.declared.request.Request.{Request}
use Rattle.api_words.specs.declared.settings.Setting.{Setting}

-- the settings ask for this in the mode
pub record AsksInMode (mode : Mode) (settings : List Setting) (r : Request) : Type 0 where
  pub mode_is : r.mode ≡ mode
  pub asked : AsksFor settings r
