-- Lines whose texts are one exactly where their parts are.
-- Own: a shortcut.
use Rattle.std.specs.Prelude.{◌≡◌, None, length}
use Rattle.api_lines.specs.declared.line.Line.{Line}

-- neither line has a context, and their paths are equally long
pub record AreAlike (a b : Line) : Type 0 where
  pub first : a.context ≡ None
  pub second : b.context ≡ None
  pub paths : length a.path ≡ length b.path
