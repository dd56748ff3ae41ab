use Rattle.std.proofs.Common.{◌∙◌, refl}
use Rattle.semver.specs.Identifiers.{parts_of}
use Rattle.api_words.proofs.versions.version_in.Goals as goal

pub returns : goal.returns
returns c = (
  _,
  record {
    word = c.in_ok-word.ensures ∙ c.as_bytes.ensures.value;
    parts = parts_of c.in-Some.version;
    parsed = rw c.without_v.ensures at (rw c.in-Some.is at c.in_ok-version.ensures);
    release = c.release_of.ensures;
  },
  refl,
)
