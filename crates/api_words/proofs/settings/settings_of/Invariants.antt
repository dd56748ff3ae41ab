use Rattle.std.proofs.Common.{◌≤◌, ◌-◌, length, drop, map, string_bytes}
use Rattle.api_words.proofs.ReadSettings.{ReadTo}
use Rattle.api_words.proofs.settings.settings_of.Given as goal

abbrev pub invariant-loop-at : goal.invariant-loop-at
invariant-loop-at l = record {
  within : l.at ≤ length l.words;
  read : ReadTo (map string_bytes l.words) (map string_bytes (drop l.at l.words)) l.settings;
}

abbrev pub decreases-loop-at : goal.decreases-loop-at
decreases-loop-at l = length l.words - l.at
