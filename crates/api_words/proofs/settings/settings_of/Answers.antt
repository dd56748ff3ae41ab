use Rattle.std.proofs.Common.{List, ℕ, sym, subst, map, string_bytes, arith}
use Rattle.api_words.proofs.ReadSettings.{ReadTo, read_more, read_not, read_odd, read_all, two_more, one_left, none_left, setting_as, no_setting_as}
use Rattle.api_words.proofs.settings.settings_of.Goals as goal

pub returns-then-words-at-eq1 : goal.returns-then-words-at-eq1
returns-then-words-at-eq1 c = read_odd _ _ c.loop-at.settings (one_left string_bytes c.args.words.now c.loop-at.at c.if-words-at-eq1.true) c.loop-at.invariant.read

pub returns-in-None : goal.returns-in-None
returns-in-None c =
    read_not _ _ _ _ _ c.loop-at.settings (two_more string_bytes c.args.words.now c.loop-at.at c.index-words-at.result c.index-words-at-in-loop-at.result (omega (arith, c.loop-at-test.true, c.if-words-at-eq1.false)) c.index-words-at.is c.index-words-at-in-loop-at.is)
    (no_setting_as c.as_bytes.ensures.value c.as_bytes-in-loop-at.ensures.value (rw c.in-None.is at c.in_ok-setting_of.ensures))
    c.loop-at.invariant.read

pub loop-at-preserved : goal.loop-at-preserved
loop-at-preserved c = record {
  within = omega (arith, c.loop-at-test.true, c.if-words-at-eq1.false);
  read =
      subst (ReadTo _ _) (sym c.in_ok-push-in-Some.ensures.ok)
      (read_more _ _ _ _ _ c.loop-at.settings c.in-Some.setting (two_more string_bytes c.args.words.now c.loop-at.at c.index-words-at.result c.index-words-at-in-loop-at.result (omega (arith, c.loop-at-test.true, c.if-words-at-eq1.false)) c.index-words-at.is c.index-words-at-in-loop-at.is)
      (setting_as c.as_bytes.ensures.value c.as_bytes-in-loop-at.ensures.value (rw c.in-Some.is at c.in_ok-setting_of.ensures))
      c.loop-at.invariant.read);
}

pub returns : goal.returns
returns c = read_all (map string_bytes c.args.words.now) c.loop-at.settings (subst (λ (rest : List (List ℕ)). ReadTo (map string_bytes c.args.words.now) rest c.loop-at.settings) (none_left string_bytes c.args.words.now c.loop-at.at (omega (arith, c.loop-at-test.false, c.loop-at.invariant.within))) c.loop-at.invariant.read)
