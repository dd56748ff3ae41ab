-- Flags of two properties that are joined are flags of both.
use Rattle.std.proofs.Common.{◌≡◌, ℕ, Bool, true, false, ◌&&◌, List, refl, sym, ap, ◌∙◌}
use Rattle.go_graphs.specs.Flags.{AreFlagsOf, is_flagged}
use Rattle.go_graphs.proofs.Flagging.{apart}
use Rattle.go_sifting.specs.JoinedFlags.{AreJoined}

both : (b c : Bool) → (b && c) ≡ true → (b ≡ true) × (c ≡ true)
both true c e = (refl, e)
both false c e = apart (sym e)

of_both : (b c : Bool) → b ≡ true → c ≡ true → (b && c) ≡ true
of_both b c e f = ap (λ z. z && c) e ∙ f

pub flags_of_both : (count : ℕ) (P Q : ℕ → Type 0) (left right flags : List Bool) → AreFlagsOf count P left → AreFlagsOf count Q right → AreJoined left right flags → AreFlagsOf count (λ n. P n × Q n) flags
flags_of_both count P Q left right flags p q are = record {
  size = are.size ∙ p.size;
  sound = λ n e. (let k = both (is_flagged left n) (is_flagged right n) (sym (are.exact n) ∙ e) in (p.sound n k.0, q.sound n k.1));
  complete = λ n l k. are.exact n ∙ of_both (is_flagged left n) (is_flagged right n) (p.complete n l k.0) (q.complete n l k.1);
}
