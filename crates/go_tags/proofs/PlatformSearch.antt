-- A search for a platform's name through a list of platforms.
use Rattle.std.proofs.Common.{◌≡◌, ℕ, zero, suc, ◌<◌, ◌≤◌, List, [], ◌∷◌, inl, inr, length, get_or, drop, refl, sym, ap, ◌∙◌, false, Option, None, Some, MatchOption, ap, arith}
use Rattle.std.specs.Prelude.{bytes_eq}
use Rattle.std.proofs.lemmas.Slice.Eq.{bytes_eq-Decides}
use Rattle.std.proofs.lemmas.Bool.Decides.{not_from_Decides}
use Rattle.go_model.specs.files.Platforms.{name_of}
use Rattle.go_base.specs.Lists.{Has}
use Rattle.go_model.specs.declared.files.platform.Platform.{Platform}
use Rattle.go_model.specs.declared.files.platform.Platform.TheVariants as p

-- no platform of the list has the name
abbrev pub NoneNamed : List ℕ → List Platform → Type 0
NoneNamed text platforms = (q : Platform) → Has platforms q → name_of q ≡ text → ⊥

pub other_bytes : (a b : List ℕ) → false ≡ bytes_eq a b → a ≡ b → ⊥
other_bytes a b unequal same = not_from_Decides (bytes_eq a b) (bytes_eq-Decides a b) (sym unequal) same

abbrev pub all : List Platform
all = (p.Linux386 ∷ (p.LinuxArm ∷ (p.Windows386 ∷ (p.LinuxAmd64 ∷ (p.LinuxArm64 ∷ (p.LinuxRiscv64 ∷ (p.LinuxS390x ∷ (p.AndroidArm64 ∷ (p.DarwinAmd64 ∷ (p.DarwinArm64 ∷ (p.IosArm64 ∷ (p.FreebsdAmd64 ∷ (p.IllumosAmd64 ∷ (p.WindowsAmd64 ∷ []))))))))))))))

-- each platform is in the list
pub every : (q : Platform) → Has all q
every p.Linux386 = inl refl
every p.LinuxArm = inr (inl refl)
every p.Windows386 = inr (inr (inl refl))
every p.LinuxAmd64 = inr (inr (inr (inl refl)))
every p.LinuxArm64 = inr (inr (inr (inr (inl refl))))
every p.LinuxRiscv64 = inr (inr (inr (inr (inr (inl refl)))))
every p.LinuxS390x = inr (inr (inr (inr (inr (inr (inl refl))))))
every p.AndroidArm64 = inr (inr (inr (inr (inr (inr (inr (inl refl)))))))
every p.DarwinAmd64 = inr (inr (inr (inr (inr (inr (inr (inr (inl refl))))))))
every p.DarwinArm64 = inr (inr (inr (inr (inr (inr (inr (inr (inr (inl refl)))))))))
every p.IosArm64 = inr (inr (inr (inr (inr (inr (inr (inr (inr (inr (inl refl))))))))))
every p.FreebsdAmd64 = inr (inr (inr (inr (inr (inr (inr (inr (inr (inr (inr (inl refl)))))))))))
every p.IllumosAmd64 = inr (inr (inr (inr (inr (inr (inr (inr (inr (inr (inr (inr (inl refl))))))))))))
every p.WindowsAmd64 = inr (inr (inr (inr (inr (inr (inr (inr (inr (inr (inr (inr (inr (inl refl)))))))))))))

-- one more platform that has another name
pub one_more : (text : List ℕ) (i : ℕ) (ps : List Platform) (d : Platform) → i < length ps → (name_of (get_or ps i d) ≡ text → ⊥) → NoneNamed text (drop (suc i) ps) → NoneNamed text (drop i ps)
one_more text i [] d h other rest = absurd (omega arith)
one_more text zero (y ∷ ps) d h other rest = λ q has named. elim has [ inl s ↦ other (ap name_of s ∙ named) | inr s ↦ rest q s named ]
one_more text (suc i) (y ∷ ps) d h other rest = one_more text i ps d (omega arith) other rest

pub past_all : (text : List ℕ) (i : ℕ) (ps : List Platform) → length ps ≤ i → NoneNamed text (drop i ps)
past_all text zero [] h = λ q a n. a
past_all text (suc i) [] h = λ q a n. a
past_all text zero (y ∷ ps) h = absurd (omega arith)
past_all text (suc i) (y ∷ ps) h = past_all text i ps (omega arith)

-- what a search through all platforms says
pub through_all : (text : List ℕ) (found : Option Platform) → MatchOption found (NoneNamed text all) (λ q. name_of q ≡ text) → MatchOption found ((q : Platform) → name_of q ≡ text → ⊥) (λ q. name_of q ≡ text)
through_all text None h = λ q named. h q (every q) named
through_all text (Some q) h = h
