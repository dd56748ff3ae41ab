-- What is told of a client on a platform is told on one that is alike.
use Rattle.std.proofs.Common.{◌≡◌, ℕ, Option, Some, List, [], ◌∷◌, ◌++◌, Result, Ok, ap, ◌∙◌, subst, inr}
use Rattle.api_clients.specs.ClientAnswers.{IsAnsweredOn}
use Rattle.api_clients.specs.inner.ClientSteps.{IsAdded, IsAnsweredAlike, listed}
use Rattle.api_reports.specs.declared.clients.ClientAnswer.{ClientAnswer}
use Rattle.api_worlds.specs.PlatformWorlds.{sources_of}
use Rattle.go_base.specs.Lists.{Has}
use Rattle.go_client_unit_laws.specs.go_client_units.ClientUnits.{AreClientUnits}
use Rattle.go_client_unit_laws.specs.go_client_units.declared.units.ClientUnits.{ClientUnits}
use Rattle.go_clients.specs.Vetting.{IsVettedAs}
use Rattle.go_exposed.specs.OfferedWorlds.{IsWorldOf}
use Rattle.go_file_choices.specs.AlikePlatforms.{AllChosenAlike, AreAlike, files_of}
use Rattle.go_imports.proofs.Members.{has_left}
use Rattle.go_model.specs.declared.files.platform.Platform.{Platform}
use Rattle.go_model.specs.declared.files.tree.Tree.{Tree}
use Rattle.go_units.specs.declared.unit_error.UnitError.{UnitError}

has_right : {A : Type 0} (xs ys : List A) (x : A) → Has ys x → Has (xs ++ ys) x
has_right [] ys x h = h
has_right (y ∷ xs) ys x h = inr (has_right xs ys x h)

module _ (law : (p q : Platform) (barred : List (List ℕ)) (tree std_tree client : Tree) (r : Result ClientUnits UnitError) → AllChosenAlike tree.files p q → AllChosenAlike std_tree.files p q → AllChosenAlike client.files p q
    → AreClientUnits p barred tree std_tree client r → AreClientUnits q barred tree std_tree client r)
    (barred : List (List ℕ)) (tree std_tree client : Tree) where
  module _ (p q : Platform) (a : AreAlike (files_of (Some client) tree std_tree) p q) where
    of_client : AllChosenAlike client.files p q
    of_client f h = a.chosen f (has_left client.files (tree.files ++ std_tree.files) f h)

    of_tree : AllChosenAlike tree.files p q
    of_tree f h = a.chosen f (has_right client.files (tree.files ++ std_tree.files) f (has_left tree.files std_tree.files f h))

    of_std : AllChosenAlike std_tree.files p q
    of_std f h = a.chosen f (has_right client.files (tree.files ++ std_tree.files) f (has_right tree.files std_tree.files f h))

    same_answer : (x : ClientAnswer) → IsAnsweredOn barred tree std_tree client p x → IsAnsweredOn barred tree std_tree client q x
    same_answer x t = record {
      units = t.units;
      are = law p q barred tree std_tree client (Ok t.units) of_tree of_std of_client t.are;
      world = t.world;
      is = subst (λ (n : ℕ). IsWorldOf n (sources_of t.units.packages) t.world) a.bits t.is;
      vetted = t.vetted;
      told = subst (λ (n : ℕ). IsVettedAs t.world n t.units.client t.vetted) a.bits t.told;
      answer = t.answer;
    }

  -- and so it is added there
  pub added_again : (q : Platform) (given new : List ClientAnswer) (found : Option ClientAnswer) → new ≡ given ++ listed found → IsAnsweredAlike barred tree std_tree client q found → IsAdded barred tree std_tree client q given new
  added_again q given new found e k = record {
    more = k.answer;
    is = same_answer k.earlier q k.alike k.answer k.there;
    added = e ∙ ap (λ (o : Option ClientAnswer). given ++ listed o) k.is;
  }
