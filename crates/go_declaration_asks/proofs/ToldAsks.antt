-- What a declaration is asked is what it is asked by the name of its package and by what is told of a method's receiver.
use Rattle.std.proofs.Common.{◌≡◌, ℕ, Bool, true, false, List, [], ◌∷◌, Option, Some, None, refl, sym, ap, ◌∙◌, subst}
use Rattle.go_base.specs.Lists.{Each}
use Rattle.go_rules.specs.Asks.{Meets}
use Rattle.go_rules.specs.Environments.{Env}
use Rattle.go_rules.proofs.OneName.{none_some, one_some}
use Rattle.go_selectors.specs.Answers.{Decides}
use Rattle.go_syntax.specs.declared.declaration.Func.{Func}
use Rattle.go_syntax.specs.declared.name.Name.{Name}
use Rattle.go_syntax.specs.declared.types.ParameterDecl.{ParameterDecl}
use Rattle.go_typings.specs.DeclarationAsks.{Asks, FormAsks, IsMethod, IsNotReserved, IsOnly, IsSpecialFunction}
use Rattle.go_typings.specs.DeclarationNodes.{nodes}
use Rattle.go_typings.specs.Declarations.{Form, constants, variables, alias, definition, function, method}
use Rattle.go_typings.specs.Sources.{PackageSource}
use Rattle.go_declaration_asks.specs.Bases.{TellsBase, TellsReceiver}
use Rattle.go_declaration_asks.specs.declared.base.Base.{Base}
use Rattle.go_declaration_asks.specs.inner.MethodsOf.{IsMethodOf}
use Rattle.go_declaration_asks.specs.inner.Names.{IsBareWhereSpecial, IsFreeName, is_main_of}
use Rattle.go_declaration_asks.specs.inner.Told.{AsksTold, IsMethodTold}

each_more : {A : Type 0} (P Q : A → Type 0) (xs : List A) → ((x : A) → P x → Q x) → Each P xs → Each Q xs
each_more P Q [] f h = tt
each_more P Q (x ∷ xs) f h = (f x h.0, each_more P Q xs f h.1)

told_true : (P : Type 0) (b : Bool) → Decides b P → P → b ≡ true
told_true P true d p = refl
told_true P false d p = absurd (d p)

module _ (E : Env) (u : PackageSource) (number : ℕ) (p : List ℕ) (named : u.name ≡ p) (placed : u.path ≡ E.path) where
  reserved : (n : Name) → IsFreeName p n → IsNotReserved u n
  reserved n f = record { init = f.0; main = ap (λ q. is_main_of q n.text) named ∙ f.1 }

  free : (n : Name) → IsNotReserved u n → IsFreeName p n
  free n r = (r.init, ap (λ q. is_main_of q n.text) (sym named) ∙ r.main)

  special : (f : Func) → IsBareWhereSpecial p f → IsSpecialFunction u f
  special f s = record { init = s.0; main = λ m. s.1 (ap (λ q. is_main_of q f.name.text) (sym named) ∙ m) }

  bare : (f : Func) → IsSpecialFunction u f → IsBareWhereSpecial p f
  bare f s = (s.init, (λ m. s.main (ap (λ q. is_main_of q f.name.text) named ∙ m)))

  is_method : (b : Base) (receiver : ParameterDecl) (f : Func) → TellsReceiver u number receiver f (Some b) → IsMethodOf E b receiver f → IsMethod E u number receiver f
  is_method b receiver f told m = record {
    type = b.name.now;
    of = told.0;
    defined = m.defined;
    entry = ap (λ q. E.table (record { path = q; name = b.name.now })) placed ∙ m.entry;
    permits_methods = m.permits.0;
    only = λ h. subst (λ answer. Decides answer (IsOnly u number b.name.now f.name.text)) (m.permits.1.0 h) told.1;
    apart = m.permits.1.1;
    distinct = m.distinct;
  }

  method_of : (b : Base) (receiver : ParameterDecl) (f : Func) → TellsReceiver u number receiver f (Some b) → IsMethod E u number receiver f → IsMethodOf E b receiver f
  method_of b receiver f told m =
      let e : m.type ≡ b.name.now = one_some (sym m.of ∙ told.0) in
      record {
        defined = m.defined;
        entry = ap (λ q. E.table (record { path = q; name = b.name.now })) (sym placed) ∙ ap (λ n. E.table (record { path = u.path; name = n })) (sym e) ∙ m.entry;
        permits = (m.permits_methods, ((λ h. told_true (IsOnly u number b.name.now f.name.text) b.is_only told.1 (subst (λ (t : List ℕ). IsOnly u number t f.name.text) e (m.only h))), m.apart));
        distinct = m.distinct;
      }

  told_method : (b : Option Base) (receiver : ParameterDecl) (f : Func) → TellsReceiver u number receiver f b → IsMethodTold E b receiver f → IsMethod E u number receiver f
  told_method None receiver f told m = absurd m
  told_method (Some b) receiver f told m = is_method b receiver f told m

  method_told : (b : Option Base) (receiver : ParameterDecl) (f : Func) → TellsReceiver u number receiver f b → IsMethod E u number receiver f → IsMethodTold E b receiver f
  method_told None receiver f told m = none_some (sym told ∙ m.of)
  method_told (Some b) receiver f told m = method_of b receiver f told m

  form_asks : (b : Option Base) (f : Form) → TellsBase u number f b → AsksTold E p b f → FormAsks E u number f
  form_asks b (constants s place) told a = each_more (IsFreeName p) (IsNotReserved u) s.names reserved a
  form_asks b (variables s) told a = (each_more (IsFreeName p) (IsNotReserved u) s.names reserved a.0, a.1)
  form_asks b (alias s) told a = reserved s.name a
  form_asks b (definition s) told a = reserved s.name a
  form_asks b (function f) told a = special f a
  form_asks b (method receiver f) told a = told_method b receiver f told a

  asks_form : (b : Option Base) (f : Form) → TellsBase u number f b → FormAsks E u number f → AsksTold E p b f
  asks_form b (constants s place) told a = each_more (IsNotReserved u) (IsFreeName p) s.names free a
  asks_form b (variables s) told a = (each_more (IsNotReserved u) (IsFreeName p) s.names free a.0, a.1)
  asks_form b (alias s) told a = free s.name a
  asks_form b (definition s) told a = free s.name a
  asks_form b (function f) told a = bare f a
  asks_form b (method receiver f) told a = method_told b receiver f told a

  all_asked : (f : Form) → FormAsks E u number f → (c : Bool) → Decides c (Each (Meets E) (nodes f)) → Decides c (Asks E u number f)
  all_asked f a true m = record { form = a; meets = m }
  all_asked f a false none = λ h. none h.meets

  -- by kind it is met, and the trees decide
  pub asks_decided : (b : Option Base) (f : Form) → TellsBase u number f b → (a c : Bool) → a ≡ true → Decides a (AsksTold E p b f) → Decides c (Each (Meets E) (nodes f)) → Decides c (Asks E u number f)
  asks_decided b f told a c t d m = all_asked f (form_asks b f told (subst (λ answer. Decides answer (AsksTold E p b f)) t d)) c m

  -- by kind it isn't met
  pub asks_not : (b : Option Base) (f : Form) → TellsBase u number f b → (a : Bool) → a ≡ false → Decides a (AsksTold E p b f) → Asks E u number f → ⊥
  asks_not b f told a t d h = (let none : AsksTold E p b f → ⊥ = subst (λ answer. Decides answer (AsksTold E p b f)) t d in none) (asks_form b f told h.form)
