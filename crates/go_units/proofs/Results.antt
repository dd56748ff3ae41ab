-- What holds of results.
use Rattle.std.specs.Prelude.{IfOk, IfErr, OnOk, Result, Ok, Err}

pub if_ok_as : {A E : Type 0} (P Q : A → Type 0) → ((x : A) → P x → Q x) → (r : Result A E) → IfOk r P → IfOk r Q
if_ok_as P Q f (Ok x) h = f x h
if_ok_as P Q f (Err e) h = tt

pub if_err_as : {A E : Type 0} (P Q : E → Type 0) → ((e : E) → P e → Q e) → (r : Result A E) → IfErr r P → IfErr r Q
if_err_as P Q f (Ok x) h = tt
if_err_as P Q f (Err e) h = f e h

pub on_ok_as : {A E : Type 0} (P Q : Type 0) → (P → Q) → (r : Result A E) → OnOk r P → OnOk r Q
on_ok_as P Q f (Ok x) h = f h
on_ok_as P Q f (Err e) h = tt
