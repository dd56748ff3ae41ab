-- What follows from how a run ends.
use Rattle.std.proofs.Common.{◌≡◌, ◌<◌, ℕ, zero, suc, Bool, true, false, List, [], length, take, Option, Some, None, refl, sym, ◌∙◌, subst, ◌⊎◌, inl, inr}
use Rattle.api_reports.specs.Clients.{clients_text, has_untyped}
use Rattle.api_words.specs.Words.{AreBad}
use Rattle.go_outside.specs.Faults.{Told}
use Rattle.go_outside.specs.Sinks.{Takes}
use Rattle.go_outside.specs.Stores.{Contents}
use Rattle.api_gate.specs.declared.status.Status.{Status}
use Rattle.api_gate.specs.declared.status.Status.TheVariants as status
use Rattle.api_gate.specs.runs.Effects.{AnyFailed, Change, Effects, Failed, Took, TookSome}
use Rattle.api_gate.specs.runs.Outcomes.{EndsWith, bad_words, refused_inputs, refused_platform, refused_advice, refused_client, reported, reported_findings, vetted, Outcome}
use Rattle.api_gate.specs.runs.Runs.{Delivers, whole, output_failed, line_failed, Ends, IsComplete, MayWrite, defined, store_failed, no_memory, Writes}

-- a report has neither the status of bad words nor that of a fault
no_words : (b : Bool) (text : List ℕ) → (reported b text).status ≡ status.Words → ⊥
no_words true text s = cc
no_words false text s = cc

no_read_fault : (b : Bool) (text : List ℕ) → (reported b text).status ≡ status.ReadFault → ⊥
no_read_fault true text s = cc
no_read_fault false text s = cc

no_write_fault : (b : Bool) (text : List ℕ) → (reported b text).status ≡ status.WriteFault → ⊥
no_write_fault true text s = cc
no_write_fault false text s = cc

-- the line for bad words comes for them alone, and the statuses of faults never
words_of : (words : List (List ℕ)) (told : Option Contents) (o : Outcome) → EndsWith words told o → o.status ≡ status.Words → AreBad words
words_of words told o (bad_words n) s = n
words_of words told o (refused_inputs r i l) s = absurd (cc)
words_of words told o (refused_platform r i a e l) s = absurd (cc)
words_of words told o (refused_advice r i v ls vs os a f e l) s = absurd (cc)
words_of words told o (reported_findings true r i ls vs os a f h) s = absurd (cc)
words_of words told o (reported_findings false r i ls vs os a f h) s = absurd (cc)
words_of words told o (refused_client r i c a e l) s = absurd (cc)
words_of words told o (vetted r i c given a e t) s = absurd (no_words (has_untyped given) (clients_text r.platforms given) s)

no_read : (words : List (List ℕ)) (told : Option Contents) (o : Outcome) → EndsWith words told o → o.status ≡ status.ReadFault → ⊥
no_read words told o (bad_words n) s = cc
no_read words told o (refused_inputs r i l) s = cc
no_read words told o (refused_platform r i a e l) s = cc
no_read words told o (refused_advice r i v ls vs os a f e l) s = cc
no_read words told o (reported_findings true r i ls vs os a f h) s = cc
no_read words told o (reported_findings false r i ls vs os a f h) s = cc
no_read words told o (refused_client r i c a e l) s = cc
no_read words told o (vetted r i c given a e t) s = no_read_fault (has_untyped given) (clients_text r.platforms given) s

no_write : (words : List (List ℕ)) (told : Option Contents) (o : Outcome) → EndsWith words told o → o.status ≡ status.WriteFault → ⊥
no_write words told o (bad_words n) s = cc
no_write words told o (refused_inputs r i l) s = cc
no_write words told o (refused_platform r i a e l) s = cc
no_write words told o (refused_advice r i v ls vs os a f e l) s = cc
no_write words told o (reported_findings true r i ls vs os a f h) s = cc
no_write words told o (reported_findings false r i ls vs os a f h) s = cc
no_write words told o (refused_client r i c a e l) s = cc
no_write words told o (vetted r i c given a e t) s = no_write_fault (has_untyped given) (clients_text r.platforms given) s

-- bad words end with their line
bad_end : (words : List (List ℕ)) (told : Option Contents) (o : Outcome) → AreBad words → EndsWith words told o → (o.status ≡ status.Words) × (o.output ≡ [])
bad_end words told o bad (bad_words n) = (refl, refl)
bad_end words told o bad (refused_inputs r i l) = absurd (bad r i)
bad_end words told o bad (refused_platform r i a e l) = absurd (bad r a.request)
bad_end words told o bad (refused_advice r i v ls vs os a f e l) = absurd (bad r a.request)
bad_end words told o bad (reported_findings b r i ls vs os a f h) = absurd (bad r a.request)
bad_end words told o bad (refused_client r i c a e l) = absurd (bad r a.request)
bad_end words told o bad (vetted r i c given a e t) = absurd (bad r a.request)

module _ (words : List (List ℕ)) (store : Change Contents) where
  written_words : (o : Outcome) → MayWrite words store o → o.status ≡ status.Words → AreBad words
  written_words o (defined e) s = words_of words store.told_before o e s
  written_words o (store_failed r i e f) s = absurd (cc)
  written_words o no_memory s = absurd (cc)

  written_read : (o : Outcome) → MayWrite words store o → o.status ≡ status.ReadFault → Failed store
  written_read o (defined e) s = absurd (no_read words store.told_before o e s)
  written_read o (store_failed r i e f) s = f
  written_read o no_memory s = absurd (cc)

  never_write : (o : Outcome) → MayWrite words store o → o.status ≡ status.WriteFault → ⊥
  never_write o (defined e) s = no_write words store.told_before o e s
  never_write o (store_failed r i e f) s = cc
  never_write o no_memory s = cc

  written_bad : (o : Outcome) → AreBad words → MayWrite words store o → ((o.status ≡ status.Words) ⊎ (o.status ≡ status.NoMemory)) × (o.output ≡ [])
  written_bad o bad (defined e) = let b : (o.status ≡ status.Words) × (o.output ≡ []) = bad_end words store.told_before o bad e in (inl b.0, b.1)
  written_bad o bad (store_failed r i e f) = absurd (bad r i)
  written_bad o bad no_memory = (inr refl, refl)

-- the status is that of what was delivered, or that of a write fault
ended : (o : Outcome) (out err : Change (List ℕ)) (got : Status) → Delivers o out err got → (got ≡ o.status) ⊎ (got ≡ status.WriteFault)
ended o out err got (whole w) = inl w.ended
ended o out err got (output_failed e f n t l) = inr e
ended o out err got (line_failed e f n t l) = inr e

-- a status other than that of a write fault is that of what was delivered
ended_as : (o : Outcome) (out err : Change (List ℕ)) (got wanted : Status) → Delivers o out err got → got ≡ wanted → (status.WriteFault ≡ wanted → ⊥) → o.status ≡ wanted
ended_as o out err got wanted d e n = elim (ended o out err got d) [ inl s ↦ sym s ∙ e | inr f ↦ absurd (n (sym f ∙ e)) ]

sink_failed : (o : Outcome) (out err : Change (List ℕ)) (got : Status) → Delivers o out err got → (o.status ≡ status.WriteFault → ⊥) → got ≡ status.WriteFault → Failed out ⊎ Failed err
sink_failed o out err got (whole w) n e = absurd (n (sym w.ended ∙ e))
sink_failed o out err got (output_failed e' f k t l) n e = inl f
sink_failed o out err got (line_failed e' f k t l) n e = inr f

took_none : (out : Change (List ℕ)) → TookSome out [] → Took out []
took_none out t = subst (λ (w : List ℕ). Takes out.told_before w out.told_after) (prefix_of_none t.0) t.2
  where
    prefix_of_none : (n : ℕ) → take {A = ℕ} n [] ≡ []
    prefix_of_none zero = refl
    prefix_of_none (suc n) = refl

no_output : (o : Outcome) (out err : Change (List ℕ)) (got : Status) → Delivers o out err got → o.output ≡ [] → Took out []
no_output o out err got (whole w) e = subst (Took out) e w.output
no_output o out err got (output_failed s f n t l) e = took_none out (subst (TookSome out) e t)
no_output o out err got (line_failed s f n t l) e = subst (Took out) e t

module _ (words : List (List ℕ)) (run : Effects) (got : Status) (h : Ends words run got) where
  pub ends_words : got ≡ status.Words → AreBad words
  ends_words e = written_words words run.store h.0 h.1 (ended_as h.0 run.output run.error_output got status.Words h.2 e (λ f. cc))

  pub ends_read : got ≡ status.ReadFault → Failed run.store
  ends_read e = written_read words run.store h.0 h.1 (ended_as h.0 run.output run.error_output got status.ReadFault h.2 e (λ f. cc))

  pub ends_write : got ≡ status.WriteFault → Failed run.output ⊎ Failed run.error_output
  ends_write e = sink_failed h.0 run.output run.error_output got h.2 (never_write words run.store h.0 h.1) e

  pub ends_bad_words : AreBad words → ((got ≡ status.Words) ⊎ (got ≡ status.WriteFault) ⊎ (got ≡ status.NoMemory)) × Took run.output []
  ends_bad_words bad =
      let b : ((h.0.status ≡ status.Words) ⊎ (h.0.status ≡ status.NoMemory)) × (h.0.output ≡ []) = written_bad words run.store h.0 bad h.1 in (
        elim (ended h.0 run.output run.error_output got h.2) as (λ _. (got ≡ status.Words) ⊎ (got ≡ status.WriteFault) ⊎ (got ≡ status.NoMemory)) [
          | inl s ↦ elim b.0 [ inl w ↦ inl (s ∙ w) | inr m ↦ inr (inr (s ∙ m)) ]
          | inr f ↦ inr (inl f)
        ],
        no_output h.0 run.output run.error_output got h.2 b.1,
      )

module _ (one : (words : List (List ℕ)) (m : Contents) (a b : Outcome) → EndsWith words (Some m) a → EndsWith words (Some m) b → a ≡ b) where
  -- what was delivered where nothing failed
  delivered : (o : Outcome) (run : Effects) (got : Status) → (AnyFailed run → ⊥) → Delivers o run.output run.error_output got → Writes o run.output run.error_output got
  delivered o run got none (whole w) = w
  delivered o run got none (output_failed e f n t l) = absurd (none (inr (inl f)))
  delivered o run got none (line_failed e f n t l) = absurd (none (inr (inr f)))

  wrote : (words : List (List ℕ)) (run : Effects) (got : Status) (m : Contents) (o p : Outcome) → run.store.told_before ≡ Some m → EndsWith words (Some m) o → (AnyFailed run → ⊥) → MayWrite words run.store p → Writes p run.output run.error_output got → Writes o run.output run.error_output got ⊎ (got ≡ status.NoMemory)
  wrote words run got m o p told e none (defined d) w =
      let same : p ≡ o = one words m p o (subst (λ (t : Option Contents). EndsWith words t p) told d) e in
      inl (subst (λ (q : Outcome). Writes q run.output run.error_output got) same w)
  wrote words run got m o p told e none (store_failed r i n f) w = absurd (none (inl f))
  wrote words run got m o p told e none no_memory w = inr w.ended

  complete_by : (words : List (List ℕ)) (run : Effects) (got : Status) (told : Option Contents) → run.store.told_before ≡ told → Ends words run got → Told told (λ m. (o : Outcome) → EndsWith words (Some m) o → (AnyFailed run → ⊥) → Writes o run.output run.error_output got ⊎ (got ≡ status.NoMemory))
  complete_by words run got None is h = tt
  complete_by words run got (Some m) is h = λ o e none. wrote words run got m o h.0 is e none h.1 (delivered h.0 run got none h.2)

  pub ends_complete : (words : List (List ℕ)) (run : Effects) (got : Status) → Ends words run got → IsComplete words run got
  ends_complete words run got h = complete_by words run got run.store.told_before refl h
