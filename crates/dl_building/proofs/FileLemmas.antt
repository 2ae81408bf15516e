-- The program over a file in memory.
use Rattle.std.proofs.Common.{◌≡◌, ℕ, Bool, List, [], Some, Result, Ok, Err, IfOk, inl, inr, refl, sym, subst}
use Rattle.std.specs.Prelude.{OnErr}
use Rattle.std.specs.Global.{Vec}
use Rattle.dl_held.specs.Holding.{CannotHold}
use Rattle.dl_memory.specs.declared.memory.NoMemory.{NoMemory}
use Rattle.dl_program.specs.Blaming.{BlamesWriter}
use Rattle.dl_cmd.specs.Job.{IndexTexts}
use Rattle.dl_sections.specs.declared.around.Survey.{Survey}
use Rattle.dl_locating.specs.Indexing.{IndexesFile, IndexesFor}
use Rattle.dl_program.specs.declared.stop.Stop.{Stop}
use Rattle.dl_building.specs.FileBuilding.{IsFileBuilt, IsIndexed, built_of, file_words}

-- what it does for these words, with an output that is held
pub file_built : (refuses : ℕ → Type 0) (f : List ℕ) (all keep_going : Bool) (w : IndexTexts) (v : List ℕ) (end : Result Survey Stop)
    (index : Result (Vec ℕ) NoMemory) → w ≡ file_words all keep_going
    → IndexesFor refuses (λ path. Some f) (λ path error. ⊥) w (Some []) (Some v) end → IsIndexed refuses v end index
    → IsFileBuilt refuses f all keep_going (built_of end index)
file_built refuses f all keep_going w v end index told does (held, refused, blames) =
    by end index held refused blames
    (subst (λ (x : IndexTexts). IndexesFor refuses (λ path. Some f) (λ path error. ⊥) x (Some []) (Some v) end) told does) where
      by : (end : Result Survey Stop) (index : Result (Vec ℕ) NoMemory) → IfOk index (λ list. list.items ≡ v)
          → OnErr index (CannotHold refuses v) → BlamesWriter ⊥ end
          → IndexesFile refuses (λ path. Some f) (λ path error. ⊥) [] (file_words all keep_going) (Some []) (Some v) end
          → IsFileBuilt refuses f all keep_going (built_of end index)
      by (Ok survey) (Ok list) held refused blames does =
          subst (λ l. IndexesFile refuses (λ path. Some f) (λ path error. ⊥) [] (file_words all keep_going) (Some []) (Some l) (Ok survey))
          (sym held) does
      by (Ok survey) (Err e) held refused blames does = (v, Ok survey, does, inr (survey, refl, refused, refl))
      by (Err stop) (Ok list) held refused blames does = (v, Err stop, does, inl (refl, blames))
      by (Err stop) (Err e) held refused blames does = (v, Err stop, does, inl (refl, blames))
