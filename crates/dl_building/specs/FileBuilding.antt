-- What the call answers that makes the index of an ELF file. f: the bytes of the file; all: all sequences count; keep_going:
-- damaged units are gone around; refuses: for how many items memory is refused.
use Rattle.std.specs.Prelude.{◌≡◌, ◌⊎◌, ℕ, Bool, false, List, [], Some, None, unwrap_or, Result, Ok, Err, IfOk, OnErr}
use Rattle.std.specs.Global.{Vec}
use Rattle.dl_buffers.specs.declared.record.FaultRecord.{FaultRecord}
use Rattle.dl_buffers.specs.declared.status.Status.{Status}
use Rattle.dl_cmd.specs.Job.{IndexTexts}
use Rattle.dl_held.specs.Holding.{CannotHold}
use Rattle.dl_memory.specs.declared.memory.NoMemory as held
use Rattle.dl_sections.specs.declared.around.Survey.{Survey}
use Rattle.dl_sections.specs.declared.fault.RunFault.TheVariants.{NoMemory}
use Rattle.dl_program.specs.Blaming.{BlamesWriter, IsBlamed}
use Rattle.dl_locating.specs.Indexing.{IndexesFile}
use Rattle.dl_program.specs.declared.stop.Stop.{Stop}
use Rattle.dl_program.specs.declared.stop.Stop.TheVariants.{Run}
use Rattle.dl_building.specs.declared.file.Built.{Built}
use Rattle.dl_building.specs.FileFaults.{status_by, stop_record}
use Rattle.dl_building.specs.Putting.{PutsIndex}

-- what the program is told
abbrev pub file_words : (all keep_going : Bool) → IndexTexts
file_words all keep_going = record {
  file = Some [];
  output = None;
  list = false;
  all = all;
  keep_going = keep_going;
  section = None;
  units = record { older = None; address_size = None; version_5 = false };
  comp_dir = None;
}

-- why there is no index where the program ended so, of whose output v was written: its fault, which is no failed write, as none
-- fails; or memory was refused for that output
abbrev pub IsStopOf : (refuses : ℕ → Type 0) (v : List ℕ) (end : Result Survey Stop) → Stop → Type 0
IsStopOf refuses v end stop =
    ((end ≡ Err stop) × IsBlamed ⊥ stop)
    ⊎ ((survey : Survey) × (end ≡ Ok survey) × CannotHold refuses v × (stop ≡ Run NoMemory))

-- the program over a file of these bytes, which no read fails of: what it writes, or why it stops
abbrev pub IsFileBuilt : (refuses : ℕ → Type 0) (f : List ℕ) (all keep_going : Bool) → Result Built Stop → Type 0
IsFileBuilt refuses f all keep_going (Ok built) =
    IndexesFile refuses (λ path. Some f) (λ path error. ⊥) [] (file_words all keep_going) (Some []) (Some built.index.items)
    (Ok built.survey)
IsFileBuilt refuses f all keep_going (Err stop) =
    (v : List ℕ) × (end : Result Survey Stop)
    × IndexesFile refuses (λ path. Some f) (λ path error. ⊥) [] (file_words all keep_going) (Some []) (Some v) end
    × IsStopOf refuses v end stop

-- `build_file`: of a room, a length and a fault, p, m and g before it, and q, n and h after it, only what the status says is
-- written
abbrev pub BuildsFile : (refuses : ℕ → Type 0) (f : List ℕ) (all keep_going : Bool) (p q : List ℕ) (m n : ℕ) (g h : FaultRecord) → Status → Type 0
BuildsFile refuses f all keep_going p q m n g h end =
    ((built : Built) × IsFileBuilt refuses f all keep_going (Ok built)
    × PutsIndex built.index.items built.survey.damaged p q n g h end)
    ⊎ ((stop : Stop) × IsFileBuilt refuses f all keep_going (Err stop) × (q ≡ p) × (n ≡ m)
    × (h ≡ unwrap_or (stop_record stop) g) × (end ≡ status_by (stop_record stop)))

-- of what the program writes, which is v: it is held, or can't be, and no write of it failed
abbrev pub IsIndexed : (refuses : ℕ → Type 0) (v : List ℕ) (end : Result Survey Stop) → Result (Vec ℕ) held.NoMemory → Type 0
IsIndexed refuses v end index =
    IfOk index (λ list. list.items ≡ v) × OnErr index (CannotHold refuses v) × BlamesWriter ⊥ end

-- what comes of both
abbrev pub built_of : Result Survey Stop → Result (Vec ℕ) held.NoMemory → Result Built Stop
built_of (Ok survey) (Ok index) = Ok (record { index = index; survey = survey })
built_of (Ok survey) (Err refused) = Err (Run NoMemory)
built_of (Err stop) index = Err stop
