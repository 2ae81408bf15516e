-- Which reads are blamed, and which writes.
use Rattle.std.proofs.Common.{◌≡◌, Result, Ok, Err, subst}
use Rattle.dl_print.specs.declared.fault.WriteFault.{WriteFault}
use Rattle.dl_print.specs.Output.{BlamesWriter as PrintBlames}
use Rattle.dl_dialogue.specs.Faults.{BlamesWriter, IsNoRead, ReadsNothing}
use Rattle.dl_dialogue.specs.Standing.{stopped, written}
use Rattle.dl_dialogue.specs.declared.fault.AnswerFault.{AnswerFault}
use Rattle.dl_dialogue.specs.declared.fault.AnswerFault.TheVariants.{Input}
use Rattle.dl_dialogue.specs.declared.fault.TellFault.{TellFault}

-- the fault of an answer
pub input_fault : {A : Type 0} (fault : AnswerFault) → ◌≡◌ {A = Result A AnswerFault} (Err fault) (Err Input) → fault ≡ Input
input_fault fault e = cc

-- an answer that read nothing of the input is no failed read of it
pub no_input : {A : Type 0} (r : Result A AnswerFault) → ReadsNothing r → ¬ (r ≡ Err Input)
no_input (Ok answered) reads e = absurd cc
no_input (Err fault) reads e = subst IsNoRead (input_fault fault e) reads

pub written_reads : (r : Result (Unit {0}) WriteFault) → ReadsNothing (written r)
written_reads (Ok x) = tt
written_reads (Err lost) = tt

pub stopped_reads : (r : Result (Unit {0}) WriteFault) (fault : TellFault) → ReadsNothing (stopped r fault)
stopped_reads (Ok x) fault = tt
stopped_reads (Err lost) fault = tt

-- a failed write is told as it came
pub written_writer : (fails : Type 0) (r : Result (Unit {0}) WriteFault) → PrintBlames fails r → BlamesWriter fails (written r)
written_writer fails (Ok x) blames = tt
written_writer fails (Err lost) blames = blames

pub stopped_writer : (fails : Type 0) (r : Result (Unit {0}) WriteFault) (fault : TellFault) → PrintBlames fails r
    → BlamesWriter fails (stopped r fault)
stopped_writer fails (Ok x) fault blames = tt
stopped_writer fails (Err lost) fault blames = blames
