-- What the calls that open an index answer. b: the bytes.
use Rattle.std.specs.Prelude.{◌≡◌, ℕ, List}
use Rattle.dl_buffers.specs.declared.status.Status.{Status}
use Rattle.dl_buffers.specs.declared.status.Status.TheVariants as status
use Rattle.dl_index.specs.IsIndex.{HasFault, IsHeaded, IsIndex}
use Rattle.dl_index.specs.declared.fault.IndexFault.{IndexFault}
use Rattle.dl_index_buffers.specs.IndexRecords.{IsAbout, fault_record}
use Rattle.dl_index_buffers.specs.declared.record.IndexFaultRecord.{IndexFaultRecord}
use Rattle.dl_index_buffers.specs.declared.record.IndexRecord.{IndexRecord}

-- of a record and a fault, p and f before it, and q and g after it, only what the status says is written; Good: what is
-- checked of the bytes
abbrev pub OpensIf : (Good : Type 0) (b : List ℕ) (p q : IndexRecord) (f g : IndexFaultRecord) → Status → Type 0
OpensIf Good b p q f g status.Done = Good × IsAbout b q × (g ≡ f)
OpensIf Good b p q f g status.Fault = (fault : IndexFault) × HasFault b fault × (q ≡ p) × (g ≡ fault_record fault)
OpensIf Good b p q f g other = ⊥

-- `open`
abbrev pub Opens : (b : List ℕ) (p q : IndexRecord) (f g : IndexFaultRecord) → Status → Type 0
Opens b p q f g end = OpensIf (IsIndex b) b p q f g end

-- `open_unchecked`
abbrev pub OpensUnchecked : (b : List ℕ) (p q : IndexRecord) (f g : IndexFaultRecord) → Status → Type 0
OpensUnchecked b p q f g end = OpensIf (IsHeaded b) b p q f g end
