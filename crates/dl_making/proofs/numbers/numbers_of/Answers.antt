use Rattle.std.proofs.Common.{◌+◌, ◌*◌, ap, ◌∙◌, ◌<◌, ◌^◌, ℕ, length, subst, sym, arith}
use Rattle.std.specs.Global.{Vec}
use Rattle.dl_pack.specs.Shown.{named_files}
use Rattle.dl_stretch.specs.declared.told.Told.{Told}
use Rattle.dl_stretch.specs.Made.{no_run}
use Rattle.dl_memory.proofs.RefusalLemmas.{wants_fewer}
use Rattle.dl_making.specs.Few.{unit_text}
use Rattle.dl_making.proofs.FewLemmas.{adds_less, adds_more}
use Rattle.dl_making.proofs.NumberLemmas.{numbered_more, numbered_all, grows_trans}
use Rattle.dl_making.proofs.numbers.numbers_of.Goals as goal

pub returns-in_err-number_file-clause-grows : goal.returns-in_err-number_file-clause-grows
returns-in_err-number_file-clause-grows g c =
    grows_trans (named_files c.args.names.now) (named_files c.loop-run.names) (named_files c.number_file.new.names)
    c.loop-run.invariant.grows c.number_file.ensures.grows

pub loop-run-preserved : goal.loop-run-preserved
loop-run-preserved g c = record {
  len = c.number_file.ensures.len ∙ c.loop-run.invariant.len;
  small = c.number_file.ensures.small c.loop-run.invariant.small;
  seen = c.in_ok-number_file.ensures.seen c.loop-run.invariant.seen;
  numbered = numbered_more c.args.unit.now (named_files c.loop-run.names) (named_files c.number_file.new.names) c.loop-run.numbers.items
      c.number_file.new.numbers.items c.args.runs.now c.loop-run.run-index _ no_run c.loop-run-test.true
      (ap (λ (t : Told). t.file) c.told.ensures) c.loop-run.invariant.numbered
      c.in_ok-number_file.ensures.others (c.in_ok-number_file.ensures.numbered c.loop-run.invariant.seen);
  few = (let i = c.loop-run.run-index in let room = unit_text c.args.unit.now in
      adds_less c.args.names.now c.number_file.new.names (3 * i + 3) (i + 1) room (3 * (i + 1)) (i + 1) room (omega arith)
      (omega arith) (omega arith) (adds_more (3 * i) i 3 1 room c.args.names.now c.loop-run.names c.number_file.new.names
      c.loop-run.invariant.few c.in_ok-number_file.ensures.few));
  grows = grows_trans (named_files c.args.names.now) (named_files c.loop-run.names) (named_files c.number_file.new.names)
      c.loop-run.invariant.grows c.number_file.ensures.grows;
}

few : (v : Vec ℕ) → length v.items < 2 ^ 63
few v = omega (arith, v.ok.0, v.ok.1, v.small)

pub returns-clause-held : goal.returns-clause-held
returns-clause-held g c = record {
  few = few c.loop-run.numbers;
  small = c.loop-run.invariant.small;
  other_small = subst (λ n. n < 2 ^ 63) (sym c.index-other.ensures) (c.loop-run.invariant.small c.files_end-end.result c.index-other.result.now
      (omega (arith, c.loop-run.invariant.len)));
}

pub returns-clause-numbers : goal.returns-clause-numbers
returns-clause-numbers g c file named =
    numbered_all c.args.unit.now (named_files c.loop-run.names) c.loop-run.numbers.items c.files_end-end.result c.index-other.result.now
    c.args.runs.now c.loop-run.run-index file c.loop-run.invariant.len (few c.loop-run.numbers) c.index-other.ensures c.files_end-end.ensures.end
    (omega (arith, c.loop-run-test.false)) c.loop-run.invariant.numbered named

pub returns-clause-grows : goal.returns-clause-grows
returns-clause-grows g c = c.loop-run.invariant.grows

pub returns-in_err-numbers-clause-refused : goal.returns-in_err-numbers-clause-refused
returns-in_err-numbers-clause-refused g c =
    wants_fewer _ _ _ _ (omega (arith, c.saturating_add.ensures, c.files_end-end.ensures.few)) c.in_err-numbers.ensures.refused

pub returns-in_err-number_file-clause-refused : goal.returns-in_err-number_file-clause-refused
returns-in_err-number_file-clause-refused g c =
    let few = c.loop-run.invariant.few in
    wants_fewer _ _ _ _ (omega (arith, few.texts_few, few.files_few, c.loop-run-test.true)) c.in_err-number_file.ensures.refused

pub returns-clause-few : goal.returns-clause-few
returns-clause-few g c =
    let i = c.loop-run.run-index in
    let room = unit_text c.args.unit.now in
    adds_less c.args.names.now c.loop-run.names (3 * i) i room (3 * length c.args.runs.now) (length c.args.runs.now) room
    (omega arith) (omega arith) (omega arith) c.loop-run.invariant.few
