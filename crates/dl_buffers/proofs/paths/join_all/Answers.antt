use Rattle.std.proofs.Common.{◌++◌, ℕ, List, [], ◌∷◌, get_or, take, ap, ◌∙◌, sym}
use Rattle.std.specs.List.{concat}
use Rattle.std.specs.Option.{option_copied}
use Rattle.dl_print.specs.ValueText.{strings_of}
use Rattle.dl_buffers.specs.PathCalls.{path_or_missing}
use Rattle.dl_buffers.specs.PathsCalls.{ends_from, path_told, paths_of}
use Rattle.dl_buffers.specs.UnitCalls.{length_told, written_over}
use Rattle.dl_buffers.proofs.PathsLemmas.{concat_more, ends_more, length-ends, length-paths, paths_more}
use Rattle.dl_buffers.proofs.paths.join_all.Goals as goal

pub loop-i-preserved : goal.loop-i-preserved
loop-i-preserved c =
    let l = c.loop-i in
    let files = c.args.files.now in
    let s = strings_of c.args.strings.now in
    let h = option_copied c.args.header in
    let path = path_told s h (get_or files l.i 0) in
    let before = paths_of s h (take l.i files) in
    let more = paths_more s h files l.i c.loop-i-test.true in
    let told = ap path_or_missing c.path_of.ensures.seen in
    let text = ap (λ (l : List ℕ). concat before ++ l) told ∙ sym (ap concat more ∙ concat_more before path) in
    let len = c.join_after-len.ensures.len (concat before) l.invariant.len in
    let at = sym (length-ends 0 before ∙ length-paths s h files l.i c.loop-i-test.true) in
    record {
      room = c.join_after-len.ensures.written c.args.room.now (concat before) l.invariant.room l.invariant.len
          ∙ ap (written_over c.args.room.now) text;
      ends = c.put.ensures c.args.ends.now (ends_from 0 before) l.invariant.ends at
          ∙ ap (λ (n : ℕ). written_over c.args.ends.now (ends_from 0 before ++ n ∷ []))
          (len ∙ ap (λ (l : List ℕ). length_told (concat before ++ l)) told)
          ∙ ap (written_over c.args.ends.now) (sym (ap (ends_from 0) more ∙ ends_more before path));
      len = len ∙ ap length_told text;
    }
