use Rattle.std.proofs.Common.{◌++◌, ◌∙◌, List, ℕ, refl, sym, ap}
use Rattle.std.proofs.lemmas.Result.{err_from_is_err_and}
use Rattle.dl_path.proofs.PrintLemmas.{loses_same, prints_same}
use Rattle.dl_dump.specs.Dumping.{style_of}
use Rattle.std.specs.Prelude.{Ok, ⊤}
use Rattle.dl_print.specs.Digits.{hexadecimal_bytes}
use Rattle.dl_dump.specs.DetailText.{reached_after, shown_after}
use Rattle.dl_dump.specs.OperationText.{start_text}
use Rattle.dl_dump.proofs.ShowingLemmas.{byte_visits, loses, no_bytes, no_damage, reached_bytes, reached_nowhere}
use Rattle.dl_dump.proofs.ShowingLemmas.{shown_nothing, shown_some, shows, shows_nothing}
use Rattle.dl_dump.proofs.dumping.DumperVisitor.bytes.Goals.{then-not-self-via-then-not-self, then-not-self-via-else-not-self+then-is_empty}
use Rattle.dl_dump.proofs.dumping.DumperVisitor.bytes.Goals as goal

pub returns-then-not-self-clause-heard : goal.returns-then-not-self-clause-heard
returns-then-not-self-clause-heard g c first start visits showed =
    let self = c.args.self.now in
    let bytes = c.args.bytes.now in
    elim c.then-not-self.branch [
      | then-not-self-via-then-not-self w ↦
          shows_nothing showed (byte_visits bytes) (shown_nothing (style_of self) w.if-not-self.true self.at bytes)
          (no_damage bytes) (reached_nowhere (style_of self) w.if-not-self.true self.at bytes)
      | then-not-self-via-else-not-self+then-is_empty w ↦
          let none = no_bytes bytes (sym w.is_empty.ensures ∙ w.if-is_empty.true) in
          shows_nothing showed (byte_visits bytes)
          (ap (λ (l : List ℕ). shown_after (style_of self) self.at (byte_visits l)) none) (no_damage bytes)
          (sym (ap (λ (l : List ℕ). reached_after (style_of self) self.at (byte_visits l)) none))
    ]

pub returns-in_err-print_bytes-clause-heard : goal.returns-in_err-print_bytes-clause-heard
returns-in_err-print_bytes-clause-heard g c first start visits showed =
    let e = err_from_is_err_and c.from_residual.result c.from_residual.ensures.1 in
    let self = c.args.self.now in
    let bytes = c.args.bytes.now in
    let old = g.W.Write.contents c.args.output.now in
    let new = g.W.Write.contents c.print_bytes.new.output in
    let some = sym c.is_empty.ensures ∙ c.if-is_empty.false in
    rw (e.1, e.2) (loses showed (record self { printer = record self.printer { now = c.print_bytes.new.printer } }) new
    (byte_visits bytes) _
    (loses_same old new self.printer.now (start_text self.at.opcode self.at.offset ++ hexadecimal_bytes bytes)
    (shown_after (style_of self) self.at (byte_visits bytes)) _
    (shown_some (style_of self) c.if-not-self.false self.at bytes some) c.in_err-print_bytes.ensures.printed))

pub returns-clause-heard : goal.returns-clause-heard
returns-clause-heard g c first start visits showed =
    let self = c.args.self.now in
    let bytes = c.args.bytes.now in
    let old = g.W.Write.contents c.args.output.now in
    let new = g.W.Write.contents c.print_bytes.new.output in
    let some = sym c.is_empty.ensures ∙ c.if-is_empty.false in
    shows showed _ new (byte_visits bytes)
    (prints_same {A = ⊤} old new self.printer.now c.print_bytes.new.printer
    (start_text self.at.opcode self.at.offset ++ hexadecimal_bytes bytes)
    (shown_after (style_of self) self.at (byte_visits bytes)) (Ok tt)
    (shown_some (style_of self) c.if-not-self.false self.at bytes some) c.in_ok-print_bytes.ensures.printed) refl refl
    (no_damage bytes) (c.with_bytes-self.ensures ∙ reached_bytes (style_of self) c.if-not-self.false self.at bytes)
