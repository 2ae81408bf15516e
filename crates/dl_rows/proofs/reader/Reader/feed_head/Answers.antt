use Rattle.std.proofs.Common.{◌++◌, take, inr, refl, sym, ◌∙◌, arith}
use Rattle.dl_head.specs.declared.reader.HeadStep.TheVariants as answer
use Rattle.dl_rows.proofs.HeadFeeds.{head_took, bytes_taken, come_to, goes_stands, feeds_goes, holds_more}
use Rattle.dl_rows.proofs.HeadFeeds.{holds_refused, fails_head, stopped_head, feeds_version, feeds_header}
use Rattle.dl_rows.proofs.HeadFeeds.{begun_in, begun_takes, comes_to, knows_foreign}
use Rattle.dl_rows.proofs.ReaderFeeds.{head_items, whole_items}
use Rattle.dl_rows.proofs.ReaderLemmas.{cells_at, foreign_no_header}
use Rattle.dl_rows.proofs.reader.Reader.feed_head.Goals as goal

pub invariant_of-self : goal.invariant_of-self
invariant_of-self c = record {
  begun = comes_to (begun_in c.in-InHeader.is c.args.self.now.begun) c.offer-used.ensures.offered
      c.offer-used.ensures.dialect answer.More c.in-More.is;
}

pub invariant_of-self-in-NoMemory : goal.invariant_of-self-in-NoMemory
invariant_of-self-in-NoMemory c = record {
  begun = comes_to (begun_in c.in-InHeader.is c.args.self.now.begun) c.offer-used.ensures.offered
      c.offer-used.ensures.dialect answer.NoMemory c.in-NoMemory.is;
}

pub bytes_of-requires : goal.bytes_of-requires
bytes_of-requires c =
    knows_foreign (begun_in c.in-InHeader.is c.args.self.now.begun) c.offer-used.ensures.offered
    c.offer-used.ensures.dialect c.in-Foreign.version c.in-Foreign.is

pub after_header-requires : goal.after_header-requires
after_header-requires c =
    rw c.replace-read.ensures.value (comes_to (begun_in c.in-InHeader.is c.args.self.now.begun)
    c.offer-used.ensures.offered c.offer-used.ensures.dialect answer.Done c.in-Done.is)

pub invariant_of-self-in-Done : goal.invariant_of-self-in-Done
invariant_of-self-in-Done c = record { begun = c.after_header.ensures.begun }

pub returns-in-Fault-clause-fed : goal.returns-in-Fault-clause-fed
returns-in-Fault-clause-fed c b s =
    let w = b ++ take c.offer-used.result.0 c.args.piece.now in
    let h = head_took c.in-InHeader.is s (λ i lt. omega (arith, c.type_inv.piece i))
    c.offer-used.ensures.offered c.offer-used.ensures.dialect in
    let refused = come_to h _ c.in-Fault.is in
    let stopped = stopped_head h c.in-Fault.fault refused _ refl (c.taken.ensures w h.stands)
    (rw h.same_dialect at (c.unit_len.ensures.unit w h.stands)) (cells_at c.args.self.now.dialect c.offer-used.new.self w c.cells.result h.same_dialect
    (c.cells.ensures w h.stands)) in
    record {
      used = c.offer-used.result.0;
      fed = (fails_head h c.in-Fault.fault refused, stopped);
      items = head_items c.args.self.now.dialect w stopped.incomplete;
    }

pub returns-in-More-clause-fed : goal.returns-in-More-clause-fed
returns-in-More-clause-fed c b s =
    let h = head_took c.in-InHeader.is s (λ i lt. omega (arith, c.type_inv.piece i))
    c.offer-used.ensures.offered c.offer-used.ensures.dialect in
    let goes = come_to h answer.More c.in-More.is in
    let stands = goes_stands h goes in
    record {
      used = c.offer-used.result.0;
      fed = (refl, feeds_goes h goes _ _ stands refl (holds_more h goes (h.whole c.in-More.is)));
      items = head_items c.args.self.now.dialect _ stands.incomplete;
    }

pub returns-in-NoMemory-clause-fed : goal.returns-in-NoMemory-clause-fed
returns-in-NoMemory-clause-fed c b s =
    let h = head_took c.in-InHeader.is s (λ i lt. omega (arith, c.type_inv.piece i))
    c.offer-used.ensures.offered c.offer-used.ensures.dialect in
    let goes = come_to h answer.NoMemory c.in-NoMemory.is in
    let stands = goes_stands h goes in
    record {
      used = c.offer-used.result.0;
      fed = (refl, feeds_goes h goes _ _ stands refl (holds_refused h goes c.in-NoMemory.is));
      items = head_items c.args.self.now.dialect _ stands.incomplete;
    }

pub returns-in-Foreign-clause-fed : goal.returns-in-Foreign-clause-fed
returns-in-Foreign-clause-fed c b s =
    let w = b ++ take c.offer-used.result.0 c.args.piece.now in
    let h = head_took c.in-InHeader.is s (λ i lt. omega (arith, c.type_inv.piece i))
    c.offer-used.ensures.offered c.offer-used.ensures.dialect in
    let foreign = come_to h (answer.Foreign c.in-Foreign.version) c.in-Foreign.is in
    let some = begun_takes (begun_in c.in-InHeader.is c.args.self.now.begun) c.offer-used.ensures.progress
    (λ e. absurd (cc (sym c.in-Foreign.is ∙ e))) (λ e. absurd (cc (sym c.in-Foreign.is ∙ e))) in
    record {
      used = c.offer-used.result.0;
      fed = (
        refl,
        feeds_version h _ c.in-Foreign.version foreign some (
          c.in-Foreign.version,
          record { counts = rw h.same_dialect at (c.bytes_of.ensures w h.stands); foreign = foreign },
        ),
      );
      items = head_items c.args.self.now.dialect w
          (foreign_no_header c.args.self.now.dialect w c.in-Foreign.version foreign);
    }

pub returns-in-Done-clause-fed : goal.returns-in-Done-clause-fed
returns-in-Done-clause-fed c b s =
    let w = b ++ take c.offer-used.result.0 c.args.piece.now in
    let h = head_took c.in-InHeader.is s (λ i lt. omega (arith, c.type_inv.piece i))
    c.offer-used.ensures.offered c.offer-used.ensures.dialect in
    let header = come_to h answer.Done c.in-Done.is in
    let some = begun_takes (begun_in c.in-InHeader.is c.args.self.now.begun) c.offer-used.ensures.progress
    (λ e. absurd (cc (sym c.in-Done.is ∙ e))) (λ e. absurd (cc (sym c.in-Done.is ∙ e))) in
    let read = c.replace-read.ensures.value in
    record {
      used = c.offer-used.result.0;
      fed = (
        refl,
        feeds_header h _ header.0 header.1 some
            (rw (read, h.same_dialect) at (c.after_header.ensures.stands w (rw read h.stands) (bytes_taken h))),
      );
      items = whole_items c.args.self.now.dialect header.0 w header.1;
    }

pub returns-in-Foreign-clause-progress : goal.returns-in-Foreign-clause-progress
returns-in-Foreign-clause-progress c =
    inr (begun_takes (begun_in c.in-InHeader.is c.args.self.now.begun) c.offer-used.ensures.progress
    (λ e. absurd (cc (sym c.in-Foreign.is ∙ e))) (λ e. absurd (cc (sym c.in-Foreign.is ∙ e))))

pub returns-in-Done-clause-progress : goal.returns-in-Done-clause-progress
returns-in-Done-clause-progress c =
    inr (begun_takes (begun_in c.in-InHeader.is c.args.self.now.begun) c.offer-used.ensures.progress
    (λ e. absurd (cc (sym c.in-Done.is ∙ e))) (λ e. absurd (cc (sym c.in-Done.is ∙ e))))
