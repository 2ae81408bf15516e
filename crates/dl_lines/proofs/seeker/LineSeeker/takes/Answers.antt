use Rattle.std.proofs.Common.{◌≡◌, Bool, [], ◌∷◌, ◌++◌, sym, ap, ◌∙◌, subst, append-nil}
use Rattle.std.specs.Prelude.{if◌then◌else◌}
use Rattle.dl_look.specs.FinderRows.{unended}
use Rattle.dl_look.specs.LiveRows.{live_rows}
use Rattle.dl_lines.specs.Places.{places_after}
use Rattle.dl_lines.specs.Runs.{TellsFirst}
use Rattle.dl_lines.specs.Seeking.{known_of}
use Rattle.dl_lines.proofs.RunLemmas.{places_more}
use Rattle.dl_lines.proofs.seeker.LineSeeker.takes.Goals as goal

pub returns-then-not-takes-clause-told : goal.returns-then-not-takes-clause-told
returns-then-not-takes-clause-told g c rows tells statements =
    let live = (known_of c.args.self.now).live in
    let r = c.args.row.now in
    let is : unended rows ≡ [] → c.begins_live-is_live.result ≡ live r.address = c.begins_live-is_live.ensures live rows tells in
    let same : live_rows live (rows ++ r ∷ []) ≡ live_rows live rows =
    c.takes.ensures.told live rows tells is
    ∙ ap (λ (b : Bool). live_rows live rows ++ (if b then r ∷ [] else [])) c.if-not-takes.true
    ∙ append-nil (live_rows live rows) in
    record {
      live = c.takes.ensures.goes_on live rows tells is;
      statements = subst (TellsFirst c.args.self.now.statements) (sym same) statements;
      places = ap (places_after []) same ∙ sym (append-nil (places_after [] (live_rows live rows)));
    }

pub returns-clause-told : goal.returns-clause-told
returns-clause-told g c rows tells statements =
    let live = (known_of c.args.self.now).live in
    let r = c.args.row.now in
    let is : unended rows ≡ [] → c.begins_live-is_live.result ≡ live r.address = c.begins_live-is_live.ensures live rows tells in
    let more : live_rows live (rows ++ r ∷ []) ≡ live_rows live rows ++ r ∷ [] =
    c.takes.ensures.told live rows tells is
    ∙ ap (λ (b : Bool). live_rows live rows ++ (if b then r ∷ [] else [])) c.if-not-takes.false in
    record {
      live = c.takes.ensures.goes_on live rows tells is;
      statements = subst (TellsFirst c.takes-2.new.self) (sym more) (c.takes-2.ensures.goes_on (live_rows live rows) statements);
      places =
          ap (places_after []) more ∙ places_more [] (live_rows live rows) r
          ∙ ap (λ (b : Bool). places_after [] (live_rows live rows) ++ (if b then r ∷ [] else []))
          (sym (c.takes-2.ensures.told (live_rows live rows) statements));
    }
