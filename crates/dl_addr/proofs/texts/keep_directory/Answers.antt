use Rattle.std.proofs.Common.{◌+◌, ◌≤◌, Option, arith, subst}
use Rattle.std.specs.Prelude.{IfSome}
use Rattle.dl_path.specs.declared.parts.Directory.{Directory}
use Rattle.dl_path.specs.PathParts.{header_bytes}
use Rattle.dl_addr.proofs.KeepLemmas.{on_err}
use Rattle.dl_addr.proofs.RoomLemmas.{put_within}
use Rattle.dl_addr.proofs.texts.keep_directory.Goals as goal

pub returns-in_default-clause-put : goal.returns-in_default-clause-put
returns-in_default-clause-put g c count few = put_within c.args.directories.now count (count + 1) (omega arith) few

pub returns-in_err-directory_number-clause-refused : goal.returns-in_err-directory_number-clause-refused
returns-in_err-directory_number-clause-refused g c =
    on_err c.from_residual.result (λ count most few put room within.
    c.in_err-directory_number.ensures.refused count most few put room
    (subst (λ (o : Option Directory). IfSome o (λ d. header_bytes d.text ≤ most)) c.in-Some.is within))
