use Rattle.dl_table_rules.proofs.ContentLemmas.{content_second}
use Rattle.dl_table_rules.proofs.header_rules.content.Goals as goal

pub returns-else-place-directories : goal.returns-else-place-directories
returns-else-place-directories c =
    content_second c.args.directories.now c.args.files.now c.args.place _ c.if-place-directories.false c.requires
