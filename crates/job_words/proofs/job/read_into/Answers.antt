use Rattle.std.proofs.Common.{take, length}
use Rattle.job_words.proofs.Files.{file-told}
use Rattle.job_words.proofs.job.read_into.Goals as goal

pub returns-in-Ok-clause-told : goal.returns-in-Ok-clause-told
returns-in-Ok-clause-told g c =
    file-told (g.H.Shelf.state c.args.shelf.now) (length c.args.room.now)
    (take c.in-Ok.count c.read_named.new.room) c.read_mapping_of.result c.requires.room
    c.in-Ok.ensures.front c.read_mapping_of.ensures.told
