use Rattle.std.proofs.Common.{sym}
use Rattle.pbf_wire.proofs.MessageReads.{message-refused}
use Rattle.pbf_wire.proofs.message.read_message.Goals as goal

pub returns-in-Err-clause-message : goal.returns-in-Err-clause-message
returns-in-Err-clause-message g c = message-refused _ _ _ (sym c.in-Err.ensures.exact)
