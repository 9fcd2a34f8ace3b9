use Rattle.osm_model.proofs.TableMessageLaws.{message-none}
use Rattle.pbf_wire.proofs.CheckReads.{accepted, message-whole, message-fits}
use Rattle.pbf_wire.proofs.check.check_message.Goals as goal

pub returns-clause-message : goal.returns-clause-message
returns-clause-message g c =
    accepted c.check_fields.result _ c.check_fields.ensures (message-none c.args.rules.now c.args.bytes.now)

pub returns-clause-whole : goal.returns-clause-whole
returns-clause-whole g c =
    accepted c.check_fields.result _ c.check_fields.ensures (message-whole c.args.rules.now c.args.bytes.now)

pub returns-clause-fits : goal.returns-clause-fits
returns-clause-fits g c =
    accepted c.check_fields.result _ c.check_fields.ensures (message-fits c.args.rules.now c.args.bytes.now)
