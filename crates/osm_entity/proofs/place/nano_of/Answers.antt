use Rattle.osm_entity.proofs.PlaceReads.{nano_fits, nano_is}
use Rattle.osm_entity.proofs.place.nano_of.Goals as goal

pub overflow_add-result : goal.overflow_add-result
overflow_add-result c =
    nano_fits c.args.offset c.args.granularity c.args.stored c.from.result c.from-2.result c.from-3.result
    c.ranges.offset c.ranges.granularity c.ranges.stored c.from.ensures c.from-2.ensures c.from-3.ensures

pub returns : goal.returns
returns c =
    nano_is c.args.offset c.args.granularity c.args.stored c.from.result c.from-2.result c.from-3.result
    c.ranges.offset c.ranges.granularity c.ranges.stored c.from.ensures c.from-2.ensures c.from-3.ensures
