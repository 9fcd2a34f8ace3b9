use Rattle.std.proofs.Common.{◌+◌, length, sym, subst}
use Rattle.mf_base.specs.Buffer.{HasRoom, AppendsTo}
use Rattle.tile_body.specs.Tiles.{features_told}
use Rattle.tile_body.proofs.Counting.{table-is}
use Rattle.tile_body.proofs.table.put_table.Goals as goal

pub put_counts-requires-clause-room : goal.put_counts-requires-clause-room
put_counts-requires-clause-room c =
    subst (λ bytes. HasRoom c.args.out.now (length bytes + 10))
    (sym (table-is c.args.interval.now (features_told c.args.records.now.records) c.count_members.new.pois
    c.count_members.new.ways c.requires.zooms.0 c.requires.zooms.1 c.count_members.ensures.pois
    c.count_members.ensures.ways)) c.requires.room

pub returns : goal.returns
returns c = record {
  appends = subst (AppendsTo c.args.out.now c.put_counts.new.out)
      (table-is c.args.interval.now (features_told c.args.records.now.records) c.count_members.new.pois
      c.count_members.new.ways c.requires.zooms.0 c.requires.zooms.1 c.count_members.ensures.pois
      c.count_members.ensures.ways) c.put_counts.ensures.appends;
}
