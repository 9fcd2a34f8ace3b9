-- What a cursor over members lends. This project's own.
use Rattle.std.specs.Prelude.{List, map}
use Rattle.osm_model.specs.Entities as entities
use Rattle.osm_entity.specs.MemberChecks.{member_of, rows_in}
use Rattle.osm_entity.specs.declared.members.Member.{Member}
use Rattle.osm_entity.specs.declared.members.MemberCursor.{MemberCursor}

-- the member that is lent
abbrev pub member_told : Member → entities.Member
member_told m = record { kind = m.kind; id = m.id; role = m.role.now }

-- the members that are left to be given
abbrev pub members_left : MemberCursor → List entities.Member
members_left c = map (member_of c.block.now c.places.now) (rows_in c.sum c.roles.now c.ids.now c.types.now)
