use Rattle.std.proofs.Common.{◌∙◌, sym, ap, map}
use Rattle.mf_base.specs.Spelling.{unzigzag_of}
use Rattle.mf_base.specs.Packed.{packed_numbers}
use Rattle.mf_base.specs.Steps.{fault_of}
use Rattle.osm_entity.specs.InBlock.{texts_at}
use Rattle.osm_entity.proofs.BlockTexts.{length-texts}
use Rattle.osm_entity.proofs.MemberReads.{members-sound}
use Rattle.osm_entity.proofs.members.MemberCursor.read.Goals as goal

pub invariant_of-result : goal.invariant_of-result
invariant_of-result c =
    let block = c.args.in_block.block.now in
    let places = c.args.in_block.places.now in
    record {
      texts = c.args.in_block.texts;
      whole_roles = c.requires.roles;
      whole_ids = c.requires.ids;
      whole_types = c.requires.types;
      told = (members-sound block places (packed_numbers c.args.roles.now)
          (map unzigzag_of (packed_numbers c.args.ids.now)) (packed_numbers c.args.types.now)
          (sym (ap fault_of (c.in_ok-check_members.was {u = tt}))
          ∙ c.check_members.ensures (texts_at block places) (length-texts block places ∙ sym c.count.ensures))).rows;
    }

pub returns : goal.returns
returns c =
    let block = c.args.in_block.block.now in
    let places = c.args.in_block.places.now in
    (members-sound block places (packed_numbers c.args.roles.now)
    (map unzigzag_of (packed_numbers c.args.ids.now)) (packed_numbers c.args.types.now)
    (sym (ap fault_of (c.in_ok-check_members.was {u = tt}))
    ∙ c.check_members.ensures (texts_at block places) (length-texts block places ∙ sym c.count.ensures))).members
