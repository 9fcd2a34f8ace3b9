use Rattle.std.proofs.Common.{arith}
use Rattle.mf_base.specs.TagCursor.{tags_left}
use Rattle.tag_mapping.specs.Choosing.{parts_shown}
use Rattle.tag_mapping.proofs.Looked.{looked-found, looked-none}
use Rattle.tag_mapping.proofs.choosing.Choosing.look_at.Goals as goal

pub returns-in-Some-clause-so_far : goal.returns-in-Some-clause-so_far
returns-in-Some-clause-so_far c =
    looked-found c.args.entries.now (tags_left c.args.tags) c.args.self.now.known c.args.self.now.choice
    c.grow.new.choice c.args.index (parts_shown c.parts.result) c.in-Some.found c.parts.ensures
    (omega (arith, c.requires.few, c.requires.within)) c.if-self-index.false c.requires.so_far
    c.in-Some.ensures c.grow.ensures

pub returns-in_default-clause-so_far : goal.returns-in_default-clause-so_far
returns-in_default-clause-so_far c =
    looked-none c.args.entries.now (tags_left c.args.tags) c.args.self.now.known c.args.self.now.choice c.args.index
    (parts_shown c.parts.result) c.parts.ensures (omega (arith, c.requires.few, c.requires.within))
    c.if-self-index.false c.requires.so_far c.in_default.ensures
