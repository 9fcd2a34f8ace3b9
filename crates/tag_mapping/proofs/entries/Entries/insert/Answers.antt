use Rattle.tag_mapping.specs.Shown.{told_shown}
use Rattle.tag_mapping.proofs.Joined.{put-new}
use Rattle.tag_mapping.proofs.entries.Entries.insert.Goals as goal

pub invariant_of-self-2 : goal.invariant_of-self-2
invariant_of-self-2 c =
    (put-new c.self.inside.found.entries c.insert.new.self.entries c.args.self.now c.args.text
    (told_shown c.args.told.now) c.self.invariant c.self.view_is c.in-Ok.ensures.entries
    c.requires.text c.requires.plain c.requires.short.0 c.requires.short.1 c.requires.new).0

pub returns-clause-put : goal.returns-clause-put
returns-clause-put c _ =
    (put-new c.self.inside.found.entries c.insert.new.self.entries c.args.self.now c.args.text
    (told_shown c.args.told.now) c.self.invariant c.self.view_is c.in-Ok.ensures.entries
    c.requires.text c.requires.plain c.requires.short.0 c.requires.short.1 c.requires.new).1
