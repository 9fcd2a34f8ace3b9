use Rattle.map_header.specs.Shown.{settings_of}
use Rattle.map_header.proofs.HeaderBytes.{puts-middle}
use Rattle.map_header.proofs.header.put_middle.Goals as goal

pub returns-clause-appends : goal.returns-clause-appends
returns-clause-appends g c =
    puts-middle c.args.out.now c.put_be.new.out c.put.new.self c.put-2.new.self c.put_options.new.out c.put_tags.new.out
    c.put_tags-2.new.out c.put_be-2.new.out (settings_of c.args.set.now)
    (g.T.TagSource.names c.args.tags.now) c.flags.result c.len.result
    c.flags.ensures c.len.ensures.value c.put_be.ensures.appends c.put.ensures c.put-2.ensures
    c.put_options.ensures.appends
    c.put_tags.ensures.appends c.put_tags-2.ensures.appends c.put_be-2.ensures.appends
