use Rattle.mf_base.specs.Spelling.{big_endian}
use Rattle.map_model.specs.Header.{magic_word}
use Rattle.map_header.proofs.Putting.{puts-five}
use Rattle.map_header.proofs.header.put_front.Goals as goal

pub returns-clause-appends : goal.returns-clause-appends
returns-clause-appends c =
    puts-five _ _ _ _ _ _ magic_word (big_endian 4 c.args.after) (big_endian 4 5) (big_endian 8 c.args.file_size)
    (big_endian 8 c.args.date) c.put.ensures c.put_be.ensures.appends c.put_be-2.ensures.appends
    c.put_be-3.ensures.appends
    c.put_be-4.ensures.appends
