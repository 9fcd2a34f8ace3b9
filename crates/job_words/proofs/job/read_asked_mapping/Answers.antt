use Rattle.std.proofs.Common.{map, string_bytes, rules, ◌≡◌, Some}
use Rattle.job_words.specs.declared.usage_word.UsageWord.TheVariants as which
use Rattle.job_words.specs.Usage.{value_of}
use Rattle.job_words.proofs.Files.{leaves-alone}
use Rattle.job_words.proofs.Jobs.{poi-told}
use Rattle.job_words.proofs.Right.{poi-alone}
use Rattle.job_words.proofs.job.read_asked_mapping.Goals as goal

pub returns-in-Some-clause-told : goal.returns-in-Some-clause-told
returns-in-Some-clause-told g c =
    let words = map string_bytes c.args.words.now in
    let poi : value_of words which.Poi ≡ Some c.in-Some.word.now = search rules in
    poi-told words c.in-Some.word.now (g.H.Shelf.state c.args.shelf.now) c.read_poi.result poi
    c.read_poi.ensures.told

pub returns-in-Some-clause-leaves : goal.returns-in-Some-clause-leaves
returns-in-Some-clause-leaves g c =
    let words = map string_bytes c.args.words.now in
    let poi : value_of words which.Poi ≡ Some c.in-Some.word.now = search rules in
    leaves-alone (value_of words which.Mapping) (g.H.Shelf.state c.args.shelf.now) c.read_poi.result
    c.requires.unnamed c.read_poi.ensures.no_read (poi-alone words c.in-Some.word.now c.requires.right poi)
