use Rattle.std.proofs.Common.{map, string_bytes, rules, ◌≡◌, option_map, Some}
use Rattle.job_words.specs.declared.usage_word.UsageWord.TheVariants as which
use Rattle.job_words.specs.Usage.{value_of}
use Rattle.job_words.proofs.Right.{file-named, is-there, is-value}
use Rattle.job_words.proofs.job.file_name.Goals as goal

pub unwrap-requires : goal.unwrap-requires
unwrap-requires c =
    let found = file-named (map string_bytes c.args.words.now) c.requires.right c.requires.no_poi in
    let is : value_of (map string_bytes c.args.words.now) which.Mapping ≡ Some found.0 = found.1 in
    let told : option_map (λ t. t.now) c.word_of.result ≡ Some found.0 = search rules in
    is-there (λ t. t.now) c.word_of.result found.0 told

pub returns-clause-short : goal.returns-clause-short
returns-clause-short c =
    let found = file-named (map string_bytes c.args.words.now) c.requires.right c.requires.no_poi in
    let is : value_of (map string_bytes c.args.words.now) which.Mapping ≡ Some found.0 = found.1 in
    let told : option_map (λ t. t.now) c.word_of.result ≡ Some found.0 = search rules in
    let same = is-value (λ t. t.now) c.word_of.result c.unwrap.result found.0 (search rules) told in
    rw same found.2
