use Rattle.std.proofs.Common.{map, string_bytes, rules, ◌≡◌}
use Rattle.job_words.specs.declared.usage_word.UsageWord.TheVariants as which
use Rattle.job_words.specs.OptionTable.{made_input}
use Rattle.job_words.specs.Settings.{value_by}
use Rattle.job_words.proofs.InRange.{asked-made}
use Rattle.job_words.proofs.settings.made_input.Goals as goal

pub returns-clause-size : goal.returns-clause-size
returns-clause-size c =
    let words = map string_bytes c.args.words.now in
    let is : c.read_made_input.result ≡ value_by made_input words which.Make = search rules in
    rw is (asked-made words)
