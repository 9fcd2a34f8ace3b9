use Rattle.std.proofs.Common.{rules, ◌≡◌, option_map}
use Rattle.std.proofs.lemmas.Str.{is_utf8-from_IsUtf8}
use Rattle.job_words.specs.OptionTable.{head_text}
use Rattle.job_words.proofs.InRange.{short-text}
use Rattle.job_words.proofs.values.read_head_text.Goals as goal

pub returns-clause-short : goal.returns-clause-short
returns-clause-short c =
    let is : option_map (λ t. t.bytes) c.ok.result ≡ head_text c.args.text.now = search rules in
    short-text (λ t. t.bytes) c.ok.result c.args.text.now is (is_utf8-from_IsUtf8 c.args.text.now c.utf8.text)
