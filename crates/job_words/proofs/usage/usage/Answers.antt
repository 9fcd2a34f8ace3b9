use Rattle.std.proofs.Common.{map, string_bytes, sym, ◌∙◌}
use Rattle.job_words.specs.OptionTable.{option_names}
use Rattle.job_words.proofs.Right.{are-options, usage-words, usage-options}
use Rattle.job_words.proofs.usage.usage.Goals as goal

pub first_broken-requires : goal.first_broken-requires
first_broken-requires c =
    are-options option_names (map string_bytes c.args.words.now) (sym c.if-words_keep.true ∙ c.words_keep.ensures)

pub returns-then-words_keep-clause-usage : goal.returns-then-words_keep-clause-usage
returns-then-words_keep-clause-usage c =
    usage-options (map string_bytes c.args.words.now) c.first_broken.result
    (sym c.if-words_keep.true ∙ c.words_keep.ensures) c.first_broken.ensures

pub returns-then-words_keep-clause-options : goal.returns-then-words_keep-clause-options
returns-then-words_keep-clause-options c _ =
    are-options option_names (map string_bytes c.args.words.now) (sym c.if-words_keep.true ∙ c.words_keep.ensures)

pub returns-else-words_keep-clause-usage : goal.returns-else-words_keep-clause-usage
returns-else-words_keep-clause-usage c =
    usage-words (map string_bytes c.args.words.now) (sym c.if-words_keep.false ∙ c.words_keep.ensures)
