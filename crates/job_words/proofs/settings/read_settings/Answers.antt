use Rattle.std.proofs.Common.{map, string_bytes, rules, ◌≡◌}
use Rattle.job_words.specs.Settings.{HasTexts, JobSettings, head_settings, settings}
use Rattle.job_words.specs.Shown.{settings_of}
use Rattle.job_words.proofs.InRange.{job-is, job-same}
use Rattle.job_words.proofs.settings.read_settings.Goals as goal

pub returns-clause-job : goal.returns-clause-job
returns-clause-job c =
    let words = map string_bytes c.args.words.now in
    let texts : HasTexts (head_settings words c.args.now) =
    rw (← c.head_settings.ensures.settings) c.head_settings.ensures.texts in
    let told : JobSettings = settings_of (record {
      head = c.head_settings.result;
      mapping = c.args.mapping;
      bounds = c.bounds.result;
      rows = c.rows.result;
      workers = c.workers.result;
      folder = c.folder.result;
    }) in
    let same : told ≡ settings words c.args.mapping c.args.now = search rules in
    job-same told (settings words c.args.mapping c.args.now) same
    (job-is words c.args.mapping c.args.now c.requires.now texts)
