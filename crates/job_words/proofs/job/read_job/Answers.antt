use Rattle.std.proofs.Common.{map, string_bytes, rules, ◌≡◌, None, Err, Ok, sym, Result}
use Rattle.job_words.specs.Usage.{usage}
use Rattle.job_words.specs.Shown.{told_by}
use Rattle.job_words.specs.Settings.{JobAsked, asked}
use Rattle.job_words.specs.declared.refusal.Refusal.{Refusal}
use Rattle.job_words.proofs.Jobs.{told-usage, told-refused, told-asked}
use Rattle.job_words.proofs.job.read_job.Goals as goal

pub returns-in-Some-clause-asked : goal.returns-in-Some-clause-asked
returns-in-Some-clause-asked g c =
    told-usage (map string_bytes c.args.words.now) c.in-Some.word c.args.now (g.H.Shelf.state c.args.shelf.now)
    (sym c.in-Some.ensures.usage)

pub returns-in_err-mapping-clause-asked : goal.returns-in_err-mapping-clause-asked
returns-in_err-mapping-clause-asked g c =
    let words = map string_bytes c.args.words.now in
    let right : usage words ≡ None = search rules in
    let is : ◌≡◌ {A = Result JobAsked Refusal} (told_by c.from_residual.result) (Err c.in_err-mapping.field-0.0) =
    search rules in
    rw is
    (told-refused words c.args.now (g.H.Shelf.state c.args.shelf.now) c.in_err-mapping.field-0.0 right
    c.in_err-mapping.ensures.told)

pub returns-clause-asked : goal.returns-clause-asked
returns-clause-asked g c =
    let words = map string_bytes c.args.words.now in
    let right : usage words ≡ None = search rules in
    let is : told_by (Ok (record { settings = c.read_settings.result; made = c.made_input.result }))
    ≡ Ok (asked words c.in_ok-mapping.mapping c.args.now) = search rules in
    rw is
    (told-asked words c.args.now (g.H.Shelf.state c.args.shelf.now) c.in_ok-mapping.mapping right
    c.in_ok-mapping.ensures.told)
