use Rattle.std.proofs.Common.{map, string_bytes}
use Rattle.mf_run.proofs.Preparing.{prepared-read, prepared-refused}
use Rattle.mf_run.proofs.prepare.prepare.Goals as goal

pub returns-in-Ok : goal.returns-in-Ok
returns-in-Ok g c = record {
  prepared = prepared-read (map string_bytes c.args.words.now) c.args.now (g.H.Shelf.state c.args.shelf.now)
      (g.H.Shelf.state c.read_job.new.shelf) c.in-Ok.asked c.job_of.result (record {
        told = c.in-Ok.ensures.asked;
        refused = c.in-Ok.ensures.usage;
        same = c.in-Ok.ensures.same;
        leaves = c.in-Ok.ensures.leaves;
        other = c.in-Ok.ensures.other;
      }) c.job_of.ensures.told;
}

pub returns-in-Err : goal.returns-in-Err
returns-in-Err g c = record {
  prepared = prepared-refused (map string_bytes c.args.words.now) c.args.now (g.H.Shelf.state c.args.shelf.now)
      (g.H.Shelf.state c.read_job.new.shelf) c.in-Err.refusal (record {
        told = c.in-Err.ensures.asked;
        refused = c.in-Err.ensures.usage;
        same = c.in-Err.ensures.same;
        leaves = c.in-Err.ensures.leaves;
        other = c.in-Err.ensures.other;
      });
}
