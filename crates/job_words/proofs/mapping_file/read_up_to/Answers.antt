use Rattle.std.proofs.Common.{rules, length, ◌≡◌, ◌-◌, ◌∙◌}
use Rattle.mf_edge.proofs.Taking.{Takes-read}
use Rattle.job_words.proofs.Files.{keeps-then}
use Rattle.job_words.proofs.mapping_file.read_up_to.Goals as goal

pub loop-have-preserved : goal.loop-have-preserved
loop-have-preserved g c =
    let lent : length c.read.new.out ≡ length c.loop-have.room - c.loop-have.have = search rules in
    record {
      within = search rules;
      takes =
          Takes-read _ _ _ _ _ _ _ _ c.loop-have.invariant.within c.in_ok-more.ensures.within
          c.loop-have.invariant.takes c.in_ok-more.ensures.takes;
      same_faults = c.in_ok-more.ensures.same_faults ∙ c.loop-have.invariant.same_faults;
      keeps = keeps-then _ _ _ c.loop-have.invariant.keeps c.in_ok-more.ensures.keeps;
    }
