use Rattle.std.proofs.Common.{◌≡◌, ◌≢◌, ◌*◌, ◌≤◌, ◌++◌, List, length, sym, ap, subst, ◌∙◌, arith, Option, Some, refl, ◌+◌}
use Rattle.std.proofs.Math.Nat.{mul-le-mul_left}
use Rattle.mf_edge.specs.Spill.{part_limit}
use Rattle.mf_rows.specs.declared.kinds.MemberRow.{MemberRow}
use Rattle.mf_rows.specs.declared.kinds.RelRow.{RelRow}
use Rattle.spill_parts.specs.Parts.{Part, GivesNext}
use Rattle.spill_parts.specs.Join.{Climbs}
use Rattle.spill_parts.proofs.Kept.{reading_same, reading_kept, there_same, same_store, same_trans}
use Rattle.spill_parts.proofs.Added.{added_begun, added_read, added_written, added_now}
use Rattle.spill_parts.proofs.Looked.{from_zero, not_below, told_row, nothing_left}
use Rattle.row_runs.specs.Running.{rows_left}
use Rattle.row_runs.proofs.Running.{tells_as_before, overrun_as_before}
use Rattle.member_points.specs.RelRows.{member_way}
use Rattle.member_points.specs.Pairing.{rows_of_member, paired_rows}
use Rattle.member_points.proofs.Fronts.{holding_now}
use Rattle.member_points.proofs.StillToPut.{paired_put, paired_fits, paired_whole}
use Rattle.unit_rows.proofs.Loads.{read-then}
use Rattle.member_points.proofs.pairs.pair_members.Goals as goal

pub loop-member-init : goal.loop-member-init
loop-member-init g c =
    let begun = c.in_ok-out.ensures.made in
    let same = read-then (g.P.Spill.state c.make.new.spill) (g.P.Spill.state c.start.new.spill)
    (g.P.Spill.state c.hold_points.new.spill) c.start.ensures.same c.hold_points.ensures.same in
    let points = c.hold_points.ensures.same_source ∙ c.in_ok-runs.ensures.source in
    let points_within : 28 * c.hold_points.new.runs.reading.loaded
    ≤ 28 * length c.hold_points.new.runs.reading.source.rows
    = mul-le-mul_left 28 c.in_ok-count.ensures.running.reading.some in
    record {
      same = same_store c.make.ensures.same same;
      same_faults = c.in_ok-count.ensures.same_faults ∙ c.in_ok-runs.ensures.same_faults
          ∙ c.in_ok-out.ensures.same_faults;
      reading = reading_same same
          (c.start-reader.ensures.reading c.args.first.now (g.P.Spill.state c.make.new.spill)
          (c.in_ok-out.ensures.kept _ c.requires.members));
      running = c.in_ok-count.ensures.running;
      out = there_same same begun.held;
      added = added_read (added_begun begun) same;
      members_apart = λ e. c.in_ok-out.ensures.apart _ c.requires.members
          (sym (ap (λ p. p.part) c.start-reader.ensures.source) ∙ e);
      points_apart = λ e. c.in_ok-out.ensures.apart _ c.requires.points (sym (ap (λ p. p.part) points) ∙ e);
      members = c.start-reader.ensures.source;
      points = points;
      few = c.in_ok-count.ensures.few;
      capacity = c.hold_points.ensures.capacity;
      holding = λ told. holding_now c.args.records.now.capacity c.hold_points.new.records.capacity 0 c.in_ok-count.count
          c.hold_points.new.records.loose (rows_left c.hold_points.new.runs) c.in_ok-runs.runs.reading.source
          c.hold_points.new.runs.reading.source c.hold_points.ensures.capacity c.hold_points.ensures.same_source
          (c.in_ok-count.ensures.holding
          (tells_as_before (g.P.Spill.state c.make.new.spill) (g.P.Spill.state c.start.new.spill) c.start.ensures.same
          ∙ c.make.ensures.same.tells
          ∙ told));
      climbs = λ told. subst (Climbs member_way) (sym c.start-reader.ensures.left) (c.requires.climbs told);
      above = λ told. from_zero member_way 0 refl c.start-reader.result.left;
      rows = λ told. (λ i. begun.empty i
          ++ paired_rows c.args.records.now.capacity c.args.points.now.rows (c.start-reader.ensures.left i));
      within = λ _ _. overrun_as_before (g.P.Spill.state c.make.new.spill) (g.P.Spill.state c.hold_points.new.spill)
          same ∙ c.make.ensures.same_overrun;
      members_within = rw c.start-reader.ensures.none_loaded (omega arith);
      points_within = points_within;
      first_room = refl;
      second_room = c.hold_points.ensures.same_room ∙ c.start.ensures.same_room;
      steps =
          let none : 21 * c.start-reader.result.loaded ≡ 0 = rw c.start-reader.ensures.none_loaded (omega arith) in
          omega (arith, none, c.in_ok-runs.ensures.steps, c.in_ok-count.ensures.steps);
    }

pub loop-member-preserved : goal.loop-member-preserved
loop-member-preserved g c =
    let I = c.loop-member.invariant in
    let room = c.args.records.now.capacity in
    let points = c.args.points.now.rows in
    let out = c.loop-member.out in
    let m = c.in-Some.member in
    let left = c.loop-member.reader.left in
    let now = c.next.new.self.left in
    let given : GivesNext (g.P.Spill.state c.loop-member.spill).tells left (Some m) now =
    subst (λ (o : Option MemberRow). GivesNext (g.P.Spill.state c.loop-member.spill).tells left o now) c.in-Some.is
    c.in_ok-member.ensures.next in
    let source : c.next.new.self.source ≡ c.args.members.now = c.in_ok-member.ensures.same_source ∙ I.members in
    let members_apart : c.next.new.self.source.part ≢ out.part =
    λ e. I.members_apart (ap (λ p. p.part) (sym c.in_ok-member.ensures.same_source) ∙ e) in
    let points_apart : c.pair_member.new.runs.reading.source.part ≢ out.part =
    λ e. I.points_apart (ap (λ p. p.part) (sym c.in_ok-pair_member.ensures.same_source) ∙ e) in
    let read = same_store I.same c.in_ok-member.ensures.same in
    let only = c.in_ok-pair_member.ensures.only in
    let mine : rows_of_member c.loop-member.records.capacity c.loop-member.runs.reading.source.rows m
    ≡ rows_of_member room points m
    = (λ i. rows_of_member (I.capacity i) (I.points i).rows m) in
    let points_within : 28 * c.pair_member.new.runs.reading.loaded
    ≤ 28 * length c.pair_member.new.runs.reading.source.rows
    = mul-le-mul_left 28 c.in_ok-pair_member.ensures.running.reading.some in
    record {
      same = same_trans read only.same;
      same_faults = c.in_ok-pair_member.ensures.same_faults ∙ c.in_ok-member.ensures.same_faults ∙ I.same_faults;
      reading = reading_kept out.part members_apart only.others only.same.tells c.in_ok-member.ensures.reading;
      running = c.in_ok-pair_member.ensures.running;
      out = c.in_ok-pair_member.ensures.out;
      added = added_now c.in_ok-pair_member.ensures.part
          (added_written (added_read I.added c.in_ok-member.ensures.same) only);
      members_apart = λ e. members_apart (e ∙ c.in_ok-pair_member.ensures.part);
      points_apart = λ e. points_apart (e ∙ c.in_ok-pair_member.ensures.part);
      members = source;
      points = c.in_ok-pair_member.ensures.same_source ∙ I.points;
      few = c.in_ok-pair_member.ensures.few;
      capacity = c.in_ok-pair_member.ensures.capacity ∙ I.capacity;
      holding = λ told. c.in_ok-pair_member.ensures.holding (read.tells ∙ told);
      climbs = λ told. (subst (Climbs member_way) given.1 (I.climbs told)).1;
      above = λ told.
          let first = told_row _ left m now given (I.same.tells ∙ told) in
          not_below member_way (member_way m) _ c.in_ok-pair_member.ensures.way now
          (subst (Climbs member_way) first (I.climbs told)).0;
      rows = λ told. paired_put room points m left now out.rows (paired_rows room points c.args.members.now.rows)
          (told_row _ left m now given (I.same.tells ∙ told)) (I.rows told) c.pair_member.new.out.rows
          (c.in_ok-pair_member.ensures.rows (read.tells ∙ told) ∙ ap (λ rs. out.rows ++ rs) mine);
      within = λ told fits. c.in_ok-pair_member.ensures.fits (read.tells ∙ told)
          (subst (λ (rs : List RelRow). 33 * length out.rows + 33 * length rs ≤ part_limit) (sym mine)
          (paired_fits room points m left now out.rows (paired_rows room points c.args.members.now.rows)
          (told_row _ left m now given (I.same.tells ∙ told)) (I.rows told) 33 part_limit fits))
          ∙ overrun_as_before (g.P.Spill.state c.loop-member.spill) (g.P.Spill.state c.next.new.spill)
          c.in_ok-member.ensures.same
          ∙ I.within told fits;
      members_within = c.in_ok-member.ensures.within;
      points_within = points_within;
      first_room = c.in_ok-member.ensures.same_room ∙ I.first_room;
      second_room = c.in_ok-pair_member.ensures.same_room ∙ I.second_room;
      steps = omega (arith, I.steps, c.in_ok-member.ensures.steps, c.in_ok-pair_member.ensures.steps);
    }

pub returns-in_err-pair_member-clause-within : goal.returns-in_err-pair_member-clause-within
returns-in_err-pair_member-clause-within g c told fits =
    let I = c.loop-member.invariant in
    let room = c.args.records.now.capacity in
    let points = c.args.points.now.rows in
    let out = c.loop-member.out in
    let m = c.in-Some.member in
    let left = c.loop-member.reader.left in
    let now = c.next.new.self.left in
    let given : GivesNext (g.P.Spill.state c.loop-member.spill).tells left (Some m) now =
    subst (λ (o : Option MemberRow). GivesNext (g.P.Spill.state c.loop-member.spill).tells left o now) c.in-Some.is
    c.in_ok-member.ensures.next in
    let mine : rows_of_member c.loop-member.records.capacity c.loop-member.runs.reading.source.rows m
    ≡ rows_of_member room points m
    = (λ i. rows_of_member (I.capacity i) (I.points i).rows m) in
    c.pair_member.ensures.fits ((same_store I.same c.next.ensures.same).tells ∙ told)
    (subst (λ (rs : List RelRow). 33 * length out.rows + 33 * length rs ≤ part_limit) (sym mine)
    (paired_fits room points m left now out.rows (paired_rows room points c.args.members.now.rows)
    (told_row _ left m now given (I.same.tells ∙ told)) (I.rows told) 33 part_limit fits))
    ∙ overrun_as_before (g.P.Spill.state c.loop-member.spill) (g.P.Spill.state c.next.new.spill) c.next.ensures.same
    ∙ I.within told fits

pub returns-clause-rows : goal.returns-clause-rows
returns-clause-rows g c told =
    let I = c.loop-member.invariant in
    let none = nothing_left _ c.loop-member.reader.left c.in_ok-member.field-0 c.next.new.self.left
    c.in_ok-member.ensures.next c.in_default.is in
    ap (λ (p : Part RelRow). p.rows) c.finish.ensures
    ∙ paired_whole c.args.records.now.capacity c.args.points.now.rows c.loop-member.reader.left c.loop-member.out.rows
    (paired_rows c.args.records.now.capacity c.args.points.now.rows c.args.members.now.rows) none (I.rows told)
