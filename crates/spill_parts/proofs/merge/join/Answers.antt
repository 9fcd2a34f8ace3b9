use Rattle.std.proofs.Common.{◌≡◌, ◌≢◌, ◌*◌, ◌≤◌, ◌++◌, List, length, sym, ap, subst, ◌∙◌, arith, Option, Some}
use Rattle.std.proofs.Common.{Result, Ok, Err, refl}
use Rattle.std.proofs.Common.{append_assoc}
use Rattle.std.proofs.lemmas.List.{append-nil}
use Rattle.std.specs.Prelude.{◌==◌, find, OnErr}
use Rattle.mf_edge.specs.Spill.{SpillState, part_limit}
use Rattle.spill_parts.specs.Parts.{Part, GivesNext}
use Rattle.spill_parts.specs.Join.{joined_rows, one_joined, Climbs}
use Rattle.spill_parts.proofs.Kept.{reading_same, reading_kept, there_same, same_store, same_trans}
use Rattle.spill_parts.proofs.Added.{added_begun, added_read, added_written, added_now, one_more}
use Rattle.spill_parts.proofs.Looked.{looking_same, from_zero, not_below, joined_first, joined_none}
use Rattle.spill_parts.proofs.Looked.{told_row, nothing_left}
use Rattle.spill_parts.proofs.Joined.{one_of_left}
use Rattle.spill_parts.proofs.Fitting.{joined_fits}
use Rattle.spill_parts.proofs.merge.join.Goals as goal

pub loop-row-init : goal.loop-row-init
loop-row-init g c =
    let begun = c.in_ok-out.ensures.made in
    let overrun = ap (λ (s : SpillState). s.is_overrun) c.start.ensures.same ∙ c.make.ensures.same_overrun in
    record {
      same = same_store c.make.ensures.same c.start.ensures.same;
      same_faults = c.in_ok-lookup.ensures.same_faults ∙ c.in_ok-out.ensures.same_faults;
      reading = reading_same c.start.ensures.same
          (c.start-reader.ensures.reading c.args.first.now (g.P.Spill.state c.make.new.spill)
          (c.in_ok-out.ensures.kept _ c.requires.refs));
      looking = c.in_ok-lookup.ensures.looking;
      held = there_same c.start.ensures.same begun.held;
      added = added_read (added_begun begun) c.start.ensures.same;
      refs_apart = λ e. c.in_ok-out.ensures.apart _ c.requires.refs
          (sym (ap (λ p. p.part) c.start-reader.ensures.source) ∙ e);
      nodes_apart = λ e. c.in_ok-out.ensures.apart _ c.requires.nodes
          (sym (ap (λ p. p.part) c.in_ok-lookup.ensures.source) ∙ e);
      nodes = c.in_ok-lookup.ensures.source;
      climbs = λ told. subst (Climbs g.R.Keyed.key_of) (sym c.start-reader.ensures.left) (c.requires.climbs told);
      asked = λ told. from_zero g.R.Keyed.key_of _ c.in_ok-lookup.ensures.asked c.start-reader.result.left;
      rows = λ told. (λ i. begun.empty i
          ++ joined_rows g.R.Keyed.key_of g.N.Keyed.key_of g.O.JoinOf.join_of c.args.nodes.now.rows
          (c.start-reader.ensures.left i));
      few = omega (arith, ap length begun.empty, ap length c.start-reader.ensures.left);
      within_joined = λ _ _. overrun;
      within = λ _. overrun;
      refs = c.start-reader.ensures.source;
      refs_within = rw c.start-reader.ensures.none_loaded (omega arith);
      nodes_within = subst (λ (p : Part g.row.N.Denot). g.N.RowKind.kind.width * c.in_ok-lookup.lookup.reading.loaded
          ≤ g.N.RowKind.kind.width * length p.rows) (sym c.in_ok-lookup.ensures.source) c.in_ok-lookup.ensures.within;
      first_room = refl;
      second_room = c.in_ok-lookup.ensures.same_room;
      steps =
          let none : g.R.RowKind.kind.width * c.start-reader.result.loaded ≡ 0 =
          rw c.start-reader.ensures.none_loaded (omega arith) in
          omega (arith, none, c.in_ok-lookup.ensures.steps);
    }

pub join_row-requires-clause-looking : goal.join_row-requires-clause-looking
join_row-requires-clause-looking g c = looking_same c.next.ensures.same c.loop-row.invariant.looking

pub loop-row-preserved : goal.loop-row-preserved
loop-row-preserved g c =
    let I = c.loop-row.invariant in
    let out = c.loop-row.out in
    let ref_key = g.R.Keyed.key_of in
    let node_key = g.N.Keyed.key_of in
    let J : List g.row.R.Denot → List g.row.O.Denot =
    joined_rows ref_key node_key g.O.JoinOf.join_of c.args.nodes.now.rows in
    let refs_source : c.next.new.self.source ≡ c.args.refs.now = c.in_ok-row.ensures.same_source ∙ I.refs in
    let refs_apart : c.next.new.self.source.part ≢ out.part =
    λ e. I.refs_apart (ap (λ p. p.part) (sym c.in_ok-row.ensures.same_source) ∙ e) in
    let nodes_apart : c.join_row.new.lookup.reading.source.part ≢ out.part =
    λ e. I.nodes_apart (ap (λ p. p.part) (sym c.in_ok-join_row.ensures.same_source) ∙ e) in
    let given : GivesNext (g.P.Spill.state c.loop-row.spill).tells c.loop-row.reader.left (Some c.in-Some.row)
    c.next.new.self.left
    = subst (λ (o : Option g.row.R.Denot). GivesNext (g.P.Spill.state c.loop-row.spill).tells c.loop-row.reader.left o
    c.next.new.self.left) c.in-Some.is c.in_ok-row.ensures.next in
    let read = same_store I.same c.in_ok-row.ensures.same in
    let one = one_joined g.O.JoinOf.join_of c.in-Some.row
    (find (λ n. node_key n == ref_key c.in-Some.row) c.args.nodes.now.rows) in
    let width = g.O.RowKind.kind.width in
    let overrun = ap (λ (s : SpillState). s.is_overrun) c.in_ok-row.ensures.same in
    record {
      same = same_trans read c.in_ok-join_row.ensures.only.same;
      same_faults = c.in_ok-join_row.ensures.same_faults ∙ c.in_ok-row.ensures.same_faults ∙ I.same_faults;
      reading = reading_kept out.part refs_apart c.in_ok-join_row.ensures.only.others
          c.in_ok-join_row.ensures.only.same.tells c.in_ok-row.ensures.reading;
      looking = c.in_ok-join_row.ensures.looking;
      held = c.in_ok-join_row.ensures.out;
      added = added_now c.in_ok-join_row.ensures.part
          (added_written (added_read I.added c.in_ok-row.ensures.same) c.in_ok-join_row.ensures.only);
      refs_apart = λ e. refs_apart (e ∙ c.in_ok-join_row.ensures.part);
      nodes_apart = λ e. nodes_apart (e ∙ c.in_ok-join_row.ensures.part);
      nodes = c.in_ok-join_row.ensures.same_source ∙ I.nodes;
      climbs = λ told. (subst (Climbs ref_key) given.1 (I.climbs told)).1;
      asked = λ told.
          let first = told_row _ c.loop-row.reader.left c.in-Some.row c.next.new.self.left given (I.same.tells ∙ told)
          in
          not_below ref_key (ref_key c.in-Some.row) _ c.in_ok-join_row.ensures.asked c.next.new.self.left
          (subst (Climbs ref_key) first (I.climbs told)).0;
      rows = λ told.
          let first = told_row _ c.loop-row.reader.left c.in-Some.row c.next.new.self.left given (I.same.tells ∙ told)
          in
          ap (λ rs. rs ++ J c.next.new.self.left)
          (c.in_ok-join_row.ensures.rows (read.tells ∙ told)
          ∙ ap (λ (p : Part g.row.N.Denot). out.rows ++ one_joined g.O.JoinOf.join_of c.in-Some.row
          (find (λ n. node_key n == ref_key c.in-Some.row) p.rows)) I.nodes)
          ∙ append_assoc out.rows one (J c.next.new.self.left)
          ∙ ap (λ rs. out.rows ++ rs)
          (sym (joined_first ref_key node_key g.O.JoinOf.join_of c.args.nodes.now.rows c.in-Some.row
          c.next.new.self.left))
          ∙ (λ i. out.rows ++ J (sym first i))
          ∙ I.rows told;
      few = omega (arith, I.few, ap length given.1, c.in_ok-join_row.ensures.few);
      within_joined = λ told fits. c.in_ok-join_row.ensures.fits_joined (read.tells ∙ told)
          (joined_fits ref_key node_key g.O.JoinOf.join_of width part_limit c.loop-row.lookup.reading.source
          c.args.nodes.now I.nodes (g.P.Spill.state c.loop-row.spill).tells c.loop-row.reader.left c.in-Some.row
          c.next.new.self.left given (I.same.tells ∙ told) c.args.refs.now.rows out.rows (I.rows told) fits)
          ∙ overrun
          ∙ I.within_joined told fits;
      within = λ fits. c.in_ok-join_row.ensures.fits
          (one_of_left width (length out.rows) (length c.next.new.self.left) (length c.args.refs.now.rows) part_limit
          (omega (arith, I.few, ap length given.1)) fits)
          ∙ overrun
          ∙ I.within fits;
      refs = refs_source;
      refs_within = c.in_ok-row.ensures.within;
      nodes_within = c.in_ok-join_row.ensures.within;
      first_room = c.in_ok-row.ensures.same_room ∙ I.first_room;
      second_room = c.in_ok-join_row.ensures.same_room ∙ I.second_room;
      steps = omega (arith, I.steps, c.in_ok-row.ensures.steps, c.in_ok-join_row.ensures.steps);
    }

pub returns-clause-rows : goal.returns-clause-rows
returns-clause-rows g c told =
    let I = c.loop-row.invariant in
    let out = c.loop-row.out in
    let J : List g.row.R.Denot → List g.row.O.Denot =
    joined_rows g.R.Keyed.key_of g.N.Keyed.key_of g.O.JoinOf.join_of c.args.nodes.now.rows in
    let none = nothing_left _ c.loop-row.reader.left c.in_ok-row.field-0 c.next.new.self.left c.in_ok-row.ensures.next
    c.in_default.is in
    ap (λ (p : Part g.row.O.Denot). p.rows) c.finish.ensures
    ∙ sym (append-nil out.rows)
    ∙ ap (λ rs. out.rows ++ rs)
    (sym (joined_none g.R.Keyed.key_of g.N.Keyed.key_of g.O.JoinOf.join_of c.args.nodes.now.rows))
    ∙ (λ i. out.rows ++ J (sym none i))
    ∙ I.rows told

always : {T E A : Type 0} (answer : Result T E) → A → OnErr answer A
always (Ok _) is = tt
always (Err _) is = is

pub returns-in_err-join_row-clause-at_most_one : goal.returns-in_err-join_row-clause-at_most_one
returns-in_err-join_row-clause-at_most_one g c =
    always c.from_residual-in_err-join_row.result
    (one_more (added_written (added_read c.loop-row.invariant.added c.next.ensures.same) c.join_row.ensures.only))

pub returns-in_err-join_row-clause-within_joined : goal.returns-in_err-join_row-clause-within_joined
returns-in_err-join_row-clause-within_joined g c told fits =
    let I = c.loop-row.invariant in
    let given : GivesNext (g.P.Spill.state c.loop-row.spill).tells c.loop-row.reader.left (Some c.in-Some.row)
    c.next.new.self.left
    = subst (λ (o : Option g.row.R.Denot). GivesNext (g.P.Spill.state c.loop-row.spill).tells c.loop-row.reader.left o
    c.next.new.self.left) c.in-Some.is c.in_ok-row.ensures.next in
    c.join_row.ensures.fits_joined ((same_store I.same c.next.ensures.same).tells ∙ told)
    (joined_fits g.R.Keyed.key_of g.N.Keyed.key_of g.O.JoinOf.join_of g.O.RowKind.kind.width part_limit
    c.loop-row.lookup.reading.source c.args.nodes.now I.nodes (g.P.Spill.state c.loop-row.spill).tells
    c.loop-row.reader.left c.in-Some.row c.next.new.self.left given (I.same.tells ∙ told) c.args.refs.now.rows
    c.loop-row.out.rows (I.rows told) fits)
    ∙ ap (λ (s : SpillState). s.is_overrun) c.next.ensures.same
    ∙ I.within_joined told fits
