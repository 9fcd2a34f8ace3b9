use Rattle.std.proofs.Common.{◌≡◌, ◌≤◌, ◌<◌, ◌^◌, [], ◌∷◌, length, Err, sym, ap, subst, ◌∙◌, arith}
use Rattle.std.specs.Prelude.{flat_map}
use Rattle.std.specs.Result.{IsErrAnd}
use Rattle.mf_rows.specs.Kinds.{shape_kind}
use Rattle.mf_rows.specs.declared.kinds.ShapeRow.{ShapeRow}
use Rattle.spill_parts.specs.Parts.{Part, piece_of, HasJust}
use Rattle.spill_parts.specs.Handed.{ingested_pieces, record_rows}
use Rattle.spill_parts.specs.Shaped.{AreShapes}
use Rattle.feature_model.specs.Features.{features}
use Rattle.spill_parts.proofs.JustParts.{just-more, just-still}
use Rattle.mf_shape.specs.declared.fault.ShapeFault.{ShapeFault}
use Rattle.mf_shape.proofs.OfNodes.{each-spelled, fault-is, largest-is, shapes-are, counts-are, shown-are, no-fault}
use Rattle.mf_shape.proofs.OfNodes.{rows-within}
use Rattle.map_model.specs.MapFile.{shape_size}
use Rattle.mf_shape.proofs.shape.shape.Goals as goal

pub forget_parts-requires : goal.forget_parts-requires
forget_parts-requires g c = record {
  just = (
    piece_of shape_kind c.put_nodes.new.out ∷ [],
    just-still [] (piece_of shape_kind c.in_ok-out.out)
        (piece_of shape_kind c.put_nodes.new.out) c.put_nodes.ensures.part c.put_nodes.ensures.only
        c.in_ok-counts.ensures.held (ingested_pieces c.args.found)
        (just-more shape_kind c.in_ok-out.out c.in_ok-out.ensures.made c.make.ensures.same c.in_ok-out.ensures.kept
        c.in_ok-out.ensures.apart (ingested_pieces c.args.found) c.requires.just),
  );
}

pub returns-in_err-counts-clause-limit : goal.returns-in_err-counts-clause-limit
returns-in_err-counts-clause-limit g c f mapping entities is none told err =
    let all = is.rows.node_candidates in
    fault-is mapping none entities all.records all.told c.args.desk.now.records.capacity
    ∙ c.put_nodes.ensures.limit f
    (c.in_err-counts.was ∙ ap Err (sym (subst (λ r. IsErrAnd r (λ (e : ShapeFault). e ≡ c.in_err-counts.field-0.0)) err
    c.from_residual-in_err-counts.ensures.1))) (c.make.ensures.same.tells ∙ told) all.records
    (each-spelled mapping entities all.records all.told) all.spelled

pub returns-clause-features : goal.returns-clause-features
returns-clause-features g c mapping entities is none told =
    let all = is.rows.node_candidates in
    let capacity = c.args.desk.now.records.capacity in
    let out = c.put_nodes.new.out in
    let made = c.in_ok-counts.ensures.numbered (c.make.ensures.same.tells ∙ told) all.records
    (each-spelled mapping entities all.records all.told) all.spelled in
    let counts = counts-are mapping none entities all.records all.told c.in_ok-counts.counts made.1 in
    let few : length (flat_map record_rows all.records) < 2 ^ 63 =
    subst (λ rows. length rows < 2 ^ 63) all.spelled (omega (arith, c.put_nodes.ensures.small)) in
    record {
      no_fault = no-fault mapping none entities all.records all.told capacity out.rows made.0;
      node_count = is.node_count;
      way_count = is.way_count;
      relation_count = is.relation_count;
      count = counts.0;
      without = counts.1;
      greatest = made.1.largest ∙ sym (largest-is mapping none entities all.records all.told);
      shapes = subst (λ (p : Part ShapeRow). AreShapes capacity (features mapping entities) p.rows)
          (sym c.finish.ensures)
          (shapes-are mapping none entities all.records all.told capacity out.rows made.0 few);
      shown = shown-are mapping entities is.input;
    }

pub returns-clause-just : goal.returns-clause-just
returns-clause-just g c =
    subst (λ (p : Part ShapeRow). HasJust (piece_of shape_kind p ∷ []) (g.P.Spill.state c.forget_parts.new.spill))
    (sym c.finish.ensures)
    (c.forget_parts.ensures.just (piece_of shape_kind c.put_nodes.new.out ∷ [])
    (just-still [] (piece_of shape_kind c.in_ok-out.out)
    (piece_of shape_kind c.put_nodes.new.out) c.put_nodes.ensures.part c.put_nodes.ensures.only
    c.in_ok-counts.ensures.held (ingested_pieces c.args.found)
    (just-more shape_kind c.in_ok-out.out c.in_ok-out.ensures.made c.make.ensures.same c.in_ok-out.ensures.kept
    c.in_ok-out.ensures.apart (ingested_pieces c.args.found) c.requires.just)))

pub returns-in_err-counts-clause-size : goal.returns-in_err-counts-clause-size
returns-in_err-counts-clause-size g c mapping entities is none =
    let all = is.rows.node_candidates in
    let within : length (flat_map record_rows all.records) ≤ shape_size mapping entities =
    rows-within mapping none entities all.records all.told in
    omega (arith, within, ap length all.spelled, c.put_nodes.ensures.steps)

pub returns-clause-size : goal.returns-clause-size
returns-clause-size g c mapping entities is none =
    let all = is.rows.node_candidates in
    let within : length (flat_map record_rows all.records) ≤ shape_size mapping entities =
    rows-within mapping none entities all.records all.told in
    omega (arith, within, ap length all.spelled, c.put_nodes.ensures.steps)
