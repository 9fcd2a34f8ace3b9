use Rattle.std.proofs.Common.{◌≡◌, ◌∙◌, ◌-◌, ap, rules, Err}
use Rattle.osm_model.specs.Frames.{raw_size_fault}
use Rattle.pbf_frame.specs.BlobSteps.{raw_shown}
use Rattle.pbf_frame.proofs.MessageSteps.{raw-wire, raw-compressed, raw-no_data, raw-size, raw-ok}
use Rattle.pbf_frame.proofs.blob_raw.raw_place.Goals as goal

pub returns-in-Err-clause-tells : goal.returns-in-Err-clause-tells
returns-in-Err-clause-tells c = raw-wire c.args.blob.now _ c.in-Err.ensures.exact

pub returns-in-Some-clause-tells : goal.returns-in-Some-clause-tells
returns-in-Some-clause-tells c =
    raw-compressed c.args.blob.now _ c.in-Some.field c.in_default.ensures.message c.in-Some.ensures

pub returns-in_default-bytes_place-clause-tells : goal.returns-in_default-bytes_place-clause-tells
returns-in_default-bytes_place-clause-tells c =
    raw-no_data c.args.blob.now _ c.in_default.ensures.message c.in_default-compressed_in.ensures
    c.in_default-bytes_place.ensures.found

pub returns-in_err-check_raw_size-clause-tells : goal.returns-in_err-check_raw_size-clause-tells
returns-in_err-check_raw_size-clause-tells c =
    let e : c.from_residual.result ≡ Err c.in_err-check_raw_size.field-0.0 = search rules in
    let wrong = c.in_err-check_raw_size.ensures {u = tt} in
    ap (raw_shown c.args.blob.now) e
    ∙ raw-size c.args.blob.now _ c.in-Some-bytes_place.start c.in-Some-bytes_place.end _
    c.in-Some-bytes_place.ensures.within.0 c.in-Some-bytes_place.ensures.within.1
    c.in_default.ensures.message c.in_default-compressed_in.ensures c.in-Some-bytes_place.ensures.found (wrong
    ∙ ap (λ n. raw_size_fault n (c.in-Some-bytes_place.end - c.in-Some-bytes_place.start)) c.number_in.ensures)

pub returns-clause-tells : goal.returns-clause-tells
returns-clause-tells c =
    let right = c.in_ok-check_raw_size.ensures {u = tt} in
    raw-ok c.args.blob.now _ c.in-Some-bytes_place.start c.in-Some-bytes_place.end
    c.in-Some-bytes_place.ensures.within.0 c.in-Some-bytes_place.ensures.within.1
    c.in_default.ensures.message c.in_default-compressed_in.ensures c.in-Some-bytes_place.ensures.found (right
    ∙ ap (λ n. raw_size_fault n (c.in-Some-bytes_place.end - c.in-Some-bytes_place.start)) c.number_in.ensures)
