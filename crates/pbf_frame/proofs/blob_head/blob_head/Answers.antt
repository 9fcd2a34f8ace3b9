use Rattle.pbf_frame.proofs.MessageSteps.{head-wire, head-no_type, head-no_size, head-blob_size, head-ok}
use Rattle.pbf_frame.proofs.blob_head.blob_head.Goals as goal

pub returns-in-Err-clause-tells : goal.returns-in-Err-clause-tells
returns-in-Err-clause-tells c = head-wire c.args.head.now _ c.in-Err.ensures.exact

pub returns-in_default-bytes_place-clause-tells : goal.returns-in_default-bytes_place-clause-tells
returns-in_default-bytes_place-clause-tells c =
    head-no_type c.args.head.now _ c.in_default.ensures.message c.in_default-bytes_place.ensures.found

pub returns-in_default-number_in-clause-tells : goal.returns-in_default-number_in-clause-tells
returns-in_default-number_in-clause-tells c =
    head-no_size c.args.head.now _ _ c.in_default.ensures.message c.in-Some.ensures.found c.in_default-number_in.ensures

pub returns-then-size-gt-BLOB_LIMIT-clause-tells : goal.returns-then-size-gt-BLOB_LIMIT-clause-tells
returns-then-size-gt-BLOB_LIMIT-clause-tells c =
    head-blob_size c.args.head.now _ _ c.in-Some-number_in.size c.in_default.ensures.message c.in-Some.ensures.found
    c.in-Some-number_in.ensures c.if-size-gt-BLOB_LIMIT.true

pub returns-clause-tells : goal.returns-clause-tells
returns-clause-tells c = (
  _,
  c.kind_of.ensures,
  head-ok c.args.head.now _ _ c.in-Some-number_in.size c.in_default.ensures.message c.in-Some.ensures.found
      c.in-Some-number_in.ensures c.if-size-gt-BLOB_LIMIT.false,
)
