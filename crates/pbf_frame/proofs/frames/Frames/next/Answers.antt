use Rattle.mf_edge.specs.Stream.{at}
use Rattle.pbf_frame.proofs.NextExact.{is-next, leaves-blobs, end-passes, passes-is_end}
use Rattle.pbf_frame.proofs.frames.Frames.next.Goals as goal

pub returns-clause-next : goal.returns-clause-next
returns-clause-next g c all told =
    is-next _ _ c.next_blob.new.block.bytes all c.next_blob.result c.next_blob.ensures.takes told

pub returns-clause-in_order : goal.returns-clause-in_order
returns-clause-in_order g c all told some =
    leaves-blobs _ _ c.next_blob.new.block.bytes all c.next_blob.result c.next_blob.ensures.takes told some

pub returns-clause-end : goal.returns-clause-end
returns-clause-end g c all told some = (
  λ none. end-passes _ _ c.next_blob.new.block.bytes all c.next_blob.result c.next_blob.ensures.takes told none,
  λ passes. passes-is_end c.next_blob.new.block.bytes (at g.S.Source.state c.args.src.now).offset all c.next_blob.result
      (is-next _ _ c.next_blob.new.block.bytes all c.next_blob.result c.next_blob.ensures.takes told) some passes,
)
