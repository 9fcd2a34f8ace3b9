use Rattle.tile_body.proofs.Wholes.{double-is, drawn-size}
use Rattle.tile_body.proofs.way.drawn_of.Goals as goal

pub returns : goal.returns
returns c = record {
  corner = c.requires.corner;
  bits = c.bits_of.ensures;
  label = c.label_of.ensures.label;
  double = double-is c.args.tile.now c.args.view.now c.args.corner c.measure-single.result.0 c.measure-single.result.1
      c.requires.corner c.measure-single.ensures.single c.measure-single.ensures.double;
  sized = record {
    small = c.label_of.ensures.small;
    blocks = c.count_blocks-counts.ensures.blocks;
    size = drawn-size c.args.view.now c.args.corner c.count_blocks-counts.result.size c.measure-single.result.0
        c.measure-single.result.1 c.min.result c.count_blocks-counts.ensures.size c.measure-single.ensures.single
        c.measure-single.ensures.double c.min.ensures;
  };
}
