use Rattle.ring_assembly.proofs.Products.{product-fits, product-is}
use Rattle.ring_assembly.proofs.inside.product.Goals as goal

pub overflow_mul-result : goal.overflow_mul-result
overflow_mul-result c =
    product-fits c.args.a c.args.b c.from.result c.from-2.result c.ranges.a c.ranges.b c.from.ensures c.from-2.ensures

pub returns : goal.returns
returns c =
    product-is c.args.a c.args.b c.from.result c.from-2.result c.ranges.a c.ranges.b c.from.ensures c.from-2.ensures
