use Rattle.std.proofs.Common.{◌≡◌, length, sym, subst}
use Rattle.mf_base.proofs.ByteLaws.{length-big_endian}
use Rattle.tile_body.specs.Tags.{value_told}
use Rattle.tile_body.proofs.tags.size_value.Goals as goal

pub returns-in-Byte : goal.returns-in-Byte
returns-in-Byte c = record {
  size = subst (λ v. 1 ≡ length (value_told c.args.view.now.texts c.args.at v)) (sym c.in-Byte.is)
      (sym (length-big_endian 1 _));
}

pub returns-in-Short : goal.returns-in-Short
returns-in-Short c = record {
  size = subst (λ v. 2 ≡ length (value_told c.args.view.now.texts c.args.at v)) (sym c.in-Short.is)
      (sym (length-big_endian 2 _));
}

pub returns-in-Int : goal.returns-in-Int
returns-in-Int c = record {
  size = subst (λ v. 4 ≡ length (value_told c.args.view.now.texts c.args.at v)) (sym c.in-Int.is)
      (sym (length-big_endian 4 _));
}
