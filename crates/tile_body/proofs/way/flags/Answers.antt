use Rattle.std.proofs.Common.{◌≡◌, ◌∙◌, ap, arith}
use Rattle.std.specs.Prelude.{is_some, nat_lt}
use Rattle.mf_rows.specs.Records.{text_in}
use Rattle.mf_rows.specs.declared.head.TextSlot.TheVariants.{Name, House, Reference}
use Rattle.map_model.specs.Layout.{flag}
use Rattle.tile_body.proofs.way.flags.Goals as goal

pub returns : goal.returns
returns c =
    let name : c.bit.result ≡ flag (is_some (text_in c.args.view.now.texts Name)) 0x80 =
    c.bit.ensures ∙ ap (λ b. flag b 0x80) c.has_text.ensures in
    let house : c.bit-2.result ≡ flag (is_some (text_in c.args.view.now.texts House)) 0x40 =
    c.bit-2.ensures ∙ ap (λ b. flag b 0x40) c.has_text-2.ensures in
    let reference : c.bit-3.result ≡ flag (is_some (text_in c.args.view.now.texts Reference)) 0x20 =
    c.bit-3.ensures ∙ ap (λ b. flag b 0x20) c.has_text-3.ensures in
    let label : c.bit-4.result ≡ flag (is_some c.args.drawn.now.label) 0x10 =
    c.bit-4.ensures ∙ ap (λ b. flag b 0x10) c.is_some.ensures in
    let blocks : c.bit-5.result ≡ flag (nat_lt 1 c.args.drawn.now.blocks) 0x08 = c.bit-5.ensures in
    let double : c.bit-6.result ≡ flag c.args.drawn.now.double 0x04 = c.bit-6.ensures in
    omega (arith, name, house, reference, label, blocks, double)
