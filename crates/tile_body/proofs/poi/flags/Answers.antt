use Rattle.std.proofs.Common.{◌≡◌, ◌∙◌, ◌+◌, ap}
use Rattle.std.specs.Prelude.{is_some}
use Rattle.mf_rows.specs.declared.head.Head.{Head}
use Rattle.mf_rows.specs.declared.head.TextSlot.TheVariants.{Name, House}
use Rattle.mf_rows.specs.Records.{text_in, candidate_told}
use Rattle.mf_rows.specs.Shapes.{feature_told}
use Rattle.map_model.specs.Layout.{flag}
use Rattle.map_model.specs.TileBytes.{poi_fields}
use Rattle.tile_body.proofs.Bodies.{and-none}
use Rattle.tile_body.proofs.poi.flags.Goals as goal

pub returns : goal.returns
unfolding poi_fields feature_told candidate_told
returns c =
    let name : c.bit.result ≡ flag (is_some (text_in c.args.view.now.texts Name)) 0x80 =
    c.bit.ensures ∙ ap (λ b. flag b 0x80) c.has_text.ensures in
    let house : c.bit-2.result ≡ flag (is_some (text_in c.args.view.now.texts House)) 0x40 =
    c.bit-2.ensures ∙ ap (λ b. flag b 0x40) c.has_text-2.ensures in
    let height : c.bit-3.result ≡ flag (is_some c.args.view.now.head.height) 0x20 =
    c.bit-3.ensures ∙ ap (λ b. flag b 0x20) (c.is_some.ensures ∙ ap (λ (h : Head). is_some h.height) c.head.ensures) in
    (λ i. name i + house i + height i) ∙ and-none _
