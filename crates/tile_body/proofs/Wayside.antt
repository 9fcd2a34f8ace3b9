-- What is told of a way beside its data blocks: its bits and its label.
use Rattle.std.proofs.Common.{◌≡◌, ℕ, refl, sym, ap, ◌∙◌, Some, None, Bool, true, false}
use Rattle.std.specs.Prelude.{option_map, cond, ◌&&◌}
use Rattle.mf_base.specs.declared.place.Place.{Place}
use Rattle.mf_base.specs.declared.place.Rect.{Rect}
use Rattle.mf_base.specs.declared.tile.TilePlace.{TilePlace}
use Rattle.map_model.specs.Rectangles.{rings_of, rect_of}
use Rattle.map_model.specs.Bitmap.{rect_bits, sub_tile_bits}
use Rattle.map_model.specs.Labels.{same_place, first_ring_is_closed, middle, label_place}
use Rattle.map_model.specs.Layout.{step, first_of_blocks}
use Rattle.mf_rows.specs.Records.{Record, candidate_told}
use Rattle.mf_rows.specs.Shapes.{feature_told}
use Rattle.way_delta.specs.declared.steps.Step.{Step}
use Rattle.way_delta.specs.Steps.{shown}
use Rattle.way_delta.specs.Rings.{blocks_told}
use Rattle.tile_body.specs.Ways.{label_step}

pub bits-coast : (r : Record) (tile : TilePlace) → r.head.coast ≡ true
    → 65535 ≡ sub_tile_bits (feature_told r) tile
unfolding sub_tile_bits feature_told candidate_told
bits-coast r tile is =
    ap (λ b. cond b 65535 (rect_bits (rect_of (feature_told r)) tile.interval.base tile.x tile.y)) (sym is)

pub bits-rect : (r : Record) (tile : TilePlace) (rect : Rect) (bits : ℕ) → r.head.coast ≡ false
    → rect ≡ rect_of (feature_told r) → bits ≡ rect_bits rect tile.interval.base tile.x tile.y
    → bits ≡ sub_tile_bits (feature_told r) tile
unfolding sub_tile_bits feature_told candidate_told
bits-rect r tile rect bits is same e =
    e ∙ ap (λ q. rect_bits q tile.interval.base tile.x tile.y) same
    ∙ ap (λ b. cond b 65535 (rect_bits (rect_of (feature_told r)) tile.interval.base tile.x tile.y)) (sym is)

-- ---- the label

label-by : (r : Record) (mark closed : Bool) → r.head.label ≡ mark
    → first_ring_is_closed (rings_of (feature_told r)) ≡ closed
    → label_step (feature_told r) ≡ option_map (step (first_of_blocks (blocks_told r)))
    (cond (mark && closed) (Some (middle (rect_of (feature_told r)))) None)
unfolding label_place feature_told candidate_told
label-by r mark closed is_marked is_closed =
    λ i. option_map (step (first_of_blocks (blocks_told r)))
    (cond (is_marked i && is_closed i) (Some (middle (rect_of (feature_told r)))) None)

pub no-mark : (r : Record) → r.head.label ≡ false → None ≡ label_step (feature_told r)
no-mark r is = sym (label-by r false (first_ring_is_closed (rings_of (feature_told r))) is refl)

pub not-closed : (r : Record) (first last : Place) → r.head.label ≡ true
    → first_ring_is_closed (rings_of (feature_told r)) ≡ same_place first last → same_place first last ≡ false
    → None ≡ label_step (feature_told r)
not-closed r first last is closed is_not = sym (label-by r true false is (closed ∙ is_not))

pub labelled : (r : Record) (first last : Place) (rect : Rect) (s : Step) → r.head.label ≡ true
    → first_ring_is_closed (rings_of (feature_told r)) ≡ same_place first last → same_place first last ≡ true
    → first ≡ first_of_blocks (blocks_told r) → rect ≡ rect_of (feature_told r)
    → shown s ≡ step first (middle rect) → Some (shown s) ≡ label_step (feature_told r)
labelled r first last rect s is closed is_same first_is rect_is step_is =
    ap Some (step_is ∙ (λ i. step (first_is i) (middle (rect_is i)))) ∙ sym (label-by r true true is (closed ∙ is_same))
