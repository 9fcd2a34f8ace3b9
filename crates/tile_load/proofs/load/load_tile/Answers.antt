use Rattle.std.proofs.Common.{◌≡◌, false, refl, sym, ap, ◌∙◌, arith}
use Rattle.mf_rows.specs.Desks.{Desktop}
use Rattle.tile_load.specs.Loading.{holds_row_of}
use Rattle.tile_load.proofs.Tile.{none-read, all-read}
use Rattle.tile_load.proofs.load.load_tile.Goals as goal

pub loop-loaded-init : goal.loop-loaded-init
loop-loaded-init g c = record {
  same = refl;
  same_faults = refl;
  reading = c.requires.reading;
  source = refl;
  read = λ told list later left. none-read _ list c.args.tile.now later _ c.clear.new.self.records
      (ap (λ (d : Desktop). d.records) c.clear.ensures) left;
  fewer = omega arith;
  loose = ap (λ (d : Desktop). d.loose) c.clear.ensures;
  steps = refl;
  capacity = ap (λ (d : Desktop). d.capacity) c.clear.ensures;
  room = refl;
}

pub returns-clause-loaded : goal.returns-clause-loaded
returns-clause-loaded g c told list later left =
    let off : holds_row_of c.args.tile.now c.loop-loaded.loaded.next ≡ false =
    sym c.is_of_tile.ensures ∙ c.loop-loaded-test.false in
    all-read c.args.records.now.capacity list c.args.tile.now later c.loop-loaded.loaded c.loop-loaded.reader.left
    c.loop-loaded.records c.loop-loaded.invariant.capacity off (c.loop-loaded.invariant.read told list later left)
