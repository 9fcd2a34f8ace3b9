use Rattle.std.proofs.Common.{◌≡◌, ◌∙◌, ◌++◌, ◌∷◌, [], rules, length}
use Rattle.std.proofs.lemmas.List.{nil_from_length}
use Rattle.ring_assembly.proofs.RowBytes.{reversed-more, reversed-room, reversed-all}
use Rattle.ring_assembly.proofs.rows.lay_reversed.Goals as goal

pub loop-last-preserved : goal.loop-last-preserved
loop-last-preserved c =
    let is : c.loop-last.left.now ≡ c.in-Some.before.now ++ c.in-Some.last.now ∷ [] = search rules in
    record {
      rows = reversed-more c.args.out.now c.loop-last.out c.args.units.now c.loop-last.left.now
          c.loop-last.invariant.rows c.lay_one.new.out c.in-Some.before.now c.in-Some.last.now is c.lay_one.ensures;
      whole = c.lay_one.ensures.whole;
      room = reversed-room c.args.out.now c.loop-last.out c.args.units.now c.loop-last.left.now
          c.loop-last.invariant.rows c.lay_one.new.out c.in-Some.before.now c.in-Some.last.now is c.lay_one.ensures
          c.loop-last.invariant.room;
      capacity = c.lay_one.ensures.capacity ∙ c.loop-last.invariant.capacity;
    }

pub returns : goal.returns
returns c =
    let empty : length c.loop-last.left.now ≡ 0 = search rules in
    let none = nil_from_length c.loop-last.left.now empty in
    reversed-all c.args.out.now c.loop-last.out c.args.units.now c.loop-last.left.now c.loop-last.invariant.rows
    none c.loop-last.invariant.whole c.loop-last.invariant.capacity
