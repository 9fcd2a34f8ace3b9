use Rattle.std.proofs.Common.{refl, inr}
use Rattle.mf_base.specs.TagCursor.{tags_left}
use Rattle.tag_mapping.proofs.Looked.{chosen-none, chosen-all, ahead-more}
use Rattle.tag_mapping.proofs.choosing.choice_of_tags.Goals as goal

pub loop-key-init : goal.loop-key-init
loop-key-init c = record {
  so_far = chosen-none c.args.entries.now (tags_left c.args.tags);
  ahead = λ index e here matches. inr refl;
}

pub loop-key-preserved : goal.loop-key-preserved
loop-key-preserved c = record {
  so_far = c.look_up_pair.ensures.so_far;
  ahead =
      ahead-more c.args.entries.now (tags_left c.args.tags) (tags_left c.loop-key.left) (tags_left c.next.new.self)
      c.loop-key.choosing.known c.look_up_pair.new.self.known c.in-Some.key.now c.in-Some.value.now
      c.loop-key.invariant.ahead c.in-Some.ensures.first c.next.ensures.rest c.look_up_pair.ensures.keeps
      c.look_up_pair.ensures.found;
}

pub returns : goal.returns
returns c =
    chosen-all c.args.entries.now (tags_left c.args.tags) (tags_left c.loop-key.left) c.loop-key.choosing.known
    c.loop-key.choosing.choice c.loop-key.invariant.so_far c.loop-key.invariant.ahead c.in_default.ensures.first
