use Rattle.std.proofs.Common.{◌≡◌, ◌∙◌, sym, rules}
use Rattle.std.proofs.lemmas.Int.{to_z-of_z}
use Rattle.std.specs.Prelude.{ℤ}
use Rattle.std.specs.Int.{w64, w32, cast_signed, cast_unsigned}
use Rattle.pbf_block.proofs.BlockReads.{sides-kept, box-ok}
use Rattle.pbf_block.proofs.header.checked_box.Goals as goal

-- a signed number, as it is kept
abbrev kept : ℤ → ℤ
kept z = cast_signed w64 (cast_unsigned w64 z)

pub micro-requires : goal.micro-requires
micro-requires c =
    (sides-kept (kept c.args.left) (kept c.args.right) (kept c.args.top) (kept c.args.bottom)
    (sym c.are_on_earth.ensures ∙ c.if-not-are_on_earth.false)).bottom_kept

pub micro-requires-2 : goal.micro-requires-2
micro-requires-2 c =
    (sides-kept (kept c.args.left) (kept c.args.right) (kept c.args.top) (kept c.args.bottom)
    (sym c.are_on_earth.ensures ∙ c.if-not-are_on_earth.false)).left_kept

pub micro-requires-3 : goal.micro-requires-3
micro-requires-3 c =
    (sides-kept (kept c.args.left) (kept c.args.right) (kept c.args.top) (kept c.args.bottom)
    (sym c.are_on_earth.ensures ∙ c.if-not-are_on_earth.false)).top_kept

pub micro-requires-4 : goal.micro-requires-4
micro-requires-4 c =
    (sides-kept (kept c.args.left) (kept c.args.right) (kept c.args.top) (kept c.args.bottom)
    (sym c.are_on_earth.ensures ∙ c.if-not-are_on_earth.false)).right_kept

pub returns : goal.returns
returns c =
    let l : kept c.args.left ≡ c.args.left = to_z-of_z w64 c.args.left (search rules) in
    let r : kept c.args.right ≡ c.args.right = to_z-of_z w64 c.args.right (search rules) in
    let t : kept c.args.top ≡ c.args.top = to_z-of_z w64 c.args.top (search rules) in
    let o : kept c.args.bottom ≡ c.args.bottom = to_z-of_z w64 c.args.bottom (search rules) in
    rw (
      to_z-of_z w32 c.micro.result (search rules),
      to_z-of_z w32 c.micro-2.result (search rules),
      to_z-of_z w32 c.micro-3.result (search rules),
      to_z-of_z w32 c.micro-4.result (search rules),
    )
    (box-ok c.args.left c.args.right c.args.top c.args.bottom (kept c.args.left) (kept c.args.right) (kept c.args.top)
    (kept c.args.bottom) c.micro.result c.micro-2.result c.micro-3.result c.micro-4.result
    l r t o (sym c.are_on_earth.ensures ∙ c.if-not-are_on_earth.false) (sym c.is_at_most.ensures
    ∙ c.if-not-is_at_most.false)
    (sym c.is_at_most-2.ensures
    ∙ c.if-not-is_at_most-2.false) c.micro.ensures c.micro-2.ensures c.micro-3.ensures c.micro-4.ensures)
