use Rattle.std.proofs.Common.{◌≡◌, ◌∙◌, ℕ, ap, arith, length}
use Rattle.mf_base.specs.Buffer.{AppendsTo}
use Rattle.mf_base.specs.Spelling.{vbe_unsigned, string}
use Rattle.map_header.proofs.Putting.{length-string, puts-string, grown, kept}
use Rattle.map_header.proofs.options.put_text.Goals as goal

pub put-requires : goal.put-requires
put-requires c =
    let room = rw c.in-Some.is at c.requires.room in
    let text = c.in-Some.text.bytes in
    let bytes : c.as_bytes.result.now ≡ text = c.as_bytes.ensures.value ∙ c.deref.ensures.0 in
    let size = ap (λ (n : ℕ). length (vbe_unsigned n)) c.len.ensures.value in
    let more = grown c.args.out.now c.put_vbe_u.new.out (vbe_unsigned c.len.result) c.put_vbe_u.ensures.appends in
    let same = kept c.args.out.now c.put_vbe_u.new.out (vbe_unsigned c.len.result) c.put_vbe_u.ensures.appends in
    omega (arith, room, length-string text, ap length bytes, size, more, same)

pub returns-in-Some-clause-appends : goal.returns-in-Some-clause-appends
returns-in-Some-clause-appends c =
    rw c.in-Some.is (puts-string _ _ _ c.len.result c.as_bytes.result.now c.in-Some.text.bytes c.len.ensures.value
    (c.as_bytes.ensures.value ∙ c.deref.ensures.0) c.put_vbe_u.ensures.appends c.put.ensures)

pub returns-in-Some-clause-most : goal.returns-in-Some-clause-most
returns-in-Some-clause-most c =
    let text = c.in-Some.text.bytes in
    let puts : AppendsTo c.args.out.now c.put.new.self (string text) =
    puts-string _ _ _ c.len.result c.as_bytes.result.now text c.len.ensures.value
    (c.as_bytes.ensures.value ∙ c.deref.ensures.0) c.put_vbe_u.ensures.appends c.put.ensures in
    rw c.in-Some.is (omega (arith, grown c.args.out.now c.put.new.self (string text) puts))
