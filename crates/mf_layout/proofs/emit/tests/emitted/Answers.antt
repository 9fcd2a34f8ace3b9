use Rattle.std.proofs.Common.{◌≡◌, ◌+◌, ◌*◌, true, false, sym, ap, subst, ◌∙◌, rules, length}
use Rattle.std.specs.List.{AllByRecursion}
use Rattle.mf_layout.specs.SubFiles.{IsSubFile, tiles_in, bytes_in}
use Rattle.mf_layout.proofs.emit.tests.emitted.Goals as goal

-- a store that tells nothing holds nothing that is told
pub emit-requires-clause-found : goal.emit-requires-clause-found
emit-requires-clause-found g c = λ told.
    let e : false ≡ true = sym c.requires.untold ∙ sym c.in-Ok.ensures.tells ∙ told in
    absurd (search (e, rules))

pub emit-requires-clause-subs : goal.emit-requires-clause-subs
emit-requires-clause-subs g c =
    let sizes = c.handed.ensures in
    let rows = ap length c.in-Ok.ensures.rows in
    let size = c.in-Ok.ensures.size in
    record {
      many = ap length sizes ∙ c.requires.many ∙ sym (ap length c.settings-set.ensures);
      each = subst (AllByRecursion IsSubFile) (sym sizes) c.requires.each;
      rows = ap tiles_in sizes ∙ c.requires.rows ∙ sym rows;
      bytes = ap bytes_in sizes ∙ c.requires.bytes ∙ (λ i. 5 * sym rows i + sym size i);
    }
