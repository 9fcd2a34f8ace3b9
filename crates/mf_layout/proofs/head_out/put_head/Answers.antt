use Rattle.std.proofs.Common.{◌≤◌, arith, map, ap, ◌∙◌, length}
use Rattle.std.proofs.lemmas.Grind.{common_steps}
use Rattle.map_model.specs.Header.{file_size}
use Rattle.map_model.proofs.FileLaws.{file_size-is}
use Rattle.map_header.specs.Shown.{settings_of}
use Rattle.mf_layout.specs.declared.sub_files.SubFileSize.{SubFileSize}
use Rattle.mf_layout.proofs.Placing.{sizes-sum}
use Rattle.mf_layout.proofs.head_out.put_head.Goals as goal

pub put_header-requires-clause-ends : goal.put_header-requires-clause-ends
put_header-requires-clause-ends g c =
    let set = settings_of c.args.set.now in
    let names = g.T.TagSource.names c.args.tags.now in
    let sizes = c.args.sizes.now in
    let few : length sizes ≤ 8 = grind (arith, common_steps) in
    let all = ap (file_size set names) c.placed-subs.ensures
    ∙ file_size-is set names c.header_size.result (map (λ (s : SubFileSize). s.bytes) sizes) in
    omega (arith, all, sizes-sum sizes c.requires.each, few, c.header_size.ensures.size, c.header_size.ensures.most)
