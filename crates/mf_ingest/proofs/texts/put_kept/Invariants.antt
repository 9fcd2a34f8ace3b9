use Rattle.std.proofs.Common.{◌≡◌, ◌+◌, ◌≤◌, ◌++◌, length, drop}
use Rattle.std.specs.List.{AllByRecursion}
use Rattle.feature_model.specs.Mapping.{entries_of}
use Rattle.mf_base.specs.TagCursor.{all_tags, block_of}
use Rattle.mf_rows.specs.Records.{texts_told}
use Rattle.mf_ingest.specs.Fronts.{IsSpan, kept_texts}
use Rattle.mf_ingest.proofs.texts.put_kept.Given as goal

abbrev pub invariant-loop-i : goal.invariant-loop-i
invariant-loop-i l = record {
  put : texts_told (block_of l.tags) l.spans.items
      ++ kept_texts (entries_of l.mapping l.list) (all_tags l.tags) l.i (drop l.i l.kept)
      ≡ texts_told (block_of l.tags) l.fn.spans.items
      ++ kept_texts (entries_of l.mapping l.list) (all_tags l.tags) 0 l.kept;
  spans : AllByRecursion (IsSpan (length (block_of l.tags))) l.spans.items;
  room : length l.spans.items ≤ 3 + l.i;
}
