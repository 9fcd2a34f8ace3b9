-- The strings of a block, each read at its place.
use Rattle.std.proofs.Common.{◌≡◌, ◌∙◌, ◌∷◌, ℕ, List, [], Some, None, Result, Ok, Err, refl, sym, ap, map}
use Rattle.std.specs.Prelude.{unwrap_or}
use Rattle.std.proofs.lemmas.Option.{none-some}
use Rattle.std.proofs.lemmas.Simd.{map-map}
use Rattle.mf_base.specs.Texts.{Text}
use Rattle.mf_base.specs.Steps.{fault_of}
use Rattle.mf_base.specs.Entries.{text_at}
use Rattle.osm_model.specs.declared.faults.BlockFault.{BlockFault}
use Rattle.osm_model.specs.Blocks.{block_strings}
use Rattle.pbf_block.specs.Strings.{AreAt}
use Rattle.osm_entity.specs.InBlock.{texts_at}

told : (texts : List Text) → map (λ o. unwrap_or o []) (map Some texts) ≡ texts
told [] = refl
told (t ∷ texts) = ap (λ ts. t ∷ ts) (told texts)

placed : (bytes places : List ℕ) (texts : List Text) → AreAt bytes places texts → texts ≡ texts_at bytes places
placed bytes places texts e =
    sym (told texts) ∙ ap (map (λ o. unwrap_or o [])) (sym e)
    ∙ map-map (λ o. unwrap_or o []) (text_at bytes) places

answered : (bytes places : List ℕ) (answer : Result (List Text) BlockFault) → None ≡ fault_of answer
    → ((texts : List Text) → answer ≡ Ok texts → AreAt bytes places texts) → answer ≡ Ok (texts_at bytes places)
answered bytes places (Ok texts) e at = ap Ok (placed bytes places texts (at texts refl))
answered bytes places (Err fault) e at = absurd (none-some fault e)

-- the strings that were indexed without a fault
pub strings-at : (bytes places : List ℕ) → None ≡ fault_of (block_strings bytes)
    → ((texts : List Text) → block_strings bytes ≡ Ok texts → AreAt bytes places texts)
    → block_strings bytes ≡ Ok (texts_at bytes places)
strings-at bytes places e at = answered bytes places (block_strings bytes) e at
