-- The premises of the laws are met: by the blobs of one bench, and by its blocks.
use Rattle.std.proofs.Common.{◌≡◌, ℕ, zero, suc, List, [], ◌∷◌, take, drop, refl, sym, subst, arith}
use Rattle.std.proofs.Common.{append-nil, true, Ok, Some, None, codes}
use Rattle.std.specs.Prelude.{nat_lt}
use Rattle.std.specs.List.{list_all}
use Rattle.std.proofs.lemmas.Bool.{ltb-true, and_parts}
use Rattle.mf_base.specs.Spelling.{IsBytes}
use Rattle.osm_model.specs.Frames.{Content, PassesOver, LeadsTo, frame_front, unread}
use Rattle.osm_model.specs.Frames.{AreFrames, SpellsFrame}
use Rattle.osm_model.specs.Input.{ReadsInput}
use Rattle.osm_model.specs.Outcome.{AreSoundBlobs}
use Rattle.osm_model.specs.Samples.{one_bench, one_degree, bench, header_alone, header_frame, bench_frame, blob_of}
use Rattle.osm_model.proofs.Compute.{compute}
use Rattle.osm_model.proofs.FrameLaws.{frame_found}
use Rattle.osm_model.proofs.InputLaws.{input_read}
use Rattle.osm_model.proofs.SoFarLaws.{blobs-none, blobs-more}

-- ---- bytes

are_small : (bytes : List ℕ) → list_all (λ b. nat_lt b 256) bytes ≡ true → IsBytes bytes
are_small [] e i = omega arith
are_small (b ∷ rest) e zero = ltb-true b 256 (and_parts _ _ e).0
are_small (b ∷ rest) e (suc i) = are_small rest (and_parts _ _ e).1 i

pub bench-bytes : IsBytes one_bench
unfolding compute
bench-bytes = are_small one_bench refl

behind-bytes : IsBytes (drop 73 one_bench)
unfolding compute
behind-bytes = are_small (drop 73 one_bench) refl

front-bytes : IsBytes header_alone
unfolding compute
front-bytes = are_small header_alone refl

other-bytes : IsBytes (blob_of "OSMOther" [])
unfolding compute
other-bytes = are_small (blob_of "OSMOther" []) refl

-- ---- blobs

-- bytes whose front is a blob of all of them are this blob
one_frame : (at size : ℕ) (bytes : List ℕ) (c : Content) → IsBytes bytes → frame_front at bytes ≡ Ok (c, size)
    → take size bytes ≡ bytes → AreFrames at bytes (record { at = at; content = c } ∷ [])
one_frame at size bytes c small e all =
    let found = frame_found at bytes c size small e in
    (bytes, [], refl, found.near, subst (λ b. SpellsFrame c b) all found.spelled, refl, sym (append-nil bytes))

pub other-passes : PassesOver 0 (blob_of "OSMOther" [])
unfolding compute
other-passes = record {
  passed = record { at = 0; content = unread (codes "OSMOther") } ∷ [];
  unknown = refl;
  spelled = one_frame 0 16 (blob_of "OSMOther" []) (unread (codes "OSMOther")) other-bytes refl refl;
}

pub header-leads : LeadsTo 0 header_alone header_frame
unfolding compute
header-leads = record {
  passed = [];
  unknown = refl;
  known = refl;
  spelled = one_frame 0 73 header_alone header_frame.content front-bytes refl refl;
}

pub bench-leads : LeadsTo 73 (drop 73 one_bench) bench_frame
unfolding compute
bench-leads = record {
  passed = [];
  unknown = refl;
  known = refl;
  spelled = one_frame 73 55 (drop 73 one_bench) bench_frame.content behind-bytes refl refl;
}

-- ---- one behind the other

pub bench-sound : AreSoundBlobs one_bench (bench 1 ∷ []) (Some one_degree)
unfolding compute
bench-sound =
    blobs-more header_alone (drop 73 one_bench) [] (Some one_degree) bench_frame
    (blobs-more [] header_alone [] None header_frame blobs-none header-leads refl) bench-leads refl

pub bench-reads : ReadsInput one_bench (header_frame ∷ bench_frame ∷ []) None
unfolding compute
bench-reads = input_read one_bench bench-bytes
