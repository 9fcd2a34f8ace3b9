-- Laws in the words of the public functions.
use Rattle.std.proofs.Common.{◌≡◌, ℕ, List}
use Rattle.mf_base.specs.Spelling.{IsBytes}
use Rattle.osm_model.specs.Reading.{Reading}
use Rattle.osm_model.specs.Frames.{Frame, FrameFaultAt, ReadsFrames, frames}
use Rattle.osm_model.proofs.FrameListLaws.{frames_read, frames-only}

pub frames_of_bytes : (bytes : List ℕ) → IsBytes bytes → ReadsFrames 0 bytes (frames bytes)
frames_of_bytes bytes small = frames_read 0 bytes small

pub frames_alone : (bytes : List ℕ) (read : Reading Frame FrameFaultAt) → ReadsFrames 0 bytes read → frames bytes ≡ read
frames_alone bytes read h = frames-only 0 bytes read h
