-- The front of bytes, step by step, as the reader takes it.
use Rattle.std.proofs.Common.{◌≡◌, ◌≢◌, ◌∙◌, ℕ, ◌+◌, ◌<◌, ◌≤◌, List, [], ◌∷◌, ◌++◌, length, drop, refl, sym, ap, subst}
use Rattle.std.proofs.Common.{arith, inl, inr, Option, Some, None, Result, Ok, Err, append_assoc, length-append}
use Rattle.std.specs.Prelude.{nat_le, ok_or, IsSome, slice_range}
use Rattle.std.proofs.lemmas.Bool.{false≢true, lt-ltb, le-ltb, le-leb, lt-leb, leb-true}
use Rattle.std.proofs.lemmas.List.{drop_at, take_all}
use Rattle.byteorder.specs.Endian.{big_number, big_bytes}
use Rattle.mf_base.specs.Spelling.{big_endian}
use Rattle.mf_base.specs.Steps.{◌>>=◌, require, told_as}
use Rattle.mf_base.proofs.StepLaws.{bind_ok, ok_is, require_ok, told_ok, ok_or_ok}
use Rattle.mf_base.proofs.BigBytes.{big_bytes-big_number}
use Rattle.mf_edge.specs.Device.{SourceState, IsAtEnd}
use Rattle.osm_model.specs.declared.faults.FrameFault.{FrameFault}
use Rattle.osm_model.specs.declared.faults.FrameFault.TheVariants.{BlobSize, HeaderLength, HeaderWire, NoKind, NoSize}
use Rattle.osm_model.specs.declared.faults.FrameFault.TheVariants.{TooLong, Truncated}
use Rattle.osm_model.specs.declared.limits.TheConstants.{BLOB_LIMIT, HEADER_LIMIT, OFFSET_LIMIT}
use Rattle.osm_model.specs.declared.tables.TheConstants.{BLOB_HEADER}
use Rattle.osm_model.specs.Tables.{message, once_of, number_of}
use Rattle.osm_model.specs.Frames.{Content, header, primitive, unread, type_of, IsBlobHeader, HoldsContent, SpellsFrame}
use Rattle.osm_model.specs.Frames.{whole_part, raw_bytes, content_in, frame_front}
use Rattle.osm_model.proofs.TableMessageLaws.{message_found}
use Rattle.osm_model.proofs.FrameLaws.{part-ok, raw_found}
use Rattle.pbf_frame.specs.declared.frame.BlobKind.{BlobKind}
use Rattle.pbf_frame.specs.declared.frame.BlobKind.TheVariants.{Header, Primitive}
use Rattle.pbf_frame.specs.declared.frame.Frame.{Frame}
use Rattle.pbf_frame.specs.declared.blob_read.Step.{Step}
use Rattle.pbf_frame.specs.declared.blob_read.Step.TheVariants.{End, Passed, Kept}
use Rattle.pbf_frame.specs.declared.blob_head.BlobHead.{BlobHead}
use Rattle.pbf_frame.specs.BlobSteps.{head_of, IsKind}
use Rattle.pbf_frame.specs.FrameReading.{BeginsNoBlob, content_shown}
use Rattle.pbf_frame.specs.BlobReading.{HasLength, HasHead, HeadFails, BlobFails, HoldsBlob, SpellsStep}

-- ---- steps one after another

bind-same : {A B F : Type 0} (r : Result A F) (f g : A → Result B F) → ((x : A) → f x ≡ g x) → (r >>= f) ≡ (r >>= g)
bind-same (Ok x) f g same = same x
bind-same (Err e) f g same = refl

steps1 : {A B D F : Type 0} (b : A) (c : B) (r : Result (Unit {0}) F) (k : A × B → Result D F)
    → ((r >>= λ _. Ok (b, c)) >>= k) ≡ (r >>= λ _. k (b, c))
steps1 b c (Ok u) k = refl
steps1 b c (Err e) k = refl

steps2 : {A B D F : Type 0} (b : A) (r : Result B F) (h : B → Result (Unit {0}) F) (k : A × B → Result D F)
    → ((r >>= λ c. h c >>= λ _. Ok (b, c)) >>= k) ≡ (r >>= λ c. h c >>= λ _. k (b, c))
steps2 b (Ok c) h k = steps1 b c (h c) k
steps2 b (Err e) h k = refl

steps3 : {A B D F : Type 0} (r : Result A F) (q : Result B F) (h : B → Result (Unit {0}) F) (k : A × B → Result D F)
    → ((r >>= λ b. q >>= λ c. h c >>= λ _. Ok (b, c)) >>= k) ≡ (r >>= λ b. q >>= λ c. h c >>= λ _. k (b, c))
steps3 (Ok b) q h k = steps2 b q h k
steps3 (Err e) q h k = refl

steps4 : {C A B D F : Type 0} (r : Result C F) (f : C → Result A F) (g : C → Result B F) (h : B
    → Result (Unit {0}) F) (k : A × B → Result D F)
    → ((r >>= λ a. f a >>= λ b. g a >>= λ c. h c >>= λ _. Ok (b, c)) >>= k)
    ≡ (r >>= λ a. f a >>= λ b. g a >>= λ c. h c >>= λ _. k (b, c))
steps4 (Ok a) f g h k = steps3 (f a) (g a) h k
steps4 (Err e) f g h k = refl

-- ---- the front as three parts

-- what stands behind the BlobHeader
abbrev behind_head : List ℕ → ℕ → List ℕ × ℕ → Result (Content × ℕ) FrameFault
behind_head bytes n told = do
  body ← whole_part told.1 (drop (4 + n) bytes)
  content ← content_in told.0 body
  Ok (content, 4 + n + told.1)

head-then : (head : List ℕ) (bytes : List ℕ) (n : ℕ)
    → (head_of head >>= behind_head bytes n)
    ≡ (told_as HeaderWire (message BLOB_HEADER head) >>= λ parts. ok_or (once_of 1 parts) NoKind
    >>= λ kind. ok_or (number_of 3 parts) NoSize >>= λ size. require (nat_le size BLOB_LIMIT) BlobSize
    >>= λ _. behind_head bytes n (kind, size))
unfolding head_of
head-then head bytes n =
    steps4 (told_as HeaderWire (message BLOB_HEADER head)) (λ parts. ok_or (once_of 1 parts) NoKind)
    (λ parts. ok_or (number_of 3 parts) NoSize) (λ size. require (nat_le size BLOB_LIMIT) BlobSize)
    (behind_head bytes n)

part-cut : (p : List ℕ) (n : ℕ) → length p < n → whole_part n p ≡ Err (Truncated (length p))
part-cut p n short = rw (lt-leb n (length p) short) refl

front-length : (at n : ℕ) (four more : List ℕ) → HasLength at n four
    → frame_front at (four ++ more) ≡ (whole_part n more >>= λ head. head_of head >>= behind_head (four ++ more) n)
unfolding frame_front
front-length at n four more h =
    rw (lt-ltb at OFFSET_LIMIT h.near)
    (rw (part-ok four more 4 h.count)
    (rw h.number (rw (le-leb n HEADER_LIMIT h.few) (rw (drop_at four more 4 h.count)
    (bind-same (whole_part n more) _ _ (λ head. sym (head-then head (four ++ more) n)))))))

front-head : (at : ℕ) (four head more : List ℕ) → HasLength at (length head) four
    → frame_front at (four ++ (head ++ more)) ≡ (head_of head >>= behind_head (four ++ (head ++ more)) (length head))
front-head at four head more h = front-length at (length head) four (head ++ more) h
    ∙ ap (λ r. r >>= λ x. head_of x >>= behind_head (four ++ (head ++ more)) (length head))
    (part-ok head more (length head) refl)

-- what stands behind a length and a BlobHeader
drop_two : (four head more : List ℕ) → length four ≡ 4 → drop (4 + length head) (four ++ (head ++ more)) ≡ more
drop_two four head more count =
    ap (drop (4 + length head)) (sym (append_assoc four head more))
    ∙ drop_at (four ++ head) more (4 + length head) (omega (arith, count, length-append four head))

front-body : (at : ℕ) (four head more kind : List ℕ) (size : ℕ) → HasLength at (length head) four
    → head_of head ≡ Ok (kind, size)
    → frame_front at (four ++ (head ++ more))
    ≡ (whole_part size more >>= λ body. content_in kind body >>= λ content. Ok (content, 4 + length head + size))
front-body at four head more kind size h read =
    front-head at four head more h ∙ ap (λ r. r >>= behind_head (four ++ (head ++ more)) (length head)) read
    ∙ ap (λ b. whole_part size b >>= λ body. content_in kind body >>= λ content. Ok (content, 4 + length head + size))
    (drop_two four head more h.count)

-- ---- no blob

none_of_some : (x : ℕ) (xs : List ℕ) → 0 < length xs → xs ≢ []
none_of_some x xs some e = omega (arith, ap length e)

pub begins-too_long : (at first : ℕ) (source : SourceState) → OFFSET_LIMIT ≤ at
    → BeginsNoBlob at TooLong source (first ∷ [])
unfolding frame_front
begins-too_long at first source far =
    (none_of_some 0 (first ∷ []) (omega arith), inl (λ more. rw (le-ltb at OFFSET_LIMIT far) refl))

pub begins-length_cut : (at first : ℕ) (rest : List ℕ) (source : SourceState) → at < OFFSET_LIMIT → length rest < 3
    → IsAtEnd source → BeginsNoBlob at (Truncated (1 + length rest)) source (first ∷ rest)
unfolding frame_front
begins-length_cut at first rest source near short end = (
  none_of_some 0 (first ∷ rest) (omega arith),
  inr (
    rw (lt-ltb at OFFSET_LIMIT near)
        (rw (part-cut (first ∷ rest) 4 (omega (arith, short))) (ap (λ n. Err (Truncated n)) (omega arith))),
    end,
  ),
)

pub begins-header_length : (at : ℕ) (four : List ℕ) (source : SourceState) → at < OFFSET_LIMIT → length four ≡ 4
    → HEADER_LIMIT < big_number 4 four → BeginsNoBlob at HeaderLength source four
unfolding frame_front
begins-header_length at four source near count many = (
  none_of_some 0 four (omega (arith, count)),
  inl (λ more. rw (lt-ltb at OFFSET_LIMIT near)
      (rw (part-ok four more 4 count) (rw (lt-leb (big_number 4 four) HEADER_LIMIT many) refl))),
)

-- ---- a length and a BlobHeader

-- The bytes are a length and a BlobHeader that tells this.
pub record IsHeaded (at : ℕ) (head : BlobHead) (b : List ℕ) : Type 0 where
  pub four : List ℕ
  pub bytes : List ℕ
  pub whole : b ≡ four ++ bytes
  pub told : HasLength at (length bytes) four
  pub kind : List ℕ
  pub named : IsKind head.kind kind
  pub read : head_of bytes ≡ Ok (kind, head.size)

pub headed : (at n : ℕ) (head : BlobHead) (x y : List ℕ) → HasLength at n x → HasHead n head y
    → IsHeaded at head (x ++ y)
headed at n head x y h (count, kind, named, read) =
    record {
      four = x;
      bytes = y;
      whole = refl;
      told = subst (λ k. HasLength at k x) (sym count) h;
      kind = kind;
      named = named;
      read = read;
    }

some_first : (at n : ℕ) (x y : List ℕ) → HasLength at n x → x ++ y ≢ []
some_first at n x y h = none_of_some 0 (x ++ y) (omega (arith, h.count, length-append x y))

pub head-fails : (at n : ℕ) (source : SourceState) (f : FrameFault) (x y : List ℕ) → HasLength at n x
    → HeadFails n source f y → BeginsNoBlob at f source (x ++ y)
head-fails at n source f x y h (inl (fault, short, end)) =
    let front : frame_front at (x ++ y) ≡ Err (Truncated (0 + length y)) = front-length at n x y h
    ∙ ap (λ r. r >>= λ b. head_of b >>= behind_head (x ++ y) n) (part-cut y n short)
    ∙ ap (λ k. Err (Truncated k)) (omega arith) in
    subst (λ g. BeginsNoBlob at g source (x ++ y)) (sym fault) (some_first at n x y h, inr (front, end))
head-fails at n source f x y h (inr (count, e)) =
    let told = subst (λ k. HasLength at k x) (sym count) h in (
      some_first at n x y h,
      inl (λ more. ap (frame_front at) (append_assoc x y more) ∙ front-head at x y more told
          ∙ ap (λ r. r >>= behind_head (x ++ (y ++ more)) (length y)) e),
    )

-- ---- a Blob behind its BlobHeader

content-fails : (k : Option BlobKind) (kind y : List ℕ) (fault : FrameFault) → IsSome k → IsKind k kind
    → raw_bytes y ≡ Err fault → content_in kind y ≡ Err fault
content-fails (Some Header) kind y fault some is e = rw is (ap (λ r. r >>= λ raw. Ok (header raw)) e)
content-fails (Some Primitive) kind y fault some is e = rw is (ap (λ r. r >>= λ raw. Ok (primitive raw)) e)
content-fails None kind y fault some is e = absurd (false≢true some)

three_parts : (x four bytes y : List ℕ) → x ≡ four ++ bytes → x ++ y ≡ four ++ (bytes ++ y)
three_parts x four bytes y whole = ap (λ b. b ++ y) whole ∙ append_assoc four bytes y

some_blob : (at : ℕ) (head : BlobHead) (x y : List ℕ) → IsHeaded at head x → x ++ y ≢ []
some_blob at head x y h =
    none_of_some 0 (x ++ y) (omega (
      arith,
      h.told.count,
      ap length h.whole,
      length-append h.four h.bytes,
      length-append x y,
    ))

pub blob-fails : (at : ℕ) (head : BlobHead) (source : SourceState) (f : FrameFault) (x y : List ℕ) → IsHeaded at head x
    → BlobFails head source f y → BeginsNoBlob at f source (x ++ y)
blob-fails at head source f x y h (inl (fault, short, end)) =
    let front : frame_front at (x ++ y) ≡ Err (Truncated (0 + length y)) =
    ap (frame_front at) (three_parts x h.four h.bytes y h.whole)
    ∙ front-body at h.four h.bytes y h.kind head.size h.told h.read
    ∙ ap (λ r. r >>= λ body. content_in h.kind body >>= λ content. Ok (content, 4 + length h.bytes + head.size))
    (part-cut y head.size short) ∙ ap (λ k. Err (Truncated k)) (omega arith) in
    subst (λ g. BeginsNoBlob at g source (x ++ y)) (sym fault) (some_blob at head x y h, inr (front, end))
blob-fails at head source f x y h (inr (count, some, e)) =
    let failed = content-fails head.kind h.kind y f some h.named e in (
      some_blob at head x y h,
      inl (λ more.
          ap (frame_front at) (append_assoc x y more ∙ three_parts x h.four h.bytes (y ++ more) h.whole)
          ∙ front-body at h.four h.bytes (y ++ more) h.kind head.size h.told h.read
          ∙ ap (λ r. r >>= λ body. content_in h.kind body >>= λ content. Ok (content, 4 + length h.bytes + head.size))
          (part-ok y more head.size count)
          ∙ ap (λ r. r >>= λ content. Ok (content, 4 + length h.bytes + head.size)) failed),
    )

four_is : (at n : ℕ) (four : List ℕ) → HasLength at n four → four ≡ big_endian 4 n
unfolding big_endian
four_is at n four h =
    sym (take_all 4 four (omega (arith, h.count))) ∙ sym (big_bytes-big_number 4 four h.small (omega (arith, h.count)))
    ∙ ap (big_bytes 4) h.number

header_found : (bytes kind : List ℕ) (size : ℕ) → head_of bytes ≡ Ok (kind, size)
    → (size ≤ BLOB_LIMIT) × IsBlobHeader kind size bytes
unfolding head_of
header_found bytes kind size e =
    let (parts, read, r1) = bind_ok _ _ _ e in
    let (k, named, r2) = bind_ok _ _ _ r1 in
    let (m, told, r3) = bind_ok _ _ _ r2 in
    let (u, few, last) = bind_ok _ _ _ r3 in
    let pair = ok_is _ _ last in
    let is = message_found BLOB_HEADER bytes parts (told_ok HeaderWire (message BLOB_HEADER bytes) parts read) in
    let same : k ≡ kind = ap (λ p. p.0) pair in
    let size_is : m ≡ size = ap (λ p. p.1) pair in (
      subst (λ n. n ≤ BLOB_LIMIT) size_is (leb-true _ _ (require_ok _ _ u few)),
      record {
        fields = parts;
        spelled = is.0;
        fits = is.1;
        named = ok_or_ok _ NoKind k named ∙ ap Some same;
        sized = ok_or_ok _ NoSize m told ∙ ap Some size_is;
      },
    )

spells : (at : ℕ) (head : BlobHead) (x y : List ℕ) (content : Content) → (h : IsHeaded at head x) → length y ≡ head.size
    → type_of content ≡ h.kind → HoldsContent content y → SpellsFrame content (x ++ y)
spells at head x y content h count type holds =
    let found = header_found h.bytes h.kind head.size h.read in
    record {
      head = h.bytes;
      body = y;
      whole = ap (λ b. b ++ y) (h.whole ∙ ap (λ b. b ++ h.bytes) (four_is at (length h.bytes) h.four h.told));
      head_size = h.told.few;
      body_size = subst (λ n. n ≤ BLOB_LIMIT) (sym count) found.0;
      head_holds = subst (λ n. IsBlobHeader (type_of content) n h.bytes) (sym count)
          (subst (λ k. IsBlobHeader k head.size h.bytes) (sym type) found.1);
      body_holds = holds;
    }

pub blob-spells : (at : ℕ) (head : BlobHead) (block : List ℕ) (source : SourceState) (step : Step) (x y : List ℕ)
    → IsHeaded at head x → (length y ≡ head.size) × HoldsBlob head.kind at block step y
    → SpellsStep at block source step (x ++ y)
blob-spells at head block source step x y h (count, holds) = go head.kind step h.named holds
  where
    kept : (k : BlobKind) (f : Frame) → f.at ≡ at → f.kind ≡ k
        → SpellsFrame (content_shown k (slice_range block f.start f.end)) (x ++ y)
        → SpellsStep at block source (Kept f) (x ++ y)
    kept k f place is spelled = (
      h.told.near,
      place,
      subst (λ j. SpellsFrame (content_shown j (slice_range block f.start f.end)) (x ++ y))
          (sym is) spelled,
    )

    go : (k : Option BlobKind) (step : Step) → IsKind k h.kind → HoldsBlob k at block step y
        → SpellsStep at block source step (x ++ y)
    go (Some Header) (Kept f) is (place, kind, raw) =
        kept Header f place kind (spells at head x y (header (slice_range block f.start f.end)) h count (sym is)
        (raw_found _ y raw))
    go (Some Primitive) (Kept f) is (place, kind, raw) =
        kept Primitive f place kind (spells at head x y (primitive (slice_range block f.start f.end)) h count (sym is)
        (raw_found _ y raw))
    go None Passed is holds = (h.told.near, h.kind, spells at head x y (unread h.kind) h count refl is)
    go (Some k) Passed is holds = absurd holds
    go None (Kept f) is holds = absurd holds
    go (Some k) End is holds = absurd holds
    go None End is holds = absurd holds
