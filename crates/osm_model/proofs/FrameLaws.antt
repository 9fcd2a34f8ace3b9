-- The front of bytes is a blob exactly where it is spelled so.
use Rattle.std.proofs.Common.{◌≡◌, ◌≢◌, ◌==◌, ℕ, ◌+◌, ◌<◌, ◌≤◌, List, [], ◌++◌, length, take, drop, refl, sym, ap}
use Rattle.std.proofs.Common.{subst, ◌∙◌, arith, inl, inr, false, cond, Ok, Option, Some, None, codes, MatchOption}
use Rattle.std.proofs.Common.{append-nil}
use Rattle.std.specs.Prelude.{bytes_eq}
use Rattle.std.proofs.lemmas.Bool.{lt-ltb, le-leb, leb-true, ltb-true, eqb-true, eq-eqb, cases_Bool, both_ways}
use Rattle.std.proofs.lemmas.List.{take_at, drop_at, length-drop, length-append, append_assoc, length-take-le}
use Rattle.std.proofs.lemmas.List.{take-take}
use Rattle.std.specs.Cmp.Lexicographic.{bytes_decides}
use Rattle.std.proofs.Math.Seq.{take-add}
use Rattle.byteorder.specs.Endian.{big_number, big_bytes}
use Rattle.byteorder.specs.Numbers.{big_number-reads_back}
use Rattle.mf_base.specs.Spelling.{big_endian, IsBytes}
use Rattle.mf_base.specs.Steps.{◌>>=◌}
use Rattle.mf_base.proofs.StepLaws.{chosen, ok_is, bind_ok, require_ok, told_ok, ok_or_ok, refuse_ok, map_none}
use Rattle.mf_base.proofs.ByteLaws.{take-bytes, length-big_endian}
use Rattle.mf_base.proofs.BigBytes.{big_bytes-big_number}
use Rattle.osm_model.specs.declared.limits.TheConstants.{HEADER_LIMIT, BLOB_LIMIT, OFFSET_LIMIT}
use Rattle.osm_model.specs.declared.tables.TheConstants.{BLOB_HEADER, BLOB}
use Rattle.osm_model.specs.declared.faults.FrameFault.TheVariants as frame_faults
use Rattle.osm_model.specs.Wire.{Field, IsMessage}
use Rattle.osm_model.specs.Tables.{FitsTable, message, once_of, number_of}
use Rattle.osm_model.specs.Frames.{Content, header, primitive, unread, type_of, IsBlobHeader, IsBlob, HoldsContent}
use Rattle.osm_model.specs.Frames.{SpellsFrame, whole_part, raw_size_fault, raw_bytes, content_in, frame_front}
use Rattle.osm_model.proofs.TableMessageLaws.{message_is, message_found}
use Rattle.osm_model.proofs.TableLaws.{some_no_none}

-- ---- the Blob

size_none : (o : Option ℕ) (found : ℕ) → MatchOption o (Unit {0}) (λ size. size ≡ found) → raw_size_fault o found ≡ None
size_none None found h = refl
size_none (Some told) found h = ap (λ b. cond b None (Some (frame_faults.RawSize told found))) (eq-eqb told found h)

none_size : (o : Option ℕ) (found : ℕ) → raw_size_fault o found ≡ None → MatchOption o (Unit {0}) (λ size. size ≡ found)
none_size None found e = tt
none_size (Some told) found e =
    elim (cases_Bool (told == found)) [
      | inl same ↦ eqb-true told found same
      | inr wrong ↦
          absurd (some_no_none (frame_faults.RawSize told found)
          (ap (λ b. cond b None (Some (frame_faults.RawSize told found))) (sym wrong) ∙ e))
    ]

pub raw_is : (raw b : List ℕ) → IsBlob raw b → raw_bytes b ≡ Ok raw
unfolding raw_bytes
raw_is raw b h =
    rw (message_is BLOB b h.fields h.spelled h.fits)
    (rw h.plain (rw h.held (rw (size_none (number_of 2 h.fields) (length raw) h.told) refl)))

pub raw_found : (raw b : List ℕ) → raw_bytes b ≡ Ok raw → IsBlob raw b
unfolding raw_bytes
raw_found raw b e =
    let (parts, read, behind_parts) = bind_ok _ _ _ e in
    let (u, plain, behind_plain) = bind_ok _ _ _ behind_parts in
    let (found, held, behind_held) = bind_ok _ _ _ behind_plain in
    let (v, told, last) = bind_ok _ _ _ behind_held in
    let same = ok_is _ _ last in
    let is = message_found BLOB b parts (told_ok frame_faults.BlobWire (message BLOB b) parts read) in
    let found_is : IsBlob found b =
    record {
      fields = parts;
      spelled = is.0;
      fits = is.1;
      plain =
          map_none frame_faults.Compressed _ (refuse_ok _ u plain);
      held =
          ok_or_ok _ frame_faults.NoBytes found held;
      told = none_size _ _ (refuse_ok _ v told);
    } in
    subst (λ r. IsBlob r b) same found_is

-- ---- the whole blob

frame-ok : (at : ℕ) (bytes size head : List ℕ) (n : ℕ) (parts : List Field) (kind : List ℕ) (m : ℕ) (body : List ℕ)
    (c : Content)
    → at < OFFSET_LIMIT → whole_part 4 bytes ≡ Ok size → big_number 4 size ≡ n → n ≤ HEADER_LIMIT
    → whole_part n (drop 4 bytes) ≡ Ok head
    → message BLOB_HEADER head ≡ Ok parts → once_of 1 parts ≡ Some kind → number_of 3 parts ≡ Some m → m ≤ BLOB_LIMIT
    → whole_part m (drop (4 + n) bytes) ≡ Ok body → content_in kind body ≡ Ok c
    → frame_front at bytes ≡ Ok (c, 4 + n + m)
unfolding frame_front
frame-ok at bytes size head n parts kind m body c near sized number small headed read named told few bodied held =
    rw (lt-ltb at OFFSET_LIMIT near)
    (rw sized (rw number
    (rw (le-leb n HEADER_LIMIT small)
    (rw headed (rw read (rw named (rw told (rw (le-leb m BLOB_LIMIT few) (rw bodied (rw held refl))))))))))

-- a part that stands in front
pub part-ok : (p q : List ℕ) (n : ℕ) → length p ≡ n → whole_part n (p ++ q) ≡ Ok p
part-ok p q n size =
    rw (le-leb n (length (p ++ q)) (omega (arith, size, length-append p q))) (ap Ok (take_at p q n size))

part_found : (n : ℕ) (bytes p : List ℕ) → whole_part n bytes ≡ Ok p → (n ≤ length bytes) × (take n bytes ≡ p)
part_found n bytes p e = let (u, tested, rest) = bind_ok _ _ _ e in
    (leb-true _ _ (require_ok _ _ u tested), ok_is _ _ rest)

eq_false : (a b : List ℕ) → a ≢ b → bytes_eq a b ≡ false
eq_false a b differ =
    elim (cases_Bool (bytes_eq a b)) [ inl same ↦ absurd (differ ((bytes_decides a b).0 same)) | inr wrong ↦ wrong ]

false_ne : (a b : List ℕ) → bytes_eq a b ≡ false → a ≢ b
false_ne a b wrong e = both_ways (bytes_eq a b) wrong ((bytes_decides a b).1 e)

content_is : (c : Content) (b : List ℕ) → HoldsContent c b → content_in (type_of c) b ≡ Ok c
content_is (header raw) b h = ap (λ r. r >>= λ x. Ok (header x)) (raw_is raw b h)
content_is (primitive raw) b h = ap (λ r. r >>= λ x. Ok (primitive x)) (raw_is raw b h)
content_is (unread kind) b h =
    rw (eq_false kind (codes "OSMHeader") h.0) (rw (eq_false kind (codes "OSMData") h.1) refl)

content_found : (kind b : List ℕ) (c : Content) → content_in kind b ≡ Ok c → (type_of c ≡ kind) × HoldsContent c b
content_found kind b c e =
    elim (chosen (bytes_eq kind (codes "OSMHeader")) _ _ _ e) [
      | inl is_header ↦
          let (raw, read, rest) = bind_ok _ _ _ is_header.1 in
          subst (λ x. (type_of x ≡ kind) × HoldsContent x b) (ok_is _ _ rest)
          (sym ((bytes_decides kind (codes "OSMHeader")).0 is_header.0), raw_found raw b read)
      | inr no_header ↦
          elim (chosen (bytes_eq kind (codes "OSMData")) _ _ _ no_header.1) [
            | inl is_data ↦
                let (raw, read, rest) = bind_ok _ _ _ is_data.1 in
                subst (λ x. (type_of x ≡ kind) × HoldsContent x b) (ok_is _ _ rest)
                (sym ((bytes_decides kind (codes "OSMData")).0 is_data.0), raw_found raw b read)
            | inr no_data_type ↦
                subst (λ x. (type_of x ≡ kind) × HoldsContent x b) (ok_is _ _ no_data_type.1) (
                  refl,
                  (false_ne _ _ no_header.0, false_ne _ _ no_data_type.0),
                )
          ]
    ]

number-big_endian : (n : ℕ) → n ≤ HEADER_LIMIT → big_number 4 (big_endian 4 n) ≡ n
unfolding big_endian
number-big_endian n small =
    subst (λ b. big_number 4 b ≡ n) (append-nil (big_bytes 4 n)) (big_number-reads_back 4 n [] (omega (arith, small)))

pub frame_reads : (at : ℕ) (c : Content) (b rest : List ℕ) → at < OFFSET_LIMIT → SpellsFrame c b
    → frame_front at (b ++ rest) ≡ Ok (c, length b)
frame_reads at c b rest near h =
    let four = length-big_endian 4 (length h.head) in
    let parts : b ++ rest ≡ big_endian 4 (length h.head) ++ (h.head ++ (h.body ++ rest)) =
    ap (λ x. x ++ rest) h.whole ∙ append_assoc (big_endian 4 (length h.head) ++ h.head) h.body rest
    ∙ append_assoc (big_endian 4 (length h.head)) h.head (h.body ++ rest) in
    let behind_size : drop 4 (b ++ rest) ≡ h.head ++ (h.body ++ rest) = ap (drop 4) parts
    ∙ drop_at (big_endian 4 (length h.head)) _ 4 four in
    let front : length (big_endian 4 (length h.head) ++ h.head) ≡ 4 + length h.head =
    omega (arith, four, length-append (big_endian 4 (length h.head)) h.head) in
    let behind_head : drop (4 + length h.head) (b ++ rest) ≡ h.body ++ rest =
    ap (drop (4 + length h.head)) (ap (λ x. x ++ rest) h.whole
    ∙ append_assoc (big_endian 4 (length h.head) ++ h.head) h.body rest)
    ∙ drop_at (big_endian 4 (length h.head) ++ h.head) _ (4 + length h.head) front in
    let sized = ap (whole_part 4) parts ∙ part-ok (big_endian 4 (length h.head)) _ 4 four in
    let headed = ap (whole_part (length h.head)) behind_size ∙ part-ok h.head _ (length h.head) refl in
    let bodied = ap (whole_part (length h.body)) behind_head ∙ part-ok h.body rest (length h.body) refl in
    let holds = h.head_holds in
    let count : length b ≡ 4 + length h.head + length h.body = ap length h.whole
    ∙ length-append (big_endian 4 (length h.head) ++ h.head) h.body ∙ ap (λ n. n + length h.body) front in
    frame-ok at (b ++ rest) (big_endian 4 (length h.head)) h.head (length h.head) holds.fields (type_of c)
    (length h.body) h.body c near sized (number-big_endian (length h.head) h.head_size) h.head_size headed
    (message_is BLOB_HEADER h.head holds.fields holds.spelled holds.fits) holds.named holds.sized h.body_size bodied
    (content_is c h.body h.body_holds)
    ∙ ap (λ n. Ok (c, n)) (sym count)

-- what a blob that was found is
pub record IsFrameFront (at : ℕ) (c : Content) (size : ℕ) (bytes : List ℕ) : Type 0 where
  pub near : at < OFFSET_LIMIT
  pub some : 0 < size
  pub within : size ≤ length bytes
  pub spelled : SpellsFrame c (take size bytes)

big_endian-number : (bytes : List ℕ) → IsBytes bytes → 4 ≤ length bytes
    → big_endian 4 (big_number 4 (take 4 bytes)) ≡ take 4 bytes
unfolding big_endian
big_endian-number bytes small fits =
    big_bytes-big_number 4 (take 4 bytes) (take-bytes 4 bytes small) (omega (arith, length-take-le 4 bytes fits))
    ∙ take-take 4 4 bytes (omega arith)

positive : (n m : ℕ) → 0 < 4 + n + m
positive n m = omega arith

fits_within : (bytes : List ℕ) (n m : ℕ) → 4 ≤ length bytes → n ≤ length (drop 4 bytes)
    → m ≤ length (drop (4 + n) bytes) → 4 + n + m ≤ length bytes
fits_within bytes n m four first second =
    omega (arith, four, first, second, length-drop 4 bytes, length-drop (4 + n) bytes)

-- the bytes of a length, a head and a body that were taken one after another
parts_whole : (bytes four head body : List ℕ) (n m : ℕ) → IsBytes bytes → big_number 4 four ≡ n → 4 ≤ length bytes
    → take 4 bytes ≡ four → n ≤ length (drop 4 bytes) → take n (drop 4 bytes) ≡ head
    → take m (drop (4 + n) bytes) ≡ body → take (4 + n + m) bytes ≡ big_endian 4 (length head) ++ head ++ body
parts_whole bytes four head body n m small number fits first fits_head second third =
    let head_len : length head ≡ n = ap length (sym second) ∙ length-take-le n (drop 4 bytes) fits_head in
    let four_is : big_endian 4 n ≡ four = ap (big_endian 4) (sym number)
    ∙ ap (λ x. big_endian 4 (big_number 4 x)) (sym first) ∙ big_endian-number bytes small fits ∙ first in
    let front : take (4 + n) bytes ≡ big_endian 4 (length head) ++ head = take-add 4 n bytes
    ∙ ap (λ x. take 4 bytes ++ x) second
    ∙ ap (λ x. x ++ head) (first ∙ sym four_is ∙ ap (big_endian 4) (sym head_len)) in
    take-add (4 + n) m bytes ∙ ap (λ x. take (4 + n) bytes ++ x) third ∙ ap (λ x. x ++ body) front

length_taken : (n : ℕ) (bytes p : List ℕ) → n ≤ length bytes → take n bytes ≡ p → length p ≡ n
length_taken n bytes p fits e = ap length (sym e) ∙ length-take-le n bytes fits

frame_from : (at : ℕ) (bytes four head body kind : List ℕ) (n m : ℕ) (parts : List Field) (c : Content)
    → IsBytes bytes → at < OFFSET_LIMIT → big_number 4 four ≡ n
    → (4 ≤ length bytes) × (take 4 bytes ≡ four) → n ≤ HEADER_LIMIT
    → (n ≤ length (drop 4 bytes)) × (take n (drop 4 bytes) ≡ head)
    → IsMessage head parts × FitsTable BLOB_HEADER parts → once_of 1 parts ≡ Some kind → number_of 3 parts ≡ Some m
    → m ≤ BLOB_LIMIT
    → (m ≤ length (drop (4 + n) bytes)) × (take m (drop (4 + n) bytes) ≡ body)
    → (type_of c ≡ kind) × HoldsContent c body → IsFrameFront at c (4 + n + m) bytes
frame_from at bytes four head body kind n m parts c small near number first few second read named told most third
    holds =
    let head_len = length_taken n (drop 4 bytes) head second.0 second.1 in
    let body_len = length_taken m (drop (4 + n) bytes) body third.0 third.1 in
    let whole = parts_whole bytes four head body n m small number first.0 first.1 second.0 second.1 third.1 in
    let head_is : IsBlobHeader (type_of c) (length body) head =
    record {
      fields = parts;
      spelled = read.0;
      fits = read.1;
      named = named ∙ ap Some (sym holds.0);
      sized = told
          ∙ ap Some (sym body_len);
    } in
    record {
      near = near;
      some = positive n m;
      within = fits_within bytes n m first.0 second.0 third.0;
      spelled = record {
        head = head;
        body = body;
        whole = whole;
        head_size =
            subst (λ k. k ≤ HEADER_LIMIT) (sym head_len) few;
        body_size =
            subst (λ k. k ≤ BLOB_LIMIT) (sym body_len) most;
        head_holds = head_is;
        body_holds = holds.1;
      };
    }

pub frame_found : (at : ℕ) (bytes : List ℕ) (c : Content) (size : ℕ) → IsBytes bytes
    → frame_front at bytes ≡ Ok (c, size) → IsFrameFront at c size bytes
unfolding frame_front
frame_found at bytes c size small e =
    let (u, near, r1) = bind_ok _ _ _ e in
    let (four, sized, r2) = bind_ok _ _ _ r1 in
    let (v, few, r3) = bind_ok _ _ _ r2 in
    let (head, headed, r4) = bind_ok _ _ _ r3 in
    let (parts, read, r5) = bind_ok _ _ _ r4 in
    let (kind, named, r6) = bind_ok _ _ _ r5 in
    let (m, told, r7) = bind_ok _ _ _ r6 in
    let (w, most, r8) = bind_ok _ _ _ r7 in
    let (body, bodied, r9) = bind_ok _ _ _ r8 in
    let (content, held, last) = bind_ok _ _ _ r9 in
    let pair = ok_is _ _ last in
    let found : IsFrameFront at content (4 + big_number 4 four + m) bytes =
    frame_from at bytes four head body kind (big_number 4 four) m parts content small
    (ltb-true _ _ (require_ok _ _ u near)) refl (part_found 4 bytes four sized)
    (leb-true _ _ (require_ok _ _ v few)) (part_found (big_number 4 four) (drop 4 bytes) head headed)
    (message_found BLOB_HEADER head parts (told_ok frame_faults.HeaderWire (message BLOB_HEADER head) parts read))
    (ok_or_ok _ frame_faults.NoKind kind named) (ok_or_ok _ frame_faults.NoSize m told)
    (leb-true _ _ (require_ok _ _ w most)) (part_found m (drop (4 + big_number 4 four) bytes) body bodied)
    (content_found kind body content held) in
    subst (λ x. IsFrameFront at x size bytes) (ap (λ p. p.0) pair)
    (subst (λ k. IsFrameFront at content k bytes) (ap (λ p. p.1) pair) found)

-- a blob takes at least four bytes
pub some_bytes : (c : Content) (b : List ℕ) → SpellsFrame c b → 0 < length b
some_bytes c b h =
    let count : length b ≡ length (big_endian 4 (length h.head) ++ h.head) + length h.body = ap length h.whole
    ∙ length-append (big_endian 4 (length h.head) ++ h.head) h.body in
    omega (arith, count, length-append (big_endian 4 (length h.head)) h.head, length-big_endian 4 (length h.head))
