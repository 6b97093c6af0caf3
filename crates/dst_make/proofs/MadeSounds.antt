-- Made sound frame by frame, and the file around it.
use Rattle.std.proofs.Common.{◌≡◌, ℕ, zero, suc, ◌+◌, ◌-◌, ◌*◌, ◌/◌, ◌%◌, ◌<◌, ◌≤◌, List, [], ◌++◌, length, get_or, take, Option, Result, Ok}
use Rattle.std.proofs.Common.{Err, refl, ap, sym, inl, inr, ◌∙◌, arith, append_assoc, append-nil, length-append}
use Rattle.std.specs.Prelude.{codes, MatchResult}
use Rattle.std.specs.Fmt.{digits}
use Rattle.byteorder.specs.Endian.{big_bytes}
use Rattle.byteorder.specs.Numbers.{length-bytes_high_first}
use Rattle.dst_spec.specs.Sample.{Shape, IsShape, sound_bytes}
use Rattle.dsdiff_spec.specs.Form.{shape_of}
use Rattle.dsdiff_spec.specs.Made.{fver, prop_of, made, made_samples, made_sound, plain_form}
use Rattle.dsdiff_spec.specs.Written.{chunk, cmpr_plain}
use Rattle.dsdiff_spec.proofs.MadeLengths.{prop_is_long, sound_is_long, sound_chunk}
use Rattle.sound_maker.specs.Making.{Maker, frame_of, maker_after}
use Rattle.sound_maker.proofs.Making.{one_frame_more}
use Rattle.dst_streams.specs.Told.{and_then, IsCutShort, IsSure}
use Rattle.dst_commands.specs.Writing.{Adds, Stops}
use Rattle.dst_commands.proofs.Writing.{added, adds_same, cut_off, stops_first, stops_same}
use Rattle.dst_make.specs.Making.{multiple_of, made_file, made_front}

-- ---- the sound
pub length-made_sound : (start frames : ℕ) (f : Shape) → length (made_sound start frames f) ≡ frames * sound_bytes f
unfolding made_sound
length-made_sound start frames f =
    let rows = made_samples start frames f in
    let long = sound_is_long (λ c t. get_or (get_or rows t []) c 0) f.channels (frames * f.octets) in
    omega (arith, long)

-- what it begins with
behind_frames : (start k more : ℕ) (f : Shape) → (rest : List ℕ) × (made_sound start (k + more) f ≡ made_sound start k f ++ rest)
behind_frames start k zero f =
    let none : k + zero ≡ k = omega arith in
    ([], ap (λ n. made_sound start n f) none ∙ sym (append-nil (made_sound start k f)))
behind_frames start k (suc more) f =
    let before = behind_frames start k more f in
    let next : k + suc more ≡ k + more + 1 = omega arith in
    let frame = frame_of (maker_after start (k + more) f) in (
      before.0 ++ frame,
      ap (λ n. made_sound start n f) next
          ∙ one_frame_more start (k + more) f
          ∙ ap (λ s. s ++ frame) before.1
          ∙ append_assoc (made_sound start k f) before.0 frame,
    )

-- the frame that the maker gives, behind the frames before it
pub with_frame : (start k : ℕ) (f : Shape) {maker : Maker} {frame : List ℕ} → maker ≡ maker_after start k f → frame ≡ frame_of maker →
    made_sound start k f ++ frame ≡ made_sound start (k + 1) f
with_frame start k f is e = ap (λ w. made_sound start k f ++ w) (e ∙ ap frame_of is) ∙ sym (one_frame_more start k f)

-- a sink that stops in a frame
pub stops_in_frame : (start k frames : ℕ) (f : Shape) (old new : Option (List ℕ)) (room : Option ℕ) → k < frames →
    Stops (Unit {0}) (made_sound start (k + 1) f) old new room → Stops (Unit {0}) (made_sound start frames f) old new room
stops_in_frame start k frames f old new room below s =
    let rest = behind_frames start (k + 1) (frames - (k + 1)) f in
    let all : k + 1 + (frames - (k + 1)) ≡ frames = omega arith in
    stops_same (Unit {0}) (made_sound start (k + 1) f ++ rest.0) (made_sound start frames f) old new room (sym rest.1 ∙ ap (λ n. made_sound start n f) all)
    (stops_first (Unit {0}) (made_sound start (k + 1) f) rest.0 old new room s)

-- ---- the file around it
-- the pieces in front of the sound: the numbers in them, and the ids of the channels
abbrev pub pieces : (size prop rate chnl count ids sound : List ℕ) → List ℕ
pieces size prop rate chnl count ids sound =
    codes "FRM8" ++ (size ++ ((codes "DSD " ++ fver ++ codes "PROP") ++
    (prop ++ ((codes "SND FS  " ++ big_bytes 8 4) ++
    (rate ++ (codes "CHNL" ++ (chnl ++ (count ++ (ids ++ ((cmpr_plain ++ codes "DSD ") ++ (sound ++ [])))))))))))

abbrev pub ids : List ℕ
ids = codes "C000C001C002C003C004C005"

front_by : (m size sound c : ℕ) → 1 ≤ c → c ≤ 6 →
    pieces (big_bytes 8 size) (big_bytes 8 (66 + 4 * c)) (big_bytes 4 (2822400 * m)) (big_bytes 8 (2 + 4 * c)) (big_bytes 2 c) (take (4 * c) ids)
    (big_bytes 8 sound)
    ≡ codes "FRM8" ++ big_bytes 8 size ++ codes "DSD " ++ fver ++ prop_of c m ++ codes "DSD " ++ big_bytes 8 sound
unfolding digits
front_by m size sound zero least most = absurd (omega (arith, least))
front_by m size sound (suc zero) least most = refl
front_by m size sound (suc (suc zero)) least most = refl
front_by m size sound (suc (suc (suc zero))) least most = refl
front_by m size sound (suc (suc (suc (suc zero)))) least most = refl
front_by m size sound (suc (suc (suc (suc (suc zero))))) least most = refl
front_by m size sound (suc (suc (suc (suc (suc (suc zero)))))) least most = refl
front_by m size sound (suc (suc (suc (suc (suc (suc (suc c))))))) least most = absurd (omega (arith, most))

pub front_is : (frames count multiple n : ℕ) (f : Shape) (size prop rate chnl counted sound : List ℕ) → IsShape f → count ≡ f.channels →
    f.octets ≡ 4704 * multiple → n ≡ frames * sound_bytes f →
    size ≡ big_bytes 8 (110 + 4 * count + n) → prop ≡ big_bytes 8 (66 + 4 * count) → rate ≡ big_bytes 4 (2822400 * multiple) →
    chnl ≡ big_bytes 8 (2 + 4 * count) → counted ≡ big_bytes 2 count → sound ≡ big_bytes 8 n →
    pieces size prop rate chnl counted (take (4 * count) ids) sound ≡ made_front frames f
front_is frames count multiple n f size prop rate chnl counted sound shape is_count is_multiple is_n is_size is_prop is_rate is_chnl is_counted is_sound =
    let m : multiple ≡ multiple_of f = omega (arith, is_multiple) in
    let by_numbers : pieces size prop rate chnl counted (take (4 * count) ids) sound
    ≡ pieces (big_bytes 8 (110 + 4 * count + n)) (big_bytes 8 (66 + 4 * count)) (big_bytes 4 (2822400 * multiple)) (big_bytes 8 (2 + 4 * count))
    (big_bytes 2 count) (take (4 * count) ids) (big_bytes 8 n) =
    ap (λ w. pieces w prop rate chnl counted (take (4 * count) ids) sound) is_size
    ∙ ap (λ w. pieces (big_bytes 8 (110 + 4 * count + n)) w rate chnl counted (take (4 * count) ids) sound) is_prop
    ∙ ap (λ w. pieces (big_bytes 8 (110 + 4 * count + n)) (big_bytes 8 (66 + 4 * count)) w chnl counted (take (4 * count) ids) sound) is_rate
    ∙ ap (λ w. pieces (big_bytes 8 (110 + 4 * count + n)) (big_bytes 8 (66 + 4 * count)) (big_bytes 4 (2822400 * multiple)) w counted
    (take (4 * count) ids) sound) is_chnl
    ∙ ap (λ w. pieces (big_bytes 8 (110 + 4 * count + n)) (big_bytes 8 (66 + 4 * count)) (big_bytes 4 (2822400 * multiple))
    (big_bytes 8 (2 + 4 * count)) w (take (4 * count) ids) sound) is_counted
    ∙ ap (λ w. pieces (big_bytes 8 (110 + 4 * count + n)) (big_bytes 8 (66 + 4 * count)) (big_bytes 4 (2822400 * multiple))
    (big_bytes 8 (2 + 4 * count)) (big_bytes 2 count) (take (4 * count) ids) w) is_sound in
    by_numbers
    ∙ front_by multiple (110 + 4 * count + n) n count (omega (arith, is_count, shape.least)) (omega (arith, is_count, shape.most))
    ∙ ap (λ c. codes "FRM8" ++ big_bytes 8 (110 + 4 * c + n) ++ codes "DSD " ++ fver ++ prop_of c multiple ++ codes "DSD " ++ big_bytes 8 n) is_count
    ∙ ap (λ k. codes "FRM8" ++ big_bytes 8 (110 + 4 * f.channels + n) ++ codes "DSD " ++ fver ++ prop_of f.channels k ++ codes "DSD " ++ big_bytes 8 n) m
    ∙ ap (λ k. codes "FRM8" ++ big_bytes 8 (110 + 4 * f.channels + k) ++ codes "DSD " ++ fver ++ prop_of f.channels (multiple_of f) ++ codes "DSD " ++
    big_bytes 8 k) is_n

-- a call that appends it
pub in_one_call : {T E : Type 0} (result : Result T E) (piece whole : List ℕ) (old new : Option (List ℕ)) (room left : Option ℕ) → piece ≡ whole →
    MatchResult result (λ _. new ≡ and_then old piece) (λ _. IsCutShort old piece new) → IsSure room left (length piece) result →
    MatchResult result (λ _. Adds whole old new room left) (λ _. Stops (Unit {0}) whole old new room)
in_one_call (Ok u) piece whole old new room left is w s = adds_same piece whole old new room left is (added (Ok u) piece old new room left s w)
in_one_call (Err fault) piece whole old new room left is w s = stops_same (Unit {0}) piece whole old new room is (cut_off fault piece old new room left s w)

pub octets_of : (f : Shape) → IsShape f → 4704 * multiple_of f ≡ f.octets
octets_of f s = elim s.rate [ inl e ↦ omega (arith, e) | inr (inl e) ↦ omega (arith, e) | inr (inr e) ↦ omega (arith, e) ]

-- from the pieces to the chunks
regrouped : (a b c d e s : List ℕ) → a ++ b ++ c ++ d ++ e ++ s ≡ a ++ (b ++ (c ++ (d ++ e ++ s)))
regrouped a b c d e s =
    append_assoc (a ++ b ++ c ++ d) e s
    ∙ append_assoc (a ++ b ++ c) d (e ++ s)
    ∙ append_assoc (a ++ b) c (d ++ (e ++ s))
    ∙ append_assoc a b (c ++ (d ++ (e ++ s)))
    ∙ ap (λ w. a ++ (b ++ (c ++ w))) (sym (append_assoc d e s))

sound_is_even : (frames : ℕ) (f : Shape) → IsShape f → frames * sound_bytes f % 2 ≡ 0
sound_is_even frames f s =
    let twice : frames * (4704 * multiple_of f * f.channels) ≡ 2 * (2352 * (frames * (multiple_of f * f.channels))) = omega arith in
    let all : frames * sound_bytes f ≡ 2 * (2352 * (frames * (multiple_of f * f.channels))) =
    ap (λ o. frames * (o * f.channels)) (sym (octets_of f s)) ∙ twice in
    omega (arith, all)

pub file_is : (start frames : ℕ) (f : Shape) → IsShape f → made_front frames f ++ made_sound start frames f ≡ made_file start frames f
unfolding plain_form
file_is start frames f shape =
    let n = frames * sound_bytes f in
    let m = multiple_of f in
    let s = made_sound start frames f in
    let prop = prop_of f.channels m in
    let long : length s ≡ n = length-made_sound start frames f in
    let sound = sound_chunk s n long (sound_is_even frames f shape) in
    let whole = fver ++ (prop ++ (chunk "DSD " s ++ [])) in
    let size : 110 + 4 * f.channels + n ≡ 4 + length whole =
    omega (
      arith,
      length-append fver (prop ++ (chunk "DSD " s ++ [])),
      length-append prop (chunk "DSD " s ++ []),
      prop_is_long m f.channels
          shape.least shape.most,
      ap length (append-nil (chunk "DSD " s)),
      ap length sound,
      length-append (codes "DSD " ++ big_bytes 8 n) s,
      length-append (codes "DSD ") (big_bytes 8 n),
      length-bytes_high_first 8 n,
      long,
    ) in
    let head = codes "FRM8" ++ big_bytes 8 (110 + 4 * f.channels + n) ++ codes "DSD " in
    let same : shape_of f.channels m ≡ f = ap (λ o. record { channels = f.channels; octets = o }) (octets_of f shape) in
    regrouped head fver prop (codes "DSD ") (big_bytes 8 n) s
    ∙ ap (λ w. head ++ (fver ++ (prop ++ w))) (sym sound ∙ sym (append-nil (chunk "DSD " s)))
    ∙ ap (λ k. codes "FRM8" ++ big_bytes 8 k ++ codes "DSD " ++ whole) size
    ∙ ap (λ g. plain_form f.channels m (made_sound start frames g) []) (sym same)

-- by a count and a rate
pub made_at : (start frames channels multiple : ℕ) → made_file start frames (shape_of channels multiple) ≡ made start frames channels multiple
made_at start frames channels multiple =
    let same : 4704 * multiple / 4704 ≡ multiple = omega arith in
    ap (λ m. made start frames channels m) same
