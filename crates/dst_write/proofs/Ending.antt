-- How encoding ends: short of its sizes, while they are written, or whole.
use Rattle.std.proofs.Common.{◌≡◌, ◌⊎◌, inl, inr, ℕ, ◌+◌, ◌-◌, ◌≤◌, List, [], ◌++◌, length, map, take, drop, flat_map, Option, Some, None, Result, Err}
use Rattle.std.proofs.Common.{refl, sym, ap, subst, ◌∙◌, arith, length-drop}
use Rattle.std.specs.Prelude.{IsOk}
use Rattle.std.specs.List.{range_with_len}
use Rattle.std.proofs.lemmas.List.{length-map, length-take}
use Rattle.std.proofs.lemmas.List.FromFn.{length-range_with_len}
use Rattle.byteorder.specs.Endian.{big_bytes}
use Rattle.byteorder.specs.Numbers.{length-bytes_high_first}
use Rattle.dst_streams.specs.Told.{and_then, written_over, IsOpenIn, IsSameOutside}
use Rattle.dsdiff_spec.specs.Chunks.{body_place, body_of}
use Rattle.dsdiff_spec.specs.Form.{Form, frames_for, sound_bytes_of}
use Rattle.dsdiff_spec.specs.Written.{dstf}
use Rattle.dsdiff_spec.specs.Coded.{Picks, coded_with, pieces, stored_frames}
use Rattle.dsdiff_chunks.specs.Lawful.{IsPlainForm}
use Rattle.dst_commands.specs.Writing.{Adds, Stops}
use Rattle.dst_commands.proofs.Writing.{adds_same, adds_then}
use Rattle.dst_write.specs.Encoding.{IsStopped}
use Rattle.dst_write.specs.Layout.{end, form_size, front, sound_size, unsized}
use Rattle.dst_write.specs.Unfinished.{HoldsNothing, HoldsUnfinished, IsUnfinished, form_size_place, sound_size_place, sized, zero_at, SizesEnd}
use Rattle.dst_write.proofs.Sized.{around, between_fields, behind_fields, coded_is, unsized_is, sound_place, sound_over, size_over, outside_sound}
use Rattle.dst_write.proofs.Sized.{outside_size, outside_then, zeros}

-- ---- a sink that held nothing
of_nothing : (P : Option (List ℕ) → Type 0) → P None → P (Some []) → (old : Option (List ℕ)) → HoldsNothing old → P old
of_nothing P none some None h = none
of_nothing P none some (Some bytes) h = subst (λ w. P (Some w)) (sym h) some

-- a sink that holds nothing has a file that isn't finished
pub nothing_yet : (place : ℕ) (out : List ℕ) (held : Option (List ℕ)) → HoldsNothing held → HoldsUnfinished place out held
nothing_yet place out = of_nothing (HoldsUnfinished place out) (tt {0}) (inl (0, omega arith, refl))

-- ---- how many frames there are
pub stored_count : (picks : Picks) (file : List ℕ) (form : Form) → IsPlainForm form → form.end ≤ length file →
    length (stored_frames picks file form) ≡ form.frames
unfolding stored_frames pieces
stored_count picks file form lawful fits =
    let n = sound_bytes_of form in
    let sound = body_of file form.sound in
    let long : length sound ≡ form.sound.size = omega (
      arith,
      lawful.padded,
      length-take form.sound.size (drop (body_place form.sound) file),
      length-drop
          (body_place form.sound) file,
    ) in
    length-map (pieces n sound) _
    ∙ length-map (range_with_len 0 (frames_for n (length sound))) _
    ∙ length-range_with_len 0 (frames_for n (length sound))
    ∙ ap (frames_for n) long
    ∙ sym lawful.frames

-- ---- the parts of a coded file
abbrev size_of : List (List ℕ) → List ℕ → Form → List ℕ
size_of frames file form = big_bytes 8 (form_size (map length frames) file form)

abbrev sound_of : List (List ℕ) → List ℕ
sound_of frames = big_bytes 8 (sound_size (map length frames))

place_is : (file : List ℕ) (form : Form) → sound_place file form ≡ sound_size_place file form
place_is file form = omega arith

module _ (frames : List (List ℕ)) (file : List ℕ) (form : Form) (count : length frames ≡ form.frames)
  where
    abbrev out : List ℕ
    out = coded_with frames file form

    abbrev b : List ℕ
    b = between_fields file form

    abbrev c : List ℕ
    c = behind_fields frames file form

    long_size : length (size_of frames file form) ≡ 8
    long_size = length-bytes_high_first 8 (form_size (map length frames) file form)

    long_sound : length (sound_of frames) ≡ 8
    long_sound = length-bytes_high_first 8 (sound_size (map length frames))

    whole : out ≡ around (size_of frames file form) b (sound_of frames) c
    whole = coded_is frames file form count

    same_length : length (unsized frames file form) ≡ length out
    same_length =
        let first = outside_size (size_of frames file form) zeros b (sound_of frames) c long_size refl in
        let second = outside_sound zeros (sound_of frames) zeros c file form refl long_sound refl in
        ap length (unsized_is frames file form) ∙ second.length_is ∙ first.length_is ∙ ap length (sym whole)

    -- with zeros for the size of the form, and for both
    size_zero : zero_at form_size_place out ≡ around zeros b (sound_of frames) c
    size_zero = ap (zero_at form_size_place) whole ∙ size_over (size_of frames file form) zeros b (sound_of frames) c long_size refl

    both_zero : zero_at form_size_place (zero_at (sound_place file form) out) ≡ unsized frames file form
    both_zero =
        ap (λ w. zero_at form_size_place (zero_at (sound_place file form) w)) whole
        ∙ ap (zero_at form_size_place) (sound_over (size_of frames file form) (sound_of frames) zeros c file form long_size long_sound refl)
        ∙ size_over (size_of frames file form) zeros b zeros c long_size refl
        ∙ sym (unsized_is frames file form)

    -- ---- what isn't finished
    prefix : (taken : ℕ) → taken ≤ length (unsized frames file form) → IsUnfinished (sound_place file form) out (take taken (unsized frames file form))
    prefix taken le = inl (taken, omega (arith, same_length), ap (take taken) (sym both_zero))

    sound_open : (held : List ℕ) → IsSameOutside (sound_place file form) 8 (unsized frames file form) held → IsUnfinished (sound_place file form) out held
    sound_open held h =
        inr (inl (
        outside_then (sound_place file form) 8 _ _ held
        (subst (λ w. IsSameOutside (sound_place file form) 8 w (around zeros b zeros c)) (sym size_zero)
        (outside_sound zeros (sound_of frames) zeros c file form refl long_sound refl))
        (subst (λ w. IsSameOutside (sound_place file form) 8 w held) (unsized_is frames file form) h)
        ))

    size_open : (held : List ℕ) → IsSameOutside form_size_place 8 (around zeros b (sound_of frames) c) held → IsUnfinished (sound_place file form) out held
    size_open held h =
        inr (inr (
        outside_then form_size_place 8 _ _ held
        (subst (λ w. IsSameOutside form_size_place 8 w (around zeros b (sound_of frames) c)) (sym whole)
        (outside_size (size_of frames file form) zeros b (sound_of frames) c long_size refl))
        h
        ))

    -- the size of the sound is written
    sound_written : (mid : Option (List ℕ)) → mid ≡ Some (unsized frames file form) →
        written_over mid (sound_place file form) (sound_of frames) ≡ Some (around zeros b (sound_of frames) c)
    sound_written mid e =
        ap (λ w. written_over w (sound_place file form) (sound_of frames)) e
        ∙ ap (λ w. Some (take (sound_place file form) w ++ sound_of frames ++ drop (sound_place file form + length (sound_of frames)) w))
        (unsized_is frames file form)
        ∙ ap Some (sound_over zeros zeros (sound_of frames) c file form refl refl long_sound)

    -- ---- all but the sizes, piece by piece, where the frames have these sizes
    pub all_added : (sizes : List ℕ) (old a b new : Option (List ℕ)) (room half less left : Option ℕ) → sizes ≡ map length frames →
        Adds (front file form) old a room half → Adds (flat_map dstf frames) a b half less → Adds (end sizes file form) b new less left →
        Adds (unsized frames file form) old new room left
    all_added sizes old a b new room half less left is p q r =
        adds_then (front file form ++ flat_map dstf frames) (end (map length frames) file form) old b new room less left
        (adds_then (front file form) (flat_map dstf frames) old a b room half less p q)
        (adds_same (end sizes file form) (end (map length frames) file form) b new less left (ap (λ (w : List ℕ). end w file form) is) r)

    pub sizes_as : {T E : Type 0} (result : Result T E) (place sound size : ℕ) (mid new : Option (List ℕ)) →
        place ≡ sound_place file form → sound ≡ sound_size (map length frames) → size ≡ form_size (map length frames) file form →
        SizesEnd result place sound size mid new →
        SizesEnd result (sound_place file form) (sound_size (map length frames)) (form_size (map length frames) file form) mid new
    sizes_as result place sound size mid new p q r h =
        subst (λ n. SizesEnd result (sound_place file form) (sound_size (map length frames)) n mid new) r
        (subst (λ n. SizesEnd result (sound_place file form) n size mid new) q (subst (λ n. SizesEnd result n sound size mid new) p h))

    -- ---- it stops before all but the sizes is written
    pub stopped_short : (P : Type 0) (old new : Option (List ℕ)) (room : Option ℕ) → Stops P (unsized frames file form) old new room →
        IsStopped P out (sound_size_place file form) old new room
    stopped_short P old new room h = record {
      unfinished = λ nothing.
          subst (λ place. HoldsUnfinished place out new) (place_is file form)
          (of_nothing (λ old. new ≡ and_then old (take h.cut.taken (unsized frames file form)) → HoldsUnfinished (sound_place file form) out new)
          (λ e. subst (HoldsUnfinished (sound_place file form) out) (sym e) (tt {0}))
          (λ e. subst (HoldsUnfinished (sound_place file form) out) (sym e) (prefix h.cut.taken h.cut.within))
          old nothing h.cut.written);
      lacks = λ p n e fits. h.lacks p n e (omega (arith, same_length));
    }

    -- ---- the sizes are written, or the sink fails while they are
    open_where : (place : ℕ) (mid new : Option (List ℕ)) (bytes : List ℕ) (P : List ℕ → Type 0) → mid ≡ Some bytes → IsOpenIn place 8 mid new →
        ((held : List ℕ) → IsSameOutside place 8 bytes held → P held) → (held : List ℕ) × (new ≡ Some held) × P held
    open_where place mid new bytes P e h f =
        let there : IsOpenIn place 8 (Some bytes) new = subst (λ w. IsOpenIn place 8 w new) e h in
        (there.0, there.1, f there.0 there.2)

    told_nothing : (place : ℕ) (mid new : Option (List ℕ)) → mid ≡ None → IsOpenIn place 8 mid new → new ≡ None
    told_nothing place mid new e h = subst (λ w. IsOpenIn place 8 w new) e h

    abbrev written_to : ℕ → Option (List ℕ) → Option (List ℕ)
    written_to place mid = written_over mid place (sound_of frames)

    unfinished_by : (mid new : Option (List ℕ)) → mid ≡ Some (unsized frames file form) →
        IsOpenIn (sound_place file form) 8 mid new ⊎ IsOpenIn form_size_place 8 (written_to (sound_place file form) mid) new → HoldsUnfinished
        (sound_place file form) out new
    unfinished_by mid new e (inl h) =
        let there = open_where (sound_place file form) mid new _ (IsUnfinished (sound_place file form) out) e h sound_open in
        subst (HoldsUnfinished (sound_place file form) out) (sym there.1) there.2
    unfinished_by mid new e (inr h) =
        let there = open_where form_size_place _ new _ (IsUnfinished (sound_place file form) out) (sound_written mid e) h size_open in
        subst (HoldsUnfinished (sound_place file form) out) (sym there.1) there.2

    untold_by : (mid new : Option (List ℕ)) → mid ≡ None →
        IsOpenIn (sound_place file form) 8 mid new ⊎ IsOpenIn form_size_place 8 (written_to (sound_place file form) mid) new → HoldsUnfinished
        (sound_place file form) out new
    untold_by mid new e (inl h) = subst (HoldsUnfinished (sound_place file form) out) (sym (told_nothing (sound_place file form) mid new e h)) (tt {0})
    untold_by mid new e (inr h) =
        subst (HoldsUnfinished (sound_place file form) out) (sym (told_nothing form_size_place _ new (ap (written_to (sound_place file form)) e) h)) (tt {0})

    pub stopped_at_sizes : (T E : Type 0) (result : Result T E) (fault : E) (P : Type 0) (old mid new : Option (List ℕ)) (room half : Option ℕ) →
        result ≡ Err fault → Adds (unsized frames file form) old mid room half →
        SizesEnd result (sound_place file form) (sound_size (map length frames)) (form_size (map length frames) file form) mid new →
        ((n : ℕ) → half ≡ Some n → IsOk result) → IsStopped P out (sound_size_place file form) old new room
    stopped_at_sizes T E result fault P old mid new room half e h ends sure =
        let failed = subst (λ r. SizesEnd r (sound_place file form) (sound_size (map length frames))
        (form_size (map length frames) file form) mid new) e ends in
        record {
          unfinished = λ nothing.
              subst (λ place. HoldsUnfinished place out new) (place_is file form)
              (of_nothing (λ old. mid ≡ and_then old (unsized frames file form) → HoldsUnfinished (sound_place file form) out new)
              (λ is. untold_by mid new is failed) (λ is. unfinished_by mid new is failed) old nothing h.written);
          lacks = λ p n is fits.
              let taken : IsOk result = sure (n - length (unsized frames file form)) (h.lowered n is (omega (arith, same_length))) in
              let never : IsOk {T = T} {E = E} (Err fault) = subst IsOk e taken in
              absurd cc;
        }

    pub ended_whole : (old mid new : Option (List ℕ)) (room half : Option ℕ) → Adds (unsized frames file form) old mid room half →
        new ≡ sized (sound_place file form) (sound_size (map length frames))
        (form_size (map length frames) file form) mid → HoldsNothing old → new ≡ and_then old out
    ended_whole old mid new room half h e nothing =
        of_nothing (λ old. mid ≡ and_then old (unsized frames file form) → new ≡ and_then old out)
        (λ is. e ∙ ap (sized (sound_place file form) (sound_size (map length frames)) (form_size (map length frames) file form)) is)
        (λ is.
        e
        ∙ ap (λ w. written_over w form_size_place (size_of frames file form)) (sound_written mid is)
        ∙ ap Some (size_over zeros (size_of frames file form) b (sound_of frames) c refl long_size ∙ sym whole))
        old nothing h.written
