-- The promise of the whole: what encoding writes of a plain file, what decoding gives back of it, and any one of its frames.
use Rattle.std.proofs.Common.{◌≡◌, ◌⊎◌, inl, inr, ℕ, ◌+◌, ◌<◌, ◌≤◌, Bool, true, false, List, [], ◌∷◌, length, take, drop, get_or, None, refl, sym, ap, ap₂}
use Rattle.std.proofs.Common.{subst, ◌∙◌, arith}
use Rattle.std.specs.List.{AllByRecursion, AllZip}
use Rattle.std.proofs.lemmas.List.Elements.{AllZip-get_or, length_all_zip}
use Rattle.dst_spec.specs.Bits.{AreBytes}
use Rattle.dst_spec.specs.Sample.{Shape, IsShape}
use Rattle.dst_spec.specs.Means.{Means}
use Rattle.dst_spec.specs.Laws.{IsRefused, IsUnderstood}
use Rattle.dst_spec.proofs.Understood.{decoding_law}
use Rattle.level_spec.specs.Picks.{level_picks}
use Rattle.level_spec.proofs.Lawful.{picks_are_lawful}
use Rattle.dst_spec.proofs.Lists.{AreBytes-take, AreBytes-drop, get_all}
use Rattle.dsdiff_spec.specs.Chunks.{body_place, body_of}
use Rattle.dsdiff_spec.specs.Form.{shape, sound_bytes_of, size_of_sound}
use Rattle.dsdiff_spec.specs.Rules.{accepted}
use Rattle.dsdiff_spec.specs.Walk.{index_heads, compare_fault}
use Rattle.dsdiff_spec.specs.Coded.{pieces}
use Rattle.dsdiff_spec.specs.Decoded.{frames_of}
use Rattle.dsdiff_spec.specs.Words.{Command, encode, decode, frame}
use Rattle.dsdiff_spec.specs.Refusal.{refusal}
use Rattle.dsdiff_spec.specs.Lines.{coded_line, decoded_line, frame_line}
use Rattle.dsdiff_spec.specs.Outcome.{Answer, done, coded_at, stored_at, nth_frame, OfCommand}
use Rattle.dsdiff_spec.specs.Laws.{IsCodedFile, ArePicks, IsTheOutcome, LevelPicksLaw, HeadlineLaw}
use Rattle.dsdiff_spec.specs.Progress.{NotRefused, NoneOf}
use Rattle.dsdiff_spec.proofs.OneOutcome.{none_numbered}
use Rattle.dsdiff_spec.proofs.OneAnswer.{HasOutcome, command_has_one_outcome}
use Rattle.dsdiff_spec.proofs.Progress.{frame_of_entry}
use Rattle.dsdiff_spec.proofs.ByIndex.{same_by_index}
use Rattle.dsdiff_laws.proofs.StoredBytes.{pieces_are}
use Rattle.dsdiff_laws.proofs.Acceptance.{encoded_is, walk_of_coded, same_frames, acceptance}
use Rattle.dsdiff_laws.proofs.Restoring.{comes_back, meant, same_shape, same_size}

-- ---- an outcome is the one
is_the_outcome : (c : Command) (file : List ℕ) (o : Answer) → HasOutcome c → AreBytes file → OfCommand c file (refusal c file) o → IsTheOutcome c file o
is_the_outcome c file o has bytes is =
    let one = command_has_one_outcome c file has bytes in
    (is, λ other h. one.2 other h ∙ sym (one.2 o is))

accepted_outcome : (c : Command) (file : List ℕ) (o : Answer) → refusal c file ≡ None → OfCommand c file None o → OfCommand c file (refusal c file) o
accepted_outcome c file o accepts is = subst (λ q. OfCommand c file q o) (sym accepts) is

same_rules : (level : ℕ) (file : List ℕ) → refusal (encode level) file ≡ refusal (encode 1) file
unfolding refusal
same_rules level file = refl

-- ---- a frame that means a sound isn't refused
not_refused : (f : Shape) (w sound : List ℕ) → IsShape f → AreBytes w → Means f w sound → NotRefused decode f w
not_refused f w sound lawful bytes means = go (decoding_law f w lawful bytes)
  where
    go : IsRefused f w ⊎ IsUnderstood f w → NotRefused decode f w
    go (inl refused) = absurd (refused.3 sound means)
    go (inr understood) = understood.3

none_refused : (f : Shape) (frames sounds : List (List ℕ)) → IsShape f → AllByRecursion AreBytes frames → AllZip (Means f) frames sounds →
    NoneOf decode f frames
none_refused f [] [] lawful bytes all = tt
none_refused f [] (s ∷ sounds) lawful bytes all = absurd all
none_refused f (w ∷ frames) [] lawful bytes all = absurd all
none_refused f (w ∷ frames) (s ∷ sounds) lawful bytes all = (not_refused f w s lawful bytes.0 all.0, none_refused f frames sounds lawful bytes.1 all.1)

-- ---- one frame of a coded file whose index is its walk
bytes_of_body : (size place : ℕ) (file : List ℕ) → AreBytes file → AreBytes (take size (drop place file))
bytes_of_body size place file h = AreBytes-take size (drop place file) (AreBytes-drop place file h)

frame_is_written : (g : List ℕ) (k n : ℕ) (sound : List ℕ) (b : Bool) → nth_frame g (accepted g) k ≡ get_or (frames_of g (accepted g)) k [] →
    Means (shape (accepted g)) (get_or (frames_of g (accepted g)) k []) sound →
    NotRefused decode (shape (accepted g)) (get_or (frames_of g (accepted g)) k []) →
    length sound ≡ n → refusal (frame k false) g ≡ None → IsCodedFile g → (1 ≤ length (index_heads (accepted g))) × (compare_fault g (accepted g) ≡ None) →
    OfCommand (frame k b) g (refusal (frame k b) g) (done sound (frame_line k n ∷ []))
frame_is_written g k n sound b is means unrefused long accepts coded indexed = go b
  where
    by_walk : OfCommand (frame k false) g (refusal (frame k false) g) (done sound (frame_line k n ∷ []))
    by_walk = accepted_outcome (frame k false) g (done sound (frame_line k n ∷ [])) accepts (inr (
      (subst (NotRefused decode (shape (accepted g))) (sym is) unrefused, tt),
      (sound, subst (λ w. Means (shape (accepted g)) w sound) (sym is) means, ap (λ m. done sound (frame_line k m ∷ [])) (sym long)),
    ))

    go : (b : Bool) → OfCommand (frame k b) g (refusal (frame k b) g) (done sound (frame_line k n ∷ []))
    go false = by_walk
    go true = (same_by_index k g coded indexed (done sound (frame_line k n ∷ []))).1 by_walk

-- ---- the picks of a level
pub level_picks_law : LevelPicksLaw
level_picks_law level sound f lawful is = picks_are_lawful level sound f lawful

pub headline : HeadlineLaw
headline file level plain_file =
    let picks = level_picks level in
    let form = accepted file in
    let g = coded_at level file form in
    let form' = accepted g in
    let are : ArePicks picks = level_picks_law level in
    let e = encoded_is file picks plain_file are in
    let a = acceptance file picks plain_file are in
    let back = comes_back file picks e in
    let list = pieces (sound_bytes_of form) (body_of file form.sound) in
    let means = meant file picks e in
    let count = same_frames file picks e in
    let size = same_size file picks e in
    let lawful : IsShape (shape form') = subst IsShape (sym (same_shape file picks e)) e.shape in
    let bytes = subst (AllByRecursion AreBytes) (sym (walk_of_coded file picks e).stored) e.stored.bytes in
    let none = none_refused (shape form') (frames_of g form') list lawful bytes means in
    let coded_is = accepted_outcome (encode level) file (done g (coded_line form.frames (stored_at level file form) ∷ []))
    (same_rules level file ∙ plain_file.1) (inr (tt, refl)) in
    let line = ap₂ (λ m n. done file (decoded_line m n ∷ [])) count size in
    let decoded_is = accepted_outcome decode g (done file (decoded_line form.frames (size_of_sound form) ∷ [])) a.0.1
    (inr (none_numbered decode form' 0 (frames_of g form') none, (file, back, sym line))) in
    record {
      encoded = is_the_outcome (encode level) file _ tt plain_file.0 coded_is;
      never_longer = subst (AllByRecursion (λ w. length w ≤ 1 + sound_bytes_of form)) (sym a.4) a.5;
      decoded = is_the_outcome decode g _ tt a.0.0 decoded_is;
      each_frame = λ k b l.
          let within : k < length (frames_of g form') = omega (arith, l, e.count, ap length a.4) in
          let each = pieces_are (sound_bytes_of form) (body_of file form.sound) (bytes_of_body form.sound.size (body_place form.sound) file plain_file.0) in
          let as_many = length_all_zip (Means (shape form')) (frames_of g form') list means in
          let long = (get_all (λ w. (length w ≡ sound_bytes_of form) × AreBytes w) list k [] each (omega (arith, within, as_many))).0 in
          let one = AllZip-get_or (Means (shape form')) (frames_of g form') list k [] [] means within in
          let unrefused = get_all (NotRefused decode (shape form')) (frames_of g form') k [] none within in
          is_the_outcome (frame k b) g _ tt a.0.0
          (frame_is_written g k (sound_bytes_of form) (get_or list k []) b (frame_of_entry g form' k within) one unrefused long (a.3 k l false).1 a.0
          (omega (arith, a.6.0), a.6.1));
    }
