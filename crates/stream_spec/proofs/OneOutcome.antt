-- Decoding a stream has one outcome.
use Rattle.std.proofs.Common.{◌≡◌, ◌⊎◌, inl, inr, ℕ, List, [], ◌∷◌, length, drop, get_or, replicate, Option, Some, None, refl, sym, ap, ap₂, subst, ◌∙◌}
use Rattle.std.specs.List.{AllByRecursion, AllZip}
use Rattle.dst_spec.specs.Bits.{AreBytes}
use Rattle.dst_spec.specs.Sample.{Shape, IsShape, sound_bytes}
use Rattle.dst_spec.proofs.Understood.{decoding_law}
use Rattle.dst_spec.proofs.Lists.{get_all, AreBytes-take, AreBytes-drop}
use Rattle.dsdiff_spec.specs.Words.{decode}
use Rattle.dsdiff_spec.specs.Ranges.{MeansOrZeros}
use Rattle.dsdiff_spec.specs.Progress.{NotRefused, NoneOf}
use Rattle.dsdiff_spec.specs.Outcome.{Answer, frame_refused}
use Rattle.dsdiff_spec.specs.Streams.{Ending, ended, stopped, cut_off, Front, Stream, shape_in, stream, PipeOut, piped, piped_before}
use Rattle.dsdiff_spec.proofs.Lawful.{prop_has_a_shape}
use Rattle.dsdiff_spec.proofs.Verdicts.{IsAnswered, AreAnswered, StopsAt, verdict, one_stop, one_fault}
use Rattle.dsdiff_spec.proofs.OneOutcome.{all_answered}
use Rattle.stream_spec.specs.Outcome.{stream_refused, at_ending, IsStopped, IsThrough, IsEarly, OfStream, OneOutcomeLaw}
use Rattle.stream_spec.specs.Lawful.{IsPartOf}
use Rattle.stream_spec.proofs.Lawful.{streams_are_lawful}

-- ---- what is written of a frame
some_sound : (f : Shape) (frame : List ℕ) → IsShape f → AreBytes frame → (sound : List ℕ) × MeansOrZeros f frame sound
some_sound f frame shape bytes = elim (decoding_law f frame shape bytes) [
  | inl (fault, o, one, none) ↦ (replicate (sound_bytes f) 0, inr (none, refl))
  | inr (sound, m, one, none) ↦ (sound, inl m)
]

one_sound : (f : Shape) (frame a b : List ℕ) → IsShape f → AreBytes frame → MeansOrZeros f frame a → MeansOrZeros f frame b → a ≡ b
one_sound f frame a b shape bytes (inl m) (inl n) = elim (decoding_law f frame shape bytes) [
  | inl (fault, o, one, none) ↦ absurd (none a m)
  | inr (sound, k, one, none) ↦ one a m ∙ sym (one b n)
]
one_sound f frame a b shape bytes (inl m) (inr n) = absurd (n.0 a m)
one_sound f frame a b shape bytes (inr m) (inl n) = absurd (m.0 b n)
one_sound f frame a b shape bytes (inr m) (inr n) = m.1 ∙ sym n.1

pub some_sounds : (f : Shape) (frames : List (List ℕ)) → IsShape f → AllByRecursion AreBytes frames → (sounds : List (List ℕ))
    × AllZip (MeansOrZeros f) frames sounds
some_sounds f [] shape bytes = ([], tt)
some_sounds f (x ∷ xs) shape bytes =
    let here = some_sound f x shape bytes.0 in
    let later = some_sounds f xs shape bytes.1 in
    (here.0 ∷ later.0, (here.1, later.1))

one_list : (f : Shape) (frames a b : List (List ℕ)) → IsShape f → AllByRecursion AreBytes frames → AllZip (MeansOrZeros f) frames a →
    AllZip (MeansOrZeros f) frames b → a ≡ b
one_list f [] [] [] shape bytes p q = refl
one_list f [] [] (y ∷ ys) shape bytes p q = absurd q
one_list f [] (x ∷ xs) b shape bytes p q = absurd p
one_list f (g ∷ gs) [] b shape bytes p q = absurd p
one_list f (g ∷ gs) (x ∷ xs) [] shape bytes p q = absurd q
one_list f (g ∷ gs) (x ∷ xs) (y ∷ ys) shape bytes p q =
    ap₂ {A = List ℕ} (λ s ss. s ∷ ss) (one_sound f g x y shape bytes.0 p.0 q.0) (one_list f gs xs ys shape bytes.1 p.1 q.1)

one_out : (s : Stream) (front : Front) (a b : List ℕ) → IsShape (shape_in front.prop) → AllByRecursion AreBytes s.frames → PipeOut s front a →
    PipeOut s front b → a ≡ b
one_out s front a b shape bytes p q =
    p.written ∙ ap (piped front) (one_list (shape_in front.prop) s.frames p.sounds q.sounds shape bytes p.each q.each) ∙ sym q.written

-- ---- behind a front
abbrev Behind : Stream → Front → Answer → Type 0
Behind s front o = IsStopped s front o ⊎ IsThrough s front o

abbrev One : (Answer → Type 0) → Type 0
One P = (o : Answer) × P o × ((other : Answer) → P other → other ≡ o)

stop_of : (s : Stream) (front : Front) (o : Answer) (i : IsStopped s front o) → StopsAt decode (shape_in front.prop) s.frames i.k i.fault
stop_of s front o i = record { within = i.within; first = i.first; refuses = i.offends }

same_stop : (s : Stream) (front : Front) (a b : Answer) → IsShape (shape_in front.prop) → AllByRecursion AreBytes s.frames →
    AreAnswered decode (shape_in front.prop) s.frames → IsStopped s front a → IsStopped s front b → a ≡ b
same_stop s front a b shape bytes answered i j =
    let f = shape_in front.prop in
    let number = one_stop decode f s.frames i.k j.k i.fault j.fault (stop_of s front a i) (stop_of s front b j) in
    let moved = subst (λ k. StopsAt decode f s.frames k i.fault) number (stop_of s front a i) in
    let fault = one_fault decode f (get_or s.frames j.k []) i.fault j.fault
    (get_all (IsAnswered decode f) s.frames j.k [] answered j.within) moved.refuses j.offends in
    let out = one_out s front i.out j.out shape bytes i.written j.written in
    i.answer
    ∙ ap (λ k. frame_refused k i.fault (piped_before front i.out k)) number
    ∙ ap (λ x. frame_refused j.k x (piped_before front i.out j.k)) fault
    ∙ ap (λ w. frame_refused j.k j.fault (piped_before front w j.k)) out
    ∙ sym j.answer

never_both : (s : Stream) (front : Front) (o : Answer) → IsStopped s front o → NoneOf decode (shape_in front.prop) s.frames → ⊥
never_both s front o i none = get_all (NotRefused decode (shape_in front.prop)) s.frames i.k [] none i.within i.fault i.offends

one_behind : (s : Stream) (front : Front) (a b : Answer) → IsShape (shape_in front.prop) → AllByRecursion AreBytes s.frames →
    AreAnswered decode (shape_in front.prop) s.frames → Behind s front a → Behind s front b → a ≡ b
one_behind s front a b shape bytes answered (inl i) (inl j) = same_stop s front a b shape bytes answered i j
one_behind s front a b shape bytes answered (inl i) (inr j) = absurd (never_both s front a i j.none)
one_behind s front a b shape bytes answered (inr i) (inl j) = absurd (never_both s front b j i.none)
one_behind s front a b shape bytes answered (inr i) (inr j) =
    let out = one_out s front i.out j.out shape bytes i.written j.written in
    i.answer ∙ ap (at_ending s.ending front (length s.frames)) out ∙ sym j.answer

some_behind : (s : Stream) (front : Front) → s.front ≡ Some front → IsShape (shape_in front.prop) → AllByRecursion AreBytes s.frames →
    AreAnswered decode (shape_in front.prop) s.frames → (o : Answer) × Behind s front o
some_behind s front has shape bytes answered =
    let sounds = some_sounds (shape_in front.prop) s.frames shape bytes in
    let out = piped front sounds.0 in
    let written : PipeOut s front out = record { has_front = has; sounds = sounds.0; each = sounds.1; written = refl } in
    elim (verdict decode (shape_in front.prop) s.frames answered) [
      | inl stop ↦ (
        frame_refused stop.k stop.fault (piped_before front out stop.k),
        inl (record {
          k = stop.k;
          fault = stop.fault;
          within = stop.stops.within;
          first = stop.stops.first;
          offends = stop.stops.refuses;
          out = out;
          written = written;
          answer = refl;
        }),
      )
      | inr goes ↦ (at_ending s.ending front (length s.frames) out, inr (record { none = goes.none; out = out; written = written; answer = refl }))
    ]

-- ---- frames of bytes are bytes
parts_are_bytes : (w : List ℕ) (frames : List (List ℕ)) → AreBytes w → AllByRecursion (IsPartOf w) frames → AllByRecursion AreBytes frames
parts_are_bytes w [] bytes parts = tt
parts_are_bytes w (x ∷ xs) bytes ((place, n, e), parts) =
    (subst AreBytes (sym e) (AreBytes-take n (drop place w) (AreBytes-drop place w bytes)), parts_are_bytes w xs bytes parts)

pub frames_are_bytes : (w : List ℕ) (front : Front) → AreBytes w → (stream w).front ≡ Some front → AllByRecursion AreBytes (stream w).frames
frames_are_bytes w front bytes e = parts_are_bytes w (stream w).frames bytes ((streams_are_lawful w).frames front e).parts

pub one_outcome : OneOutcomeLaw
one_outcome w bytes = go (stream w).front refl
  where
    early : (e : Ending) → (stream w).ending ≡ e → (stream w).front ≡ None → One (IsEarly e)
    early (stopped fault) same none = (stream_refused fault [], refl, λ other o. o)
    early (cut_off fault) same none = (stream_refused fault [], refl, λ other o. o)
    early ended same none =
        let front = (streams_are_lawful w).ended same in
        let never = sym none ∙ front.1 in
        absurd cc

    go : (front : Option Front) → (stream w).front ≡ front → One (OfStream (stream w) front)
    go None e = early (stream w).ending refl e
    go (Some front) e =
        let shape = prop_has_a_shape 0 front.prop ((streams_are_lawful w).front front e).rules in
        let frames = frames_are_bytes w front bytes e in
        let answered = all_answered (shape_in front.prop) (stream w).frames shape frames in
        let o = some_behind (stream w) front e shape frames answered in
        (o.0, o.1, λ other p. one_behind (stream w) front other o.0 shape frames answered p o.1)
