-- How the decoding of a stream ends, from what came of it.
use Rattle.std.proofs.Common.{◌≡◌, ◌⊎◌, inl, inr, ℕ, suc, ◌+◌, ◌-◌, ◌*◌, ◌<◌, ◌≤◌, List, [], ◌∷◌, ◌++◌, length, take, drop, get_or, replicate, Option}
use Rattle.std.proofs.Common.{Some, None, refl, sym, ap, ap₂, subst, ◌∙◌, arith, length-append, append-nil, append_assoc, take-append-drop}
use Rattle.std.specs.List.{AllByRecursion, AllZip, concat}
use Rattle.std.proofs.lemmas.Bool.{cases_lt}
use Rattle.std.proofs.lemmas.List.{take_all, get_or_at}
use Rattle.std.proofs.Math.Seq.{take-append_seam}
use Rattle.std.proofs.Math.Nat.{mul-le-mul_right}
use Rattle.dst_spec.specs.Bits.{AreBytes}
use Rattle.dst_spec.specs.Sample.{Shape, IsShape, sound_bytes}
use Rattle.dst_spec.specs.Means.{Means}
use Rattle.dst_spec.specs.Offends.{Offends}
use Rattle.dst_spec.specs.declared.faults.FrameFault.{FrameFault}
use Rattle.dsdiff_spec.specs.declared.faults.FileFault.{FileFault}
use Rattle.dsdiff_spec.specs.Ranges.{MeansOrZeros}
use Rattle.dsdiff_spec.specs.Words.{decode}
use Rattle.dsdiff_spec.specs.Progress.{NoneOf}
use Rattle.dsdiff_spec.specs.Outcome.{Answer, frame_refused}
use Rattle.dsdiff_spec.specs.Streams.{Ending, ended, stopped, cut_off, Front, shape_in, stream, PipeOut, piped, piped_before, place_of_piped_sound}
use Rattle.dsdiff_spec.proofs.Lawful.{prop_has_a_shape}
use Rattle.dsdiff_spec.proofs.Pieces.{AreWhole, length-sounds}
use Rattle.dsdiff_spec.proofs.Progress.{BeginsWith, take-joined}
use Rattle.dsdiff_spec.proofs.Verdicts.{stop_is_not_earlier}
use Rattle.dsdiff_spec.proofs.Sounding.{one_of_both, long_of_both}
use Rattle.stream_spec.specs.Lawful.{IsLawfulFront}
use Rattle.stream_spec.specs.More.{GoesOn}
use Rattle.stream_spec.specs.Outcome.{StreamOutcome, OfStream, IsStopped, IsThrough, at_ending}
use Rattle.stream_spec.proofs.Lawful.{streams_are_lawful}
use Rattle.stream_spec.proofs.More.{more_bytes}
use Rattle.stream_spec.proofs.OneOutcome.{some_sounds, frames_are_bytes, one_outcome}
use Rattle.push_decoder.specs.Events.{begun, has_ended, has_stopped, front_event, frame_event}
use Rattle.dst_commands.specs.Writing.{Stops}
use Rattle.dst_commands.proofs.Writing.{stops_in, stops_at_once}
use Rattle.dst_pipes.specs.Fronts.{front_bytes}
use Rattle.dst_pipes.specs.States.{AreSounds, BeginsSo}
use Rattle.dst_pipes.specs.Endings.{IsStoppedShort, LacksRoom}
use Rattle.dst_pipes.proofs.Events.{all_behind}
use Rattle.dst_pipes.proofs.Written.{size_of, zeros, piped_is, length-front}

-- ---- what is decided stays
pub stays_ended : (p rest : List ℕ) → (stream p).ending ≡ ended → stream (p ++ rest) ≡ stream p
stays_ended p rest e = subst (λ x. GoesOn x (stream p) (stream (p ++ rest))) e (more_bytes p rest)

pub stays_stopped : (p rest : List ℕ) (fault : FileFault) → (stream p).ending ≡ stopped fault → stream (p ++ rest) ≡ stream p
stays_stopped p rest fault e = subst (λ x. GoesOn x (stream p) (stream (p ++ rest))) e (more_bytes p rest)

-- ---- events
pub end_is : (frames : List (List ℕ)) (e : Ending) → frame_event frames e ≡ Some has_ended → (frames ≡ []) × (e ≡ ended)
end_is (f ∷ fs) e same = absurd cc
end_is [] ended same = (refl, refl)
end_is [] (stopped fault) same = absurd cc
end_is [] (cut_off fault) same = absurd cc

pub stop_is : (frames : List (List ℕ)) (e : Ending) (fault : FileFault) → frame_event frames e ≡ Some (has_stopped fault) → (frames ≡ []) × (e ≡ stopped fault)
stop_is (f ∷ fs) e fault same = absurd cc
stop_is [] ended fault same = absurd cc
stop_is [] (stopped g) fault same = (let one : g ≡ fault = cc in (refl, ap stopped one))
stop_is [] (cut_off g) fault same = absurd cc

pub early_stop_is : (front : Option Front) (e : Ending) (fault : FileFault) → front_event front e ≡ Some (has_stopped fault) → (front ≡ None)
    × (e ≡ stopped fault)
early_stop_is (Some f) e fault same = absurd cc
early_stop_is None ended fault same = absurd cc
early_stop_is None (stopped g) fault same = (let one : g ≡ fault = cc in (refl, ap stopped one))
early_stop_is None (cut_off g) fault same = absurd cc

pub no_front : (front : Option Front) (e : Ending) → front_event front e ≡ None → front ≡ None
no_front None e same = refl
no_front (Some f) e same = absurd cc

pub all_frames : (frames all : List (List ℕ)) → take (length frames) all ≡ frames → drop (length frames) all ≡ [] → all ≡ frames
all_frames frames all first none =
    sym (take-append-drop (length frames) all) ∙ ap (λ x. take (length frames) all ++ x) none ∙ append-nil (take (length frames) all) ∙ first

-- ---- sounds
means_or_zeros : (f : Shape) (frames sounds : List (List ℕ)) → AllZip (Means f) frames sounds → AllZip (MeansOrZeros f) frames sounds
means_or_zeros f [] [] all = tt
means_or_zeros f [] (y ∷ ys) all = absurd all
means_or_zeros f (x ∷ xs) [] all = absurd all
means_or_zeros f (x ∷ xs) (y ∷ ys) all = (inl all.0, means_or_zeros f xs ys all.1)

whole : (f : Shape) (frames sounds : List (List ℕ)) → AllZip (MeansOrZeros f) frames sounds → AreWhole (sound_bytes f) sounds × (length sounds ≡ length frames)
whole f [] [] all = (tt, refl)
whole f [] (y ∷ ys) all = absurd all
whole f (x ∷ xs) [] all = absurd all
whole f (x ∷ xs) (y ∷ ys) all = (let later = whole f xs ys all.1 in ((long_of_both f x y all.0, later.0), ap suc later.1))

zip_both : (f : Shape) (xs zs : List (List ℕ)) (ys ws : List (List ℕ)) → AllZip (MeansOrZeros f) xs ys → AllZip (MeansOrZeros f) zs ws →
    AllZip (MeansOrZeros f) (xs ++ zs) (ys ++ ws)
zip_both f [] zs [] ws a b = b
zip_both f [] zs (y ∷ ys) ws a b = absurd a
zip_both f (x ∷ xs) zs [] ws a b = absurd a
zip_both f (x ∷ xs) zs (y ∷ ys) ws a b = (a.0, zip_both f xs zs ys ws a.1 b)

-- the first of some sounds are those of the first frames
first_sounds : (f : Shape) (frames later sounds all : List (List ℕ)) → IsShape f → AllZip (Means f) frames sounds →
    AllZip (MeansOrZeros f) (frames ++ later) all →
    (more : List (List ℕ)) × (all ≡ sounds ++ more)
first_sounds f [] later [] all lawful p q = (all, refl)
first_sounds f [] later (y ∷ ys) all lawful p q = absurd p
first_sounds f (x ∷ xs) later [] all lawful p q = absurd p
first_sounds f (x ∷ xs) later (y ∷ ys) [] lawful p q = absurd q
first_sounds f (x ∷ xs) later (y ∷ ys) (z ∷ zs) lawful p q =
    let rest = first_sounds f xs later ys zs lawful p.1 q.1 in
    (rest.0, ap₂ {A = List ℕ} (λ a as_are. a ∷ as_are) (one_of_both f x y z lawful p.0 q.0) rest.1)

concat_both : (xs ys : List (List ℕ)) → concat (xs ++ ys) ≡ concat xs ++ concat ys
concat_both [] ys = refl
concat_both (x ∷ xs) ys = ap (λ w. x ++ w) (concat_both xs ys) ∙ sym (append_assoc x (concat xs) (concat ys))

-- ---- a stream with this front and these frames first
pub record Has (w : List ℕ) (front : Front) (frames later : List (List ℕ)) : Type 0 where
  pub has_front : (stream w).front ≡ Some front
  pub has_frames : (stream w).frames ≡ frames ++ later

pub has_begun : (p rest : List ℕ) (front : Front) (frames : List (List ℕ)) → BeginsSo p (begun front frames) →
    Has (p ++ rest) front frames (drop (length frames) (stream (p ++ rest)).frames)
has_begun p rest front frames begins =
    let are = begins rest in
    record {
      has_front = are.0;
      has_frames = sym (take-append-drop (length frames) (stream (p ++ rest)).frames)
          ∙ ap (λ x. x ++ drop (length frames) (stream (p ++ rest)).frames) are.1;
    }

lawful_of : (w : List ℕ) (front : Front) → (stream w).front ≡ Some front → IsLawfulFront front
lawful_of w front e = (streams_are_lawful w).front front e

shape_of_front : (w : List ℕ) (front : Front) → (stream w).front ≡ Some front → IsShape (shape_in front.prop)
shape_of_front w front e = prop_has_a_shape 0 front.prop (lawful_of w front e).rules

few_of : (w : List ℕ) (front : Front) (frames later : List (List ℕ)) → Has w front frames later → length (frames ++ later) ≤ front.frames
few_of w front frames later h =
    let few = ((streams_are_lawful w).frames front h.has_front).few in
    omega (arith, few, ap length h.has_frames)

-- ---- what is written up to some sounds
before_is : (front : Front) (a b : List (List ℕ)) → length front.version ≡ 4 → AreWhole (size_of front) (a ++ b) → AreWhole (size_of front) a →
    length (a ++ b) ≤ front.frames →
    piped_before front (piped front (a ++ b)) (length a) ≡ front_bytes front ++ concat a
before_is front a b four both first le =
    let h = front_bytes front in
    let z = zeros front (length (a ++ b)) in
    let long : place_of_piped_sound front + length a * size_of front ≡ length (h ++ concat a) =
    omega (arith, length-append h (concat a), length-front front four, length-sounds (size_of front) a first) in
    ap (take (place_of_piped_sound front + length a * size_of front)) (piped_is front (a ++ b) four both le
    ∙ ap (λ x. h ++ (x ++ z)) (concat_both a b) ∙ seam h (concat a) (concat b) z)
    ∙ ap (λ n. take n ((h ++ concat a) ++ (concat b ++ z))) long
    ∙ take-append_seam (h ++ concat a) (concat b ++ z)
  where
    seam : (h x y z : List ℕ) → h ++ ((x ++ y) ++ z) ≡ (h ++ x) ++ (y ++ z)
    seam h x y z = simp append_assoc refl

whole_is : (front : Front) (a : List (List ℕ)) → length front.version ≡ 4 → AreWhole (size_of front) a → length a ≡ front.frames →
    piped front a ≡ front_bytes front ++ concat a
whole_is front a four first all =
    let none : front.frames - length a ≡ 0 = omega (arith, all) in
    piped_is front a four first (omega (arith, all))
    ∙ ap (λ n. front_bytes front ++ (concat a ++ concat (replicate n (replicate (size_of front) 0)))) none
    ∙ ap (λ x. front_bytes front ++ x) (append-nil (concat a))

-- ---- outcomes
out_of : (w : List ℕ) (front : Front) (all : List (List ℕ)) → (stream w).front ≡ Some front →
    AllZip (MeansOrZeros (shape_in front.prop)) (stream w).frames all →
    PipeOut (stream w) front (piped front all)
out_of w front all has each = record { has_front = has; sounds = all; each = each; written = refl }

pub through : (w : List ℕ) (front : Front) (frames : List (List ℕ)) (e : Ending) (sounds : List (List ℕ)) → (stream w).front ≡ Some front →
    (stream w).frames ≡ frames →
    (stream w).ending ≡ e → AreSounds front frames sounds → StreamOutcome w (at_ending e front (length frames) (piped front sounds))
through w front frames e sounds has same is_ending are =
    subst (λ x. OfStream (stream w) x (at_ending e front (length frames) (piped front sounds))) (sym has)
    (inr (record {
      none = subst (NoneOf decode (shape_in front.prop)) (sym same) are.none;
      out = piped front sounds;
      written = out_of w front sounds has (subst (λ fs. AllZip (MeansOrZeros (shape_in front.prop)) fs sounds) (sym same)
          (means_or_zeros (shape_in front.prop) frames sounds are.each));
      answer = ap₂ (λ x n. at_ending x front n (piped front sounds)) (sym is_ending) (ap length (sym same));
    }))

sounds_whole : (front : Front) (frames sounds : List (List ℕ)) → AreSounds front frames sounds → AreWhole (size_of front) sounds
    × (length sounds ≡ length frames)
sounds_whole front frames sounds are = whole (shape_in front.prop) frames sounds (means_or_zeros (shape_in front.prop) frames sounds are.each)

-- what is written behind the last frame that came, and behind the last of the frame count
pub behind_all : (w : List ℕ) (front : Front) (frames sounds : List (List ℕ)) → (stream w).front ≡ Some front → (stream w).frames ≡ frames →
    AreSounds front frames sounds →
    piped_before front (piped front sounds) (length frames) ≡ front_bytes front ++ concat sounds
behind_all w front frames sounds has same are =
    let both = sounds_whole front frames sounds are in
    let few = ((streams_are_lawful w).frames front has).few in
    ap₂ (λ x n. piped_before front (piped front x) n) (sym (append-nil sounds)) (sym both.1)
    ∙ before_is front sounds [] (lawful_of w front has).version (subst (AreWhole (size_of front)) (sym (append-nil sounds)) both.0) both.0
    (omega (arith, few, ap length same, both.1, length-append sounds []))

pub all_written : (w : List ℕ) (front : Front) (frames sounds : List (List ℕ)) → (stream w).front ≡ Some front → (stream w).frames ≡ frames →
    (stream w).ending ≡ ended →
    AreSounds front frames sounds → piped front sounds ≡ front_bytes front ++ concat sounds
all_written w front frames sounds has same end are =
    let both = sounds_whole front frames sounds are in
    let count = ((streams_are_lawful w).frames front has).ended end in
    whole_is front sounds (lawful_of w front has).version both.0 (omega (arith, count, ap length same, both.1))

-- the first frame that offends
pub refused : (w : List ℕ) (front : Front) (frames : List (List ℕ)) (frame : List ℕ) (later sounds : List (List ℕ)) (fault : FrameFault) → AreBytes w →
    Has w front (frames ++ frame ∷ []) later → AreSounds front frames sounds → Offends (shape_in front.prop) frame fault →
    StreamOutcome w (frame_refused (length frames) fault (front_bytes front ++ concat sounds))
refused w front frames frame later sounds fault bytes h are offends =
    let f = shape_in front.prop in
    let rest = frame ∷ later in
    let all : (stream w).frames ≡ frames ++ rest = h.has_frames ∙ append_assoc frames (frame ∷ []) later in
    let shape = shape_of_front w front h.has_front in
    let more = some_sounds f rest shape (behind AreBytes frames rest (subst (AllByRecursion AreBytes) all (frames_are_bytes w front bytes h.has_front))) in
    let first = means_or_zeros f frames sounds are.each in
    let each = zip_both f frames rest sounds more.0 first more.1 in
    let count = whole f (frames ++ rest) (sounds ++ more.0) each in
    let here = whole f frames sounds first in
    let few = ((streams_are_lawful w).frames front h.has_front).few in
    let out = piped front (sounds ++ more.0) in
    let is_before : piped_before front out (length frames) ≡ front_bytes front ++ concat sounds =
    ap (piped_before front out) (sym here.1)
    ∙ before_is front sounds more.0 (lawful_of w front h.has_front).version count.0 here.0 (omega (arith, few, ap length all, count.1)) in
    subst (λ x. OfStream (stream w) x (frame_refused (length frames) fault (front_bytes front ++ concat sounds))) (sym h.has_front)
    (inl (record {
      k = length frames;
      fault = fault;
      within = omega (arith, ap length all, length-append frames rest);
      first = subst (NoneOf decode f) (sym (ap (take (length frames)) all ∙ take-append_seam frames rest)) are.none;
      offends = subst (λ x. Offends f x fault)
          (sym (ap (λ fs. get_or fs (length frames) []) all ∙ get_or_at frames frame later [] (length frames) refl)) offends;
      out = out;
      written = out_of w front (sounds ++ more.0) h.has_front (subst (λ fs. AllZip (MeansOrZeros f) fs (sounds ++ more.0)) (sym all) each);
      answer = ap (frame_refused (length frames) fault) (sym is_before);
    }))
  where
    behind : {A : Type 0} (P : A → Type 0) (xs ys : List A) → AllByRecursion P (xs ++ ys) → AllByRecursion P ys
    behind P xs ys every = all_behind P xs ys every

-- ---- every outcome begins with the front and the sounds of frames that came
begins_cut : (n : ℕ) (x y : List ℕ) → length x ≤ n → BeginsWith (take n (x ++ y)) x
begins_cut n x y le = record { rest = take (n - length x) y; is = take-joined n x y ∙ ap (λ w. w ++ take (n - length x) y) (take_all n x le) }

seam_of : (front : Front) (a b : List (List ℕ)) (z : List ℕ) → front_bytes front ++ (concat (a ++ b) ++ z) ≡ (front_bytes front ++ concat a) ++ (concat b ++ z)
seam_of front a b z = ap (λ x. front_bytes front ++ (x ++ z)) (concat_both a b) ∙ grouped (front_bytes front) (concat a) (concat b) z
  where
    grouped : (h x y z : List ℕ) → h ++ ((x ++ y) ++ z) ≡ (h ++ x) ++ (y ++ z)
    grouped h x y z = simp append_assoc refl

out_begins : (w : List ℕ) (front : Front) (frames later sounds : List (List ℕ)) (out : List ℕ) → Has w front frames later → AreSounds front frames sounds →
    PipeOut (stream w) front out → (y : List ℕ) × (out ≡ (front_bytes front ++ concat sounds) ++ y)
out_begins w front frames later sounds out h are p =
    let f = shape_in front.prop in
    let each = subst (λ fs. AllZip (MeansOrZeros f) fs p.sounds) h.has_frames p.each in
    let more = first_sounds f frames later sounds p.sounds (shape_of_front w front h.has_front) are.each each in
    let count = whole f (frames ++ later) p.sounds each in
    let few = few_of w front frames later h in
    let z = zeros front (length p.sounds) in (
      concat more.0 ++ z,
      p.written ∙ piped_is front p.sounds (lawful_of w front h.has_front).version count.0 (omega (arith, few, count.1))
          ∙ ap (λ x. front_bytes front ++ (concat x ++ z)) more.1
          ∙ seam_of front sounds more.0 z,
    )

before_begins : (w : List ℕ) (front : Front) (frames later sounds : List (List ℕ)) (out : List ℕ) (k : ℕ) → Has w front frames later →
    AreSounds front frames sounds →
    PipeOut (stream w) front out → length frames ≤ k → BeginsWith (piped_before front out k) (front_bytes front ++ concat sounds)
before_begins w front frames later sounds out k h are p le =
    let both = sounds_whole front frames sounds are in
    let o = out_begins w front frames later sounds out h are p in
    let x = front_bytes front ++ concat sounds in
    let n = place_of_piped_sound front + k * size_of front in
    let more = mul-le-mul_right (size_of front) le in
    let long = length-append (front_bytes front) (concat sounds) in
    subst (λ v. BeginsWith (take n v) x) (sym o.1)
    (begins_cut n x o.0 (omega (
      arith,
      more,
      long,
      length-front front (lawful_of w front h.has_front).version,
      length-sounds (size_of front) sounds
          both.0,
      ap (λ m. m * size_of front) both.1,
    )))

end_begins : (w : List ℕ) (front : Front) (frames later sounds : List (List ℕ)) (out : List ℕ) (e : Ending) → Has w front frames later →
    AreSounds front frames sounds →
    PipeOut (stream w) front out → BeginsWith (at_ending e front (length (stream w).frames) out).out (front_bytes front ++ concat sounds)
end_begins w front frames later sounds out ended h are p =
    (let o = out_begins w front frames later sounds out h are p in record { rest = o.0; is = o.1 })
end_begins w front frames later sounds out (stopped fault) h are p =
    before_begins w front frames later sounds out (length (stream w).frames) h are p (omega (arith, ap length h.has_frames, length-append frames later))
end_begins w front frames later sounds out (cut_off fault) h are p =
    before_begins w front frames later sounds out (length (stream w).frames) h are p (omega (arith, ap length h.has_frames, length-append frames later))

outcome_begins : (w : List ℕ) (front : Front) (frames later sounds : List (List ℕ)) (o : Answer) → Has w front frames later → AreSounds front frames sounds →
    IsStopped (stream w) front o ⊎ IsThrough (stream w) front o → BeginsWith o.out (front_bytes front ++ concat sounds)
outcome_begins w front frames later sounds o h are (inr i) =
    subst (λ (a : Answer). BeginsWith a.out (front_bytes front ++ concat sounds)) (sym i.answer)
    (end_begins w front frames later sounds i.out (stream w).ending h are i.written)
outcome_begins w front frames later sounds o h are (inl i) =
    subst (λ (a : Answer). BeginsWith a.out (front_bytes front ++ concat sounds)) (sym i.answer)
    (before_begins w front frames later sounds i.out i.k h are i.written (reached (cases_lt i.k (length frames))))
  where
    reached : (i.k < length frames) ⊎ (length frames ≤ i.k) → length frames ≤ i.k
    reached (inr le) = le
    reached (inl lt) = absurd (stop_is_not_earlier decode (shape_in front.prop) (stream w).frames i.k (length frames) i.fault
        (subst (NoneOf decode (shape_in front.prop)) (sym (ap (take (length frames)) h.has_frames ∙ take-append_seam frames later)) are.none) lt
        i.within i.offends)

pub every_outcome_begins : (w : List ℕ) (front : Front) (frames later sounds : List (List ℕ)) → Has w front frames later → AreSounds front frames sounds →
    (o : Answer) → StreamOutcome w o → BeginsWith o.out (front_bytes front ++ concat sounds)
every_outcome_begins w front frames later sounds h are o p =
    outcome_begins w front frames later sounds o h are (subst (λ x. OfStream (stream w) x o) h.has_front p)

-- ---- a device that failed
pub stopped_short : (P : Type 0) (w piece : List ℕ) (old new : Option (List ℕ)) (room : Option ℕ) → AreBytes w →
    ((o : Answer) → StreamOutcome w o → BeginsWith o.out piece) →
    Stops P piece old new room → IsStoppedShort w old new
stopped_short P w piece old new room bytes front s =
    let one = one_outcome w bytes in
    (one.0, one.1, (stops_in P one.0.out piece old new room (front one.0 one.1) s).cut)

pub lacks_room : (w piece : List ℕ) (old new : Option (List ℕ)) (room : Option ℕ) → ((o : Answer) → StreamOutcome w o → BeginsWith o.out piece) →
    Stops (Unit {0}) piece old new room → LacksRoom w room
lacks_room w piece old new room front s o is_one = (stops_in (Unit {0}) o.out piece old new room (front o is_one) s).lacks (tt {0})

pub nothing_written : (w : List ℕ) (told : Option (List ℕ)) → AreBytes w → IsStoppedShort w told told
nothing_written w told bytes =
    let one = one_outcome w bytes in
    (one.0, one.1, (stops_at_once ⊥ one.0.out told None (λ p. p)).cut)
