-- Decoding a file has one outcome.
use Rattle.std.proofs.Common.{◌≡◌, ◌⊎◌, inl, inr, ℕ, zero, suc, ◌+◌, ◌<◌, List, [], ◌∷◌, ◌++◌, length, take, drop, get_or, refl, ap, sym, subst, ◌∙◌, arith}
use Rattle.std.proofs.Common.{length-append, take_at, take-append-drop, Option, Some, None}
use Rattle.std.specs.List.{AllByRecursion, enumerate_from}
use Rattle.std.proofs.lemmas.List.{get_or_at, get_or_default}
use Rattle.std.proofs.lemmas.List.FromFn.{length-enumerate_from, get_or-enumerate_from}
use Rattle.std.proofs.Math.Seq.{drop-cons}
use Rattle.dst_spec.specs.Bits.{AreBytes}
use Rattle.dst_spec.specs.Sample.{Shape, IsShape}
use Rattle.dst_spec.specs.declared.faults.FrameFault.{FrameFault}
use Rattle.dst_spec.proofs.Lists.{all_take, get_all}
use Rattle.dsdiff_spec.specs.Form.{Form, shape, size_of_sound}
use Rattle.dsdiff_spec.specs.Rules.{accepted}
use Rattle.dsdiff_spec.specs.Decoded.{Plain, Before, frames_of, decoded, decoded_before_frame}
use Rattle.dsdiff_spec.specs.Words.{Command, decode}
use Rattle.dsdiff_spec.specs.Refusal.{refusal}
use Rattle.dsdiff_spec.specs.Lines.{decoded_line}
use Rattle.dsdiff_spec.specs.Outcome.{Answer, done, file_refused, frame_refused, Refuses, NoneRefused, IsStopped, IsDone, OfCommand}
use Rattle.dsdiff_spec.specs.declared.faults.FileFault.{FileFault}
use Rattle.dsdiff_spec.proofs.CodedFiles.{is_decodable, frames_are_bytes}
use Rattle.dsdiff_spec.specs.Progress.{NotRefused, NoneOf}
use Rattle.dsdiff_spec.proofs.Verdicts.{IsAnswered, frame_is_answered, AreAnswered, StopsAt, verdict, one_list, one_stop, one_fault}

-- ---- the run of a command has each frame with its number
pub none_of_numbered : (c : Command) (form : Form) (n : ℕ) (frames : List (List ℕ)) → NoneRefused c form (enumerate_from n frames) →
    NoneOf c (shape form) frames
none_of_numbered c form n [] h = tt
none_of_numbered c form n (x ∷ xs) h = (h.0, none_of_numbered c form (n + 1) xs h.1)

pub none_numbered : (c : Command) (form : Form) (n : ℕ) (frames : List (List ℕ)) → NoneOf c (shape form) frames → NoneRefused c form (enumerate_from n frames)
none_numbered c form n [] h = tt
none_numbered c form n (x ∷ xs) h = (h.0, none_numbered c form (n + 1) xs h.1)

pub take-numbered : (k n : ℕ) (frames : List (List ℕ)) → take k (enumerate_from n frames) ≡ enumerate_from n (take k frames)
take-numbered zero n frames = refl
take-numbered (suc k) n [] = refl
take-numbered (suc k) n (x ∷ xs) = ap {A = List (ℕ × List ℕ)} (λ rest. (n, x) ∷ rest) (take-numbered k (n + 1) xs)

-- the first frame that is refused, by its number, and what is written in front of it
pub record IsStoppedAt (WrittenAt : ℕ → List ℕ → Type 0) (file : List ℕ) (form : Form) (o : Answer) : Type 0 where
  pub k : ℕ
  pub fault : FrameFault
  pub stops : StopsAt decode (shape form) (frames_of file form) k fault
  pub out : List ℕ
  pub written : WrittenAt k out
  pub answer : o ≡ frame_refused k fault out

pub number_of_stop : (n : ℕ) (frames : List (List ℕ)) (before : List (ℕ × List ℕ)) (stop : ℕ × List ℕ) (behind : List (ℕ × List ℕ)) →
    enumerate_from n frames ≡ before ++ stop ∷ behind →
    (length before < length frames) × (stop.0 ≡ n + length before) × (stop.1 ≡ get_or frames (length before) [])
number_of_stop n frames before stop behind e =
    let k = length before in
    let long : length frames ≡ length before + length (stop ∷ behind) = sym (length-enumerate_from n frames) ∙ ap length e
    ∙ length-append before (stop ∷ behind) in
    let within : k < length frames = omega arith in
    let there : get_or (enumerate_from n frames) k stop ≡ stop = ap (λ l. get_or l k stop) e ∙ get_or_at before stop behind stop k refl in
    let here : (n + k, get_or frames k stop.1) ≡ stop = sym (get_or-enumerate_from n frames k stop within) ∙ there in
    (within, sym (ap (λ p. p.0) here), sym (ap (λ p. p.1) here) ∙ get_or_default frames k stop.1 [] within)

-- what stands before it are the frames below its number
pub front_of_stop : (frames : List (List ℕ)) (before : List (ℕ × List ℕ)) (stop : ℕ × List ℕ) (behind : List (ℕ × List ℕ)) →
    enumerate_from 0 frames ≡ before ++ stop ∷ behind → before ≡ enumerate_from 0 (take (length before) frames)
front_of_stop frames before stop behind e =
    let k = length before in
    sym (take_at before (stop ∷ behind) k refl) ∙ ap (take k) (sym e) ∙ take-numbered k 0 frames

-- a run of all frames that stops at one of them stops at its number
pub stopped_at : (WrittenAt : ℕ → List ℕ → Type 0) (file : List ℕ) (form : Form) (o : Answer) (before : List (ℕ × List ℕ)) (stop : ℕ × List ℕ)
    (behind : List (ℕ × List ℕ)) (fault : FrameFault) (out : List ℕ) → enumerate_from 0 (frames_of file form) ≡ before ++ stop ∷ behind →
    Refuses decode (shape form) stop.1 fault → NoneRefused decode form before → WrittenAt stop.0 out → o ≡ frame_refused stop.0 fault out →
    IsStoppedAt WrittenAt file form o
stopped_at WrittenAt file form o before stop behind fault out is_run refuses first written answer =
    let frames = frames_of file form in
    let k = length before in
    let at = number_of_stop 0 frames before stop behind is_run in
    let number : stop.0 ≡ k = omega (arith, at.1) in
    let front = front_of_stop frames before stop behind is_run in
    record {
      k = k;
      fault = fault;
      stops = record {
        within = at.0;
        first = none_of_numbered decode form 0 (take k frames) (subst (NoneRefused decode form) front first);
        refuses = subst (λ frame. Refuses decode (shape form) frame fault) at.2 refuses;
      };
      out = out;
      written = subst (λ i. WrittenAt i out) number written;
      answer = answer ∙ ap (λ i. frame_refused i fault out) number;
    }

-- the run of all frames, split at the number at which it stops
pub split_at_stop : (form : Form) (frames : List (List ℕ)) (k : ℕ) (fault : FrameFault) → StopsAt decode (shape form) frames k fault →
    (enumerate_from 0 frames ≡ take k (enumerate_from 0 frames) ++ (k, get_or frames k []) ∷ drop (suc k) (enumerate_from 0 frames))
    × NoneRefused decode form (take k (enumerate_from 0 frames))
split_at_stop form frames k fault stops =
    let all = enumerate_from 0 frames in
    let within : k < length all = omega (arith, stops.within, length-enumerate_from 0 frames) in
    let here : get_or all k (0, []) ≡ (k, get_or frames k []) = get_or-enumerate_from 0 frames k (0, []) stops.within
    ∙ ap {B = ℕ × List ℕ} (λ i. (i, get_or frames k [])) (omega arith) in (
      sym (take-append-drop k all) ∙ ap (λ l. take k all ++ l) (drop-cons all k (0, []) within ∙ ap (λ p. p ∷ drop (suc k) all) here),
      subst (NoneRefused decode form) (sym (take-numbered k 0 frames)) (none_numbered decode form 0 (take k frames) stops.first),
    )

-- what decoding writes in front of a refused frame
abbrev pub IsStoppedDecoding : List ℕ → Form → Answer → Type 0
IsStoppedDecoding file form o = IsStoppedAt (Before file form) file form o

pub to_number : (file : List ℕ) (form : Form) (o : Answer) → IsStopped decode file form o → IsStoppedDecoding file form o
to_number file form o s =
    stopped_at (Before file form) file form o s.before s.stop s.behind s.fault s.out s.is_run s.refuses s.first s.written s.answer

pub by_number : (file : List ℕ) (form : Form) (o : Answer) → IsStoppedDecoding file form o → IsStopped decode file form o
by_number file form o s =
    let frames = frames_of file form in
    let split = split_at_stop form frames s.k s.fault s.stops in
    record {
      before = take s.k (enumerate_from 0 frames);
      stop = (s.k, get_or frames s.k []);
      behind = drop (suc s.k) (enumerate_from 0 frames);
      is_run = split.0;
      fault = s.fault;
      refuses = s.stops.refuses;
      first = split.1;
      out = s.out;
      written = s.written;
      answer = s.answer;
    }

-- ---- what is written in front of a frame is one list of bytes, and so is what is written of all frames
pub one_before : (file : List ℕ) (form : Form) (k : ℕ) (out other : List ℕ) → AreAnswered decode (shape form) (frames_of file form) →
    NoneOf decode (shape form) (take k (frames_of file form)) → Before file form k out → Before file form k other → out ≡ other
one_before file form k out other answered none a b =
    let frames = take k (frames_of file form) in
    let same = one_list decode (shape form) frames a.sounds b.sounds
    (all_take (IsAnswered decode (shape form)) k (frames_of file form) answered) none a.each b.each in
    a.written ∙ ap (λ sounds. decoded_before_frame sounds file form) same ∙ sym b.written

pub one_plain : (file : List ℕ) (form : Form) (out other : List ℕ) → AreAnswered decode (shape form) (frames_of file form) →
    NoneOf decode (shape form) (frames_of file form) → Plain file form out → Plain file form other → out ≡ other
one_plain file form out other answered none a b =
    let same = one_list decode (shape form) (frames_of file form) a.sounds b.sounds answered none a.each b.each in
    a.written ∙ ap (λ sounds. decoded sounds file form) same ∙ sym b.written

-- ---- of an accepted file
abbrev pub One : (Answer → Type 0) → Type 0
One P = (o : Answer) × P o × ((other : Answer) → P other → other ≡ o)

abbrev IsOutcome : List ℕ → Form → Answer → Type 0
IsOutcome file form o = IsStopped decode file form o ⊎ IsDone decode file form o

same_stop : (file : List ℕ) (form : Form) (a b : Answer) → AreAnswered decode (shape form) (frames_of file form) →
    IsStoppedDecoding file form a → IsStoppedDecoding file form b → a ≡ b
same_stop file form a b answered s t =
    let c = decode in
    let f = shape form in
    let frames = frames_of file form in
    let number = one_stop c f frames s.k t.k s.fault t.fault s.stops t.stops in
    let moved = subst (λ k. StopsAt c f frames k s.fault) number s.stops in
    let fault = one_fault c f (get_or frames t.k []) s.fault t.fault
    (get_all (IsAnswered c f) frames t.k [] answered t.stops.within) moved.refuses t.stops.refuses in
    let out = one_before file form t.k s.out t.out answered t.stops.first (subst (λ k. Before file form k s.out) number s.written) t.written in
    s.answer
    ∙ ap (λ k. frame_refused k s.fault s.out) number
    ∙ ap (λ fault. frame_refused t.k fault s.out) fault
    ∙ ap (λ out. frame_refused t.k t.fault out) out
    ∙ sym t.answer

never_both : (file : List ℕ) (form : Form) (o : Answer) → IsStoppedDecoding file form o → NoneOf decode (shape form) (frames_of file form) → ⊥
never_both file form o s none = get_all (NotRefused decode (shape form)) (frames_of file form) s.k [] none s.stops.within s.fault s.stops.refuses

one_outcome_of_form : (file : List ℕ) (form : Form) (a b : Answer) → AreAnswered decode (shape form) (frames_of file form) →
    IsOutcome file form a → IsOutcome file form b → a ≡ b
one_outcome_of_form file form a b answered (inl s) (inl t) = same_stop file form a b answered (to_number file form a s) (to_number file form b t)
one_outcome_of_form file form a b answered (inl s) (inr t) =
    absurd (never_both file form a (to_number file form a s) (none_of_numbered decode form 0 (frames_of file form) t.0))
one_outcome_of_form file form a b answered (inr s) (inl t) =
    absurd (never_both file form b (to_number file form b t) (none_of_numbered decode form 0 (frames_of file form) s.0))
one_outcome_of_form file form a b answered (inr s) (inr t) =
    let none = none_of_numbered decode form 0 (frames_of file form) s.0 in
    let out = one_plain file form s.1.0 t.1.0 answered none s.1.1 t.1.1 in
    s.1.2 ∙ ap (λ out. done out (decoded_line form.frames (size_of_sound form) ∷ [])) out ∙ sym t.1.2

some_outcome : (file : List ℕ) (form : Form) → AreAnswered decode (shape form) (frames_of file form) → (o : Answer) × IsOutcome file form o
some_outcome file form answered = elim (verdict decode (shape form) (frames_of file form) answered) [
  | inl s ↦
      let out = decoded_before_frame s.sounds file form in
      let o = frame_refused s.k s.fault out in (
        o,
        inl (by_number file form o (record {
          k = s.k;
          fault = s.fault;
          stops = s.stops;
          out = out;
          written =
              record { sounds = s.sounds; each = s.each; written = refl };
          answer = refl;
        })),
      )
  | inr g ↦
      let out = decoded g.sounds file form in (
        done out (decoded_line form.frames (size_of_sound form) ∷ []),
        inr (none_numbered decode form 0 (frames_of file form) g.none, (out, record { sounds = g.sounds; each = g.each; written = refl }, refl)),
      )
]

pub all_answered : (f : Shape) (frames : List (List ℕ)) → IsShape f → AllByRecursion AreBytes frames → AreAnswered decode f frames
all_answered f [] lawful h = tt
all_answered f (x ∷ xs) lawful h = (frame_is_answered f x lawful h.0, all_answered f xs lawful h.1)

pub frames_are_answered : (file : List ℕ) → AreBytes file → refusal decode file ≡ None →
    AreAnswered decode (shape (accepted file)) (frames_of file (accepted file))
frames_are_answered file bytes h = all_answered (shape (accepted file)) (frames_of file (accepted file)) (is_decodable file h).shape
    (frames_are_bytes file (accepted file) bytes)

pub decoding_has_one_outcome : (file : List ℕ) → AreBytes file → One (OfCommand decode file (refusal decode file))
decoding_has_one_outcome file bytes = go (refusal decode file) refl
  where
    go : (r : Option FileFault) → refusal decode file ≡ r → One (OfCommand decode file r)
    go (Some fault) e = (file_refused fault, refl, λ other o. o)
    go None e =
        let answered = frames_are_answered file bytes e in
        let o = some_outcome file (accepted file) answered in
        (o.0, o.1, λ other p. one_outcome_of_form file (accepted file) other o.0 answered p o.1)
