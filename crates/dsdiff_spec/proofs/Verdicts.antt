-- Frames in order: the first that is refused, or the sounds of all of them.
use Rattle.std.proofs.Common.{◌≡◌, ◌⊎◌, inl, inr, ℕ, zero, suc, ◌<◌, List, [], ◌∷◌, ◌++◌, length, take, get_or, refl, ap₂, sym, ◌∙◌, arith}
use Rattle.std.proofs.lemmas.Bool.{cases_order}
use Rattle.std.specs.List.{AllByRecursion, AllZip}
use Rattle.dst_spec.specs.Bits.{AreBytes}
use Rattle.dst_spec.specs.Sample.{Shape, IsShape}
use Rattle.dst_spec.specs.Means.{Means}
use Rattle.dst_spec.specs.declared.faults.FrameFault.{FrameFault}
use Rattle.dst_spec.proofs.Understood.{decoding_law}
use Rattle.dsdiff_spec.specs.Words.{Command, decode}
use Rattle.dsdiff_spec.specs.Outcome.{Refuses}
use Rattle.dsdiff_spec.specs.Progress.{NotRefused, NoneOf}

-- ---- one frame
pub record IsRefusedOnce (c : Command) (f : Shape) (frame : List ℕ) : Type 0 where
  pub fault : FrameFault
  pub refuses : Refuses c f frame fault
  pub only : (other : FrameFault) → Refuses c f frame other → other ≡ fault

pub record IsUnderstoodOnce (c : Command) (f : Shape) (frame : List ℕ) : Type 0 where
  pub sound : List ℕ
  pub means : Means f frame sound
  pub only : (other : List ℕ) → Means f frame other → other ≡ sound
  pub not_refused : NotRefused c f frame

abbrev pub IsAnswered : Command → Shape → List ℕ → Type 0
IsAnswered c f frame = IsRefusedOnce c f frame ⊎ IsUnderstoodOnce c f frame

-- a frame is refused with one fault, or isn't refused and means one sound
pub frame_is_answered : (f : Shape) (frame : List ℕ) → IsShape f → AreBytes frame → IsAnswered decode f frame
frame_is_answered f frame shape bytes = elim (decoding_law f frame shape bytes) [
  | inl (fault, o, one, none) ↦ inl (record { fault = fault; refuses = o; only = one })
  | inr (sound, m, one, none) ↦ inr (record { sound = sound; means = m; only = one; not_refused = none })
]

-- ---- frames one after the other, each of which is answered
abbrev pub AreAnswered : Command → Shape → List (List ℕ) → Type 0
AreAnswered c f frames = AllByRecursion (IsAnswered c f) frames

-- frame k is the first that is refused
pub record StopsAt (c : Command) (f : Shape) (frames : List (List ℕ)) (k : ℕ) (fault : FrameFault) : Type 0 where
  pub within : k < length frames
  pub first : NoneOf c f (take k frames)
  pub refuses : Refuses c f (get_or frames k []) fault

-- the sounds in front of the first frame that is refused, or all sounds
pub record Verdict (c : Command) (f : Shape) (frames : List (List ℕ)) : Type 0 where
  pub k : ℕ
  pub fault : FrameFault
  pub stops : StopsAt c f frames k fault
  pub sounds : List (List ℕ)
  pub each : AllZip (Means f) (take k frames) sounds

pub record Goes (c : Command) (f : Shape) (frames : List (List ℕ)) : Type 0 where
  pub none : NoneOf c f frames
  pub sounds : List (List ℕ)
  pub each : AllZip (Means f) frames sounds

pub verdict : (c : Command) (f : Shape) (frames : List (List ℕ)) → AreAnswered c f frames → Verdict c f frames ⊎ Goes c f frames
verdict c f [] a = inr (record { none = tt; sounds = []; each = tt })
verdict c f (x ∷ xs) (inl r, more) = inl
    (record { k = 0; fault = r.fault; stops = record { within = omega arith; first = tt; refuses = r.refuses }; sounds = []; each = tt })
verdict c f (x ∷ xs) (inr u, more) = elim (verdict c f xs more) [
  | inl s ↦ inl (record {
    k = suc s.k;
    fault = s.fault;
    stops = record { within = let within = s.stops.within in omega arith; first = (u.not_refused, s.stops.first); refuses = s.stops.refuses };
    sounds = u.sound ∷ s.sounds;
    each = (u.means, s.each);
  })
  | inr g ↦ inr (record { none = (u.not_refused, g.none); sounds = u.sound ∷ g.sounds; each = (u.means, g.each) })
]

-- ---- there is one
one_of_taken : {X : Type 0} (P : X → Type 0) (k : ℕ) (xs : List X) (i : ℕ) (d : X) → AllByRecursion P (take k xs) → i < k → i < length xs → P (get_or xs i d)
one_of_taken P zero xs i d h l m = absurd (omega arith)
one_of_taken P (suc k) [] i d h l m = absurd (omega arith)
one_of_taken P (suc k) (x ∷ xs) zero d h l m = h.0
one_of_taken P (suc k) (x ∷ xs) (suc i) d h l m = one_of_taken P k xs i d h.1 (omega arith) (omega arith)

-- frames that aren't refused mean one list of sounds
pub one_list : (c : Command) (f : Shape) (frames a b : List (List ℕ)) → AreAnswered c f frames → NoneOf c f frames → AllZip (Means f) frames a →
    AllZip (Means f) frames b → a ≡ b
one_list c f [] [] [] k none p q = refl
one_list c f [] [] (y ∷ ys) k none p q = absurd q
one_list c f [] (x ∷ xs) b k none p q = absurd p
one_list c f (g ∷ gs) [] b k none p q = absurd p
one_list c f (g ∷ gs) (x ∷ xs) [] k none p q = absurd q
one_list c f (g ∷ gs) (x ∷ xs) (y ∷ ys) (inl r, more) none p q = absurd (none.0 r.fault r.refuses)
one_list c f (g ∷ gs) (x ∷ xs) (y ∷ ys) (inr u, more) none p q =
    ap₂ {A = List ℕ} (λ s ss. s ∷ ss) (u.only x p.0 ∙ sym (u.only y q.0)) (one_list c f gs xs ys more none.1 p.1 q.1)

-- the sounds of some of the first frames are the first of the sounds
pub fewer_sounds : (c : Command) (f : Shape) (frames a b : List (List ℕ)) (k : ℕ) → AreAnswered c f frames → NoneOf c f (take k frames) →
    AllZip (Means f) (take k frames) a → AllZip (Means f) frames b → (more : List (List ℕ)) × (b ≡ a ++ more)
fewer_sounds c f frames [] b k h none p q = (b, refl)
fewer_sounds c f frames (x ∷ xs) b zero h none p q = absurd p
fewer_sounds c f [] (x ∷ xs) b (suc k) h none p q = absurd p
fewer_sounds c f (g ∷ gs) (x ∷ xs) [] (suc k) h none p q = absurd q
fewer_sounds c f (g ∷ gs) (x ∷ xs) (y ∷ ys) (suc k) (inl r, rest) none p q = absurd (none.0 r.fault r.refuses)
fewer_sounds c f (g ∷ gs) (x ∷ xs) (y ∷ ys) (suc k) (inr u, rest) none p q =
    let later = fewer_sounds c f gs xs ys k rest none.1 p.1 q.1 in
    (later.0, ap₂ {A = List ℕ} (λ s ss. s ∷ ss) (u.only y q.0 ∙ sym (u.only x p.0)) later.1)

-- and one frame is the first that is refused, with one fault
pub stop_is_not_earlier : (c : Command) (f : Shape) (frames : List (List ℕ)) (i k : ℕ) (fault : FrameFault) → NoneOf c f (take k frames) → i < k →
    i < length frames → Refuses c f (get_or frames i []) fault → ⊥
stop_is_not_earlier c f frames i k fault none l m r = one_of_taken (NotRefused c f) k frames i [] none l m fault r

pub one_stop : (c : Command) (f : Shape) (frames : List (List ℕ)) (i k : ℕ) (a b : FrameFault) → StopsAt c f frames i a → StopsAt c f frames k b → i ≡ k
one_stop c f frames i k a b s t = elim (cases_order i k) [
  | inl e ↦ e
  | inr (inl l) ↦ absurd (stop_is_not_earlier c f frames i k a t.first l s.within s.refuses)
  | inr (inr l) ↦ absurd (stop_is_not_earlier c f frames k i b s.first l t.within t.refuses)
]

pub one_fault : (c : Command) (f : Shape) (frame : List ℕ) (a b : FrameFault) → IsAnswered c f frame → Refuses c f frame a → Refuses c f frame b → a ≡ b
one_fault c f frame a b (inl r) p q = r.only a p ∙ sym (r.only b q)
one_fault c f frame a b (inr u) p q = absurd (u.not_refused a p)
