-- Each frame of a run is settled, and what a command does where none is refused is one answer.
use Rattle.std.proofs.Common.{◌≡◌, ◌≢◌, ◌⊎◌, inl, inr, ℕ, zero, suc, ◌+◌, Bool, List, [], ◌∷◌, length, map, take, drop, get_or, arith, length-take-le}
use Rattle.std.proofs.Common.{take-append-drop, refl, ap, ap₂, sym, subst, ◌∙◌, Option, Result, Ok, Err}
use Rattle.std.specs.Prelude.{sum}
use Rattle.std.specs.List.{AllByRecursion, AllZip, enumerate_from}
use Rattle.dst_spec.specs.Bits.{bits, AreBytes}
use Rattle.dst_spec.specs.Sample.{Shape, IsShape}
use Rattle.dst_spec.specs.Header.{Params, HasHeader}
use Rattle.dst_spec.specs.Means.{MeansWithTail, IsPlain, IsCoded}
use Rattle.dst_spec.specs.Fields.{read}
use Rattle.dst_spec.specs.Offends.{frame_fields, Offends}
use Rattle.dst_spec.specs.declared.faults.FrameFault.{FrameFault}
use Rattle.dst_spec.specs.declared.faults.Reason.{Reason}
use Rattle.dst_spec.specs.declared.faults.Reason.TheVariants.{Truncated, PlainStuffing, MultiSegment, MapSkips, MethodReserved, TableTooShort, CoefRange}
use Rattle.dst_spec.specs.declared.faults.Reason.TheVariants.{ProbRange, FirstCodeBit, CodeRange}
use Rattle.dst_spec.proofs.Headers.{header_law}
use Rattle.dst_spec.proofs.HeaderFaults.{IsHeaderReason}
use Rattle.dst_spec.proofs.CodeFaults.{header_in_front}
use Rattle.dst_spec.proofs.Understood.{decoding_law, read_means}
use Rattle.dst_spec.proofs.Unique.{tail_of_meaning, one_tail}
use Rattle.dsdiff_spec.specs.Form.{Form, shape}
use Rattle.dsdiff_spec.specs.Words.{frame, check, show_frame}
use Rattle.dsdiff_spec.specs.Lines.{Line, frame_line, check_line, plain_frame_line, coded_frame_line}
use Rattle.dsdiff_spec.specs.Outcome.{Answer, done, Refuses, Shows, WritesSound}
use Rattle.dsdiff_spec.specs.Progress.{NotRefused}
use Rattle.dsdiff_spec.proofs.Stopping.{IsSettled, AreSettled, One}
use Rattle.dst_spec.proofs.Lists.{same_err}

-- ---- a frame offends in one way, or in none
abbrev pub OffendsOnce : Shape → List ℕ → Type 0
OffendsOnce f w = (fault : FrameFault) × Offends f w fault × ((other : FrameFault) → Offends f w other → other ≡ fault)

abbrev pub OffendsNever : Shape → List ℕ → Type 0
OffendsNever f w = (fault : FrameFault) → Offends f w fault → ⊥

pub offends_or_not : (f : Shape) (w : List ℕ) → OffendsOnce f w ⊎ OffendsNever f w
offends_or_not f w = go (read (frame_fields f) (bits w) 0) refl
  where
    go : (q : Result (Option Params × List ℕ × ℕ) FrameFault) → read (frame_fields f) (bits w) 0 ≡ q → OffendsOnce f w ⊎ OffendsNever f w
    go (Err fault) e = inl (fault, e, λ other o. same_err other fault (sym o ∙ e))
    go (Ok r) e = inr (λ fault o. neither (sym e ∙ o))
      where
        neither : {A : Type 0} {x : A} {fault : FrameFault} → ◌≡◌ {A = Result A FrameFault} (Ok x) (Err fault) → ⊥
        neither h = absurd cc

-- for a command that refuses a frame where it offends
pub frame_is_settled : (k : ℕ) (b : Bool) (f : Shape) (w : List ℕ) → IsSettled (frame k b) f w
frame_is_settled k b f w = elim (offends_or_not f w) [
  | inl (fault, o, one) ↦ inl (record { fault = fault; refuses = o; only = one })
  | inr none ↦ inr none
]

pub checked_are_settled : (form : Form) (n : ℕ) (frames : List (List ℕ)) → AreSettled check form (enumerate_from n frames)
checked_are_settled form n [] = tt
checked_are_settled form n (w ∷ ws) = (one (offends_or_not (shape form) w), checked_are_settled form (n + 1) ws)
  where
    one : OffendsOnce (shape form) w ⊎ OffendsNever (shape form) w → IsSettled check (shape form) w
    one (inl (fault, o, only)) = inl (record { fault = fault; refuses = o; only = only })
    one (inr none) = inr none

-- for one that refuses it where it offends in front of its code
in_front : (reason : Reason) → IsHeaderReason reason ⊎ ((reason ≡ FirstCodeBit) ⊎ (reason ≡ CodeRange))
in_front Truncated = inl tt
in_front PlainStuffing = inl tt
in_front MultiSegment = inl tt
in_front MapSkips = inl tt
in_front MethodReserved = inl tt
in_front TableTooShort = inl tt
in_front CoefRange = inl tt
in_front ProbRange = inl tt
in_front FirstCodeBit = inr (inl refl)
in_front CodeRange = inr (inr refl)

not_of_code : (reason : Reason) → IsHeaderReason reason → (reason ≢ FirstCodeBit) × (reason ≢ CodeRange)
not_of_code reason h = ((λ e. subst IsHeaderReason e h), (λ e. subst IsHeaderReason e h))

of_code : (reason : Reason) → (reason ≡ FirstCodeBit) ⊎ (reason ≡ CodeRange) → IsHeaderReason reason → ⊥
of_code reason (inl e) h = subst IsHeaderReason e h
of_code reason (inr e) h = subst IsHeaderReason e h

pub shown_is_settled : (k : ℕ) (f : Shape) (w : List ℕ) → IsSettled (show_frame k) f w
shown_is_settled k f w = elim (offends_or_not f w) [
  | inl (fault, o, one) ↦ go fault o one (in_front fault.reason)
  | inr none ↦ inr (λ fault r. none fault r.0)
]
  where
    go : (fault : FrameFault) → Offends f w fault → ((other : FrameFault) → Offends f w other → other ≡ fault) →
        IsHeaderReason fault.reason ⊎ ((fault.reason ≡ FirstCodeBit) ⊎ (fault.reason ≡ CodeRange)) → IsSettled (show_frame k) f w
    go fault o one (inl h) = inl (record {
      fault = fault;
      refuses = (o, (not_of_code fault.reason h).0, (not_of_code fault.reason h).1);
      only =
          λ other r. one other r.0;
    })
    go fault o one (inr e) = inr (λ other r. never other r e (one other r.0))
      where
        never : (other : FrameFault) → Refuses (show_frame k) f w other → (fault.reason ≡ FirstCodeBit) ⊎ (fault.reason ≡ CodeRange) → other ≡ fault → ⊥
        never other r (inl e) is = r.1 (ap (λ (f : FrameFault). f.reason) is ∙ e)
        never other r (inr e) is = r.2 (ap (λ (f : FrameFault). f.reason) is ∙ e)

-- ---- one sound
pub one_sound : (form : Form) (k : ℕ) (w : List ℕ) → IsShape (shape form) → AreBytes w → OffendsNever (shape form) w → One (WritesSound form k w)
one_sound form k w lawful bytes never = elim (decoding_law (shape form) w lawful bytes) [
  | inl (fault, o, one, none) ↦ absurd (never fault o)
  | inr (sound, m, one, none) ↦
      (done sound (frame_line k (length sound) ∷ []), (sound, m, refl), λ other d. d.2 ∙ ap (λ s. done s (frame_line k (length s) ∷ [])) (one d.0 d.1))
]

-- ---- the sounds and tails of all frames
abbrev pub AllMean : Shape → List (List ℕ) → List (List ℕ × ℕ) → Type 0
AllMean f frames sounds = AllZip (λ w s. MeansWithTail f w s.0 s.1) frames sounds

pub record OneList (f : Shape) (frames : List (List ℕ)) : Type 0 where
  pub sounds : List (List ℕ × ℕ)
  pub all : AllMean f frames sounds
  pub only : (others : List (List ℕ × ℕ)) → AllMean f frames others → others ≡ sounds

no_more : (f : Shape) (others : List (List ℕ × ℕ)) → AllMean f [] others → others ≡ []
no_more f [] h = refl
no_more f (o ∷ os) h = absurd h

one_more : (f : Shape) (w : List ℕ) (ws : List (List ℕ)) (sound : List ℕ) (tail : ℕ) → IsShape f → MeansWithTail f w sound tail → (rest : OneList f ws) →
    (others : List (List ℕ × ℕ)) → AllMean f (w ∷ ws) others → others ≡ (sound, tail) ∷ rest.sounds
one_more f w ws sound tail lawful m rest [] h = absurd h
one_more f w ws sound tail lawful m rest (o ∷ os) h =
    let same = one_tail f w o.0 sound o.1 tail lawful h.0 m in
    ap₂ {A = List ℕ × ℕ} {B = List (List ℕ × ℕ)} (λ x xs. x ∷ xs) (ap₂ {A = List ℕ} {B = ℕ} {C = List ℕ × ℕ} (λ a b. (a, b)) same.0 same.1) (rest.only os h.1)

pub one_list : (f : Shape) (n : ℕ) (frames : List (List ℕ)) → IsShape f → AllByRecursion AreBytes frames →
    AllByRecursion (λ (p : ℕ × List ℕ). OffendsNever f p.1) (enumerate_from n frames) → OneList f frames
one_list f n [] lawful bytes never = record { sounds = []; all = tt; only = no_more f }
one_list f n (w ∷ ws) lawful bytes never =
    let rest = one_list f (n + 1) ws lawful bytes.1 never.1 in
    elim (decoding_law f w lawful bytes.0) [
      | inl (fault, o, one, none) ↦ absurd (never.0 fault o)
      | inr (sound, m, one, none) ↦
          let t = tail_of_meaning f w sound m in
          record { sounds = (sound, t.0) ∷ rest.sounds; all = (t.1, rest.all); only = one_more f w ws sound t.0 lawful t.1 rest }
    ]

abbrev checked : Form → List (List ℕ × ℕ) → Answer
checked form sounds = done [] (check_line form.frames (sum (map (λ s. s.1) sounds)) ∷ [])

pub one_check : (form : Form) (frames : List (List ℕ)) → OneList (shape form) frames →
    One (λ o. (sounds : List (List ℕ × ℕ)) × AllMean (shape form) frames sounds × (o ≡ checked form sounds))
one_check form frames l = (checked form l.sounds, (l.sounds, l.all, refl), λ other d. d.2 ∙ ap (checked form) (l.only d.0 d.1))

-- ---- one line
coded_is_not_plain : (f : Shape) (w sound : List ℕ) (P : Params) (place : ℕ) → IsPlain f w sound → HasHeader f.channels P (take place (bits w)) → ⊥
coded_is_not_plain f w sound P place p h =
    let first : get_or (take place (bits w)) 0 0 ≡ 1 = ap (λ (l : List ℕ). get_or l 0 0) h.spelled in
    go (bits w) place p.coded first
  where
    go : (xs : List ℕ) (n : ℕ) → get_or xs 0 0 ≡ 0 → get_or (take n xs) 0 0 ≡ 1 → ⊥
    go xs zero a b = absurd cc
    go [] (suc n) a b = absurd cc
    go (x ∷ xs) (suc n) a b = absurd (omega (arith, a, b))

one_shown : (f : Shape) (k : ℕ) (w : List ℕ) (line other : Line) → IsShape f → Shows f k w line → Shows f k w other → other ≡ line
one_shown f k w line other lawful (inl (s, p, e)) (inl (t, q, d)) = d ∙ sym e
one_shown f k w line other lawful (inl (s, p, e)) (inr (Q, place, inside, h, d)) = absurd (coded_is_not_plain f w s Q place p h)
one_shown f k w line other lawful (inr (P, place, inside, h, e)) (inl (t, q, d)) = absurd (coded_is_not_plain f w t P place q h)
one_shown f k w line other lawful (inr (P, place, inside, h, e)) (inr (Q, later, within, j, d)) =
    let xs = bits w in
    let most = lawful.most in
    let same = header_law f.channels Q P (take later xs) (take place xs) (drop later xs) (drop place xs) most j h
    (take-append-drop later xs ∙ sym (take-append-drop place xs)) in
    let count : later ≡ place = sym (length-take-le later xs within) ∙ ap length same.0 ∙ length-take-le place xs inside in
    d
    ∙ ap (λ (P : Params). coded_frame_line k (length w) (length P.filters) (length P.probs) later) same.1
    ∙ ap (λ n. coded_frame_line k (length w) (length P.filters) (length P.probs) n) count
    ∙ sym e

some_shown : (f : Shape) (k : ℕ) (w : List ℕ) → IsShape f → AreBytes w → NotRefused (show_frame k) f w → (line : Line) × Shows f k w line
some_shown f k w lawful bytes none = go (read (frame_fields f) (bits w) 0) refl
  where
    of_meaning : (sound : List ℕ) → IsPlain f w sound ⊎ IsCoded f w sound → (line : Line) × Shows f k w line
    of_meaning sound (inl p) = (plain_frame_line k (length w), inl (sound, p, refl))
    of_meaning sound (inr c) = (
      coded_frame_line k (length w) (length c.params.filters) (length c.params.probs) c.place,
      inr (c.params, c.place, c.inside, c.header, refl),
    )

    go : (q : Result (Option Params × List ℕ × ℕ) FrameFault) → read (frame_fields f) (bits w) 0 ≡ q → (line : Line) × Shows f k w line
    go (Ok r) e =
        let s = read_means f w r lawful bytes e in
        of_meaning s.0 s.1.1
    go (Err fault) e =
        let h = header_in_front f w fault lawful e (λ i. none fault (e, (not_of_code fault.reason i).0, (not_of_code fault.reason i).1)) in
        (coded_frame_line k (length w) (length h.0.filters) (length h.0.probs) h.1, inr (h.0, h.1, h.2, h.3, refl))

pub one_line : (form : Form) (k : ℕ) (w : List ℕ) → IsShape (shape form) → AreBytes w → NotRefused (show_frame k) (shape form) w →
    One (λ o. (line : Line) × Shows (shape form) k w line × (o ≡ done [] (line ∷ [])))
one_line form k w lawful bytes none =
    let l = some_shown (shape form) k w lawful bytes none in
    (done [] (l.0 ∷ []), (l.0, l.1, refl), λ other d. d.2 ∙ ap (λ (line : Line). done [] (line ∷ [])) (one_shown (shape form) k w l.0 d.0 lawful l.1 d.1))
