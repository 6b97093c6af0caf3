-- The run of a command: at its first refused frame it stops, or no frame of it is refused.
use Rattle.std.proofs.Common.{◌≡◌, ◌⊎◌, inl, inr, ℕ, List, [], ◌∷◌, ◌++◌, refl, ap, sym, subst, ◌∙◌}
use Rattle.std.specs.List.{AllByRecursion}
use Rattle.dst_spec.specs.Sample.{Shape}
use Rattle.dst_spec.specs.declared.faults.FrameFault.{FrameFault}
use Rattle.dsdiff_spec.specs.Form.{Form, shape}
use Rattle.dsdiff_spec.specs.Words.{Command}
use Rattle.dsdiff_spec.specs.Outcome.{Answer, frame_refused, Refuses, NoneRefused, run, WrittenBefore, IsStopped, Does, IsDone}
use Rattle.dsdiff_spec.specs.Progress.{NotRefused}
use Rattle.dsdiff_spec.proofs.Verdicts.{IsRefusedOnce}

-- a frame is refused with one fault, or isn't refused
abbrev pub IsSettled : Command → Shape → List ℕ → Type 0
IsSettled c f frame = IsRefusedOnce c f frame ⊎ NotRefused c f frame

abbrev pub AreSettled : Command → Form → List (ℕ × List ℕ) → Type 0
AreSettled c form frames = AllByRecursion (λ f. IsSettled c (shape form) f.1) frames

-- the first frame that is refused
pub record StopsIn (c : Command) (form : Form) (frames : List (ℕ × List ℕ)) : Type 0 where
  pub before : List (ℕ × List ℕ)
  pub stop : ℕ × List ℕ
  pub behind : List (ℕ × List ℕ)
  pub whole : frames ≡ before ++ stop ∷ behind
  pub fault : FrameFault
  pub refuses : Refuses c (shape form) stop.1 fault
  pub only : (other : FrameFault) → Refuses c (shape form) stop.1 other → other ≡ fault
  pub first : NoneRefused c form before

pub stops_or_not : (c : Command) (form : Form) (frames : List (ℕ × List ℕ)) → AreSettled c form frames → StopsIn c form frames ⊎ NoneRefused c form frames
stops_or_not c form [] h = inr tt
stops_or_not c form (x ∷ xs) (inl r, more) =
    inl (record { before = []; stop = x; behind = xs; whole = refl; fault = r.fault; refuses = r.refuses; only = r.only; first = tt })
stops_or_not c form (x ∷ xs) (inr n, more) = elim (stops_or_not c form xs more) [
  | inl s ↦ inl (record {
    before = x ∷ s.before;
    stop = s.stop;
    behind = s.behind;
    whole = ap {A = List (ℕ × List ℕ)} (λ l. x ∷ l) s.whole;
    fault = s.fault;
    refuses = s.refuses;
    only = s.only;
    first = (n, s.first);
  })
  | inr none ↦ inr (n, none)
]

head_is : {A : Type 0} (x y : A) (xs ys : List A) → x ∷ xs ≡ y ∷ ys → x ≡ y
head_is x y xs ys e = cc

rest_is : {A : Type 0} (x y : A) (xs ys : List A) → x ∷ xs ≡ y ∷ ys → xs ≡ ys
rest_is x y xs ys e = cc

-- two first ones are the same
pub one_first : (c : Command) (form : Form) (a b : List (ℕ × List ℕ)) (x y : ℕ × List ℕ) (u v : List (ℕ × List ℕ)) (e f : FrameFault) →
    a ++ x ∷ u ≡ b ++ y ∷ v →
    NoneRefused c form a → NoneRefused c form b → Refuses c (shape form) x.1 e → Refuses c (shape form) y.1 f → x ≡ y
one_first c form [] [] x y u v e f is m n r s = head_is x y u v is
one_first c form [] (q ∷ b) x y u v e f is m n r s = absurd (n.0 e (subst (λ (p : ℕ × List ℕ). Refuses c (shape form) p.1 e) (head_is x q u (b ++ y ∷ v) is) r))
one_first c form (p ∷ a) [] x y u v e f is m n r s =
    absurd (m.0 f (subst (λ (p : ℕ × List ℕ). Refuses c (shape form) p.1 f) (sym (head_is p y (a ++ x ∷ u) v is)) s))
one_first c form (p ∷ a) (q ∷ b) x y u v e f is m n r s = one_first c form a b x y u v e f (rest_is p q (a ++ x ∷ u) (b ++ y ∷ v) is) m.1 n.1 r s

-- where none is refused there is no first one
pub not_both : (c : Command) (form : Form) (a : List (ℕ × List ℕ)) (x : ℕ × List ℕ) (u : List (ℕ × List ℕ)) (e : FrameFault) →
    NoneRefused c form (a ++ x ∷ u) → Refuses c (shape form) x.1 e → ⊥
not_both c form [] x u e h r = h.0 e r
not_both c form (p ∷ a) x u e h r = not_both c form a x u e h.1 r

-- ---- the outcome of an accepted file
abbrev pub One : (Answer → Type 0) → Type 0
One P = (o : Answer) × P o × ((other : Answer) → P other → other ≡ o)

-- one list of bytes has a property
abbrev pub OneOut : (List ℕ → Type 0) → Type 0
OneOut P = (out : List ℕ) × P out × ((other : List ℕ) → P other → other ≡ out)

-- what is written in front of the first refused frame is one list of bytes
abbrev pub WritesOne : Command → List ℕ → Form → Type 0
WritesOne c file form = (s : StopsIn c form (run c file form)) → OneOut (WrittenBefore c file form s.stop.0)

same_stop : (c : Command) (file : List ℕ) (form : Form) (o other : Answer) (s : StopsIn c form (run c file form))
    (w : OneOut (WrittenBefore c file form s.stop.0)) → o ≡ frame_refused s.stop.0 s.fault w.0 → IsStopped c file form other → other ≡ o
same_stop c file form o other s w is t =
    let same = one_first c form t.before s.before t.stop s.stop t.behind s.behind t.fault s.fault
    (sym t.is_run ∙ s.whole) t.first s.first t.refuses s.refuses in
    let fault = s.only t.fault (subst (λ (p : ℕ × List ℕ). Refuses c (shape form) p.1 t.fault) same t.refuses) in
    let out = w.2 t.out (subst (λ (p : ℕ × List ℕ). WrittenBefore c file form p.0 t.out) same t.written) in
    t.answer
    ∙ ap (λ out. frame_refused t.stop.0 t.fault out) out
    ∙ ap (λ fault. frame_refused t.stop.0 fault w.0) fault
    ∙ ap (λ (p : ℕ × List ℕ). frame_refused p.0 s.fault w.0) same
    ∙ sym is

pub one_of_run : (c : Command) (file : List ℕ) (form : Form) → AreSettled c form (run c file form) → WritesOne c file form →
    (NoneRefused c form (run c file form) → One (Does c file form)) →
    One (λ o. IsStopped c file form o ⊎ IsDone c file form o)
one_of_run c file form settled before does = go (stops_or_not c form (run c file form) settled)
  where
    stops : (s : StopsIn c form (run c file form)) (w : OneOut (WrittenBefore c file form s.stop.0)) (o : Answer) →
        o ≡ frame_refused s.stop.0 s.fault w.0 → (other : Answer) → IsStopped c file form other ⊎ IsDone c file form other → other ≡ o
    stops s w o is other (inl t) = same_stop c file form o other s w is t
    stops s w o is other (inr d) = absurd (not_both c form s.before s.stop s.behind s.fault (subst (NoneRefused c form) s.whole d.0) s.refuses)

    done : (none : NoneRefused c form (run c file form)) (one : One (Does c file form)) (other : Answer) →
        IsStopped c file form other ⊎ IsDone c file form other → other ≡ one.0
    done none one other (inl t) = absurd (not_both c form t.before t.stop t.behind t.fault (subst (NoneRefused c form) t.is_run none) t.refuses)
    done none one other (inr d) = one.2 other d.1

    stopped : (s : StopsIn c form (run c file form)) → OneOut (WrittenBefore c file form s.stop.0) →
        One (λ o. IsStopped c file form o ⊎ IsDone c file form o)
    stopped s w =
        let o = frame_refused s.stop.0 s.fault w.0 in (
          o,
          inl (record {
            before = s.before;
            stop = s.stop;
            behind = s.behind;
            is_run = s.whole;
            fault = s.fault;
            refuses = s.refuses;
            first = s.first;
            out = w.0;
            written = w.1;
            answer = refl;
          }),
          stops s w o refl,
        )

    go : StopsIn c form (run c file form) ⊎ NoneRefused c form (run c file form) → One (λ o. IsStopped c file form o ⊎ IsDone c file form o)
    go (inl s) = stopped s (before s)
    go (inr none) =
        let one = does none in
        (one.0, inr (none, one.1), done none one)

-- of a command that writes nothing in front of a refused frame
pub nothing_before : {P : List ℕ → Type 0} → P [] → ((out : List ℕ) → P out → out ≡ []) → OneOut P
nothing_before some only = ([], some, only)
