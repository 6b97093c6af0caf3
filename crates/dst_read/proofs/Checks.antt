-- What checking a file comes to, by its rules and its frames.
use Rattle.std.proofs.Common.{◌≡◌, ◌⊎◌, inl, inr, ℕ, suc, ◌<◌, List, [], ◌∷◌, ◌++◌, length, map, take, drop, get_or, None, refl, ap, sym, subst, ◌∙◌}
use Rattle.std.proofs.Common.{Result, Ok, Err, arith, take-append-drop}
use Rattle.std.specs.Prelude.{sum}
use Rattle.std.specs.List.{AllZip, enumerate_from}
use Rattle.std.proofs.lemmas.List.{take_all}
use Rattle.std.proofs.lemmas.List.FromFn.{length-enumerate_from, get_or-enumerate_from}
use Rattle.std.proofs.Math.Seq.{drop-cons}
use Rattle.dst_spec.specs.Means.{MeansWithTail}
use Rattle.dst_spec.specs.declared.faults.FrameFault.{FrameFault}
use Rattle.dsdiff_spec.specs.Form.{Form, Kind, plain, coded, shape}
use Rattle.dsdiff_spec.specs.Rules.{accepted}
use Rattle.dsdiff_spec.specs.Decoded.{frames_of}
use Rattle.dsdiff_spec.specs.Words.{check}
use Rattle.dsdiff_spec.specs.Refusal.{refusal}
use Rattle.dsdiff_spec.specs.Lines.{check_line}
use Rattle.dsdiff_spec.specs.Outcome.{Answer, done, frame_refused, frames_if_coded, NoneRefused, IsStopped, IsDone, OfCommand}
use Rattle.dsdiff_spec.proofs.OneOutcome.{none_numbered, take-numbered}
use Rattle.dst_commands.specs.Commands.{OutcomeOf}
use Rattle.dsdiff_chunks.specs.declared.open.OpenFault.TheVariants.{Read, Memory, File}
use Rattle.dst_read.specs.declared.faults.Checked.{Checked}
use Rattle.dst_read.specs.declared.faults.CheckFault.{CheckFault}
use Rattle.dst_read.specs.declared.faults.CheckFault.TheVariants.{Source, Frame}
use Rattle.dst_read.specs.Checking.{AreHeard, IsRefusedAt, TailsEnd, CheckingEnds}

-- ---- a file that is sound has no fault
pub sound_not_fault : (s : Checked) (fault : CheckFault) → ◌≡◌ {A = Result Checked CheckFault} (Ok s) (Err fault) → ⊥
sound_not_fault s fault e = cc

-- ---- an outcome of an accepted file
of_accepted : (file : List ℕ) (f : Form) (o : Answer) → accepted file ≡ f → refusal check file ≡ None → (IsStopped check file f o ⊎ IsDone check file f o) →
    OutcomeOf check file o
of_accepted file f o e none h =
    let here = subst (λ f. IsStopped check file f o ⊎ IsDone check file f o) (sym e) h in
    subst (λ q. OfCommand check file q o) (sym none) here

abbrev DoneBy : Kind → List ℕ → Form → Answer → Type 0
DoneBy k file f o =
    NoneRefused check f (enumerate_from 0 (frames_if_coded k file f))
    × ((sounds : List (List ℕ × ℕ)) × AllZip (λ w s. MeansWithTail (shape f) w s.0 s.1) (frames_if_coded k file f) sounds
    × (o ≡ done [] (check_line f.frames (sum (map (λ s. s.1) sounds)) ∷ [])))

pub plain_is_sound : (file : List ℕ) (f : Form) → accepted file ≡ f → f.kind ≡ plain → refusal check file ≡ None →
    OutcomeOf check file (done [] (check_line f.frames 0 ∷ []))
plain_is_sound file f e k none =
    let o = done [] (check_line f.frames 0 ∷ []) in
    of_accepted file f o e none (inr (subst (λ k. DoneBy k file f o) (sym k) (tt {0}, ([], tt {0}, refl))))

pub coded_is_sound : (unread : ℕ) (file : List ℕ) (f : Form) (sounds : List (List ℕ × ℕ)) → accepted file ≡ f → f.kind ≡ coded → refusal check file ≡ None →
    AreHeard file f (length (frames_of file f)) sounds → unread ≡ sum (map (λ s. s.1) sounds) → OutcomeOf check file (done [] (check_line f.frames unread ∷ []))
coded_is_sound unread file f sounds e k none h is =
    let o = done [] (check_line f.frames unread ∷ []) in
    let frames = frames_of file f in
    let all = take_all (length frames) frames (omega arith) in
    let each = subst (λ fs. AllZip (λ w s. MeansWithTail (shape f) w s.0 s.1) fs sounds) all h.each in
    let first = subst (λ fs. NoneRefused check f (enumerate_from 0 fs)) all (none_numbered check f 0 (take (length frames) frames) h.none) in
    of_accepted file f o e none (inr (subst (λ k. DoneBy k file f o) (sym k) (first, (sounds, each, ap (λ n. done [] (check_line f.frames n ∷ [])) is))))

-- ---- the first frame that is refused, by its number
stopped_at : (k : ℕ) (fault : FrameFault) (file : List ℕ) (f : Form) → f.kind ≡ coded → IsRefusedAt file f k fault →
    IsStopped check file f (frame_refused k fault [])
stopped_at k fault file f kind s =
    let frames = frames_of file f in
    let all = enumerate_from 0 frames in
    let within : k < length all = omega (arith, s.within, length-enumerate_from 0 frames) in
    let here : get_or all k (0, []) ≡ (k, get_or frames k []) = get_or-enumerate_from 0 frames k (0, []) s.within
    ∙ ap {B = ℕ × List ℕ} (λ i. (i, get_or frames k [])) (omega arith) in
    let whole : all ≡ take k all ++ (k, get_or frames k []) ∷ drop (suc k) all = sym (take-append-drop k all)
    ∙ ap (λ l. take k all ++ l) (drop-cons all k (0, []) within ∙ ap (λ p. p ∷ drop (suc k) all) here) in
    record {
      before = take k all;
      stop = (k, get_or frames k []);
      behind = drop (suc k) all;
      is_run = ap (λ k. enumerate_from 0 (frames_if_coded k file f)) kind ∙ whole;
      fault = fault;
      refuses = s.refuses;
      first = subst (NoneRefused check f) (sym (take-numbered k 0 frames)) (none_numbered check f 0 (take k frames) s.first);
      out = [];
      written = refl;
      answer = refl;
    }

pub refused_at : (k : ℕ) (fault : FrameFault) (file : List ℕ) (f : Form) → accepted file ≡ f → f.kind ≡ coded → refusal check file ≡ None →
    IsRefusedAt file f k fault → OutcomeOf check file (frame_refused k fault [])
refused_at k fault file f e kind none s = of_accepted file f (frame_refused k fault []) e none (inl (stopped_at k fault file f kind s))

-- where the frames stop it
pub stopped : (fault : CheckFault) (file : List ℕ) (f : Form) → accepted file ≡ f → f.kind ≡ coded → refusal check file ≡ None → TailsEnd (Err fault) file f →
    CheckingEnds (Err fault) file
stopped (Frame k fault) file f e kind none s = refused_at k fault file f e kind none s
stopped (Source (File fault)) file f e kind none s = absurd s
stopped (Source Read) file f e kind none s = tt {0}
stopped (Source (Memory refused)) file f e kind none s = tt {0}
