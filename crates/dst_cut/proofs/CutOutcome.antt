-- What cutting comes to: a refused file, or the frames that are asked for; and what a failed device leaves of these.
use Rattle.std.proofs.Common.{◌≡◌, inl, inr, ℕ, ◌+◌, ◌-◌, ◌≤◌, List, [], ◌∷◌, length, Option, Some, None, Result, Ok, Err, refl, ap, sym, subst}
use Rattle.std.proofs.Common.{◌∙◌, arith, length-append}
use Rattle.std.specs.Prelude.{IfOk}
use Rattle.dst_streams.specs.Told.{and_then, IsCutShort}
use Rattle.dsdiff_spec.specs.Lines.{cut_line}
use Rattle.dsdiff_spec.specs.Outcome.{Answer, OfCommand, done, file_refused}
use Rattle.dsdiff_spec.specs.Refusal.{refusal, form_refusal}
use Rattle.dsdiff_spec.specs.Rules.{accepted}
use Rattle.dsdiff_spec.specs.Words as words
use Rattle.dsdiff_spec.specs.Cut as cutting
use Rattle.dsdiff_spec.specs.declared.faults.FileFault.{FileFault}
use Rattle.dst_commands.specs.Commands.{OutcomeOf}
use Rattle.dst_commands.specs.Writing.{Stops, Lacks}
use Rattle.dst_commands.proofs.Writing.{stops_at_once, stops_for}
use Rattle.dsdiff_spec.specs.Walk.{entries}
use Rattle.dsdiff_chunks.specs.Forms.{coded_seen}
use Rattle.dsdiff_chunks.specs.declared.copy.CopyFault.{CopyFault}
use Rattle.dst_cut.specs.CutLayout.{whole}
use Rattle.dst_cut.specs.declared.cut.Cut.{Cut}
use Rattle.dst_cut.specs.declared.cut.CutFault.{CutFault}
use Rattle.dst_cut.specs.declared.cut.CutFault.TheVariants.{Write}
use Rattle.dst_cut.specs.declared.cut_form.CutForm.{CutForm}
use Rattle.dst_cut.specs.Cutting.{CutEnds, IsCutForm, cut_bytes, of_device}
use Rattle.dst_cut.proofs.CutPlaces.{cut_out}
use Rattle.dst_cut.proofs.CutWhole.{cut_is}

pub rules_of_cut : (first last : ℕ) (file : List ℕ) → refusal (words.cut first last) file ≡ form_refusal (words.cut first last) file
unfolding refusal
rules_of_cut first last file = refl

-- ---- the one outcome of a file that is accepted
abbrev cut_answer : List ℕ → ℕ → ℕ → Answer
cut_answer file first last = done (cutting.cut file (accepted file) first last) (cut_line (last + 1 - first) ∷ [])

is_outcome : (file : List ℕ) (first last : ℕ) → refusal (words.cut first last) file ≡ None → OutcomeOf (words.cut first last) file (cut_answer file first last)
is_outcome file first last none = subst (λ r. OfCommand (words.cut first last) file r (cut_answer file first last)) (sym none) (inr (tt, refl))

only_outcome : (file : List ℕ) (first last : ℕ) (o : Answer) → refusal (words.cut first last) file ≡ None → OutcomeOf (words.cut first last) file o →
    o ≡ cut_answer file first last
only_outcome file first last o none h = go (subst (λ r. OfCommand (words.cut first last) file r o) none h)
  where
    go : OfCommand (words.cut first last) file None o → o ≡ cut_answer file first last
    go (inl s) =
        let some = ap length s.is_run in
        absurd (omega (arith, some, length-append s.before (s.stop ∷ s.behind)))
    go (inr d) = d.1

-- of any file
some_outcome : (file : List ℕ) (first last : ℕ) → (o : Answer) × OutcomeOf (words.cut first last) file o
some_outcome file first last = go (refusal (words.cut first last) file)
  where
    go : (r : Option FileFault) → (o : Answer) × OfCommand (words.cut first last) file r o
    go None = (cut_answer file first last, inr (tt, refl))
    go (Some fault) = (file_refused fault, refl)

-- ---- by what is opened
bytes_are : (file : List ℕ) (first last : ℕ) (c : CutForm) → IsCutForm first last file c → cutting.cut file (accepted file) first last ≡ cut_bytes file c
bytes_are file first last c is =
    ap (λ f. cutting.cut file f first last) is.form_is
    ∙ ap (λ n. cutting.cut file (coded_seen c.form) n last) (sym is.first_is)
    ∙ ap (λ n. cutting.cut file (coded_seen c.form) c.first n) (sym is.last_is)

cut_outcome : (file : List ℕ) (first last : ℕ) (c : CutForm) (frames : ℕ) → form_refusal (words.cut first last) file ≡ None →
    IsCutForm first last file c → frames ≡ c.last + 1 - c.first →
    OutcomeOf (words.cut first last) file (done (cut_bytes file c) (cut_line frames ∷ []))
cut_outcome file first last c frames none is e =
    let line : last + 1 - first ≡ frames = ap (λ n. n + 1 - first) (sym is.last_is) ∙ ap (λ n. c.last + 1 - n) (sym is.first_is) ∙ sym e in
    subst (λ w. OutcomeOf (words.cut first last) file (done w (cut_line frames ∷ []))) (bytes_are file first last c is)
    (subst (λ n. OutcomeOf (words.cut first last) file (done (cutting.cut file (accepted file) first last) (cut_line n ∷ []))) line
    (is_outcome file first last (rules_of_cut first last file ∙ none)))

-- where frames are cut out, they are written whole
pub if_cut : (r : Result Cut CutFault) (first last : ℕ) (c : CutForm) (bytes old new : Option (List ℕ)) (room : Option ℕ) →
    ((file : List ℕ) → bytes ≡ Some file → form_refusal (words.cut first last) file ≡ None) →
    ((file : List ℕ) → bytes ≡ Some file → IsCutForm first last file c) →
    ((file : List ℕ) → bytes ≡ Some file → entries file (coded_seen c.form) ≡ c.index → CutEnds r file c old new room) →
    IfOk r (λ answer. (file : List ℕ) → bytes ≡ Some file →
    (out : List ℕ) × OutcomeOf (words.cut first last) file (done out (cut_line answer.frames ∷ [])) × (new ≡ and_then old out))
if_cut (Ok d) first last c bytes old new room accepted opened ends = λ file told.
    let is = opened file told in
    let all = ends file told is.entries_are in
    (cut_bytes file c, cut_outcome file first last c d.frames (accepted file told) is all.0, all.1)
if_cut (Err fault) first last c bytes old new room accepted opened ends = tt {0}

-- ---- a device that failed
pub cut_stopped : (r : Result Cut CutFault) (fault : CutFault) (file : List ℕ) (first last : ℕ) (c : CutForm) (old new : Option (List ℕ)) (room : Option ℕ) →
    form_refusal (words.cut first last) file ≡ None → IsCutForm first last file c → r ≡ Err fault →
    (entries file (coded_seen c.form) ≡ c.index → CutEnds r file c old new room) →
    (o : Answer) × OutcomeOf (words.cut first last) file o × IsCutShort old o.out new
cut_stopped r fault file first last c old new room none is e ends =
    let s = subst (λ r. CutEnds r file c old new room) e (ends is.entries_are) in
    (done (cut_bytes file c) (cut_line (c.last + 1 - c.first) ∷ []), cut_outcome file first last c (c.last + 1 - c.first) none is refl, s.cut)

pub cut_lacks : (r : Result Cut CutFault) (file : List ℕ) (first last : ℕ) (c : CutForm) (old new : Option (List ℕ)) (room : Option ℕ) →
    form_refusal (words.cut first last) file ≡ None → IsCutForm first last file c → r ≡ Err Write →
    (entries file (coded_seen c.form) ≡ c.index → CutEnds r file c old new room) →
    (o : Answer) → OutcomeOf (words.cut first last) file o → Lacks room (length o.out)
cut_lacks r file first last c old new room none is e ends o h =
    let s = subst (λ r. CutEnds r file c old new room) e (ends is.entries_are) in
    let out : o.out ≡ cut_bytes file c = ap (λ (a : Answer). a.out) (only_outcome file first last o (rules_of_cut first last file ∙ none) h)
    ∙ bytes_are file first last c is in
    subst (λ w. Lacks room (length w)) (sym out) (s.lacks refl)

pub cut_nothing : (file : List ℕ) (first last : ℕ) (told : Option (List ℕ)) → (o : Answer) × OutcomeOf (words.cut first last) file o
    × IsCutShort told o.out told
cut_nothing file first last told =
    let one = some_outcome file first last in
    (one.0, one.1, (stops_at_once ⊥ one.0.out told None (λ p. p)).cut)

-- ---- what is written part by part
of_write : (fault : CopyFault) → of_device fault ≡ Write → fault ≡ CopyFault.Write
of_write CopyFault.Read e = absurd cc
of_write CopyFault.Write e = refl

-- what is answered where a device fails tells whether it was the sink
pub stops_by_device : (fault : CopyFault) (answer : CutFault) (piece : List ℕ) {old new : Option (List ℕ)} {room : Option ℕ} →
    answer ≡ of_device fault → Stops (fault ≡ CopyFault.Write) piece old new room → Stops (answer ≡ Write) piece old new room
stops_by_device fault answer piece {old} {new} {room} is h =
    stops_for (fault ≡ CopyFault.Write) (answer ≡ Write) piece old new room (λ e. of_write fault (sym is ∙ e)) h

pub parts_are : (file : List ℕ) (c : CutForm) → entries file (coded_seen c.form) ≡ c.index → c.form.end ≤ length file →
    whole c.index file (coded_seen c.form) c.first c.last ≡ cut_bytes file c
parts_are file c is fits =
    sym (cut_is c.index file (coded_seen c.form) c.first c.last c.order is (cut_out c) fits)
