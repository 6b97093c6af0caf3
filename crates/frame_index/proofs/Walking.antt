-- A walk that has come to some chunk: what is still to come.
use Rattle.std.proofs.Common.{◌≡◌, ℕ, suc, ◌+◌, ◌-◌, Bool, true, false, List, [], ◌∷◌, ◌++◌, length, map, Option, Some, None, Ok, Err, refl, sym, ap, ◌∙◌}
use Rattle.std.proofs.Common.{arith, append_assoc, length-append, zero-add, add-zero}
use Rattle.std.specs.Prelude.{◌==◌, not, if◌then◌else◌}
use Rattle.std.specs.List.{enumerate_from}
use Rattle.std.proofs.lemmas.Bool.{cond-true, cond-false, eq-eqb, ne_eqb}
use Rattle.std.proofs.lemmas.List.{append-nil}
use Rattle.dsdiff_spec.specs.Bytes.{◌is◌}
use Rattle.dsdiff_spec.specs.Chunks.{Head, Found, chunks_from, named, body_place, body_end}
use Rattle.dsdiff_spec.specs.Faults.{◌when◌, ◌otherwise◌, first_some}
use Rattle.dsdiff_spec.specs.Form.{Form}
use Rattle.dsdiff_spec.specs.Walk.{Entry, entry_of, entries, frame_fault, frame_heads, in_dst, walk, walk_fault}
use Rattle.dsdiff_spec.specs.declared.faults.FileFault.{FileFault}
use Rattle.dsdiff_spec.specs.declared.faults.FileFault.TheVariants.{CountDiffers}
use Rattle.dsdiff_spec.proofs.Steps.{nothing, with_head}
use Rattle.frame_index.specs.Finding.{found_with}

-- the chunks of `DST ` from a place on, behind so many others
abbrev pub chunks_behind : List ℕ → Form → ℕ → ℕ → Found
chunks_behind file form passed place = chunks_from (λ id. true) file (body_end form.sound) (4000000 - passed) place

-- the fault of the walk where none came up to k frames, and these frames and this fault of the chunks follow
abbrev count_fault : Form → ℕ → Option FileFault
count_fault form n = CountDiffers form.frames n when not (n == form.frames)

abbrev fault_behind : Form → ℕ → List Head → Option FileFault → Option FileFault
fault_behind form k frames fault =
    first_some (frame_fault form) (enumerate_from k frames) otherwise fault otherwise count_fault form (k + length frames)

-- a walk without a fault has found these frames, and these chunks are left
pub record IsLeft (file : List ℕ) (form : Form) (found : List Entry) (left : Found) : Type 0 where
  pub fault : walk_fault file form ≡ fault_behind form (length found) (named "DSTF" left.heads) left.fault
  pub frames : entries file form ≡ found ++ map entry_of (named "DSTF" left.heads)

at_start : (file : List ℕ) (form : Form) →
    walk_fault file form ≡ fault_behind form 0 (frame_heads file form) (in_dst file form).fault
unfolding walk_fault
at_start file form =
    ap
    (λ n. first_some (frame_fault form) (enumerate_from 0 (frame_heads file form)) otherwise (in_dst file form).fault otherwise count_fault form n)
    (sym (zero-add (length (frame_heads file form))))

pub all_left : (file : List ℕ) (form : Form) → IsLeft file form [] (chunks_behind file form 0 (body_place form.sound + 18))
all_left file form = record { fault = at_start file form; frames = refl }

-- ---- a chunk that is no frame, and one that is
not_named : (h : Head) (hs : List Head) → (h.id is "DSTF") ≡ false → named "DSTF" (h ∷ hs) ≡ named "DSTF" hs
not_named h hs e = cond-false (h.id is "DSTF") (h ∷ named "DSTF" hs) (named "DSTF" hs) e

is_named : (h : Head) (hs : List Head) → (h.id is "DSTF") ≡ true → named "DSTF" (h ∷ hs) ≡ h ∷ named "DSTF" hs
is_named h hs e = cond-true (h.id is "DSTF") (h ∷ named "DSTF" hs) (named "DSTF" hs) e

other_passed : (file : List ℕ) (form : Form) (found : List Entry) (h : Head) (later : Found) → IsLeft file form found (with_head h later) →
    (h.id is "DSTF") ≡ false → IsLeft file form found later
other_passed file form found h later p e =
    let rest = not_named h later.heads e in
    record {
      fault = p.fault ∙ ap (λ hs. fault_behind form (length found) hs later.fault) rest;
      frames = p.frames ∙ ap (λ hs. found ++ map entry_of hs) rest;
    }

abbrev behind_one : Option FileFault → Form → ℕ → List Head → Option FileFault → Option FileFault
behind_one first form k frames fault =
    elim first [ Some y ↦ Some y | None ↦ first_some (frame_fault form) (enumerate_from (k + 1) frames) ]
    otherwise fault
    otherwise count_fault form (k + suc (length frames))

fault_behind_frame : (form : Form) (k : ℕ) (h : Head) (hs : List Head) (fault : Option FileFault) → frame_fault form (k, h) ≡ None →
    fault_behind form k (h ∷ hs) fault ≡ fault_behind form (k + 1) hs fault
fault_behind_frame form k h hs fault none =
    let n : k + suc (length hs) ≡ k + 1 + length hs = omega arith in
    ap (λ o. behind_one o form k hs fault) none
    ∙ ap (λ n. first_some (frame_fault form) (enumerate_from (k + 1) hs) otherwise fault otherwise count_fault form n) n

frame_passed : (file : List ℕ) (form : Form) (found : List Entry) (h : Head) (later : Found) → IsLeft file form found (with_head h later) →
    (h.id is "DSTF") ≡ true → frame_fault form (length found, h) ≡ None → IsLeft file form (found ++ entry_of h ∷ []) later
frame_passed file form found h later p e none =
    let rest = is_named h later.heads e in
    let longer : length found + 1 ≡ length (found ++ entry_of h ∷ []) = omega (arith, length-append found (entry_of h ∷ [])) in
    record {
      fault =
          p.fault
          ∙ ap (λ hs. fault_behind form (length found) hs later.fault) rest
          ∙ fault_behind_frame form (length found) h (named "DSTF" later.heads) later.fault none
          ∙ ap (λ k. fault_behind form k (named "DSTF" later.heads) later.fault) longer;
      frames =
          p.frames
          ∙ ap (λ hs. found ++ map entry_of hs) rest
          ∙ sym (append_assoc found (entry_of h ∷ []) (map entry_of (named "DSTF" later.heads)));
    }

by_name : (b : Bool) (file : List ℕ) (form : Form) (found : List Entry) (h : Head) (later : Found) → (h.id is "DSTF") ≡ b →
    IsLeft file form found (with_head h later) → (b ≡ true → frame_fault form (length found, h) ≡ None) →
    IsLeft file form (if b then found ++ entry_of h ∷ [] else found) later
by_name true file form found h later e p none = frame_passed file form found h later p e (none refl)
by_name false file form found h later e p none = other_passed file form found h later p e

pub chunk_passed : (file : List ℕ) (form : Form) (found : List Entry) (h : Head) (later : Found) → IsLeft file form found (with_head h later) →
    ((h.id is "DSTF") ≡ true → frame_fault form (length found, h) ≡ None) → IsLeft file form (found_with h found) later
chunk_passed file form found h later p none = by_name (h.id is "DSTF") file form found h later refl p none

-- ---- a walk that stops
walk_stops : (file : List ℕ) (form : Form) (fault : FileFault) → walk_fault file form ≡ Some fault → walk file form ≡ Err fault
walk_stops file form fault e = ap (λ o. elim o [ Some f ↦ Err f | None ↦ Ok (entries file form) ]) e

pub stops_at_chunk : (file : List ℕ) (form : Form) (found : List Entry) (fault : FileFault) →
    IsLeft file form found (nothing (Some fault)) → walk file form ≡ Err fault
stops_at_chunk file form found fault p = walk_stops file form fault p.fault

pub stops_at_frame : (file : List ℕ) (form : Form) (found : List Entry) (h : Head) (later : Found) (fault : FileFault) →
    IsLeft file form found (with_head h later) → (h.id is "DSTF") ≡ true → frame_fault form (length found, h) ≡ Some fault →
    walk file form ≡ Err fault
stops_at_frame file form found h later fault p e some =
    walk_stops file form fault
    (p.fault
    ∙ ap (λ hs. fault_behind form (length found) hs later.fault) (is_named h later.heads e)
    ∙ ap (λ o. behind_one o form (length found) (named "DSTF" later.heads) later.fault) some)

at_end : (file : List ℕ) (form : Form) (found : List Entry) → IsLeft file form found (nothing None) →
    walk_fault file form ≡ count_fault form (length found)
at_end file form found p = p.fault ∙ ap (λ n. count_fault form n) (add-zero (length found))

pub stops_at_count : (file : List ℕ) (form : Form) (found : List Entry) (n : ℕ) → IsLeft file form found (nothing None) →
    length found ≡ n → (n ≡ form.frames → ⊥) → walk file form ≡ Err (CountDiffers form.frames n)
stops_at_count file form found n p count differs =
    walk_stops file form (CountDiffers form.frames n)
    (at_end file form found p
    ∙ ap (λ m. count_fault form m) count
    ∙ ap (λ b. CountDiffers form.frames n when not b) (ne_eqb n form.frames differs))

pub walk_ends : (file : List ℕ) (form : Form) (found : List Entry) → IsLeft file form found (nothing None) →
    length found ≡ form.frames → walk file form ≡ Ok found
walk_ends file form found p count =
    let none =
    at_end file form found p
    ∙ ap (λ b. CountDiffers form.frames (length found) when not b) (eq-eqb (length found) form.frames count) in
    ap (λ o. elim o [ Some f ↦ Err f | None ↦ Ok (entries file form) ]) none ∙ ap Ok (p.frames ∙ append-nil found)
