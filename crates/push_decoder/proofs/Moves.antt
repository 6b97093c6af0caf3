-- The part of a stage that is looked at, where its length isn't computed: bodies, and `FRTE`.
use Rattle.std.proofs.Common.{◌≡◌, ℕ, ◌+◌, ◌-◌, ◌<◌, ◌≤◌, List, length, Bool, true, false, refl, sym, ap, ◌∙◌, arith}
use Rattle.std.specs.Prelude.{if◌then◌else◌, ◌==◌}
use Rattle.dsdiff_spec.specs.Bytes.{bytes_at}
use Rattle.dsdiff_spec.specs.Chunks.{body_end, body_of}
use Rattle.dsdiff_spec.specs.Streams.{in_sound}
use Rattle.dsdiff_chunks.specs.Seen.{head_seen}
use Rattle.dsdiff_chunks.specs.declared.lists.ChunkHead.{ChunkHead}
use Rattle.push_decoder.specs.declared.stage.FormSoFar.{FormSoFar}
use Rattle.push_decoder.specs.declared.stage.Stage.{Stage}
use Rattle.push_decoder.specs.declared.stage.Stage.TheVariants.{FormBody, FrameCount}
use Rattle.push_decoder.specs.Stages.{came_of, Tells, form_chunk_from, still_to_come, HasPart, StageTells, version_then, prop_then}
use Rattle.push_decoder.proofs.FormParts.{some_chunk}

-- so many bytes from a place up to another
counted : (w part : List ℕ) (place n : ℕ) → bytes_at w place (place + n - place) ≡ part → bytes_at w place n ≡ part
counted w part place n e =
    let size : place + n - place ≡ n = omega arith in
    ap (bytes_at w place) (sym size) ∙ e

pub frte_in : (w part : List ℕ) (form : FormSoFar) (head : ChunkHead) (stage : Stage) → stage ≡ FrameCount form head → HasPart stage w part →
    bytes_at w (head.place + 12) 18 ≡ part
frte_in w part form head stage e has =
    let here : HasPart (FrameCount form head) w part = rw e at has in
    counted w part (head.place + 12) 18 (here.same refl)

body_in : (w part : List ℕ) (form : FormSoFar) (head : ChunkHead) → HasPart (FormBody form head) w part → body_of w (head_seen head) ≡ part
body_in w part form head has = counted w part (head.place + 12) head.size (has.same refl)

-- what a body of either kind leaves of those that came
abbrev pub GoesOnWith : FormSoFar → ChunkHead → (List ℕ → List ℕ → List ℕ) → (List ℕ → List ℕ → List ℕ) → List ℕ → Stage → Type 0
GoesOnWith form head versions props part result =
    (w version prop : List ℕ) → body_of w (head_seen head) ≡ part → body_end (head_seen head) ≤ length w →
    form_chunk_from version prop form (head_seen head) w ≡ still_to_come (versions version part) (props prop part) result w

chosen : (b : Bool) (x y : List ℕ) → b ≡ true → (if b then x else y) ≡ x
chosen b x y e = ap (λ c. if c then x else y) e

unchosen : (b : Bool) (x y : List ℕ) → b ≡ false → (if b then x else y) ≡ y
unchosen b x y e = ap (λ c. if c then x else y) e

first_is : (n : ℕ) → n ≡ 0 → (n == 0) ≡ true
first_is n e = ap (λ m. m == 0) e

pub version_goes_on : (w version prop part : List ℕ) (form : FormSoFar) (head : ChunkHead) (stage result : Stage) → stage ≡ FormBody form head →
    form.chunks ≡ 0 → HasPart stage w part → GoesOnWith form head (λ old new. new) (λ old new. old) part result →
    still_to_come version prop stage w ≡ still_to_come (version_then stage part version) (prop_then stage part prop) result w
version_goes_on w version prop part form head stage result e none has goes =
    let here : HasPart (FormBody form head) w part = rw e at has in
    ap (λ s. still_to_come version prop s w) e
    ∙ goes w version prop (body_in w part form head here) here.there
    ∙ ap (λ v. still_to_come v prop result w) (sym (chosen (form.chunks == 0) part version (first_is form.chunks none)))
    ∙ ap (λ q. still_to_come (if form.chunks == 0 then part else version) q result w) (sym (chosen (form.chunks == 0) prop part (first_is form.chunks none)))
    ∙ ap (λ s. still_to_come (version_then s part version) (prop_then s part prop) result w) (sym e)

pub prop_goes_on : (w version prop part : List ℕ) (form : FormSoFar) (head : ChunkHead) (stage result : Stage) → stage ≡ FormBody form head →
    0 < form.chunks → HasPart stage w part → GoesOnWith form head (λ old new. old) (λ old new. new) part result →
    still_to_come version prop stage w ≡ still_to_come (version_then stage part version) (prop_then stage part prop) result w
prop_goes_on w version prop part form head stage result e some has goes =
    let here : HasPart (FormBody form head) w part = rw e at has in
    ap (λ s. still_to_come version prop s w) e
    ∙ goes w version prop (body_in w part form head here) here.there
    ∙ ap (λ v. still_to_come v part result w) (sym (unchosen (form.chunks == 0) part version (some_chunk form.chunks some)))
    ∙ ap (λ q. still_to_come (if form.chunks == 0 then part else version) q result w)
    (sym (unchosen (form.chunks == 0) prop part (some_chunk form.chunks some)))
    ∙ ap (λ s. still_to_come (version_then s part version) (prop_then s part prop) result w) (sym e)

pub count_goes_on : (w version prop part : List ℕ) (form : FormSoFar) (head : ChunkHead) (stage result : Stage) → stage ≡ FrameCount form head →
    HasPart stage w part → StageTells stage prop →
    ((w version prop : List ℕ) → Tells form prop → bytes_at w (head.place + 12) 18 ≡ part → head.place + 12 + 18 ≤ length w →
    in_sound w (came_of form version prop) (head_seen head) ≡ still_to_come version prop result w) →
    still_to_come version prop stage w ≡ still_to_come (version_then stage part version) (prop_then stage part prop) result w
count_goes_on w version prop part form head stage result e has tells goes =
    let here : HasPart (FrameCount form head) w part = rw e at has in
    let says : StageTells (FrameCount form head) prop = rw e at tells in
    ap (λ s. still_to_come version prop s w) e
    ∙ goes w version prop says (counted w part (head.place + 12) 18 (here.same refl)) here.there
    ∙ ap (λ s. still_to_come (version_then s part version) (prop_then s part prop) result w) (sym e)
