-- A form and its next chunk, by what the chunk is: the stream from there on.
use Rattle.std.proofs.Common.{◌≡◌, ℕ, ◌+◌, ◌-◌, ◌<◌, ◌≤◌, List, length, Bool, true, false, Some, None, sym, ap, ◌∙◌, arith}
use Rattle.std.specs.Prelude.{if◌then◌else◌, ◌==◌, option_map}
use Rattle.std.proofs.lemmas.Bool.Decides.{nat_tests}
use Rattle.dsdiff_spec.specs.Bytes.{◌is◌}
use Rattle.dsdiff_spec.specs.Chunks.{Head, body_place, body_end, next_place, body_of}
use Rattle.dsdiff_spec.specs.Rules.{local_fault}
use Rattle.dsdiff_spec.specs.Streams.{Stream, Came, nothing_but, stopped, in_form, in_form_chunk, came_with, up_to, whole_end}
use Rattle.dsdiff_spec.specs.declared.faults.FileFault.{FileFault}
use Rattle.dsdiff_chunks.specs.declared.prop.PropFields.{PropFields}
use Rattle.push_decoder.specs.declared.stage.FormSoFar.{FormSoFar}
use Rattle.push_decoder.specs.Stages.{came_of, form_from, form_chunk_from}
use Rattle.push_decoder.proofs.FormSteps.{later_came, chunk_passes, prop_is_refused, prop_is_taken}

pub some_chunk : (n : ℕ) → 0 < n → (n == 0) ≡ false
some_chunk n lt = grind (arith, nat_tests)

pub came_later : (form : FormSoFar) (version prop : List ℕ) → 0 < form.chunks →
    came_of form version prop ≡ later_came version (option_map (λ fields. prop) form.properties)
came_later form version prop lt =
    ap {A = Bool} (λ b. record { version = if b then None else Some version; prop = option_map (λ fields. prop) form.properties }) (some_chunk form.chunks lt)

-- one chunk more
abbrev pub one_more : FormSoFar → FormSoFar
one_more form = record form { chunks = form.chunks + 1 }

abbrev pub telling : FormSoFar → PropFields → FormSoFar
telling form fields = record form { properties = Some fields }

abbrev pub behind : List ℕ → List ℕ → FormSoFar → Head → List ℕ → Stream
behind version prop form h w = up_to w h.place (whole_end form.end h) (form_from version prop (one_more form) (whole_end form.end h) w)

from_behind : (w version prop : List ℕ) (form : FormSoFar) (h : Head) (came : Came) → form.chunks < 1024 → came_of (one_more form) version prop ≡ came →
    up_to w h.place (whole_end form.end h) (in_form w form.end (1023 - form.chunks) came (whole_end form.end h)) ≡ behind version prop form h w
from_behind w version prop form h came few e =
    let most : 1023 - form.chunks ≡ 1024 - (form.chunks + 1) = omega (arith, few) in
    ap (λ n. up_to w h.place (whole_end form.end h) (in_form w form.end n came (whole_end form.end h))) most
    ∙ ap (λ c. up_to w h.place (whole_end form.end h) (in_form w form.end (1024 - (form.chunks + 1)) c (whole_end form.end h))) (sym e)

pub passes_on : (w version prop : List ℕ) (form : FormSoFar) (h : Head) → form.chunks < 1024 → 0 < form.chunks → (h.id is "PROP") ≡ false →
    body_end h ≤ form.end → form_chunk_from version prop form h w ≡ behind version prop form h w
passes_on w version prop form h few lt p le =
    ap (λ c. in_form_chunk w form.end c h (in_form w form.end (1023 - form.chunks) (came_with w c h) (next_place h))) (came_later form version prop lt)
    ∙ chunk_passes w form.end (1023 - form.chunks) version (option_map (λ fields. prop) form.properties) h p le
    ∙ from_behind w version prop form h _ few (came_later (one_more form) version prop (omega arith))

pub prop_refused : (w version prop : List ℕ) (form : FormSoFar) (h : Head) (body : List ℕ) (fault : FileFault) → 0 < form.chunks → (h.id is "PROP") ≡ true →
    body_end h ≤ length w → body_of w h ≡ body → local_fault (body_place h) body ≡ Some fault →
    form_chunk_from version prop form h w ≡ nothing_but (stopped fault)
prop_refused w version prop form h body fault lt p there is_body is_fault =
    prop_is_refused w form.end (came_of form version prop) version h fault _ (ap (λ c. c.version) (came_later form version prop lt)) p there
    (ap (local_fault (body_place h)) is_body ∙ is_fault)

pub prop_taken : (w version prop : List ℕ) (form : FormSoFar) (h : Head) (body : List ℕ) (fields : PropFields) → form.chunks < 1024 → 0 < form.chunks →
    (h.id is "PROP") ≡ true → body_end h ≤ length w → body_of w h ≡ body → local_fault (body_place h) body ≡ None →
    form_chunk_from version prop form h w ≡ behind version body (telling form fields) h w
prop_taken w version prop form h body fields few lt p there is_body no_fault =
    ap (λ c. in_form_chunk w form.end c h (in_form w form.end (1023 - form.chunks) (came_with w c h) (next_place h))) (came_later form version prop lt)
    ∙ prop_is_taken w form.end (1023 - form.chunks) version (option_map (λ fields. prop) form.properties) h body p there is_body no_fault
    ∙ from_behind w version body (telling form fields) h _ few (came_later (one_more (telling form fields)) version body (omega arith))
