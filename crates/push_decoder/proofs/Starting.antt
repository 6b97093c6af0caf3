-- The first sixteen bytes of a stream, and the head of each chunk.
use Rattle.std.proofs.Common.{◌≡◌, ℕ, ◌+◌, ◌≤◌, List, length, Bool, true, false, Option, Some, None, sym, ap, ◌∙◌, arith}
use Rattle.std.specs.Prelude.{◌^◌, ◌||◌, not}
use Rattle.std.proofs.lemmas.Bool.{le-ltb}
use Rattle.dsdiff_spec.specs.Bytes.{bytes_at, number_at, ◌is◌, ◌below◌, ◌above◌}
use Rattle.dsdiff_spec.specs.Faults.{◌when◌, ◌otherwise◌}
use Rattle.dsdiff_spec.specs.Parts.{form_size, form_end}
use Rattle.dsdiff_spec.specs.Streams.{Stream, nothing_but, stopped, cut_off, unless, form_head_fault, in_form, nothing_came, stream}
use Rattle.dsdiff_spec.specs.declared.faults.FileFault.{FileFault}
use Rattle.dsdiff_spec.specs.declared.faults.FileFault.TheVariants.{NotForm, FormType, FormTooLarge}
use Rattle.chunk_view.proofs.InParts.{bytes_in_part, number_in_part}

by_parts : List ℕ → ℕ → List ℕ → Option FileFault
by_parts id size type =
    NotForm when not (id is "FRM8") || size below 4
    otherwise FormTooLarge when size above 2 ^ 50
    otherwise FormType when not (type is "DSD ")

pub same_fault : (w : List ℕ) → form_head_fault (bytes_at w 0 16) ≡ form_head_fault w
unfolding by_parts
same_fault w =
    let id : bytes_at (bytes_at w 0 16) 0 4 ≡ bytes_at w 0 4 = bytes_in_part w 0 16 0 4 (omega arith) in
    let size : number_at (bytes_at w 0 16) 4 8 ≡ number_at w 4 8 = number_in_part w 0 16 4 8 (omega arith) in
    let type : bytes_at (bytes_at w 0 16) 12 4 ≡ bytes_at w 12 4 = bytes_in_part w 0 16 12 4 (omega arith) in
    ap (λ i. by_parts i (number_at (bytes_at w 0 16) 4 8) (bytes_at (bytes_at w 0 16) 12 4)) id
    ∙ ap (λ n. by_parts (bytes_at w 0 4) n (bytes_at (bytes_at w 0 16) 12 4)) size
    ∙ ap (λ t. by_parts (bytes_at w 0 4) (number_at w 4 8) t) type

at_length : Bool → List ℕ → Stream
at_length b w = elim b [
  | true ↦ nothing_but (cut_off NotForm)
  | false ↦ unless (form_head_fault w) (in_form w (form_end w) 1024 nothing_came 16)
]

begun : (w : List ℕ) → 16 ≤ length w → stream w ≡ unless (form_head_fault w) (in_form w (form_end w) 1024 nothing_came 16)
unfolding at_length stream
begun w there = ap (λ b. at_length b w) (le-ltb (length w) 16 there)

pub start_refused : (w bytes : List ℕ) (fault : FileFault) → bytes_at w 0 16 ≡ bytes → 16 ≤ length w → form_head_fault bytes ≡ Some fault →
    stream w ≡ nothing_but (stopped fault)
start_refused w bytes fault at there is_fault =
    begun w there
    ∙ ap (λ f. unless f (in_form w (form_end w) 1024 nothing_came 16)) (sym (same_fault w) ∙ ap form_head_fault at ∙ is_fault)

pub start_taken : (w bytes : List ℕ) (end : ℕ) → bytes_at w 0 16 ≡ bytes → 16 ≤ length w → form_head_fault bytes ≡ None → end ≡ 12 + form_size bytes →
    stream w ≡ in_form w end 1024 nothing_came 16
start_taken w bytes end at there no_fault is_end =
    begun w there
    ∙ ap (λ f. unless f (in_form w (form_end w) 1024 nothing_came 16)) (sym (same_fault w) ∙ ap form_head_fault at ∙ no_fault)
    ∙ ap (λ e. in_form w e 1024 nothing_came 16)
    (sym (is_end ∙ ap (λ n. 12 + n) (ap form_size (sym at) ∙ number_in_part w 0 16 4 8 (omega arith))))
