-- The first sixteen bytes of a file decide the rules on its head, and its chunks the others on its opening.
use Rattle.std.proofs.Common.{◌≡◌, ℕ, ◌+◌, ◌^◌, ◌≤◌, ◌<◌, List, length, Bool, false, Some, None, Option, refl, sym, ap, ◌∙◌, arith}
use Rattle.std.specs.Prelude.{nat_lt, not, ◌||◌}
use Rattle.std.proofs.lemmas.Bool.{le-ltb, lt-ltb}
use Rattle.dsdiff_spec.specs.Bytes.{bytes_at, number_at, ◌is◌, ◌below◌, ◌above◌}
use Rattle.dsdiff_spec.specs.Chunks.{Found, Head, chunks_from}
use Rattle.dsdiff_spec.specs.Faults.{◌when◌, ◌otherwise◌}
use Rattle.dsdiff_spec.specs.Parts.{form_end, top_level}
use Rattle.dsdiff_spec.specs.Rules.{opening_fault}
use Rattle.dsdiff_spec.specs.declared.faults.FileFault.{FileFault}
use Rattle.dsdiff_spec.specs.declared.faults.FileFault.TheVariants.{NotForm, FormTooLarge, FormType, Overrun}
use Rattle.dsdiff_chunks.specs.Opening.{head_fault, may_lack_pad}
use Rattle.dsdiff_chunks.specs.Steps.{IsExtent, IsOpened}
use Rattle.chunk_view.proofs.InParts.{bytes_in_part, number_in_part}

pub too_short : (xs : List ℕ) → length xs < 16 → opening_fault xs ≡ Some NotForm
too_short xs lt = let e = lt-ltb (length xs) 16 lt in rw e

regroup : (a b c d e : Option FileFault) → (a otherwise b otherwise c otherwise d) otherwise e ≡ a otherwise b otherwise c otherwise d otherwise e
regroup (Some f) b c d e = refl
regroup None (Some f) c d e = refl
regroup None None (Some f) d e = refl
regroup None None None d e = refl

by_parts : (short : Bool) (id type : List ℕ) (n size : ℕ) (rest : Option FileFault) → short ≡ false →
    (NotForm when short || not (id is "FRM8") || n below 4
    otherwise FormTooLarge when n above 2 ^ 50
    otherwise FormType when not (type is "DSD ")
    otherwise Overrun 0 when 12 + n above size
    otherwise rest)
    ≡ (NotForm when not (id is "FRM8") || n below 4
    otherwise FormTooLarge when n above 2 ^ 50
    otherwise FormType when not (type is "DSD ")
    otherwise Overrun 0 when 12 + n above size)
    otherwise rest
by_parts short id type n size rest e =
    rw e
    (sym
    (regroup (NotForm when not (id is "FRM8") || n below 4) (FormTooLarge when n above 2 ^ 50)
    (FormType when not (type is "DSD ")) (Overrun 0 when 12 + n above size) rest))

pub opening_by_head : (xs head : List ℕ) → 16 ≤ length xs → head ≡ bytes_at xs 0 16 →
    opening_fault xs ≡ head_fault (length xs) head otherwise (top_level xs).fault
opening_by_head xs head le at =
    let long = le-ltb (length xs) 16 le in
    let id : bytes_at head 0 4 ≡ bytes_at xs 0 4 = ap (λ w. bytes_at w 0 4) at ∙ bytes_in_part xs 0 16 0 4 (omega arith) in
    let size : number_at head 4 8 ≡ number_at xs 4 8 = ap (λ w. number_at w 4 8) at ∙ number_in_part xs 0 16 4 8 (omega arith) in
    let type : bytes_at head 12 4 ≡ bytes_at xs 12 4 = ap (λ w. bytes_at w 12 4) at ∙ bytes_in_part xs 0 16 12 4 (omega arith) in
    rw (id, size, type)
    (by_parts (nat_lt (length xs) 16) (bytes_at xs 0 4) (bytes_at xs 12 4) (number_at xs 4 8) (length xs) (top_level xs).fault long)

pub refused_by_head : (xs head : List ℕ) (size : ℕ) (fault : FileFault) → 16 ≤ size → size ≡ length xs → head ≡ bytes_at xs 0 16 →
    head_fault size head ≡ Some fault → opening_fault xs ≡ Some fault
refused_by_head xs head size fault le long at refused =
    let e : head_fault (length xs) head ≡ Some fault = ap (λ n. head_fault n head) (sym long) ∙ refused in
    opening_by_head xs head (omega arith) at ∙ ap (λ o. o otherwise (top_level xs).fault) e

pub extent_by_head : (xs head : List ℕ) (size end : ℕ) → 16 ≤ size → size ≡ length xs → head ≡ bytes_at xs 0 16 →
    head_fault size head ≡ None → end ≡ form_end head → IsExtent xs size end
extent_by_head xs head size end le long at accepted ends =
    let e : head_fault (length xs) head ≡ None = ap (λ n. head_fault n head) (sym long) ∙ accepted in
    let form_size : number_at head 4 8 ≡ number_at xs 4 8 = ap (λ w. number_at w 4 8) at ∙ number_in_part xs 0 16 4 8 (omega arith) in
    record {
      long = sym long;
      ends = sym (ends ∙ ap (λ n. 12 + n) form_size);
      opened = opening_by_head xs head (omega arith) at ∙ ap (λ o. o otherwise (top_level xs).fault) e;
    }

-- ---- the chunks from the head on
abbrev from_head : List ℕ → ℕ → Found
from_head file end = chunks_from may_lack_pad file end 1024 16

top_level_is : {file : List ℕ} {size end : ℕ} → IsExtent file size end → top_level file ≡ from_head file end
top_level_is {file = file} extent = ap (from_head file) extent.ends

-- their fault is that of the opening
pub refused_by_chunks : {file : List ℕ} {size end : ℕ} (fault : FileFault) → IsExtent file size end → (from_head file end).fault ≡ Some fault →
    opening_fault file ≡ Some fault
refused_by_chunks fault extent refused = extent.opened ∙ ap (λ found. found.fault) (top_level_is extent) ∙ refused

pub opened_by_chunks : {file : List ℕ} {size end : ℕ} (heads : List Head) → IsExtent file size end →
    from_head file end ≡ record { heads = heads; fault = None } → IsOpened file size end heads
opened_by_chunks heads extent found =
    let all = top_level_is extent ∙ found in
    record {
      long = extent.long;
      ends = extent.ends;
      chunks = ap (λ found. found.heads) all;
      rules = extent.opened ∙ ap (λ found. found.fault) all;
    }
