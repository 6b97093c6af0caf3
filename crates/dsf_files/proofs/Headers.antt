-- The rules of a DSF file speak of its size and its first 92 bytes alone.
use Rattle.std.proofs.Common.{◌≡◌, ℕ, ◌+◌, ◌/◌, ◌<◌, ◌≤◌, Bool, true, false, List, length, take, drop, refl, sym, ap, ap₂, ◌∙◌, arith, Option, Some, None}
use Rattle.std.specs.Prelude.{not, ◌&&◌, ◌||◌, ◌==◌}
use Rattle.std.proofs.lemmas.Bool.{lt-ltb, le-ltb}
use Rattle.std.proofs.lemmas.List.{take-take, drop-take}
use Rattle.byteorder.specs.Numbers.{little_from-take}
use Rattle.dsdiff_spec.specs.Bytes.{bytes_at, ◌is◌, ◌below◌}
use Rattle.dsdiff_spec.specs.Dsf.{Dsf, little_at, dsf_of, dsf_fault}
use Rattle.dsdiff_spec.specs.Faults.{◌when◌, ◌otherwise◌}
use Rattle.dsdiff_spec.specs.declared.faults.FileFault.{FileFault}
use Rattle.dsdiff_spec.specs.declared.faults.FileFault.TheVariants.{DsfForm, DsfFormat, Channels, Rate}
use Rattle.dsdiff_spec.specs.Origin.{outside}
use Rattle.dsdiff_spec.specs.Rules.{is_rate}
use Rattle.dsf_files.specs.Opening.{has_ids, are_sizes, is_format, layout_fault, channels_fault, size_fault, header_fault}

pub short_is_refused : (f : List ℕ) → length f < 92 → dsf_fault f ≡ Some DsfForm
unfolding dsf_fault
short_is_refused f short = let b : (length f below 92) ≡ true = lt-ltb (length f) 92 short in rw b refl

-- ---- the same rules in another grouping
in_turn : (x y z : Option FileFault) → ((x otherwise y) otherwise z) ≡ (x otherwise (y otherwise z))
in_turn (Some fault) y z = refl
in_turn None y z = refl

layout_together : (a s b t c : Bool) → (false || not a || not s || not b || not t || not c) ≡ not ((a && b && c) && (s && t))
layout_together false s b t c = refl
layout_together true false false t c = refl
layout_together true false true t false = refl
layout_together true false true t true = refl
layout_together true true false t c = refl
layout_together true true true false false = refl
layout_together true true true false true = refl
layout_together true true true true false = refl
layout_together true true true true true = refl

format_together : (v z o k : Bool) → (not v || not z || not o || not k) ≡ not (v && z && k && o)
format_together false z o k = refl
format_together true false o k = refl
format_together true true false false = refl
format_together true true false true = refl
format_together true true true false = refl
format_together true true true true = refl

pub rules_are : (f : List ℕ) → 92 ≤ length f → dsf_fault f ≡ header_fault (length f) f
unfolding dsf_fault
rules_are f long =
    let a = bytes_at f 0 4 is "DSD " in
    let b = bytes_at f 28 4 is "fmt " in
    let c = bytes_at f 80 4 is "data" in
    let s = little_at f 4 8 == 28 in
    let t = little_at f 32 8 == 52 in
    let v = little_at f 40 4 == 1 in
    let z = little_at f 44 4 == 0 in
    let o = little_at f 60 4 == 1 || little_at f 60 4 == 8 in
    let k = little_at f 72 4 == 4096 in
    let sizes = size_fault (length f) (little_at f 84 8) (dsf_of f) in
    let rest = Channels when outside 1 6 (little_at f 52 4) otherwise Rate when not (is_rate (little_at f 56 4)) otherwise sizes in
    ap (λ l. DsfForm when (l || not a || not s || not b || not t || not c) otherwise DsfFormat when (not v || not z || not o || not k) otherwise rest)
    (le-ltb (length f) 92 long)
    ∙ ap₂ (λ x y. DsfForm when x otherwise DsfFormat when y otherwise rest) (layout_together a s b t c) (format_together v z o k)
    ∙ sym (in_turn (DsfForm when not ((a && b && c) && (s && t))) (DsfFormat when not (v && z && k && o)) rest)
    ∙ ap (λ r. layout_fault f otherwise r) (sym (in_turn (Channels when outside 1 6 (little_at f 52 4)) (Rate when not (is_rate (little_at f 56 4))) sizes))

-- ---- what the first 92 bytes say is what the file says
pub number_in_header : (f : List ℕ) (place n : ℕ) → place + n ≤ 92 → little_at (bytes_at f 0 92) place n ≡ little_at f place n
number_in_header f place n within = little_from-take place n 92 f within

id_in_header : (f : List ℕ) (place more : ℕ) → 92 ≡ place + more → 4 ≤ more → bytes_at (bytes_at f 0 92) place 4 ≡ bytes_at f place 4
id_in_header f place more all room =
    ap (λ n. take 4 (drop place (take n f))) all
    ∙ ap (take 4) (drop-take place more f)
    ∙ take-take 4 more (drop place f) room

same_of_numbers : {X : Type 0} (F : Bool → (a b c d e g : ℕ) → (count rate blocks : ℕ) → Dsf → X) (i j : Bool)
    (a b c d e g count rate blocks a' b' c' d' e' g' count' rate' blocks' : ℕ) (x y : Dsf) → i ≡ j → a ≡ a' → b ≡ b' → c ≡ c' → d ≡ d' → e ≡ e' → g ≡ g' →
    count ≡ count' → rate ≡ rate' → blocks ≡ blocks' → x ≡ y → F i a b c d e g count rate blocks x ≡ F j a' b' c' d' e' g' count' rate' blocks' y
same_of_numbers F i j a b c d e g count rate blocks a' b' c' d' e' g' count' rate' blocks' x y p q r s t u v w k l m = cc

same_dsf : (a b c d e a' b' c' d' e' : ℕ) → a ≡ a' → b ≡ b' → c ≡ c' → d ≡ d' → e ≡ e' →
    ◌≡◌ {A = Dsf} (record { channels = a; multiple = b / 2822400; samples = c; type = d; bits = e })
    (record { channels = a'; multiple = b' / 2822400; samples = c'; type = d'; bits = e' })
same_dsf a b c d e a' b' c' d' e' p q r s t = rw (p, q, r, s, t) refl

same_ids : (a b c a' b' c' : List ℕ) → a ≡ a' → b ≡ b' → c ≡ c' → (a is "DSD " && b is "fmt " && c is "data") ≡ (a' is "DSD " && b' is "fmt " && c' is "data")
same_ids a b c a' b' c' p q r = rw (p, q, r) refl

pub said_by_header : (f : List ℕ) → dsf_of (bytes_at f 0 92) ≡ dsf_of f
said_by_header f =
    let h = bytes_at f 0 92 in
    let n = number_in_header f in
    same_dsf (little_at h 52 4) (little_at h 56 4) (little_at h 64 8) (little_at h 48 4) (little_at h 60 4)
    (little_at f 52 4) (little_at f 56 4) (little_at f 64 8) (little_at f 48 4) (little_at f 60 4)
    (n 52 4 (omega arith)) (n 56 4 (omega arith)) (n 64 8 (omega arith)) (n 48 4 (omega arith)) (n 60 4 (omega arith))

abbrev by_numbers : ℕ → Bool → (a b c d e g : ℕ) → (count rate blocks : ℕ) → Dsf → Option FileFault
by_numbers size ids a b c d e g count rate blocks x =
    (DsfForm when not (ids && are_sizes a b) otherwise DsfFormat when not (is_format c d e g)) otherwise channels_fault count rate otherwise size_fault
    size blocks x

rules_of_header : (size : ℕ) (f : List ℕ) → header_fault size (bytes_at f 0 92) ≡ header_fault size f
rules_of_header size f =
    let h = bytes_at f 0 92 in
    let n = number_in_header f in
    let ids = same_ids (bytes_at h 0 4) (bytes_at h 28 4) (bytes_at h 80 4) (bytes_at f 0 4) (bytes_at f 28 4) (bytes_at f 80 4)
    (id_in_header f 0 92 refl (omega arith)) (id_in_header f 28 64 refl (omega arith)) (id_in_header f 80 12 refl (omega arith)) in
    same_of_numbers (by_numbers size) (has_ids h) (has_ids f)
    (little_at h 4 8) (little_at h 32 8) (little_at h 40 4) (little_at h 44 4) (little_at h 60 4) (little_at h 72 4) (little_at h 52 4) (little_at h 56 4)
    (little_at h 84 8)
    (little_at f 4 8) (little_at f 32 8) (little_at f 40 4) (little_at f 44 4) (little_at f 60 4) (little_at f 72 4) (little_at f 52 4) (little_at f 56 4)
    (little_at f 84 8)
    (dsf_of h) (dsf_of f) ids
    (n 4 8 (omega arith)) (n 32 8 (omega arith)) (n 40 4 (omega arith)) (n 44 4 (omega arith)) (n 60 4 (omega arith)) (n 72 4 (omega arith))
    (n 52 4 (omega arith)) (n 56 4 (omega arith)) (n 84 8 (omega arith)) (said_by_header f)

-- of a file by its size and its header
pub fault_by_header : (f header : List ℕ) (size : ℕ) → size ≡ length f → 92 ≤ size → header ≡ bytes_at f 0 92 → dsf_fault f ≡ header_fault size header
fault_by_header f header size same long read =
    rules_are f (omega arith) ∙ sym (rules_of_header (length f) f)
    ∙ ap (λ n. header_fault n (bytes_at f 0 92)) (sym same) ∙ ap (header_fault size) (sym read)

pub said_by : (f header : List ℕ) (d : Dsf) → header ≡ bytes_at f 0 92 → dsf_of header ≡ d → dsf_of f ≡ d
said_by f header d read says = sym (said_by_header f) ∙ ap dsf_of (sym read) ∙ says
