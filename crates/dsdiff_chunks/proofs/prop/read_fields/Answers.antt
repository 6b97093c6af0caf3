-- Rule by rule: those before hold, and this one is broken.
use Rattle.std.proofs.Common.{◌≡◌, ◌∷◌, [], ◌/◌, ℕ, List, Bool, true, false, Option, Some, None, refl, sym, ap, ◌∙◌}
use Rattle.chunk_view.specs.Placed.{head_behind}
use Rattle.chunk_view.specs.Seen.{seen}
use Rattle.chunk_view.specs.declared.view.ChunkView.{ChunkView}
use Rattle.dst_spec.specs.Sample.{Shape}
use Rattle.dsdiff_spec.specs.declared.faults.FileFault.{FileFault}
use Rattle.dsdiff_spec.specs.declared.faults.FileFault.TheVariants.{Rate, Channels, Compression}
use Rattle.dsdiff_spec.specs.Chunks.{body_of}
use Rattle.dsdiff_spec.specs.Faults.{◌when◌, ◌otherwise◌}
use Rattle.dsdiff_spec.specs.Form.{shape_of}
use Rattle.dsdiff_spec.specs.Parts.{local, rate, channel_count}
use Rattle.dsdiff_spec.specs.Rules.{rate_fault, channels_fault, compression_fault}
use Rattle.dsdiff_chunks.specs.Local.{is_bad_rate, is_bad_count, is_bad_compression}
use Rattle.dsdiff_chunks.proofs.Fields.{first_refuses, later, rate_of_one, count_of_one, compression_of_one, count_of_others, compression_of_others, rate_reads}
use Rattle.dsdiff_chunks.proofs.Fields.{compression_reads, count_reads, rate_of_others}
use Rattle.dsdiff_chunks.proofs.prop.read_fields.Goals as goal

-- a chunk that is the only one of its name, and what is said of its body
rate_said : (body : List ℕ) (v : ChunkView) (b : Bool) → local "FS  " body ≡ head_behind 4 (seen v) ∷ [] → body_of body (head_behind 4 (seen v)) ≡ v.body.now →
    is_bad_rate v.body.now ≡ b → rate_fault body ≡ (Rate when b)
rate_said body v b one e bad = rate_of_one body v.body.now (head_behind 4 (seen v)) one e refl ∙ ap (λ x. Rate when x) bad

count_said : (body : List ℕ) (v : ChunkView) (b : Bool) → local "CHNL" body ≡ head_behind 4 (seen v) ∷ [] → body_of body (head_behind 4 (seen v)) ≡ v.body.now →
    is_bad_count v.body.now ≡ b → channels_fault body ≡ (Channels when b)
count_said body v b one e bad = count_of_one body v.body.now (head_behind 4 (seen v)) one e refl ∙ ap (λ x. Channels when x) bad

compression_said : (body : List ℕ) (v : ChunkView) (b : Bool) → local "CMPR" body ≡ head_behind 4 (seen v) ∷ [] →
    body_of body (head_behind 4 (seen v)) ≡ v.body.now →
    is_bad_compression v.body.now ≡ b → compression_fault body ≡ (Compression when b)
compression_said body v b one e bad = compression_of_one body v.body.now (head_behind 4 (seen v)) one e refl ∙ ap (λ x. Compression when x) bad

abbrev behind_rate : List ℕ → Option FileFault
behind_rate body = channels_fault body otherwise compression_fault body

pub returns-in_default-clause-refused : goal.returns-in_default-clause-refused
returns-in_default-clause-refused c =
    first_refuses (rate_fault c.args.body.now) (behind_rate c.args.body.now) Rate (rate_of_others c.args.body.now c.in_default.ensures.none)

pub returns-in_default-rate_in-clause-refused : goal.returns-in_default-rate_in-clause-refused
returns-in_default-rate_in-clause-refused c =
    let body = c.args.body.now in
    first_refuses (rate_fault body) (behind_rate body) Rate
    (rate_said body c.in-Some.fs true c.in-Some.ensures.one c.in-Some.ensures.body c.in_default-rate_in.ensures.none)

pub returns-in_default-local-clause-refused : goal.returns-in_default-local-clause-refused
returns-in_default-local-clause-refused c =
    let body = c.args.body.now in
    later (rate_fault body) (behind_rate body) (Some Channels)
    (rate_said body c.in-Some.fs false c.in-Some.ensures.one c.in-Some.ensures.body c.in-Some-rate_in.ensures.some)
    (first_refuses (channels_fault body) (compression_fault body) Channels (count_of_others body c.in_default-local.ensures.none))

pub returns-in_default-count_in-clause-refused : goal.returns-in_default-count_in-clause-refused
returns-in_default-count_in-clause-refused c =
    let body = c.args.body.now in
    later (rate_fault body) (behind_rate body) (Some Channels)
    (rate_said body c.in-Some.fs false c.in-Some.ensures.one c.in-Some.ensures.body c.in-Some-rate_in.ensures.some)
    (first_refuses (channels_fault body) (compression_fault body) Channels
    (count_said body c.in-Some-local.chnl true c.in-Some-local.ensures.one c.in-Some-local.ensures.body c.in_default-count_in.ensures.none))

pub returns-in_default-local-2-clause-refused : goal.returns-in_default-local-2-clause-refused
returns-in_default-local-2-clause-refused c =
    let body = c.args.body.now in
    later (rate_fault body) (behind_rate body) (Some Compression)
    (rate_said body c.in-Some.fs false c.in-Some.ensures.one c.in-Some.ensures.body c.in-Some-rate_in.ensures.some)
    (later (channels_fault body) (compression_fault body) (Some Compression)
    (count_said body c.in-Some-local.chnl false c.in-Some-local.ensures.one c.in-Some-local.ensures.body c.in-Some-count_in.ensures.some)
    (compression_of_others body c.in_default-local-2.ensures.none))

pub returns-in_default-compression_in-clause-refused :
    goal.returns-in_default-compression_in-clause-refused
returns-in_default-compression_in-clause-refused c =
    let body = c.args.body.now in
    later (rate_fault body) (behind_rate body) (Some Compression)
    (rate_said body c.in-Some.fs false c.in-Some.ensures.one c.in-Some.ensures.body c.in-Some-rate_in.ensures.some)
    (later (channels_fault body) (compression_fault body) (Some Compression)
    (count_said body c.in-Some-local.chnl false c.in-Some-local.ensures.one c.in-Some-local.ensures.body c.in-Some-count_in.ensures.some)
    (compression_said body c.in-Some-local-2.cmpr true c.in-Some-local-2.ensures.one c.in-Some-local-2.ensures.body c.in_default-compression_in.ensures.none))

pub returns-clause-accepted : goal.returns-clause-accepted
returns-clause-accepted c =
    let body = c.args.body.now in
    later (rate_fault body) (behind_rate body) None
    (rate_said body c.in-Some.fs false c.in-Some.ensures.one c.in-Some.ensures.body c.in-Some-rate_in.ensures.some)
    (later (channels_fault body) (compression_fault body) None
    (count_said body c.in-Some-local.chnl false c.in-Some-local.ensures.one c.in-Some-local.ensures.body c.in-Some-count_in.ensures.some)
    (compression_said body c.in-Some-local-2.cmpr false c.in-Some-local-2.ensures.one c.in-Some-local-2.ensures.body c.in-Some-compression_in.ensures.some))

same_shape : (channels : Shape) (a b m n : ℕ) → channels ≡ shape_of a (m / 2822400) → b ≡ a → n ≡ m → channels ≡ shape_of b (n / 2822400)
same_shape channels a b m n e p q = e ∙ ap (λ x. shape_of x (m / 2822400)) (sym p) ∙ ap (λ x. shape_of b (x / 2822400)) (sym q)

pub returns-clause-channels : goal.returns-clause-channels
returns-clause-channels c =
    let body = c.args.body.now in
    let fs = c.in-Some.fs in
    let chnl = c.in-Some-local.chnl in
    same_shape c.in-Some-at.channels c.in-Some-count_in.count (channel_count body) c.in-Some-rate_in.rate (rate body) c.in-Some-at.ensures.value
    (count_reads body chnl.body.now (head_behind 4 (seen chnl)) c.in-Some-local.ensures.one c.in-Some-local.ensures.body refl c.in-Some-count_in.ensures.some
    ∙ sym c.in-Some-count_in.ensures.count)
    (rate_reads body fs.body.now (head_behind 4 (seen fs)) c.in-Some.ensures.one c.in-Some.ensures.body refl c.in-Some-rate_in.ensures.some
    ∙ sym c.in-Some-rate_in.ensures.rate)

pub returns-clause-compression : goal.returns-clause-compression
returns-clause-compression c =
    let cmpr = c.in-Some-local-2.cmpr in
    c.in-Some-compression_in.ensures.compression
    ∙ sym (compression_reads c.args.body.now cmpr.body.now (head_behind 4 (seen cmpr)) c.in-Some-local-2.ensures.one c.in-Some-local-2.ensures.body refl
    c.in-Some-compression_in.ensures.some)
