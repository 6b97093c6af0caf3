-- Each step is asked where the steps before it found no fault.
use Rattle.std.proofs.Common.{◌≡◌, ℕ, ◌+◌, List, map, Some, None, refl, sym, ap, ◌∙◌, subst, arith}
use Rattle.dsdiff_spec.specs.Chunks.{the_first}
use Rattle.dsdiff_spec.specs.Faults.{◌otherwise◌}
use Rattle.dsdiff_spec.specs.Parts.{compression, kind, prop, prop_head, top_level}
use Rattle.dsdiff_spec.specs.Rules.{opening_fault, local_fault, form_fault, sound_fault, kind_fault}
use Rattle.dsdiff_chunks.specs.declared.lists.ChunkHead.{ChunkHead}
use Rattle.dsdiff_chunks.specs.Kinds.{kind_seen}
use Rattle.dsdiff_chunks.specs.Opening.{first_fault}
use Rattle.dsdiff_chunks.specs.Seen.{head_seen}
use Rattle.dsdiff_chunks.specs.Steps.{IsTheSound}
use Rattle.dsdiff_chunks.proofs.Chain.{at_opening, at_version, at_props, the_prop, the_body, at_prop, past_prop, at_sound, past_sound, the_sound}
use Rattle.dsdiff_chunks.proofs.Stopping.{HasOpenCause-in}
use Rattle.dsdiff_chunks.proofs.build.read_parts.Given.{Over}
use Rattle.dsdiff_chunks.proofs.build.read_parts.Goals as goal
use Rattle.dsdiff_chunks.proofs.build.read_parts.Goals.{After-find_sound-arg-1, In-Ok-check_version}

pub returns-in-Err-clause-stops : goal.returns-in-Err-clause-stops
returns-in-Err-clause-stops g c =
    HasOpenCause-in opening_fault form_fault (g.S.Source.bytes c.args.source.now) (g.S.Source.bytes c.args.source.now) (g.S.Source.faults c.args.source.now)
    (g.S.Source.faults c.args.source.now) _
    c.in-Err.fault refl (omega arith) (λ xs f told e. at_opening xs f e) c.in-Err.ensures.stops

pub returns-in-Err-check_version-clause-stops : goal.returns-in-Err-check_version-clause-stops
returns-in-Err-check_version-clause-stops g c =
    let heads = map head_seen c.as_slice-heads.result.now in
    HasOpenCause-in _ form_fault (g.S.Source.bytes c.args.source.now) (g.S.Source.bytes c.read_chunks.new.source) (g.S.Source.faults c.args.source.now)
    (g.S.Source.faults c.read_chunks.new.source) _
    c.in-Err-check_version.fault c.in-Ok.ensures.bytes c.in-Ok.ensures.later
    (λ xs f told e.
    let o = c.in-Ok.ensures.chunks.told xs (c.in-Ok.ensures.bytes ∙ told) in
    at_version xs heads f o.rules (o.chunks ∙ sym (ap (map head_seen) c.as_slice-heads.ensures.value)) e)
    c.in-Err-check_version.ensures.stops

-- what an FVER that is accepted leaves: an opening without a fault, its chunks, and the first of them without one
version_left : (g : Over) (c : In-Ok-check_version g) (xs : List ℕ) → g.S.Source.bytes c.args.source.now ≡ Some xs →
    (opening_fault xs ≡ None) × ((top_level xs).heads ≡ map head_seen c.as_slice-heads.result.now)
    × (first_fault xs (the_first (map head_seen c.as_slice-heads.result.now)) ≡ None)
version_left g c xs told =
    let there = c.in-Ok.ensures.bytes ∙ told in
    let o = c.in-Ok.ensures.chunks.told xs there in
    (o.rules, o.chunks ∙ sym (ap (map head_seen) c.as_slice-heads.ensures.value), c.in-Ok-check_version.ensures.accepted xs there)

pub returns-in-Err-find_prop-clause-stops : goal.returns-in-Err-find_prop-clause-stops
returns-in-Err-find_prop-clause-stops g c xs told =
    let o = version_left g c.before.before.before xs told in
    at_props xs (map head_seen c.as_slice-heads.result.now) c.in-Err-find_prop.fault o.0 o.1 o.2 c.in-Err-find_prop.ensures.refused

pub returns-in-Err-read_body_of_prop-clause-stops : goal.returns-in-Err-read_body_of_prop-clause-stops
returns-in-Err-read_body_of_prop-clause-stops g c =
    let version = c.in-Ok-check_version.ensures.source in
    HasOpenCause-in _ form_fault (g.S.Source.bytes c.args.source.now) (g.S.Source.bytes c.check_version.new.source) (g.S.Source.faults c.args.source.now)
    (g.S.Source.faults c.check_version.new.source) _
    c.in-Err-read_body_of_prop.fault (version.same_bytes ∙ c.in-Ok.ensures.bytes) (omega (arith, version.later, c.in-Ok.ensures.later))
    (λ xs f told e.
    let o = version_left g c.before.before.before.before.before.before xs told in
    at_prop xs (map head_seen c.as_slice-heads.result.now) (head_seen c.in-Ok-find_prop.head) f o.0 o.1 o.2
    c.in-Ok-find_prop.ensures.found c.in-Ok-find_prop.ensures.most e)
    c.in-Err-read_body_of_prop.ensures.stops

pub returns-in-Err-find_sound-clause-size_stays : goal.returns-in-Err-find_sound-clause-size_stays
returns-in-Err-find_sound-clause-size_stays g c n known =
    c.in-Ok-read_body_of_prop.ensures.source.same_size ∙ c.in-Ok-check_version.ensures.source.same_size ∙ c.in-Ok.ensures.size_stays n known

pub returns-clause-size_stays : goal.returns-clause-size_stays
returns-clause-size_stays g c n known =
    c.in-Ok-read_body_of_prop.ensures.source.same_size ∙ c.in-Ok-check_version.ensures.source.same_size ∙ c.in-Ok.ensures.size_stays n known

-- what a PROP that is accepted leaves: the rules on the sound, the chunks, its head, and its body
prop_found : (g : Over) (c : After-find_sound-arg-1 g) (xs : List ℕ) → g.S.Source.bytes c.args.source.now ≡ Some xs →
    (form_fault xs ≡ (sound_fault xs otherwise kind_fault (kind xs) xs)) × ((top_level xs).heads ≡ map head_seen c.as_slice-heads.result.now)
    × (prop_head xs ≡ head_seen c.in-Ok-find_prop.head) × (prop xs ≡ c.in-Ok-read_body_of_prop.prop.body.items)
prop_found g c xs told =
    let heads = map head_seen c.as_slice-heads.result.now in
    let head = head_seen c.in-Ok-find_prop.head in
    let found = c.in-Ok-find_prop.ensures in
    let o = version_left g c.before.before.before.before.before.before xs told in
    let read = c.in-Ok-read_body_of_prop.ensures in
    let body = read.read xs (c.in-Ok-check_version.ensures.source.same_bytes ∙ c.in-Ok.ensures.bytes ∙ told) in (
      past_prop xs heads head o.0 o.1 o.2 found.found found.most
          (sym (ap (local_fault (head.place + 12)) body) ∙ read.rules),
      o.1,
      the_prop xs heads head o.1 found.found,
      the_body xs heads head o.1 found.found ∙ sym body,
    )

pub returns-in-Err-find_sound-clause-stops : goal.returns-in-Err-find_sound-clause-stops
returns-in-Err-find_sound-clause-stops g c xs told =
    let p = prop_found g c.before.before.before.before xs told in
    at_sound xs (map head_seen c.as_slice-heads.result.now) c.in-Ok-find_prop.head.place _ c.in-Err-find_sound.fault p.0 p.1
    (ap (λ h. h.place) p.2) (ap compression p.3 ∙ sym c.in-Ok-read_body_of_prop.ensures.type_is) c.in-Err-find_sound.ensures.refused

pub returns-clause-parts : goal.returns-clause-parts
returns-clause-parts g c =
    let chunks = c.in-Ok.ensures.chunks in
    let heads = map head_seen c.as_slice-heads.result.now in
    let slice = c.as_slice-heads.ensures.value in
    let head = head_seen c.in-Ok-find_prop.head in
    let prop = c.in-Ok-read_body_of_prop.ensures in
    let version = c.in-Ok-check_version.ensures in
    let sound = c.in-Ok-find_sound.ensures in
    record {
      chunks = record {
        known_size = prop.source.same_size ∙ version.source.same_size ∙ chunks.known_size;
        least = chunks.least;
        most = chunks.most;
        within = chunks.within;
        few = chunks.few;
        tiled = chunks.tiled;
        whole = chunks.whole;
        told = λ xs told. chunks.told xs (sym (prop.source.same_bytes ∙ version.source.same_bytes) ∙ told);
      };
      most = omega (arith, prop.long, c.in-Ok-find_prop.ensures.most);
      long = prop.long;
      rules = prop.rules;
      shape = prop.shape;
      sound = subst
          (λ (hs : List ChunkHead). IsTheSound (map head_seen hs) head.place c.in-Ok-read_body_of_prop.prop.fields.compression
          (kind_seen c.in-Ok-find_sound.sound.kind) (head_seen c.in-Ok-find_sound.sound.head))
          slice sound.sound;
      told = λ xs told.
          let there = sym (prop.source.same_bytes ∙ version.source.same_bytes) ∙ told in
          let opened = chunks.told xs there in
          let p = prop_found g c.before.before xs (sym c.in-Ok.ensures.bytes ∙ there) in
          record {
            left = past_sound xs heads head.place c.in-Ok-read_body_of_prop.prop.fields.compression p.0 p.1 (ap (λ h. h.place) p.2)
                (ap compression p.3 ∙ sym prop.type_is) sound.accepted;
            long = opened.long;
            ends = opened.ends;
            chunks = opened.chunks;
            prop_is = p.2;
            body = p.3;
            sound = the_sound xs heads (head_seen c.in-Ok-find_sound.sound.head) p.1 sound.sound.found;
          };
    }
