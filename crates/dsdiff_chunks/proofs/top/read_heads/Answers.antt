-- The loop keeps that the heads so far stand in front of those that are found from the place on.
use Rattle.std.proofs.Common.{rules, ◌≡◌, suc, ◌+◌, ◌-◌, ◌%◌, ◌≤◌, [], ◌∷◌, ◌++◌, length, map, ap, ◌∙◌, subst, arith, length-append, append-nil, true}
use Rattle.std.proofs.lemmas.List.{map-append}
use Rattle.std.proofs.lemmas.List.Elements.{All-push}
use Rattle.dsdiff_spec.specs.Chunks.{chunks_from, fits, next_place, body_end}
use Rattle.dsdiff_chunks.specs.Lawful.{TileTo}
use Rattle.dsdiff_chunks.specs.Opening.{may_lack_pad}
use Rattle.dsdiff_chunks.specs.Seen.{head_seen}
use Rattle.dsdiff_chunks.proofs.TopLevel.{in_front, in_front_of_none, nothing_left, too_many, overrun_found, found_more, tiled_more}
use Rattle.dsdiff_chunks.proofs.Stopping.{HasOpenCause-in}
use Rattle.dsdiff_chunks.proofs.top.read_heads.Goals as goal

pub returns-then-len-eq-MOST_CHUNKS-clause-stops : goal.returns-then-len-eq-MOST_CHUNKS-clause-stops
returns-then-len-eq-MOST_CHUNKS-clause-stops g c xs told =
    let none : 1024 - length c.loop-place.heads.items ≡ 0 = omega (arith, c.loop-place.heads.ok.0) in
    ap (λ found. found.fault)
    (c.loop-place.invariant.found xs told
    ∙ ap (in_front (map head_seen c.loop-place.heads.items))
    (ap (λ n. chunks_from may_lack_pad xs c.args.end n c.loop-place.place) none
    ∙ too_many may_lack_pad xs c.args.end c.loop-place.place c.loop-place-test.true))

pub returns-in-Err-next_head-clause-stops : goal.returns-in-Err-next_head-clause-stops
returns-in-Err-next_head-clause-stops g c =
    let heads = c.loop-place.heads.items in
    let few : 1024 - length heads ≡ suc (1023 - length heads) = omega (arith, c.loop-place.heads.ok.0, c.if-len-eq-MOST_CHUNKS.false) in
    HasOpenCause-in _ (λ xs. (chunks_from may_lack_pad xs c.args.end 1024 16).fault) (g.S.Source.bytes c.args.source.now) _
    (g.S.Source.faults c.args.source.now) _ _ c.in-Err-next_head.fault c.loop-place.invariant.bytes c.loop-place.invariant.faults
    (λ xs f told refused.
    overrun_found may_lack_pad xs c.args.end (1023 - length heads) c.loop-place.place (map head_seen heads) _ f few
    (c.loop-place.invariant.found xs told) c.loop-place-test.true refused)
    c.in-Err-next_head.ensures.stops

pub loop-place-preserved : goal.loop-place-preserved
loop-place-preserved g c =
    let end = c.args.end in
    let place = c.loop-place.place in
    let heads = c.loop-place.heads.items in
    let head = c.in-Ok-next_head.head in
    let few : 1024 - length heads ≡ suc (1023 - length heads) = omega (arith, c.loop-place.heads.ok.0, c.if-len-eq-MOST_CHUNKS.false) in
    let pushed : c.push_reserved.new.self.items ≡ heads ++ head ∷ [] = c.push_reserved.ensures.items in
    let longer : length c.push_reserved.new.self.items ≡ length heads + 1 = ap length pushed ∙ length-append heads (head ∷ []) in
    let seen : map head_seen c.push_reserved.new.self.items ≡ map head_seen heads ++ head_seen head ∷ [] =
    ap (map head_seen) pushed ∙ map-append head_seen heads (head ∷ []) in
    let left : 1023 - length heads ≡ 1024 - length c.push_reserved.new.self.items = omega (arith, longer) in
    let next : next_place (head_seen head) ≡ place + (12 + head.size + head.size % 2) = omega (arith, c.in-Ok-next_head.ensures.place) in
    let within : body_end (head_seen head) ≤ end = omega (arith, c.in-Ok-next_head.ensures.place, c.in-Ok-next_head.ensures.within) in
    record {
      bytes = search rules;
      known = search rules;
      loan = search rules;
      faults = omega (arith, c.in-Ok-next_head.ensures.source.later);
      given = omega (arith, c.in-Ok-next_head.ensures.source.given_most, longer);
      few = omega (arith, longer, c.loop-place.heads.ok.0, c.if-len-eq-MOST_CHUNKS.false);
      room = search rules;
      after = omega arith;
      before = omega (arith, c.in-Ok-next_head.ensures.within);
      tiled = rw seen (tiled_more end place _ (map head_seen heads) (head_seen head) c.in-Ok-next_head.ensures.place within next c.loop-place.invariant.tiled);
      whole =
          rw seen
          (All-push (λ h. fits may_lack_pad end h ≡ true) (map head_seen heads) (head_seen head) c.loop-place.invariant.whole c.in-Ok-next_head.ensures.fits);
      found = λ xs told.
          rw (seen, ← left)
          (found_more may_lack_pad xs end (1023 - length heads) place _ (map head_seen heads) (head_seen head) _ few
          (c.loop-place.invariant.found xs told)
          c.loop-place-test.true (c.in-Ok-next_head.ensures.head xs (c.loop-place.invariant.bytes ∙ told)) c.in-Ok-next_head.ensures.fits next);
    }

pub returns-clause-tiled : goal.returns-clause-tiled
returns-clause-tiled g c =
    let ends : TileTo c.args.end c.loop-place.place [] = (c.loop-place-test.false, c.loop-place.invariant.before) in
    subst (TileTo c.args.end 16) (append-nil (map head_seen c.loop-place.heads.items)) (c.loop-place.invariant.tiled [] ends)

pub returns-clause-found : goal.returns-clause-found
returns-clause-found g c xs told =
    c.loop-place.invariant.found xs told
    ∙ ap (in_front (map head_seen c.loop-place.heads.items))
    (nothing_left may_lack_pad xs c.args.end (1024 - length c.loop-place.heads.items) c.loop-place.place c.loop-place-test.false)
    ∙ in_front_of_none _

pub push_reserved-requires : goal.push_reserved-requires
push_reserved-requires g c = omega (arith, c.loop-place.invariant.room, c.loop-place.invariant.few, c.loop-place.heads.ok.0, c.if-len-eq-MOST_CHUNKS.false)

pub returns-clause-room : goal.returns-clause-room
returns-clause-room g c = c.loop-place.invariant.room
