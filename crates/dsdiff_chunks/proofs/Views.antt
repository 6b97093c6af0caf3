-- The chunks of a body of `PROP`, as views of them show these.
use Rattle.std.proofs.Common.{◌≡◌, ℕ, ◌+◌, ◌-◌, ◌≤◌, Bool, true, false, cond, List, [], ◌∷◌, length, take, drop, filter, bytes_eq, Some, None, refl, sym, ap}
use Rattle.std.proofs.Common.{◌∙◌, arith}
use Rattle.std.proofs.lemmas.List.{length-drop, length-map, take_all}
use Rattle.std.proofs.lemmas.List.Elements.{All-filter, All-from_recursion, All-head, All-same}
use Rattle.dsdiff_spec.specs.Chunks.{Head, body_of, next_place, the_first}
use Rattle.dsdiff_spec.specs.Parts.{in_prop, local, cmpr_head}
use Rattle.dsdiff_spec.specs.declared.faults.FileFault.TheVariants.{Overrun}
use Rattle.chunk_view.specs.Placed.{PlacedChunk, AreFoundWherever, OverrunsWherever, StandsIn, head_behind, heads_behind}
use Rattle.chunk_view.specs.Seen.{seen}
use Rattle.chunk_view.specs.declared.view.ChunkView.{ChunkView}
use Rattle.dsdiff_chunks.specs.Lawful.{IsPropBody}
use Rattle.dsdiff_chunks.proofs.Exchange.{is_exchanged}

-- what stands behind `SND `
abbrev pub behind_type : List ℕ → List ℕ
behind_type body = take (length body - 4) (drop 4 body)

abbrev pub called : List ℕ → List PlacedChunk → List PlacedChunk
called id chunks = filter (λ p. bytes_eq p.chunk.id id) chunks

stands : (body : List ℕ) → 4 ≤ length body → length body ≤ 65536 → StandsIn (behind_type body) body 4 (length body) 65536
stands body least most =
    let whole : behind_type body ≡ drop 4 body = take_all (length body - 4) (drop 4 body) (omega (arith, length-drop 4 body)) in
    let long : length (behind_type body) ≡ length body - 4 = ap length whole ∙ length-drop 4 body in
    record {
      same = ap (λ n. take n (drop 4 body)) long;
      ends = omega arith;
      enough = omega arith;
    }

pub found_heads : (body : List ℕ) (chunks : List PlacedChunk) → 4 ≤ length body → length body ≤ 65536 →
    AreFoundWherever (behind_type body) chunks → in_prop body ≡ record { heads = heads_behind 4 chunks; fault = None }
found_heads body chunks least most found = (found body 4 (length body) 65536 (stands body least most)).heads

pub overrun_fault : (body : List ℕ) (place : ℕ) → 4 ≤ length body → length body ≤ 65536 →
    OverrunsWherever (behind_type body) place → (in_prop body).fault ≡ Some (Overrun (4 + place))
overrun_fault body place least most overruns = overruns body 4 (length body) 65536 (stands body least most)

-- those of one name
pick : (b : Bool) (start : ℕ) (p : PlacedChunk) (rest : List Head) (ps : List PlacedChunk) → rest ≡ heads_behind start ps →
    cond b (head_behind start p ∷ rest) rest ≡ heads_behind start (cond b (p ∷ ps) ps)
pick true start p rest ps e = ap (λ hs. head_behind start p ∷ hs) e
pick false start p rest ps e = e

abbrev pub heads_called : List ℕ → List Head → List Head
heads_called id heads = filter (λ h. bytes_eq h.id id) heads

called_behind : (id : List ℕ) (start : ℕ) (chunks : List PlacedChunk) →
    heads_called id (heads_behind start chunks) ≡ heads_behind start (called id chunks)
called_behind id start [] = refl
called_behind id start (p ∷ ps) =
    pick (bytes_eq p.chunk.id id) start p (heads_called id (heads_behind start ps)) (called id ps) (called_behind id start ps)

pub local_is : (id body : List ℕ) (chunks : List PlacedChunk) → 4 ≤ length body → length body ≤ 65536 →
    AreFoundWherever (behind_type body) chunks → heads_called id (in_prop body).heads ≡ heads_behind 4 (called id chunks)
local_is id body chunks least most found =
    ap (λ f. heads_called id f.heads) (found_heads body chunks least most found) ∙ called_behind id 4 chunks

pub not_one : (id body : List ℕ) (chunks : List PlacedChunk) → 4 ≤ length body → length body ≤ 65536 →
    AreFoundWherever (behind_type body) chunks → (length (called id chunks) ≡ 1 → ⊥) → length (heads_called id (in_prop body).heads) ≡ 1 → ⊥
not_one id body chunks least most found none one =
    none (sym (length-map (called id chunks) (head_behind 4)) ∙ ap length (sym (local_is id body chunks least most found)) ∙ one)

pub one_view : (id body : List ℕ) (chunks : List PlacedChunk) (view : ChunkView) → 4 ≤ length body → length body ≤ 65536 →
    AreFoundWherever (behind_type body) chunks → called id chunks ≡ seen view ∷ [] →
    heads_called id (in_prop body).heads ≡ head_behind 4 (seen view) ∷ []
one_view id body chunks view least most found one =
    local_is id body chunks least most found ∙ ap (heads_behind 4) one

-- ---- `CMPR` of a body that keeps the rules
pub cmpr_is : (body : List ℕ) (view : ChunkView) → local "CMPR" body ≡ head_behind 4 (seen view) ∷ [] → cmpr_head body ≡ head_behind 4 (seen view)
cmpr_is body view one = ap the_first one

pub cmpr_inside : (body : List ℕ) (view : ChunkView) → IsPropBody body → local "CMPR" body ≡ head_behind 4 (seen view) ∷ [] →
    next_place (head_behind 4 (seen view)) ≤ length body
cmpr_inside body view h one =
    let inside : next_place (cmpr_head body) ≤ length body = (is_exchanged body [] h).inside in
    rw (cmpr_is body view one) at inside

-- ---- the body of the only chunk of a name
pub body_is_there : (id body : List ℕ) (chunks : List PlacedChunk) (view : ChunkView) → 4 ≤ length body → length body ≤ 65536 →
    AreFoundWherever (behind_type body) chunks → called id chunks ≡ seen view ∷ [] →
    body_of body (head_behind 4 (seen view)) ≡ view.body.now
body_is_there id body chunks view least most found one =
    let all = All-from_recursion (λ p. body_of body (head_behind 4 p) ≡ p.chunk.body) chunks
    (found body 4 (length body) 65536 (stands body least most)).bodies in
    let those = All-filter (λ p. bytes_eq p.chunk.id id) (λ p. body_of body (head_behind 4 p) ≡ p.chunk.body) chunks all in
    All-head (λ p. body_of body (head_behind 4 p) ≡ p.chunk.body) (seen view) []
    (All-same (λ p. body_of body (head_behind 4 p) ≡ p.chunk.body) (seen view ∷ []) (called id chunks) (sym one) those)
