-- Chunks of which some are frames, cut at frames: those from one frame to another, their entries and their bodies.
use Rattle.std.proofs.Common.{◌≡◌, ℕ, zero, suc, ◌+◌, ◌-◌, ◌<◌, ◌≤◌, ◌==◌, Bool, true, false, if◌then◌else◌, List, [], ◌∷◌, ◌++◌, length, take, drop}
use Rattle.std.proofs.Common.{map, refl, sym, ap, ap₂, ◌∙◌, arith, length-append, take_at, append_assoc, append-nil, eqb-true}
use Rattle.std.proofs.lemmas.Bool.{eqb-false}
use Rattle.std.proofs.lemmas.List.{drop_at, map-append, get_or_at}
use Rattle.std.proofs.lemmas.List.Elements.{filter-append}
use Rattle.dsdiff_spec.specs.Bytes.{◌is◌}
use Rattle.dsdiff_spec.specs.Chunks.{Chunk, bytes_of_chunk, Head, named}
use Rattle.dsdiff_spec.specs.Walk.{Entry, entry_of, entry}
use Rattle.dsdiff_spec.proofs.Tiling.{heads_from, head_of}
use Rattle.dsdiff_laws.proofs.Filed.{body_bytes}
use Rattle.dsdiff_laws.proofs.Order.{heads-append}
use Rattle.dsdiff_laws.proofs.ChunkWalk.{frames_among, bodies_of, entries_among}
use Rattle.dsdiff_laws.proofs.CodedFile.{length-body}

-- ---- lists one after the other
frames-append : (cs ds : List Chunk) → frames_among (cs ++ ds) ≡ frames_among cs ++ frames_among ds
frames-append cs ds = filter-append (λ (c : Chunk). c.id is "DSTF") cs ds

pub count-append : (cs ds : List Chunk) → length (frames_among (cs ++ ds)) ≡ length (frames_among cs) + length (frames_among ds)
count-append cs ds = ap length (frames-append cs ds) ∙ length-append (frames_among cs) (frames_among ds)

entries-append : (place : ℕ) (cs ds : List Chunk) → entries_among place (cs ++ ds) ≡ entries_among place cs ++ entries_among (place + length (body_bytes cs)) ds
entries-append place cs ds =
    ap (λ hs. map entry_of (named "DSTF" hs)) (heads-append place cs ds)
    ∙ ap (map entry_of) (filter-append (λ (h : Head). h.id is "DSTF") (heads_from place cs) (heads_from (place + length (body_bytes cs)) ds))
    ∙ map-append entry_of (named "DSTF" (heads_from place cs)) (named "DSTF" (heads_from (place + length (body_bytes cs)) ds))

pub length-entries_among : (place : ℕ) (cs : List Chunk) → length (entries_among place cs) ≡ length (frames_among cs)
length-entries_among place [] = refl
length-entries_among place (c ∷ cs) = go (c.id is "DSTF") (length-entries_among (place + length (bytes_of_chunk c)) cs)
  where
    go : (b : Bool) → length (entries_among (place + length (bytes_of_chunk c)) cs) ≡ length (frames_among cs) →
        length (map entry_of (if b then head_of c.id place (length c.body) ∷ named "DSTF" (heads_from (place + length (bytes_of_chunk c)) cs)
        else named "DSTF" (heads_from (place + length (bytes_of_chunk c)) cs)))
        ≡ length (if b then c ∷ frames_among cs else frames_among cs)
    go true e = omega (arith, e)
    go false e = e

middle_of : {A : Type 0} (xs ys zs : List A) (a n : ℕ) → length xs ≡ a → length ys ≡ n → take n (drop a (xs ++ (ys ++ zs))) ≡ ys
middle_of xs ys zs a n p q = ap (take n) (drop_at xs (ys ++ zs) a p) ∙ take_at ys zs n q

-- ---- the chunk of frame k
pub record AtFrame (cs : List Chunk) (k : ℕ) : Type 0 where
  pub before : List Chunk
  pub frame : Chunk
  pub behind : List Chunk
  pub parts : cs ≡ before ++ frame ∷ behind
  pub name : (frame.id is "DSTF") ≡ true
  pub count : length (frames_among before) ≡ k

pub at_frame : (cs : List Chunk) (k : ℕ) → k < length (frames_among cs) → AtFrame cs k
at_frame [] k l = absurd (omega (arith, l))
at_frame (c ∷ cs) k l = go (c.id is "DSTF") refl k l (λ j m. at_frame cs j m)
  where
    go : (b : Bool) → (c.id is "DSTF") ≡ b → (k : ℕ) → k < length (if b then c ∷ frames_among cs else frames_among cs) →
        ((j : ℕ) → j < length (frames_among cs) → AtFrame cs j) → AtFrame (c ∷ cs) k
    go true e zero l later = record { before = []; frame = c; behind = cs; parts = refl; name = e; count = refl }
    go true e (suc k) l later =
        let o = later k (omega (arith, l)) in
        let count = o.count in
        record {
          before = c ∷ o.before;
          frame = o.frame;
          behind = o.behind;
          parts = ap (λ ds. c ∷ ds) o.parts;
          name = o.name;
          count = ap (λ (b : Bool). length (if b then c ∷ frames_among o.before else frames_among o.before)) e ∙ ap suc count;
        }
    go false e k l later =
        let o = later k l in
        record {
          before = c ∷ o.before;
          frame = o.frame;
          behind = o.behind;
          parts = ap (λ ds. c ∷ ds) o.parts;
          name = o.name;
          count = ap (λ (b : Bool). length (if b then c ∷ frames_among o.before else frames_among o.before)) e ∙ o.count;
        }

pub entry_at_frame : (place : ℕ) (cs : List Chunk) (k : ℕ) (a : AtFrame cs k) →
    (entry (entries_among place cs) k).offset ≡ place + length (body_bytes a.before) + 12
entry_at_frame place cs k a =
    let here = place + length (body_bytes a.before) in
    let e : Entry = entry_of (head_of a.frame.id here (length a.frame.body)) in
    let rest = named "DSTF" (heads_from (here + length (bytes_of_chunk a.frame)) a.behind) in
    let first : entries_among here (a.frame ∷ a.behind) ≡ e ∷ map entry_of rest =
    ap (λ (b : Bool). map entry_of (if b then head_of a.frame.id here (length a.frame.body) ∷ rest else rest)) a.name in
    ap (λ ds. (entry (entries_among place ds) k).offset) a.parts
    ∙ ap (λ es. (entry es k).offset) (entries-append place a.before (a.frame ∷ a.behind) ∙ ap (λ es. entries_among place a.before ++ es) first)
    ∙ ap (λ (x : Entry). x.offset) (get_or_at (entries_among place a.before) e (map entry_of rest) (record { offset = 0; size = 0 }) k
    (length-entries_among place a.before ∙ a.count))

-- ---- those from one frame to another, or to the end
pub record IsMiddle (cs : List Chunk) (first last : ℕ) : Type 0 where
  pub before : List Chunk
  pub mid : List Chunk
  pub behind : List Chunk
  pub parts : cs ≡ before ++ (mid ++ behind)
  pub count_before : length (frames_among before) ≡ first
  pub count : length (frames_among mid) ≡ last + 1 - first
  pub begins : (place : ℕ) → (entry (entries_among place cs) first).offset ≡ place + length (body_bytes before) + 12
  pub ends : (place : ℕ) →
      (if length (frames_among cs) == last + 1 then place + length (body_bytes cs) else (entry (entries_among place cs) (last + 1)).offset - 12)
      ≡ place + length (body_bytes before) + length (body_bytes mid)

pub middle : (cs : List Chunk) (first last : ℕ) → first ≤ last → last < length (frames_among cs) → IsMiddle cs first last
middle cs first last le l = go (length (frames_among cs) == last + 1) refl
  where
    go : (b : Bool) → (length (frames_among cs) == last + 1) ≡ b → IsMiddle cs first last
    go true e =
        let a = at_frame cs first (omega (arith, le, l)) in
        let mid = a.frame ∷ a.behind in
        let all : length (frames_among cs) ≡ last + 1 = eqb-true (length (frames_among cs)) (last + 1) e in
        let split : length (frames_among cs) ≡ length (frames_among a.before) + length (frames_among mid) =
        ap (λ ds. length (frames_among ds)) a.parts ∙ count-append a.before mid in
        let whole : length (body_bytes cs) ≡ length (body_bytes a.before) + length (body_bytes mid) =
        ap (λ ds. length (body_bytes ds)) a.parts ∙ length-body a.before mid in
        record {
          before = a.before;
          mid = mid;
          behind = [];
          parts = a.parts ∙ ap (λ ds. a.before ++ ds) (sym (append-nil mid));
          count_before = a.count;
          count = omega (arith, split, all, a.count);
          begins = λ place. entry_at_frame place cs first a;
          ends = λ place. ap (λ (b : Bool). if b then place + length (body_bytes cs) else (entry (entries_among place cs) (last + 1)).offset - 12) e
              ∙ omega (arith, whole);
        }
    go false e =
        let more = eqb-false (length (frames_among cs)) (last + 1) e in
        let b = at_frame cs (last + 1) (omega (arith, l, more)) in
        let a = at_frame b.before first (omega (arith, le, b.count)) in
        let mid = a.frame ∷ a.behind in
        let behind = b.frame ∷ b.behind in
        let split : length (frames_among b.before) ≡ length (frames_among a.before) + length (frames_among mid) =
        ap (λ ds. length (frames_among ds)) a.parts ∙ count-append a.before mid in
        let whole : length (body_bytes b.before) ≡ length (body_bytes a.before) + length (body_bytes mid) =
        ap (λ ds. length (body_bytes ds)) a.parts ∙ length-body a.before mid in
        let parts : cs ≡ a.before ++ (mid ++ behind) =
        b.parts ∙ ap (λ ds. ds ++ behind) a.parts ∙ append_assoc a.before mid behind in
        let at_first : AtFrame cs first =
        record { before = a.before; frame = a.frame; behind = a.behind ++ behind; parts = parts; name = a.name; count = a.count } in
        record {
          before = a.before;
          mid = mid;
          behind = behind;
          parts = parts;
          count_before = a.count;
          count = omega (arith, split, a.count, b.count);
          begins = λ place. entry_at_frame place cs first at_first;
          ends = λ place. ap (λ (c : Bool). if c then place + length (body_bytes cs) else (entry (entries_among place cs) (last + 1)).offset - 12) e
              ∙ (let there = entry_at_frame place cs (last + 1) b in omega (arith, there, whole));
        }

pub entries_of_middle : (cs : List Chunk) (first last place : ℕ) (m : IsMiddle cs first last) →
    take (last + 1 - first) (drop first (entries_among place cs)) ≡ entries_among (place + length (body_bytes m.before)) m.mid
entries_of_middle cs first last place m =
    let here = place + length (body_bytes m.before) in
    ap (λ es. take (last + 1 - first) (drop first es)) (ap (entries_among place) m.parts ∙ entries-append place m.before (m.mid ++ m.behind)
    ∙ ap (λ es. entries_among place m.before ++ es) (entries-append here m.mid m.behind))
    ∙ middle_of (entries_among place m.before) (entries_among here m.mid) (entries_among (here + length (body_bytes m.mid)) m.behind) first (last + 1 - first)
    (length-entries_among place m.before ∙ m.count_before) (length-entries_among here m.mid ∙ m.count)

pub frames_in_middle : (cs : List Chunk) (first last : ℕ) (m : IsMiddle cs first last) →
    take (last + 1 - first) (drop first (frames_among cs)) ≡ frames_among m.mid
frames_in_middle cs first last m =
    ap (λ ds. take (last + 1 - first) (drop first ds)) (ap frames_among m.parts ∙ frames-append m.before (m.mid ++ m.behind)
    ∙ ap (λ ds. frames_among m.before ++ ds) (frames-append m.mid m.behind))
    ∙ middle_of (frames_among m.before) (frames_among m.mid) (frames_among m.behind) first (last + 1 - first) m.count_before m.count

pub bodies_of_middle : (cs : List Chunk) (first last : ℕ) (m : IsMiddle cs first last) →
    take (last + 1 - first) (drop first (bodies_of (frames_among cs))) ≡ bodies_of (frames_among m.mid)
bodies_of_middle cs first last m =
    bodies_taken (last + 1 - first) (drop first (frames_among cs)) (bodies_dropped first (frames_among cs))
    ∙ ap bodies_of (frames_in_middle cs first last m)
  where
    bodies_dropped : (n : ℕ) (ds : List Chunk) → drop n (bodies_of ds) ≡ bodies_of (drop n ds)
    bodies_dropped zero ds = refl
    bodies_dropped (suc n) [] = refl
    bodies_dropped (suc n) (d ∷ ds) = bodies_dropped n ds

    bodies_of_take : (n : ℕ) (ds : List Chunk) → take n (bodies_of ds) ≡ bodies_of (take n ds)
    bodies_of_take zero ds = refl
    bodies_of_take (suc n) [] = refl
    bodies_of_take (suc n) (d ∷ ds) = ap (λ ws. d.body ∷ ws) (bodies_of_take n ds)

    bodies_taken : (n : ℕ) (ds : List Chunk) {ws : List (List ℕ)} → ws ≡ bodies_of ds → take n ws ≡ bodies_of (take n ds)
    bodies_taken n ds e = ap (take n) e ∙ bodies_of_take n ds

-- ---- the same chunks at another place
pub moved : (from to k : ℕ) (cs : List Chunk) →
    map (λ (e : Entry). record { offset = to + (e.offset - from); size = e.size }) (entries_among (from + k) cs) ≡ entries_among (to + k) cs
moved from to k [] = refl
moved from to k (c ∷ cs) = go (c.id is "DSTF") (placed (moved from to (k + length (bytes_of_chunk c)) cs))
  where
    next : ℕ → List Head
    next place = named "DSTF" (heads_from (place + length (bytes_of_chunk c)) cs)

    assoc : (a n : ℕ) → a + (k + n) ≡ a + k + n
    assoc a n = omega arith

    placed : map (λ (e : Entry). record { offset = to + (e.offset - from); size = e.size }) (entries_among (from + (k + length (bytes_of_chunk c))) cs)
        ≡ entries_among (to + (k + length (bytes_of_chunk c))) cs →
        map (λ (e : Entry). record { offset = to + (e.offset - from); size = e.size }) (map entry_of (next (from + k))) ≡ map entry_of (next (to + k))
    placed h =
        ap (λ n. map (λ (e : Entry). record { offset = to + (e.offset - from); size = e.size }) (entries_among n cs))
        (sym (assoc from (length (bytes_of_chunk c))))
        ∙ h ∙ ap (λ n. entries_among n cs) (assoc to (length (bytes_of_chunk c)))

    go : (b : Bool) →
        map (λ (e : Entry). record { offset = to + (e.offset - from); size = e.size }) (map entry_of (next (from + k))) ≡ map entry_of (next (to + k)) →
        map (λ (e : Entry). record { offset = to + (e.offset - from); size = e.size })
        (map entry_of (if b then head_of c.id (from + k) (length c.body) ∷ next (from + k) else next (from + k)))
        ≡ map entry_of (if b then head_of c.id (to + k) (length c.body) ∷ next (to + k) else next (to + k))
    go true h =
        let place : to + (from + k + 12 - from) ≡ to + k + 12 = omega arith in
        ap₂ (λ (n : ℕ) (es : List Entry). record { offset = n; size = length c.body } ∷ es) place h
    go false h = h
