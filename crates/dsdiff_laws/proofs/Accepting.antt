-- What encoding writes is bytes.
use Rattle.std.proofs.Common.{◌≡◌, ℕ, zero, suc, ◌+◌, ◌/◌, ◌%◌, ◌^◌, ◌<◌, ◌==◌, Bool, true, false, if◌then◌else◌, List, [], ◌∷◌, ◌++◌, length}
use Rattle.std.proofs.Common.{flat_map, sym, subst, arith}
use Rattle.std.specs.Prelude.{codes}
use Rattle.std.specs.List.{AllByRecursion}
use Rattle.std.specs.Int.{byte_at}
use Rattle.std.proofs.Math.Nat.{mod-lt}
use Rattle.std.proofs.lemmas.List.Concat.{flat_map-append}
use Rattle.byteorder.specs.Endian.{big_bytes}
use Rattle.dst_spec.specs.Bits.{AreBytes}
use Rattle.dsdiff_spec.specs.Chunks.{Chunk, bytes_of_chunk}
use Rattle.dsdiff_spec.specs.Form.{Form}
use Rattle.dsdiff_spec.specs.Parts.{behind_form}
use Rattle.dsdiff_spec.specs.Walk.{Entry}
use Rattle.dsdiff_spec.specs.Written.{frte, dstf}
use Rattle.dsdiff_spec.proofs.ByteLists.{bytes_joined, entry_bytes}
use Rattle.dsdiff_laws.proofs.Filed.{body_bytes, opening_bytes}
use Rattle.dsdiff_laws.proofs.Props.{chunk_of, replaced, replaced_is, around_cmpr, locals, body_with}
use Rattle.dsdiff_laws.proofs.PlainParts.{PlainParts}
use Rattle.dsdiff_laws.proofs.CodedChunks.{coded_cmpr, coded_prop, dst_body, dst_chunk, dsti_chunk, origin_body, coded_pre, plain_pre}
use Rattle.dsdiff_laws.proofs.CodedChunks.{entries_of, origin_of_parts, coded_chunks}
use Prim.Native.String.{String}

pub all_parts : (xs ys : List ℕ) → AreBytes (xs ++ ys) → AreBytes xs × AreBytes ys
all_parts [] ys all = (tt, all)
all_parts (x ∷ xs) ys all = let later = all_parts xs ys all.1 in ((all.0, later.0), later.1)

byte-below : (n x : ℕ) → byte_at n x < 256
byte-below zero x = let some : 0 < 256 = omega arith in mod-lt x some
byte-below (suc n) x = let some : 0 < 256 = omega arith in mod-lt (x / 256 ^ suc n) some

pub numbers_are_bytes : (n x : ℕ) → AreBytes (big_bytes n x)
numbers_are_bytes zero x = tt
numbers_are_bytes (suc n) x = (byte-below n x, numbers_are_bytes n x)

-- ---- chunks
parts_of_bytes : (c : Chunk) → AreBytes (bytes_of_chunk c) → AreBytes c.id × AreBytes c.body × AreBytes c.pad
parts_of_bytes c all =
    let a = all_parts (c.id ++ big_bytes 8 (length c.body) ++ c.body) c.pad all in
    let b = all_parts (c.id ++ big_bytes 8 (length c.body)) c.body a.0 in
    let d = all_parts c.id (big_bytes 8 (length c.body)) b.0 in
    (d.0, b.1, a.1)

pub written_bytes : (name : String) (body : List ℕ) (pad : ℕ) → AreBytes (codes name) → AreBytes body → pad < 256 →
    AreBytes (bytes_of_chunk (chunk_of name body pad))
written_bytes name body pad n b l =
    bytes_joined (codes name ++ big_bytes 8 (length body) ++ body) (if length body % 2 == 1 then pad ∷ [] else [])
    (bytes_joined (codes name ++ big_bytes 8 (length body)) body
    (bytes_joined (codes name) (big_bytes 8 (length body)) n (numbers_are_bytes 8 (length body))) b)
    (pads (length body % 2 == 1))
  where
    pads : (t : Bool) → AreBytes (if t then pad ∷ [] else [])
    pads true = (l, tt)
    pads false = tt

pub body_parts : (cs ds : List Chunk) → AreBytes (body_bytes (cs ++ ds)) → AreBytes (body_bytes cs) × AreBytes (body_bytes ds)
body_parts cs ds all = all_parts (body_bytes cs) (body_bytes ds) (subst AreBytes (flat_map-append bytes_of_chunk cs ds) all)

pub body_joined : (cs ds : List Chunk) → AreBytes (body_bytes cs) → AreBytes (body_bytes ds) → AreBytes (body_bytes (cs ++ ds))
body_joined cs ds a b = subst AreBytes (sym (flat_map-append bytes_of_chunk cs ds)) (bytes_joined (body_bytes cs) (body_bytes ds) a b)

-- ---- what is new
frames_bytes : (frames : List (List ℕ)) → AllByRecursion AreBytes frames → AreBytes (flat_map dstf frames)
frames_bytes [] all = tt
frames_bytes (w ∷ ws) all = bytes_joined (dstf w) (flat_map dstf ws)
    (written_bytes "DSTF" w 0 (omega arith, (omega arith, (omega arith, (omega arith, tt)))) all.0 (omega arith)) (frames_bytes ws all.1)

pub index_bytes : (es : List Entry) → AreBytes (flat_map entry_bytes es)
index_bytes [] = tt
index_bytes (e ∷ es) = bytes_joined (entry_bytes e) (flat_map entry_bytes es)
    (bytes_joined (big_bytes 8 e.offset) (big_bytes 4 e.size) (numbers_are_bytes 8 e.offset) (numbers_are_bytes 4 e.size)) (index_bytes es)

pub four : (a b c d : ℕ) → a < 256 → b < 256 → c < 256 → d < 256 → AreBytes (a ∷ b ∷ c ∷ d ∷ [])
four a b c d p q r s = (p, (q, (r, (s, tt))))

pub frte_bytes : (n : ℕ) → AreBytes (frte n)
frte_bytes n =
    written_bytes "FRTE" (big_bytes 4 n ++ big_bytes 2 75) 0 (four 70 82 84 69 (omega arith) (omega arith) (omega arith) (omega arith))
    (bytes_joined (big_bytes 4 n) (big_bytes 2 75) (numbers_are_bytes 4 n) (numbers_are_bytes 2 75)) (omega arith)

pub origin_bytes : (sound pad : ℕ) (cmpr kept : List ℕ) → pad < 256 → AreBytes cmpr → AreBytes kept → AreBytes (origin_body sound pad cmpr kept)
origin_bytes sound pad cmpr kept l c k =
    let a = 2 ∷ big_bytes 8 sound in
    let b = pad ∷ big_bytes 4 (length kept) in
    bytes_joined (a ++ b ++ cmpr) kept
    (bytes_joined (a ++ b) cmpr (bytes_joined a b (omega arith, numbers_are_bytes 8 sound) (l, numbers_are_bytes 4 (length kept))) c) k

-- ---- a form of chunks
pub form_is_bytes : (g : List ℕ) (cs : List Chunk) → g ≡ opening_bytes cs ++ body_bytes cs ++ [] → AreBytes (body_bytes cs) → AreBytes g
form_is_bytes g cs whole all =
    let n = 4 + length (body_bytes cs) in
    let opening = bytes_joined (codes "FRM8" ++ big_bytes 8 n) (codes "DSD ")
    (bytes_joined (codes "FRM8") (big_bytes 8 n) (four 70 82 77 56 (omega arith) (omega arith) (omega arith) (omega arith)) (numbers_are_bytes 8 n))
    (four 68 83 68 32 (omega arith) (omega arith) (omega arith) (omega arith)) in
    subst AreBytes (sym whole) (bytes_joined (opening_bytes cs ++ body_bytes cs) [] (bytes_joined (opening_bytes cs) (body_bytes cs) opening all) tt)

pub form_body_bytes : (file : List ℕ) (cs : List Chunk) (rest : List ℕ) → AreBytes file → file ≡ opening_bytes cs ++ body_bytes cs ++ rest →
    AreBytes (body_bytes cs)
form_body_bytes file cs rest bytes whole =
    (all_parts (opening_bytes cs) (body_bytes cs) (all_parts (opening_bytes cs ++ body_bytes cs) rest (subst AreBytes whole bytes)).0).1

-- ---- all of it
pub coded_is_bytes : (file : List ℕ) (p : PlainParts file) (form : Form) (frames : List (List ℕ)) (g : List ℕ) → form.pad < 256 → AreBytes form.behind →
    AllByRecursion AreBytes frames → g ≡ opening_bytes (coded_chunks p form frames) ++ body_bytes (coded_chunks p form frames) ++ [] → AreBytes g
coded_is_bytes file p form frames g pad behind stored whole =
    let body = form_body_bytes file (plain_pre p ++ p.parts.sound ∷ p.parts.last) (behind_form file) p.parts.bytes p.parts.formed.bytes in
    let outer = body_parts (plain_pre p) (p.parts.sound ∷ p.parts.last) body in
    let last = (all_parts (bytes_of_chunk p.parts.sound) (body_bytes p.parts.last) outer.1).1 in
    let inner = body_parts (p.parts.version ∷ p.parts.front) (p.parts.prop ∷ p.parts.middle) outer.0 in
    let prop_and = all_parts (bytes_of_chunk p.parts.prop) (body_bytes p.parts.middle) inner.1 in
    let prop_body = (parts_of_bytes p.parts.prop prop_and.0).1 in
    let ls = locals p.parts.prop.body in
    let local = (all_parts (codes "SND ") (body_bytes ls) (subst AreBytes p.parts.lawful.made.bytes prop_body)).1 in
    let a = around_cmpr ls p.parts.lawful.cmpr p.parts.lawful.has.one_cmpr in
    let around = body_parts a.before (p.parts.lawful.cmpr ∷ a.behind) (subst (λ ds. AreBytes (body_bytes ds)) a.parts local) in
    let cmpr = all_parts (bytes_of_chunk p.parts.lawful.cmpr) (body_bytes a.behind) around.1 in
    let new_cmpr : AreBytes (bytes_of_chunk coded_cmpr) = written_bytes "CMPR" coded_cmpr.body 0
    (four 67 77 80 82 (omega arith) (omega arith) (omega arith) (omega arith)) cmpr_text (omega arith) in
    let new_local = subst (λ ds. AreBytes (body_bytes ds)) (sym (replaced_is coded_cmpr ls p.parts.lawful.cmpr a))
    (body_joined a.before (coded_cmpr ∷ a.behind) around.0 (bytes_joined (bytes_of_chunk coded_cmpr) (body_bytes a.behind) new_cmpr cmpr.1)) in
    let new_prop : AreBytes (bytes_of_chunk (coded_prop p)) =
    written_bytes "PROP" (body_with coded_cmpr ls) 0 (four 80 82 79 80 (omega arith) (omega arith) (omega arith) (omega arith))
    (bytes_joined (codes "SND ") (body_bytes (replaced coded_cmpr ls)) (four 83 78 68 32 (omega arith) (omega arith) (omega arith) (omega arith)) new_local)
    (omega arith) in
    let pre = body_joined (p.parts.version ∷ p.parts.front) (coded_prop p ∷ p.parts.middle) inner.0
    (bytes_joined (bytes_of_chunk (coded_prop p)) (body_bytes p.parts.middle) new_prop prop_and.1) in
    let dst = written_bytes "DST " (dst_body frames) 0 (four 68 83 84 32 (omega arith) (omega arith) (omega arith) (omega arith))
    (bytes_joined (frte (length frames)) (flat_map dstf frames) (frte_bytes (length frames)) (frames_bytes frames stored)) (omega arith) in
    let dsti = written_bytes "DSTI" (flat_map entry_bytes (entries_of p frames)) 0
    (four 68 83 84 73 (omega arith) (omega arith) (omega arith) (omega arith)) (index_bytes (entries_of p frames)) (omega arith) in
    let origin = written_bytes "KEPT" (origin_of_parts p form).body 0 (four 75 69 80 84 (omega arith) (omega arith) (omega arith) (omega arith))
    (origin_bytes (length p.parts.sound.body) form.pad (bytes_of_chunk p.parts.lawful.cmpr) form.behind pad cmpr.0 behind) (omega arith) in
    let rest = bytes_joined (bytes_of_chunk (dst_chunk frames)) _ dst
    (bytes_joined (bytes_of_chunk (dsti_chunk (entries_of p frames))) _ dsti (bytes_joined (bytes_of_chunk (origin_of_parts p form)) _ origin last)) in
    let all = body_joined (coded_pre p) (dst_chunk frames ∷ dsti_chunk (entries_of p frames) ∷ origin_of_parts p form ∷ p.parts.last) pre rest in
    form_is_bytes g (coded_chunks p form frames) whole all
  where
    cmpr_text : AreBytes (codes "DST " ++ 11 ∷ codes "DST Encoded")
    cmpr_text = (
      omega arith,
      (
        omega arith,
        (
          omega arith,
          (
            omega arith,
            (
              omega arith,
              (
                omega arith,
                (
                  omega arith,
                  (
                    omega arith,
                    (
                      omega arith,
                      (
                        omega arith,
                        (
                          omega arith,
                          (
                            omega arith,
                            (omega arith, (omega arith, (omega arith, (omega arith, tt)))),
                          ),
                        ),
                      ),
                    ),
                  ),
                ),
              ),
            ),
          ),
        ),
      ),
    )
