-- Files built of chunks, for examples of rules.
use Rattle.std.proofs.Common.{ℕ, ◌+◌, ◌*◌, ◌++◌, List, [], ◌∷◌, length, replicate}
use Rattle.std.specs.Prelude.{codes}
use Rattle.std.specs.List.{concat}
use Rattle.byteorder.specs.Endian.{big_bytes}
use Prim.Native.String.{String}

-- a chunk without a pad byte, and a form of some chunks
abbrev pub piece : String → List ℕ → List ℕ
piece name body = codes name ++ big_bytes 8 (length body) ++ body

abbrev pub file_of : List (List ℕ) → List ℕ
file_of pieces = codes "FRM8" ++ big_bytes 8 (4 + length (concat pieces)) ++ codes "DSD " ++ concat pieces

abbrev pub version : List ℕ
version = piece "FVER" (1 ∷ 5 ∷ 0 ∷ 0 ∷ [])

-- `PROP` of some chunks, and these chunks
abbrev pub prop_of : List (List ℕ) → List ℕ
prop_of pieces = piece "PROP" (codes "SND " ++ concat pieces)

abbrev pub rate : ℕ → List ℕ
rate n = piece "FS  " (big_bytes 4 n)

abbrev pub channels : ℕ → List ℕ
channels n = piece "CHNL" (big_bytes 2 n ++ replicate (4 * n) 67)

abbrev pub cmpr : String → List ℕ
cmpr type = piece "CMPR" (codes type)

abbrev pub not_compressed : List ℕ
not_compressed = piece "CMPR" (codes "DSD " ++ 14 ∷ codes "not compressed")

abbrev pub prop : ℕ → ℕ → String → List ℕ
prop count n type = prop_of (rate n ∷ channels count ∷ cmpr type ∷ [])

-- sound chunks: of some bytes, and of some frames with chunks behind `FRTE`
abbrev pub dsd : ℕ → List ℕ
dsd n = piece "DSD " (replicate n 105)

abbrev pub dst : ℕ → List (List ℕ) → List ℕ
dst frames pieces = piece "DST " (piece "FRTE" (big_bytes 4 frames ++ 0 ∷ 75 ∷ []) ++ concat pieces)

-- forms of one channel at the lowest rate: of plain sound of n bytes, and of coded sound without frames
abbrev pub mono_plain : ℕ → List ℕ
mono_plain n = file_of (version ∷ prop 1 2822400 "DSD " ∷ dsd n ∷ [])

abbrev pub mono_coded : List (List ℕ) → List ℕ
mono_coded more = file_of (version ∷ prop 1 2822400 "DST " ∷ dst 0 [] ∷ more)
