-- The chunks of a plain form that stands for a DSF file, as a proof on coded files has them: nothing in front of `PROP`, nothing between it
-- and the sound, and `DSFK` behind it.
use Rattle.std.proofs.Common.{◌≡◌, ℕ, true, false, List, [], ◌∷◌, ◌++◌, map, refl, sym, ap, ◌∙◌}
use Rattle.std.specs.Prelude.{codes}
use Rattle.std.specs.List.{AllZip}
use Rattle.dsdiff_spec.specs.Chunks.{Chunk, Head}
use Rattle.dsdiff_laws.proofs.Standing.{Holds}
use Rattle.dsdiff_laws.proofs.FormParts.{prop_id, sound_id}
use Rattle.dsdiff_laws.proofs.Places.{Lacks}

-- chunks by their ids and bodies are those of their heads in a file
pub record Key : Type 0 where
  pub id : List ℕ
  pub body : List ℕ

abbrev pub key : Chunk → Key
key c = record { id = c.id; body = c.body }

same_key : (file : List ℕ) (end : ℕ) (h : Head) (c d : Chunk) → Holds file end h c → Holds file end h d → key c ≡ key d
same_key file end h c d p q = two c.id d.id c.body d.body (sym p.id ∙ q.id) (sym p.body ∙ q.body)
  where
    two : (a b x y : List ℕ) → a ≡ b → x ≡ y → ◌≡◌ {A = Key} (record { id = a; body = x }) (record { id = b; body = y })
    two a b x y e f = rw (e, f) refl

pub same_keys : (file : List ℕ) (end : ℕ) (hs : List Head) (cs ds : List Chunk) → AllZip (Holds file end) hs cs → AllZip (Holds file end) hs ds →
    map key cs ≡ map key ds
same_keys file end [] [] [] p q = refl
same_keys file end [] [] (d ∷ ds) p q = absurd q
same_keys file end [] (c ∷ cs) ds p q = absurd p
same_keys file end (h ∷ hs) [] ds p q = absurd p
same_keys file end (h ∷ hs) (c ∷ cs) [] p q = absurd q
same_keys file end (h ∷ hs) (c ∷ cs) (d ∷ ds) p q =
    let first = same_key file end h c d p.0 q.0 in
    let later = same_keys file end hs cs ds p.1 q.1 in
    cc

pub record AreFour (front middle last : List Chunk) (said : List ℕ) : Type 0 where
  pub front_none : front ≡ []
  pub middle_none : middle ≡ []
  pub dsfk : Chunk
  pub last_one : last ≡ dsfk ∷ []
  pub id : dsfk.id ≡ codes "DSFK"
  pub body : dsfk.body ≡ said

never_true : false ≡ true → ⊥
never_true e = cc

rest_of : (x y : Key) (xs ys : List Key) → x ∷ xs ≡ y ∷ ys → xs ≡ ys
rest_of x y xs ys e = cc

first_of : (x y : Key) (xs ys : List Key) → x ∷ xs ≡ y ∷ ys → x ≡ y
first_of x y xs ys e = cc

empty_key : (x : Key) (xs : List Key) → x ∷ xs ≡ [] → ⊥
empty_key x xs e = cc

no_more : (x : Key) (xs : List Key) → [] ≡ x ∷ xs → ⊥
no_more x xs e = cc

pub four : (version prop sound : Chunk) (front middle last : List Chunk) (first : Key) (body s said : List ℕ) → Lacks prop_id (version ∷ front) →
    Lacks sound_id middle →
    map key ((version ∷ front ++ prop ∷ middle) ++ sound ∷ last)
    ≡ first ∷ record { id = codes "PROP"; body = body } ∷ record { id = codes "DSD "; body = s } ∷ record { id = codes "DSFK"; body = said } ∷ [] →
    AreFour front middle last said
four version prop sound (x ∷ front) middle last first body s said apart none e =
    let here = first_of _ _ _ _ (rest_of _ _ _ _ e) in
    absurd (never_true (sym apart.1.0 ∙ ap (λ (k : Key). prop_id k.id) here))
four version prop sound [] (y ∷ middle) last first body s said apart none e =
    let here = first_of _ _ _ _ (rest_of _ _ _ _ (rest_of _ _ _ _ e)) in
    absurd (never_true (sym none.0 ∙ ap (λ (k : Key). sound_id k.id) here))
four version prop sound [] [] [] first body s said apart none e =
    absurd (no_more _ _ (rest_of _ _ _ _ (rest_of _ _ _ _ (rest_of _ _ _ _ e))))
four version prop sound [] [] (k ∷ []) first body s said apart none e =
    let here = first_of _ _ _ _ (rest_of _ _ _ _ (rest_of _ _ _ _ (rest_of _ _ _ _ e))) in
    record { front_none = refl; middle_none = refl; dsfk = k; last_one = refl; id = ap (λ (x : Key). x.id) here; body = ap (λ (x : Key). x.body) here }
four version prop sound [] [] (k ∷ l ∷ last) first body s said apart none e =
    absurd (empty_key _ _ (rest_of _ _ _ _ (rest_of _ _ _ _ (rest_of _ _ _ _ (rest_of _ _ _ _ e)))))
