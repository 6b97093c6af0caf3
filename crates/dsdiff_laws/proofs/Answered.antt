-- A coded form that keeps all rules, is walked, and has one index, which is its walk, is accepted by each command that reads coded forms.
use Rattle.std.proofs.Common.{◌≡◌, ℕ, ◌<◌, nat_lt, Bool, true, false, List, [], ◌∷◌, length, Option, Some, None, Ok, refl, ap, ◌∙◌, arith}
use Rattle.std.proofs.lemmas.Bool.{lt-ltb}
use Rattle.dsdiff_spec.specs.Faults.{◌otherwise◌}
use Rattle.dsdiff_spec.specs.Chunks.{Head}
use Rattle.dsdiff_spec.specs.Form.{Kind, plain, coded, is_plain, Form}
use Rattle.dsdiff_spec.specs.Parts.{kind}
use Rattle.dsdiff_spec.specs.Rules.{form_fault, accepted}
use Rattle.dsdiff_spec.specs.Walk.{frame_heads, walk_fault, compare_fault, index_heads, check_index_fault}
use Rattle.dsdiff_spec.specs.Words.{Command, decode, frame, check, index}
use Rattle.dsdiff_spec.specs.Refusal.{not_walked, walked_if_coded, not_compared, command_fault, refusal}
use Rattle.dsdiff_spec.specs.declared.faults.FileFault.{FileFault}
use Rattle.dsdiff_spec.proofs.CodedFiles.{form_by, refused_by}
use Rattle.dsdiff_spec.proofs.ByIndex.{found_by_index}

abbrev if_coded : Kind → Option FileFault → Option FileFault
if_coded k a = elim k [ plain ↦ None | coded ↦ a ]

by_kind : (k : Kind) → k ≡ coded → (a : Option FileFault) → a ≡ None → if_coded k a ≡ None
by_kind plain e a n = absurd cc
by_kind coded e a n = n

walked_by : (file : List ℕ) (form : Form) → form.kind ≡ coded → walk_fault file form ≡ None → walked_if_coded file form ≡ None
walked_by file form e n = by_kind form.kind e (walk_fault file form) n

compared_by : (file : List ℕ) (form : Form) → form.kind ≡ coded → check_index_fault file form ≡ None → not_compared file form ≡ None
compared_by file form e n = by_kind form.kind e (check_index_fault file form) n

abbrev of_heads : List Head → Option FileFault → Option FileFault
of_heads hs a = elim hs [ [] ↦ None | i ∷ more ↦ a ]

indexed_by : (file : List ℕ) (form : Form) (h : Head) → index_heads form ≡ h ∷ [] → compare_fault file form ≡ None → check_index_fault file form ≡ None
indexed_by file form h e n = by_heads (index_heads form) e
  where
    by_heads : (hs : List Head) → hs ≡ h ∷ [] → of_heads hs (compare_fault file form) ≡ None
    by_heads [] q = absurd cc
    by_heads (i ∷ hs) q = n

both_none : (a b : Option FileFault) → a ≡ None → b ≡ None → (a otherwise b) ≡ None
both_none None b p q = q
both_none (Some f) b p q = absurd cc

pub record IsAnswered (g : List ℕ) : Type 0 where
  pub rules : form_fault g ≡ None
  pub is_coded : kind g ≡ coded
  pub walked : walk_fault g (accepted g) ≡ None
  pub found : length (frame_heads g (accepted g)) ≡ (accepted g).frames
  pub head : Head
  pub one : index_heads (accepted g) ≡ head ∷ []
  pub compared : compare_fault g (accepted g) ≡ None

module _ (g : List ℕ) (a : IsAnswered g)
  where
    not_plain : is_plain (accepted g).kind ≡ false
    not_plain = ap is_plain a.is_coded

    not_refused : (c : Command) → command_fault c g (accepted g) ≡ None → form_by (form_fault g) g ≡ Ok (accepted g) →
        refused_by (form_by (form_fault g) g) c g ≡ None
    not_refused c none o = ap (λ r. refused_by r c g) o ∙ none

    opened : form_by (form_fault g) g ≡ Ok (accepted g)
    opened = ap (λ o. form_by o g) a.rules

    walks : not_walked g (accepted g) ≡ None
    walks = let none = a.walked in rw (not_plain, none) refl

    pub decodes : refusal decode g ≡ None
    unfolding refusal
    decodes = not_refused decode walks opened

    pub lists : refusal index g ≡ None
    unfolding refusal
    lists = not_refused index walks opened

    pub writes : (k : ℕ) → k < (accepted g).frames → (b : Bool) → refusal (frame k b) g ≡ None
    unfolding refusal
    writes k l false =
        let there : nat_lt k (accepted g).frames ≡ true = lt-ltb k (accepted g).frames l in
        not_refused (frame k false) (let none = walks in rw (none, there) refl) opened
    writes k l true =
        let there : nat_lt k (accepted g).frames ≡ true = lt-ltb k (accepted g).frames l in
        let one : length (index_heads (accepted g)) ≡ 1 = ap length a.one in
        let found = found_by_index g (accepted g) k a.walked a.compared (omega (arith, one)) a.found l in
        not_refused (frame k true) (rw (not_plain, there) found) opened

    pub checks : refusal check g ≡ None
    unfolding refusal
    checks =
        let indexed = indexed_by g (accepted g) a.head a.one a.compared in
        not_refused check
        (both_none (walked_if_coded g (accepted g)) (not_compared g (accepted g)) (walked_by g (accepted g) a.is_coded a.walked)
        (compared_by g (accepted g) a.is_coded indexed))
        opened
