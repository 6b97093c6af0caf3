-- One pair more takes the place of the first zeros.
use Rattle.std.proofs.Common.{◌≡◌, ◌<◌, ℕ, suc, ◌+◌, ◌-◌, List, [], ◌∷◌, ◌++◌, length, take, replicate, set, ap, sym, ◌∙◌, arith, append_assoc}
use Rattle.std.proofs.Common.{length-append, refl}
use Rattle.std.proofs.lemmas.List.{set_at, take_more_set}
use Rattle.dst_words.specs.Pairs.{IsFilledUp, filled_up}
use Rattle.dst_words.proofs.pairs.Pairs.push.Goals as goal

abbrev Pair : Type 0
Pair = ℕ × ℕ

abbrev zeros : ℕ → List Pair
zeros n = replicate n (0, 0)

fewer_zeros : (n m : ℕ) → n < 16 → m ≡ n + 1 → zeros (16 - n) ≡ (0, 0) ∷ zeros (16 - m)
fewer_zeros n m h e = let s : 16 - n ≡ suc (16 - m) = omega arith in ap zeros s

split : (xs : List Pair) (n : ℕ) → n < 16 → length xs ≡ n → filled_up xs ≡ xs ++ (0, 0) ∷ zeros (16 - (n + 1))
split xs n h e = ap (λ k. xs ++ zeros (16 - k)) e ∙ ap (λ zs. xs ++ zs) (fewer_zeros n (n + 1) h refl)

one_more : (ps : List Pair) (n : ℕ) (v : Pair) → n < 16 → length (take n ps) ≡ n → filled_up (take n ps) ≡ ps →
    IsFilledUp (record { count = n + 1; pairs = set ps n v })
one_more ps n v h counted filled = record { most = omega arith; count = count; filled = ap filled_up taken ∙ whole ∙ sym is_set }
  where
    xs : List Pair
    xs = take n ps

    is_set : set ps n v ≡ xs ++ v ∷ zeros (16 - (n + 1))
    is_set =
        ap (λ l. set l n v) (sym filled ∙ split xs n h counted) ∙ set_at xs (0, 0) (zeros (16 - (n + 1))) v n counted

    long : n < length ps
    long = omega (arith, ap length filled, ap length (split xs n h counted), length-append xs ((0, 0) ∷ zeros (16 - (n + 1))), counted)

    taken : take (n + 1) (set ps n v) ≡ xs ++ v ∷ []
    taken = take_more_set ps n v long

    count : length (take (n + 1) (set ps n v)) ≡ n + 1
    count = ap length taken ∙ length-append xs (v ∷ []) ∙ ap (λ k. k + 1) counted

    whole : filled_up (xs ++ v ∷ []) ≡ xs ++ v ∷ zeros (16 - (n + 1))
    whole =
        append_assoc xs (v ∷ []) (zeros (16 - length (xs ++ v ∷ [])))
        ∙ ap (λ k. xs ++ v ∷ zeros (16 - k)) (length-append xs (v ∷ []) ∙ ap (λ k. k + 1) counted)

pub invariant_of-self : goal.invariant_of-self
invariant_of-self c =
    let i = c.self.invariant in
    one_more c.self.inside.pairs c.self.inside.count (c.args.from, c.args.count) (omega (arith, c.requires, i.count, ap length c.self.view_is)) i.count i.filled
